use Rattle.std.proofs.Common.{◌≡◌, rules, ◌++◌, ◌∷◌, [], sym, subst}
use Rattle.std.proofs.SliceLists.{all_by_recursion_push}
use Rattle.std.specs.List.{AllByRecursion}
use Rattle.mls_translang.specs.Fits.{IsReadUnder}
use Rattle.mls_certcheck.specs.Stored.{tx_of, IsCertifiedUnder}
use Rattle.cases.proofs.faults.stored.all_certified.Goals as goal

pub loop-tx-preserved : goal.loop-tx-preserved
loop-tx-preserved c =
    let policy = c.args.sample.now.policy.now in
    let schemes = c.args.sample.now.schemes.now in
    let inv = c.loop-tx.invariant in
    let one = c.in_ok-one.one in
    let more : c.push.new.self.items ≡ c.loop-tx.stored.items ++ one ∷ [] = search rules in
    let next = c.in-Some.ensures.steps.0 in
    record {
      read = subst (AllByRecursion (λ s. IsReadUnder policy schemes (tx_of s))) (sym more)
          (all_by_recursion_push (λ s. IsReadUnder policy schemes
          (tx_of s)) c.loop-tx.stored.items one inv.read c.in_ok-one.ensures.read);
      certified = subst (AllByRecursion (IsCertifiedUnder policy)) (sym more)
          (all_by_recursion_push (IsCertifiedUnder policy) c.loop-tx.stored.items one inv.certified c.in_ok-one.ensures.certified);
      rest = (subst (AllByRecursion (IsReadUnder policy schemes)) next inv.rest).1;
    }

pub certified-requires : goal.certified-requires
certified-requires c =
    let policy = c.args.sample.now.policy.now in
    let schemes = c.args.sample.now.schemes.now in
    (subst (AllByRecursion (IsReadUnder policy schemes)) c.in-Some.ensures.steps.0 c.loop-tx.invariant.rest).0
