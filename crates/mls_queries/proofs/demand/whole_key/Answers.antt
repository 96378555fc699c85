use Rattle.std.proofs.Common.{◌≡◌, ◌+◌, ◌<◌, ◌++◌, [], ◌∷◌, Some, length, sym, ap, ◌∙◌, subst, arith, length-append}
use Rattle.std.specs.List.{AllByRecursion}
use Rattle.mls_scheme.specs.Spelling.{HasSpelling}
use Rattle.mls_scheme.proofs.KindLemmas.{kind-spelled}
use Rattle.mls_queries.specs.Equated.{demanded}
use Rattle.mls_lattice.proofs.EachLemmas.{all_append}
use Rattle.mls_queries.proofs.DemandLemmas.{Demands, demands_more}
use Rattle.mls_queries.proofs.demand.whole_key.Goals as goal

pub loop-place-preserved : goal.loop-place-preserved
loop-place-preserved c =
    let inv = c.loop-place.invariant in
    let test = c.args.test.now in
    let count = length c.args.scheme.now.keys in
    let place = c.loop-place.place in
    let key = c.loop-place.key.items in
    let value = c.in_ok-copy.field-0 in
    let pushed : c.push.new.self.items ≡ key ++ value ∷ [] = c.in_ok-push.ensures.items in
    let spelled = subst HasSpelling (sym c.in_ok-copy.ensures) (kind-spelled c.in-Some.value.now c.get.result.now.kind
    (sym c.if-not-is_kind.ensures)) in
    let said : Some value ≡ demanded place test = ap Some c.in_ok-copy.ensures ∙ c.in-Some.ensures in
    let lt : place < count = (let a = c.loop-place-test.true in let b = c.len-place-end.ensures
    in let d = ap length c.keys-attributes.ensures.keys in omega (arith, a, b, d)) in
    record {
      spelled = subst (AllByRecursion HasSpelling) (sym pushed) (all_append HasSpelling key (value ∷ []) inv.spelled
          (spelled, tt));
      long = (let a = ap length pushed in let b = length-append key (value ∷ []) in let d = inv.long
          in omega (arith, a, b, d));
      demands = subst (Demands test count (place + 1)) (sym pushed)
          (demands_more test count place value key lt said inv.demands);
    }
