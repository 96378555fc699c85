use Rattle.std.proofs.Common.{take, get_or, ◌∷◌, [], sym, subst, arith, take_all}
use Rattle.std.specs.List.{AllByRecursion}
use Rattle.std.proofs.lemmas.List.{take_more}
use Rattle.mls_lattice.specs.Lattice.{Dominates, pair_of}
use Rattle.mls_certcheck.specs.Rules.{Claim, slot_label, IsAbove}
use Rattle.mls_certcheck.specs.declared.flow.Slot.{Slot}
use Rattle.mls_certcheck.specs.declared.flow.Slot.TheVariants.{Variable}
use Rattle.mls_lattice.proofs.EachLemmas.{all_at, all_append}
use Rattle.mls_labeller.specs.Rising.{rows_of, claim_at, Rises}
use Rattle.mls_labeller.proofs.RiseLemmas.{rises_then, join_due, rises_pour}
use Rattle.mls_labeller.proofs.least.Rising.pour.Goals as goal

pub raise-rose-requires-clause-due : goal.raise-rose-requires-clause-due
raise-rose-requires-clause-due c =
    let k = c.args.self.now in
    let ss = c.args.sources.now in
    join_due k ss (pair_of c.joined-low.result) (rows_of c.args.labels.now) c.joined-low.ensures _ c.requires.stands
    (λ other m. all_at (λ t. IsAbove (claim_at k other)
    (slot_label (claim_at k other) t) ss) c.args.targets.now c.loop-slot.slot-index
    (Variable 0 0) c.loop-slot-test.true (c.requires.due other m))

pub loop-slot-preserved : goal.loop-slot-preserved
loop-slot-preserved c =
    let ts = c.args.targets.now in
    let i = c.loop-slot.slot-index in
    let t = get_or ts i (Variable 0 0) in
    let over : Claim → Slot → Type 0 = λ a s. Dominates (slot_label a s) (pair_of c.joined-low.result) in
    let more = take_more ts i (Variable 0 0) c.loop-slot-test.true in
    rises_then c.args.self.now (λ a. AllByRecursion (over a) (take i ts)) (λ a. over a t) _
    (λ a f g. subst (AllByRecursion (over a)) (sym more) (all_append (over a) (take i ts) (t ∷ []) f (
      g,
      tt,
    ))) _ _ _ _ _ c.loop-slot.invariant c.raise-rose.ensures

pub returns : goal.returns
returns c =
    let k = c.args.self.now in
    let low = pair_of c.joined-low.result in
    let x = rows_of c.args.labels.now in
    let y = rows_of c.loop-slot.labels in
    let all = take_all c.loop-slot.slot-index c.args.targets.now (omega (arith, c.loop-slot-test.false)) in
    rises_pour k c.args.sources.now low x c.joined-low.ensures c.args.targets.now y c.loop-slot.rose
    (subst (λ ts. Rises k (λ a. AllByRecursion
    (λ t. Dominates (slot_label a t) low) ts) x y c.loop-slot.rose) all c.loop-slot.invariant)
