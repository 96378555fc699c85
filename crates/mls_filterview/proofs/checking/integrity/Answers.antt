use Rattle.std.proofs.Common.{◌≡◌, ◌<◌, ◌≤◌, ◌+◌, ℕ, List, None, sym, ap, ◌∙◌, subst, length, arith, inl, inr, refl, ◌⊎◌}
use Rattle.std.specs.List.{AllByRecursion}
use Rattle.std.proofs.lemmas.List.{length-map}
use Rattle.std.proofs.lemmas.Bool.{cases_lt}
use Rattle.std.proofs.lemmas.Option.{none-some}
use Rattle.mls_lattice.specs.Policy.{Policy, labels_of}
use Rattle.mls_scheme.specs.declared.tuple.Tuple.{Tuple}
use Rattle.mls_scheme.specs.Tuple.{HasClassesBelow}
use Rattle.mls_filterview.specs.Checking.{broken_rule}
use Rattle.mls_filterview.specs.Rules.{IsFirstBroken}
use Rattle.mls_filterview.proofs.CheckingLemmas.{all_unbroken, first_broken, not_stored}
use Rattle.mls_filterview.proofs.checking.integrity.Goals as goal

bounded : (policy : Policy) (ts : List Tuple) → AllByRecursion (HasClassesBelow (length policy.labels)) ts
    → AllByRecursion (HasClassesBelow (length (labels_of policy))) ts
bounded policy ts h = subst (λ k. AllByRecursion (HasClassesBelow k) ts)
    (sym (length-map policy.labels (λ l. l.value))) h

broken : (c : goal.In-Some) → IsFirstBroken
    (labels_of c.args.policy.now) c.args.scheme.now c.args.tuples.now c.loop-row.row c.in-Some.rule
broken c =
    first_broken (labels_of c.args.policy.now) c.use_invariant.ensures.distinct c.args.scheme.now c.args.tuples.now
    (bounded c.args.policy.now c.args.tuples.now c.requires.classes)
    c.loop-row.row c.in-Some.rule c.loop-row-test.true c.loop-row.invariant (sym c.in-Some.ensures)

pub returns-in-Some-clause-none : goal.returns-in-Some-clause-none
returns-in-Some-clause-none c = (
  (λ h. absurd (none-some _ (sym h))),
  (λ h.
      absurd
      (not_stored (labels_of c.args.policy.now) c.use_invariant.ensures.distinct c.args.scheme.now c.args.tuples.now
      (bounded c.args.policy.now c.args.tuples.now c.requires.classes) c.loop-row.row c.in-Some.rule (broken c) h)),
)

pub returns-in-Some-clause-first : goal.returns-in-Some-clause-first
returns-in-Some-clause-first c = broken c

pub loop-row-preserved : goal.loop-row-preserved
loop-row-preserved c = λ j l. here j l (cases_lt j c.loop-row.row)
  where
    here : (j : ℕ) → j < c.loop-row.row + 1 → (j < c.loop-row.row) ⊎ (c.loop-row.row ≤ j)
        → broken_rule (labels_of c.args.policy.now) c.args.scheme.now c.args.tuples.now j ≡ None
    here j l (inl b) = c.loop-row.invariant j b
    here j l (inr b) = let e : j ≡ c.loop-row.row = omega arith
        in ap (broken_rule (labels_of c.args.policy.now) c.args.scheme.now c.args.tuples.now) e
        ∙ sym c.in_default.ensures

pub returns-clause-none : goal.returns-clause-none
returns-clause-none c = (
  (λ h. all_unbroken (labels_of c.args.policy.now) c.use_invariant.ensures.distinct c.args.scheme.now c.args.tuples.now
      (bounded c.args.policy.now c.args.tuples.now c.requires.classes) (λ j l. c.loop-row.invariant j (omega arith))),
  (λ h. refl),
)
