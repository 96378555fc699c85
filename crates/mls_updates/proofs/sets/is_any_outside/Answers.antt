use Rattle.std.proofs.Common.{◌<◌, ◌+◌, Bool, not, ◌||◌, length, drop, Option, ℕ, sym, ap, ◌∙◌, subst}
use Rattle.std.specs.List.{list_any, AllByRecursion}
use Rattle.std.proofs.lemmas.List.{drop_more, drop_all}
use Rattle.mls_lattice.specs.Policy.{labels_of}
use Rattle.mls_scheme.specs.Scheme.{other_of}
use Rattle.mls_scheme.specs.Fits.{in_interval}
use Rattle.mls_scheme.specs.declared.value.Value.{Value}
use Rattle.mls_updates.proofs.sets.is_any_outside.Goals as goal

pub is_outside-requires-clause-attr : goal.is_outside-requires-clause-attr
is_outside-requires-clause-attr c =
    let more = drop_more c.args.sets.now c.loop-set.set-index c.set-item.result c.loop-set-test.true in
    subst (λ s. s.0 < length c.args.scheme.now.others) (sym c.set-item.is)
    (subst (AllByRecursion (λ s. s.0 < length c.args.scheme.now.others)) more c.loop-set.invariant.1).0

pub returns-then-is_outside : goal.returns-then-is_outside
returns-then-is_outside c =
    let i = c.loop-set.set-index in
    let sets = c.args.sets.now in
    let out : ℕ × Option Value → Bool = λ s. not (in_interval (labels_of c.args.policy.now) c.args.class
    (other_of c.args.scheme.now s.0)) in
    sym (sym c.loop-set.invariant.0 ∙ ap (list_any out) (drop_more sets i c.set-item.result c.loop-set-test.true)
    ∙ ap (λ b. b || list_any out (drop (i + 1) sets)) (ap out (sym c.set-item.is) ∙ sym c.if-is_outside.ensures))

pub loop-set-preserved : goal.loop-set-preserved
loop-set-preserved c =
    let i = c.loop-set.set-index in
    let sets = c.args.sets.now in
    let out : ℕ × Option Value → Bool = λ s. not (in_interval (labels_of c.args.policy.now) c.args.class
    (other_of c.args.scheme.now s.0)) in
    let more = drop_more sets i c.set-item.result c.loop-set-test.true in (
      sym (ap (list_any out) more ∙ ap (λ b. b || list_any out (drop (i + 1) sets)) (ap out (sym c.set-item.is)
          ∙ sym c.if-is_outside.ensures)) ∙ c.loop-set.invariant.0,
      (subst (AllByRecursion (λ s. s.0 < length c.args.scheme.now.others)) more c.loop-set.invariant.1).1,
    )

pub returns : goal.returns
returns c =
    let out : ℕ × Option Value → Bool = λ s. not (in_interval (labels_of c.args.policy.now) c.args.class
    (other_of c.args.scheme.now s.0)) in
    sym (ap (list_any out) (drop_all c.loop-set.set-index c.args.sets.now c.loop-set-test.false))
    ∙ c.loop-set.invariant.0
