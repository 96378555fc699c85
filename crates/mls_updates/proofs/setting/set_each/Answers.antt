use Rattle.std.proofs.Common.{◌≡◌, ℕ, zero, suc, ◌<◌, ◌+◌, ◌-◌, [], ◌∷◌, length, drop, get_or, Option, refl, sym, ap, ◌∙◌, subst, arith, IfSome}
use Rattle.std.specs.List.{AllByRecursion}
use Rattle.mls_scheme.specs.declared.value.Value.{Value}
use Rattle.mls_scheme.specs.Spelling.{HasSpelling}
use Rattle.mls_scheme.specs.Table.{Table, change}
use Rattle.mls_filterview.specs.Content.{with_relation}
use Rattle.mls_filterview.specs.Fragment.{HasCell, set_in}
use Rattle.mls_updates.specs.Steps.{set_each}
use Rattle.mls_updates.specs.Writes.{Sets}
use Rattle.mls_updates.proofs.SetEachLemmas.{cell_now, set_next}
use Rattle.mls_updates.proofs.StateLemmas.{table_of, same_state, put_twice, drop_end}
use Rattle.mls_filterview.proofs.AccessLemmas.{avoids_then, avoids_same}
use Rattle.mls_updates.proofs.setting.set_each.Goals as goal

holds_at : (P : ℕ × Option Value → Type 0) (sets : Sets) (i : ℕ) (d : ℕ × Option Value) → i < length sets
    → AllByRecursion P sets → P (get_or sets i d)
holds_at P [] i d l h = absurd (omega arith)
holds_at P (s ∷ ss) zero d l h = h.0
holds_at P (s ∷ ss) (suc i) d l h = holds_at P ss i d (omega arith) h.1

pub loop-left-init : goal.loop-left-init
loop-left-init g c =
    let s = (g.B.Base.seen c.args.base.now).state in
    let sets = c.args.sets.now in
    record {
      clean = λ clean. clean;
      about = λ clean. refl;
      access = avoids_same refl;
      count = omega arith;
      begun = c.requires.begun;
      way = λ clean. sym (ap (λ ss. with_relation s c.args.relation (set_each c.args.place.now ss
          (s.now.db c.args.relation))) (drop_end sets (length sets) (omega arith)) ∙ same_state s c.args.relation);
    }

pub loop-left-preserved : goal.loop-left-preserved
loop-left-preserved g c =
    let call = c.in_ok-set_one.ensures.step.call in
    let p = c.args.place.now in
    let sets = c.args.sets.now in
    let relation = c.args.relation in
    let s = (g.B.Base.seen c.args.base.now).state in
    let T = s.now.db relation in
    let i = c.loop-left.left - 1 in
    let some = c.loop-left-test.true in
    let most = c.loop-left.auto.left in
    let n : c.loop-left.left ≡ i + 1 = omega (arith, some) in
    let within : i < length sets = omega (arith, some, most) in
    let x = c.index-sets-left.result in
    let f : Table → Table = change (set_in p x.0 x.1) in
    let X = set_each p (drop c.loop-left.left sets) T in
    let next : f X ≡ set_each p (drop i sets) T =
    (λ j. change (set_in p (c.index-sets-left.is j).0 (c.index-sets-left.is j).1) (set_each p (drop (n j) sets) T))
    ∙ sym (set_next p sets i x within T) in
    record {
      clean = λ clean. c.loop-left.invariant.clean (call.clean clean);
      about = λ clean. call.about clean ∙ c.loop-left.invariant.about (call.clean clean);
      access = avoids_then c.loop-left.invariant.access c.in_ok-set_one.ensures.access;
      count = (let before = c.loop-left.invariant.count in let after = call.count in omega (arith, before, after));
      begun = c.in_ok-set_one.ensures.step.mode;
      way = λ clean. (let way = c.loop-left.invariant.way (call.clean clean) in
          c.in_ok-set_one.ensures.done clean ∙ (λ j. with_relation (way j) relation (f ((way j).now.db relation)))
          ∙ ap (λ S. with_relation (with_relation s relation X) relation (f S)) (table_of s relation X)
          ∙ put_twice s relation X (f X) ∙ ap (with_relation s relation) next);
    }

pub set_one-requires-clause-can : goal.set_one-requires-clause-can
set_one-requires-clause-can g c =
    let p = c.args.place.now in
    let sets = c.args.sets.now in
    let s = (g.B.Base.seen c.args.base.now).state in
    let t = (g.B.Base.seen c.loop-left.base).state in
    let T = s.now.db c.args.relation in
    let i = c.loop-left.left - 1 in
    let some = c.loop-left-test.true in
    let most = c.loop-left.auto.left in
    let n : c.loop-left.left ≡ i + 1 = omega (arith, some) in
    let within : i < length sets = omega (arith, some, most) in
    let fits = holds_at _ sets i c.index-sets-left.result within c.requires.sets in
    record {
      key = c.requires.key;
      attr = subst (λ x. x.0 < 15) (sym c.index-sets-left.is) fits.0;
      value = subst (λ x. IfSome x.1 HasSpelling) (sym c.index-sets-left.is) fits.1;
      there = λ clean.
          let now = ap (λ x. x.now.db c.args.relation) (c.loop-left.invariant.way clean) ∙ table_of s c.args.relation
          (set_each p (drop c.loop-left.left sets) T) ∙ ap (λ k. set_each p (drop k sets) T) n in
          subst (λ x. HasCell (t.now.db c.args.relation) p x.0) (sym c.index-sets-left.is)
          (cell_now p sets i c.index-sets-left.result within T (t.now.db c.args.relation) now
          (c.requires.there (c.loop-left.invariant.clean clean)));
    }

pub returns-in_err-set_one-clause-access : goal.returns-in_err-set_one-clause-access
returns-in_err-set_one-clause-access g c = avoids_then c.loop-left.invariant.access c.in_err-set_one.ensures.access
