use Rattle.std.proofs.Common.{[], refl, sym, ap, ◌∙◌, subst, unwrap_or}
use Rattle.std.specs.List.{AllByRecursion}
use Rattle.std.specs.FinMap.{get}
use Rattle.mls_lattice.specs.Policy.{labels_of}
use Rattle.mls_scheme.specs.Scheme.{no_scheme}
use Rattle.mls_filterview.specs.Content.{with_relation}
use Rattle.mls_filterview.specs.Fragment.{HasCell}
use Rattle.mls_updates.specs.Outcome.{is_done}
use Rattle.mls_updates.specs.Steps.{set_each}
use Rattle.mls_updates.specs.Writes.{own_refusals}
use Rattle.mls_updates.proofs.KeptLemmas.{all_passed, found_if}
use Rattle.mls_updates.proofs.LeftLemmas.{left_same, left_done}
use Rattle.mls_updates.proofs.SetEachLemmas.{cells_there, all_set}
use Rattle.mls_lattice.proofs.LatticeLemmas.{below-refl}
use Rattle.mls_filterview.proofs.AccessLemmas.{avoids_then, at_reads_low, low_reads_no_down, at_changes_high}
use Rattle.mls_updates.proofs.changing.update_own.Goals as goal

pub returns-then-not-is_done-clause-done : goal.returns-then-not-is_done-clause-done
returns-then-not-is_done-clause-done g c = λ clean scheme.
    let s = (g.B.Base.seen c.args.base.now).state in
    left_same c.args.relation s (g.B.Base.seen c.pattern.new.self).state c.own_outcome-outcome.result _ _
    (c.own_outcome-outcome.ensures scheme (get (s.now.db c.args.relation) c.args.place.now)
    (c.in_ok-found.ensures.found clean)) (sym c.if-not-is_done.ensures) (c.in_ok-found.ensures.read.same clean)

pub set_each-requires : goal.set_each-requires
set_each-requires g c =
    let ls = labels_of c.args.policy.now in
    let p = c.args.place.now in
    let sets = c.args.sets.now in
    let s = (g.B.Base.seen c.args.base.now).state in
    let T = s.now.db c.args.relation in
    record {
      begun = c.in_ok-found.ensures.read.mode ∙ c.requires.at.begun;
      key = c.requires.at.key;
      sets = c.requires.sets;
      there = λ clean.
          let first = c.own_outcome-outcome.ensures no_scheme (get T p) (c.in_ok-found.ensures.found clean) in
          let passed = all_passed (own_refusals ls no_scheme p.class p.key_class sets (get T p)) refl
          (ap is_done (sym first) ∙ sym c.if-not-is_done.ensures) in
          let found = (found_if ls p.class p.key_class p.class (get T p) passed.0).0 in
          let start = c.in_ok-found.ensures.read.call.clean clean in
          subst (λ x. AllByRecursion (λ r. HasCell (x.now.db c.args.relation) p r.0) sets)
          (sym (c.in_ok-found.ensures.read.same clean))
          (cells_there p T (unwrap_or (get T p) []) found sets
          (c.requires.fits start (unwrap_or (get T p) []) found) passed.1.0);
    }

pub returns-clause-done : goal.returns-clause-done
returns-clause-done g c = λ clean scheme.
    let s = (g.B.Base.seen c.args.base.now).state in
    let p = c.args.place.now in
    let sets = c.args.sets.now in
    let before = c.in_ok-set_each.ensures.step.call.clean clean in
    let same = c.in_ok-found.ensures.read.same before in
    left_done c.args.relation s (g.B.Base.seen c.set_each.new.base).state c.own_outcome-outcome.result _ _
    (c.own_outcome-outcome.ensures scheme (get (s.now.db c.args.relation) p) (c.in_ok-found.ensures.found before))
    (sym c.if-not-is_done.ensures)
    (c.in_ok-set_each.ensures.done clean ∙ (λ i. with_relation (same i) c.args.relation
    (set_each p sets ((same i).now.db c.args.relation))) ∙ ap (with_relation s c.args.relation)
    (all_set p sets (s.now.db c.args.relation)))

pub returns-then-not-is_done-clause-access : goal.returns-then-not-is_done-clause-access
returns-then-not-is_done-clause-access g c =
    let ls = labels_of c.args.policy.now in
    let w = c.args.place.now.class in
    low_reads_no_down ls w w (at_reads_low ls w w (below-refl ls w) c.in_ok-found.ensures.access)

pub returns-clause-access : goal.returns-clause-access
returns-clause-access g c =
    let ls = labels_of c.args.policy.now in
    let w = c.args.place.now.class in
    avoids_then (low_reads_no_down ls w w (at_reads_low ls w w (below-refl ls w) c.in_ok-found.ensures.access))
    (at_changes_high ls w w w (below-refl ls w) c.in_ok-set_each.ensures.access)

pub returns-in_err-set_each-clause-access : goal.returns-in_err-set_each-clause-access
returns-in_err-set_each-clause-access g c =
    let ls = labels_of c.args.policy.now in
    let w = c.args.place.now.class in
    avoids_then (low_reads_no_down ls w w (at_reads_low ls w w (below-refl ls w) c.in_ok-found.ensures.access))
    (at_changes_high ls w w w (below-refl ls w) c.in_err-set_each.ensures.access)

pub returns-in_err-found-clause-access : goal.returns-in_err-found-clause-access
returns-in_err-found-clause-access g c =
    let ls = labels_of c.args.policy.now in
    let w = c.args.place.now.class in
    low_reads_no_down ls w w (at_reads_low ls w w (below-refl ls w) c.in_err-found.ensures.access)
