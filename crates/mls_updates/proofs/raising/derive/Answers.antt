use Rattle.std.proofs.Common.{◌<◌, [], length, refl, sym, ap, ◌∙◌, subst, is_some, unwrap_or}
use Rattle.std.specs.FinMap.{get, insert}
use Rattle.std.proofs.lemmas.List.{length-map}
use Rattle.mls_lattice.specs.Policy.{labels_of}
use Rattle.mls_filterview.specs.Content.{with_relation}
use Rattle.mls_filterview.specs.Stored.{with_class}
use Rattle.mls_filterview.specs.Fragment.{classes}
use Rattle.mls_updates.specs.Outcome.{is_done}
use Rattle.mls_updates.specs.Writes.{derived, below_refusals}
use Rattle.mls_updates.proofs.DerivedLemmas.{outline_made, made_alike}
use Rattle.mls_updates.proofs.SpellingLemmas.{outline_spelled}
use Rattle.mls_updates.proofs.KeptLemmas.{all_passed, none_if}
use Rattle.mls_updates.proofs.LeftLemmas.{left_same, left_done, below_found, below_tuple}
use Rattle.mls_lattice.proofs.LatticeLemmas.{below-refl}
use Rattle.mls_filterview.proofs.AccessLemmas.{avoids_then, at_reads_low, low_reads_no_down, at_changes_high}
use Rattle.mls_updates.proofs.raising.derive.Goals as goal

pub returns-in_default-clause-done : goal.returns-in_default-clause-done
returns-in_default-clause-done g c = λ clean.
    let ls = labels_of c.args.policy.now in
    let p = c.args.place in
    let from = c.args.from in
    let sets = c.args.sets.now in
    let s = (g.B.Base.seen c.args.base.now).state in
    let T = s.now.db c.args.relation in
    let start = c.in_ok-is_there.ensures.read.call.clean clean in
    let pattern = c.requires.found start in
    let first = c.below_outcome-outcome.ensures.first p.key_class from (get T (with_class p from)) (get T p)
    (below_found ls c.args.relation p from s c.args.pattern pattern ∙ sym c.is_some.ensures)
    (sym (c.in_ok-is_there.ensures.found clean)) in
    left_same c.args.relation s (g.B.Base.seen c.has_tuple.new.base).state c.below_outcome-outcome.result _ _ first
    (c.below_outcome-outcome.ensures.missing (c.is_some.ensures ∙ ap is_some c.in_default.is))
    (c.in_ok-is_there.ensures.read.same clean)

pub returns-then-not-is_done-clause-done : goal.returns-then-not-is_done-clause-done
returns-then-not-is_done-clause-done g c = λ clean.
    let ls = labels_of c.args.policy.now in
    let p = c.args.place in
    let from = c.args.from in
    let sets = c.args.sets.now in
    let s = (g.B.Base.seen c.args.base.now).state in
    let T = s.now.db c.args.relation in
    let start = c.in_ok-is_there.ensures.read.call.clean clean in
    let pattern = c.requires.found start in
    let first = c.below_outcome-outcome.ensures.first p.key_class from (get T (with_class p from)) (get T p)
    (below_found ls c.args.relation p from s c.args.pattern pattern ∙ sym c.is_some.ensures)
    (sym (c.in_ok-is_there.ensures.found clean)) in
    left_same c.args.relation s (g.B.Base.seen c.has_tuple.new.base).state c.below_outcome-outcome.result _ _ first
    (sym c.if-not-is_done.ensures) (c.in_ok-is_there.ensures.read.same clean)

pub add_outline-requires : goal.add_outline-requires
add_outline-requires g c =
    let ls = labels_of c.args.policy.now in
    let p = c.args.place in
    let from = c.args.from in
    let sets = c.args.sets.now in
    let s = (g.B.Base.seen c.args.base.now).state in
    let T = s.now.db c.args.relation in
    record {
      begun = c.in_ok-is_there.ensures.read.mode ∙ c.requires.can.at.begun;
      key = c.requires.can.at.key;
      values = outline_spelled p.class sets 0 c.deref.result.now c.requires.can.values;
      absent = λ clean.
          let pattern = c.requires.found (c.in_ok-is_there.ensures.read.call.clean clean) in
          let first = c.below_outcome-outcome.ensures.first p.key_class from (get T (with_class p from)) (get T p)
          (below_found ls c.args.relation p from s c.args.pattern pattern ∙ sym c.is_some.ensures)
          (sym (c.in_ok-is_there.ensures.found clean)) in
          let passed = all_passed (below_refusals ls c.args.scheme.now p.class p.key_class from sets
          (get T (with_class p from)) (get T p)) refl (ap is_done (sym first) ∙ sym c.if-not-is_done.ensures) in
          ap (λ x. get (x.now.db c.args.relation) p) (c.in_ok-is_there.ensures.read.same clean)
          ∙ none_if (get T p) passed.1.0;
      made = λ clean.
          let start = c.in_ok-is_there.ensures.read.call.clean clean in
          let tuple = below_tuple ls c.args.relation p from s c.in-Some.pattern (sym c.in-Some.is
          ∙ c.requires.found start) in
          let declared = subst (λ n. p.class < n) (sym (length-map c.args.policy.now.labels
          (λ l. l.value))) c.requires.can.at.class in (
            derived p.class sets tuple.0,
            made_alike ((g.B.Base.seen c.has_tuple.new.base).state.now.db c.args.relation) T p p c.deref.result.now
                (classes tuple.0) sets (derived p.class sets tuple.0)
                (ap (λ x. x.now.db c.args.relation) (c.in_ok-is_there.ensures.read.same clean)) refl (c.deref.ensures
                ∙ tuple.2)
                (outline_made ls c.use_invariant.ensures.distinct (length c.args.scheme.now.others) T
                (c.requires.can.stored start) (with_class p from) tuple.0 tuple.1 p.class declared tuple.4 c.requires.can.other sets),
          );
    }

pub returns-clause-done : goal.returns-clause-done
returns-clause-done g c = λ clean.
    let ls = labels_of c.args.policy.now in
    let p = c.args.place in
    let from = c.args.from in
    let sets = c.args.sets.now in
    let s = (g.B.Base.seen c.args.base.now).state in
    let T = s.now.db c.args.relation in
    let before = c.in_ok-add_outline.ensures.step.call.clean clean in
    let start = c.in_ok-is_there.ensures.read.call.clean before in
    let pattern = c.requires.found start in
    let first = c.below_outcome-outcome.ensures.first p.key_class from (get T (with_class p from)) (get T p)
    (below_found ls c.args.relation p from s c.args.pattern pattern ∙ sym c.is_some.ensures)
    (sym (c.in_ok-is_there.ensures.found before)) in
    let same = c.in_ok-is_there.ensures.read.same before in
    let tuple = below_tuple ls c.args.relation p from s c.in-Some.pattern (sym c.in-Some.is ∙ pattern) in
    let declared = subst (λ n. p.class < n) (sym (length-map c.args.policy.now.labels
    (λ l. l.value))) c.requires.can.at.class in
    let made = made_alike ((g.B.Base.seen c.has_tuple.new.base).state.now.db c.args.relation) T p p c.deref.result.now
    (classes tuple.0) sets (derived p.class sets tuple.0)
    (ap (λ x. x.now.db c.args.relation) same) refl (c.deref.ensures ∙ tuple.2)
    (outline_made ls c.use_invariant.ensures.distinct (length c.args.scheme.now.others) T (c.requires.can.stored start)
    (with_class p from) tuple.0 tuple.1 p.class declared tuple.4 c.requires.can.other sets) in
    left_done c.args.relation s (g.B.Base.seen c.add_outline.new.base).state c.below_outcome-outcome.result _ _ first
    (sym c.if-not-is_done.ensures)
    (c.in_ok-add_outline.ensures.done clean (derived p.class sets tuple.0) made
    ∙ (λ i. with_relation (same i) c.args.relation (insert ((same i).now.db c.args.relation) p
    (derived p.class sets (unwrap_or (sym tuple.1 i) [])))))

pub returns-then-not-is_done-clause-access : goal.returns-then-not-is_done-clause-access
returns-then-not-is_done-clause-access g c =
    let ls = labels_of c.args.policy.now in
    let w = c.args.place.class in
    low_reads_no_down ls w w (at_reads_low ls w w (below-refl ls w) c.in_ok-is_there.ensures.access)

pub returns-clause-access : goal.returns-clause-access
returns-clause-access g c =
    let ls = labels_of c.args.policy.now in
    let w = c.args.place.class in
    avoids_then (low_reads_no_down ls w w (at_reads_low ls w w (below-refl ls w) c.in_ok-is_there.ensures.access))
    (at_changes_high ls w w w (below-refl ls w) c.in_ok-add_outline.ensures.access)

pub returns-in_err-add_outline-clause-access : goal.returns-in_err-add_outline-clause-access
returns-in_err-add_outline-clause-access g c =
    let ls = labels_of c.args.policy.now in
    let w = c.args.place.class in
    avoids_then (low_reads_no_down ls w w (at_reads_low ls w w (below-refl ls w) c.in_ok-is_there.ensures.access))
    (at_changes_high ls w w w (below-refl ls w) c.in_err-add_outline.ensures.access)

pub returns-in_err-is_there-clause-access : goal.returns-in_err-is_there-clause-access
returns-in_err-is_there-clause-access g c =
    let ls = labels_of c.args.policy.now in
    let w = c.args.place.class in
    low_reads_no_down ls w w (at_reads_low ls w w (below-refl ls w) c.in_err-is_there.ensures.access)

pub returns-in_default-clause-access : goal.returns-in_default-clause-access
returns-in_default-clause-access g c =
    let ls = labels_of c.args.policy.now in
    let w = c.args.place.class in
    low_reads_no_down ls w w (at_reads_low ls w w (below-refl ls w) c.in_ok-is_there.ensures.access)
