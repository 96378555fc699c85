use Rattle.std.proofs.Common.{refl, sym, ap, ◌∙◌}
use Rattle.std.specs.FinMap.{get, insert}
use Rattle.mls_lattice.specs.Policy.{labels_of}
use Rattle.mls_filterview.specs.Content.{with_relation}
use Rattle.mls_updates.specs.Outcome.{is_done}
use Rattle.mls_updates.specs.Writes.{root, root_refusals}
use Rattle.mls_updates.proofs.CallLemmas.{root_made}
use Rattle.mls_updates.proofs.SpellingLemmas.{root_spelled}
use Rattle.mls_updates.proofs.KeptLemmas.{all_passed, none_if}
use Rattle.mls_updates.proofs.LeftLemmas.{left_same, left_done}
use Rattle.mls_lattice.proofs.LatticeLemmas.{below-refl}
use Rattle.mls_filterview.proofs.AccessLemmas.{avoids_then, at_reads_low, low_reads_no_down, at_changes_high}
use Rattle.mls_updates.proofs.inserting.insert_at.Goals as goal

pub returns-then-not-is_done-clause-done : goal.returns-then-not-is_done-clause-done
returns-then-not-is_done-clause-done g c = λ clean.
    let s = (g.B.Base.seen c.args.base.now).state in
    left_same c.args.relation s (g.B.Base.seen c.has_tuple.new.base).state c.root_outcome-outcome.result _ _
    (c.root_outcome-outcome.ensures (get (s.now.db c.args.relation) c.args.place)
    (sym (c.in_ok-found.ensures.found clean))) (sym c.if-not-is_done.ensures)
    (c.in_ok-found.ensures.read.same clean)

pub add_root-requires : goal.add_root-requires
add_root-requires g c =
    let p = c.args.place in
    let s = (g.B.Base.seen c.args.base.now).state in
    record {
      begun = c.in_ok-found.ensures.read.mode ∙ c.requires.at.begun;
      key = c.requires.at.key;
      values = root_spelled p.class c.args.values.now c.requires.values;
      absent = λ clean.
          let o = get (s.now.db c.args.relation) p in
          let first = c.root_outcome-outcome.ensures o (sym (c.in_ok-found.ensures.found clean)) in
          ap (λ x. get (x.now.db c.args.relation) p) (c.in_ok-found.ensures.read.same clean)
          ∙ none_if o (all_passed (root_refusals (labels_of c.args.policy.now) c.args.scheme.now p.class o) refl
          (ap is_done (sym first) ∙ sym c.if-not-is_done.ensures)).0;
      made = λ clean. (
        root p.class c.args.values.now,
        root_made ((g.B.Base.seen c.has_tuple.new.base).state.now.db c.args.relation) p c.args.values.now,
      );
    }

pub returns-clause-done : goal.returns-clause-done
returns-clause-done g c = λ clean.
    let s = (g.B.Base.seen c.args.base.now).state in
    let before = c.in_ok-add_root.ensures.step.call.clean clean in
    let same = c.in_ok-found.ensures.read.same before in
    left_done c.args.relation s (g.B.Base.seen c.add_root.new.base).state c.root_outcome-outcome.result _ _
    (c.root_outcome-outcome.ensures (get (s.now.db c.args.relation) c.args.place)
    (sym (c.in_ok-found.ensures.found before))) (sym c.if-not-is_done.ensures)
    (c.in_ok-add_root.ensures.done clean ∙ (λ i. with_relation (same i) c.args.relation
    (insert ((same i).now.db c.args.relation) c.args.place (root c.args.place.class c.args.values.now))))

pub returns-then-not-is_done-clause-access : goal.returns-then-not-is_done-clause-access
returns-then-not-is_done-clause-access g c =
    let ls = labels_of c.args.policy.now in
    let w = c.args.place.class in
    low_reads_no_down ls w w (at_reads_low ls w w (below-refl ls w) c.in_ok-found.ensures.access)

pub returns-clause-access : goal.returns-clause-access
returns-clause-access g c =
    let ls = labels_of c.args.policy.now in
    let w = c.args.place.class in
    avoids_then (low_reads_no_down ls w w (at_reads_low ls w w (below-refl ls w) c.in_ok-found.ensures.access))
    (at_changes_high ls w w w (below-refl ls w) c.in_ok-add_root.ensures.access)

pub returns-in_err-add_root-clause-access : goal.returns-in_err-add_root-clause-access
returns-in_err-add_root-clause-access g c =
    let ls = labels_of c.args.policy.now in
    let w = c.args.place.class in
    avoids_then (low_reads_no_down ls w w (at_reads_low ls w w (below-refl ls w) c.in_ok-found.ensures.access))
    (at_changes_high ls w w w (below-refl ls w) c.in_err-add_root.ensures.access)

pub returns-in_err-found-clause-access : goal.returns-in_err-found-clause-access
returns-in_err-found-clause-access g c =
    let ls = labels_of c.args.policy.now in
    let w = c.args.place.class in
    low_reads_no_down ls w w (at_reads_low ls w w (below-refl ls w) c.in_err-found.ensures.access)
