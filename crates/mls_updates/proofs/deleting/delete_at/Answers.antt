use Rattle.std.proofs.Common.{not, sym, ◌∙◌, subst}
use Rattle.std.specs.FinMap.{get, retain_keys}
use Rattle.mls_lattice.specs.Policy.{labels_of}
use Rattle.mls_filterview.specs.Content.{with_relation}
use Rattle.mls_filterview.specs.Stored.{IsStored}
use Rattle.mls_updates.specs.Writes.{is_above}
use Rattle.mls_updates.proofs.LeftLemmas.{left_same, left_done}
use Rattle.mls_lattice.proofs.LatticeLemmas.{below-refl}
use Rattle.mls_filterview.proofs.AccessLemmas.{avoids_then, at_reads_low, low_reads_no_down}
use Rattle.mls_updates.proofs.deleting.delete_at.Goals as goal

pub returns-then-not-is_done-clause-done : goal.returns-then-not-is_done-clause-done
returns-then-not-is_done-clause-done g c = λ clean scheme.
    let s = (g.B.Base.seen c.args.base.now).state in
    left_same c.args.relation s (g.B.Base.seen c.has_tuple.new.base).state c.drop_outcome-outcome.result _ _
    (c.drop_outcome-outcome.ensures scheme (get (s.now.db c.args.relation) c.args.place)
    (sym (c.in_ok-found.ensures.found clean))) (sym c.if-not-is_done.ensures)
    (c.in_ok-found.ensures.read.same clean)

pub drop_above-requires-clause-stored : goal.drop_above-requires-clause-stored
drop_above-requires-clause-stored g c = λ clean.
    let stored = c.requires.stored (c.in_ok-found.ensures.read.call.clean clean) in (
      stored.0,
      subst (λ x. IsStored (labels_of c.args.policy.now) stored.0 (x.now.db c.args.relation))
          (sym (c.in_ok-found.ensures.read.same clean)) stored.1,
    )

pub returns-clause-done : goal.returns-clause-done
returns-clause-done g c = λ clean scheme.
    let s = (g.B.Base.seen c.args.base.now).state in
    let before = c.in_ok-drop_above.ensures.step.call.clean clean in
    let same = c.in_ok-found.ensures.read.same before in
    left_done c.args.relation s (g.B.Base.seen c.drop_above.new.base).state c.drop_outcome-outcome.result _ _
    (c.drop_outcome-outcome.ensures scheme (get (s.now.db c.args.relation) c.args.place)
    (sym (c.in_ok-found.ensures.found before))) (sym c.if-not-is_done.ensures)
    (c.in_ok-drop_above.ensures.done clean ∙ (λ i. with_relation (same i) c.args.relation
    (retain_keys ((same i).now.db c.args.relation)
    (λ q. not (is_above (labels_of c.args.policy.now) c.args.place q)))))

pub returns-then-not-is_done-clause-access : goal.returns-then-not-is_done-clause-access
returns-then-not-is_done-clause-access g c =
    let ls = labels_of c.args.policy.now in
    let w = c.args.place.class in
    low_reads_no_down ls w w (at_reads_low ls w w (below-refl ls w) c.in_ok-found.ensures.access)

pub returns-clause-access : goal.returns-clause-access
returns-clause-access g c =
    let ls = labels_of c.args.policy.now in
    let w = c.args.place.class in
    avoids_then (low_reads_no_down ls w w (at_reads_low ls w w
    (below-refl ls w) c.in_ok-found.ensures.access)) c.in_ok-drop_above.ensures.access

pub returns-in_err-drop_above-clause-access : goal.returns-in_err-drop_above-clause-access
returns-in_err-drop_above-clause-access g c =
    let ls = labels_of c.args.policy.now in
    let w = c.args.place.class in
    avoids_then (low_reads_no_down ls w w (at_reads_low ls w w
    (below-refl ls w) c.in_ok-found.ensures.access)) c.in_err-drop_above.ensures.access

pub returns-in_err-found-clause-access : goal.returns-in_err-found-clause-access
returns-in_err-found-clause-access g c =
    let ls = labels_of c.args.policy.now in
    let w = c.args.place.class in
    low_reads_no_down ls w w (at_reads_low ls w w (below-refl ls w) c.in_err-found.ensures.access)
