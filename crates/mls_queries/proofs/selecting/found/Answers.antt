use Rattle.std.proofs.Common.{sym, ap, ◌∙◌, subst, slice_index_or, filter}
use Rattle.mls_lattice.specs.Policy.{labels_of}
use Rattle.mls_scheme.specs.Tuple.{no_tuple}
use Rattle.mls_queries.specs.Query.{is_wanted, highest_of}
use Rattle.mls_queries.specs.Places.{rows_at, AreWithin}
use Rattle.mls_queries.proofs.PlaceLemmas.{wanted_rows, wanted_within}
use Rattle.mls_queries.proofs.selecting.found.Goals as goal

pub returns-clause-within : goal.returns-clause-within
returns-clause-within c =
    let ls = labels_of c.args.policy.now in
    let rows = c.args.rows.now in
    let w = c.in_ok-wanted.ensures ∙ ap (filter (λ p. is_wanted ls c.args.query.now
    (slice_index_or rows p no_tuple))) c.deref.ensures.value in
    subst (AreWithin rows) (sym c.first.ensures)
    (wanted_within ls c.args.query.now rows c.in_ok-highest.highest.items c.in_ok-wanted.wanted.items c.in_ok-highest.ensures.within w)

pub returns-clause-rows : goal.returns-clause-rows
returns-clause-rows c = λ s.
    let ls = labels_of c.args.policy.now in
    let rows = c.args.rows.now in
    let w = c.in_ok-wanted.ensures ∙ ap (filter (λ p. is_wanted ls c.args.query.now
    (slice_index_or rows p no_tuple))) c.deref.ensures.value in
    ap (rows_at rows) c.first.ensures
    ∙ wanted_rows ls c.args.query.now rows c.in_ok-highest.highest.items c.in_ok-wanted.wanted.items
    (highest_of ls c.args.query.now.highest rows) (c.in_ok-highest.ensures.rows s) w
