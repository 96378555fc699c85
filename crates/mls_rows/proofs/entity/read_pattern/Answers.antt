use Rattle.std.proofs.Common.{◌∙◌, List, ℕ, map, filter, subst, ap, IsPermutation, slice_get}
use Rattle.mls_tables.specs.Rows.{is_node}
use Rattle.mls_rows.proofs.ShownLemmas.{shows_pattern}
use Rattle.mls_rows.proofs.entity.read_pattern.Goals as goal

pub returns-in-Ok-first_pattern-clause-found : goal.returns-in-Ok-first_pattern-clause-found
returns-in-Ok-first_pattern-clause-found g c clean content holds =
    let p = c.args.place.now in
    let patterns = c.in_ok-patterns.patterns.items in
    let some = subst (λ k. IsPermutation (map (λ n. n.pattern)
    (filter (is_node k) c.args.store.now.now.nodes)) patterns) c.in-Ok.ensures.made
    (c.in_ok-patterns.ensures.found clean) in
    c.in-Ok-first_pattern.ensures ∙ ap (λ (l : List (List ℕ)). slice_get l 0) c.deref.ensures.value
    ∙ shows_pattern c.args.store.now.now content c.args.relation p holds c.requires.key patterns some
