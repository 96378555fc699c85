-- The pattern of the node at a key, which is looked up alone.
use Rattle.std.proofs.Common.{◌≡◌, ℕ, List, [], ◌∷◌, map, filter, codes, true, Result, IfOk, IfErr, Vec, lit≤, refl, sym, subst, IsPermutation}
use Rattle.std.specs.declared.alloc.Global.{Global}
use Rattle.sqlite_value.specs.Order.{Row, column}
use Rattle.sqlite.specs.declared.error.Error.{Error}
use Rattle.sqlite.specs.Command.TheVariants.{Select}
use Rattle.sqlite.specs.State.{State, HasCleanDisk, Shown}
use Rattle.sqlite.specs.Term.{Term, col, eval_all}
use Rattle.sqlite.specs.Listing.{understood}
use Rattle.sqlite_tied.specs.Compute.{everything}
use Rattle.mls_tables.specs.declared.rows.TupleKey.{TupleKey}
use Rattle.mls_tables.specs.Schema.{Others, schema}
use Rattle.sqlite_value.specs.declared.value.Value.TheVariants.{Blob}
use Rattle.sqlite_trees.proofs.ListLemmas.{map-map, all_of, all-map, all-permutation}
use Rattle.mls_tables.specs.Adopting.{IsBytes, ShowsSome, FailsToShow}
use Rattle.mls_tables.specs.Rows.{tables_of, is_blob, is_node, node_of, is_node_row, class_values}
use Rattle.mls_tables.specs.Pattern.{shown_bytes}
use Rattle.mls_tables.specs.Sql.{patterns_of_key}
use Rattle.mls_tables.specs.Statements.{IsSchemaReady, IsQuery}
use Rattle.mls_tables.proofs.RowValues.{pattern_values}
use Rattle.mls_tables.proofs.EditParts.{alone}
use Rattle.mls_tables.proofs.QueryAnswers.{rows_by, passes}
use Rattle.mls_tables.proofs.TableRows.{answers, read_back}
use Rattle.mls_tables.proofs.ValueTests.{blob_is, node_parts, node_in_class}
use Rattle.mls_tables.proofs.Texts.{Asks, Takes, by_class}
use Rattle.mls_tables.proofs.Finds.{found, query}

-- ---- what the text means

abbrev pattern_shown : List Term
pattern_shown = col 1 5 ∷ []

pub patterns_of_key_is : (o : Others) → Asks (schema o) patterns_of_key
    (Select (alone (rows_by 0 by_class pattern_shown)) (codes "pattern" ∷ []))
unfolding understood everything
patterns_of_key_is o = (refl, (refl, refl), refl)

patterns_of_key_takes : (o : Others) → Takes 4 (schema o) patterns_of_key
unfolding understood everything
patterns_of_key_takes o = (lit≤ tt, refl)

-- ---- what it finds

pattern_shows : (params r : Row) → is_node_row r ≡ true → eval_all pattern_shown (params ∷ r ∷ [])
    ≡ pattern_values (node_of r)
pattern_shows params r h = let c = node_parts r h in rw (← blob_is (column r 5) c.pattern)

pub finds_patterns_of_key : (old new : State) (k : TupleKey) (r : Result (Vec (List ℕ) Global) Error)
    → (HasCleanDisk new → HasCleanDisk old)
    → (HasCleanDisk new → IfOk r (λ xs. ShowsSome shown_bytes (λ r. is_blob (column r 0)) patterns_of_key
    (class_values k) old new xs.items))
    → (HasCleanDisk new → IfErr r (FailsToShow (λ r. IsBytes (column r 0)) patterns_of_key (class_values k) old new))
    → IsQuery (IsPermutation (map (λ n. n.pattern)
    (filter (is_node k) (tables_of old.now.trees).nodes))) patterns_of_key (class_values k) old new r
finds_patterns_of_key old new k =
    let params = class_values k in
    let nodes = filter (is_node k) (tables_of old.now.trees).nodes in
    let shows : IsSchemaReady old.now → (given : List Row) → Shown patterns_of_key params old new given
    → IsPermutation (map pattern_values (filter (is_node k) (tables_of old.now.trees).nodes)) given =
    λ ready given h. answers is_node_row node_of (passes by_class params) (is_node k) _ pattern_values (node_in_class k)
    (pattern_shows params) (old.now.trees 0) given ready.1.0.1
    (found old new ready.0.others patterns_of_key params 0 by_class pattern_shown (codes "pattern" ∷ []) []
    (patterns_of_key_is ready.0.others) refl ready.0.is given h) in
    query old new shown_bytes (λ r. is_blob (column r 0)) (λ r. IsBytes (column r 0)) patterns_of_key params
    (rows_by 0 by_class pattern_shown) (codes "pattern" ∷ []) patterns_of_key_is patterns_of_key_takes
    (λ ready fit given h. all-permutation (λ r. IsBytes (column r 0)) (map pattern_values nodes) given
    (shows ready given h) (all-map (λ r. IsBytes (column r 0)) pattern_values nodes
    (all_of (λ n. IsBytes (Blob n.pattern)) (λ n. (n.pattern, refl)) nodes)))
    (IsPermutation (map (λ n. n.pattern) nodes)) (λ ready given h.
    read_back (λ bytes. Blob bytes ∷ []) shown_bytes (λ bytes. refl) (map (λ n. n.pattern) nodes) given
    (subst (λ (shown : List Row). IsPermutation shown given)
    (sym (map-map (λ bytes. Blob bytes ∷ []) (λ n. n.pattern) nodes)) (shows ready given h)))
