-- Rows by their places in a view.
use Rattle.std.specs.Prelude.{◌≡◌, ⊤, ℕ, suc, ◌<◌, Bool, not, ◌&&◌, if◌then◌else◌, List, [], ◌∷◌, map, length, is_none}
use Rattle.std.specs.Prelude.{slice_index_or}
use Rattle.std.specs.List.{AllByRecursion, list_any}
use Rattle.std.specs.Cmp.Lexicographic.{slice_cmp}
use Rattle.std.specs.declared.cmp.Ordering.TheVariants.{Greater}
use Rattle.mls_lattice.specs.Labels.{Labels}
use Rattle.mls_scheme.specs.declared.tuple.Tuple.{Tuple}
use Rattle.mls_scheme.specs.Value.{value_cmp}
use Rattle.mls_scheme.specs.Tuple.{no_tuple}
use Rattle.mls_translang.specs.declared.query.Query.{Query}
use Rattle.mls_queries.specs.Query.{is_above}

-- the rows at places
abbrev pub rows_at : List Tuple → List ℕ → List Tuple
rows_at ts ps = map (λ p. slice_index_or ts p no_tuple) ps

-- each place is one of the list
abbrev pub AreWithin : List Tuple → List ℕ → Type 0
AreWithin ts = AllByRecursion (λ p. p < length ts)

-- no row has a key before that of an earlier one
abbrev pub AreByKey : List Tuple → Type 0
AreByKey [] = ⊤
AreByKey (t ∷ ts) = AllByRecursion (λ s. slice_cmp value_cmp t.key s.key ≡ Greater → ⊥) ts × AreByKey ts

-- none of these rows stands above t
abbrev pub is_top : Labels → List Tuple → Tuple → Bool
is_top ls ts t = not (list_any (λ s. is_above ls s t) ts)

-- the places, counted from k, of those that pass
abbrev pub places_from : (Tuple → Bool) → ℕ → List Tuple → List ℕ
places_from p k [] = []
places_from p k (t ∷ ts) = if p t then k ∷ places_from p (suc k) ts else places_from p (suc k) ts

-- no part of the query leaves rows out
abbrev pub asks_nothing : Query → Bool
asks_nothing q = not q.highest && (is_none q.class && (is_none q.test && is_none q.first))
