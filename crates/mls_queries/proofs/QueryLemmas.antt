-- What queries find depends on the view alone, and the key that a condition demands can be looked up.
use Rattle.std.proofs.Common.{◌≡◌, Bool, true, false, List, refl, sym, ap, ◌∙◌, not, filter, true≢false}
use Rattle.std.specs.List.{AllByRecursion}
use Rattle.std.proofs.lemmas.Bool.{and_parts, not-true, not_from_false}
use Rattle.mls_lattice.specs.Labels.{Labels}
use Rattle.mls_scheme.specs.declared.value.Value.{Value}
use Rattle.mls_scheme.specs.declared.tuple.Tuple.{Tuple}
use Rattle.mls_scheme.specs.Table.{IsIn}
use Rattle.mls_filterview.specs.View.{View, rows, IsAmong}
use Rattle.mls_filterview.proofs.LowLemmas.{rows_under}
use Rattle.mls_filterview.proofs.LevelLemmas.{low_from_views}
use Rattle.mls_filterview.proofs.RowLemmas.{rows_are_the_view}
use Rattle.mls_filterview.proofs.AmongLemmas.{among_filter, filter_among, each_among, none_of, all_none}
use Rattle.mls_queries.specs.Query.{meets, has_class, is_key, is_above, highest_of, first_of, found}
use Rattle.mls_queries.specs.Places.{is_top}
use Rattle.mls_queries.specs.Laws.{QueriesUseTheView, RowsThatPassAreOfTheView, KeysAreLookedUp, IsAskedFor, for_all}
use Rattle.mls_queries.proofs.PlaceLemmas.{all_filter}
use Rattle.mls_queries.proofs.TopLemmas.{key_same, same_key}
use Rattle.mls_queries.proofs.KeyLemmas.{rows_of_key}
use Rattle.mls_filterview.proofs.FilteredLemmas.{within_filter, any_filter, filter_where}

pub queries_use_the_view : QueriesUseTheView
queries_use_the_view ls distinct n S T s t c label lower views q =
    ap (found ls q) (rows_under ls c label S T (low_from_views ls distinct n n S T s t c views) lower)

-- ---- rows that are asked for

module _ (ls : Labels) (ts : List Tuple) (t : Tuple) where
  abbrev IsHighest : Bool → Type 0
  IsHighest b = b ≡ true → (s : Tuple) → IsAmong s ts → is_above ls s t ≡ false

  from_highest : (b : Bool) → IsAmong t (highest_of ls b ts) → IsAmong t ts × IsHighest b
  from_highest true i = let a = among_filter (is_top ls ts) ts t i
      in (a.0, λ e s j. none_of (λ s. is_above ls s t) ts (not-true _ a.1) s j)
  from_highest false i = (i, λ e. absurd (true≢false (sym e)))

  to_highest : (b : Bool) → IsAmong t ts → IsHighest b → IsAmong t (highest_of ls b ts)
  to_highest true i h = filter_among (is_top ls ts) ts t i (not_from_false _ (all_none (λ s. is_above ls s t) ts
      (h refl)))
  to_highest false i h = i

pub rows_that_pass : RowsThatPassAreOfTheView
rows_that_pass ls distinct n T stored c q = (λ t. (to t, from t), refl)
  where
    ts : List Tuple
    ts = rows ls c T

    seen : List Tuple
    seen = highest_of ls q.highest ts

    Row : Tuple → Type 0
    Row = View ls (IsIn T) c

    to : (t : Tuple) → IsAmong t (found ls (for_all q) ts) → IsAskedFor ls q Row t
    to t i =
        let a = among_filter (meets q.test) (filter (has_class ls q.class) seen) t i in
        let b = among_filter (has_class ls q.class) seen t a.0 in
        let h = from_highest ls ts t q.highest b.0 in
        record {
          row = ((rows_are_the_view ls distinct n T stored c).0 t).0 h.0;
          highest = λ e s v. h.1 e s (((rows_are_the_view ls distinct n T stored c).0 s).1 v);
          class = b.1;
          test = a.1;
        }

    from : (t : Tuple) → IsAskedFor ls q Row t → IsAmong t (found ls (for_all q) ts)
    from t h =
        filter_among (meets q.test) (filter (has_class ls q.class) seen) t
        (filter_among (has_class ls q.class) seen t
        (to_highest ls ts t q.highest (((rows_are_the_view ls distinct n T stored c).0 t).1 h.row)
        (λ e s i. h.highest e s (((rows_are_the_view ls distinct n T stored c).0 s).0 i))) h.class) h.test

-- ---- look-ups

-- the highest tuples of a key are those of the highest tuples that have it
highest_of_key : (ls : Labels) (key : List Value) (b : Bool) (ts : List Tuple)
    → highest_of ls b (filter (λ t. is_key t.key key) ts) ≡ filter (λ t. is_key t.key key) (highest_of ls b ts)
highest_of_key ls key true ts =
    within_filter (λ t. is_key t.key key) (is_top ls (filter (λ t. is_key t.key key) ts)) (is_top ls ts)
    (λ t h. ap not (any_filter (λ s. is_key s.key key) (λ s. is_above ls s t) (λ s a. ap (λ k. is_key k key)
    (same_key s.key t.key (and_parts _ _ a).0) ∙ h) ts)) ts
highest_of_key ls key false ts = refl

-- what holds of rows holds of the highest of them
each_highest : (P : Tuple → Type 0) (ls : Labels) (b : Bool) (ts : List Tuple) → AllByRecursion P ts
    → AllByRecursion P (highest_of ls b ts)
each_highest P ls true ts h = all_filter P (is_top ls ts) ts h
each_highest P ls false ts h = h

pub keys_are_looked_up : KeysAreLookedUp
keys_are_looked_up ls T c q key alone =
    let ts = rows ls c T in
    let has_key : Tuple → Bool = λ t. is_key t.key key in
    let class = has_class ls q.class in
    let test = meets q.test in
    let seen = highest_of ls q.highest ts in
    let each : AllByRecursion (λ t. test t ≡ true → has_key t ≡ true) ts =
    each_among _ ts (λ t i h. key_same t.key key (alone t i h)) in
    let those : filter test (filter class (highest_of ls q.highest (filter has_key ts)))
    ≡ filter test (filter class seen)
    = ap (λ xs. filter test (filter class xs)) (highest_of_key ls key q.highest ts)
    ∙ ap (filter test) (within_filter has_key class class (λ t e. refl) seen)
    ∙ filter_where test has_key (filter class seen) (all_filter _ class seen (each_highest _ ls q.highest ts each)) in
    sym (ap (first_of q.first) those)
    ∙ ap (λ xs. first_of q.first (filter test (filter class (highest_of ls q.highest xs)))) (sym (rows_of_key ls c key T))
