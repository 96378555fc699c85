-- The rows that are left where some are taken out.
use Rattle.std.proofs.Common.{◌≡◌, inl, inr, ℤ, List, [], ◌∷◌, filter, not, Bool, true, false, Less, Equal, Greater, Ordering, refl, sym, ap, ◌∙◌, IsTrue, IsPermutation, true≢false, is_eq}
use Rattle.std.specs.List.{AllByRecursion, list_any}
use Rattle.std.proofs.lemmas.Bool.{cases_Bool}
use Rattle.std.proofs.lemmas.Cmp.{tied_itself}
use Rattle.sqlite_value.proofs.OrderLemmas.{value_cmp_total}
use Rattle.sqlite_value.specs.Order.{Row}
use Rattle.sqlite.specs.Tree.{rowid, has_rowid, without_rowid}
use Rattle.sqlite_trees.specs.View.{is_int}
use Rattle.sqlite.specs.Edit.{id_in, without_all}
use Rattle.sqlite_rules.proofs.TableLemmas.{int_is}
use Rattle.sqlite_rules.specs.Calls.{ids_of}
use Rattle.sqlite_rules.specs.Lists.{Has}
use Rattle.sqlite_rules.proofs.ListLemmas.{all_has, all_from, some_has, some_from, has_filtered, has_kept, contains_had, has_contained}
use Rattle.sqlite_rules.proofs.PlaceLemmas.{Tied}
use Rattle.mls_tables.specs.Statements.{IsApart}
use Rattle.mls_tables.proofs.ApartRows.{one_row}
use Rattle.sqlite_trees.proofs.ListLemmas.{filter_same}
use Rattle.std.proofs.lemmas.List.Sorted.{Contains-permutation, IsPermutation-sym}

abbrev pub AreKeyed : List Row → Type 0
AreKeyed = AllByRecursion (λ r. IsTrue (is_int (rowid r)))

equal_is : (o : Ordering) → is_eq o ≡ true → o ≡ Equal
equal_is Less h = absurd (cc)
equal_is Equal h = refl
equal_is Greater h = absurd (cc)

-- the row has one of the rowids
abbrev pub is_among : List ℤ → Row → Bool
is_among ids r = list_any (λ id. has_rowid id r) ids

drop_each : (id : ℤ) (ids : List ℤ) (rows : List Row) → filter (λ r. not (is_among ids r)) (without_rowid id rows)
    ≡ filter (λ r. not (is_among (id ∷ ids) r)) rows
drop_each id ids [] = refl
drop_each id ids (r ∷ rows) = elim (cases_Bool (has_rowid id r)) [
  | inl e ↦ rw (e, drop_each id ids rows)
  | inr e ↦ rw (e, drop_each id ids rows)
]

every : {X : Type 0} (xs : List X) → filter (λ x. true) xs ≡ xs
every [] = refl
every (x ∷ xs) = ap (λ l. x ∷ l) (every xs)

pub without_all-filter : (ids : List ℤ) (rows : List Row) → without_all rows ids
    ≡ filter (λ r. not (is_among ids r)) rows
without_all-filter [] rows = sym (every rows)
without_all-filter (id ∷ ids) rows = without_all-filter ids (without_rowid id rows) ∙ drop_each id ids rows

all_by : (P : Row → Type 0) (rows : List Row) → ((r : Row) → Has rows r → P r) → AllByRecursion P rows
all_by P rows each = all_from P rows each

same_rowid : (r : Row) → IsTrue (is_int (rowid r)) → has_rowid (id_in (rowid r)) r ≡ true
same_rowid r keyed = let tie = tied_itself value_cmp_total (rowid r) in rw (← int_is (rowid r) keyed, tie)

mapped : (xs : List Row) (x : Row) → Has xs x → Has (ids_of xs) (id_in (rowid x))
mapped [] x h = absurd h
mapped (y ∷ xs) x (inl same) = inl (ap (λ r. id_in (rowid r)) same)
mapped (y ∷ xs) x (inr more) = inr (mapped xs x more)

unmapped : (xs : List Row) (id : ℤ) → Has (ids_of xs) id → (x : Row) × Has xs x × (id ≡ id_in (rowid x))
unmapped [] id h = absurd h
unmapped (y ∷ xs) id (inl same) = (y, inl refl, same)
unmapped (y ∷ xs) id (inr more) = let it = unmapped xs id more in (it.0, inr it.1, it.2)

-- taking out the rows that pass a test, whatever their order, leaves the others
pub removed : (p : Row → Bool) (rows : List Row) (ids : List ℤ) → IsApart rows → AreKeyed rows
    → IsPermutation (ids_of (filter p rows)) ids
    → without_all rows ids ≡ filter (λ r. not (p r)) rows
removed p rows ids up keyed same =
    without_all-filter ids rows ∙ filter_same (λ r. not (is_among ids r)) (λ r. not (p r)) rows
    (all_by _ rows (λ r here. ap not (agrees r here)))
  where
    clash : (r : Row) → Has rows r → p r ≡ false → is_among ids r ≡ true → ⊥
    clash r here lacks hit =
        let some = some_has (λ id. has_rowid id r) ids hit in
        let back = has_contained (ids_of (filter p rows)) some.0 (Contains-permutation ids
        (ids_of (filter p rows)) some.0 (IsPermutation-sym (ids_of (filter p rows)) ids same)
        (contains_had ids some.0 some.1)) in
        let x = unmapped (filter p rows) some.0 back in
        let was = has_filtered p rows x.0 x.1 in
        let keyed_there : IsTrue (is_int (rowid x.0)) = all_has _ rows x.0 keyed was.0 in
        let tie : Tied r x.0 = rw (int_is (rowid x.0) keyed_there, ← x.2) (equal_is _ some.2) in
        let one = one_row rows r x.0 up here was.0 tie in
        true≢false (sym was.1 ∙ ap p (sym one) ∙ lacks)

    agrees : (r : Row) → Has rows r → is_among ids r ≡ p r
    agrees r here = elim (cases_Bool (p r)) [
      | inl passed ↦
          let kept = mapped (filter p rows) r (has_kept p rows r here passed) in
          let there = has_contained ids (id_in (rowid r)) (Contains-permutation (ids_of (filter p rows)) ids
          (id_in (rowid r)) same (contains_had (ids_of (filter p rows)) (id_in (rowid r)) kept)) in
          let keyed_here : IsTrue (is_int (rowid r)) = all_has _ rows r keyed here in
          some_from (λ id. has_rowid id r) ids (id_in (rowid r)) there (same_rowid r keyed_here) ∙ sym passed
      | inr lacks ↦ elim (cases_Bool (is_among ids r)) [
        | inl hit ↦ absurd (clash r here lacks hit)
        | inr none ↦ none ∙ sym lacks
      ]
    ]
