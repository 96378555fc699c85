-- Rows of different rowids, in any order: what an edit leaves, up to the order.
use Rattle.std.proofs.Common.{◌≡◌, inl, inr, List, [], ◌∷◌, false, Less, Equal, Greater, Ordering, refl, sym, ap, ◌∙◌, IsPermutation, true≢false, arith, is_eq}
use Rattle.std.specs.List.{AllByRecursion}
use Rattle.std.specs.Ordering.{match_ordering, ordering_reverse}
use Rattle.sqlite_trees.proofs.TreeLemmas.{all-put_row}
use Rattle.std.proofs.lemmas.Bool.{or_parts}
use Rattle.std.proofs.lemmas.Cmp.{tied_back}
use Rattle.std.proofs.lemmas.List.Sorted.{IsPermutation-refl, IsPermutation-cons, IsPermutation-trans, IsPermutation-swap}
use Rattle.sqlite_value.specs.Order.{Row, value_cmp}
use Rattle.sqlite_value.specs.declared.value.Value.{Value}
use Rattle.sqlite_value.proofs.OrderLemmas.{value_cmp_total}
use Rattle.sqlite.specs.Tree.{rowid, put_row}
use Rattle.mls_tables.specs.Statements.{IsApart}
use Rattle.sqlite_rules.specs.Edit.{is_taken}
use Rattle.sqlite_rules.specs.Lists.{Has}
use Rattle.sqlite_rules.proofs.ListLemmas.{all_has}
use Rattle.sqlite_rules.proofs.PlaceLemmas.{Tied}

pub swapped : {X : Type 0} (a b : X) (rows : List X) → IsPermutation (a ∷ b ∷ rows) (b ∷ a ∷ rows)
swapped a b rows = IsPermutation-swap (a ∷ b ∷ rows) (b ∷ a ∷ rows) 0 1 (omega arith) (omega arith) refl

-- a fresh row is one more row, wherever it goes
pub put_fresh : (new : Row) (rows : List Row) → is_taken rows new ≡ false
    → IsPermutation (new ∷ rows) (put_row new rows)
put_fresh new [] free = IsPermutation-refl (new ∷ [])
put_fresh new (r ∷ rows) free = go (value_cmp (rowid r) (rowid new)) (or_parts _ _ free).0
    (put_fresh new rows (or_parts _ _ free).1)
  where
    go : (o : Ordering) → is_eq o ≡ false → IsPermutation (new ∷ rows) (put_row new rows)
        → IsPermutation (new ∷ r ∷ rows) (match_ordering o (r ∷ put_row new rows) (new ∷ rows) (new ∷ r ∷ rows))
    go Less other later = IsPermutation-trans (new ∷ r ∷ rows) (r ∷ new ∷ rows) (r ∷ put_row new rows)
        (swapped new r rows) (IsPermutation-cons r (new ∷ rows) (put_row new rows) later)
    go Equal other later = absurd (true≢false other)
    go Greater other later = IsPermutation-refl (new ∷ r ∷ rows)

-- a row is known by its rowid
pub one_row : (rows : List Row) (a b : Row) → IsApart rows → Has rows a → Has rows b → Tied a b → a ≡ b
one_row [] a b apart h k tie = absurd h
one_row (r ∷ rows) a b apart (inl h) (inl k) tie = h ∙ sym k
one_row (r ∷ rows) a b apart (inl h) (inr k) tie = absurd (let other = all_has _ rows b apart.0 k
    in true≢false (sym (ap is_eq (rw h at tie)) ∙ other))
one_row (r ∷ rows) a b apart (inr h) (inl k) tie = absurd (let other = all_has _ rows a apart.0 h
    in true≢false (sym (ap is_eq (tied_back value_cmp_total (rowid a) (rowid r) (rw k at tie))) ∙ other))
one_row (r ∷ rows) a b apart (inr h) (inr k) tie = one_row rows a b apart.1 h k tie

taken_off : (new : Row) (rows : List Row) → is_taken rows new ≡ false
    → AllByRecursion (λ r. is_eq (value_cmp (rowid r) (rowid new)) ≡ false) rows
taken_off new [] free = tt
taken_off new (r ∷ rows) free = let parts = or_parts _ _ free in (parts.0, taken_off new rows parts.1)

reversed_apart : (o p : Ordering) → o ≡ ordering_reverse p → is_eq o ≡ false → is_eq p ≡ false
reversed_apart o Less e h = refl
reversed_apart o Equal e h = absurd (true≢false (sym (ap is_eq e) ∙ h))
reversed_apart o Greater e h = refl

pub other_way : (a b : Value) → is_eq (value_cmp a b) ≡ false → is_eq (value_cmp b a) ≡ false
other_way a b = reversed_apart (value_cmp a b) (value_cmp b a) (value_cmp_total.antisymm a b)

all_other_way : (new : Row) (rows : List Row) → AllByRecursion (λ r. is_eq (value_cmp (rowid r) (rowid new))
    ≡ false) rows → AllByRecursion (λ r. is_eq (value_cmp (rowid new) (rowid r)) ≡ false) rows
all_other_way new [] h = tt
all_other_way new (r ∷ rows) h = (other_way (rowid r) (rowid new) h.0, all_other_way new rows h.1)

-- a fresh row keeps rows apart
pub put_apart : (new : Row) (rows : List Row) → is_taken rows new ≡ false → IsApart rows → IsApart (put_row new rows)
put_apart new [] free apart = (tt, tt)
put_apart new (r ∷ rows) free apart = go (value_cmp (rowid r) (rowid new)) refl
    (put_apart new rows (or_parts _ _ free).1 apart.1)
  where
    go : (o : Ordering) → value_cmp (rowid r) (rowid new) ≡ o → IsApart (put_row new rows)
        → IsApart (put_row new (r ∷ rows))
    go Less e later = rw e (
      (all-put_row (λ b. is_eq (value_cmp (rowid r) (rowid b)) ≡ false) new rows
          (or_parts _ _ free).0 apart.0),
      later,
    )
    go Equal e later = absurd (true≢false (sym (ap is_eq e) ∙ (or_parts _ _ free).0))
    go Greater e later = rw e (all_other_way new (r ∷ rows) (taken_off new (r ∷ rows) free), apart)
