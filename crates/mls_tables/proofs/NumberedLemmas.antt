-- Entries whose numbers rise by one are the list that they are a permutation of.
use Rattle.std.proofs.Common.{◌≡◌, inl, inr, ℕ, suc, ◌+◌, ◌<◌, ℤ, ◌+ℤ◌, pos, List, [], ◌∷◌, map, filter, length, nat_lt, Bool, true, false, IsPermutation, refl, sym, ap, subst, subst₂, ◌∙◌, arith, int_eq}
use Rattle.std.proofs.lemmas.Bool.{and_parts, and_from, cases_Bool}
use Rattle.std.proofs.lemmas.Bool.Decides.{nat_tests}
use Rattle.std.proofs.lemmas.Int.{ints}
use Rattle.std.proofs.lemmas.List.Sorted.{length_permutation, IsPermutation-refl, IsPermutation-trans}
use Rattle.sqlite_trees.proofs.ListLemmas.{IsPermutation-filter}
use Rattle.sqlite.proofs.Callers.{one_permutation}
use Rattle.mls_tables.specs.declared.rows.AuditRow.{AuditRow}
use Rattle.mls_tables.specs.Rows.{numbered, are_numbered}

has_number : ℕ → AuditRow → Bool
has_number j a = int_eq a.number (pos j)

pub equal_ints : (m n : ℤ) → int_eq m n ≡ true → m ≡ n
equal_ints m n h = grind (arith, ints, nat_tests)

apart_ints : (j k : ℕ) → j < k → int_eq (pos k) (pos j) ≡ false
apart_ints j k h = grind (arith, ints, nat_tests)

same_int : (k : ℕ) → int_eq (pos k) (pos k) ≡ true
same_int k = grind (arith, ints, nat_tests)

next_is : (k : ℕ) → pos k +ℤ pos 1 ≡ pos (k + 1)
next_is k = omega (arith, ints)

abbrev texts : List AuditRow → List (List ℕ)
texts = map (λ a. a.bytes)

-- rows that are numbered are those of their texts
pub spelled : (k : ℕ) (rows : List AuditRow) → are_numbered (pos k) rows ≡ true → rows ≡ numbered k (texts rows)
spelled k [] h = refl
spelled k (a ∷ rows) h =
    let parts = and_parts _ _ h in
    let number = equal_ints a.number (pos k) parts.0 in
    let later = spelled (k + 1) rows (subst (λ n. are_numbered n rows ≡ true) (next_is k) parts.1) in
    ap (λ n. record { number = n; bytes = a.bytes } ∷ rows) number ∙ ap (λ l. record { number = pos k; bytes = a.bytes }
    ∷ l) later

-- and rows of texts are numbered
pub rising : (k : ℕ) (list : List (List ℕ)) → are_numbered (pos k) (numbered k list) ≡ true
rising k [] = refl
rising k (b ∷ list) = and_from _ _ (same_int k) (subst (λ n. are_numbered n (numbered (k + 1) list) ≡ true)
    (sym (next_is k)) (rising (k + 1) list))

-- no row has a number below the first
none_below : (j k : ℕ) (bs : List (List ℕ)) → j < k → filter (has_number j) (numbered k bs) ≡ []
unfolding has_number
none_below j k [] low = refl
none_below j k (b ∷ bs) low = rw (apart_ints j k low) (none_below j (k + 1) bs (omega arith))

first_of : (k : ℕ) (b : List ℕ) (bs : List (List ℕ)) → filter (has_number k) (numbered k (b ∷ bs))
    ≡ record { number = pos k; bytes = b } ∷ []
unfolding has_number
first_of k b bs = rw (same_int k) (ap (λ l. record { number = pos k; bytes = b } ∷ l)
    (none_below k (k + 1) bs (omega arith)))

later_of : (j k : ℕ) (b : List ℕ) (bs : List (List ℕ)) → k < j → filter (has_number j) (numbered k (b ∷ bs))
    ≡ filter (has_number j) (numbered (k + 1) bs)
unfolding has_number
later_of j k b bs high = rw (differs j k high) refl
  where
    differs : (j k : ℕ) → k < j → int_eq (pos k) (pos j) ≡ false
    differs j k h = grind (arith, ints, nat_tests)

above : (j k : ℕ) → nat_lt k j ≡ true → k < j
above j k h = grind (arith, nat_tests)

not_above : (j k : ℕ) → nat_lt k j ≡ false → j < k + 1
not_above j k h = grind (arith, nat_tests)

-- so texts that are numbered alike are the same
same_texts : (k : ℕ) (bs cs : List (List ℕ)) → length bs ≡ length cs
    → ((j : ℕ) → IsPermutation (filter (has_number j) (numbered k bs)) (filter (has_number j) (numbered k cs)))
    → bs ≡ cs
same_texts k [] [] len alike = refl
same_texts k [] (c ∷ cs) len alike = absurd (omega (arith, len))
same_texts k (b ∷ bs) [] len alike = absurd (omega (arith, len))
same_texts k (b ∷ bs) (c ∷ cs) len alike =
    let one = one_permutation (record { number = pos k; bytes = b }) (record { number = pos k; bytes = c } ∷ [])
    (subst₂ (λ (xs ys : List AuditRow). IsPermutation xs ys) (first_of k b bs) (first_of k c cs) (alike k)) in
    let head : b ≡ c = sym (ap bytes_of one) in
    let tail : bs ≡ cs = same_texts (k + 1) bs cs (omega (arith, len)) (λ j. later j) in
    ap (λ x. x ∷ bs) head ∙ ap (λ l. c ∷ l) tail
  where
    bytes_of : List AuditRow → List ℕ
    bytes_of [] = []
    bytes_of (a ∷ more) = a.bytes

    later : (j : ℕ) → IsPermutation (filter (has_number j) (numbered (k + 1) bs))
        (filter (has_number j) (numbered (k + 1) cs))
    later j = elim (cases_Bool (nat_lt k j)) [
      | inl high ↦ subst₂ (λ (xs ys : List AuditRow). IsPermutation xs ys) (later_of j k b bs (above j k high))
          (later_of j k c cs (above j k high)) (alike j)
      | inr low ↦ subst₂ (λ (xs ys : List AuditRow). IsPermutation xs ys)
          (sym (none_below j (k + 1) bs (not_above j k low))) (sym (none_below j (k + 1) cs (not_above j k low)))
          (IsPermutation-refl [])
    ]

length_numbered : (k : ℕ) (bs : List (List ℕ)) → length (numbered k bs) ≡ length bs
length_numbered k [] = refl
length_numbered k (b ∷ bs) = ap suc (length_numbered (k + 1) bs)

pub in_order : (list : List (List ℕ)) (audit rows : List AuditRow) → IsPermutation (numbered 1 list) audit
    → IsPermutation audit rows → are_numbered (pos 1) rows ≡ true → rows ≡ numbered 1 list
in_order list audit rows stored found up =
    let is = spelled 1 rows up in
    let all : IsPermutation (numbered 1 list) (numbered 1 (texts rows)) = subst (IsPermutation (numbered 1 list)) is
    (IsPermutation-trans (numbered 1 list) audit rows stored found) in
    let long = length_permutation (numbered 1 list) (numbered 1 (texts rows)) all in
    let len : length list ≡ length (texts rows) = omega (
      arith,
      long,
      length_numbered 1 list,
      length_numbered 1 (texts rows),
    ) in
    is ∙ ap (numbered 1) (sym (same_texts 1 list (texts rows) len (λ j. IsPermutation-filter (has_number j)
    (numbered 1 list) (numbered 1 (texts rows)) all)))
