-- What holds of the tables of a policy stays so with one row more.
use Rattle.std.proofs.Common.{◌≡◌, ◌≢◌, ℕ, ◌+◌, ◌<◌, ◌≤◌, List, [], ◌∷◌, ◌++◌, length, get_or, drop, map, Result, Ok, refl, sym, ap, ◌∙◌, inl, inr, arith}
use Rattle.std.proofs.lemmas.Bool.{cases_lt}
use Rattle.std.proofs.lemmas.List.{get_or_append_left, map_push}
use Rattle.toml.specs.declared.value.Value.{Value}
use Rattle.toml.specs.Data.{Data}
use Rattle.toml.specs.View.{view, items_view}
use Rattle.mls_lattice.specs.declared.fault.FieldFault.{FieldFault}
use Rattle.mls_lattice.specs.PolicyReading.{rows_at}
use Rattle.mls_lattice.proofs.PolicyReadingLemmas.{rows-more}
use Rattle.mls_lattice.specs.declared.tables.NamedLabel.{NamedLabel}
use Rattle.mls_lattice.specs.Lattice.{Pair, bottom}
use Rattle.mls_lattice.specs.Labels.{Labels, label_of, AreDistinct}
use Rattle.mls_lattice.specs.Policy.{Named, named}

last_of : (ls : Labels) (p : Pair) → label_of (ls ++ p ∷ []) (length ls) ≡ p
last_of [] p = refl
last_of (l ∷ ls) p = last_of ls p

pub distinct_more : (ls : Labels) (p : Pair) → AreDistinct ls → ((a : ℕ) → a < length ls → label_of ls a ≢ p)
    → AreDistinct (ls ++ p ∷ [])
distinct_more ls p apart new a b in_a in_b same =
    let before : (i : ℕ) → i < length ls → label_of (ls ++ p ∷ []) i ≡ label_of ls i = λ i lt. get_or_append_left ls
    (p ∷ []) bottom i lt in
    elim (cases_lt a (length ls)) [
      | inl la ↦ elim (cases_lt b (length ls)) [
        | inl lb ↦ apart a b la lb (sym (before a la) ∙ same ∙ before b lb)
        | inr ge ↦
            let at : b ≡ length ls = at_end b in_b ge in
            absurd (new a la (sym (before a la) ∙ same ∙ ap (label_of (ls ++ p ∷ [])) at ∙ last_of ls p))
      ]
      | inr ge ↦ elim (cases_lt b (length ls)) [
        | inl lb ↦
            let at : a ≡ length ls = at_end a in_a ge in
            absurd (new b lb (sym (before b lb) ∙ sym same ∙ ap (label_of (ls ++ p ∷ [])) at ∙ last_of ls p))
        | inr other ↦ at_end a in_a ge ∙ sym (at_end b in_b other)
      ]
    ]
  where
    grown : (xs : Labels) (x : Pair) → length (xs ++ x ∷ []) ≡ length xs + 1
    grown [] x = refl
    grown (y ∷ xs) x = let h = grown xs x in omega (arith, h)

    at_end : (i : ℕ) → i < length (ls ++ p ∷ []) → length ls ≤ i → i ≡ length ls
    at_end i lt ge = let g = grown ls p in omega (arith, lt, ge, g)

pub distinct-none : AreDistinct []
distinct-none a b in_a in_b same = absurd (omega arith)

-- a row of labels
pub label_rows-more : (items : List Value) (i : ℕ) (v : Value) (read : List Named → Data → Result Named FieldFault)
    (front : List NamedLabel) (l : NamedLabel)
    → i < length items → v ≡ get_or items i v → read (map named front) (view v) ≡ Ok (named l)
    → rows_at read (map named (front ++ l ∷ [])) (items_view (drop (i + 1) items)) ≡ rows_at read (map named front)
    (items_view (drop i items))
label_rows-more items i v read front l within is ok =
    ap (λ ls. rows_at read ls (items_view (drop (i + 1) items))) (map_push named front l)
    ∙ rows-more items i v within is read (map named front) (named l) ok
