-- A relation with attributes is a declared one, and its attributes are the key and the others.
use Rattle.std.proofs.Common.{◌≡◌, ℕ, ◌-◌, ◌<◌, ◌≤◌, nat_lt, true, false, length, map, get_or, refl, sym, ap, subst, arith, inl, inr}
use Rattle.std.proofs.Recursive.{every_front}
use Rattle.std.proofs.lemmas.Bool.{cases_lt}
use Rattle.std.proofs.lemmas.Bool.Decides.{nat_tests}
use Rattle.std.proofs.lemmas.List.{get_or_past}
use Rattle.mls_lattice.specs.Name.{is_name}
use Rattle.mls_lattice.proofs.NamedLemmas.{is_name_at}
use Rattle.mls_scheme.specs.Scheme.{Scheme, Schemes, IsScheme, scheme_of, other_of, no_scheme, no_attribute}
use Rattle.mls_scheme.proofs.SchemeNameLemmas.{split_names, other_is_name}
use Rattle.mls_translang.specs.Fits.{width}
use Rattle.mls_translang.specs.Kinds.{field_of}

no_width : (n i : ℕ) → n ≡ 0 → i < n → ⊥
no_width n i e h = omega (arith, e, h)

pub has_attribute : (schemes : Schemes) (relation i : ℕ) → i < width (scheme_of schemes relation)
    → relation < length schemes
has_attribute schemes relation i within =
    elim (cases_lt relation (length schemes)) [
      | inl lt ↦ lt
      | inr le ↦ absurd (no_width _ i (ap width (get_or_past schemes relation no_scheme le)) within)
    ]

module _ (scheme : Scheme) where
  pub as_key : (n : ℕ) → n < length scheme.keys → field_of scheme n ≡ get_or scheme.keys n no_attribute
  as_key n lt = let here : nat_lt n (length scheme.keys) ≡ true = grind (arith, nat_tests, lt) in rw here refl

  pub as_other : (n : ℕ) → length scheme.keys ≤ n → field_of scheme n ≡ other_of scheme (n - length scheme.keys)
  as_other n le = let there : nat_lt n (length scheme.keys) ≡ false = grind (arith, nat_tests, le) in rw there refl

  pub attribute_is_name : IsScheme scheme → (n : ℕ) → n < width scheme → is_name (field_of scheme n).0 ≡ true
  attribute_is_name valid n lt =
      elim (cases_lt n (length scheme.keys)) [
        | inl key ↦
            let names = every_front (λ x. is_name x ≡ true) _ (map (λ a. a.0) scheme.keys)
            (map (λ a. a.0) scheme.others) (split_names scheme valid) refl in
            subst (λ a. is_name a.0 ≡ true) (sym (as_key n key))
            (is_name_at (λ a. a.0) scheme.keys no_attribute names n key)
        | inr other ↦
            let le : length scheme.keys ≤ n = omega (arith, other) in
            subst (λ a. is_name a.0 ≡ true) (sym (as_other n le)) (other_is_name scheme valid (n - length scheme.keys)
            (omega (arith, le, lt)))
      ]
