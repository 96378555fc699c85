-- A value of a kind has a spelling, and so has a key of a scheme.
use Rattle.std.proofs.Common.{◌≡◌, ℕ, suc, ◌^◌, ◌<◌, true, nat_lt, List, [], ◌∷◌, length, ℤ, pos, negsuc, Option, None, Some, refl, ap, arith, FitsSigned, IsUtf8, IfSome, w64, lt-ltb, ltb-true}
use Rattle.std.specs.List.{AllZip, AllByRecursion}
use Rattle.std.specs.Str.{is_utf8}
use Rattle.std.proofs.lemmas.Bool.{and_parts}
use Rattle.std.proofs.lemmas.Str.{is_utf8-from_IsUtf8, IsUtf8-from_is_utf8}
use Rattle.mls_scheme.specs.declared.value.Kind.{Kind}
use Rattle.mls_scheme.specs.declared.value.Kind.TheVariants as kinds
use Rattle.mls_scheme.specs.declared.value.Value.{Value}
use Rattle.mls_scheme.specs.declared.value.Value.TheVariants.{Int, Text}
use Rattle.mls_scheme.specs.Value.{is_signed, is_text, is_kind, fits_kind}
use Rattle.mls_scheme.specs.Scheme.{Attribute, Scheme, IsScheme}
use Rattle.mls_scheme.specs.Spelling.{HasSpelling, IsSpelledKey}

-- ---- in code each number has 64 bits, and each text is UTF-8

pub signed-from : (n : ℤ) → FitsSigned w64 n → is_signed n ≡ true
unfolding is_signed
signed-from (pos n) h = lt-ltb n (2 ^ 63) h.sfits
signed-from (negsuc n) h = lt-ltb n (2 ^ 63) h.sfits

pub text-from : (s : List ℕ) → IsUtf8 s → nat_lt (length s) (2 ^ 32) ≡ is_text s
unfolding is_text
text-from s h = rw (is_utf8-from_IsUtf8 s h) refl

pub ruleset bounds = (signed-from, text-from)

-- ---- a spelling

pub signed-true : (n : ℤ) → is_signed n ≡ true → FitsSigned w64 n
unfolding is_signed
signed-true (pos n) h = record { sfits = ltb-true n (2 ^ 63) h }
signed-true (negsuc n) h = record { sfits = ltb-true n (2 ^ 63) h }

pub text-true : (s : List ℕ) → is_text s ≡ true → IsUtf8 s × (length s < 2 ^ 32)
unfolding is_text
text-true s h = let p = and_parts (is_utf8 s) (nat_lt (length s) (2 ^ 32)) h
    in (IsUtf8-from_is_utf8 s p.0, ltb-true (length s) (2 ^ 32) p.1)

-- what is of a kind has a spelling
pub kind-spelled : (v : Value) (k : Kind) → is_kind v k ≡ true → HasSpelling v
kind-spelled (Int n) kinds.Int h = (signed-true n h, tt)
kind-spelled (Int n) kinds.Text h = absurd cc
kind-spelled (Text s) kinds.Int h = absurd cc
kind-spelled (Text s) kinds.Text h = text-true s h

pub fits-spelled : (v : Option Value) (k : Kind) → fits_kind v k ≡ true → IfSome v HasSpelling
fits-spelled None k h = tt
fits-spelled (Some v) k h = kind-spelled v k h

-- ---- keys

values-spelled : (ats : List Attribute) (vs : List Value) → AllZip (λ a v. is_kind v a.1.kind ≡ true) ats vs
    → AllByRecursion HasSpelling vs
values-spelled [] [] h = tt
values-spelled [] (v ∷ vs) h = absurd h
values-spelled (a ∷ ats) [] h = absurd h
values-spelled (a ∷ ats) (v ∷ vs) h = (kind-spelled v a.1.kind h.0, values-spelled ats vs h.1)

kinds-length : (ats : List Attribute) (vs : List Value) → AllZip (λ a v. is_kind v a.1.kind ≡ true) ats vs
    → length vs ≡ length ats
kinds-length [] [] h = refl
kinds-length [] (v ∷ vs) h = absurd h
kinds-length (a ∷ ats) [] h = absurd h
kinds-length (a ∷ ats) (v ∷ vs) h = ap suc (kinds-length ats vs h.1)

-- values of the kinds of the key attributes have what the bytes of a key ask, since a scheme has one to four of these
pub key-spelled : (scheme : Scheme) (key : List Value) → IsScheme scheme
    → AllZip (λ a v. is_kind v a.1.kind ≡ true) scheme.keys key → IsSpelledKey key
key-spelled scheme key is kinds =
    let len = kinds-length scheme.keys key kinds in
    let some = is.some_key in
    let few = is.few_keys in
    record {
      count = record { some = omega (arith, len, some); few = omega (arith, len, few) };
      each =
          values-spelled scheme.keys key kinds;
    }
