-- Runs of bytes.
use Rattle.std.proofs.Common.{◌≡◌, ℕ, ◌<◌, ◌≤◌, Bool, true, false, List, [], ◌∷◌, ◌++◌, length, take, drop, slice_index, arith, one-add, refl, inl, inr, IsAscii, get_or-take, length-take}
use Rattle.std.specs.List.{prefix_len, AllByRecursion}
use Rattle.std.specs.Char.{is_ascii_digit}
use Rattle.std.proofs.lemmas.Bool.{cases_Bool, cases_lt}
use Rattle.std.proofs.lemmas.List.{get_or_past}
use Rattle.std.proofs.lemmas.List.Sums.{prefix_len_passes, prefix_len-le-length}
use Rattle.mls_lattice.specs.Name.{is_name_byte}
use Rattle.mls_lattice.proofs.AsciiLemmas.{name_byte_small, digit_small}

-- a run of ASCII bytes
run_ascii : (p : ℕ → Bool) → ((b : ℕ) → p b ≡ true → b < 128) → (bytes : List ℕ)
    → IsAscii (take (prefix_len p bytes) bytes)
run_ascii p small bytes = λ i.
    elim (cases_lt i (prefix_len p bytes)) [
      | inl lt ↦ rw (get_or-take (prefix_len p bytes) bytes i 0 lt) (small _ (prefix_len_passes p bytes i 0 lt))
      | inr le ↦ rw (get_or_past (take (prefix_len p bytes) bytes) i 0
          (omega (arith, length-take (prefix_len p bytes) bytes))) (omega arith)
    ]

pub name_ascii : (bytes : List ℕ) → IsAscii (take (prefix_len is_name_byte bytes) bytes)
name_ascii = run_ascii is_name_byte name_byte_small

pub digits_ascii : (bytes : List ℕ) → IsAscii (take (prefix_len is_ascii_digit bytes) bytes)
digits_ascii = run_ascii is_ascii_digit digit_small

pub name_within : (bytes : List ℕ) → prefix_len is_name_byte bytes ≤ length bytes
name_within = prefix_len-le-length is_name_byte

pub digits_within : (bytes : List ℕ) → prefix_len is_ascii_digit bytes ≤ length bytes
digits_within = prefix_len-le-length is_ascii_digit

-- ---- runs

abbrev pub AllAre : (ℕ → Bool) → List ℕ → Type 0
AllAre p bs = AllByRecursion (λ b. p b ≡ true) bs

pub run_all : (p : ℕ → Bool) (bs : List ℕ) → AllAre p (take (prefix_len p bs) bs)
run_all p [] = tt
run_all p (b ∷ bs) =
    elim (cases_Bool (p b)) [
      | inl on ↦ rw (on, one-add (prefix_len p bs)) (on, run_all p bs)
      | inr off ↦ rw off tt
    ]

pub run_stops : (p : ℕ → Bool) → p 0 ≡ false → (bs : List ℕ) → p (slice_index (drop (prefix_len p bs) bs) 0) ≡ false
run_stops p none [] = none
run_stops p none (b ∷ bs) =
    elim (cases_Bool (p b)) [
      | inl on ↦ rw (on, one-add (prefix_len p bs)) (run_stops p none bs)
      | inr off ↦ rw off off
    ]

pub run_len : (p : ℕ → Bool) (xs ys : List ℕ) → AllAre p xs → p (slice_index ys 0) ≡ false → prefix_len p (xs ++ ys)
    ≡ length xs
run_len p [] [] h s = refl
run_len p [] (y ∷ ys) h s = rw s refl
run_len p (x ∷ xs) ys h s = rw (h.0, run_len p xs ys h.1 s) (one-add (length xs))

pub ruleset runs = (name_ascii, digits_ascii, name_within, digits_within)
