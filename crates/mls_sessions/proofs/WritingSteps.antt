-- What is written, write by write.
use Rattle.std.proofs.Common.{◌≡◌, ℕ, List, ◌++◌, Option, length, take, drop, sym, ap, ◌∙◌, subst, append_assoc, take-append-drop, ◌-◌}
use Rattle.std.proofs.lemmas.List.{take_rest}
use Rattle.std.specs.Io.KnownBytes.{Appends}
use Rattle.std.proofs.KnownBytes.{Appends-trans}

-- so much of the bytes is written, and this is left
abbrev pub Written : Option (List ℕ) → Option (List ℕ) → List ℕ → List ℕ → Type 0
Written before after bytes rest = (part : List ℕ) × (bytes ≡ part ++ rest) × Appends before after part

pub written_more : (a b c : Option (List ℕ)) (bytes rest : List ℕ) (n : ℕ) → Written a b bytes rest
    → Appends b c (take n rest) → Written a c bytes (drop n rest)
written_more a b c bytes rest n h k =
    let (part, split, done) = h in (
      part ++ take n rest,
      split ∙ ap (λ l. part ++ l) (sym (take-append-drop n rest))
          ∙ sym (append_assoc part (take n rest) (drop n rest)),
      Appends-trans a b c part (take n rest) done k,
    )

pub written_next : (a b c : Option (List ℕ)) (bytes rest : List ℕ) (n : ℕ) → Written a b bytes rest
    → Appends b c (take n rest) → Written a c bytes (take (length rest - n) (drop n rest))
written_next a b c bytes rest n h k = subst (Written a c bytes) (sym (take_rest rest n))
    (written_more a b c bytes rest n h k)
