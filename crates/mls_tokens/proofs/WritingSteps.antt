-- A text written byte by byte.
use Rattle.std.proofs.Common.{◌≡◌, ℕ, ◌+◌, ◌<◌, ◌≤◌, List, ◌++◌, length, get_or, take, append_assoc, append-nil, flat_map, take_all}
use Rattle.std.proofs.lemmas.List.{take_more}
use Rattle.std.proofs.lemmas.List.Concat.{flat_map-append}

module _ (f : ℕ → List ℕ) (front xs text : List ℕ) (i : ℕ) (written : text ≡ front ++ flat_map f (take i xs)) where
  pub written_more : (next : List ℕ) → i < length xs → next ≡ text ++ f (get_or xs i 0)
      → next ≡ front ++ flat_map f (take (i + 1) xs)
  written_more next more pushed = rw (pushed, written, take_more xs i 0 more, flat_map-append)
      (simp (append_assoc, append-nil))

  pub written_all : length xs ≤ i → text ≡ front ++ flat_map f xs
  written_all over = rw take_all at written
