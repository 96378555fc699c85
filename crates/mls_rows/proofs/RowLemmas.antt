-- Entries and their rows.
use Rattle.std.proofs.Common.{◌≡◌, ℕ, ◌+◌, List, [], ◌∷◌, map, refl, ap}
use Rattle.mls_tables.specs.Rows.{numbered}

pub texts_of : (k : ℕ) (list : List (List ℕ)) → map (λ r. r.bytes) (numbered k list) ≡ list
texts_of k [] = refl
texts_of k (b ∷ list) = ap (λ l. b ∷ l) (texts_of (k + 1) list)
