-- Names of transactions.
use Rattle.std.proofs.Common.{◌≡◌, ℕ, true, false, List, IsUtf8}
use Rattle.std.specs.List.{list_all}
use Rattle.std.proofs.lemmas.Bool.{and_parts, false_from_ne_true}
use Rattle.mls_lattice.specs.Name.{is_name, is_name_byte}
use Rattle.mls_lattice.proofs.NameLemmas.{name-utf8}

-- its bytes are those of names
pub name_bytes : (bs : List ℕ) → is_name bs ≡ true → list_all is_name_byte bs ≡ true
unfolding is_name
name_bytes bs h = (and_parts _ _ (and_parts _ _ h).0).1

-- what is no text is no name
pub no_name : (bs : List ℕ) → (IsUtf8 bs → ⊥) → is_name bs ≡ false
no_name bs h = false_from_ne_true (is_name bs) (λ t. h (name-utf8 bs t))

pub ruleset proper = (no_name)
