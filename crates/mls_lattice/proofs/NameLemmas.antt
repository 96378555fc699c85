-- A NAME is a short text of ASCII.
use Rattle.std.proofs.Common.{◌≡◌, ◌<◌, ◌≤◌, true, length, arith, IsUtf8, leb-true}
use Rattle.std.specs.List.{list_all}
use Rattle.std.proofs.lemmas.Bool.{and_parts, eqb-false, not-true}
use Rattle.std.proofs.lemmas.Str.{IsUtf8-from_ascii}
use Rattle.mls_lattice.specs.Name.{is_name, is_name_byte}
use Rattle.mls_lattice.specs.Policy.{Name}
use Rattle.mls_lattice.proofs.AsciiLemmas.{name_byte_small, all_ascii}

record HasForm (name : Name) : Type 0 where
  some : 0 < length name
  few : length name ≤ 32
  bytes : list_all is_name_byte name ≡ true

form : (name : Name) → is_name name ≡ true → HasForm name
unfolding is_name
form name h =
    let a = and_parts _ _ h in
    let b = and_parts _ _ a.0 in
    let c = and_parts _ _ b.0 in
    let d = and_parts _ _ c.0 in
    let some : length name ≡ 0 → ⊥ = eqb-false (length name) 0 (not-true _ d.0) in
    record { some = omega (arith, some); few = leb-true (length name) 32 d.1; bytes = b.1 }

-- its length stands in a byte
pub name-short : (name : Name) → is_name name ≡ true → length name < 256
name-short name h = let few = (form name h).few in omega (arith, few)

pub name-utf8 : (name : Name) → is_name name ≡ true → IsUtf8 name
name-utf8 name h = IsUtf8-from_ascii name (all_ascii is_name_byte name_byte_small name (form name h).bytes)
