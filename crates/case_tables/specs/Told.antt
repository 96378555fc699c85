-- Texts that are told of cases.
use Rattle.std.specs.Prelude.{◌≡◌, ℕ, true, List, ◌++◌, string_bytes}
use Rattle.case_tables.specs.declared.told.Told.{Told}

-- a text that is whole was so before, and has these bytes behind those that it had
abbrev pub IsAdded : Told → Told → List ℕ → Type 0
IsAdded old new bytes = (new.is_whole ≡ true) → (old.is_whole ≡ true) × (string_bytes new.text ≡ string_bytes old.text
    ++ bytes)
