-- Relations and attributes, by number and by name.
use Rattle.std.proofs.Common.{◌≡◌, ℕ, ◌<◌, true, List, ◌++◌, length, map, get_or, Some, option_map, slice_get, refl, sym, ap, subst, ◌∙◌, position, bytes_eq}
use Rattle.std.proofs.Recursive.{every_back}
use Rattle.std.specs.List.{IsDistinct}
use Rattle.std.proofs.lemmas.List.{map-append}
use Rattle.std.proofs.lemmas.List.Elements.{All-from_recursion}
use Rattle.std.proofs.lemmas.Option.{same_Some, slice_get-get_or}
use Rattle.mls_lattice.specs.Name.{is_name}
use Rattle.mls_lattice.specs.Policy.{Name, AreNames}
use Rattle.mls_lattice.proofs.NamedLemmas.{distinct_behind, named_there, found_again, is_name_at}
use Rattle.mls_scheme.specs.declared.attributes.Column.{Column}
use Rattle.mls_scheme.specs.Scheme.{Attribute, Scheme, Schemes, IsScheme, AreSchemes, scheme_of, other_of, no_scheme, no_attribute, column_of}

-- ---- relations

pub scheme_is : (schemes : Schemes) → AreSchemes schemes → (n : ℕ) → n < length schemes → IsScheme (scheme_of schemes n)
scheme_is schemes valid n within = All-from_recursion IsScheme schemes valid.each n no_scheme within

pub relation_found : (schemes : Schemes) (name : Name) (n : ℕ) → position (λ s. bytes_eq s.name name) schemes ≡ Some n
    → (n < length schemes) × ((scheme_of schemes n).name ≡ name)
relation_found schemes = named_there (λ s. s.name) schemes no_scheme

pub relation_again : (schemes : Schemes) → AreSchemes schemes → (n : ℕ) → n < length schemes
    → position (λ s. bytes_eq s.name (scheme_of schemes n).name) schemes ≡ Some n
relation_again schemes valid = found_again (λ s. s.name) schemes no_scheme valid.distinct

-- ---- attributes

module _ (scheme : Scheme) (valid : IsScheme scheme) where
  abbrev name_of : Attribute → Name
  name_of a = a.0

  pub split_apart : IsDistinct bytes_eq (map name_of scheme.keys ++ map name_of scheme.others)
  split_apart = subst (IsDistinct bytes_eq) (map-append name_of scheme.keys scheme.others) valid.distinct

  pub split_names : AreNames (map name_of scheme.keys ++ map name_of scheme.others)
  split_names = subst AreNames (map-append name_of scheme.keys scheme.others) valid.names

  pub other_again : (n : ℕ) → n < length scheme.others
      → position (λ a. bytes_eq a.0 (other_of scheme n).0) scheme.others ≡ Some n
  other_again = found_again name_of scheme.others no_attribute (distinct_behind bytes_eq (map name_of scheme.keys)
      (map name_of scheme.others) split_apart)

  pub other_is_name : (n : ℕ) → n < length scheme.others → is_name (other_of scheme n).0 ≡ true
  other_is_name = is_name_at name_of scheme.others no_attribute (every_back (λ x. is_name x ≡ true) _
      (map name_of scheme.keys) (map name_of scheme.others) split_names refl)

pub column_there : (attributes : List Attribute) (i : ℕ) (c : Column) → i < length attributes
    → option_map column_of (slice_get attributes i) ≡ Some c → column_of (get_or attributes i no_attribute) ≡ c
column_there attributes i c within column =
    same_Some _ _ (sym (ap (option_map column_of) (slice_get-get_or attributes i no_attribute within)) ∙ column)
