-- Things by name, as a list and as the entries of a map.
use Rattle.std.proofs.Common.{◌≡◌, ℕ, suc, ◌+◌, Bool, true, false, ◌||◌, List, [], ◌∷◌, ◌++◌, length, map, cond, not, nat_lt, Some, None, is_some, String, string_bytes, refl, sym, ap, ◌∙◌, inl, inr, arith, position, bytes_eq, lt-ltb, string_eq}
use Rattle.std.specs.List.{prefix_len, list_any}
use Rattle.std.specs.Map.{keys_of}
use Rattle.std.specs.Cmp.Lexicographic.{nat_list_eq_equiv}
use Rattle.std.proofs.lemmas.Bool.{or_parts, cases_Bool}
use Rattle.std.proofs.lemmas.Bool.Decides.{nat_tests}
use Rattle.std.proofs.lemmas.List.{length-map}
use Rattle.mls_lattice.specs.Policy.{Name}
use Rattle.indexmap.specs.IndexMap.{insert_entry}
use Rattle.mls_scheme.specs.Named.{item_of, has_name}

module _ {Z T : Type 0} where
  before : (es : List (String Z × T)) (name : Name) → prefix_len (λ k. not (bytes_eq name (string_bytes k)))
      (keys_of es) ≡ prefix_len (λ (x : Name × T). not (bytes_eq x.0 name)) (map item_of es)
  before [] name = refl
  before (e ∷ es) name =
      let turned : bytes_eq name (string_bytes e.0) ≡ bytes_eq (string_bytes e.0) name = nat_list_eq_equiv.symm name
      (string_bytes e.0) in
      λ i. cond (not (turned i)) (1 + before es name i) 0

  -- the place of a name
  pub place_of_name : (es : List (String Z × T)) (name : Name) → position (λ k. bytes_eq name (string_bytes k))
      (keys_of es) ≡ position (λ (x : Name × T). bytes_eq x.0 name) (map item_of es)
  place_of_name es name =
      λ i. cond (nat_lt (before es name i) ((length-map es (λ (e : String Z × T). e.0)
      ∙ sym (length-map es item_of)) i)) (Some (before es name i)) None

  -- a new name goes last
  pub pushed : (es : List (String Z × T)) (name : String Z) (item : T) → has_name (map item_of es) (string_bytes name)
      ≡ false
      → map item_of (insert_entry string_eq es name item) ≡ map item_of es ++ item_of (name, item) ∷ []
  pushed [] name item new = refl
  pushed (e ∷ es) name item new =
      let apart = or_parts (bytes_eq (string_bytes e.0) (string_bytes name)) (has_name (map item_of es)
      (string_bytes name)) new in
      let other : string_eq name e.0 ≡ false = nat_list_eq_equiv.symm (string_bytes name) (string_bytes e.0) ∙ apart.0
      in
      rw other (ap (λ xs. item_of e ∷ xs) (pushed es name item apart.1))

-- ---- places

module _ {X : Type 0} (p : X → Bool) where
  next : (k n : ℕ) → nat_lt (1 + k) (suc n) ≡ nat_lt k n
  next k n = grind (arith, nat_tests)

  is_within : (xs : List X) → nat_lt (prefix_len (λ x. not (p x)) xs) (length xs) ≡ list_any p xs
  is_within [] = refl
  is_within (x ∷ xs) =
      elim (cases_Bool (p x)) [
        | inl on ↦ rw on (lt-ltb 0 (length (x ∷ xs)) (omega arith))
        | inr off ↦ rw off (next _ _ ∙ is_within xs)
      ]

  chosen : (b : Bool) (k : ℕ) → is_some (cond b (Some k) None) ≡ b
  chosen true k = refl
  chosen false k = refl

  -- there is a place exactly where an item passes
  pub is_some-position : (xs : List X) → is_some (position p xs) ≡ list_any p xs
  is_some-position xs = chosen _ _ ∙ is_within xs

pub ruleset place_steps = (is_some-position)

-- a name in two lists joined
pub has-append : {T : Type 0} (xs ys : List (Name × T)) (name : Name) → has_name (xs ++ ys) name
    ≡ (has_name xs name || has_name ys name)
has-append [] ys name = refl
has-append (x ∷ xs) ys name = ap (λ b. bytes_eq x.0 name || b) (has-append xs ys name)
    ∙ sym (grouped (bytes_eq x.0 name) (has_name xs name) (has_name ys name))
  where
    grouped : (a b c : Bool) → ((a || b) || c) ≡ (a || (b || c))
    grouped true b c = refl
    grouped false b c = refl

pub ruleset name_steps = (has-append)
