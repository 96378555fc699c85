-- Lists with commas between, an item at a time.
use Rattle.std.proofs.Common.{◌≡◌, ℕ, ◌+◌, ◌-◌, ◌<◌, ◌≤◌, List, ◌∷◌, length, get_or, take, drop, slice_get, option_map, Option, Some, None, sym, ap, ◌∙◌, flat_map}
use Rattle.std.proofs.lemmas.List.{drop_more, take_rest}
use Rattle.std.proofs.lemmas.Option.{slice_get_within, get_or_from_slice_get}
use Rattle.mls_lattice.specs.Policy.{Name}
use Rattle.mls_tokens.specs.declared.token.Token.{Token}
use Rattle.mls_translang.specs.Layout.{Laid, puts}
use Rattle.mls_tokens.specs.Text.{comma_tokens, separated}
use Rattle.mls_translang.proofs.LayoutLemmas.{puts-append}

module _ {X : Type 0} (f : X → List Token) (xs : List X) (x : X) where
  -- the item at i, put before those behind it
  pub rest_more : (w : Laid) (i : ℕ) → x ≡ get_or xs i x → i < length xs
      → puts (puts w (f x)) (flat_map f (drop (i + 1) xs)) ≡ puts w (flat_map f (drop i xs))
  rest_more w i is within =
      sym (puts-append w (f x) (flat_map f (drop (i + 1) xs)))
      ∙ ap (λ l. puts w (flat_map f l)) (ap (λ y. y ∷ drop (i + 1) xs) is ∙ sym (drop_more xs i x within))

  -- the first item, put before those behind it
  pub separated_more : (w : Laid) → x ≡ get_or xs 0 x → 1 ≤ length xs
      → puts (puts w (f x)) (flat_map (comma_tokens f) (take (length xs - 1) (drop 1 xs))) ≡ puts w (separated f xs)
  separated_more w is within =
      ap (λ l. puts (puts w (f x)) (flat_map (comma_tokens f) l)) (take_rest xs 1)
      ∙ sym (puts-append w (f x) (flat_map (comma_tokens f) (drop 1 xs)))
      ∙ ap (λ l. puts w (separated f l)) (ap (λ y. y ∷ drop 1 xs) is ∙ sym (drop_more xs 0 x within))

-- ---- lists of things by name, read by their places

module _ {T : Type 0} (f : Name × T → List Token) (xs : List (Name × T)) (name : Name) (x : T) where
  whole : (o : Option (Name × T)) → option_map (λ y. y.0) o ≡ Some name → option_map (λ y. y.1) o ≡ Some x
      → o ≡ Some (name, x)
  whole None e h = absurd cc
  whole (Some y) e h =
      let named : y.0 ≡ name = cc in
      let rest : y.1 ≡ x = cc in
      λ i. Some (named i, rest i)

  module _ (i : ℕ) (e : option_map (λ y. y.0) (slice_get xs i) ≡ Some name) (h : option_map (λ y. y.1) (slice_get xs i)
      ≡ Some x) where
    found : slice_get xs i ≡ Some (name, x)
    found = whole (slice_get xs i) e h

    is_here : (name, x) ≡ get_or xs i (name, x)
    is_here = sym (get_or_from_slice_get xs i (name, x) (name, x) found)

    pub place_more : (w : Laid) → puts (puts w (f (name, x))) (flat_map f (drop (i + 1) xs))
        ≡ puts w (flat_map f (drop i xs))
    place_more w = rest_more f xs (name, x) w i is_here (slice_get_within xs i (name, x) found)

  pub first_more : option_map (λ y. y.0) (slice_get xs 0) ≡ Some name → option_map (λ y. y.1) (slice_get xs 0) ≡ Some x
      → (w : Laid)
      → puts (puts w (f (name, x))) (flat_map (comma_tokens f) (drop 1 xs)) ≡ puts w (separated f xs)
  first_more e h w =
      ap (λ l. puts (puts w (f (name, x))) (flat_map (comma_tokens f) l)) (sym (take_rest xs 1))
      ∙ separated_more f xs (name, x) w (is_here 0 e h) (slice_get_within xs 0 (name, x) (found 0 e h))
