-- Things by their names: the name of a number stands for it, and the number of a name has it.
use Rattle.std.proofs.Common.{◌≡◌, ℕ, ◌<◌, Bool, true, false, List, [], ◌∷◌, ◌++◌, length, map, get_or, Some, option_map, slice_get, refl, ap, subst, ◌∙◌, arith, unwrap_or, position, bytes_eq, lt-ltb}
use Rattle.std.specs.List.{IsDistinct, position_or_len}
use Rattle.std.proofs.lemmas.List.{get_or-map, length-map}
use Rattle.std.proofs.lemmas.List.Elements.{All-from_recursion}
use Rattle.std.proofs.lemmas.List.Quantifiers.{position-Some}
use Rattle.std.proofs.lemmas.List.Sums.{position_or_len_is}
use Rattle.std.proofs.lemmas.Map.Keys.{apart_from_distinct, IsDistinct-tail}
use Rattle.std.proofs.lemmas.Option.{slice_get-get_or}
use Rattle.std.proofs.lemmas.Slice.Eq.{bytes_eq-Decides}
use Rattle.mls_lattice.specs.Lattice.{bottom}
use Rattle.mls_lattice.specs.Name.{is_name}
use Rattle.mls_lattice.specs.Policy.{Name, Named, Policy, AreNames, IsPolicy}
use Rattle.mls_lattice.specs.Canon.{label_name, user_name}

-- ---- any things

pub distinct_behind : {K : Type 0} (eq : K → K → Bool) (xs ys : List K) → IsDistinct eq (xs ++ ys) → IsDistinct eq ys
distinct_behind eq [] ys h = h
distinct_behind eq (x ∷ xs) ys h = distinct_behind eq xs ys (IsDistinct-tail eq x (xs ++ ys) h)

module _ {X : Type 0} (name : X → Name) (xs : List X) (d : X) where
  -- the name at a place is that of what stands there
  pub name_there : (n : ℕ) → n < length xs → unwrap_or (option_map name (slice_get xs n)) [] ≡ name (get_or xs n d)
  name_there n within = ap (λ o. unwrap_or (option_map name o) []) (slice_get-get_or xs n d within)

  -- what is found has the name
  pub named_there : (s : Name) (n : ℕ) → position (λ x. bytes_eq (name x) s) xs ≡ Some n → (n < length xs)
      × (name (get_or xs n d) ≡ s)
  named_there s n e = let there = position-Some (λ x. bytes_eq (name x) s) xs n d e
      in (there.0, (bytes_eq-Decides (name (get_or xs n d)) s).0 there.1)

  apart : IsDistinct bytes_eq (map name xs) → (k n : ℕ) → k < n → n < length xs → bytes_eq (name (get_or xs k d))
      (name (get_or xs n d)) ≡ false
  apart distinct k n less within =
      let far = apart_from_distinct bytes_eq (map name xs) k n (name d) distinct less
      (omega (arith, length-map xs name)) in
      subst (λ (s : Name). bytes_eq (name (get_or xs k d)) s ≡ false) (get_or-map name xs n d (name d) within)
      (subst (λ (s : Name). bytes_eq s (get_or (map name xs) n (name d)) ≡ false) (get_or-map name xs k d (name d)
      (omega arith)) far)

  -- the name of a place is found there
  pub found_again : IsDistinct bytes_eq (map name xs) → (n : ℕ) → n < length xs
      → position (λ x. bytes_eq (name x) (name (get_or xs n d))) xs ≡ Some n
  found_again distinct n within =
      let here : position_or_len (λ x. bytes_eq (name x) (name (get_or xs n d))) xs ≡ n =
      position_or_len_is (λ x. bytes_eq (name x) (name (get_or xs n d))) xs n d (omega arith)
      (λ k less. apart distinct k n less within)
      (λ _. (bytes_eq-Decides (name (get_or xs n d)) (name (get_or xs n d))).1 refl) in
      rw (here, lt-ltb n (length xs) within) refl

  pub is_name_at : AreNames (map name xs) → (n : ℕ) → n < length xs → is_name (name (get_or xs n d)) ≡ true
  is_name_at names n within =
      subst (λ (s : Name). is_name s ≡ true) (get_or-map name xs n d [] within)
      (All-from_recursion (λ (s : Name). is_name s ≡ true) (map name xs) names n [] (omega (arith, length-map xs name)))

module _ {X : Type 0} (name : X → Name) where
  pub is_name_there : (xs : List X) → AreNames (map name xs) → (n : ℕ) → n < length xs
      → is_name (unwrap_or (option_map name (slice_get xs n)) []) ≡ true
  is_name_there [] names n within = absurd (omega arith)
  is_name_there (x ∷ xs) names n within = ap is_name (name_there name (x ∷ xs) x n within) ∙ is_name_at name
      (x ∷ xs) x names n within

-- ---- labels and users

pub no_label : Named
no_label = record { name = []; value = bottom }

pub label_found : (labels : List Named) (s : Name) (n : ℕ) → position (λ l. bytes_eq l.name s) labels ≡ Some n
    → (n < length labels) × (label_name labels n ≡ s)
label_found labels s n e =
    let there = named_there (λ l. l.name) labels no_label s n e in
    (there.0, name_there (λ l. l.name) labels no_label n there.0 ∙ there.1)

pub label_again : (policy : Policy) → IsPolicy policy → (n : ℕ) → n < length policy.labels
    → position (λ l. bytes_eq l.name (label_name policy.labels n)) policy.labels ≡ Some n
label_again policy valid n within =
    ap (λ s. position (λ l. bytes_eq l.name s) policy.labels) (name_there (λ l. l.name) policy.labels no_label n within)
    ∙ found_again (λ l. l.name) policy.labels no_label valid.names n within

pub label_is_name : (policy : Policy) → IsPolicy policy → (n : ℕ) → n < length policy.labels
    → is_name (label_name policy.labels n) ≡ true
label_is_name policy valid = is_name_there (λ l. l.name) policy.labels valid.label_names

pub user_is_name : (policy : Policy) → IsPolicy policy → (n : ℕ) → n < length policy.users
    → is_name (user_name policy.users n) ≡ true
user_is_name policy valid = is_name_there (λ u. u.name) policy.users valid.user_names
