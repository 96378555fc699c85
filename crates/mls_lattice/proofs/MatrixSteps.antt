-- The loops over the grants of a document: its users, the entries of a user, those of a grant, and all.
use Rattle.std.proofs.Common.{◌≡◌, ℕ, ◌+◌, ◌<◌, List, [], ◌∷◌, ◌++◌, length, get_or, drop, map, flat_map, Ok, Err, refl, sym, ap, ◌∙◌}
use Rattle.std.proofs.lemmas.List.{at_drop_more}
use Rattle.toml.specs.declared.value.Value.{Value}
use Rattle.toml.specs.View.{view, items_view}
use Rattle.mls_lattice.specs.declared.fault.FieldFault.{FieldFault}
use Rattle.mls_lattice.specs.declared.tables.User.{User}
use Rattle.mls_lattice.specs.declared.tables.Right.{Right}
use Rattle.mls_lattice.specs.declared.tables.Grant.{Grant}
use Rattle.mls_lattice.specs.declared.modes.Modes.{Modes}
use Rattle.mls_lattice.specs.Policy.{Name, right_of, rights_of}
use Rattle.mls_lattice.specs.PolicyReading.{rows_at, user_no_at, grant_at, more_rights, rights_at}
use Rattle.mls_lattice.proofs.ReadingLemmas.{here}
use Rattle.mls_lattice.proofs.PolicyReadingLemmas.{rows-more}
use Rattle.mls_lattice.proofs.RowSteps.{rows_refused}
use Rattle.mls_lattice.proofs.MatrixLemmas.{more_both}

-- a user of a list
module _ (items : List Value) (i : ℕ) (v : Value) (within : i < length items) (is : v ≡ get_or items i v) where
  pub user-bad : (users : List User) (front : List ℕ) (e : FieldFault) → user_no_at users front (view v) ≡ Err e
      → rows_at (user_no_at users) front (items_view (drop i items)) ≡ Err e
  user-bad users front e bad = rows_refused (user_no_at users) front items i v e within is bad

  pub user-more : (users : List User) (front : List ℕ) (u : ℕ) → user_no_at users front (view v) ≡ Ok u
      → rows_at (user_no_at users) (front ++ u ∷ []) (items_view (drop (i + 1) items))
      ≡ rows_at (user_no_at users) front (items_view (drop i items))
  user-more users front u ok = rows-more items i v within is (user_no_at users) front u ok

pub ruleset user_steps = (user-bad, user-more)

-- an entry of a user
module _ (objects : List Name) (i : ℕ) (o : Name) (within : i < length objects) (is : o ≡ get_or objects i o) where
  right-here : (f : Name → Right) (front : List Right) → more_rights front (map f (drop i objects)) ≡ more_rights front
      (f o ∷ map f (drop (i + 1) objects))
  right-here f front =
      at_drop_more (λ os. more_rights front (map f os)) objects i o within ∙ ap (λ (x : Name). more_rights front
      (f x ∷ map f (drop (i + 1) objects))) (sym is)

  pub right-bad : (f : Name → Right) (front : List Right) (e : FieldFault) → more_rights front (f o ∷ []) ≡ Err e
      → more_rights front (map f (drop i objects)) ≡ Err e
  right-bad f front e bad = right-here f front ∙ more_both front (f o ∷ []) (map f (drop (i + 1) objects)) ∙ rw bad refl

  pub right-more : (f : Name → Right) (front more : List Right) → more_rights front (f o ∷ []) ≡ Ok more
      → more_rights more (map f (drop (i + 1) objects)) ≡ more_rights front (map f (drop i objects))
  right-more f front more ok = sym (right-here f front ∙ more_both front (f o ∷ []) (map f (drop (i + 1) objects))
      ∙ rw ok refl)

pub ruleset right_steps = (right-bad, right-more)

-- a user of a grant
module _ (users : List ℕ) (i u : ℕ) (within : i < length users) (is : u ≡ get_or users i u) (modes : Modes)
    (objects : List Name) (front : List Right) where
  abbrev pairs : List ℕ → List Right
  pairs us = flat_map (λ user. map (right_of user modes) objects) us

  pair-here : more_rights front (pairs (drop i users)) ≡ more_rights front (map (right_of u modes) objects
      ++ pairs (drop (i + 1) users))
  pair-here =
      at_drop_more (λ us. more_rights front (pairs us)) users i u within
      ∙ ap (λ (x : ℕ). more_rights front (map (right_of x modes) objects ++ pairs (drop (i + 1) users))) (sym is)

  pub pair-bad : (e : FieldFault) → more_rights front (map (right_of u modes) objects) ≡ Err e
      → more_rights front (flat_map (λ user. map (right_of user modes) objects) (drop i users)) ≡ Err e
  pair-bad e bad = pair-here ∙ more_both front (map (right_of u modes) objects) (pairs (drop (i + 1) users))
      ∙ rw bad refl

  pub pair-more : (more : List Right) → more_rights front (map (right_of u modes) objects) ≡ Ok more
      → more_rights more (flat_map (λ user. map (right_of user modes) objects) (drop (i + 1) users)) ≡ more_rights front
      (flat_map (λ user. map (right_of user modes) objects) (drop i users))
  pair-more more ok = sym (pair-here ∙ more_both front (map (right_of u modes) objects) (pairs (drop (i + 1) users))
      ∙ rw ok refl)

pub ruleset pair_steps = (pair-bad, pair-more)

-- a grant
module _ (items : List Value) (i : ℕ) (v : Value) (within : i < length items) (is : v ≡ get_or items i v)
    (users : List User) (front : List Right) where
  pub grant-unread : (e : FieldFault) → grant_at users (view v) ≡ Err e
      → rights_at users front (items_view (drop i items)) ≡ Err e
  grant-unread e bad = here items i v within is (rights_at users front) ∙ rw bad refl

  pub grant-refused : (g : Grant) (e : FieldFault) → grant_at users (view v) ≡ Ok g → more_rights front (rights_of g)
      ≡ Err e → rights_at users front (items_view (drop i items)) ≡ Err e
  grant-refused g e ok bad = here items i v within is (rights_at users front) ∙ rw (ok, bad) refl

  pub grant-more : (g : Grant) (more : List Right) → grant_at users (view v) ≡ Ok g → more_rights front (rights_of g)
      ≡ Ok more
      → rights_at users more (items_view (drop (i + 1) items)) ≡ rights_at users front (items_view (drop i items))
  grant-more g more ok added = sym (here items i v within is (rights_at users front) ∙ rw (ok, added) refl)

pub ruleset grant_steps = (grant-unread, grant-refused, grant-more)
