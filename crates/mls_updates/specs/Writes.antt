-- The three writes of a multilevel relation: what each does to the table, and its outcome.
use Rattle.std.specs.Prelude.{◌≡◌, ℕ, ◌<◌, Bool, true, not, ◌&&◌, if◌then◌else◌, nat_eq, List, [], ◌∷◌, map, length}
use Rattle.std.specs.Prelude.{Option, is_some, is_none, ⊤, filter_map, unwrap_or}
use Rattle.std.specs.List.{list_any, list_all, enumerate_from, AllByRecursion}
use Rattle.std.specs.FinMap.{get, insert, retain_keys}
use Rattle.mls_lattice.specs.Labels.{Labels, below}
use Rattle.mls_scheme.specs.declared.value.Value.{Value}
use Rattle.mls_scheme.specs.declared.tuple.Element.{Element}
use Rattle.mls_scheme.specs.Value.{fits_kind}
use Rattle.mls_scheme.specs.Tuple.{at}
use Rattle.mls_scheme.specs.Table.{Table, change}
use Rattle.mls_scheme.specs.declared.place.Place.{Place}
use Rattle.mls_scheme.specs.declared.write.Write.{Write as WriteOf}
pub use Rattle.mls_scheme.specs.declared.write.Write.TheVariants.{Insert, Update, Delete}
use Rattle.mls_scheme.specs.Writes.{key_of, key_class_of}
use Rattle.mls_scheme.specs.Scheme.{Scheme, other_of}
use Rattle.mls_scheme.specs.Fits.{in_interval, HaveKinds}
use Rattle.mls_filterview.specs.Stored.{is_entity}
use Rattle.mls_updates.specs.declared.outcome.Outcome.{Outcome}
use Rattle.mls_updates.specs.declared.outcome.Outcome.TheVariants.{Done, KeyNull, Duplicate, NoTuple, NullAboveKey}
use Rattle.mls_updates.specs.declared.outcome.Outcome.TheVariants.{Inherited, OutOfInterval, AlreadyDerived}
use Rattle.mls_updates.specs.Outcome.{is_done}

-- ---- what a write says

-- a key that may have nulls
abbrev pub Key : Type 0
Key = List (Option Value)

-- new values of attributes outside the key, by their numbers
abbrev pub Sets : Type 0
Sets = List (ℕ × Option Value)

-- a write of values and nulls, at one label
abbrev pub Write : Type 0
Write = WriteOf (Option Value)

-- ---- what it answers

-- a table after a write, and the outcome
pub record Written : Type 0 where
  pub table : Table
  pub outcome : Outcome

-- the outcome whose condition holds first, or Done
unfoldable pub first_refusal : List (Bool × Outcome) → Outcome
first_refusal [] = Done
first_refusal (r ∷ rs) = if r.0 then r.1 else first_refusal rs

-- the table is new where the outcome is Done
abbrev pub written : Outcome → Table → Table → Written
written o new old = record { table = if is_done o then new else old; outcome = o }

-- ---- keys and places

abbrev pub has_null : Key → Bool
has_null key = list_any (λ v. is_none v) key

-- the place of the entity's tuple of a class; a key with nulls is refused
abbrev pub place : Key → ℕ → ℕ → Place
place key key_class class = record { key = filter_map (λ v. v) key; key_class = key_class; class = class }

-- a place of the same entity, whose class dominates that of the first
abbrev pub is_above : Labels → Place → Place → Bool
is_above ls p q = is_entity p q && below ls p.class q.class

-- ---- elements

-- all of class w
abbrev pub root : ℕ → List (Option Value) → List Element
root w values = map (λ v. record { value = v; class = w }) values

-- the element of attribute i, with its new value of class w if there is one
abbrev pub set_element : ℕ → Sets → ℕ → Element → Element
set_element w [] i e = e
set_element w (s ∷ ss) i e = if nat_eq s.0 i then record { value = s.1; class = w } else set_element w ss i e

-- all named attributes new, at class w
unfoldable pub derived : ℕ → Sets → List Element → List Element
derived w sets es = map (λ d. set_element w sets d.0 d.1) (enumerate_from 0 es)

-- the named attributes of class w new
unfoldable pub updated : ℕ → Sets → List Element → List Element
updated w sets es = map (λ d. if nat_eq d.1.class w then set_element w sets d.0 d.1 else d.1) (enumerate_from 0 es)

-- the tuple at q updated at the class of p, where both places are of one entity
abbrev pub update_in : Place → Sets → Place → List Element → List Element
update_in p sets q es = if is_entity p q then updated p.class sets es else es

-- ---- the writes at w
-- Refusals look at no more of a table than the tuples that were found.
module _ (ls : Labels) (scheme : Scheme) (w : ℕ) where
  -- there is no tuple of class from, or not key_class <= from <= w
  abbrev pub is_missing : ℕ → ℕ → Option (List Element) → Bool
  is_missing key_class from found = not (is_some found && (below ls key_class from && below ls from w))

  -- of an insert
  abbrev pub root_refusals : Option (List Element) → List (Bool × Outcome)
  root_refusals found =
      (is_some found, Duplicate)
      ∷ (not (list_all (in_interval ls w) scheme.keys && list_all (in_interval ls w) scheme.others), OutOfInterval) ∷ []

  -- of an update of the tuple of class w
  abbrev pub own_refusals : ℕ → Sets → Option (List Element) → List (Bool × Outcome)
  own_refusals key_class sets found =
      (is_missing key_class w found, NoTuple)
      ∷ (list_any (λ s. not (nat_eq (at (unwrap_or found []) s.0).class w)) sets, Inherited)
      ∷ (not (nat_eq w key_class) && list_any (λ s. is_none s.1) sets, NullAboveKey) ∷ []

  -- of an update of a lower one
  abbrev pub below_refusals : ℕ → ℕ → Sets → Option (List Element) → Option (List Element) → List (Bool × Outcome)
  below_refusals key_class from sets found own =
      (is_missing key_class from found, NoTuple)
      ∷ (is_some own, AlreadyDerived)
      ∷ (list_any (λ s. is_none s.1) sets, NullAboveKey)
      ∷ (list_any (λ s. not (in_interval ls w (other_of scheme s.0))) sets, OutOfInterval) ∷ []

  -- of a delete
  abbrev pub drop_refusals : ℕ → Option (List Element) → List (Bool × Outcome)
  drop_refusals key_class found = (is_missing key_class w found, NoTuple) ∷ []

  -- of a write whose key has no null
  abbrev pub refusals : Write → Table → List (Bool × Outcome)
  refusals (Insert key values) T = root_refusals (get T (place key w w))
  refusals (Update key key_class from sets) T =
      let own = get T (place key key_class w) in
      if nat_eq from w then own_refusals key_class sets own
      else below_refusals key_class from sets (get T (place key key_class from)) own
  refusals (Delete key key_class) T = drop_refusals key_class (get T (place key key_class w))

  -- what a write that is done makes of a table. An insert adds a tuple of one class, w. An update gives the named
  -- attributes of class w new values, in each of the entity's tuples; from a lower class it adds a tuple of class w:
  -- the lower one, with the named attributes new. A delete leaves out the entity's tuples whose class dominates w
  abbrev pub changed : Write → Table → Table
  changed (Insert key values) T = insert T (place key w w) (root w values)
  changed (Update key key_class from sets) T =
      let p = place key key_class w in
      if nat_eq from w then change (update_in p sets) T
      else insert T p (derived w sets (unwrap_or (get T (place key key_class from)) []))
  changed (Delete key key_class) T = retain_keys T (λ q. not (is_above ls (place key key_class w) q))

-- of any key
abbrev pub outcome_of : Key → List (Bool × Outcome) → Outcome
outcome_of key rs = first_refusal ((has_null key, KeyNull) ∷ rs)

abbrev pub write : Labels → Scheme → ℕ → Write → Table → Written
write ls scheme w wr T = written (outcome_of (key_of wr) (refusals ls scheme w wr T)) (changed ls scheme w wr T) T

-- the place of class w of the entity that a write names
abbrev pub named : ℕ → Write → Place
named w wr = place (key_of wr) (key_class_of w wr) w

-- ---- what a write must fit

-- a relation with n attributes outside its key, and a declared label; an update names at least one attribute
abbrev pub WriteFits : Labels → ℕ → ℕ → Write → Type 0
WriteFits ls n w (Insert key values) = (w < length ls) × (length values ≡ n)
WriteFits ls n w (Update key key_class from sets) = (w < length ls) × (0 < length sets)
    × AllByRecursion (λ s. s.0 < n) sets
WriteFits ls n w (Delete key key_class) = ⊤

-- the numbers and kinds of attributes
abbrev pub WriteKinds : Scheme → Write → Type 0
WriteKinds scheme (Insert key values) = HaveKinds scheme.keys key × HaveKinds scheme.others values
WriteKinds scheme (Update key key_class from sets) = AllByRecursion (λ s. fits_kind s.1 (other_of scheme s.0).1.kind
    ≡ true) sets
WriteKinds scheme (Delete key key_class) = ⊤
