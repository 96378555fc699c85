-- Inner: no public contract names these. Writes in steps, as the calls of a base take them.
use Rattle.std.specs.Prelude.{◌≡◌, ◌≢◌, ℕ, suc, ◌<◌, true, false, List, [], ◌∷◌, length, IfSome, None, ⊤}
use Rattle.std.specs.List.{AllByRecursion}
use Rattle.std.specs.FinMap.{get, remove}
use Rattle.mls_lattice.specs.Labels.{Labels, below}
use Rattle.mls_scheme.specs.declared.tuple.Element.{Element}
use Rattle.mls_lattice.specs.Policy.{Policy, labels_of}
use Rattle.mls_scheme.specs.Scheme.{Scheme, IsUnder}
use Rattle.mls_scheme.specs.Spelling.{HasSpelling, IsSpelledKey}
use Rattle.mls_scheme.specs.Table.{Table, change}
use Rattle.mls_scheme.specs.declared.place.Place.{Place}
use Rattle.mls_filterview.specs.Content.{Seen}
use Rattle.mls_filterview.specs.Fragment.{set_in, HasCell, IsAlone, IsMadeOf, node_of, cells_of}
use Rattle.mls_filterview.specs.Stored.{with_class, IsStored}
use Rattle.mls_filterview.specs.View.{IsAmong}
use Rattle.mls_updates.specs.declared.new_tuple.NewTuple.{NewTuple}
use Rattle.mls_updates.specs.NewTuples.{entry_of}
use Rattle.mls_updates.specs.Writes.{Sets, set_element}

-- cells of the class of p set one after another, the last one first
abbrev pub set_each : Place → Sets → Table → Table
set_each p [] T = T
set_each p (s ∷ ss) T = change (set_in p s.0 s.1) (set_each p ss T)

-- the elements of a pattern, numbered from k, with the named ones of class w; where w is in no pattern the others need
-- no value
abbrev pub outline : ℕ → Sets → ℕ → List ℕ → List Element
outline w sets k [] = []
outline w sets k (m ∷ ms) = set_element w sets k (record { value = None; class = m }) ∷ outline w sets (suc k) ms

-- tuples of the entity of p dropped one after another, by their classes
abbrev pub drop_each : Place → List ℕ → Table → Table
drop_each p [] T = T
drop_each p (m ∷ ms) T = drop_each p ms (remove T (with_class p m))

-- each is alone with its cells when it is dropped
abbrev pub AreAlone : Place → List ℕ → Table → Type 0
AreAlone p [] T = ⊤
AreAlone p (m ∷ ms) T = IsAlone T (with_class p m) × AreAlone p ms (remove T (with_class p m))

-- none dominates an earlier one
abbrev pub AreDownwards : Labels → List ℕ → Type 0
AreDownwards ls [] = ⊤
AreDownwards ls (m ∷ ms) = AllByRecursion (λ k. below ls m k ≡ false) ms × AreDownwards ls ms

-- just the labels that dominate w, the higher ones first
pub record AreAbove (ls : Labels) (w : ℕ) (ms : List ℕ) : Type 0 where
  pub downwards : AreDownwards ls ms
  pub above : AllByRecursion (λ m. below ls w m ≡ true) ms
  pub all : (m : ℕ) → m < length ls → below ls w m ≡ true → IsAmong m ms

-- ---- what a step may be asked of a base

-- a change is begun, and a place is of declared labels, so many, and has a key with a spelling
pub record IsBegunAt {Self : Type 0} (seen : Self → Seen) (base : Self) (count : ℕ) (p : Place) : Type 0 where
  pub begun : (seen base).state.begun ≡ true
  pub class : p.class < count
  pub key_class : p.key_class < count
  pub key : IsSpelledKey p.key

module _ {Self : Type 0} (seen : Self → Seen) (base : Self) where
  -- a tuple is added where none is, its elements of other classes in the tuples there
  pub record CanAddTuple (r : NewTuple) : Type 0 where
    pub begun : (seen base).state.begun ≡ true
    pub key : IsSpelledKey r.place.key
    pub values : AllByRecursion (λ e. IfSome e.value HasSpelling) r.elements
    pub absent : (seen base).is_clean → get ((seen base).state.now.db r.relation) r.place ≡ None
    pub made : (seen base).is_clean → (es : List Element) × IsMadeOf ((seen base).state.now.db r.relation) (node_of
        (entry_of r)) (cells_of (entry_of r)) es

  module _ (relation : ℕ) (p : Place) where
    -- cells are set that a tuple has
    pub record CanSetEach (ss : Sets) : Type 0 where
      pub begun : (seen base).state.begun ≡ true
      pub key : IsSpelledKey p.key
      pub sets : AllByRecursion (λ s. (s.0 < 15) × IfSome s.1 HasSpelling) ss
      pub there : (seen base).is_clean → AllByRecursion (λ s. HasCell ((seen base).state.now.db relation) p s.0) ss

    -- a tuple is made from that of class m, in a relation of the stored form
    pub record CanDerive (policy : Policy) (scheme : Scheme) (m : ℕ) (sets : Sets) : Type 0 where
      pub at : IsBegunAt seen base (length policy.labels) p
      pub from : m < length policy.labels
      pub other : m ≢ p.class
      pub under : IsUnder (length policy.labels) scheme
      pub fits : AllByRecursion (λ s. s.0 < length scheme.others) sets
      pub values : AllByRecursion (λ s. IfSome s.1 HasSpelling) sets
      pub stored : (seen base).is_clean → IsStored (labels_of policy) (length scheme.others)
          ((seen base).state.now.db relation)
