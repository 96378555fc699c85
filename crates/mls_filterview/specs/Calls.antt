-- What every call over a base promises.
use Rattle.std.specs.Prelude.{◌≡◌, ◌≢◌, ◌↔◌, ℕ, ◌<◌, ◌≤◌, Bool, true, false, ⊤, List, length, Option, None, IfSome}
use Rattle.std.specs.Prelude.{IfErr}
use Rattle.std.specs.Prelude.{OnOk, IsErrOf, Result, Err}
use Rattle.std.specs.List.{AllByRecursion}
use Rattle.std.specs.FinMap.{get}
use Rattle.mls_lattice.specs.Labels.{Labels, below}
use Rattle.mls_lattice.specs.Policy.{Policy, labels_of}
use Rattle.mls_scheme.specs.declared.value.Value.{Value}
use Rattle.mls_scheme.specs.declared.place.Place.{Place}
use Rattle.mls_scheme.specs.declared.tuple.Element.{Element}
use Rattle.mls_scheme.specs.Spelling.{HasSpelling, IsSpelledKey}
use Rattle.mls_filterview.specs.declared.fragment.Node.{Node}
use Rattle.mls_filterview.specs.declared.fragment.Cell.{Cell}
use Rattle.mls_filterview.specs.Content.{Seen, after}
use Rattle.mls_filterview.specs.Stored.{IsStored}
use Rattle.mls_filterview.specs.View.{IsAmong}
use Rattle.mls_filterview.specs.Fragment.{IsMadeOf, place_of_node, HasCell, IsAlone, IsCellOf}
use Rattle.mls_filterview.specs.declared.base.BaseFault.{BaseFault}
use Rattle.mls_filterview.specs.declared.base.BaseFault.TheVariants.{Store, Memory, NotBegun, Begun}

-- whether a change is begun after a fault
abbrev pub begun_after : BaseFault → Bool → Bool
begun_after Store b = false
begun_after Memory b = false
begun_after NotBegun b = b
begun_after Begun b = b

-- a fault of the store or of memory
abbrev pub IsServed : BaseFault → Type 0
IsServed e = (e ≡ NotBegun → ⊥) × (e ≡ Begun → ⊥)

-- of a base: whether its store is clean, how many calls of the store have failed, and what it holds
module _ {Self : Type 0} (seen : Self → Seen) where
  -- what a fault leaves: the store failed where Store came, and was not asked where the call was refused; Store and
  -- Memory
  -- end a change
  pub record IsFault (e : BaseFault) (old new : Self) : Type 0 where
    pub store : e ≡ Store → (seen old).failures < (seen new).failures
    pub not_begun : e ≡ NotBegun → (seen new).failures ≡ (seen old).failures
    pub begun : e ≡ Begun → (seen new).failures ≡ (seen old).failures
    pub mode : (seen new).state.begun ≡ begun_after e (seen old).state.begun
    pub content : (seen new).is_clean → (seen new).state ≡ after e (seen old).state

  -- a store that is clean after the call was clean before it, and what describes it is as it was
  pub record IsCall {A : Type 0} (old new : Self) (result : Result A BaseFault) : Type 0 where
    pub clean : (seen new).is_clean → (seen old).is_clean
    pub about : (seen new).is_clean → (seen new).about ≡ (seen old).about
    pub count : (seen old).failures ≤ (seen new).failures
    pub fault : IfErr result (λ e. IsFault e old new)

  -- a call that reads: it is refused nowhere, and an answer leaves all as it was
  pub record IsRead {A : Type 0} (old new : Self) (result : Result A BaseFault) : Type 0 where
    pub call : IsCall old new result
    pub served : IfErr result IsServed
    pub mode : OnOk result ((seen new).state.begun ≡ (seen old).state.begun)
    pub same : (seen new).is_clean → OnOk result ((seen new).state ≡ (seen old).state)

  -- a step of a change that is begun: an answer leaves it begun
  pub record IsStep {A : Type 0} (old new : Self) (result : Result A BaseFault) : Type 0 where
    pub call : IsCall old new result
    pub served : IfErr result IsServed
    pub mode : OnOk result ((seen new).state.begun ≡ true)

  -- a call that belongs into a change: it is refused just where none is begun, and whether one is begun after an answer
  pub record IsChange {A : Type 0} (then : Bool) (old new : Self) (result : Result A BaseFault) : Type 0 where
    pub call : IsCall old new result
    pub not_begun : (result ≡ Err NotBegun) ↔ ((seen old).state.begun ≡ false)
    pub no_other : IsErrOf result Begun → ⊥
    pub mode : OnOk result ((seen new).state.begun ≡ then)

  -- a call that belongs into no change: it is refused just where one is begun, and whether one is begun after an answer
  pub record IsOutside {A : Type 0} (then : Bool) (old new : Self) (result : Result A BaseFault) : Type 0 where
    pub call : IsCall old new result
    pub begun : (result ≡ Err Begun) ↔ ((seen old).state.begun ≡ true)
    pub no_other : IsErrOf result NotBegun → ⊥
    pub mode : OnOk result ((seen new).state.begun ≡ then)

-- ---- at which labels a call reads and changes something, whatever it answers

-- any label
abbrev pub anywhere : ℕ → Type 0
anywhere m = ⊤

module _ {Self : Type 0} (seen : Self → Seen) where
  -- no label of `unread` was read, and at none of `unchanged` was a tuple or an element added, set or dropped
  pub record Avoids (unread unchanged : ℕ → Type 0) (old new : Self) : Type 0 where
    pub reads : (m : ℕ) → unread m → (seen new).asked m → (seen old).asked m
    pub changes : (m : ℕ) → unchanged m → (seen new).changed m → (seen old).changed m

  abbrev pub NoAccess : Self → Self → Type 0
  NoAccess = Avoids anywhere anywhere

  -- one label is read
  abbrev pub ReadsAt : ℕ → Self → Self → Type 0
  ReadsAt label = Avoids (λ m. m ≢ label) anywhere

  -- these labels are read
  abbrev pub ReadsAmong : List ℕ → Self → Self → Type 0
  ReadsAmong labels = Avoids (λ m. IsAmong m labels → ⊥) anywhere

  -- something is changed at one label
  abbrev pub ChangesAt : ℕ → Self → Self → Type 0
  ChangesAt label = Avoids anywhere (λ m. m ≢ label)

  -- something is changed at these labels
  abbrev pub ChangesAmong : List ℕ → Self → Self → Type 0
  ChangesAmong labels = Avoids anywhere (λ m. IsAmong m labels → ⊥)

  -- the simple security property (Bell and LaPadula 1973): what is read is below c. Nothing is changed
  abbrev pub NoReadUp : Labels → ℕ → Self → Self → Type 0
  NoReadUp ls c = Avoids (λ m. below ls m c ≡ false) anywhere

  -- and the star property: what is read is below hi, and what is changed dominates lo. For a subject at w both are w;
  -- one that is
  -- trusted may have a higher hi (Bell and LaPadula 1976)
  abbrev pub NoWriteDown : Labels → (hi lo : ℕ) → Self → Self → Type 0
  NoWriteDown ls hi lo = Avoids (λ m. below ls m hi ≡ false) (λ m. below ls lo m ≡ false)

-- ---- what may be asked of a base

module _ {Self : Type 0} (seen : Self → Seen) (base : Self) (relation : ℕ) where
  -- a declared label looks at a relation of the stored form
  pub record CanSee (policy : Policy) (c : ℕ) : Type 0 where
    pub label : c < length policy.labels
    pub stored : (seen base).is_clean → (n : ℕ) × IsStored (labels_of policy) n ((seen base).state.now.db relation)

  -- a tuple is added where none is, with the cells of its class, and its other elements in the tuples there
  pub record CanAdd (n : Node) (ds : List Cell) : Type 0 where
    pub key : IsSpelledKey n.key
    pub cells : AllByRecursion (IsCellOf n) ds
    pub absent : (seen base).is_clean → get ((seen base).state.now.db relation) (place_of_node n) ≡ None
    pub made : (seen base).is_clean → (es : List Element) × IsMadeOf ((seen base).state.now.db relation) n ds es

  -- a cell is set that a tuple has
  pub record CanSet (p : Place) (i : ℕ) (v : Option Value) : Type 0 where
    pub key : IsSpelledKey p.key
    pub attr : i < 15
    pub value : IfSome v HasSpelling
    pub there : (seen base).is_clean → HasCell ((seen base).state.now.db relation) p i

  -- a tuple is dropped, where there is one, whose cells no other has
  pub record CanDrop (p : Place) : Type 0 where
    pub key : IsSpelledKey p.key
    pub alone : (seen base).is_clean → IsAlone ((seen base).state.now.db relation) p
