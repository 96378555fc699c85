-- What the calls promise.
use Rattle.std.specs.Prelude.{◌≡◌, ℕ, ◌<◌, true, ◌&&◌, not, if◌then◌else◌, List, [], length, Option, None, Result, IfOk}
use Rattle.std.specs.Prelude.{OnOk, option_map, unwrap_or}
use Rattle.std.specs.List.{AllByRecursion}
use Rattle.std.specs.FinMap.{get, insert, retain_keys}
use Rattle.mls_lattice.specs.Labels.{Labels, below}
use Rattle.mls_scheme.specs.declared.value.Value.{Value}
use Rattle.mls_scheme.specs.declared.place.Place.{Place}
use Rattle.mls_lattice.specs.Policy.{Policy, labels_of}
use Rattle.mls_scheme.specs.Scheme.{Scheme, Schemes, scheme_of, AreUnder}
use Rattle.mls_scheme.specs.Fits.{HaveKinds}
use Rattle.mls_scheme.specs.Table.{change}
use Rattle.mls_filterview.specs.declared.base.BaseFault.{BaseFault}
use Rattle.mls_filterview.specs.Calls.{IsChange, NoWriteDown}
use Rattle.mls_filterview.specs.Content.{Seen, State, with_relation}
use Rattle.mls_updates.specs.declared.outcome.Outcome.{Outcome}
use Rattle.mls_filterview.specs.Stored.{with_class, IsContent}
use Rattle.mls_filterview.specs.Fragment.{classes}
use Rattle.mls_updates.specs.Writes.{Key, Sets, Write, Insert, Update, Delete, WriteKinds, Written, written, write}
use Rattle.mls_updates.specs.Writes.{first_refusal, root_refusals, drop_refusals, own_refusals, below_refusals, root}
use Rattle.mls_updates.specs.Writes.{derived, update_in, is_above}

-- from s, a call answered o and left t: the outcome and the table of a relation are these
pub record IsLeft (relation : ℕ) (written : Written) (s t : State) (o : Outcome) : Type 0 where
  pub outcome : o ≡ written.outcome
  pub state : t ≡ with_relation s relation written.table

-- they are those of the definition of a write
abbrev pub IsWritten : Labels → Scheme → (relation w : ℕ) → Write → State → State → Outcome → Type 0
IsWritten ls scheme relation w wr s = IsLeft relation (write ls scheme w wr (s.now.db relation)) s

-- ---- the same of a key without nulls, by the place of the tuple

abbrev pub IsInserted : Labels → Scheme → (relation : ℕ) → Place → List (Option Value) → State → State → Outcome
    → Type 0
IsInserted ls scheme relation p values s =
    let T = s.now.db relation in IsLeft relation (written (first_refusal (root_refusals ls scheme p.class (get T p)))
    (insert T p (root p.class values)) T) s

abbrev pub IsDeleted : Labels → Scheme → (relation : ℕ) → Place → State → State → Outcome → Type 0
IsDeleted ls scheme relation p s =
    let T = s.now.db relation in IsLeft relation
    (written (first_refusal (drop_refusals ls scheme p.class p.key_class (get T p)))
    (retain_keys T (λ q. not (is_above ls p q))) T) s

abbrev pub IsChanged : Labels → Scheme → (relation : ℕ) → Place → Sets → State → State → Outcome → Type 0
IsChanged ls scheme relation p sets s =
    let T = s.now.db relation in IsLeft relation
    (written (first_refusal (own_refusals ls scheme p.class p.key_class sets (get T p)))
    (change (update_in p sets) T) T) s

-- the tuple of class from is the lower one
abbrev pub IsDerived : Labels → Scheme → (relation : ℕ) → Place → ℕ → Sets → State → State → Outcome → Type 0
IsDerived ls scheme relation p from sets s =
    let T = s.now.db relation in
    let found = get T (with_class p from) in
    IsLeft relation (written (first_refusal (below_refusals ls scheme p.class p.key_class from sets found (get T p)))
    (insert T p (derived p.class sets (unwrap_or found []))) T) s

-- the classes of the tuple of class from, where there is one and its class lies between the key class and that of p
abbrev pub classes_below : Labels → (relation : ℕ) → Place → ℕ → State → Option (List ℕ)
classes_below ls relation p from s =
    if below ls p.key_class from && below ls from p.class then option_map classes
    (get (s.now.db relation) (with_class p from)) else None

-- ---- what a write at w of a relation may be asked of: declared labels, attributes of their kinds, and stored content

module _ {Self : Type 0} (seen : Self → Seen) (base : Self) (policy : Policy) (schemes : Schemes) (relation w : ℕ) where
  pub record CanInsert (key : Key) (values : List (Option Value)) : Type 0 where
    pub label : w < length policy.labels
    pub declared : relation < length schemes
    pub under : AreUnder (length policy.labels) schemes
    pub kinds : WriteKinds (scheme_of schemes relation) (Insert key values)
    pub stored : (seen base).is_clean → IsContent (labels_of policy) (scheme_of schemes relation)
        ((seen base).state.now.db relation)

  pub record CanUpdate (k : Key) (kc m : ℕ) (sets : Sets) : Type 0 where
    pub label : w < length policy.labels
    pub key_class : kc < length policy.labels
    pub from : m < length policy.labels
    pub declared : relation < length schemes
    pub under : AreUnder (length policy.labels) schemes
    pub named : 0 < length sets
    pub fits : AllByRecursion (λ s. s.0 < length (scheme_of schemes relation).others) sets
    pub key : HaveKinds (scheme_of schemes relation).keys k
    pub kinds : WriteKinds (scheme_of schemes relation) (Update k kc m sets)
    pub stored : (seen base).is_clean → IsContent (labels_of policy) (scheme_of schemes relation)
        ((seen base).state.now.db relation)

  pub record CanDelete (k : Key) (kc : ℕ) : Type 0 where
    pub label : w < length policy.labels
    pub key_class : kc < length policy.labels
    pub declared : relation < length schemes
    pub key : HaveKinds (scheme_of schemes relation).keys k
    pub stored : (seen base).is_clean → IsContent (labels_of policy) (scheme_of schemes relation)
        ((seen base).state.now.db relation)

  abbrev pub CanWrite : Write → Type 0
  CanWrite (Insert key values) = CanInsert key values
  CanWrite (Update key key_class from sets) = CanUpdate key key_class from sets
  CanWrite (Delete key key_class) = CanDelete key key_class

-- ---- what it then has done

module _ {Self : Type 0} (seen : Self → Seen)
    (policy : Policy) (schemes : Schemes) (relation w : ℕ) (wr : Write) where
  -- outcome and table are those of its definition, the content is of the stored form, and whatever is answered nothing
  -- was read
  -- but what w dominates, and nothing changed but at labels that dominate w
  pub record HasWritten (old new : Self) (result : Result Outcome BaseFault) : Type 0 where
    pub change : IsChange seen true old new result
    pub access : NoWriteDown seen (labels_of policy) w w old new
    pub done : (seen new).is_clean
        → IfOk result (IsWritten (labels_of policy) (scheme_of schemes relation) relation w wr (seen old).state
        (seen new).state)
    pub kept : (seen new).is_clean
        → OnOk result (IsContent (labels_of policy) (scheme_of schemes relation) ((seen new).state.now.db relation))
