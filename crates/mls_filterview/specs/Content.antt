-- What a base holds: a table for each relation, and the audit list.
use Rattle.std.specs.Prelude.{ℕ, ℤ, Bool, true, false, if◌then◌else◌, nat_eq, List, [], ◌∷◌, ◌++◌}
use Rattle.std.specs.FinMap.{empty}
use Rattle.mls_scheme.specs.Table.{Table, Database}
use Rattle.mls_filterview.specs.declared.base.BaseFault.{BaseFault}
use Rattle.mls_filterview.specs.declared.base.BaseFault.TheVariants.{Store, Memory, NotBegun, Begun}

pub record Content : Type 0 where
  pub db : Database
  pub audit : List (List ℕ)

abbrev pub no_content : Content
no_content = record { db = λ relation. empty; audit = [] }

-- a database with one relation changed
abbrev pub with_table : Database → ℕ → Table → Database
with_table db relation T r = if nat_eq r relation then T else db r

-- the content now, as of the last commit, and whether a change is begun
pub record State : Type 0 where
  pub now : Content
  pub kept : Content
  pub begun : Bool

-- a row that describes a store: its number, the version of the layout, and the texts of policy and schemes
pub record About : Type 0 where
  pub number : ℤ
  pub version : ℤ
  pub lattice : List ℕ
  pub schemes : List ℕ

-- what contracts see of a base: its state, what describes its store, how many calls of its store have failed, that the
-- store gives back what was written to it, the labels whose fragments were read, and those at which a tuple or an
-- element was added, set or dropped
pub record Seen : Type 1 where
  pub state : State
  pub about : List About
  pub failures : ℕ
  pub is_clean : Type 0
  pub asked : ℕ → Type 0
  pub changed : ℕ → Type 0

abbrev pub nowhere : ℕ → Type 0
nowhere m = ⊥

abbrev pub begun_change : State → State
begun_change s = record { now = s.now; kept = s.now; begun = true }

abbrev pub committed : State → State
committed s = record { now = s.now; kept = s.now; begun = false }

-- back at the last commit
abbrev pub ended : State → State
ended s = record { now = s.kept; kept = s.kept; begun = false }

abbrev pub with_relation : State → ℕ → Table → State
with_relation s relation T = record s { now = record { db = with_table s.now.db relation T; audit = s.now.audit } }

abbrev pub with_entry : State → List ℕ → State
with_entry s bytes = record s { now = record { db = s.now.db; audit = s.now.audit ++ bytes ∷ [] } }

abbrev pub with_no_entries : State → State
with_no_entries s = record s { now = record { db = s.now.db; audit = [] } }

-- a change that fails ends; what fails outside a change leaves all as it was
abbrev pub failed : State → State
failed s = if s.begun then ended s else s

-- the state after a call that answered a fault
abbrev pub after : BaseFault → State → State
after Store s = failed s
after Memory s = failed s
after NotBegun s = s
after Begun s = s
