-- What calls do: they run a transaction, and leave entries.
use Rattle.std.specs.Prelude.{◌≡◌, ℕ, ◌<◌, true, IfOk, OnOk, List, ◌++◌, length, map, Option, Result}
use Rattle.std.specs.List.{AllByRecursion}
use Rattle.mls_lattice.specs.Name.{is_name}
use Rattle.mls_lattice.specs.Policy.{Policy, labels_of}
use Rattle.mls_scheme.specs.declared.value.Value.{Value}
use Rattle.mls_scheme.specs.Scheme.{Schemes}
use Rattle.mls_filterview.specs.declared.base.BaseFault.{BaseFault}
use Rattle.mls_filterview.specs.Content.{Seen, State}
use Rattle.mls_audit.specs.declared.entry.Entry.{Entry}
use Rattle.mls_audit.specs.Spelling.{IsTimed, HasSpelling, entry_spelling}
use Rattle.mls_translang.specs.Tx.{Tx}
use Rattle.mls_translang.specs.Fits.{IsReadUnder}
use Rattle.mls_certcheck.specs.declared.run.Run.{Run}
use Rattle.mls_certcheck.specs.Meaning.{Progress, run_tx}
use Rattle.mls_translang.specs.declared.event.Event.{Event}
use Rattle.mls_machine.specs.Denying.{fitted}
use Rattle.mls_trusted.specs.Runs.{with_database, IsEvaluated, HasItems}

-- more entries at the end of the audit list
abbrev pub with_entries : State → List Entry → State
with_entries s es = record s { now = record { db = s.now.db; audit = s.now.audit ++ map entry_spelling es } }

module _ {Self : Type 0} (seen : Self → Seen) where
  -- a change is begun, and an entry can spell the time, the user and the session of an event
  pub record MayEnter (policy : Policy) (event : Event) (user : ℕ) (base : Self) : Type 0 where
    pub begun : (seen base).state.begun ≡ true
    pub declared : user < length policy.users
    pub named : is_name event.session ≡ true
    pub timed : IsTimed event.time

  -- entries are at the end of the audit list, each as it is spelled
  pub record HasEntered (entries : List Entry) (old new : Self) {A : Type 0}
      (result : Result A BaseFault) : Type 0 where
    pub done : (seen new).is_clean → OnOk result ((seen new).state ≡ with_entries (seen old).state entries)
    pub spelled : OnOk result (AllByRecursion HasSpelling entries)

-- a transaction was read under the policy and the schemes, and has as many arguments as parameters
pub record MayRunCall (policy : Policy) (schemes : Schemes) (tx : Tx) (args : List (Option Value)) : Type 0 where
  pub read : IsReadUnder policy schemes tx
  pub count : length args ≡ length tx.params

-- what a transaction does with arguments, of which those of the wrong kind are null
abbrev pub run_on : Policy → Schemes → Tx → List (Option Value) → State → Progress
run_on policy schemes tx args s = run_tx (labels_of policy) schemes tx (fitted tx.params args) s.now.db

-- it is run: what it gave has declared labels and kinds, and is what it means, as the database is that it left
module _ {Self : Type 0} (seen : Self → Seen)
    (policy : Policy) (schemes : Schemes) (tx : Tx) (args : List (Option Value)) where
  pub record HasRun (old new : Self) (result : Result Run BaseFault) : Type 0 where
    pub items : IfOk result (HasItems policy)
    pub done : (seen new).is_clean → let run = run_on policy schemes tx args (seen old).state in
        IfOk result (IsEvaluated run (with_database (seen old).state run.db) (seen new).state)
