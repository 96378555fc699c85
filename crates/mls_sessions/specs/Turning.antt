-- An audit list that is turned over a base: its entries are written, and then it is empty.
use Rattle.std.specs.Prelude.{◌≡◌, ◌≢◌, ℕ, ◌<◌, ◌≤◌, ◌⊎◌, true, false, IfErr, OnOk, OnErr, List, [], ◌++◌, length}
use Rattle.std.specs.Prelude.{Option, Result, Ok, Err}
use Rattle.mls_lattice.specs.Policy.{Policy, labels_of}
use Rattle.mls_filterview.specs.Content.{Seen, Content, begun_change}
use Rattle.mls_filterview.specs.declared.base.BaseFault.{BaseFault}
use Rattle.mls_filterview.specs.Calls.{NoAccess}
use Rattle.mls_audit.specs.declared.entry.Entry.{Entry}
use Rattle.mls_machine.specs.Output.{printed}
use Rattle.mls_machine.specs.Observation.{heard}
use Rattle.mls_machine.specs.Turning.{turn_lines}
use Rattle.mls_translang.specs.declared.run_fault.RunCause.{RunCause}
use Rattle.mls_translang.specs.declared.run_fault.RunCause.TheVariants.{Store, Write}
use Rattle.mls_translang.specs.declared.run_fault.RunFault.{RunFault}
use Rattle.mls_sessions.specs.Turns.{IsTurn}
use Rattle.mls_sessions.specs.World.{entries_in}

-- what a reader is shown of entries, each behind the label that may see it; all, where there is no reader
abbrev pub turned_text : Policy → Option ℕ → List Entry → List ℕ
turned_text policy reader entries = printed (heard (labels_of policy) reader (turn_lines policy entries))

-- of the audit list of a content
abbrev pub list_text : Policy → Option ℕ → Content → List ℕ
list_text policy reader first = turned_text policy reader (entries_in (length policy.labels) first.audit)

module _ (policy : Policy) (reader : Option ℕ) (Wrote : List ℕ → Type 0) (first left : Content) where
  -- no entry is dropped; a first part is written where the writer refused, and else none or all
  pub record KeepsEntries (cause : RunCause) : Type 0 where
    pub part : List ℕ
    pub rest : List ℕ
    pub written : Wrote part
    pub whole : part ++ rest ≡ list_text policy reader first
    pub parted : cause ≢ Write → (part ≡ []) ⊎ (rest ≡ [])
    pub same : left ≡ first

  -- the entries are written, and none is left; or it is given up
  abbrev pub IsTurned : Result (Unit {0}) RunFault → Type 0
  IsTurned (Ok _) = Wrote (list_text policy reader first) × (left ≡ record { db = first.db; audit = [] })
  IsTurned (Err fault) = KeepsEntries fault.cause

module _ {Self : Type 0} (seen : Self → Seen) where
  -- a change is begun, and nothing is changed; or it is over
  pub record BeginsList {A : Type 0} (old new : Self) (result : Result A BaseFault) : Type 0 where
    pub turn : IsTurn seen (λ b. (seen b).state.now) old new result
    pub access : NoAccess seen old new
    pub over : OnErr result ((seen new).state.begun ≡ false)
    pub same : (seen new).is_clean → OnOk result ((seen new).state ≡ begun_change (seen old).state)
    pub mode : OnOk result ((seen new).state.begun ≡ true)

  -- the list is empty, and the change kept; or the content is that of the last commit
  pub record IsEmptied (old new : Self) (result : Result (Unit {0}) BaseFault) : Type 0 where
    pub turn : IsTurn seen (λ b. (seen b).state.kept) old new result
    pub access : NoAccess seen old new
    pub idle : (seen new).state.begun ≡ false
    pub done : (seen new).is_clean → OnOk result ((seen new).state.now
        ≡ record { db = (seen old).state.now.db; audit = [] })
    pub back : (seen new).is_clean → OnErr result ((seen new).state.now ≡ (seen old).state.kept)

  -- what a turning does to a base: no tuple is read or changed; a store that is clean behind it was clean before it
  pub record HasTurned (policy : Policy) (reader : Option ℕ) (Wrote : List ℕ → Type 0) (old new : Self)
      (result : Result (Unit {0}) RunFault) : Type 0 where
    pub clean : (seen new).is_clean → (seen old).is_clean
    pub about : (seen new).is_clean → (seen new).about ≡ (seen old).about
    pub count : (seen old).failures ≤ (seen new).failures
    pub access : NoAccess seen old new
    pub idle : (seen new).state.begun ≡ false
    pub store : IfErr result (λ f. f.cause ≡ Store → (seen old).failures < (seen new).failures)
    pub turned : (seen new).is_clean → IsTurned policy reader Wrote (seen old).state.now (seen new).state.now result
