-- Why a command ends without success, and the line that tells it.
use Rattle.std.specs.Prelude.{ℕ, Bool, true, false, if◌then◌else◌, List, [], ◌++◌, codes, Result, Ok, Err, decimal}
use Rattle.mls_fragments.specs.declared.open_fault.OpenFault.TheVariants as stores
use Rattle.mls_fragments.specs.OpenFault as store_faults
use Rattle.mls_translang.specs.declared.run_fault.RunCause.{RunCause}
use Rattle.mls_translang.specs.declared.run_fault.RunFault.{RunFault}
use Rattle.mls_translang.specs.RunFault.{cause_word}
use Rattle.mls_host.specs.declared.host.CloseFault.{CloseFault}
use Rattle.mls_host.specs.declared.reason.Reason.{Reason}
use Rattle.mls_host.specs.declared.reason.Role.TheVariants as role
use Rattle.mls_host.specs.declared.stop.Stop.{Stop}
use Rattle.mls_host.specs.declared.stop.Stop.TheVariants.{Before, Run, NotClosed, Output, Served, Unread, Turned}
use Rattle.mls_host.specs.declared.ending.Ending.{Ending}
use Rattle.mls_host.specs.declared.ending.Ending.TheVariants.{Well, Refused}
use Rattle.mls_host.specs.Reason.{role_word, fault_text, reason_text, reason_status}

abbrev pub run_text : RunFault → List ℕ
run_text f = codes "mldb: run: " ++ cause_word f.cause ++ codes " at " ++ decimal f.event ++ codes "\n"

abbrev pub served_text : RunCause → List ℕ
served_text cause = codes "mldb: serve: " ++ cause_word cause ++ codes "\n"

abbrev pub turned_text : RunCause → List ℕ
turned_text cause = codes "mldb: turn: " ++ cause_word cause ++ codes "\n"

abbrev pub unclosed_text : List ℕ
unclosed_text =
    fault_text (role_word role.Store) (store_faults.code_of stores.Store) (store_faults.word_of stores.Store)

-- what is told behind a fault
abbrev pub closing_text : Bool → List ℕ
closing_text is_closed = if is_closed then [] else unclosed_text

-- what is told of a stop
abbrev pub stop_text : Stop → List ℕ
stop_text (Before reason) = reason_text reason
stop_text (Run f is_closed) = run_text f ++ closing_text is_closed
stop_text NotClosed = unclosed_text
stop_text Output = codes "mldb: output: Write\n"
stop_text (Served cause is_closed) = served_text cause ++ closing_text is_closed
stop_text Unread = codes "mldb: serve: Unreadable\n"
stop_text (Turned cause is_closed) = turned_text cause ++ closing_text is_closed

abbrev pub stop_status : Stop → ℕ
stop_status (Before reason) = reason_status reason
stop_status Unread = 1
stop_status (Run f is_closed) = 3
stop_status NotClosed = 3
stop_status Output = 3
stop_status (Served cause is_closed) = 3
stop_status (Turned cause is_closed) = 3

-- ---- over a store

module _ {A : Type 0} where
  -- how a run or a shell ended whose store was closed, or not
  abbrev pub ended : Result A RunFault → Result (Unit {0}) CloseFault → Result A Stop
  ended (Err fault) (Ok _) = Err (Run fault true)
  ended (Err fault) (Err e) = Err (Run fault false)
  ended (Ok end) (Err fault) = Err NotClosed
  ended (Ok end) (Ok _) = Ok end

  -- what holds of one that ended, or was given up at a fault; it is whole where its store was not closed; and what
  -- holds where none began
  abbrev pub IsEnd : (Result A RunFault → Type 0) → (Reason → Type 0) → Result A Stop → Type 0
  IsEnd Ends Nothing (Ok end) = Ends (Ok end)
  IsEnd Ends Nothing (Err (Before reason)) = Nothing reason
  IsEnd Ends Nothing (Err (Run fault is_closed)) = Ends (Err fault)
  IsEnd Ends Nothing (Err NotClosed) = (end : A) × Ends (Ok end)
  IsEnd Ends Nothing _ = ⊥

-- how a desk ended, as it is told: without a number, and a line that could not be read as a stop
abbrev pub served : Result Ending Stop → Result Ending Stop
served (Ok Well) = Ok Well
served (Ok Refused) = Err Unread
served (Err (Run fault is_closed)) = Err (Served fault.cause is_closed)
served (Err stop) = Err stop

-- how a turning ended, as it is told: without a number
abbrev pub turned : Result (Unit {0}) Stop → Result Ending Stop
turned (Ok _) = Ok Well
turned (Err (Run fault is_closed)) = Err (Turned fault.cause is_closed)
turned (Err stop) = Err stop
