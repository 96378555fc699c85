-- The mark behind an answer: a line that begins with an equals sign, by what became of the line that was answered.
use Rattle.std.specs.Prelude.{◌≡◌, ◌≢◌, ℕ, List, [], ◌++◌, codes, Option, Result, Ok, Err, decimal}
use Rattle.std.specs.Io.KnownBytes.{Appends}
use Rattle.mls_script.specs.declared.fault.ScriptFault.{ScriptFault}
use Rattle.mls_script.specs.Fault.{code_of, word_of}
use Rattle.mls_translang.specs.declared.run_fault.RunCause.{RunCause}
use Rattle.mls_translang.specs.declared.run_fault.RunCause.TheVariants.{Store, Write}
use Rattle.mls_sessions.specs.Run.{IsPart}
use Rattle.mls_runs.specs.declared.shell_session.Fate.{Fate}
use Rattle.mls_runs.specs.declared.shell_session.Fate.TheVariants.{Over, Refused, TooLong, Unreadable, Lost}

-- the code and the name of the fault, and its column
abbrev pub refused_mark : ScriptFault → List ℕ
refused_mark fault =
    codes "= " ++ decimal (code_of fault.cause) ++ codes " " ++ word_of fault.cause ++ codes " at "
    ++ decimal fault.column ++ codes "\n"

-- none at the end, and none of a line that was not read or understood
abbrev pub mark_of : Fate → List ℕ
mark_of Over = []
mark_of (Refused fault) = refused_mark fault
mark_of TooLong = codes "= too long\n"
mark_of Unreadable = []
mark_of (Lost cause) = []
mark_of _ = codes "=\n"

module _ (mark : List ℕ) (before after : Option (List ℕ)) where
  -- a mark is written in part, or not at all: nothing of it unless the writer refused
  pub record IsCutMark (cause : RunCause) : Type 0 where
    pub cut : IsPart before after mark
    pub none : cause ≢ Write → cut.part ≡ []
    pub no_store : cause ≢ Store

  abbrev pub IsMarked : Result (Unit {0}) RunCause → Type 0
  IsMarked (Ok _) = Appends before after mark
  IsMarked (Err cause) = IsCutMark cause
