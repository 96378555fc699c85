-- What is told of lines that are typed, and what is told beside it.
use Rattle.std.specs.Prelude.{◌≡◌, ℕ, ◌-◌, nat_eq, if◌then◌else◌, Bool, false, List, [], ◌++◌, codes, decimal}
use Rattle.mls_script.specs.declared.fault.ScriptCause.{ScriptCause}
use Rattle.mls_script.specs.Fault as faults
use Rattle.mls_host.specs.declared.telling.Tally.{Tally}

-- before a line: the level and the user of the session
abbrev pub prompt_text : List ℕ → List ℕ → List ℕ
prompt_text label user = label ++ codes " " ++ user ++ codes "> "

abbrev pub line_told : ℕ → List ℕ → List ℕ
line_told number word = codes "mldb: line " ++ decimal number ++ codes ": " ++ word ++ codes "\n"

abbrev pub fault_told : ℕ → ℕ → ScriptCause → List ℕ
fault_told number column cause =
    codes "mldb: line " ++ decimal number ++ codes ": " ++ decimal (faults.code_of cause) ++ codes " "
    ++ faults.word_of cause ++ codes " at " ++ decimal column ++ codes "\n"

abbrev pub lines_word : ℕ → List ℕ
lines_word count = if nat_eq count 1 then codes " line: " else codes " lines: "

-- how many lines say something, and what became of them
abbrev pub tally_told : Tally → List ℕ
tally_told t =
    codes "mldb: " ++ decimal t.lines ++ lines_word t.lines ++ decimal ((t.lines - t.refused) - t.misunderstood)
    ++ codes " done, " ++ decimal t.refused ++ codes " refused, " ++ decimal t.misunderstood
    ++ codes " not understood\n"

-- a text by which more is told where somebody reads standard error, to explain what was refused: any text there, and
-- none
-- elsewhere
pub record IsMore (is_watched : Bool) (Then : List ℕ → Type 0) : Type 0 where
  pub more : List ℕ
  pub none : is_watched ≡ false → more ≡ []
  pub leads : Then more
