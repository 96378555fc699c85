-- What a script says, or its fault: line by line, on a line first its form, then the least fault of its names and
-- kinds.
use Rattle.std.specs.Prelude.{◌≡◌, ℕ, ◌+◌, Bool, true, false, ◌==◌, if◌then◌else◌, List, [], ◌∷◌, ◌++◌, length}
use Rattle.std.specs.Prelude.{Option, Some, None, option_map, option_to_list, Result, Ok, Err}
use Rattle.mls_lattice.specs.Policy.{Policy}
use Rattle.mls_lattice.specs.Reading.{◌>>=◌, GivesUnless}
use Rattle.mls_lattice.specs.Time.{is_time}
use Rattle.mls_scheme.specs.Scheme.{Schemes}
use Rattle.mls_tokens.specs.declared.token.Token.{Token}
use Rattle.mls_tokens.specs.declared.token.Token.TheVariants.{Word, Int, Text, Sign}
use Rattle.mls_tokens.specs.Scanning.{tokens_at}
use Rattle.mls_tokens.specs.Passing.{PlacedText, pass_text, has_ended, pass_end}
use Rattle.mls_parser.specs.declared.fault.PlacedFault.{PlacedFault}
use Rattle.mls_parser.specs.declared.fault.TextCause.TheVariants.{Kind}
use Rattle.mls_parser.specs.Fault.{unless, least, IsLeast}
use Rattle.mls_parser.specs.Noted.{State, Read, note, token, name_at, label_at, relation_at}
use Rattle.mls_parser.specs.Parsing.{answer}
use Rattle.mls_parser.specs.Words.{pass_known}
use Rattle.mls_translang.specs.declared.event.Event.{Event}
use Rattle.mls_translang.specs.declared.event.Command.{Command}
use Rattle.mls_translang.specs.declared.event.Command.TheVariants as commands
use Rattle.mls_script.specs.declared.fault.ScriptCause.TheVariants.{Memory, Unterminated}
use Rattle.mls_script.specs.declared.fault.LineFault.{LineFault}
use Rattle.mls_script.specs.declared.fault.ScriptFault.{ScriptFault}
use Rattle.mls_script.specs.declared.grammar.Verb.{Verb}
use Rattle.mls_script.specs.declared.grammar.Verb.TheVariants as verb
use Rattle.mls_script.specs.Fault.{line_fault, in_line, on_line}
use Rattle.mls_script.specs.Grammar.{verbs, verb_among}
use Rattle.mls_script.specs.ReadBatch.{batch_at}
use Rattle.mls_script.specs.ReadList.{list_at}
use Rattle.mls_script.specs.ReadParts.{Written, look_at, insert_at, update_at, delete_at}

abbrev pub verb_of_token : Token → Option Verb
verb_of_token (Word s) = verb_among verbs s
verb_of_token (Int n) = None
verb_of_token (Text s) = None
verb_of_token (Sign s) = None

abbrev pub end_at : State → Read (Unit {0})
end_at s = token (λ l. pass_end l >>= λ u. Ok (u, l)) s

-- ---- times

-- a text at the front has to be a time
abbrev pub untimed : Option PlacedText → List PlacedFault
untimed None = []
untimed (Some t) = unless (is_time t.0) t.1 Kind

-- the time at the front of a line, where one is
unfoldable pub time_at : State → Read (Option (List ℕ))
time_at s = token pass_text s >>= λ t. Ok (option_map (λ x. x.0) t.0, note (untimed t.0) t.1)

-- ---- faults in their places

abbrev pub placed_on : {X : Type 0} → Result X PlacedFault → Result X LineFault
placed_on (Ok x) = Ok x
placed_on (Err f) = Err (on_line f)

abbrev pub in_script : {X : Type 0} → ℕ → Result X LineFault → Result X ScriptFault
in_script number (Ok x) = Ok x
in_script number (Err e) = Err (in_line number e)

-- ---- commands, behind the verb

-- arguments are left to the denials
unfoldable pub call_at : State → Read Command
call_at s = do
  n ← name_at s
  args ← list_at None n.1
  Ok (commands.Call n.0.0 args.0, args.1)

abbrev pub written : Read Written → Read Command
written r = r >>= λ w. Ok (commands.Write w.0.0 w.0.1, w.1)

module _ (policy : Policy) (schemes : Schemes) where
  abbrev pub viewed_at : Bool → State → Read Command
  viewed_at counts s =
      look_at policy schemes counts s >>= λ l. Ok (commands.View l.0.relation l.0.label l.0.query counts, l.1)

  abbrev pub command_at : Verb → State → Read Command
  command_at verb.Open s = name_at s >>= λ n. Ok (commands.Open n.0.0, n.1)
  command_at verb.Close s = Ok (commands.Close, s)
  command_at verb.Audit s = Ok (commands.Audit, s)
  command_at verb.View s = viewed_at false s
  command_at verb.Count s = viewed_at true s
  command_at verb.Dump s = relation_at schemes s >>= λ r. Ok (commands.Dump r.0, r.1)
  command_at verb.Insert s = written (insert_at schemes s)
  command_at verb.Update s = written (update_at policy schemes s)
  command_at verb.Delete s = written (delete_at policy schemes s)
  command_at verb.Call s = call_at s
  command_at verb.All s = batch_at policy schemes s >>= λ b. Ok (commands.All b.0, b.1)

  -- ---- a line

  -- a level, a session and a command, behind any time
  unfoldable pub event_at : Option (List ℕ) → State → Read Event
  event_at time s = do
    level ← label_at policy s
    session ← name_at level.1
    v ← token (pass_known verb_of_token) session.1
    c ← command_at v.0.0 v.1
    Ok (record { level = level.0; session = session.0.0; time = time; command = c.0 }, c.1)

  -- a time and an event
  unfoldable pub timed_at : State → Read Event
  timed_at s = time_at s >>= λ t. event_at t.0 t.1

  -- what a line tells, with the faults of names and kinds that are noted; or the fault of its form
  unfoldable pub told_at : State → Read (Option Event)
  told_at s =
      if has_ended s.1 then Ok (None, s) else
      (timed_at s >>= λ e. end_at e.1 >>= λ end. Ok (Some e.0, end.1))

  -- first the form, then whether the line has its end, then the least fault of names and kinds
  unfoldable pub line_at : List ℕ → Bool → Result (Option Event) LineFault
  line_at line ended =
      placed_on (told_at ([], tokens_at line))
      >>= λ x. if ended then placed_on (answer (least x.1.0) x.0) else Err (line_fault (length line + 1) Unterminated)

  -- ---- all lines

  -- the lines from that of a number on, behind these events
  abbrev pub lines_at : ℕ → List Event → List (List ℕ × Bool) → Result (List Event) ScriptFault
  lines_at number events [] = Ok events
  lines_at number events (line ∷ lines) =
      in_script number (line_at line.0 line.1)
      >>= λ e. lines_at (number + 1) (events ++ option_to_list e) lines

-- Where the form of a line is right: what is read has no fault; the fault that is answered is one of those that were
-- noted, and none of them stands before it.
abbrev pub IsJudged : State → Result (Option Event) LineFault → Type 0
IsJudged s (Ok o) = s.0 ≡ []
IsJudged s (Err e) = (f : PlacedFault) × IsLeast s.0 f × (e ≡ on_line f)

abbrev pub LinesAreJudged : Type 0
LinesAreJudged =
    (policy : Policy) (schemes : Schemes) (line : List ℕ) (x : Option Event × State)
    → told_at policy schemes ([], tokens_at line) ≡ Ok x → IsJudged x.1 (line_at policy schemes line true)

-- the lines of a text, and whether each has its LF
abbrev pub split_lines : List ℕ → List ℕ → List (List ℕ × Bool)
split_lines [] [] = []
split_lines (f ∷ front) [] = (f ∷ front, false) ∷ []
split_lines front (b ∷ bs) = if b == 10 then (front, true) ∷ split_lines [] bs else split_lines (front ++ b ∷ []) bs

unfoldable pub script_at : Policy → Schemes → List ℕ → Result (List Event) ScriptFault
script_at policy schemes bytes = lines_at policy schemes 1 [] (split_lines [] bytes)

-- What script returned is what reading gives, unless memory ran out.
abbrev pub GivesScript : {X : Type 0} → (X → List Event) → Result X ScriptFault → Result (List Event) ScriptFault
    → Type 0
GivesScript = GivesUnless (λ e. e.cause ≡ Memory)

-- The same of what is read of a line.
abbrev pub GivesLine : {X Y : Type 0} → (X → Y) → Result X LineFault → Result Y LineFault → Type 0
GivesLine = GivesUnless (λ e. e.cause ≡ Memory)
