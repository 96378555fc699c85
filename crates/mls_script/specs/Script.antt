-- Scripts: what events a text tells, with no word of how it is read.
use Rattle.std.specs.Prelude.{◌≡◌, ◌≢◌, ℕ, List, [], ◌∷◌, ◌++◌, Option, Some, None, flat_map, filter_map}
use Rattle.std.specs.List.{AllByRecursion}
use Rattle.mls_lattice.specs.Policy.{Policy, IsPolicy}
use Rattle.mls_scheme.specs.Scheme.{Schemes, AreSchemes}
use Rattle.mls_tokens.specs.declared.token.Token.{Token}
use Rattle.mls_tokens.specs.Text.{AreTokens}
use Rattle.mls_translang.specs.declared.event.Event.{Event}
use Rattle.mls_translang.specs.Event.{EventFits}
use Rattle.mls_script.specs.Tokens.{time_tokens, event_tokens}
use Rattle.mls_script.specs.BatchTokens.{TellsTail}

-- a line without its LF, and the event that it tells, if it is not blank
pub record Line : Type 0 where
  pub text : List ℕ
  pub event : Option Event

-- the tokens of the line are those of its time and of its event, and behind them those of its query
pub record TellsEvent (policy : Policy) (schemes : Schemes) (text : List ℕ) (e : Event) : Type 0 where
  pub fits : EventFits policy schemes e
  pub tail : List Token
  pub tokens : AreTokens (time_tokens e.time ++ (event_tokens policy schemes e ++ tail)) text
  pub query : TellsTail policy schemes e.command tail

-- the text tells this event, or none: a relation, since an expression can be written with other parentheses
abbrev pub Tells : Policy → Schemes → List ℕ → Option Event → Type 0
Tells policy schemes text None = AreTokens [] text
Tells policy schemes text (Some e) = TellsEvent policy schemes text e

pub record IsLineOf (policy : Policy) (schemes : Schemes) (line : Line) : Type 0 where
  pub one : AllByRecursion (λ b. b ≢ 10) line.text
  pub tells : Tells policy schemes line.text line.event

-- the bytes are lines, each with its LF, which tell these events in order
pub record ReadsScript (policy : Policy) (schemes : Schemes) (bytes : List ℕ) (events : List Event) : Type 0 where
  pub lines : List Line
  pub text : bytes ≡ flat_map (λ line. line.text ++ 10 ∷ []) lines
  pub told : events ≡ filter_map (λ line. line.event) lines
  pub each : AllByRecursion (IsLineOf policy schemes) lines

-- a text tells the events of one list at most
abbrev pub ScriptsAreOnce : Type 0
ScriptsAreOnce =
    (policy : Policy) (schemes : Schemes) → IsPolicy policy → AreSchemes schemes
    → (bytes : List ℕ) (es fs : List Event) → ReadsScript policy schemes bytes es → ReadsScript policy schemes bytes fs
    → es ≡ fs
