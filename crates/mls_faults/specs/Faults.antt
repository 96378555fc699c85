-- Faults of the form of a text and of a line of a script, and what the first tokens say of them.
use Rattle.std.specs.Prelude.{◌≡◌, ℕ, ◌≤◌, ◌<◌, Bool, true, false, List, [], ◌∷◌, ◌++◌, Err}
use Rattle.std.specs.List.{AllByRecursion}
use Rattle.mls_lattice.specs.Policy.{Policy}
use Rattle.mls_scheme.specs.Scheme.{Schemes}
use Rattle.mls_tokens.specs.declared.token.Placed.{Placed}
use Rattle.mls_tokens.specs.declared.token.Token.{Token}
use Rattle.mls_tokens.specs.Scanning.{tokens_at, without_places}
use Rattle.mls_tokens.specs.Text.{AreTokens}
use Rattle.mls_parser.specs.declared.fault.TextCause.{TextCause}
use Rattle.mls_parser.specs.declared.fault.TextCause.TheVariants as texts
use Rattle.mls_parser.specs.declared.fault.PlacedFault.{PlacedFault}
use Rattle.mls_parser.specs.Laws.{TellsNone}
use Rattle.mls_parser.specs.Parsing.{parsed}
use Rattle.mls_script.specs.Fault.{on_line}
use Rattle.mls_script.specs.Reading.{line_at}

-- ---- tokens

-- the text begins with these tokens, at their places
abbrev pub BeginsWith : List Placed → List ℕ → Type 0
BeginsWith ps bytes = (rest : List Placed) × ((tokens_at bytes).placed ≡ ps ++ rest)

-- they stand before a place
abbrev pub AreBefore : ℕ → List Placed → Type 0
AreBefore at = AllByRecursion (λ p. p.at < at)

-- ---- texts of transactions

-- a cause of a fault of names, kinds or labels: the others are of the form
abbrev pub is_of_names : TextCause → Bool
is_of_names texts.UnknownName = true
is_of_names texts.Kind = true
is_of_names texts.Repeated = true
is_of_names texts.LabelOrder = true
is_of_names _ = false

module _ (policy : Policy) (schemes : Schemes) where
  -- the form of the text is wrong, and this is its fault
  pub record IsIllFormed (bytes : List ℕ) (f : PlacedFault) : Type 0 where
    pub refused : parsed policy schemes bytes ≡ Err f
    pub form : is_of_names f.cause ≡ false

  -- Where a text has a fault of its form at a token or before it, each text that begins so, up to and with the token,
  -- has the same fault, and tells nothing.
  abbrev pub FaultsOfFormStay : Type 0
  FaultsOfFormStay =
      (bytes other : List ℕ) (ps : List Placed) (p : Placed) (f : PlacedFault) → IsIllFormed bytes f → f.at ≤ p.at
      → BeginsWith (ps ++ p ∷ []) bytes → BeginsWith (ps ++ p ∷ []) other
      → IsIllFormed other f × TellsNone policy schemes other

  -- And no text whose tokens begin as these do, however they are laid out, tells anything.
  abbrev pub FaultsOfFormTellNone : Type 0
  FaultsOfFormTellNone =
      (bytes other : List ℕ) (ps : List Placed) (p : Placed) (us : List Token) (f : PlacedFault) → IsIllFormed bytes f
      → f.at ≤ p.at → BeginsWith (ps ++ p ∷ []) bytes
      → AreTokens (without_places (ps ++ p ∷ []) ++ us) other → TellsNone policy schemes other

  -- And no token before its fault is refused: a text of none but such tokens has no fault of its form at any of them.
  abbrev pub FaultsOfFormComeFirst : Type 0
  FaultsOfFormComeFirst =
      (bytes other : List ℕ) (f g : PlacedFault) → IsIllFormed bytes f → IsIllFormed other g
      → BeginsWith (tokens_at other).placed bytes → AreBefore f.at (tokens_at other).placed
      → AreBefore g.at (tokens_at other).placed

-- ---- lines of scripts

module _ (policy : Policy) (schemes : Schemes) where
  -- the form of the line is wrong, whether it has its end or not, and this is its fault
  pub record IsIllFormedLine (line : List ℕ) (ended : Bool) (f : PlacedFault) : Type 0 where
    pub refused : line_at policy schemes line ended ≡ Err (on_line f)
    pub form : is_of_names f.cause ≡ false

  -- the same of lines
  abbrev pub FaultsOfLinesStay : Type 0
  FaultsOfLinesStay =
      (line other : List ℕ) (ended also : Bool) (ps : List Placed) (p : Placed) (f : PlacedFault)
      → IsIllFormedLine line ended f → f.at ≤ p.at → BeginsWith (ps ++ p ∷ []) line → BeginsWith (ps ++ p ∷ []) other
      → IsIllFormedLine other also f

  abbrev pub FaultsOfLinesComeFirst : Type 0
  FaultsOfLinesComeFirst =
      (line other : List ℕ) (ended also : Bool) (f g : PlacedFault) → IsIllFormedLine line ended f
      → IsIllFormedLine other also g → BeginsWith (tokens_at other).placed line
      → AreBefore f.at (tokens_at other).placed → AreBefore g.at (tokens_at other).placed
