-- Lines that are typed.
use Rattle.std.specs.Prelude.{◌≡◌, ◌≢◌, ℕ, ◌<◌, ◌≤◌, Bool, true, false, if◌then◌else◌, ◌⊎◌, ⊤, List, [], ◌∷◌, ◌++◌}
use Rattle.std.specs.Prelude.{length}
use Rattle.std.specs.Prelude.{Option, Some, None}
use Rattle.std.specs.List.{AllByRecursion}
use Rattle.std.specs.Io.KnownBytes.{Appends, Consumes, IsAtEnd}
use Rattle.mls_tokens.specs.declared.typed.Typed.{Typed}
use Rattle.mls_tokens.specs.declared.typed.Typed.TheVariants as typed
use Rattle.mls_tokens.specs.declared.typed.TypingFault.{TypingFault}
use Rattle.mls_tokens.specs.declared.typed.TypingFault.TheVariants.{Unreadable, Memory, Output}
use Rattle.mls_tokens.specs.declared.typed.Part.{Part}
use Rattle.mls_tokens.specs.declared.typed.Part.TheVariants.{Line, Last, Full}

-- bytes without an LF
abbrev pub HasNoFeed : List ℕ → Type 0
HasNoFeed = AllByRecursion (λ b. b ≢ 10)

-- of the bytes that a reader has left, before and after, where they are known
module _ (before after : Option (List ℕ)) where
  -- the line comes next: up to its LF, or up to the end; at the end an empty one comes
  pub record IsNext (line : List ℕ) : Type 0 where
    pub text : List ℕ
    pub one : HasNoFeed text
    pub read : Consumes before after line
    pub whole : (line ≡ text ++ 10 ∷ []) ⊎ ((line ≡ text) × IsAtEnd after)

  -- and it has so many bytes before its LF
  pub record IsLong (line : List ℕ) : Type 0 where
    pub next : IsNext line
    pub long : 1048576 ≤ length next.text

  -- some bytes are taken
  abbrev pub IsTaken : Type 0
  IsTaken = (bytes : List ℕ) × Consumes before after bytes

  -- a byte is read, or there is none
  abbrev pub IsByte : Option ℕ → Type 0
  IsByte None = Consumes before after [] × IsAtEnd after
  IsByte (Some b) = Consumes before after (b ∷ [])

  abbrev pub IsPart : Part → Type 0
  IsPart (Line line) =
      (text : List ℕ) × HasNoFeed text × (line.items ≡ text ++ 10 ∷ []) × Consumes before after line.items
      × (length text < 1048576)
  IsPart (Last line) =
      HasNoFeed line.items × Consumes before after line.items × IsAtEnd after × (length line.items < 1048576)
  IsPart Full = (text : List ℕ) × HasNoFeed text × (1048576 ≤ length text) × Consumes before after text

  -- the rest of a line is taken, up to the end, or up to its LF
  abbrev pub IsSkipped : Bool → Type 0
  IsSkipped true = (text : List ℕ) × HasNoFeed text × Consumes before after text × IsAtEnd after
  IsSkipped false = (text : List ℕ) × HasNoFeed text × Consumes before after (text ++ 10 ∷ [])

-- unreadable is told only of what a read has failed of
abbrev pub IsCause : Type 0 → TypingFault → Type 0
IsCause broken Unreadable = broken
IsCause broken Memory = ⊤
IsCause broken Output = ⊤

-- behind the end nothing is left
abbrev pub left_of : Bool → Option (List ℕ) → Option (List ℕ)
left_of over left = if over then Some [] else left

-- `echo`: what a host shows of a line, among what is written, when it is read
module _ (echo : List ℕ → List ℕ) (before after was is : Option (List ℕ)) where
  -- a line of fewer bytes before its LF comes, and is shown; of one that is too long nothing is shown
  abbrev pub IsTyped : Typed → Type 0
  IsTyped (typed.Line line) =
      (next : IsNext before after line.items) × Appends was is (echo line.items) × (length next.text < 1048576)
  IsTyped typed.TooLong = (line : List ℕ) × IsLong before after line × Appends was is []

  -- some bytes are taken, and a first part of some line is shown
  pub record IsLost : Type 0 where
    pub bytes : List ℕ
    pub line : List ℕ
    pub shown : List ℕ
    pub rest : List ℕ
    pub read : Consumes before after bytes
    pub written : Appends was is shown
    pub part : shown ++ rest ≡ echo line
