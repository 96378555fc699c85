-- What the words of a command line ask for, by the matches of its parser.
use Rattle.std.proofs.Common.{◌≡◌, ◌≤◌, List, [], ◌∷◌, length, ◌⊎◌, inl, inr}
use Rattle.clap.specs.Words.{IsAmong, Kinds, Text, fault_of}
use Rattle.clap.specs.declared.error.kind.ErrorKind.{ErrorKind}
use Rattle.clap.specs.declared.error.kind.ErrorKind.TheVariants as kind
use Rattle.mls_host.specs.declared.usage.Usage.{Usage}
use Rattle.mls_host.specs.declared.usage.Usage.TheVariants as usage
use Rattle.mls_host.specs.Words.{AskNothing, command_line}

-- ---- refusals

among_none : (k : ErrorKind) (kinds : Kinds) → IsAmong k kinds → kinds ≡ [] → ⊥
among_none k [] h e = h
among_none k (x ∷ xs) h e = absurd cc

-- an error of a parse is of want of memory, or of a fault, with which the words ask for no job
pub refused : (words : List Text) (k : ErrorKind) (u : Usage) → 2 ≤ length words
    → (k ≡ kind.OutOfMemory) ⊎ IsAmong k (fault_of command_line words) → (k ≡ kind.OutOfMemory → u ≡ usage.Memory)
    → AskNothing words u
refused words k (usage.Text text) some h memory = (some, λ job asks. by_kind h (asks.taken some))
  where
    other : (t : _) → usage.Text t ≡ usage.Memory → ⊥
    other t e = absurd cc

    by_kind : (k ≡ kind.OutOfMemory) ⊎ IsAmong k (fault_of command_line words) → fault_of command_line words ≡ [] → ⊥
    by_kind (inl e) none = other text (memory e)
    by_kind (inr among) none = among_none k (fault_of command_line words) among none
refused words k usage.Memory some h memory = tt
