-- What a command does that is printed at once: all of it is written, or a first part, or nothing.
use Rattle.std.specs.Prelude.{◌≡◌, ℕ, List, [], ◌++◌, string_bytes, Result, Ok, Err}
use Rattle.mls_host.specs.declared.ending.Ending.{Ending}
use Rattle.mls_host.specs.declared.reason.Reason.{Reason}
use Rattle.mls_host.specs.declared.stop.Stop.{Stop}
use Rattle.mls_host.specs.declared.stop.Stop.TheVariants.{Before, Output}
use Rattle.mls_host.specs.Deed.{Deed, IsQuiet}
use Rattle.mls_command.specs.declared.listing.Listing.{Listing}

-- the texts of a listing, and its ending
abbrev pub IsListed : Listing → List ℕ → List ℕ → Ending → Type 0
IsListed listing text told end =
    (text ≡ listing.text.items) × (told ≡ string_bytes listing.told) × (end ≡ listing.ending)

-- a first part of a text is written
pub record IsCutOff (wrote : List ℕ → Type 0) (text : List ℕ) : Type 0 where
  pub part : List ℕ
  pub rest : List ℕ
  pub written : wrote part
  pub whole : part ++ rest ≡ text

-- `Prints text told end`: what is printed, what is told, and how it ends; `Refuses reason`: why it is not begun
module _ (Prints : List ℕ → List ℕ → Ending → Type 0) (Refuses : Reason → Type 0) (d : Deed) where
  -- the text is written, and the other told; or nothing is; or, where the text is not taken, a first part is written
  abbrev pub IsPrintingTo : Result Ending Stop → Type 0
  IsPrintingTo (Ok end) = (text : List ℕ) × (told : List ℕ) × Prints text told end × d.wrote text × d.told told
  IsPrintingTo (Err (Before reason)) = Refuses reason × IsQuiet d
  IsPrintingTo (Err Output) =
      (text : List ℕ) × (told : List ℕ) × (end : Ending) × Prints text told end × IsCutOff d.wrote text × d.told []
  IsPrintingTo (Err stop) = ⊥

  abbrev pub IsPrinting : Type 0
  IsPrinting = IsPrintingTo d.end
