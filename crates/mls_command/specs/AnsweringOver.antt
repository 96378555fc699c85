-- The machine as a host, and what comes of words over it.
use Rattle.std.specs.Prelude.{◌⊎◌, ◌<◌, ℕ, Bool, List, [], MatchOption, ⊤}
use Rattle.sqlite.specs.Recovery.{Image}
use Rattle.mls_filterview.specs.Content.{Seen}
use Rattle.mls_lattice.specs.Policy.{Policy}
use Rattle.mls_scheme.specs.declared.file.SchemesFile.{SchemesFile}
use Rattle.mls_fragments.specs.Again.{FindsHoldings}
use Rattle.mls_fragments.specs.Holdings.{Holdings}
use Rattle.mls_fragments.specs.Opening.{IsStoreOrMemory}
use Rattle.mls_fragments.specs.declared.open_fault.OpenFault.{OpenFault}
use Rattle.mls_host.specs.Hosting.{Hosting, hosted}
use Rattle.mls_runs.specs.Explaining.{any_text}
use Rattle.mls_command.specs.Answering.{IsOutcomeOf}
use Rattle.mls_command.specs.declared.machine.Machine.{Machine}

module _ {B L R O : Type 0} (seen : B → Seen) (was_open : B → Bool) (image : Image)
    (bars : R → Image → Policy → SchemesFile → OpenFault → Type 0) (keeps : L → Bool → Holdings → Type 0)
    (is_open : L → Type 0) where
  -- Any bytes, and any cause: what a file has, and what is typed, is known to nobody before it is read. A store keeps
  -- what the files held, before anything of it was taken; and after a run, what is left of it keeps. Honest is a base
  -- that is clean, and a machine that took none back. A store is barred for itself, for memory, or for what was given
  -- back of it.
  abbrev pub hosting : Machine B L R O → Hosting
  hosting m = record {
    gives = λ _ _. ⊤;
    lacks = λ _ _. ⊤;
    types = λ _. ⊤;
    breaks = ⊤;
    is_terminal = m.is_terminal;
    is_watched = m.is_watched;
    keeps = λ path h. MatchOption m.left (FindsHoldings image h)
        (λ l. MatchOption m.base ⊥ (λ base. keeps l.value (was_open base.value) h));
    bars = λ path policy file e. IsStoreOrMemory e ⊎ MatchOption m.refused ⊥ (λ r. bars r.value image policy file e);
    shows = λ _ _ _. ⊤;
    hides = λ _ _. ⊤;
    ignores = λ _ _. ⊤;
    is_honest = MatchOption m.base ⊤ (λ base. (seen base.value).is_clean);
    has_failed = MatchOption m.base ⊥ (λ base. 0 < (seen base.value).failures);
    is_unclosed = MatchOption m.left ⊥ (λ l. is_open l.value);
    asked = λ label. MatchOption m.base ⊥ (λ base. (seen base.value).asked label);
    changed = λ label. MatchOption m.base ⊥ (λ base. (seen base.value).changed label);
  }

  -- what comes of words over it, from how it was to how it is; a shell at a terminal may explain by any text
  abbrev pub IsAnsweredOver : (was now : Machine B L R O) → List (List ℕ) → (Wrote Told : List ℕ → Type 0) → ℕ → Type 0
  IsAnsweredOver was now words Wrote Told status =
      IsOutcomeOf any_text (hosted hosting (λ line. []) was now) words Wrote Told status
