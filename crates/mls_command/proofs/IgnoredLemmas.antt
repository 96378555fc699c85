-- What is drawn and explained, beside what is said of the fields that nobody reads.
use Rattle.std.proofs.Common.{◌≡◌, ℕ, List, Option, sym, subst}
use Rattle.mls_lattice.specs.Policy.{Name, Policy}
use Rattle.mls_scheme.specs.Scheme.{Schemes}
use Rattle.mls_translang.specs.Tx.{Tx}
use Rattle.mls_host.specs.declared.ending.Ending.{Ending}
use Rattle.mls_command.specs.Explaining.{IsExplained}
use Rattle.mls_command.specs.Showing.{IsPictured}

module _ (Ignores : List ℕ → Type 0) (ignored : List ℕ) (is : Ignores ignored) (text : List ℕ) (end : Ending) where
  pub pictured_so : IsPictured (λ t. t ≡ ignored) text end → IsPictured Ignores text end
  pictured_so x = record {
    drawn = x.drawn;
    ignored = x.ignored;
    ignored_are = subst Ignores (sym x.ignored_are) is;
    text_is = x.text_is;
    end_is = x.end_is;
  }

  pub explained_so : (policy : Policy) (schemes : Schemes) (txs : List Tx) (name : Option Name) (told : List ℕ)
      → IsExplained policy schemes txs name (λ t. t ≡ ignored) text told end
      → IsExplained policy schemes txs name Ignores text told end
  explained_so policy schemes txs name told x = record {
    chosen = x.chosen;
    explained = x.explained;
    chosen_are = x.chosen_are;
    explained_are = x.explained_are;
    ignored = x.ignored;
    ignored_are = subst Ignores (sym x.ignored_are) is;
    text_is = x.text_is;
    told_is = x.told_is;
    end_is = x.end_is;
  }
