-- What evaluations begin with: an empty database, and no arguments.
use Rattle.std.proofs.Common.{◌≡◌, ℕ, suc, true, false, List, [], ◌∷◌, ◌++◌, length, Option, Some, None, sym, subst, arith, IfSome, option_to_list}
use Rattle.std.specs.List.{AllByRecursion, AllZip}
use Rattle.mls_lattice.specs.Labels.{Labels}
use Rattle.mls_scheme.specs.Scheme.{Schemes}
use Rattle.mls_filterview.specs.Content.{State, no_content}
use Rattle.mls_filterview.specs.Stored.{AreContent}
use Rattle.mls_translang.specs.declared.tx.Parameter.{Parameter}
use Rattle.mls_translang.specs.Tx.{Tx}
use Rattle.mls_scheme.specs.Value.{fits_kind}
use Rattle.mls_certcheck.specs.MeaningLaws.{ArgsFit}
use Rattle.mls_audit.proofs.SoundLemmas.{no_tuples}

pub none_stored : (ls : Labels) (schemes : Schemes) (s : State) → s ≡ record {
  now = no_content;
  kept = no_content;
  begun = false;
} → AreContent ls schemes s.now.db
none_stored ls schemes s is = subst (λ (x : State). AreContent ls schemes x.now.db) (sym is) (no_tuples ls schemes)

-- a transaction without parameters takes no arguments
pub none_fit : (tx : Tx) → length tx.params ≡ 0 → ArgsFit tx []
none_fit tx none = by_params tx.params none
  where
    by_params : (ps : List (List ℕ × Parameter)) → length ps ≡ 0 → AllZip (λ p v. fits_kind v p.1.kind ≡ true) ps []
    by_params [] e = tt
    by_params (p ∷ ps) e = let none : suc (length ps) ≡ 0 = e in absurd (omega (arith, none))

-- what holds of all of a list holds of its last item
pub last_holds : {A : Type 0} (P : A → Type 0) (xs front : List A) (o : Option A) → xs ≡ front ++ option_to_list o
    → AllByRecursion P xs → IfSome o P
last_holds P xs front None is h = tt
last_holds {A = A} P xs front (Some x) is h = behind front (subst (AllByRecursion P) is h)
  where
    behind : (ys : List A) → AllByRecursion P (ys ++ x ∷ []) → P x
    behind [] g = g.0
    behind (y ∷ ys) g = behind ys g.1
