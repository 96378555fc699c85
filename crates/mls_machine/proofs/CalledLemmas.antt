-- What is stored by the name of a call.
use Rattle.std.proofs.Common.{◌≡◌, ℕ, Bool, true, false, cond, List, [], ◌∷◌, Option, Some, None, find, IfSome, ◌⊎◌}
use Rattle.std.specs.Prelude.{⊤}
use Rattle.std.specs.List.{AllByRecursion}
use Rattle.mls_lattice.specs.Policy.{Name}
use Rattle.mls_scheme.specs.declared.value.Value.{Value}
use Rattle.mls_scheme.specs.Table.{Database}
use Rattle.mls_scheme.specs.Scheme.{Schemes}
use Rattle.mls_translang.specs.Tx.{Tx}
use Rattle.mls_translang.specs.Fits.{IsReadUnder}
use Rattle.mls_certcheck.specs.Meaning.{run_tx}
use Rattle.mls_certcheck.specs.Secure.{Secure, SameViews, SameArgs, param_labels, seen_items, Split, Alike}
use Rattle.mls_certcheck.specs.Secure as low
use Rattle.mls_translang.specs.declared.event.Command.{Command}
use Rattle.mls_translang.specs.declared.event.Command.TheVariants as commands
use Rattle.mls_certcheck.specs.declared.stored.Stored.{Stored}
use Rattle.mls_certcheck.specs.declared.stored.Stored.TheVariants.{Certified, Plain}
use Rattle.mls_certcheck.specs.Stored.{tx_of, WhereCertified}
use Rattle.mls_certcheck.specs.Site.{Site, site_labels, AreRead}
use Rattle.mls_machine.specs.Denying.{stored_named}
use Rattle.mls_machine.specs.Observation.{AreSecure, IsCallSecure}
use Rattle.mls_machine.specs.Telling.{Test}

-- the transaction that is stored with a certificate, if one is
abbrev pub certified_of : Option Stored → Option Tx
certified_of None = None
certified_of (Some (Plain tx)) = None
certified_of (Some (Certified k)) = Some k.tx

-- what is asked of a transaction where a command calls it and it has a certificate
abbrev pub WhereCalled : Site → (Tx → Type 0) → Command → Type 0
WhereCalled site P (commands.Call name args) = IfSome (certified_of (stored_named site.stored name)) P
WhereCalled site P command = ⊤

-- it was read under the policy and the schemes
abbrev pub CallsRead : Site → Command → Type 0
CallsRead site = WhereCalled site (IsReadUnder site.policy site.schemes)

-- ---- of all that are stored

-- what holds of all holds of the one that is found
pub found_holds : {X : Type 0} (P : X → Type 0) (test : X → Bool) (xs : List X) → AllByRecursion P xs
    → IfSome (find test xs) P
found_holds P test [] h = tt
found_holds P test (x ∷ xs) h = elim (test x) as
    (λ b. IfSome (cond b (Some x) (find test xs)) P) [ true ↦ h.0 | false ↦ found_holds P test xs h.1 ]

where_called : (site : Site) (P : Tx → Type 0)
    → ((name : Name) → IfSome (certified_of (stored_named site.stored name)) P) → (command : Command)
    → WhereCalled site P command
where_called site P h (commands.Call name args) = h name
where_called site P h _ = tt

-- the policy and the schemes that it was read under, and security
pub record IsSafe (site : Site) (tx : Tx) : Type 0 where
  pub read : IsReadUnder site.policy site.schemes tx
  pub secure : Secure site.policy tx

pub all_read : (site : Site) → AreRead site → (command : Command) → CallsRead site command
all_read site read = where_called site (IsReadUnder site.policy site.schemes)
    (λ name. by_stored (stored_named site.stored name) (found_holds _ _ site.stored read))
  where
    by_stored : (o : Option Stored) → IfSome o (λ s. IsReadUnder site.policy site.schemes (tx_of s))
        → IfSome (certified_of o) (IsReadUnder site.policy site.schemes)
    by_stored None r = tt
    by_stored (Some (Plain tx)) r = tt
    by_stored (Some (Certified k)) r = r

pub all_safe : (site : Site) → AreRead site → AreSecure site → (command : Command)
    → WhereCalled site (IsSafe site) command
all_safe site read secure =
    where_called site (IsSafe site) (λ name. by_stored (stored_named site.stored name)
    (found_holds _ _ site.stored read) (found_holds _ _ site.stored secure))
  where
    by_stored : (o : Option Stored) → IfSome o (λ s. IsReadUnder site.policy site.schemes (tx_of s))
        → IfSome o (WhereCertified (Secure site.policy)) → IfSome (certified_of o) (IsSafe site)
    by_stored None r s = tt
    by_stored (Some (Plain tx)) r s = tt
    by_stored (Some (Certified k)) r s = record { read = r; secure = s }

-- ---- tests of what is stored

-- two runs that began alike to c look alike to it, but for what is released to it, where X
abbrev pub TwoRuns : Site → (ℕ → Type 0) → Tx → Type 0
TwoRuns site X tx =
    (c : ℕ) (schemes : Schemes) (d e : Database) (args brgs : List (Option Value)) → IsReadUnder site.policy schemes tx
    → low.AreStored (site_labels site) schemes d → low.AreStored (site_labels site) schemes e
    → SameViews (site_labels site) c d e → SameArgs (site_labels site) c (param_labels tx) args brgs
    → (X c × Split (seen_items (site_labels site) c (run_tx (site_labels site) schemes tx args d).released)
    (seen_items (site_labels site) c (run_tx (site_labels site) schemes tx brgs e).released))
    ⊎ Alike (site_labels site) c (run_tx (site_labels site) schemes tx args d)
    (run_tx (site_labels site) schemes tx brgs e)

-- a test tells which
abbrev pub IsJudged : Test → Site → Stored → Type 0
IsJudged tells site (Certified k) = TwoRuns site (λ c. tells site c (Certified k) ≡ true) k.tx
IsJudged tells site (Plain tx) = ⊤

-- of what a command calls
abbrev pub WhereJudged : Test → Site → Command → Type 0
WhereJudged tells site (commands.Call name args) = IfSome (stored_named site.stored name) (IsJudged tells site)
WhereJudged tells site command = ⊤

pub all_judged : (tells : Test) (site : Site) → AllByRecursion (IsJudged tells site) site.stored → (command : Command)
    → WhereJudged tells site command
all_judged tells site h (commands.Call name args) = found_holds _ _ site.stored h
all_judged tells site h _ = tt

-- ---- of one command

pub secure_call : (site : Site) (command : Command) → IsCallSecure site command → WhereCalled site (IsSafe site) command
secure_call site (commands.Call name args) h = by_stored (stored_named site.stored name) h
  where
    by_stored : (o : Option Stored)
        → IfSome o (λ s. IsReadUnder site.policy site.schemes (tx_of s) × WhereCertified (Secure site.policy) s)
        → IfSome (certified_of o) (IsSafe site)
    by_stored None h = tt
    by_stored (Some (Plain tx)) h = tt
    by_stored (Some (Certified k)) h = record { read = h.0; secure = h.1 }
secure_call site _ h = tt

pub some_weaker : {X : Type 0} (P Q : X → Type 0) → ((x : X) → P x → Q x) → (o : Option X) → IfSome o P → IfSome o Q
some_weaker P Q k None h = tt
some_weaker P Q k (Some x) h = k x h

pub weaker : (site : Site) (P Q : Tx → Type 0) → ((tx : Tx) → P tx → Q tx) → (command : Command)
    → WhereCalled site P command → WhereCalled site Q command
weaker site P Q k (commands.Call name args) h = some_weaker P Q k (certified_of (stored_named site.stored name)) h
weaker site P Q k _ h = tt
