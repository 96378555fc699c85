-- The laws of calls, from their lemmas.
use Rattle.std.proofs.Common.{◌≡◌, ℕ, zero, suc, true, List, [], ◌∷◌, Option, Some, None, refl, subst, slice_get, slice_index_or, option_map}
use Rattle.std.specs.List.{AllZip}
use Rattle.std.proofs.lemmas.Option.{same_Some}
use Rattle.mls_lattice.specs.Labels.{AreDistinct}
use Rattle.mls_lattice.specs.Policy.{Name, Policy, labels_of}
use Rattle.mls_scheme.specs.declared.value.Kind.{Kind}
use Rattle.mls_scheme.specs.declared.value.Value.{Value}
use Rattle.mls_scheme.specs.Value.{fits_kind}
use Rattle.mls_scheme.specs.Table.{Database}
use Rattle.mls_scheme.specs.Scheme.{Schemes, scheme_of}
use Rattle.mls_filterview.specs.Stored.{AreContent}
use Rattle.mls_translang.specs.declared.tx.Parameter.{Parameter}
use Rattle.mls_translang.specs.Tx.{Tx, scope_of}
use Rattle.mls_translang.specs.Fits.{IsReadUnder}
use Rattle.mls_certcheck.specs.Meaning.{start, run_tx}
use Rattle.mls_certcheck.specs.MeaningLaws.{ArgsFit, CallsKeepForm, CallsKeepContent, CallsGiveItems}
use Rattle.mls_certcheck.proofs.KeepingLemmas.{AreLabelled, block_labelled, block_stored}
use Rattle.mls_certcheck.proofs.KindLemmas.{null_kinds, Keeps, block_keeps}

pub keep_form : CallsKeepForm
keep_form policy distinct schemes tx read args db stored = block_stored policy schemes tx.hi distinct args
    (scope_of tx) tx.body read.fits [] (start db) stored

-- an argument has the kind of its parameter
pub arg_kind : (params : List (Name × Parameter)) (args : List (Option Value)) → AllZip (λ p v. fits_kind v p.1.kind
    ≡ true) params args
    → (i : ℕ) (k : Kind) → option_map (λ p. p.1.kind) (slice_get params i) ≡ Some k
    → fits_kind (slice_index_or args i None) k ≡ true
arg_kind [] [] h i k e = refl
arg_kind [] (v ∷ vs) h i k e = absurd h
arg_kind (p ∷ ps) [] h i k e = absurd h
arg_kind (p ∷ ps) (v ∷ vs) h zero k e = subst (λ j. fits_kind v j ≡ true) (same_Some p.1.kind k e) h.0
arg_kind (p ∷ ps) (v ∷ vs) h (suc i) k e = arg_kind ps vs h.1 i k e

pub call_keeps : (policy : Policy) → AreDistinct (labels_of policy) → (schemes : Schemes) (tx : Tx)
    → IsReadUnder policy schemes tx → (args : List (Option Value)) → ArgsFit tx args
    → (db : Database) → AreContent (labels_of policy) schemes db → Keeps policy schemes tx.hi (scope_of tx)
    (run_tx (labels_of policy) schemes tx args db)
call_keeps policy distinct schemes tx read args fits db content =
    block_keeps policy schemes tx.hi distinct args (scope_of tx) tx.body read.fits read.kinds []
    (record { params = arg_kind tx.params args fits; rows = λ d. null_kinds (scheme_of schemes 0) }) (start db)
    (record { content = content; vars = λ i k e. refl; emitted = tt; released = tt })

pub keep_content : CallsKeepContent
keep_content policy distinct schemes tx read args fits db content =
    (call_keeps policy distinct schemes tx read args fits db content).content

pub give_items : CallsGiveItems
give_items policy distinct schemes tx read args fits db content = let k =
    call_keeps policy distinct schemes tx read args fits db content in (k.emitted, k.released)

-- what a call gives has declared labels, whatever the arguments are
pub call_labelled : (policy : Policy) (schemes : Schemes) (tx : Tx) → IsReadUnder policy schemes tx
    → (args : List (Option Value)) (db : Database) → AreLabelled policy (run_tx (labels_of policy) schemes tx args db)
call_labelled policy schemes tx read args db = block_labelled policy schemes tx.hi args
    (scope_of tx) tx.body read.fits [] (start db) (record { emitted = tt; released = tt })
