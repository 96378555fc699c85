-- Whole calls.
use mathlib.Core.List.{reverse}
use Rattle.std.proofs.Common.{◌≡◌, ℕ, true, List, [], ◌∷◌, Option, sym, ap, ◌∙◌, subst}
use Rattle.std.specs.List.{AllByRecursion}
use Rattle.mls_lattice.specs.Labels.{Labels, below}
use Rattle.mls_lattice.specs.Policy.{Policy, labels_of}
use Rattle.mls_scheme.specs.declared.value.Value.{Value}
use Rattle.mls_scheme.specs.declared.tuple.Tuple.{Tuple}
use Rattle.mls_scheme.specs.Table.{Database}
use Rattle.mls_scheme.specs.Scheme.{Schemes, scheme_of}
use Rattle.mls_filterview.specs.Content.{Seen, State, begun_change, committed}
use Rattle.mls_translang.specs.Tx.{Tx, IsTx}
use Rattle.mls_translang.specs.Fits.{IsReadUnder}
use Rattle.mls_certcheck.specs.declared.run.Run.{Run}
use Rattle.mls_certcheck.specs.Meaning.{Item, start, run_tx}
use Rattle.mls_certcheck.specs.MeaningLaws.{ArgsFit, IsItem}
use Rattle.mls_certcheck.proofs.KindLemmas.{null_kinds}
use Rattle.mls_certcheck.proofs.MeaningLemmas.{arg_kind}
use Rattle.mls_trusted.specs.declared.call.Call.{Call}
use Rattle.mls_trusted.specs.declared.frame.Frame.{Frame}
use Rattle.mls_trusted.specs.Runs.{with_database, IsEvaluated, HasItems}
use Rattle.mls_trusted.specs.Frames.{around_of, progress_of, MayRunBlock, run_of, IsFrame, IsFrameRun}

outside : (f : Frame) → f.rows.items ≡ [] → [] ≡ around_of f
outside f none = sym (ap reverse none)

all_items : (policy : Policy) (hi : ℕ) (xs : List Item) → AllByRecursion (λ i. IsItem policy i
    × (below (labels_of policy) i.0 hi ≡ true)) xs → AllByRecursion (IsItem policy) xs
all_items policy hi [] h = tt
all_items policy hi (x ∷ xs) h = (h.0.0, all_items policy hi xs h.1)

module _ (call : Call) where
  -- outside loops the statements of a transaction may run
  pub start_may : IsTx call.tx.now → IsReadUnder call.policy.now call.schemes.now call.tx.now
      → ArgsFit call.tx.now call.args.now → (f : Frame) → f.rows.items ≡ []
      → MayRunBlock call (around_of f) call.tx.now.body
  start_may valid read fits f none =
      let m : MayRunBlock call [] call.tx.now.body = record {
        rows = [];
        own = valid.own;
        fits = read.fits;
        kinds = read.kinds;
        read = record {
          params = arg_kind call.tx.now.params call.args.now fits;
          rows =
              λ d. null_kinds (scheme_of call.schemes.now 0);
        };
      } in
      subst (λ (around : List Tuple). MayRunBlock call around call.tx.now.body) (outside f none) m

  pub gives_items : (g : Frame) (r : Run) → r.emitted ≡ g.emitted.items → r.released ≡ g.released.items → IsFrame call g
      → HasItems call.policy.now r
  gives_items g r e q i = record {
    emitted = subst (AllByRecursion (IsItem call.policy.now)) (sym e) i.emitted;
    released = subst (AllByRecursion (IsItem call.policy.now)) (sym q)
        (all_items call.policy.now call.tx.now.hi g.released.items i.released);
  }

  module _ {B : Type 0} (seen : B → Seen) where
    pub gives_run : (a c : B) (f g : Frame) (r : Run) → ((db : Database) → progress_of db f ≡ start db) → f.rows.items
        ≡ []
        → IsFrameRun call seen (run_of call call.tx.now.body (around_of f)) a c f g → r.emitted ≡ g.emitted.items
        → r.released ≡ g.released.items → (seen c).is_clean
        → (let run = run_tx (labels_of call.policy.now) call.schemes.now call.tx.now call.args.now (seen a).state.now.db
        in IsEvaluated run (with_database (seen a).state run.db) (seen c).state r)
    gives_run a c f g r first none ran e q k =
        let run = run_tx (labels_of call.policy.now) call.schemes.now call.tx.now call.args.now (seen a).state.now.db in
        let p : progress_of (seen c).state.now.db g ≡ run = ran.progress k
        ∙ (λ i. run_of call call.tx.now.body (sym (outside f none) i) (first (seen a).state.now.db i)) in
        record {
          emitted = e ∙ ap (λ s. s.emitted) p;
          released = q ∙ ap (λ s. s.released) p;
          state = ran.rest k ∙ ap (λ s. with_database (seen a).state s.db) p;
        }

-- ---- a change of its own

-- a run in it, and the commit
pub commits_run : (ls : Labels) (schemes : Schemes) (tx : Tx) (args : List (Option Value)) (s b c d : State) (r : Run)
    → b ≡ begun_change s
    → (let run = run_tx ls schemes tx args b.now.db in IsEvaluated run (with_database b run.db) c r) → d ≡ committed c
    → (let run = run_tx ls schemes tx args s.now.db in IsEvaluated run (committed (with_database s run.db)) d r)
commits_run ls schemes tx args s b c d r is h e =
    let k = subst (λ (x : State). IsEvaluated (run_tx ls schemes tx args x.now.db)
    (with_database x (run_tx ls schemes tx args x.now.db).db) c r) is h in
    record { emitted = k.emitted; released = k.released; state = e ∙ ap committed k.state }
