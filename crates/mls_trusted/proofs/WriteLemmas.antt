-- Writes of a run.
use Rattle.std.proofs.Common.{◌≡◌, ℕ, ◌<◌, length, Option, Ok, sym, ap, ◌∙◌, subst}
use Rattle.mls_lattice.specs.Labels.{Labels}
use Rattle.mls_lattice.specs.Policy.{labels_of}
use Rattle.mls_scheme.specs.Scheme.{Scheme, scheme_of, AreUnder}
use Rattle.mls_scheme.specs.Writes.{key_class_of}
use Rattle.mls_filterview.specs.Content.{Seen}
use Rattle.mls_filterview.specs.Stored.{IsContent, AreContent}
use Rattle.mls_updates.specs.declared.outcome.Outcome.{Outcome}
use Rattle.mls_updates.specs.Writes.{Write, Insert, Update, Delete, WriteKinds, write, named}
use Rattle.mls_updates.specs.Calls.{HasWritten, CanWrite}
use Rattle.mls_updates.proofs.StateLemmas.{table_of}
use Rattle.mls_translang.specs.Tree.{Block, Writing, Do, Write_at, End}
use Rattle.mls_translang.specs.Tx.{scope_of}
use Rattle.mls_translang.specs.Expressions.{Environment}
use Rattle.mls_certcheck.specs.Meaning.{set_outcome, write_in, perform, run_block}
use Rattle.mls_certcheck.proofs.KeepingLemmas.{table_holds, write_fits}
use Rattle.mls_certcheck.proofs.KindLemmas.{values_kinds, write_kinds, outcome_kind}
use Rattle.mls_queries.specs.Views.{AreViews, AreLeftBy}
use Rattle.mls_queries.proofs.WrittenLemmas.{kept_written}
use Rattle.mls_trusted.specs.declared.call.Call.{Call}
use Rattle.mls_trusted.specs.declared.frame.Frame.{Frame}
use Rattle.mls_trusted.specs.Runs.{with_database}
use Rattle.mls_trusted.specs.Frames.{around_of, vars_of, progress_of, env_in, inside, MayRunBlock, run_of, IsFrame, HasVars, IsCallReady, IsFrameRun}
use Rattle.mls_trusted.proofs.FrameLemmas.{vars_frame, env_fits}

module _ (call : Call) (f : Frame) (relation w : ℕ) (outcome : Option ℕ) where
  abbrev block_of : Writing → Block
  block_of writing = Do (Write_at relation w writing outcome) End

  abbrev env : Environment
  env = env_in call.args.now f

  abbrev value : Writing → Write
  value = write_in env

  abbrev scheme : Scheme
  scheme = scheme_of call.schemes.now relation

  -- the class of its key is declared
  pub key_class_declared : (writing : Writing) → MayRunBlock call (around_of f) (block_of writing)
      → key_class_of w (value writing) < length call.policy.now.labels
  key_class_declared (Insert key values) m = m.fits.0.1
  key_class_declared (Update key key_class from sets) m = m.fits.0.2.1
  key_class_declared (Delete key key_class) m = m.fits.0.2.1

  module _ (i : IsFrame call f) {B : Type 0} (seen : B → Seen) (b : B)
      (under : AreUnder (length call.policy.now.labels) call.schemes.now)
      (stored : (seen b).is_clean → IsContent (labels_of call.policy.now) scheme ((seen b).state.now.db relation)) where
    kinds_of : (writing : Writing) → MayRunBlock call (around_of f) (block_of writing)
        → WriteKinds scheme (value writing)
    kinds_of writing m = write_kinds call.policy.now call.schemes.now call.tx.now.hi (inside call m.rows) env
        (env_fits call f (block_of writing) i m) scheme writing m.kinds.0.0

    -- with its operands' values it may be made
    pub can_write : (writing : Writing) → MayRunBlock call (around_of f) (block_of writing)
        → CanWrite seen b call.policy.now call.schemes.now relation w (value writing)
    can_write (Insert key values) m = record {
      label = m.fits.0.1;
      declared = m.fits.0.0;
      under = under;
      kinds =
          kinds_of (Insert key values) m;
      stored = stored;
    }
    can_write (Update key key_class from sets) m =
        let wr = Update key key_class from sets in
        let fits = write_fits call.policy.now call.schemes.now call.tx.now.hi
        (inside call m.rows) w scheme env wr m.fits.0.1 m.fits.0.2 in
        record {
          label = m.fits.0.1;
          key_class = m.fits.0.2.1;
          from = m.fits.0.2.2;
          declared = m.fits.0.0;
          under = under;
          named = fits.1;
          fits = fits.2;
          key = values_kinds call.policy.now call.schemes.now call.tx.now.hi (inside call m.rows) env
              (env_fits call f (block_of wr) i m) scheme.keys key m.kinds.0.0.0;
          kinds = kinds_of wr m;
          stored = stored;
        }
    can_write (Delete key key_class) m = record {
      label = m.fits.0.1;
      key_class = m.fits.0.2.1;
      declared = m.fits.0.0;
      key = values_kinds call.policy.now call.schemes.now call.tx.now.hi (inside call m.rows) env
          (env_fits call f (block_of (Delete key key_class)) i m) scheme.keys key m.kinds.0.0;
      stored = stored;
    }

module _ (call : Call) (f : Frame) (relation w : ℕ) (writing : Writing) (outcome : Option ℕ) where
  abbrev block : Block
  block = Do (Write_at relation w writing outcome) End

  abbrev ls : Labels
  ls = labels_of call.policy.now

  abbrev scheme_here : Scheme
  scheme_here = scheme_of call.schemes.now relation

  module _ {B : Type 0} (seen : B → Seen) (a c : B) (g : Frame) (o : Outcome) (h : IsCallReady call seen a f)
      (m : MayRunBlock call (around_of f) block)
      (d : HasWritten seen call.policy.now call.schemes.now relation w (write_in (env_in call.args.now f) writing) a c
      (Ok o))
      (v : HasVars (set_outcome outcome o (vars_of f)) g.views f g)
      (within : (named w (write_in (env_in call.args.now f) writing)).key_class < length call.policy.now.labels)
      (left : AreLeftBy (labels_of call.policy.now) relation w
      (named w (write_in (env_in call.args.now f) writing)) o f.views g.views) where
    back : (seen c).is_clean → (seen a).is_clean
    back = d.change.call.clean

    content : (seen c).is_clean → AreContent ls call.schemes.now (seen c).state.now.db
    content k =
        let T = (write ls scheme_here w (write_in (env_in call.args.now f) writing)
        ((seen a).state.now.db relation)).table in
        let left = (d.done k).state in
        let there : IsContent ls scheme_here T = subst (IsContent ls scheme_here) (ap (λ s. s.now.db relation) left
        ∙ table_of (seen a).state relation T) (d.kept k) in
        λ r. subst (IsContent ls (scheme_of call.schemes.now r)) (sym (ap (λ s. s.now.db r) left))
        (table_holds (λ q S. IsContent ls (scheme_of call.schemes.now q) S) (seen a).state.now.db relation T
        (h.content (back k)) there r)

    progress : (seen c).is_clean → progress_of (seen c).state.now.db g ≡ run_of call block (around_of f)
        (progress_of (seen a).state.now.db f)
    unfolding run_block perform
    progress k =
        let e = d.done k in
        let vars = v.vars ∙ (λ j. set_outcome outcome (e.outcome j) (vars_of f)) in
        λ j. record {
          db = (e.state j).now.db;
          vars = vars j;
          emitted = (v.emitted j).items;
          released =
              (v.released j).items;
        }

    views : AreViews call.policy.now seen c g.views
    views =
        kept_written call.policy.now seen scheme_here (length scheme_here.others) relation w
        (write_in (env_in call.args.now f) writing) a c o f.views g.views back
        (λ k. (h.content (back k) relation).stored) d.done within h.views left

    -- a write that was made, and its outcome kept
    run_write : IsFrameRun call seen (run_of call block (around_of f)) a c f g
    run_write = record {
      ready = record {
        under = h.under;
        begun = d.change.mode;
        content = content;
        frame = vars_frame call (set_outcome outcome o (vars_of f)) g.views f g v h.frame
            (outcome_kind (scope_of call.tx.now) outcome o (vars_of f) m.kinds.0.1 h.frame.vars);
        views = views;
      };
      rows = ap (λ x. x.items) v.rows;
      rest = λ k. (d.done k).state ∙ sym (ap (λ s. with_database (seen a).state s.now.db) (d.done k).state);
      progress = progress;
    }

  -- a base that was lent before still holds content of the stored form
  pub content_lent : {B : Type 0} (seen : B → Seen) (a b : B) → b ≡ a → IsCallReady call seen a f
      → ((seen b).is_clean → (seen a).is_clean) → (seen b).is_clean
      → IsContent (labels_of call.policy.now) (scheme_of call.schemes.now relation) ((seen b).state.now.db relation)
  content_lent seen a b same h back k =
      subst (λ x. IsContent (labels_of call.policy.now) (scheme_of call.schemes.now relation)
      ((seen x).state.now.db relation)) (sym same) (h.content (back k) relation)

  -- the same, where the base was lent before, and the operands were copied
  pub run_written : {B : Type 0} (seen : B → Seen) (a b c : B) (g : Frame) (o : Outcome) (wr : Write) → b ≡ a
      → wr ≡ write_in (env_in call.args.now f) writing
      → IsCallReady call seen a f → MayRunBlock call (around_of f) block
      → HasWritten seen call.policy.now call.schemes.now relation w wr b c (Ok o)
      → HasVars (set_outcome outcome o (vars_of f)) g.views f g → (named w wr).key_class < length call.policy.now.labels
      → AreLeftBy (labels_of call.policy.now) relation w (named w wr) o f.views g.views
      → IsFrameRun call seen (run_of call block (around_of f)) a c f g
  run_written {B = B} seen a b c g o wr same is h m d v within left =
      let wrote : B → Write → Type 0 = λ x y. HasWritten seen call.policy.now call.schemes.now relation w y x c (Ok o)
      in
      run_write seen a c g o h m (subst (λ x. wrote x (write_in (env_in call.args.now f) writing)) same
      (subst (wrote b) is d)) v
      (subst (λ y. (named w y).key_class < length call.policy.now.labels) is within)
      (subst (λ y. AreLeftBy (labels_of call.policy.now) relation w (named w y) o f.views g.views) is left)
