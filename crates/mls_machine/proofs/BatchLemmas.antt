-- What a level sees of writes and of batches, over two databases that look alike to it, and over one where it does not
-- dominate their level.
use Rattle.std.proofs.Common.{◌≡◌, ℕ, ◌+◌, ◌<◌, Bool, true, false, cond, List, [], ◌∷◌, ◌++◌, length, Option, Some, None, Result, Ok, Err, refl, sym, ap, ◌∙◌, subst, eqb-true, nat_eq}
use Rattle.std.specs.Prelude.{⊤}
use Rattle.std.specs.List.{AllByRecursion}
use Rattle.mls_lattice.specs.Labels.{Labels, below, AreDistinct}
use Rattle.mls_lattice.proofs.LatticeLemmas.{below-trans}
use Rattle.mls_scheme.specs.declared.tuple.Tuple.{Tuple}
use Rattle.mls_scheme.specs.Table.{Table, Database}
use Rattle.mls_filterview.specs.Content.{with_table}
use Rattle.mls_filterview.specs.View.{low, rows}
use Rattle.mls_filterview.proofs.LowLemmas.{rows_under}
use Rattle.mls_updates.specs.declared.outcome.Outcome.{Outcome}
use Rattle.mls_updates.specs.declared.outcome.Outcome.TheVariants.{Done, Unexpected}
use Rattle.mls_updates.specs.Writes.{Write, Written, write}
use Rattle.mls_updates.proofs.LawLemmas.{low_use_low, high_leave_low}
use Rattle.mls_queries.specs.Query.{found}
use Rattle.mls_translang.specs.declared.event.One.{One}
use Rattle.mls_translang.specs.declared.event.One.TheVariants as ones
use Rattle.mls_translang.specs.Event.{OneFits}
use Rattle.mls_certcheck.specs.Site.{Site, site_labels, site_scheme}
use Rattle.mls_machine.specs.declared.reply.Answer.{Answer}
use Rattle.mls_machine.specs.declared.reply.Answer.TheVariants as answers
use Rattle.mls_machine.specs.Denying.{LooksBelow}
use Rattle.mls_machine.specs.Machine.{OneStep, BatchEnd, refusal_of, unless_refused, did_one, did_all}
use Rattle.mls_machine.specs.Observation.{AreStored}
use Rattle.mls_machine.proofs.KeepingLemmas.{one_stored}

-- two databases look alike to c
abbrev pub SameLow : Labels → ℕ → Database → Database → Type 0
SameLow ls c v w = (relation : ℕ) → low ls c (v relation) ≡ low ls c (w relation)

module _ (site : Site) (c level : ℕ) where
  abbrev ls : Labels
  ls = site_labels site

  abbrev pub written : ℕ → Write → Table → Written
  written relation wr T = write ls (site_scheme site relation) level wr T

  -- ---- at a level that c dominates

  module _ (sees : below ls level c ≡ true) where
    pub same_outcome : (relation : ℕ) (wr : Write) (S T : Table) → low ls c S ≡ low ls c T
        → (written relation wr S).outcome ≡ (written relation wr T).outcome
    same_outcome relation wr S T h =
        (low_use_low ls (site_scheme site relation) c level S wr sees).0 ∙ ap (λ U. (written relation wr U).outcome) h
        ∙ sym (low_use_low ls (site_scheme site relation) c level T wr sees).0

    same_table : (relation : ℕ) (wr : Write) (S T : Table) → low ls c S ≡ low ls c T
        → low ls c (written relation wr S).table ≡ low ls c (written relation wr T).table
    same_table relation wr S T h =
        (low_use_low ls (site_scheme site relation) c level S wr sees).1 ∙ ap (λ U. (written relation wr U).table) h
        ∙ sym (low_use_low ls (site_scheme site relation) c level T wr sees).1

    pub same_tables : (relation : ℕ) (wr : Write) (v w : Database) → SameLow ls c v w
        → SameLow ls c (with_table v relation (written relation wr (v relation)).table)
        (with_table w relation (written relation wr (w relation)).table)
    same_tables relation wr v w h r = by_test (nat_eq r relation)
      where
        by_test : (b : Bool) → low ls c (cond b (written relation wr (v relation)).table (v r))
            ≡ low ls c (cond b (written relation wr (w relation)).table (w r))
        by_test true = same_table relation wr (v relation) (w relation) (h relation)
        by_test false = h r

    -- what a command answers, and what c sees of what it leaves
    record SameStep (s t : OneStep) : Type 0 where
      db : SameLow ls c s.db t.db
      answer : s.answer ≡ t.answer

    same_rows : (relation label : ℕ) (v w : Database) → below ls label level ≡ true → SameLow ls c v w
        → rows ls label (v relation) ≡ rows ls label (w relation)
    same_rows relation label v w lower h = rows_under ls c label (v relation) (w relation) (h relation)
        (below-trans ls label level c lower sees)

    same_step : (one : One) (v w : Database) → LooksBelow ls level one → SameLow ls c v w
        → SameStep (did_one site level one v) (did_one site level one w)
    same_step (ones.View relation label query counts) v w lower h =
        record {
          db = h;
          answer = ap (λ (ts : List Tuple). answers.Rows (found ls query ts))
              (same_rows relation label v w lower h);
        }
    same_step (ones.Expect expected relation label query) v w lower h =
        record {
          db = h;
          answer = ap (λ (ts : List Tuple). answers.Became
              (cond (nat_eq (length (found ls query ts)) expected) Done Unexpected))
              (same_rows relation label v w lower h);
        }
    same_step (ones.Write relation wr) v w lower h =
        record {
          db = same_tables relation wr v w h;
          answer = ap (λ (o : Outcome). answers.Became o)
              (same_outcome relation wr (v relation) (w relation) (h relation));
        }

    -- what all of them come to
    abbrev pub SameEnd : Result BatchEnd (ℕ × Outcome) → Result BatchEnd (ℕ × Outcome) → Type 0
    SameEnd (Ok s) (Ok t) = SameLow ls c s.db t.db × (s.answers ≡ t.answers)
    SameEnd (Ok s) (Err f) = ⊥
    SameEnd (Err e) (Ok t) = ⊥
    SameEnd (Err e) (Err f) = e ≡ f

    refused_alike : (o : Option Outcome) (number : ℕ) (r q : Result BatchEnd (ℕ × Outcome)) → SameEnd r q
        → SameEnd (unless_refused o number r) (unless_refused o number q)
    refused_alike None number r q h = h
    refused_alike (Some o) number r q h = refl

    pub all_alike : (front : List Answer) (batch : List One) (v w : Database)
        → AllByRecursion (LooksBelow ls level) batch → SameLow ls c v w → SameEnd (did_all site level front batch v)
        (did_all site level front batch w)
    unfolding did_all
    all_alike front [] v w lower h = (h, refl)
    all_alike front (one ∷ batch) v w lower h =
        let s = did_one site level one v in
        let t = did_one site level one w in
        let k = same_step one v w lower.0 h in
        let more : Answer → OneStep → Result BatchEnd (ℕ × Outcome) = λ a u. did_all site level
        (front ++ a ∷ []) batch u.db in
        subst (λ a. SameEnd (unless_refused (refusal_of s.answer) (length front + 1) (more s.answer s))
        (unless_refused (refusal_of a) (length front + 1) (more a t))) k.answer
        (refused_alike (refusal_of s.answer) (length front + 1) (more s.answer s) (more s.answer t)
        (all_alike (front ++ s.answer ∷ []) batch s.db t.db lower.1 k.db))

  -- ---- at another

  module _ (distinct : AreDistinct ls) (hidden : below ls level c ≡ false) (declared : level
      < length site.policy.labels) where
    pub written_low : (relation : ℕ) (wr : Write) (w : Database) → AreStored site w
        → SameLow ls c w (with_table w relation (written relation wr (w relation)).table)
    written_low relation wr w stored r = by_test (nat_eq r relation) refl
      where
        by_test : (b : Bool) → nat_eq r relation ≡ b → low ls c (w r)
            ≡ low ls c (cond b (written relation wr (w relation)).table (w r))
        by_test true q = ap (λ x. low ls c (w x)) (eqb-true r relation q)
            ∙ sym (high_leave_low ls (site_scheme site relation) _ c level (w relation) (stored relation) wr hidden)
        by_test false q = refl

    one_low : (one : One) (w : Database) → AreStored site w → SameLow ls c w (did_one site level one w).db
    one_low (ones.View relation label query counts) w stored = λ r. refl
    one_low (ones.Expect expected relation label query) w stored = λ r. refl
    one_low (ones.Write relation wr) w stored = written_low relation wr w stored

    -- what c sees of a database is left
    abbrev pub LeavesLow : Database → Result BatchEnd (ℕ × Outcome) → Type 0
    LeavesLow w (Ok end) = SameLow ls c w end.db
    LeavesLow w (Err refused) = ⊤

    refused_low : (w : Database) (o : Option Outcome) (number : ℕ) (r : Result BatchEnd (ℕ × Outcome)) → LeavesLow w r
        → LeavesLow w (unless_refused o number r)
    refused_low w None number r h = h
    refused_low w (Some o) number r h = tt

    low_behind : (v w : Database) (r : Result BatchEnd (ℕ × Outcome)) → SameLow ls c v w → LeavesLow w r → LeavesLow v r
    low_behind v w (Ok end) h k = λ r. h r ∙ k r
    low_behind v w (Err refused) h k = tt

    pub all_low : (front : List Answer) (batch : List One) (w : Database)
        → AllByRecursion (OneFits site.policy site.schemes) batch → AreStored site w
        → LeavesLow w (did_all site level front batch w)
    unfolding did_all
    all_low front [] w fits stored = λ r. refl
    all_low front (one ∷ batch) w fits stored =
        let s = did_one site level one w in
        let r = did_all site level (front ++ s.answer ∷ []) batch s.db in
        refused_low w (refusal_of s.answer) (length front + 1) r
        (low_behind w s.db r (one_low one w stored) (all_low (front ++ s.answer ∷ []) batch s.db fits.1
        (one_stored site distinct level declared one w fits.0 stored)))
