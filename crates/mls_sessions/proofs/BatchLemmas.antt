-- The commands of a batch, one after another.
use Rattle.std.proofs.Common.{◌≡◌, ℕ, ◌+◌, ◌<◌, ◌≤◌, Bool, true, cond, List, [], ◌∷◌, ◌++◌, length, drop, get_or, Option, Some, None, Result, Ok, Err, refl, sym, ap, ◌∙◌, subst, nat_eq}
use Rattle.std.specs.List.{AllByRecursion}
use Rattle.std.proofs.lemmas.List.{drop_more, drop_all}
use Rattle.mls_lattice.specs.Labels.{below, AreDistinct}
use Rattle.mls_scheme.specs.declared.tuple.Tuple.{Tuple}
use Rattle.mls_scheme.specs.Table.{Database}
use Rattle.mls_filterview.specs.Content.{Content, State, begun_change}
use Rattle.mls_filterview.specs.View.{rows}
use Rattle.mls_audit.specs.Sound.{IsSoundContent}
use Rattle.mls_audit.specs.Spelling.{IsEntryOf}
use Rattle.mls_updates.specs.declared.outcome.Outcome.{Outcome}
use Rattle.mls_updates.specs.declared.outcome.Outcome.TheVariants.{Done, Unexpected}
use Rattle.mls_translang.specs.declared.query.Query.{Query}
use Rattle.mls_translang.specs.declared.event.One.{One}
use Rattle.mls_translang.specs.declared.event.One.TheVariants as ones
use Rattle.mls_translang.specs.Event.{OneFits}
use Rattle.mls_certcheck.specs.Site.{Site, site_labels}
use Rattle.mls_machine.specs.declared.reply.Answer.{Answer}
use Rattle.mls_machine.specs.declared.reply.Answer.TheVariants as answers
use Rattle.mls_machine.specs.declared.reply.Reply.{Reply}
use Rattle.mls_machine.specs.declared.reply.Reply.TheVariants.{Did, Undone}
use Rattle.mls_machine.specs.declared.reply.Denial.{Denial}
use Rattle.mls_machine.specs.Denying.{first_denial, one_denials, LooksBelow, batch_denials}
use Rattle.mls_machine.specs.Machine.{BatchEnd, refusal_of, unless_refused, did_one, did_all, ended as end_of_batch, did}
use Rattle.mls_machine.proofs.DenyingLemmas.{past_none, at_some}
use Rattle.mls_machine.proofs.KeepingLemmas.{one_content}
use Rattle.mls_queries.specs.Query.{found}
use Rattle.mls_sessions.specs.Batches.{MayDoOne, IsOneDone, HaveEnded, is_undone, over}
use Rattle.mls_sessions.specs.Turns.{IsStepOver}
use Rattle.mls_sessions.specs.World.{world_at}

-- ---- what may be done

-- commands that fit, of a batch that is not denied
pub may_do : (site : Site) (level : ℕ) (batch : List One) → level < length site.policy.labels
    → AllByRecursion (OneFits site.policy site.schemes) batch
    → AllByRecursion (LooksBelow (site_labels site) level) batch
    → AllByRecursion (MayDoOne site level) batch
may_do site level [] declared fits low = tt
may_do site level (one ∷ batch) declared fits low = (
  record { declared = declared; fits = fits.0; low = low.0 },
  may_do site level batch declared fits.1 low.1,
)

-- ---- a command that looks

-- at a relation and a label that are declared, below its level
pub record MayLook (site : Site) (level relation label : ℕ) : Type 0 where
  pub in_schemes : relation < length site.schemes
  pub in_policy : label < length site.policy.labels
  pub low : below (site_labels site) label level ≡ true

module _ (site : Site) (level : ℕ) (one : One) where
  pub view_may : MayDoOne site level one → (relation label : ℕ) (query : Query) (counts : Bool)
      → one ≡ ones.View relation label query counts → MayLook site level relation label
  view_may may relation label query counts is =
      let fits = subst (OneFits site.policy site.schemes) is may.fits in
      record { in_schemes = fits.0; in_policy = fits.1; low = subst (LooksBelow (site_labels site) level) is may.low }

  pub expect_may : MayDoOne site level one → (expected relation label : ℕ) (query : Query)
      → one ≡ ones.Expect expected relation label query → MayLook site level relation label
  expect_may may expected relation label query is =
      let fits = subst (OneFits site.policy site.schemes) is may.fits in
      record { in_schemes = fits.0; in_policy = fits.1; low = subst (LooksBelow (site_labels site) level) is may.low }

  module _ (s t : Content) (same : t ≡ s) (relation label : ℕ) (query : Query) (ts : List Tuple)
      (rows_are : ts ≡ found (site_labels site) query (rows (site_labels site) label (s.db relation))) where
    pub view_done : (counts : Bool) → one ≡ ones.View relation label query counts
        → IsOneDone (did_one site level one s.db) s t (answers.Rows ts)
    view_done counts is =
        subst (λ x. IsOneDone (did_one site level x s.db) s t (answers.Rows ts)) (sym is)
        (ap (λ (us : List Tuple). answers.Rows us) rows_are, same)

    pub expect_done : (expected : ℕ) → one ≡ ones.Expect expected relation label query → (there : ℕ)
        → there ≡ length ts → (o : Outcome) → o ≡ cond (nat_eq there expected) Done Unexpected
        → IsOneDone (did_one site level one s.db) s t (answers.Became o)
    expect_done expected is there count o becomes =
        let counted : there ≡ length (found (site_labels site) query (rows (site_labels site) label (s.db relation)))
        = count ∙ ap (λ (us : List Tuple). length us) rows_are in
        subst (λ x. IsOneDone (did_one site level x s.db) s t (answers.Became o)) (sym is) (
          ap (λ (x : Outcome). answers.Became x)
              (becomes ∙ ap (λ n. cond (nat_eq n expected) Done Unexpected) counted),
          same,
        )

-- ---- one command

module _ (site : Site) (distinct : AreDistinct (site_labels site)) (level : ℕ) (one : One)
    (may : MayDoOne site level one) (s t : Content) (answer : Answer) where
  -- what it leaves is sound
  pub one_sound : IsSoundContent site.policy site.schemes s → IsOneDone (did_one site level one s.db) s t answer
      → IsSoundContent site.policy site.schemes t
  one_sound sound done = subst (IsSoundContent site.policy site.schemes) (sym done.1) (record {
    content = one_content site distinct level may.declared one s.db may.fits sound.content;
    entries = sound.entries;
  })

-- ---- one more of them

module _ (site : Site) (level : ℕ) (batch : List One) (i : ℕ) (one : One) (within : i < length batch) (is : one
    ≡ get_or batch i one) where
  next : drop i batch ≡ one ∷ drop (i + 1) batch
  next = drop_more batch i one within ∙ ap (λ x. x ∷ drop (i + 1) batch) (sym is)

  -- ---- its denials

  module _ (user : ℕ) (all : Option Denial) (h : first_denial (batch_denials site level user (drop i batch))
      ≡ all) where
    parted : first_denial (one_denials site level user one ++ batch_denials site level user (drop (i + 1) batch)) ≡ all
    parted = sym (ap (λ rest. first_denial (batch_denials site level user rest)) next) ∙ h

    pub denials_past : first_denial (one_denials site level user one) ≡ None
        → first_denial (batch_denials site level user (drop (i + 1) batch)) ≡ all
    denials_past none = sym (past_none (one_denials site level user one) (batch_denials site level user
        (drop (i + 1) batch)) none) ∙ parted

    pub denials_found : (d : Denial) → first_denial (one_denials site level user one) ≡ Some d → Some d ≡ all
    denials_found d found = sym (at_some (one_denials site level user one) (batch_denials site level user
        (drop (i + 1) batch)) d found) ∙ parted

  -- the rest, done behind what those before it answered
  abbrev pub rest_of : List Answer → Content → Result BatchEnd (ℕ × Outcome)
  rest_of front s = did_all site level front (drop i batch) s.db

  module _ (front : List Answer) (s t : Content) (answer : Answer)
      (done : IsOneDone (did_one site level one s.db) s t answer) where
    goes_on : (o : Option Outcome) → refusal_of answer ≡ o → rest_of front s ≡ unless_refused o (length front + 1)
        (did_all site level (front ++ answer ∷ []) (drop (i + 1) batch) t.db)
    unfolding did_all
    goes_on o h =
        ap (λ rest. did_all site level front rest s.db) next
        ∙ (λ j. unless_refused (refusal_of (sym done.0 j)) (length front + 1) (did_all site level (front ++ sym done.0 j
        ∷ []) (drop (i + 1) batch) (sym done.1 j).db))
        ∙ ap (λ x. unless_refused x (length front + 1) (did_all site level (front ++ answer ∷ [])
        (drop (i + 1) batch) t.db)) h

    pub one_more : refusal_of answer ≡ None → rest_of front s ≡ did_all site level (front ++ answer ∷ [])
        (drop (i + 1) batch) t.db
    one_more h = goes_on None h

    pub one_refused : (o : Outcome) → refusal_of answer ≡ Some o → rest_of front s ≡ Err (length front + 1, o)
    one_refused o h = goes_on (Some o) h

    module _ (whole : Result BatchEnd (ℕ × Outcome)) (rest : rest_of front s ≡ whole) where
      pub rest_more : refusal_of answer ≡ None → (given : List Answer) → given ≡ front ++ answer ∷ []
          → (db : Database) → db ≡ t.db → did_all site level given (drop (i + 1) batch) db ≡ whole
      rest_more none given more db same =
          (λ j. did_all site level (more j) (drop (i + 1) batch) (same j)) ∙ sym (one_more none) ∙ rest

      pub undone_at : (o : Outcome) → refusal_of answer ≡ Some o → (number : ℕ) → number ≡ length front + 1
          → (first last : Content) → HaveEnded whole first last (Undone number o)
      undone_at o some number is first last =
          subst (λ r. HaveEnded r first last (Undone number o)) (sym (one_refused o some) ∙ rest)
          (ap (λ n. Undone n o) is)

pub none_refused : (o : Option Outcome) → ((x : Outcome) → o ≡ Some x → ⊥) → o ≡ None
none_refused None h = refl
none_refused (Some x) h = absurd (h x refl)

-- behind the last of them
pub all_done : (site : Site) (level : ℕ) (batch : List One) (i : ℕ) (front : List Answer) (s t : Content)
    (whole : Result BatchEnd (ℕ × Outcome)) → length batch ≤ i
    → did_all site level front (drop i batch) t.db ≡ whole → t.audit ≡ s.audit
    → (r : Reply) → r ≡ Did front → HaveEnded whole s t r
unfolding did_all
all_done site level batch i front s t whole past rest audit r is =
    subst (λ x. HaveEnded x s t r)
    (sym (ap (λ (xs : List One). did_all site level front xs t.db) (drop_all i batch past)) ∙ rest)
    (is, λ j. record { db = t.db; audit = audit j })

-- none of them is denied
pub none_denied : (site : Site) (level user : ℕ) (batch : List One) (i : ℕ) (all : Option Denial) → length batch ≤ i
    → first_denial (batch_denials site level user (drop i batch)) ≡ all → None ≡ all
unfolding first_denial
none_denied site level user batch i all past h =
    sym (ap (λ (rest : List One). first_denial (batch_denials site level user rest)) (drop_all i batch past)) ∙ h

-- ---- the end

-- what a batch answered is kept, or undone
module _ (site : Site) (level : ℕ) (batch : List One) where
  -- behind the beginning of a change
  pub ended_from : (s b : State) (t : Content) (reply : Reply) → b ≡ begun_change s
      → HaveEnded (did_all site level [] batch b.now.db) b.now t reply
      → HaveEnded (did_all site level [] batch s.now.db) s.now t reply
  ended_from s b t reply is h =
      subst (λ (c : Content). HaveEnded (did_all site level [] batch c.db) c t reply)
      (ap (λ (x : State). x.now) is) h

  pub batch_over : (r : Result BatchEnd (ℕ × Outcome)) (s m t : State) (reply : Reply)
      → did_all site level [] batch s.now.db ≡ r → m.kept ≡ s.now → HaveEnded r s.now m.now reply
      → t ≡ over (is_undone reply) m
      → IsStepOver site (λ w. did site w level batch) s.now t.now reply
  batch_over (Ok end) s m t reply is kept done left =
      let same : t.now ≡ record s.now { db = end.db } = ap (λ (x : State). x.now)
      (left ∙ ap (λ (r : Reply). over (is_undone r) m) done.0) ∙ done.1 in
      record {
        reply = λ sessions. done.0 ∙ ap (λ r. (end_of_batch site (world_at site sessions s.now) r).reply) (sym is);
        world = λ sessions. ap (world_at site sessions) same
            ∙ ap (λ r. (end_of_batch site (world_at site sessions s.now) r).world) (sym is);
        entries = λ all. subst (λ (c : Content). AllByRecursion (IsEntryOf (length site.policy.labels)) c.audit)
            (sym same) all;
      }
  batch_over (Err refused) s m t reply is kept done left =
      let same : t.now ≡ s.now = ap (λ (x : State). x.now) (left ∙ ap (λ (r : Reply). over (is_undone r) m) done) ∙ kept
      in
      record {
        reply = λ sessions. done ∙ ap (λ r. (end_of_batch site (world_at site sessions s.now) r).reply) (sym is);
        world = λ sessions. ap (world_at site sessions) same
            ∙ ap (λ r. (end_of_batch site (world_at site sessions s.now) r).world) (sym is);
        entries = λ all. subst (λ (c : Content). AllByRecursion (IsEntryOf (length site.policy.labels)) c.audit)
            (sym same) all;
      }
