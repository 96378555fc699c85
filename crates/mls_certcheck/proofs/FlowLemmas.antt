-- Two runs of a block that obeys its certificate.
use Rattle.std.proofs.Common.{◌≡◌, ℕ, zero, suc, ◌+◌, true, false, cond, List, [], ◌∷◌, ◌++◌, Option, Some, None, refl, sym, ap, ◌∙◌, subst, inl, inr, pos, nat_eq, ◌⊎◌, slice_index, slice_index_or, true≢false, eqb-true, eq-eqb}
use Rattle.std.proofs.Recursive.{every_front, every_back}
use Rattle.std.proofs.lemmas.Bool.{cases_Bool}
use Rattle.std.proofs.lemmas.List.Elements.{filter-append}
use Rattle.mls_lattice.specs.Lattice.{Pair, Dominates, ◌⊑◌, join}
use Rattle.mls_lattice.specs.Labels.{Labels, label_of, below, AreDistinct}
use Rattle.mls_lattice.specs.Policy.{Policy, labels_of}
use Rattle.mls_lattice.proofs.EachLemmas.{all_if}
use Rattle.mls_lattice.proofs.LatticeLemmas.{Dominates-trans, Dominates-⊑, join-right}
use Rattle.mls_scheme.specs.declared.value.Value.{Value}
use Rattle.mls_scheme.specs.declared.value.Value.TheVariants.{Int}
use Rattle.mls_scheme.specs.declared.tuple.Tuple.{Tuple}
use Rattle.mls_scheme.specs.Scheme.{Schemes, scheme_of}
use Rattle.mls_scheme.specs.Tuple.{no_tuple}
use Rattle.mls_filterview.specs.View.{low, rows}
use Rattle.mls_filterview.proofs.LowLemmas.{rows_under}
use Rattle.mls_filterview.proofs.SubsumptionLemmas.{same_value-true, same_value-refl}
use Rattle.mls_updates.specs.declared.outcome.Outcome.{Outcome}
use Rattle.mls_updates.specs.Outcome.{code_of}
use Rattle.mls_updates.specs.Writes.{Write, Written, write}
use Rattle.mls_updates.proofs.LawLemmas.{low_use_low}
use Rattle.mls_translang.specs.Tree.{Expr, Stmt, Writing, Assign, Write_at, Release, Emit, Block, End, Do, If, For, statements}
use Rattle.mls_translang.specs.Scope.{Scope, in_loop}
use Rattle.mls_translang.specs.Fits.{BlockFits}
use Rattle.mls_translang.specs.Tx.{Tx}
use Rattle.mls_translang.specs.Expressions.{is_true, same, value_in, holds_in}
use Rattle.mls_certcheck.specs.Meaning.{Item, Variables, Progress, set_var, set_outcome, write_in, do_write, environment, perform, for_each, run_block}
use Rattle.mls_certcheck.specs.Secure.{AreStored, seen_items, Split}
use Rattle.mls_certcheck.specs.CanTell.{TellsAt}
use Rattle.std.specs.List.{AllByRecursion}
use Rattle.mls_certcheck.proofs.KeepingLemmas.{Extends, cond_kept, for_each_kept, perform_stored, block_stored, block_extends}
use Rattle.mls_certcheck.specs.declared.cert.Certificate.{Certificate}
use Rattle.mls_certcheck.specs.Points.{Plain, Point, directs, last, points}
use Rattle.mls_certcheck.specs.Lines.{target}
use Rattle.mls_certcheck.specs.Rules.{Claim, claim, pc, after, param_label}
use Rattle.mls_certcheck.proofs.LineLemmas.{lab, over_names, Keeps, Obeys, assigned, write_operands, release_target, emit_value, branch_body, branch_one, branch_other, loop_body, loop_begin, loop_turn}
use Rattle.mls_certcheck.proofs.PointLemmas.{unseen_above, seen_under, below-⊑, HasNoMore}
use Rattle.mls_certcheck.proofs.QuietLemmas.{Agrees, Quiet, agrees_on, quiet_then, quiet_both, quiet_keeps, keeps_seen, seen_not, rest_seen, quiet_write, quiet_block}
use Rattle.mls_certcheck.proofs.ScopeLemmas.{EnvironmentsAgree, eval_same, value_same, write_same}

-- ---- lists of items that split

split_here : (xs : List Item) (i j : Item) → i.0 ≡ j.0 → (i.1 ≡ j.1 → ⊥) → Split (xs ++ i ∷ []) (xs ++ j ∷ [])
split_here [] i j e n = inl (e, n)
split_here (x ∷ xs) i j e n = inr (refl, split_here xs i j e n)

-- lists that split go on so
pub split_more : (xs ys us vs : List Item) → Split xs ys → Split (xs ++ us) (ys ++ vs)
split_more [] ys us vs h = absurd h
split_more (x ∷ xs) [] us vs h = absurd h
split_more (x ∷ xs) (y ∷ ys) us vs (inl h) = inl h
split_more (x ∷ xs) (y ∷ ys) us vs (inr h) = inr (h.0, split_more xs ys us vs h.1)

seen_more : (ls : Labels) (c : ℕ) (s t : Progress) (h : Extends s t) → seen_items ls c t.released
    ≡ seen_items ls c s.released ++ seen_items ls c h.more
seen_more ls c s t h = ap (seen_items ls c) h.is ∙ filter-append (λ i. below ls i.0 c) s.released h.more

-- ---- two runs

-- either the releases split, for which there is an excuse, or they agree
abbrev pub Related : Type 0 → Claim → ℕ → ℕ → Progress → Progress → Type 0
Related X k c n s t = (X × Split (seen_items k.labels c s.released) (seen_items k.labels c t.released))
    ⊎ Agrees k c n s t

-- where variables keep what they hold
related_keeps : (X : Type 0) (k : Claim) (c m n : ℕ) (s t : Progress) → HasNoMore k → Keeps k m n → Related X k c m s t
    → Related X k c n s t
related_keeps X k c m n s t none h (inl r) = inl r
related_keeps X k c m n s t none h (inr a) = inr (agrees_on (keeps_seen k c m n none h) a)

-- what goes on from runs that agree goes on from related ones
related_on : (X : Type 0) (k : Claim) (c m n : ℕ) (s t s' t' : Progress) → Extends s s' → Extends t t'
    → (Agrees k c m s t → Related X k c n s' t') → Related X k c m s t → Related X k c n s' t'
related_on X k c m n s t s' t' e f g (inr a) = g a
related_on X k c m n s t s' t' e f g (inl h) = inl (
  h.0,
  subst (λ xs. Split xs (seen_items k.labels c t'.released)) (sym (seen_more k.labels c s s' e))
      (subst (λ ys. Split (seen_items k.labels c s.released ++ seen_items k.labels c e.more) ys)
      (sym (seen_more k.labels c t t' f))
      (split_more (seen_items k.labels c s.released) (seen_items k.labels c t.released) (seen_items k.labels c e.more)
      (seen_items k.labels c f.more) h.1)),
)

-- a variable that both runs set, and the others
set_same : (k : Claim) (c n x : ℕ) (v w : Option Value) (p q : Variables)
    → ((i : ℕ) → (i ≡ x → ⊥) → after k n i ⊑ label_of k.labels c ≡ true → p i ≡ q i)
    → (after k n x ⊑ label_of k.labels c ≡ true → v ≡ w)
    → (i : ℕ) → after k n i ⊑ label_of k.labels c ≡ true → set_var x v p i ≡ set_var x w q i
set_same k c n x v w p q h f i l =
    elim (nat_eq i x) as (λ b. nat_eq i x ≡ b → cond b v (p i) ≡ cond b w (q i)) [
      | true ↦ λ e. f (subst (λ j. after k n j ⊑ label_of k.labels c ≡ true) (eqb-true i x e) l)
      | false ↦ λ e. h i (λ same. true≢false (sym (eq-eqb i x same) ∙ e)) l
    ] refl

outcome_same : (k : Claim) (c n : ℕ) (outcome : Option ℕ) (o r : Outcome) (p q : Variables)
    → ((i : ℕ) → (outcome ≡ Some i → ⊥) → after k n i ⊑ label_of k.labels c ≡ true → p i ≡ q i) → o ≡ r
    → (i : ℕ) → after k n i ⊑ label_of k.labels c ≡ true → set_outcome outcome o p i ≡ set_outcome outcome r q i
outcome_same k c n None o r p q h e i l = h i (λ f. absurd cc) l
outcome_same k c n (Some x) o r p q h e i l = set_same k c n x _ _ p q
    (λ j other. h j (λ f. other (let same : x ≡ j = cc in sym same)))
    (λ _. ap (λ o. Some (Int (pos (code_of o)))) e) i l

module _ (policy : Policy) (distinct : AreDistinct (labels_of policy)) (tx : Tx) (cert : Certificate)
    (none : HasNoMore (claim policy tx cert)) (schemes : Schemes) (args brgs : List (Option Value)) (c : ℕ)
    (X : Type 0) where
  abbrev k : Claim
  k = claim policy tx cert

  abbrev ls : Labels
  ls = labels_of policy

  abbrev level : Pair
  level = label_of ls c

  -- a variable but the target
  rest_same : (n a b : ℕ) (loops : List ℕ) (stmt : Stmt) (s t : Progress)
      → Obeys k (record { number = n; around = a; before = b; rows = loops; shape = Plain stmt }) → Agrees k c b s t
      → (i : ℕ) → (target stmt ≡ Some i → ⊥) → after k n i ⊑ level ≡ true → s.vars i ≡ t.vars i
  rest_same n a b loops stmt s t h g i other l =
      g.values i (rest_seen policy distinct tx cert none schemes args c n a b loops stmt h i other l)

  -- a write of equal operands at a label that c sees
  seen_write : (n a b : ℕ) (loops : List ℕ) (relation w : ℕ) (writing : Writing) (v wr : Write) (outcome : Option ℕ)
      (s t : Progress)
      → Obeys k (record {
        number = n;
        around = a;
        before = b;
        rows = loops;
        shape =
            Plain (Write_at relation w writing outcome);
      }) → v ≡ wr → label_of ls w ⊑ level ≡ true → Agrees k c b s t
      → Agrees k c n (do_write ls schemes args relation w v outcome s)
      (do_write ls schemes brgs relation w wr outcome t)
  seen_write n at b loops relation w writing v wr outcome s t h e seen a = record {
    tables = λ r. elim (nat_eq r relation) as (λ b. low ls c (cond b (new v s).table (s.db r))
        ≡ low ls c (cond b (new wr t).table (t.db r))) [
          | true ↦ first.1 ∙ (λ i. (write ls (scheme_of schemes relation) w (e i) (a.tables relation i)).table)
              ∙ sym second.1
          | false ↦ a.tables r
        ];
    values = outcome_same k c n outcome (new v s).outcome (new wr t).outcome s.vars t.vars
        (rest_same n at b loops (Write_at relation w writing outcome) s t h a)
        (first.0 ∙ (λ i. (write ls (scheme_of schemes relation) w (e i) (a.tables relation i)).outcome) ∙ sym second.0);
    emitted = a.emitted;
    released = a.released;
  }
    where
      new : Write → Progress → Written
      new x u = write ls (scheme_of schemes relation) w x (u.db relation)

      first : ((new v s).outcome ≡ (write ls (scheme_of schemes relation) w v (low ls c (s.db relation))).outcome)
          × (low ls c (new v s).table ≡ (write ls (scheme_of schemes relation) w v (low ls c (s.db relation))).table)
      first = low_use_low ls (scheme_of schemes relation) c w (s.db relation) v (below-⊑ ls w c true seen)

      second : ((new wr t).outcome ≡ (write ls (scheme_of schemes relation) w wr (low ls c (t.db relation))).outcome)
          × (low ls c (new wr t).table ≡ (write ls (scheme_of schemes relation) w wr (low ls c (t.db relation))).table)
      second = low_use_low ls (scheme_of schemes relation) c w (t.db relation) wr (below-⊑ ls w c true seen)

  -- an item at the end of both lists
  seen_item : (xs ys : List Item) (i j : Item) → seen_items ls c xs ≡ seen_items ls c ys → i ≡ j
      → seen_items ls c (xs ++ i ∷ []) ≡ seen_items ls c (ys ++ j ∷ [])
  seen_item xs ys i j h e =
      filter-append (λ i. below ls i.0 c) xs (i ∷ []) ∙ (λ n. h n ++ seen_items ls c (e n ∷ []))
      ∙ sym (filter-append (λ i. below ls i.0 c) ys (j ∷ []))

  -- what does not change while a block runs: arguments, and the rows of the loops around
  pub record Around (loops : List ℕ) (rs qs : List Tuple) : Type 0 where
    pub params : (i : ℕ) → param_label (claim policy tx cert) i ⊑ label_of (labels_of policy) c ≡ true
        → slice_index_or args i None ≡ slice_index_or brgs i None
    pub rows : (d : ℕ) → label_of (labels_of policy) (slice_index loops d) ⊑ label_of (labels_of policy) c ≡ true
        → slice_index_or rs d no_tuple ≡ slice_index_or qs d no_tuple

  environments : (m : ℕ) (loops : List ℕ) (rs qs : List Tuple) (s t : Progress) → Around loops rs qs → Agrees k c m s t
      → EnvironmentsAgree k c m loops (environment args rs s) (environment brgs qs t)
  environments m loops rs qs s t h a = record { vars = a.values; params = h.params; rows = h.rows }

  push_row : (loops : List ℕ) (label : ℕ) (row : Tuple) (rs qs : List Tuple) → Around loops rs qs
      → Around (label ∷ loops) (row ∷ rs) (row ∷ qs)
  push_row loops label row rs qs h = record { params = h.params; rows = at_depth }
    where
      at_depth : (d : ℕ) → label_of ls (slice_index (label ∷ loops) d) ⊑ level ≡ true
          → slice_index_or (row ∷ rs) d no_tuple ≡ slice_index_or (row ∷ qs) d no_tuple
      at_depth zero l = refl
      at_depth (suc d) l = h.rows d l

  -- ---- releases

  module _ (n a b : ℕ) (loops : List ℕ) (rs qs : List Tuple) (e : Expr) (to into : ℕ) (s t : Progress)
      (h : Obeys (claim policy tx cert) (record {
        number = n;
        around = a;
        before = b;
        rows = loops;
        shape =
            Plain (Release e to into);
      }))
      (envs : EnvironmentsAgree (claim policy tx cert) c b loops (environment args rs s) (environment brgs qs t))
      (g : Agrees (claim policy tx cert) c b s t)
      (excuse : TellsAt (claim policy tx cert) c (record {
        number = n;
        around = a;
        before = b;
        rows = loops;
        shape =
            Plain (Release e to into);
      }) → X) where
    abbrev v : Option Value
    v = value_in (environment args rs s) e

    abbrev w : Option Value
    w = value_in (environment brgs qs t) e

    abbrev first : Progress
    first = record {
      db = s.db;
      vars = set_var into v s.vars;
      emitted = s.emitted;
      released = s.released ++ (to, v)
          ∷ [];
    }

    abbrev second : Progress
    second = record {
      db = t.db;
      vars = set_var into w t.vars;
      emitted = t.emitted;
      released = t.released ++ (to, w)
          ∷ [];
    }

    others : (i : ℕ) → (i ≡ into → ⊥) → after k n i ⊑ level ≡ true → s.vars i ≡ t.vars i
    others i other l = rest_same n a b loops (Release e to into) s t h g i (λ f. other (let same : into ≡ i = cc
        in sym same)) l

    equal : v ≡ w → Related X k c n first second
    equal eq = inr (record {
      tables = g.tables;
      values = set_same k c n into v w s.vars t.vars others (λ l. eq);
      emitted = g.emitted;
      released = seen_item s.released t.released (to, v) (to, w) g.released (λ i. (to, eq i));
    })

    shown : (xs : List Item) (x : Option Value) → label_of ls to ⊑ level ≡ true → seen_items ls c (xs ++ (to, x) ∷ [])
        ≡ seen_items ls c xs ++ (to, x) ∷ []
    shown xs x seen = filter-append (λ i. below ls i.0 c) xs ((to, x) ∷ []) ∙ ap (λ b. seen_items ls c xs
        ++ cond b ((to, x) ∷ []) []) (below-⊑ ls to c true seen)

    apart : label_of ls to ⊑ level ≡ true → same v w ≡ false → Split (seen_items ls c (s.released ++ (to, v) ∷ []))
        (seen_items ls c (t.released ++ (to, w) ∷ []))
    apart seen ne =
        subst (λ xs. Split xs (seen_items ls c (t.released ++ (to, w) ∷ []))) (sym (shown s.released v seen))
        (subst (λ ys. Split (seen_items ls c s.released ++ (to, v) ∷ []) ys) (ap (λ xs. xs ++ (to, w) ∷ []) g.released
        ∙ sym (shown t.released w seen))
        (split_here (seen_items ls c s.released) (to, v) (to, w) refl (λ eq. true≢false (sym (same_value-refl v)
        ∙ ap (same v) eq ∙ ne))))

    related_release : Related X k c n first second
    related_release =
        elim (cases_Bool (label_of ls to ⊑ level)) [
          | inr out ↦ inr (record {
            tables = g.tables;
            values = set_same k c n into v w s.vars t.vars others
                (λ l. absurd (true≢false (sym l ∙ unseen_above level (label_of ls to) (after k n into)
                (release_target k n a b loops e to into h) out)));
            emitted = g.emitted;
            released = seen_not ls c s.released (to, v) out ∙ g.released ∙ sym (seen_not ls c t.released (to, w) out);
          })
          | inl seen ↦ elim (cases_Bool (lab k b loops e ⊑ level)) [
            | inl under ↦ equal (value_same k c b loops (environment args rs s) (environment brgs qs t) envs e under)
            | inr above ↦ elim (cases_Bool (same v w)) [
              | inl eq ↦ equal (same_value-true v w eq)
              | inr ne ↦ inl (
                excuse (
                  below-⊑ ls to c true seen,
                  λ names. true≢false (sym (Dominates-⊑ (lab k b loops e) level (over_names k b loops e level names))
                      ∙ above),
                ),
                apart seen ne,
              )
            ]
          ]
        ]

  -- ---- statements

  related_stmt : (n a b : ℕ) (loops : List ℕ) (rs qs : List Tuple) (stmt : Stmt) (s t : Progress)
      → Obeys k (record { number = n; around = a; before = b; rows = loops; shape = Plain stmt })
      → (TellsAt k c (record { number = n; around = a; before = b; rows = loops; shape = Plain stmt }) → X)
      → EnvironmentsAgree k c b loops (environment args rs s) (environment brgs qs t) → AreStored ls schemes s.db
      → AreStored ls schemes t.db → Agrees k c b s t
      → Related X k c n (perform ls schemes args rs stmt s) (perform ls schemes brgs qs stmt t)
  unfolding perform
  related_stmt n a b loops rs qs (Assign x e) s t h excuse envs p q g = inr (record {
    tables = g.tables;
    values = set_same k c n x (value_in (environment args rs s) e) (value_in (environment brgs qs t) e) s.vars t.vars
        (λ i other. rest_same n a b loops (Assign x e) s t h g i (λ f. other (let same : x ≡ i = cc in sym same)))
        (λ l. value_same k c b loops (environment args rs s) (environment brgs qs t) envs e
        (seen_under level (lab k b loops e) (after k n x) (Dominates-trans _ _ _ (assigned k n a b loops x e h)
        (join-right (pc k n) (lab k b loops e))) l));
    emitted = g.emitted;
    released = g.released;
  })
  related_stmt n a b loops rs qs (Write_at relation w writing outcome) s t h excuse envs p q g =
      elim (cases_Bool (label_of ls w ⊑ level)) [
        | inl seen ↦ inr (seen_write n a b loops relation w writing (write_in (environment args rs s) writing)
            (write_in (environment brgs qs t) writing) outcome s t h (write_same k c b loops (environment args rs s)
            (environment brgs qs t) envs (label_of ls w) seen writing
            (write_operands k n a b loops relation w writing outcome h)) seen g)
        | inr out ↦ inr (quiet_both (quiet_write policy distinct tx cert none schemes args c n a b loops relation w writing (write_in (environment args rs s) writing) outcome s h out p)
            (quiet_write policy distinct tx cert none schemes brgs c n a b loops relation w writing
            (write_in (environment brgs qs t) writing) outcome t h out q) g)
      ]
  related_stmt n a b loops rs qs (Release e to into) s t h excuse envs p q g =
      related_release n a b loops rs qs e to into s t h envs g excuse
  related_stmt n a b loops rs qs (Emit e label) s t h excuse envs p q g =
      inr (record {
        tables = g.tables;
        values = λ i l. rest_same n a b loops (Emit e label) s t h g i (λ f. absurd cc) l;
        emitted = elim (cases_Bool (label_of ls label ⊑ level)) [
          | inl seen ↦
              (let eq = value_same k c b loops (environment args rs s) (environment brgs qs t) envs e
              (seen_under level (lab k b loops e) (label_of ls label) (emit_value k n a b loops e label h) seen) in
              seen_item s.emitted t.emitted _ _ g.emitted (λ i. (label, eq i)))
          | inr out ↦ seen_not ls c s.emitted _ out ∙ g.emitted ∙ sym (seen_not ls c t.emitted _ out)
        ];
        released = g.released;
      })

  -- one after another over the same rows
  related_each : (f g : Tuple → Progress → Progress)
      → ((row : Tuple) (s : Progress) → AreStored ls schemes s.db → AreStored ls schemes (f row s).db)
      → ((row : Tuple) (s : Progress) → AreStored ls schemes s.db → AreStored ls schemes (g row s).db)
      → ((row : Tuple) (s : Progress) → Extends s (f row s)) → ((row : Tuple) (s : Progress) → Extends s (g row s))
      → (n : ℕ) → ((row : Tuple) (s t : Progress) → AreStored ls schemes s.db → AreStored ls schemes t.db
      → Agrees k c n s t → Related X k c n (f row s) (g row t))
      → (rows : List Tuple) (s t : Progress) → AreStored ls schemes s.db → AreStored ls schemes t.db
      → Related X k c n s t → Related X k c n (for_each f rows s) (for_each g rows t)
  related_each f g fs gs fe ge n step [] s t p q r = r
  related_each f g fs gs fe ge n step (row ∷ rest) s t p q r =
      related_each f g fs gs fe ge n step rest (f row s) (g row t) (fs row s p) (gs row t q) (related_on X k c n n s t
      (f row s) (g row t) (fe row s) (ge row t) (step row s t p q) r)

  abbrev run_1 : Block → List Tuple → Progress → Progress
  run_1 block rs s = run_block ls schemes args block rs s

  abbrev run_2 : Block → List Tuple → Progress → Progress
  run_2 block rs s = run_block ls schemes brgs block rs s

  -- a point obeys, and what is told there is an excuse
  abbrev pub Excused : Point → Type 0
  Excused p = Obeys k p × (TellsAt k c p → X)

  obeyed : (ps : List Point) → AllByRecursion Excused ps → AllByRecursion (Obeys k) ps
  obeyed = all_if Excused (Obeys k) (λ p h. h.0)

  pub related_block : (scope : Scope) (block : Block) (n a b : ℕ) (loops : List ℕ)
      → AllByRecursion Excused (points n a b loops block) → BlockFits policy schemes tx.hi scope block
      → (rs qs : List Tuple) → Around loops rs qs
      → (s t : Progress) → AreStored ls schemes s.db → AreStored ls schemes t.db → Agrees k c b s t
      → Related X k c (last b n block) (run_1 block rs s) (run_2 block qs t)
  unfolding run_block
  related_block scope End n a b loops h f rs qs ar s t p q g = inr g
  related_block scope (Do stmt rest) n a b loops h f rs qs ar s t p q g =
      let s' = perform ls schemes args rs stmt s in
      let t' = perform ls schemes brgs qs stmt t in
      related_on X k c n _ s' t' _ _ (block_extends ls schemes args rest rs s')
      (block_extends ls schemes brgs rest qs t')
      (related_block scope rest (n + 1) a n loops h.1 f.1 rs qs ar s' t'
      (perform_stored policy schemes tx.hi distinct args scope rs stmt s f.0 p)
      (perform_stored policy schemes tx.hi distinct brgs scope qs stmt t f.0 q))
      (related_stmt n a b loops rs qs stmt s t h.0.0 h.0.1 (environments b loops rs qs s t ar g) p q g)
  related_block scope (If guard one other rest) n a b loops h f rs qs ar s t p q g =
      let l = lab k b loops guard in
      let m : Pair = join (pc k n) l in
      let later = every_back Excused _ (points (n + 1) n b loops one) _ h.1 refl in
      let obeys_1 = every_front Excused _ (points (n + 1) n b loops one) _ h.1 refl in
      let obeys_2 = every_front Excused _ (points (n + 1 + statements one) n b loops other) _ later refl in
      let obeys_3 = every_back Excused _ (points (n + 1 + statements one) n b loops other) _ later refl in
      let above_1 = every_front (λ j. Dominates (pc k j) m) _ (directs (n + 1) one) _
      (branch_body k n a b loops guard one other h.0.0) refl in
      let above_2 = every_back (λ j. Dominates (pc k j) m) _ (directs (n + 1) one) _
      (branch_body k n a b loops guard one other h.0.0) refl in
      let v = holds_in (environment args rs s) guard in
      let w = holds_in (environment brgs qs t) guard in
      let s' = cond v (run_1 one rs s) (run_1 other rs s) in
      let t' = cond w (run_2 one qs t) (run_2 other qs t) in
      let p' = cond_kept (λ u. AreStored ls schemes u.db) v _ _
      (block_stored policy schemes tx.hi distinct args scope one f.1 rs s p)
      (block_stored policy schemes tx.hi distinct args scope other f.2 rs s p) in
      let q' = cond_kept (λ u. AreStored ls schemes u.db) w _ _
      (block_stored policy schemes tx.hi distinct brgs scope one f.1 qs t q)
      (block_stored policy schemes tx.hi distinct brgs scope other f.2 qs t q) in
      let middle : Related X k c n s' t' = elim (cases_Bool (l ⊑ level)) [
        | inl seen ↦
            let e : v ≡ w = ap is_true (eval_same k c b loops (environment args rs s) (environment brgs qs t)
            (environments b loops rs qs s t ar g) guard seen) in
            subst (λ x. Related X k c n s' (cond x (run_2 one qs t) (run_2 other qs t))) e
            (elim v as (λ x. Related X k c n (cond x (run_1 one rs s) (run_1 other rs s))
            (cond x (run_2 one qs t) (run_2 other qs t))) [
              | true ↦ related_keeps X k c (last b (n + 1) one) n _ _ none
                  (branch_one k n a b loops guard one other h.0.0)
                  (related_block scope one (n + 1) n b loops obeys_1 f.1 rs qs ar s t p q g)
              | false ↦ related_keeps X k c (last b (n + 1 + statements one) other) n _ _ none
                  (branch_other k n a b loops guard one other h.0.0) (related_block scope other
                  (n + 1 + statements one) n b loops obeys_2 f.2 rs qs ar s t p q g)
            ])
        | inr out ↦
            let inner : m ⊑ level ≡ false = unseen_above level l m (join-right (pc k n) l) out in
            inr (quiet_both
            (cond_kept (Quiet k c b n s) v _ _
            (quiet_then (quiet_block policy distinct tx cert none schemes args c scope one (n + 1) n b loops m
            (obeyed (points (n + 1) n b loops one) obeys_1) above_1 f.1 inner rs s p)
            (quiet_keeps k c (last b (n + 1) one) n _ none (branch_one k n a b loops guard one other h.0.0)))
            (quiet_then (quiet_block policy distinct tx cert none schemes args c scope other
            (n + 1 + statements one) n b loops m (obeyed
            (points (n + 1 + statements one) n b loops other) obeys_2) above_2 f.2 inner rs s p)
            (quiet_keeps k c (last b (n + 1 + statements one) other) n _ none
            (branch_other k n a b loops guard one other h.0.0))))
            (cond_kept (Quiet k c b n t) w _ _
            (quiet_then (quiet_block policy distinct tx cert none schemes brgs c scope one (n + 1) n b loops m
            (obeyed (points (n + 1) n b loops one) obeys_1) above_1 f.1 inner qs t q)
            (quiet_keeps k c (last b (n + 1) one) n _ none (branch_one k n a b loops guard one other h.0.0)))
            (quiet_then (quiet_block policy distinct tx cert none schemes brgs c scope other
            (n + 1 + statements one) n b loops m (obeyed
            (points (n + 1 + statements one) n b loops other) obeys_2) above_2 f.2 inner qs t q)
            (quiet_keeps k c (last b (n + 1 + statements one) other) n _ none
            (branch_other k n a b loops guard one other h.0.0))))
            g)
      ] in
      related_on X k c n _ s' t' _ _ (block_extends ls schemes args rest rs s')
      (block_extends ls schemes brgs rest qs t')
      (related_block scope rest (n + (1 + statements one + statements other)) a n loops obeys_3 f.3 rs qs ar s' t' p' q') middle
  related_block scope (For name relation label body rest) n a b loops h f rs qs ar s t p q g =
      let m : Pair = join (pc k n) (label_of ls label) in
      let obeys_1 = every_front Excused _ (points (n + 1) n n (label ∷ loops) body) _ h.1 refl in
      let obeys_2 = every_back Excused _ (points (n + 1) n n (label ∷ loops) body) _ h.1 refl in
      let rows_1 = rows ls label (s.db relation) in
      let rows_2 = rows ls label (t.db relation) in
      let inside = in_loop scope name relation in
      let f1 = λ (row : Tuple) (u : Progress). run_1 body (row ∷ rs) u in
      let f2 = λ (row : Tuple) (u : Progress). run_2 body (row ∷ qs) u in
      let k1 = λ (row : Tuple) (u : Progress) (x : AreStored ls schemes u.db). block_stored policy schemes tx.hi distinct args inside body f.2 (row ∷ rs) u x in
      let k2 = λ (row : Tuple) (u : Progress) (x : AreStored ls schemes u.db). block_stored policy schemes tx.hi distinct brgs inside body f.2 (row ∷ qs) u x in
      let s' = for_each f1 rows_1 s in
      let t' = for_each f2 rows_2 t in
      let p' = for_each_kept (λ u. AreStored ls schemes u.db) f1 k1 rows_1 s p in
      let q' = for_each_kept (λ u. AreStored ls schemes u.db) f2 k2 rows_2 t q in
      let middle : Related X k c n s' t' = elim (cases_Bool (label_of ls label ⊑ level)) [
        | inl seen ↦
            let e : rows_1 ≡ rows_2 = rows_under ls c label (s.db relation) (t.db relation) (g.tables relation)
            (below-⊑ ls label c true seen) in
            subst (λ xs. Related X k c n s' (for_each f2 xs t)) e
            (related_each f1 f2 k1 k2 (λ row u. block_extends ls schemes args body (row ∷ rs) u)
            (λ row u. block_extends ls schemes brgs body (row ∷ qs) u)
            n (λ row u v x y z. related_keeps X k c (last n (n + 1) body) n _ _ none
            (loop_turn k n a b loops label body h.0.0)
            (related_block inside body (n + 1) n n (label ∷ loops) obeys_1 f.2 (row ∷ rs) (row ∷ qs)
            (push_row loops label row rs qs ar) u v x y z))
            rows_1 s t p q (related_keeps X k c b n s t none (loop_begin k n a b loops label body h.0.0) (inr g)))
        | inr out ↦
            let inner : m ⊑ level ≡ false = unseen_above level (label_of ls label) m
            (join-right (pc k n) (label_of ls label)) out in
            let x = for_each_kept (λ u. Quiet k c b n s u × AreStored ls schemes u.db) f1
            (λ row u z. (
              quiet_then z.0 (quiet_then (quiet_block policy distinct tx cert none schemes args c inside body
                  (n + 1) n n (label ∷ loops) m (obeyed (points (n + 1) n n (label ∷ loops) body) obeys_1)
                  (loop_body k n a b loops label body h.0.0) f.2 inner (row ∷ rs) u z.1)
                  (quiet_keeps k c (last n (n + 1) body) n _ none (loop_turn k n a b loops label body h.0.0))),
              k1 row u z.1,
            ))
            rows_1 s (quiet_keeps k c b n s none (loop_begin k n a b loops label body h.0.0), p) in
            let y = for_each_kept (λ u. Quiet k c b n t u × AreStored ls schemes u.db) f2
            (λ row u z. (
              quiet_then z.0 (quiet_then (quiet_block policy distinct tx cert none schemes brgs c inside body
                  (n + 1) n n (label ∷ loops) m (obeyed (points (n + 1) n n (label ∷ loops) body) obeys_1)
                  (loop_body k n a b loops label body h.0.0) f.2 inner (row ∷ qs) u z.1)
                  (quiet_keeps k c (last n (n + 1) body) n _ none (loop_turn k n a b loops label body h.0.0))),
              k2 row u z.1,
            ))
            rows_2 t (quiet_keeps k c b n t none (loop_begin k n a b loops label body h.0.0), q) in
            inr (quiet_both x.0 y.0 g)
      ] in
      related_on X k c n _ s' t' _ _ (block_extends ls schemes args rest rs s')
      (block_extends ls schemes brgs rest qs t')
      (related_block scope rest (n + (1 + statements body)) a n loops obeys_2 f.3 rs qs ar s' t' p' q') middle
