-- Statements whose label a level does not dominate change nothing that it may see.
use Rattle.std.proofs.Common.{◌≡◌, ℕ, ◌+◌, true, false, cond, List, [], ◌∷◌, ◌++◌, length, Option, Some, None, refl, sym, ap, ◌∙◌, nat_eq, IfSome, true≢false, eqb-true, ne_eqb, append-nil}
use Rattle.std.proofs.Recursive.{every_front, every_back}
use Rattle.std.proofs.lemmas.List.Elements.{filter-append}
use Rattle.mls_lattice.specs.Lattice.{Pair, Dominates, ◌⊑◌, join}
use Rattle.mls_lattice.specs.Labels.{Labels, label_of, below, AreDistinct}
use Rattle.mls_lattice.specs.Policy.{Policy, labels_of}
use Rattle.mls_lattice.proofs.LatticeLemmas.{Dominates-trans, join-left}
use Rattle.mls_scheme.specs.declared.value.Value.{Value}
use Rattle.mls_scheme.specs.declared.tuple.Tuple.{Tuple}
use Rattle.mls_scheme.specs.Scheme.{Schemes, scheme_of}
use Rattle.mls_filterview.specs.View.{low, rows}
use Rattle.mls_updates.specs.declared.outcome.Outcome.{Outcome}
use Rattle.mls_updates.specs.Writes.{Write, write}
use Rattle.mls_updates.proofs.LawLemmas.{high_leave_low}
use Rattle.mls_translang.specs.Tree.{Stmt, Writing, Assign, Write_at, Release, Emit, Block, End, Do, If, For, statements}
use Rattle.mls_translang.specs.Scope.{Scope, in_loop}
use Rattle.mls_translang.specs.Fits.{BlockFits}
use Rattle.mls_translang.specs.Tx.{Tx}
use Rattle.mls_translang.specs.Expressions.{holds_in}
use Rattle.mls_certcheck.specs.Meaning.{Item, Variables, Progress, set_var, set_outcome, do_write, environment, write_in, perform, run_block}
use Rattle.mls_certcheck.specs.Secure.{AreStored, seen_items}
use Rattle.mls_certcheck.proofs.KeepingLemmas.{cond_kept, for_each_kept, perform_stored, block_stored}
use Rattle.mls_certcheck.specs.declared.cert.Certificate.{Certificate}
use Rattle.mls_certcheck.specs.Points.{Plain, directs, last, points}
use Rattle.mls_certcheck.specs.Lines.{target}
use Rattle.mls_certcheck.specs.Rules.{Claim, claim, pc, after}
use Rattle.mls_certcheck.proofs.LineLemmas.{lab, Keeps, Obeys, rests, assigned, write_context, write_into, release_context, release_target, emit_context, branch_body, branch_one, branch_other, loop_body, loop_begin, loop_turn}
use Rattle.mls_certcheck.proofs.PointLemmas.{unseen_above, seen_under, below-⊑, BlockObeys, AreAbove, HasNoMore, keeps_all}

-- two runs look alike to c so far: the low tuples, the variables of labels that it dominates after the statement n, and
-- the items
pub record Agrees (k : Claim) (c n : ℕ) (s t : Progress) : Type 0 where
  pub tables : (relation : ℕ) → low k.labels c (s.db relation) ≡ low k.labels c (t.db relation)
  pub values : (i : ℕ) → after k n i ⊑ label_of k.labels c ≡ true → s.vars i ≡ t.vars i
  pub emitted : seen_items k.labels c s.emitted ≡ seen_items k.labels c t.emitted
  pub released : seen_items k.labels c s.released ≡ seen_items k.labels c t.released

-- c dominates no label of a variable after n that it does not dominate after m
abbrev pub IsSeenBefore : Claim → ℕ → ℕ → ℕ → Type 0
IsSeenBefore k c m n = (i : ℕ) → after k n i ⊑ label_of k.labels c ≡ true → after k m i ⊑ label_of k.labels c ≡ true

pub agrees_on : {k : Claim} {c m n : ℕ} {s t : Progress} → IsSeenBefore k c m n → Agrees k c m s t → Agrees k c n s t
agrees_on seen h = record {
  tables = h.tables;
  values = λ i v. h.values i (seen i v);
  emitted = h.emitted;
  released =
      h.released;
}

-- a run goes from m to n and changes nothing that c may see
pub record Quiet (k : Claim) (c m n : ℕ) (s t : Progress) : Type 0 where
  pub seen : IsSeenBefore k c m n
  pub same : Agrees k c n s t

pub quiet_end : (k : Claim) (c n : ℕ) (s : Progress) → Quiet k c n n s s
quiet_end k c n s = record {
  seen = λ i v. v;
  same = record {
    tables = λ relation. refl;
    values = λ i v. refl;
    emitted =
        refl;
    released = refl;
  };
}

pub quiet_then : {k : Claim} {c m n o : ℕ} {s t u : Progress} → Quiet k c m n s t → Quiet k c n o t u
    → Quiet k c m o s u
quiet_then h g = record {
  seen = λ i v. h.seen i (g.seen i v);
  same = record {
    tables = λ relation. h.same.tables relation ∙ g.same.tables relation;
    values = λ i v. h.same.values i (g.seen i v) ∙ g.same.values i v;
    emitted = h.same.emitted ∙ g.same.emitted;
    released = h.same.released ∙ g.same.released;
  };
}

-- what agreed before two runs that c may not see agrees after them
pub quiet_both : {k : Claim} {c m n : ℕ} {s t u v : Progress} → Quiet k c m n s u → Quiet k c m n t v → Agrees k c m s t
    → Agrees k c n u v
quiet_both h g a = record {
  tables = λ relation. sym (h.same.tables relation) ∙ a.tables relation ∙ g.same.tables relation;
  values = λ i l. sym (h.same.values i l) ∙ a.values i (h.seen i l) ∙ g.same.values i l;
  emitted = sym h.same.emitted ∙ a.emitted ∙ g.same.emitted;
  released = sym h.same.released ∙ a.released ∙ g.same.released;
}

-- where variables keep what they hold
pub keeps_seen : (k : Claim) (c m n : ℕ) → HasNoMore k → Keeps k m n → IsSeenBefore k c m n
keeps_seen k c m n none h i v = seen_under (label_of k.labels c) (after k m i) (after k n i)
    (keeps_all k none m n i (h i)) v

pub quiet_keeps : (k : Claim) (c m n : ℕ) (s : Progress) → HasNoMore k → Keeps k m n → Quiet k c m n s s
quiet_keeps k c m n s none h = record {
  seen = keeps_seen k c m n none h;
  same = record {
    tables = λ relation. refl;
    values = λ i v. refl;
    emitted = refl;
    released = refl;
  };
}

-- an item that is not seen
pub seen_not : (ls : Labels) (c : ℕ) (items : List Item) (i : Item) → label_of ls i.0 ⊑ label_of ls c ≡ false
    → seen_items ls c (items ++ i ∷ []) ≡ seen_items ls c items
seen_not ls c items i h =
    filter-append (λ i. below ls i.0 c) items (i ∷ [])
    ∙ ap (λ b. seen_items ls c items ++ cond b (i ∷ []) []) (below-⊑ ls i.0 c false h)
    ∙ append-nil (seen_items ls c items)

-- a variable that is not set
pub set_not : (x i : ℕ) (v : Option Value) (vars : Variables) → (i ≡ x → ⊥) → set_var x v vars i ≡ vars i
set_not x i v vars other = ap (λ b. cond b v (vars i)) (ne_eqb i x other)

-- which is not a target
outcome_not : (outcome : Option ℕ) (o : Outcome) (vars : Variables) (i : ℕ) → (outcome ≡ Some i → ⊥)
    → set_outcome outcome o vars i ≡ vars i
outcome_not None o vars i other = refl
outcome_not (Some x) o vars i other = set_not x i _ vars (λ e. other (ap Some (sym e)))

module _ (policy : Policy) (distinct : AreDistinct (labels_of policy)) (tx : Tx) (cert : Certificate)
    (none : HasNoMore (claim policy tx cert)) (schemes : Schemes) (args : List (Option Value)) (c : ℕ) where
  abbrev k : Claim
  k = claim policy tx cert

  abbrev ls : Labels
  ls = labels_of policy

  abbrev level : Pair
  level = label_of ls c

  -- a variable but the target, after a statement
  pub rest_seen : (n a b : ℕ) (loops : List ℕ) (stmt : Stmt)
      → Obeys k (record { number = n; around = a; before = b; rows = loops; shape = Plain stmt })
      → (i : ℕ) → (target stmt ≡ Some i → ⊥) → after k n i ⊑ level ≡ true → after k b i ⊑ level ≡ true
  rest_seen n a b loops stmt h i other v = seen_under level (after k b i) (after k n i)
      (keeps_all k none b n i (λ lt. rests k n a b loops stmt h i lt other)) v

  -- a target that is not seen
  not_target : (n : ℕ) (t : Option ℕ) → IfSome t (λ x. after k n x ⊑ level ≡ false) → (i : ℕ) → after k n i ⊑ level
      ≡ true → t ≡ Some i → ⊥
  not_target n None h i v e = absurd cc
  not_target n (Some x) h i v e = let same : x ≡ i = cc in true≢false (sym v ∙ ap (λ j. after k n j ⊑ level) (sym same)
      ∙ h)

  -- so all variables that are seen stay
  stays : (n a b : ℕ) (loops : List ℕ) (stmt : Stmt) → Obeys k (record {
    number = n;
    around = a;
    before = b;
    rows =
        loops;
    shape = Plain stmt;
  })
      → IfSome (target stmt) (λ x. after k n x ⊑ level ≡ false) → IsSeenBefore k c b n
  stays n a b loops stmt h out i v = rest_seen n a b loops stmt h i (not_target n (target stmt) out i v) v

  outcome_out : (n w : ℕ) (outcome : Option ℕ) → IfSome outcome (λ x. Dominates (after k n x) (label_of ls w))
      → label_of ls w ⊑ level ≡ false → IfSome outcome (λ x. after k n x ⊑ level ≡ false)
  outcome_out n w None h out = tt
  outcome_out n w (Some x) h out = unseen_above level (label_of ls w) (after k n x) h out

  pub quiet_write : (n a b : ℕ) (loops : List ℕ) (relation w : ℕ) (writing : Writing) (wr : Write) (outcome : Option ℕ)
      (s : Progress)
      → Obeys k (record {
        number = n;
        around = a;
        before = b;
        rows = loops;
        shape =
            Plain (Write_at relation w writing outcome);
      }) → label_of ls w ⊑ level ≡ false → AreStored ls schemes s.db
      → Quiet k c b n s (do_write ls schemes args relation w wr outcome s)
  quiet_write n a b loops relation w writing wr outcome s h out stored =
      let hidden = outcome_out n w outcome (write_into k n a b loops relation w writing outcome h) out in
      record {
        seen = stays n a b loops (Write_at relation w writing outcome) h hidden;
        same = record {
          tables = λ r. elim (nat_eq r relation) as (λ b. nat_eq r relation ≡ b → low ls c (s.db r)
              ≡ low ls c (cond b (write ls (scheme_of schemes relation) w wr (s.db relation)).table (s.db r))) [
                | true ↦ λ e. ap (λ x. low ls c (s.db x)) (eqb-true r relation e)
                    ∙ sym (high_leave_low ls (scheme_of schemes relation) (length (scheme_of schemes relation).others) c w
                    (s.db relation) (stored relation) wr (below-⊑ ls w c false out))
                | false ↦ λ e. refl
              ] refl;
          values = λ i v. sym (outcome_not outcome _ s.vars i (not_target n outcome hidden i v));
          emitted = refl;
          released = refl;
        };
      }

  -- a statement whose label c does not dominate
  quiet_stmt : (n a b : ℕ) (loops : List ℕ) (around : List Tuple) (stmt : Stmt) (s : Progress)
      → Obeys k (record { number = n; around = a; before = b; rows = loops; shape = Plain stmt }) → pc k n ⊑ level
      ≡ false → AreStored ls schemes s.db
      → Quiet k c b n s (perform ls schemes args around stmt s)
  unfolding perform
  quiet_stmt n a b loops around (Assign x e) s h out stored =
      let hidden : after k n x ⊑ level ≡ false = unseen_above level (pc k n) (after k n x)
      (Dominates-trans _ _ _ (assigned k n a b loops x e h) (join-left (pc k n) (lab k b loops e))) out in
      record {
        seen = stays n a b loops (Assign x e) h hidden;
        same = record {
          tables = λ r. refl;
          values =
              λ i v. sym (set_not x i _ s.vars (λ same. not_target n (Some x) hidden i v (ap Some (sym same))));
          emitted =
              refl;
          released = refl;
        };
      }
  quiet_stmt n a b loops around (Write_at relation w writing outcome) s h out stored =
      quiet_write n a b loops relation w writing (write_in (environment args around s) writing) outcome s h
      (unseen_above level (pc k n) (label_of ls w)
      (write_context k n a b loops relation w writing outcome h) out) stored
  quiet_stmt n a b loops around (Release e to into) s h out stored =
      let below_to : label_of ls to ⊑ level ≡ false = unseen_above level (pc k n) (label_of ls to)
      (release_context k n a b loops e to into h) out in
      let hidden : after k n into ⊑ level ≡ false = unseen_above level (label_of ls to) (after k n into)
      (release_target k n a b loops e to into h) below_to in
      record {
        seen = stays n a b loops (Release e to into) h hidden;
        same = record {
          tables = λ r. refl;
          values = λ i v. sym (set_not into i _ s.vars (λ same. not_target n (Some into) hidden i v
              (ap Some (sym same))));
          emitted = refl;
          released = sym (seen_not ls c s.released _ below_to);
        };
      }
  quiet_stmt n a b loops around (Emit e label) s h out stored = record {
    seen = stays n a b loops (Emit e label) h tt;
    same = record {
      tables = λ r. refl;
      values = λ i v. refl;
      emitted = sym (seen_not ls c s.emitted _ (unseen_above level (pc k n) (label_of ls label)
          (emit_context k n a b loops e label h) out));
      released = refl;
    };
  }

  -- a block whose surroundings c does not dominate
  pub quiet_block : (scope : Scope) (block : Block) (n a b : ℕ) (loops : List ℕ) (l : Pair)
      → BlockObeys k n a b loops block → AreAbove k l n block → BlockFits policy schemes tx.hi scope block
      → l ⊑ level ≡ false
      → (around : List Tuple) (s : Progress) → AreStored ls schemes s.db → Quiet k c b (last b n block) s
      (run_block ls schemes args block around s)
  unfolding run_block
  quiet_block scope End n a b loops l h above f out around s stored = quiet_end k c b s
  quiet_block scope (Do stmt rest) n a b loops l h above f out around s stored =
      quiet_then (quiet_stmt n a b loops around stmt s h.0 (unseen_above level l (pc k n) above.0 out) stored)
      (quiet_block scope rest (n + 1) a n loops l h.1 above.1 f.1 out around (perform ls schemes args around stmt s)
      (perform_stored policy schemes tx.hi distinct args scope around stmt s f.0 stored))
  quiet_block scope (If guard one other rest) n a b loops l h above f out around s stored =
      let m : Pair = join (pc k n) (lab k b loops guard) in
      let inner : m ⊑ level ≡ false = unseen_above level (pc k n) m (join-left (pc k n) (lab k b loops guard))
      (unseen_above level l (pc k n) above.0 out) in
      let later = every_back (Obeys k) _ (points (n + 1) n b loops one) _ h.1 refl in
      let obeys_1 = every_front (Obeys k) _ (points (n + 1) n b loops one) _ h.1 refl in
      let obeys_2 = every_front (Obeys k) _ (points (n + 1 + statements one) n b loops other) _ later refl in
      let obeys_3 = every_back (Obeys k) _ (points (n + 1 + statements one) n b loops other) _ later refl in
      let above_1 = every_front (λ j. Dominates (pc k j) m) _ (directs (n + 1) one) _
      (branch_body k n a b loops guard one other h.0) refl in
      let above_2 = every_back (λ j. Dominates (pc k j) m) _ (directs (n + 1) one) _
      (branch_body k n a b loops guard one other h.0) refl in
      let d = holds_in (environment args around s) guard in
      quiet_then
      (cond_kept (Quiet k c b n s) d _ _
      (quiet_then (quiet_block scope one (n + 1) n b loops m obeys_1 above_1 f.1 inner around s stored)
      (quiet_keeps k c (last b (n + 1) one) n _ none (branch_one k n a b loops guard one other h.0)))
      (quiet_then (quiet_block scope other (n + 1 + statements one) n b loops m obeys_2 above_2 f.2 inner around s stored) (quiet_keeps k c (last b (n + 1 + statements one) other) n _ none (branch_other k n a b loops guard one other h.0))))
      (quiet_block scope rest (n + (1 + statements one + statements other)) a n loops l obeys_3 above.1 f.3 out around _
      (cond_kept (λ t. AreStored ls schemes t.db) d _ _
      (block_stored policy schemes tx.hi distinct args scope one f.1 around s stored)
      (block_stored policy schemes tx.hi distinct args scope other f.2 around s stored)))
  quiet_block scope (For name relation label body rest) n a b loops l h above f out around s stored =
      let m : Pair = join (pc k n) (label_of ls label) in
      let inner : m ⊑ level ≡ false = unseen_above level (pc k n) m (join-left (pc k n) (label_of ls label))
      (unseen_above level l (pc k n) above.0 out) in
      let obeys_1 = every_front (Obeys k) _ (points (n + 1) n n (label ∷ loops) body) _ h.1 refl in
      let obeys_2 = every_back (Obeys k) _ (points (n + 1) n n (label ∷ loops) body) _ h.1 refl in
      let looped = for_each_kept (λ t. Quiet k c b n s t × AreStored ls schemes t.db)
      (λ row t. run_block ls schemes args body (row ∷ around) t)
      (λ row t p. (
        quiet_then p.0
            (quiet_then (quiet_block (in_loop scope name relation) body (n + 1) n n (label ∷ loops) m obeys_1
            (loop_body k n a b loops label body h.0) f.2 inner (row ∷ around) t p.1)
            (quiet_keeps k c (last n (n + 1) body) n _ none (loop_turn k n a b loops label body h.0))),
        block_stored policy schemes tx.hi distinct args (in_loop scope name relation) body f.2 (row ∷ around) t p.1,
      ))
      (rows ls label (s.db relation)) s (quiet_keeps k c b n s none (loop_begin k n a b loops label body h.0), stored)
      in
      quiet_then looped.0 (quiet_block scope rest
      (n + (1 + statements body)) a n loops l obeys_2 above.1 f.3 out around _ looped.1)
