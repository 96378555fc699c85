-- No line fails exactly where the rules hold.
use Rattle.std.proofs.Common.{◌≡◌, ℕ, zero, suc, ◌<◌, Bool, true, false, cond, List, [], ◌∷◌, Option, Some, None, Result, Ok, Err, refl, sym, ap, ◌∙◌, subst, inl, inr, arith, length, ◌||◌, nat_eq, ◌⊎◌, eqb-true, eq-eqb, true≢false}
use Rattle.std.specs.List.{list_all, AllByRecursion}
use Rattle.std.proofs.lemmas.Bool.{and_parts, and_from, cases_Bool}
use Rattle.mls_lattice.specs.Lattice.{Pair, Dominates, ◌⊑◌}
use Rattle.mls_lattice.specs.Labels.{label_of}
use Rattle.mls_lattice.specs.Reading.{◌>>=◌}
use Rattle.mls_lattice.proofs.LatticeLemmas.{⊑-Dominates, Dominates-⊑}
use Rattle.mls_translang.specs.Tree.{statements}
use Rattle.mls_certcheck.specs.declared.cert.Certificate.{Certificate}
use Rattle.mls_certcheck.specs.declared.cert.Certificate.TheVariants.{One, Two}
use Rattle.mls_certcheck.specs.Lines.{Line, lines}
use Rattle.mls_certcheck.specs.Rules.{Claim, hi, after, slot_label, source_label, var_rows, Counts, IsAbove, IsObeyed, Rules}
use Rattle.mls_certcheck.specs.Checks.{all_below, counts, is_target, is_over, holds, verdict, unless, count_verdict, First}
use Rattle.mls_certcheck.specs.declared.flow.Source.{Source}
use Rattle.mls_certcheck.specs.declared.flow.Flow.{Flow}
use Rattle.mls_certcheck.specs.declared.flow.Flow.TheVariants.{Into, Kept, Within, Under}
use Rattle.mls_certcheck.specs.declared.refusal.Refusal.{Refusal}
use Rattle.mls_certcheck.specs.declared.refusal.Rule.{Rule}

-- a test of each is the relation of each
each_true : {A : Type 0} (p : A → Bool) (P : A → Type 0) → ((x : A) → p x ≡ true → P x) → (xs : List A) → list_all p xs
    ≡ true → AllByRecursion P xs
each_true p P f [] h = tt
each_true p P f (x ∷ xs) h = let q = and_parts _ _ h in (f x q.0, each_true p P f xs q.1)

true_each : {A : Type 0} (p : A → Bool) (P : A → Type 0) → ((x : A) → P x → p x ≡ true) → (xs : List A)
    → AllByRecursion P xs → list_all p xs ≡ true
true_each p P f [] h = refl
true_each p P f (x ∷ xs) h = and_from _ _ (f x h.0) (true_each p P f xs h.1)

-- a test of every number below one
below_true : (n : ℕ) (p : ℕ → Bool) → all_below n p ≡ true → (x : ℕ) → x < n → p x ≡ true
below_true zero p h x lt = absurd (omega (arith, lt))
below_true (suc n) p h x lt =
    let q = and_parts _ _ h in
    elim (cases_Bool (nat_eq x n)) [
      | inl e ↦ subst (λ y. p y ≡ true) (sym (eqb-true x n e)) q.1
      | inr ne ↦ below_true n p q.0 x (omega (arith, lt, below_ne x n ne))
    ]
  where
    below_ne : (x n : ℕ) → nat_eq x n ≡ false → x ≡ n → ⊥
    below_ne x n ne e = true≢false (sym (eq-eqb x n e) ∙ ne)

true_below : (n : ℕ) (p : ℕ → Bool) → ((x : ℕ) → x < n → p x ≡ true) → all_below n p ≡ true
true_below zero p h = refl
true_below (suc n) p h = and_from _ _ (true_below n p (λ x lt. h x (omega (arith, lt)))) (h n (omega arith))

or_parts : (a b : Bool) → (a || b) ≡ true → (a ≡ true) ⊎ (b ≡ true)
or_parts true b h = inl refl
or_parts false b h = inr h

or_left : (a b : Bool) → a ≡ true → (a || b) ≡ true
or_left a b h = rw h refl

or_right : (a b : Bool) → b ≡ true → (a || b) ≡ true
or_right true b h = refl
or_right false b h = h

target_is : (t : Option ℕ) (x : ℕ) → is_target t x ≡ true → t ≡ Some x
target_is None x h = absurd (true≢false (sym h))
target_is (Some y) x h = ap Some (eqb-true y x h)

target_not : (t : Option ℕ) (x : ℕ) → is_target t x ≡ false → t ≡ Some x → ⊥
target_not None x h e = absurd cc
target_not (Some y) x h e = let same : y ≡ x = cc in true≢false (sym (eq-eqb y x same) ∙ h)

counts_to : (n : ℕ) (cert : Certificate) → counts n cert ≡ true → Counts n cert
counts_to n (One cert) h = eqb-true _ _ h
counts_to n (Two cert) h = let q = and_parts _ _ h in (eqb-true _ _ q.0, eqb-true _ _ q.1)

to_counts : (n : ℕ) (cert : Certificate) → Counts n cert → counts n cert ≡ true
to_counts n (One cert) h = eq-eqb _ _ h
to_counts n (Two cert) h = and_from _ _ (eq-eqb _ _ h.0) (eq-eqb _ _ h.1)

-- nothing was said: it holds
unless_ok : (b : Bool) (n : ℕ) (r : Rule) → unless b n r ≡ Ok tt → b ≡ true
unless_ok true n r h = refl
unless_ok false n r h = absurd cc

-- one after another, and nothing was said
then_ok : (r s : Result (Unit {0}) Refusal) → (r >>= λ _. s) ≡ Ok tt → (r ≡ Ok tt) × (s ≡ Ok tt)
then_ok (Ok u) s h = (refl, h)
then_ok (Err e) s h = absurd cc

module _ (c : Claim) where
  pub over_to : (p : Pair) (ss : List Source) → is_over c p ss ≡ true → IsAbove c p ss
  over_to p ss h = each_true (λ s. source_label c s ⊑ p) (λ s. Dominates p (source_label c s))
      (λ s. ⊑-Dominates (source_label c s) p) ss h

  pub to_over : (p : Pair) (ss : List Source) → IsAbove c p ss → is_over c p ss ≡ true
  to_over p ss h = true_each (λ s. source_label c s ⊑ p) (λ s. Dominates p (source_label c s))
      (λ s. Dominates-⊑ (source_label c s) p) ss h

  holds_to : (f : Flow) → holds c f ≡ true → IsObeyed c f
  holds_to (Into ts ss) h = each_true (λ t. is_over c (slot_label c t) ss) (λ t. IsAbove c (slot_label c t) ss)
      (λ t. over_to (slot_label c t) ss) ts h
  holds_to (Kept m n but) h = λ x lt other.
      elim (or_parts _ _ (below_true (length c.tx.vars) (λ x. is_target but x || after c m x ⊑ after c n x) h x lt)) [
        | inl is ↦ absurd (other (target_is but x is))
        | inr d ↦ ⊑-Dominates (after c m x) (after c n x) d
      ]
  holds_to (Within limit ss) h = over_to (label_of c.labels limit) ss h
  holds_to (Under ss) h = over_to (hi c) ss h

  to_holds : (f : Flow) → IsObeyed c f → holds c f ≡ true
  to_holds (Into ts ss) h = true_each (λ t. is_over c (slot_label c t) ss) (λ t. IsAbove c (slot_label c t) ss)
      (λ t. to_over (slot_label c t) ss) ts h
  to_holds (Kept m n but) h = true_below (length c.tx.vars) (λ x. is_target but x || after c m x ⊑ after c n x)
      (λ x lt. elim (cases_Bool (is_target but x)) [
        | inl is ↦ or_left _ _ is
        | inr not ↦ or_right _ _ (Dominates-⊑ (after c m x) (after c n x) (h x lt (target_not but x not)))
      ])
  to_holds (Within limit ss) h = to_over (label_of c.labels limit) ss h
  to_holds (Under ss) h = to_over (hi c) ss h

  lines_to : (ls : List Line) → verdict c ls ≡ Ok tt → AllByRecursion (λ l. IsObeyed c l.flow) ls
  lines_to [] h = tt
  lines_to (l ∷ ls) h =
      let more : verdict c ls ≡ Ok tt → AllByRecursion (λ l. IsObeyed c l.flow) ls = lines_to ls in
      elim (holds c l.flow) as (λ b. holds c l.flow ≡ b → cond b (verdict c ls) (Err l.refusal) ≡ Ok tt
      → IsObeyed c l.flow × AllByRecursion (λ l. IsObeyed c l.flow) ls) [
        | true ↦ λ e k. (holds_to l.flow e, more k)
        | false ↦ λ e k. absurd cc
      ] refl h

  to_lines : (ls : List Line) → AllByRecursion (λ l. IsObeyed c l.flow) ls → verdict c ls ≡ Ok tt
  to_lines [] h = refl
  to_lines (l ∷ ls) h = rw (to_holds l.flow h.0) (to_lines ls h.1)

  -- nothing is broken: the rules hold
  pub rules_from_first : First c ≡ Ok tt → Rules c
  rules_from_first h =
      let first = then_ok (count_verdict c) (verdict c (lines c.tx)) h in
      let counted = then_ok (unless (list_all (λ row. nat_eq (length row) (length c.tx.vars))
      (var_rows c.cert)) 0 _) _ first.0 in
      record {
        var_count = each_true _ (λ row. length row ≡ length c.tx.vars) (λ row k. eqb-true _ _ k) (var_rows c.cert)
            (unless_ok _ _ _ counted.0);
        stmt_count = counts_to _ c.cert (unless_ok _ _ _ counted.1);
        lines = lines_to (lines c.tx) first.1;
      }

  -- the rules hold: nothing is broken
  pub first_from_rules : Rules c → First c ≡ Ok tt
  first_from_rules r =
      rw (true_each (λ row. nat_eq (length row) (length c.tx.vars)) (λ row. length row ≡ length c.tx.vars)
      (λ row k. eq-eqb _ _ k) (var_rows c.cert) r.var_count)
      (rw (to_counts (statements c.tx.body) c.cert r.stmt_count) (to_lines (lines c.tx) r.lines))
