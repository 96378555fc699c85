-- Labels that rise, one bound after another.
use Rattle.std.proofs.Common.{◌≡◌, ◌<◌, ◌≤◌, ◌^◌, Bool, true, false, ◌||◌, List, refl, sym, ap, ◌∙◌, subst, arith, true≢false}
use Rattle.std.specs.List.{AllByRecursion}
use Rattle.mls_lattice.specs.declared.label.Label.{Label}
use Rattle.mls_lattice.specs.Lattice.{Pair, Dominates, join, bottom, pair_of}
use Rattle.mls_lattice.specs.Policy.{labels_of}
use Rattle.mls_lattice.proofs.LatticeLemmas.{⊑-Dominates, Dominates-⊑, join-least}
use Rattle.mls_certcheck.specs.Rules.{Claim, claim, slot_label, IsAbove}
use Rattle.mls_certcheck.specs.Walk.{IsJoin}
use Rattle.mls_certcheck.specs.declared.flow.Slot.{Slot}
use Rattle.mls_certcheck.specs.declared.flow.Source.{Source}
use Rattle.mls_certcheck.specs.declared.flow.Flow.TheVariants.{Into}
use Rattle.mls_lattice.proofs.EachLemmas.{all_if}
use Rattle.mls_certcheck.proofs.RulesLemmas.{over_to, to_over}
use Rattle.mls_labeller.specs.Flows.{IsBounded, body_lines}
use Rattle.mls_labeller.specs.Least.{Meets, Below, IsLeast}
use Rattle.mls_labeller.specs.Rising.{certificate, claim_at, cell, room, HasSlot, IsDue, Stands, Rises}
use Rattle.mls_labeller.specs.declared.least.Rising.{Rising}
use Rattle.mls_labeller.proofs.FlowLemmas.{all_bounded, over_falls}
use Rattle.mls_labeller.proofs.RowLemmas.{is_of, has_rows, var_counts, stmt_counts, there, slot_own, put_counts, put_room, stays_below, lowest_below, low_labels, with_counts, rows_with, put, label_at}

-- ---- just the pairs over sources dominate their join

join_over : (c : Claim) (ss : List Source) (p q : Pair) → IsJoin c ss p → Dominates q p → IsAbove c q ss
join_over c ss p q j h = over_to c q ss (sym (j.flows q) ∙ Dominates-⊑ p q h)

over_join : (c : Claim) (ss : List Source) (p q : Pair) → IsJoin c ss p → IsAbove c q ss → Dominates q p
over_join c ss p q j h = ⊑-Dominates p q (j.flows q ∙ to_over c q ss h)

-- ---- one step, and one more

module _ (k : Rising) where
  abbrev at : List (List Label) → Claim
  at x = claim_at k x

  -- a label that did not dominate the pair
  pub rises : (x : List (List Label)) (t : Slot) (p : Pair) (new : Label) → Stands k x → HasSlot k.labeller.tx.now t
      → IsDue k (λ c. Dominates (slot_label c t) p) → new.rank < 256 → new.cats < 2 ^ 32 → pair_of new
      ≡ join (slot_label (at x) t) p → (Dominates (slot_label (at x) t) p → ⊥)
      → Rises k (λ c. Dominates (slot_label c t) p) x (put x (cell k.version t).0 (cell k.version t).1 new) true
  rises x t p new stands has due rank cats is above =
      let tx = k.labeller.tx.now in
      let policy = k.labeller.policy.now in
      let r = (cell k.version t).0 in
      let i = (cell k.version t).1 in
      let lt = there tx k.version t has x stands.counts in
      let own : slot_label (at x) t ≡ label_at x r i = slot_own policy tx k.version t has x in
      record {
        stands = record {
          counts = put_counts x r i new lt ∙ stands.counts;
          below = λ other m. stays_below policy tx k.version x other t new has stands.counts
              (subst (Dominates (slot_label (at other) t)) (sym is) (join-least (slot_label (at x) t) p
              (slot_label (at other) t) (stands.below other m t) (due other m))) (stands.below other m);
        };
        still = λ e. absurd (true≢false e);
        falls = λ e. put_room x r i new lt p rank cats (is ∙ ap (λ q. join q p) own)
            (λ h. above (subst (λ q. Dominates q p) (sym own) h));
      }

  never_more : (bound : Claim → Type 0) (x y : List (List Label)) (rose : Bool) → Rises k bound x y rose
      → room y ≤ room x
  never_more bound x y true h = omega (arith, h.falls refl)
  never_more bound x y false h = omega (arith, ap room (h.still refl).0)

  -- some bounds, and then others
  pub rises_then : (F G H : Claim → Type 0) → ((c : Claim) → F c → G c → H c) → (x y z : List (List Label)) (r s : Bool)
      → Rises k F x y r → Rises k G y z s → Rises k H x z (r || s)
  rises_then F G H both x y z true s h g = record {
    stands = g.stands;
    still = λ e. absurd (true≢false e);
    falls = λ e. omega (arith, h.falls refl, never_more G y z s g);
  }
  rises_then F G H both x y z false s h g = record {
    stands = g.stands;
    still = λ e. let same = (g.still e).0 in (
      same ∙ (h.still refl).0,
      both (at z) (subst (λ w. F (at w)) (sym same) (h.still refl).1) (g.still e).1,
    );
    falls = λ e. omega (arith, ap room (h.still refl).0, g.falls e);
  }

  -- ---- the join of sources flows

  module _ (ss : List Source) (p : Pair) (x : List (List Label)) (j : IsJoin (at x) ss p) where
    -- where the sources flow to a slot, their join is due
    pub join_due : (t : Slot) → Stands k x → IsDue k (λ c. IsAbove c (slot_label c t) ss)
        → IsDue k (λ c. Dominates (slot_label c t) p)
    join_due t stands due other m = over_join (at x) ss p (slot_label (at other) t) j
        (over_falls (labels_of k.labeller.policy.now) k.labeller.tx.now (certificate k.version x)
        (certificate k.version other) (stands.below other m) (slot_label (at other) t) ss (due other m))

    pub rises_pour : (ts : List Slot) (y : List (List Label)) (rose : Bool)
        → Rises k (λ c. AllByRecursion (λ t. Dominates (slot_label c t) p) ts) x y rose
        → Rises k (λ c. IsBounded c (Into ts ss)) x y rose
    rises_pour ts y rose h =
        let poured : List (List Label) → Type 0 = λ w. AllByRecursion (λ t. Dominates (slot_label (at w) t) p) ts in
        let flows : poured x → IsBounded (at x) (Into ts ss) = all_if (λ t. Dominates (slot_label (at x) t) p)
        (λ t. IsAbove (at x) (slot_label (at x) t) ss) (λ t. join_over (at x) ss p (slot_label (at x) t) j) ts in
        record {
          stands = h.stands;
          still = λ e. let same = (h.still e).0
              in (same, subst (λ w. poured w → IsBounded (at w) (Into ts ss)) (sym same) flows (h.still e).1);
          falls =
              h.falls;
        }

  -- ---- the lowest labels

  pub lowest_stands : (l : Label) → pair_of l ≡ bottom → Stands k (rows_with l k.version k.labeller.tx.now)
  lowest_stands l low =
      let tx = k.labeller.tx.now in
      record {
        counts = with_counts l k.version tx;
        below = λ other m. lowest_below k.labeller.policy.now tx k.version _ other (low_labels l low k.version tx);
      }

  -- ---- labels that stand and meet the lower bounds

  pub stands_least : (x : List (List Label)) → Stands k x → AllByRecursion (λ line. IsBounded (at x) line.flow)
      (body_lines k.labeller.tx.now) → IsLeast k.version k.labeller.policy.now k.labeller.tx.now
      (certificate k.version x)
  stands_least x stands bounds = record {
    version = is_of k.version x;
    meets = record {
      var_count = var_counts k.version k.labeller.tx.now x stands.counts;
      stmt_count = stmt_counts k.version k.labeller.tx.now x stands.counts;
      bounds = all_bounded (at x) bounds;
    };
    least = λ other h.
        let rows = has_rows k.version other h in
        subst (λ y. Meets (claim k.labeller.policy.now k.labeller.tx.now y)
        → Below (at x) (claim k.labeller.policy.now k.labeller.tx.now y)) rows.1 (stands.below rows.0);
  }
