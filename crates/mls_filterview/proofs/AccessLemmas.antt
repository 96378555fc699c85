-- Calls over a base, by the labels that they leave alone.
use Rattle.std.proofs.Common.{◌≡◌, ◌≢◌, ℕ, true, false, List, filter, sym, ◌∙◌, ap, subst, true≢false}
use Rattle.mls_lattice.specs.Labels.{Labels, below}
use Rattle.std.proofs.lemmas.Bool.{false_from_ne_true}
use Rattle.mls_lattice.proofs.LatticeLemmas.{below-trans}
use Rattle.mls_filterview.specs.Content.{Seen}
use Rattle.mls_filterview.specs.View.{IsAmong}
use Rattle.mls_filterview.specs.Calls.{Avoids, NoAccess, ReadsAt, ReadsAmong, ChangesAt, ChangesAmong, NoReadUp, NoWriteDown}
use Rattle.std.specs.List.{AllByRecursion}
use Rattle.mls_filterview.proofs.AmongLemmas.{among_filter, all_at}

-- ---- labels that are left alone

-- a label that is not below c is none that is
pub not_below : (ls : Labels) (c n m : ℕ) → below ls n c ≡ true → below ls m c ≡ false → m ≢ n
not_below ls c n m h out e = true≢false (sym h ∙ ap (λ k. below ls k c) (sym e) ∙ out)

-- one that does not dominate w is none that does
pub not_above : (ls : Labels) (w n m : ℕ) → below ls w n ≡ true → below ls w m ≡ false → m ≢ n
not_above ls w n m h out e = true≢false (sym h ∙ ap (below ls w) (sym e) ∙ out)

none_above : (ls : Labels) (w m : ℕ) (ns : List ℕ) → AllByRecursion (λ n. below ls w n ≡ true) ns → below ls w m ≡ false
    → IsAmong m ns → ⊥
none_above ls w m ns high out h = true≢false (sym (all_at (λ n. below ls w n ≡ true) ns high m h) ∙ out)

-- what is not below hi is not below what hi dominates, and what does not dominate lo does not dominate what dominates
-- lo
not_lower : (ls : Labels) (n hi m : ℕ) → below ls n hi ≡ true → below ls m hi ≡ false → below ls m n ≡ false
not_lower ls n hi m low out = false_from_ne_true _ (λ t. true≢false (sym (below-trans ls m n hi t low) ∙ out))

not_higher : (ls : Labels) (lo n m : ℕ) → below ls lo n ≡ true → below ls lo m ≡ false → below ls n m ≡ false
not_higher ls lo n m high out = false_from_ne_true _ (λ t. true≢false (sym (below-trans ls lo n m high t) ∙ out))

not_filtered : (ls : Labels) (c m : ℕ) (ns : List ℕ) → below ls m c ≡ false → IsAmong m (filter (λ n. below ls n c) ns)
    → ⊥
not_filtered ls c m ns out h = true≢false (sym (among_filter (λ n. below ls n c) ns m h).1 ∙ out)

module _ {Self : Type 0} {seen : Self → Seen} {a b : Self} where
  -- ---- one call after another

  pub avoids_then : {R W : ℕ → Type 0} {c : Self} → Avoids seen R W a b → Avoids seen R W b c → Avoids seen R W a c
  avoids_then one two = record {
    reads = λ m u h. one.reads m u (two.reads m u h);
    changes = λ m u h. one.changes m u
        (two.changes m u h);
  }

  pub avoids_same : {R W : ℕ → Type 0} → b ≡ a → Avoids seen R W a b
  avoids_same same = record {
    reads = λ m u h. subst (λ x. (seen x).asked m) same h;
    changes =
        λ m u h. subst (λ x. (seen x).changed m) same h;
  }

  -- what leaves all labels alone leaves these alone
  pub avoids_some : {R W : ℕ → Type 0} → NoAccess seen a b → Avoids seen R W a b
  avoids_some none = record { reads = λ m u h. none.reads m tt h; changes = λ m u h. none.changes m tt h }

  -- ---- what c may read, and what w may change

  pub at_reads_low : (ls : Labels) (c n : ℕ) → below ls n c ≡ true → ReadsAt seen n a b → NoReadUp seen ls c a b
  at_reads_low ls c n low h = record { reads = λ m out. h.reads m (not_below ls c n m low out); changes = h.changes }

  pub among_reads_low : (ls : Labels) (c : ℕ) (ns : List ℕ) → ReadsAmong seen (filter (λ n. below ls n c) ns) a b
      → NoReadUp seen ls c a b
  among_reads_low ls c ns h = record { reads = λ m out. h.reads m (not_filtered ls c m ns out); changes = h.changes }

  pub low_reads_no_down : (ls : Labels) (hi lo : ℕ) → NoReadUp seen ls hi a b → NoWriteDown seen ls hi lo a b
  low_reads_no_down ls hi lo h = record { reads = h.reads; changes = λ m u. h.changes m tt }

  pub at_changes_high : (ls : Labels) (hi lo n : ℕ) → below ls lo n ≡ true → ChangesAt seen n a b
      → NoWriteDown seen ls hi lo a b
  at_changes_high ls hi lo n high h = record {
    reads = λ m u. h.reads m tt;
    changes = λ m out. h.changes m
        (not_above ls lo n m high out);
  }

  pub among_changes_high : (ls : Labels) (hi lo : ℕ) (ns : List ℕ) → AllByRecursion (λ n. below ls lo n ≡ true) ns
      → ChangesAmong seen ns a b → NoWriteDown seen ls hi lo a b
  among_changes_high ls hi lo ns high h = record {
    reads = λ m u. h.reads m tt;
    changes = λ m out. h.changes m
        (none_above ls lo m ns high out);
  }

  pub at_changes_among : (n : ℕ) (ns : List ℕ) → IsAmong n ns → ChangesAt seen n a b → ChangesAmong seen ns a b
  at_changes_among n ns here h = record {
    reads = h.reads;
    changes = λ m out. h.changes m
        (λ e. out (subst (λ k. IsAmong k ns) (sym e) here));
  }

  -- between wider ends
  pub no_down_wider : (ls : Labels) (h l hi lo : ℕ) → below ls h hi ≡ true → below ls lo l ≡ true
      → NoWriteDown seen ls h l a b → NoWriteDown seen ls hi lo a b
  no_down_wider ls h l hi lo low high k = record {
    reads = λ m out. k.reads m (not_lower ls h hi m low out);
    changes =
        λ m out. k.changes m (not_higher ls lo l m high out);
  }
