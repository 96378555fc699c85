-- Kept views over a base: after one is taken or kept, after a call that left the database, and after a write.
use Rattle.std.proofs.Common.{◌≡◌, ℕ, ◌<◌, Bool, true, false, cond, List, length, refl, sym, ap, ◌∙◌, subst, eqb-true, ◌&&◌, nat_eq}
use Rattle.std.specs.FinMap.{get}
use Rattle.std.specs.Map.{remove_entry}
use Rattle.std.specs.Cmp.{nat_eq_equiv}
use Rattle.mls_lattice.specs.Labels.{Labels, below}
use Rattle.mls_lattice.specs.Policy.{Policy, labels_of}
use Rattle.mls_scheme.specs.declared.tuple.Tuple.{Tuple}
use Rattle.mls_scheme.specs.Table.{Table, Database}
use Rattle.mls_scheme.specs.Scheme.{Scheme}
use Rattle.mls_filterview.specs.Content.{Seen, State, with_table}
use Rattle.mls_filterview.specs.Entities.{AgreeOutside}
use Rattle.mls_filterview.specs.Stored.{IsStored}
use Rattle.mls_filterview.specs.View.{low, rows}
use Rattle.mls_updates.specs.declared.outcome.Outcome.{Outcome}
use Rattle.mls_updates.specs.Outcome.{is_done}
use Rattle.mls_updates.specs.Writes.{Write, named, changed, write}
use Rattle.mls_updates.specs.Calls.{IsWritten}
use Rattle.mls_updates.proofs.LawLemmas.{high_leave_low, change_one_entity}
use Rattle.mls_queries.specs.Views.{Kept, AreRows, AreViews, AreLeftBy, is_view, put_view}
use Rattle.mls_queries.proofs.KeptLemmas.{removed_most, removed_declared, removed_rows, put_most, put_declared, put_rows, followed_most, followed_declared, followed_rows}

-- ---- a write that is refused

pub table_left : (ls : Labels) (scheme : Scheme) (w : ℕ) (T : Table) (wr : Write)
    → is_done (write ls scheme w wr T).outcome ≡ false → (write ls scheme w wr T).table ≡ T
table_left ls scheme w T wr h = ap (λ b. cond b (changed ls scheme w wr T) T) h

-- ---- a database with one relation changed

-- a relation that is put back is as it was
pub same_relation : (db : Database) (relation : ℕ) (T : Table) → T ≡ db relation → (r : ℕ) → with_table db relation T r
    ≡ db r
same_relation db relation T same r = by_test (nat_eq r relation) refl
  where
    by_test : (b : Bool) → nat_eq r relation ≡ b → cond b T (db r) ≡ db r
    by_test true e = same ∙ ap db (sym (eqb-true r relation e))
    by_test false e = refl

-- a test that fails at the relation itself fails by its other part
other_part : (relation r : ℕ) (b : Bool) → r ≡ relation → (nat_eq relation r && b) ≡ false → b ≡ false
other_part relation r b e h = sym (ap (λ x. x && b) (nat_eq_equiv.refl relation)) ∙ ap (λ x. nat_eq relation x && b)
    (sym e) ∙ h

-- ---- over a base

module _ {B : Type 0} (policy : Policy) (seen : B → Seen) where
  abbrev ls : Labels
  ls = labels_of policy

  -- after a call that left the database
  pub kept_same : (a c : B) (es : Kept) → ((seen c).is_clean → (seen a).is_clean)
      → ((seen c).is_clean → (seen c).state.now.db ≡ (seen a).state.now.db) → AreViews policy seen a es
      → AreViews policy seen c es
  kept_same a c es clean same h = record {
    most = h.most;
    declared = h.declared;
    rows = λ k. subst (λ db. AreRows ls db es) (sym (same k)) (h.rows (clean k));
  }

  -- after the view of a relation at a label was taken out
  pub kept_taken : (a : B) (relation label : ℕ) (es new : Kept) → new ≡ remove_entry (is_view relation label) es
      → AreViews policy seen a es → AreViews policy seen a new
  kept_taken a relation label es new is h = subst (AreViews policy seen a) (sym is) (record {
    most = removed_most relation label es h.most;
    declared = removed_declared (length policy.labels) relation label es h.declared;
    rows = λ k. removed_rows ls (seen a).state.now.db relation label es (h.rows k);
  })

  -- with one view more
  pub kept_put : (a : B) (relation label : ℕ) (tuples : List Tuple) (es : Kept) → label < length policy.labels
      → ((seen a).is_clean → tuples ≡ rows ls label ((seen a).state.now.db relation))
      → AreViews policy seen a es → AreViews policy seen a (put_view relation label tuples es)
  kept_put a relation label tuples es within is h = record {
    most = put_most relation label tuples es h.most;
    declared = put_declared (length policy.labels) relation label tuples es within h.declared;
    rows = λ k. put_rows ls (seen a).state.now.db relation label tuples es (is k) (h.rows k);
  }

  -- after a write
  module _ (scheme : Scheme) (n relation w : ℕ) (wr : Write) (a c : B) (o : Outcome) (es left : Kept)
      (clean : (seen c).is_clean → (seen a).is_clean)
      (stored : (seen c).is_clean → IsStored ls n ((seen a).state.now.db relation)) (is : (seen c).is_clean
      → IsWritten ls scheme relation w wr (seen a).state (seen c).state o)
      (within : (named w wr).key_class < length policy.labels) (h : AreViews policy seen a es) where
    abbrev db : Database
    db = (seen a).state.now.db

    -- the relation's table after the write
    abbrev new : Table
    new = (write ls scheme w wr (db relation)).table

    written_db : (seen c).is_clean → (seen c).state.now.db ≡ with_table db relation new
    written_db k = ap (λ (s : State). s.now.db) (is k).state

    -- a label sees another table only of the relation, where it dominates that of the write
    unseen : (seen c).is_clean → (d r : ℕ) → (nat_eq relation r && below ls w d) ≡ false → low ls d (db r)
        ≡ low ls d (with_table db relation new r)
    unseen k d r out = by_test (nat_eq r relation) refl
      where
        by_test : (b : Bool) → nat_eq r relation ≡ b → low ls d (db r) ≡ low ls d (cond b new (db r))
        by_test true e =
            let same = eqb-true r relation e in
            ap (λ x. low ls d (db x)) same ∙ sym (high_leave_low ls scheme n d w (db relation) (stored k) wr
            (other_part relation r (below ls w d) same out))
        by_test false e = refl

    -- all other entities are as they were
    agree : (seen c).is_clean → (r : ℕ) → AgreeOutside (named w wr) (db r) ((seen c).state.now.db r)
    agree k r q out = by_test (nat_eq r relation) refl ∙ ap (λ (s : Database). get (s r) q) (sym (written_db k))
      where
        by_test : (b : Bool) → nat_eq r relation ≡ b → get (db r) q ≡ get (cond b new (db r)) q
        by_test true e = ap (λ x. get (db x) q) (eqb-true r relation e) ∙ change_one_entity ls scheme w
            (db relation) wr q out
        by_test false e = refl

    by_outcome : (b : Bool) → is_done o ≡ b → AreLeftBy ls relation w (named w wr) o es left
        → AreViews policy seen c left
    by_outcome true done f =
        let followed = f.done done in
        record {
          most = followed_most ls relation w (named w wr) es left followed h.most;
          declared = followed_declared (length policy.labels) ls relation w
              (named w wr) es left within followed h.declared;
          rows = λ k. followed_rows ls relation w (named w wr) db (seen c).state.now.db
              (λ d r out. unseen k d r out ∙ ap (λ (s : Database). low ls d (s r)) (sym (written_db k)))
              (agree k) es left followed (h.rows (clean k));
        }
    by_outcome false refused f = subst (AreViews policy seen c) (sym (f.refused refused)) (
        kept_same a c es clean
        (λ k. (let same = same_relation db relation new (table_left ls scheme w (db relation) wr
        (ap is_done (sym (is k).outcome) ∙ refused)) in written_db k ∙ (λ i r. same r i))) h)

    written_by : AreLeftBy ls relation w (named w wr) o es left → AreViews policy seen c left
    written_by = by_outcome (is_done o) refl

  pub kept_written : (scheme : Scheme) (n relation w : ℕ) (wr : Write) (a c : B) (o : Outcome) (es left : Kept)
      → ((seen c).is_clean → (seen a).is_clean)
      → ((seen c).is_clean → IsStored (labels_of policy) n ((seen a).state.now.db relation))
      → ((seen c).is_clean → IsWritten (labels_of policy) scheme relation w wr (seen a).state (seen c).state o)
      → (named w wr).key_class < length policy.labels
      → AreViews policy seen a es → AreLeftBy (labels_of policy) relation w (named w wr) o es left
      → AreViews policy seen c left
  kept_written scheme n relation w wr a c o es left clean stored is within h =
      written_by scheme n relation w wr a c o es left clean stored is within h
