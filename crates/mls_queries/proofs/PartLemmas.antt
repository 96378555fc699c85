-- The parts of the entities of one key, put together.
use Rattle.std.proofs.Common.{◌≡◌, ◌+◌, ◌<◌, ℕ, Bool, true, false, cond, List, ◌++◌, length, Some, None, refl, sym, ap, ◌∙◌, inl, inr, arith, ◌⊎◌, true≢false}
use Rattle.std.specs.FinMap.{get}
use Rattle.std.proofs.lemmas.Bool.{cases_lt}
use Rattle.std.proofs.lemmas.Option.{none-some}
use Rattle.mls_lattice.specs.Labels.{Labels, below}
use Rattle.mls_lattice.proofs.LatticeLemmas.{below-trans, below-refl}
use Rattle.mls_scheme.specs.declared.value.Value.{Value}
use Rattle.mls_scheme.specs.declared.place.Place.{Place}
use Rattle.mls_scheme.specs.Table.{Table}
use Rattle.mls_scheme.proofs.TableLemmas.{same_table}
use Rattle.mls_filterview.specs.declared.fragment.Node.{Node}
use Rattle.mls_filterview.specs.declared.fragment.Cell.{Cell}
use Rattle.mls_filterview.specs.View.{low, rows}
use Rattle.mls_filterview.specs.Stored.{IsStored, IsStoredTuple, with_class}
use Rattle.mls_filterview.specs.Assembly.{AreOf, AreLow, IsLowEntry}
use Rattle.mls_filterview.proofs.EntryLemmas.{Entry}
use Rattle.mls_filterview.proofs.LowLemmas.{get_low, get_low_in, rows_under}
use Rattle.mls_filterview.proofs.MovedLemmas.{moved}
use Rattle.mls_filterview.proofs.PartLemmas.{parts_more, parts_same, OfEntity, own_class, own_key_class, over_key, in_those, those_have, those_stored}
use Rattle.mls_queries.specs.Query.{is_key}
use Rattle.mls_queries.specs.Demanded.{of_key}
use Rattle.mls_queries.proofs.TopLemmas.{same_key, key_same}

-- ---- key class by key class

module _ (ls : Labels) (T : Table) (c : ℕ) (values : List Value) where
  -- a tuple of the key with these values and a key class below k, of a class that c dominates
  pub record IsOfKey (k : ℕ) (e : Entry) : Type 0 where
    pub has : get T e.0 ≡ Some e.1
    pub key : e.0.key ≡ values
    pub key_class : e.0.key_class < k
    pub low : below ls e.0.class c ≡ true

module _ (ls : Labels) (T : Table) (c : ℕ) (key : List Value) where
  abbrev OfKey : ℕ → Entry → Type 0
  OfKey k = IsOfKey ls T c key k

  module _ (n : ℕ) (stored : IsStored ls n T) where
    -- a key class that c doesn't dominate adds nothing
    pub key_skipped : (k : ℕ) (ns : List Node) (ds : List Cell) → below ls k c ≡ false → AreOf (OfKey k) ns ds
        → AreOf (OfKey (k + 1)) ns ds
    key_skipped k ns ds out = parts_same (OfKey k) (OfKey (k + 1)) to from ns ds
      where
        to : (e : Entry) → OfKey k e → OfKey (k + 1) e
        to e h = let l = h.key_class in record { has = h.has; key = h.key; key_class = omega (arith, l); low = h.low }

        from : (e : Entry) → OfKey (k + 1) e → OfKey k e
        from e h =
            let l = h.key_class in
            elim (cases_lt e.0.key_class k) [
              | inl less ↦ record { has = h.has; key = h.key; key_class = less; low = h.low }
              | inr more ↦ (
                  let q : e.0.key_class ≡ k = omega (arith, l, more) in
                  absurd (true≢false (sym (below-trans ls e.0.key_class e.0.class c
                  (over_key ls T c key n stored e h.has) h.low) ∙ ap (λ m. below ls m c) q ∙ out))
                  )
            ]

    -- one that it dominates adds its entity
    pub key_more : (k : ℕ) (ns ms : List Node) (ds cs : List Cell) → AreOf (OfEntity ls T c key k (length ls)) ms cs
        → AreOf (OfKey k) ns ds → AreOf (OfKey (k + 1)) (ns ++ ms) (ds ++ cs)
    key_more k ns ms ds cs b a = parts_more (OfKey k) (OfEntity ls T c key k (length ls))
        (OfKey (k + 1)) first second each ns ms ds cs a b
      where
        first : (e : Entry) → OfKey k e → OfKey (k + 1) e
        first e h = let l = h.key_class in record {
          has = h.has;
          key = h.key;
          key_class = omega (arith, l);
          low = h.low;
        }

        second : (e : Entry) → OfEntity ls T c key k (length ls) e → OfKey (k + 1) e
        second e h = let q = h.key_class in record {
          has = h.has;
          key = h.key;
          key_class = omega (arith, q);
          low = h.low;
        }

        each : (e : Entry) → OfKey (k + 1) e → OfKey k e ⊎ OfEntity ls T c key k (length ls) e
        each e h =
            let l = h.key_class in
            elim (cases_lt e.0.key_class k) [
              | inl less ↦ inl (record { has = h.has; key = h.key; key_class = less; low = h.low })
              | inr more ↦ inr (record {
                has = h.has;
                key = h.key;
                key_class = omega (arith, l, more);
                class =
                    own_class ls T c key n stored e h.has;
                low = h.low;
              })
            ]

    -- all of them are the parts of the low tuples of the key
    pub key_parts_low : (ns : List Node) (ds : List Cell) → AreOf (OfKey (length ls)) ns ds
        → AreLow ls (of_key key T) c (length ls) ns ds
    key_parts_low ns ds = parts_same (OfKey (length ls)) (IsLowEntry ls (of_key key T) c (length ls)) to from ns ds
      where
        to : (e : Entry) → OfKey (length ls) e → IsLowEntry ls (of_key key T) c (length ls) e
        to e h = (
          those_have T (λ values key_class. is_key values key) e.0 e.1 h.has (key_same e.0.key key h.key),
          own_class ls T c key n stored e h.has,
          h.low,
        )

        from : (e : Entry) → IsLowEntry ls (of_key key T) c (length ls) e → OfKey (length ls) e
        from e h = let g = in_those T (λ values key_class. is_key values key) e.0 e.1 h.0
            in record {
              has = g.0;
              key = same_key e.0.key key g.1;
              key_class = own_key_class ls T c key n stored e g.0;
              low = h.2;
            }

    -- the tuples of a key are of the stored form
    pub of_key_stored : IsStored ls n (of_key key T)
    of_key_stored = those_stored T (λ values key_class. is_key values key) ls n stored

-- ---- the low tuples alone

pub low_stored : (ls : Labels) (n c : ℕ) (T : Table) → IsStored ls n T → IsStored ls n (low ls c T)
low_stored ls n c T stored p es g =
    elim (below ls p.class c) as (λ b. below ls p.class c ≡ b → cond b (get T p) None ≡ Some es
    → IsStoredTuple ls n (low ls c T) p es) [
      | true ↦ λ b k. (
          let st = stored p es k in
          moved ls n T (low ls c T) p es st (λ m fs o g. get_low_in ls c T (with_class p m) (below-trans ls m p.class c
          (st.greatest m o) b) ∙ g))
      | false ↦ λ b k. absurd (none-some es k)
    ] refl (sym (get_low ls c T p) ∙ g)

pub rows_of_low : (ls : Labels) (c : ℕ) (T : Table) → rows ls c (low ls c T) ≡ rows ls c T
rows_of_low ls c T = rows_under ls c c (low ls c T) T (same_table _ _ (λ p. get_low ls c (low ls c T) p ∙ twice p
    ∙ sym (get_low ls c T p))) (below-refl ls c)
  where
    twice : (p : Place) → cond (below ls p.class c) (get (low ls c T) p) None ≡ cond (below ls p.class c) (get T p) None
    twice p = ap (λ o. cond (below ls p.class c) o None) (get_low ls c T p) ∙ once (below ls p.class c)
      where
        once : (b : Bool) → cond b (cond b (get T p) None) None ≡ cond b (get T p) None
        once true = refl
        once false = refl
