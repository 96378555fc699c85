-- A write and the entities that it does not name.
use Rattle.std.proofs.Common.{◌≡◌, ℕ, true, false, cond, not, ◌&&◌, List, [], Option, Some, None, refl, sym, ap, ◌∙◌, nat_eq, option_map, unwrap_or, true≢false}
use Rattle.std.specs.FinMap.{get, insert, retain_keys}
use Rattle.mls_lattice.specs.Labels.{Labels, below}
use Rattle.mls_scheme.specs.declared.tuple.Element.{Element}
use Rattle.mls_scheme.specs.declared.place.Place.{Place}
use Rattle.mls_scheme.specs.Table.{Table, change}
use Rattle.mls_scheme.specs.Scheme.{Scheme}
use Rattle.mls_scheme.proofs.TableLemmas.{get_kept, get_change}
use Rattle.mls_scheme.proofs.OrderLemmas.{is_place-same}
use Rattle.mls_filterview.specs.Stored.{is_entity}
use Rattle.mls_updates.specs.declared.outcome.Outcome.{Outcome}
use Rattle.mls_updates.specs.Outcome.{is_done}
use Rattle.mls_updates.specs.Writes.{Sets, Write, Insert, Update, Delete, written, named, place, is_above, derived, update_in, updated, changed, write}
use Rattle.mls_updates.proofs.ChangeLemmas.{get_old}

same_option : {A : Type 0} (f : A → A) (o : Option A) → ((x : A) → f x ≡ x) → option_map f o ≡ o
same_option f None h = refl
same_option f (Some x) h = ap Some (h x)

module _ (T : Table) (p q : Place) (out : is_entity p q ≡ false) where
  inserted : (es : List Element) → get T q ≡ get (insert T p es) q
  inserted es = sym (get_old T p es q (λ e. true≢false
      (sym (is_place-same p (record { key = q.key; key_class = q.key_class; class = p.class })
      (λ i. record { key = (sym e i).key; key_class = (sym e i).key_class; class = p.class })) ∙ out)))

  changed_only : (sets : Sets) → get T q ≡ get (change (update_in p sets) T) q
  changed_only sets = sym (get_change (update_in p sets) T q ∙ same_option (update_in p sets q) (get T q)
      (λ es. ap (λ b. cond b (updated p.class sets es) es) out))

  removed : (ls : Labels) → get T q ≡ get (retain_keys T (λ r. not (is_above ls p r))) q
  removed ls = sym (get_kept T (λ r. not (is_above ls p r)) q ∙ ap (λ b. cond (not (b && below ls p.class q.class))
      (get T q) None) out)

  -- whether the write is done or not
  by_outcome : (o : Outcome) (new : Table) → get T q ≡ get new q → get T q ≡ get (written o new T).table q
  by_outcome o new same = elim (is_done o) as (λ b. get T q ≡ get (cond b new T) q) [ true ↦ same | false ↦ refl ]

pub other_entities : (ls : Labels) (scheme : Scheme) (w : ℕ) (T : Table) (wr : Write) (q : Place)
    → is_entity (named w wr) q ≡ false → get T q ≡ get (write ls scheme w wr T).table q
other_entities ls scheme w T wr q out = by_outcome T (named w wr) q out _ _ (same wr out)
  where
    same : (wr : Write) → is_entity (named w wr) q ≡ false → get T q ≡ get (changed ls scheme w wr T) q
    same (Insert key values) out = inserted T (place key w w) q out _
    same (Update key key_class from sets) out =
        let p = place key key_class w in
        elim (nat_eq from w) as (λ b. get T q ≡ get (cond b (change (update_in p sets) T)
        (insert T p (derived w sets (unwrap_or (get T (place key key_class from)) [])))) q) [
          | true ↦ changed_only T p q out sets
          | false ↦ inserted T p q out _
        ]
    same (Delete key key_class) out = removed T (place key key_class w) q out ls
