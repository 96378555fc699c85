-- A write and the tuples of classes that a level dominates.
use Rattle.std.proofs.Common.{◌≡◌, ℕ, ◌<◌, Bool, true, false, cond, not, List, [], ◌∷◌, length, Option, Some, None, refl, sym, ap, ◌∙◌, subst, inl, inr, is_some, nat_eq, ◌⊎◌, option_map, unwrap_or, true≢false, ne_eqb, ext_get_or}
use Rattle.std.specs.FinMap.{get, insert, retain_keys}
use Rattle.std.proofs.lemmas.Bool.{cases_Bool, false_from_ne_true, and_parts, and_right, not_from_false}
use Rattle.mls_lattice.specs.Labels.{Labels, below}
use Rattle.mls_lattice.proofs.LatticeLemmas.{below-trans}
use Rattle.mls_scheme.specs.declared.tuple.Element.{Element}
use Rattle.mls_scheme.specs.Tuple.{at, null_element}
use Rattle.mls_scheme.specs.Table.{Table, change}
use Rattle.mls_scheme.specs.declared.place.Place.{Place}
use Rattle.mls_scheme.specs.Scheme.{Scheme}
use Rattle.mls_scheme.proofs.OrderLemmas.{is_place, is_place-true}
use Rattle.mls_scheme.proofs.TableLemmas.{same_table, get_put, get_kept, get_change}
use Rattle.mls_filterview.specs.View.{low}
use Rattle.mls_filterview.specs.Stored.{IsStored, is_entity}
use Rattle.mls_filterview.proofs.LowLemmas.{get_low, get_low_in, same_low}
use Rattle.mls_updates.specs.declared.outcome.Outcome.{Outcome}
use Rattle.mls_updates.specs.declared.outcome.Outcome.TheVariants.{KeyNull, NoTuple}
use Rattle.mls_updates.specs.Outcome.{is_done}
use Rattle.mls_updates.specs.Writes.{Key, Sets, Write, Insert, Update, Delete, Written, first_refusal, written, has_null, is_missing, place, is_above, root, derived, updated, update_in, root_refusals, own_refusals, below_refusals, drop_refusals, changed, outcome_of, write}
use Rattle.mls_updates.proofs.SetLemmas.{length-updated, updated_other}
use Rattle.mls_updates.proofs.ChangeLemmas.{get_old}

-- ---- the changes of a low table

low_insert : (ls : Labels) (c : ℕ) (T : Table) (p : Place) (es : List Element) → below ls p.class c ≡ true
    → low ls c (insert T p es) ≡ insert (low ls c T) p es
low_insert ls c T p es h = same_table _ _ (λ q.
    get_low ls c (insert T p es) q
    ∙ ap (λ o. cond (below ls q.class c) o None) (get_put T p es q)
    ∙ elim (is_place q p) as (λ b. is_place q p ≡ b → cond (below ls q.class c) (cond b (Some es) (get T q)) None
    ≡ cond b (Some es) (cond (below ls q.class c) (get T q) None)) [
      | true ↦ λ e. ap (λ b. cond b (Some es) None) (ap (λ r. below ls r.class c) (is_place-true q p e) ∙ h)
      | false ↦ λ e. refl
    ] refl
    ∙ ap (λ o. cond (is_place q p) (Some es) o) (sym (get_low ls c T q))
    ∙ sym (get_put (low ls c T) p es q))

low_change : (ls : Labels) (c : ℕ) (T : Table) (f : Place → List Element → List Element) → low ls c (change f T)
    ≡ change f (low ls c T)
low_change ls c T f = same_table _ _ (λ q.
    get_low ls c (change f T) q
    ∙ ap (λ o. cond (below ls q.class c) o None) (get_change f T q)
    ∙ elim (below ls q.class c) as (λ b. cond b (option_map (f q) (get T q)) None ≡ option_map (f q)
    (cond b (get T q) None)) [ true ↦ refl | false ↦ refl ]
    ∙ ap (option_map (f q)) (sym (get_low ls c T q))
    ∙ sym (get_change f (low ls c T) q))

-- two filters in either order
both_filters : (a b : Bool) (o : Option (List Element)) → cond a (cond b o None) None ≡ cond b (cond a o None) None
both_filters true b o = refl
both_filters false true o = refl
both_filters false false o = refl

low_kept : (ls : Labels) (c : ℕ) (T : Table) (test : Place → Bool) → low ls c (retain_keys T test)
    ≡ retain_keys (low ls c T) test
low_kept ls c T test = same_table _ _ (λ q.
    get_low ls c (retain_keys T test) q
    ∙ ap (λ o. cond (below ls q.class c) o None) (get_kept T test q)
    ∙ both_filters (below ls q.class c) (test q) (get T q)
    ∙ ap (λ o. cond (test q) o None) (sym (get_low ls c T q))
    ∙ sym (get_kept (low ls c T) test q))

-- ---- a write at a label that c dominates

-- what is left of a write's result for c
abbrev pub low_written : Labels → ℕ → Written → Written
low_written ls c r = record { table = low ls c r.table; outcome = r.outcome }

low_if : (ls : Labels) (c : ℕ) (b : Bool) (S T : Table) → cond b (low ls c S) (low ls c T) ≡ low ls c (cond b S T)
low_if ls c true S T = refl
low_if ls c false S T = refl

low_done : (ls : Labels) (c : ℕ) (o p : Outcome) (S R T : Table) → o ≡ p → S ≡ low ls c R → written o S (low ls c T)
    ≡ low_written ls c (written p R T)
low_done ls c o p S R T e h = λ i. record {
  table = ((λ j. cond (is_done (e j)) (h j) (low ls c T)) ∙ low_if ls c
      (is_done p) R T) i;
  outcome = e i;
}

-- where the second condition holds no later one is asked
second_refusal : (a b : Bool) (o p : Outcome) (rs : List (Bool × Outcome)) → b ≡ true
    → first_refusal ((a, o) ∷ (b, p) ∷ rs) ≡ cond a o p
unfolding first_refusal
second_refusal a b o p rs h = ap (λ x. cond a o (cond x p (first_refusal rs))) h

undone : (b : Bool) (S R : Table) → written (cond b KeyNull NoTuple) S R ≡ record {
  table = R;
  outcome =
      cond b KeyNull NoTuple;
}
undone true S R = refl
undone false S R = refl

module _ (ls : Labels) (scheme : Scheme) (c w : ℕ) (h : below ls w c ≡ true) (T : Table) where
  module _ (key : Key) (key_class from : ℕ) (sets : Sets) where
    abbrev p : Place
    p = place key key_class w

    abbrev q : Place
    q = place key key_class from

    abbrev outcome : Option (List Element) → Option (List Element) → Outcome
    outcome found own = outcome_of key (below_refusals ls scheme w key_class from sets found own)

    -- an update, of the tuple of class w or of a lower one
    abbrev update_by : Bool → Table → Written
    update_by b U =
        written (outcome_of key (cond b (own_refusals ls scheme w key_class sets (get U p))
        (below_refusals ls scheme w key_class from sets (get U q) (get U p))))
        (cond b (change (update_in p sets) U) (insert U p (derived w sets (unwrap_or (get U q) [])))) U

    -- a tuple of a class that w does not dominate is not found
    refused : below ls from w ≡ false → (S R : Table) (found own : Option (List Element))
        → written (outcome found own) S R ≡ record { table = R; outcome = cond (has_null key) KeyNull NoTuple }
    refused out S R found own =
        let missing : is_missing ls scheme w key_class from found ≡ true = not_from_false _ (and_right (is_some found) _
        (and_right (below ls key_class from) _ out)) in
        ap (λ o. written o S R) (second_refusal (has_null key) _ KeyNull NoTuple _ missing) ∙ undone (has_null key) S R

    by_from : (below ls from w ≡ true) ⊎ (below ls from w ≡ false) → update_by false (low ls c T) ≡ low_written ls c
        (update_by false T)
    by_from (inl b) =
        let found : get (low ls c T) q ≡ get T q = get_low_in ls c T q (below-trans ls from w c b h) in
        low_done ls c _ _ _ (insert T p (derived w sets (unwrap_or (get T q) []))) T
        (λ i. outcome (found i) (get_low_in ls c T p h i))
        (ap (λ o. insert (low ls c T) p (derived w sets (unwrap_or o []))) found
        ∙ sym (low_insert ls c T p (derived w sets (unwrap_or (get T q) [])) h))
    by_from (inr b) = refused b _ _ _ _ ∙ sym (ap (low_written ls c) (refused b _ _ _ _))

    update_low : (b : Bool) → update_by b (low ls c T) ≡ low_written ls c (update_by b T)
    update_low true =
        low_done ls c _ _ _ (change (update_in p sets) T) T
        (ap (λ o. outcome_of key (own_refusals ls scheme w key_class sets o)) (get_low_in ls c T p h))
        (sym (low_change ls c T (update_in p sets)))
    update_low false = by_from (cases_Bool (below ls from w))

-- its outcome, and what c then may see, are those of the same write on what c may see
pub write-low : (ls : Labels) (scheme : Scheme) (c w : ℕ) → below ls w c ≡ true → (T : Table) (wr : Write)
    → write ls scheme w wr (low ls c T) ≡ low_written ls c (write ls scheme w wr T)
write-low ls scheme c w h T (Insert key values) =
    let p = place key w w in
    low_done ls c _ _ _ (insert T p (root w values)) T
    (ap (λ o. outcome_of key (root_refusals ls scheme w o)) (get_low_in ls c T p h))
    (sym (low_insert ls c T p (root w values) h))
write-low ls scheme c w h T (Update key key_class from sets) = update_low ls scheme c w h T key key_class from sets
    (nat_eq from w)
write-low ls scheme c w h T (Delete key key_class) =
    let p = place key key_class w in
    low_done ls c _ _ _ (retain_keys T (λ q. not (is_above ls p q))) T
    (ap (λ o. outcome_of key (drop_refusals ls scheme w key_class o)) (get_low_in ls c T p h))
    (sym (low_kept ls c T (λ q. not (is_above ls p q))))

-- ---- a write at a label that c does not dominate

module _ (ls : Labels) (c w : ℕ) (out : below ls w c ≡ false) where
  -- what dominates w is not dominated by c
  not_seen : (m : ℕ) → below ls w m ≡ true → below ls m c ≡ true → ⊥
  not_seen m a b = true≢false (sym (below-trans ls w m c a b) ∙ out)

  high_insert : (T : Table) (p : Place) (es : List Element) → p.class ≡ w → low ls c (insert T p es) ≡ low ls c T
  high_insert T p es e = same_low ls c _ _ (λ q h.
      get_old T p es q (λ s. true≢false (sym h ∙ ap (λ m. below ls m c) (ap (λ r. r.class) s ∙ e) ∙ out)))

  high_kept : (T : Table) (p : Place) → p.class ≡ w → low ls c (retain_keys T (λ q. not (is_above ls p q))) ≡ low ls c T
  high_kept T p e = same_low ls c _ _ (λ q h.
      get_kept T (λ q. not (is_above ls p q)) q
      ∙ ap (λ b. cond (not b) (get T q) None) (false_from_ne_true (is_above ls p q)
      (λ t. not_seen q.class (ap (λ m. below ls m q.class) (sym e) ∙ (and_parts _ _ t).1) h)))

  -- there is no element of class w
  unchanged : (sets : Sets) (es : List Element) → ((i : ℕ) → i < length es → (at es i).class ≡ w → ⊥)
      → updated w sets es ≡ es
  unchanged sets es none = ext_get_or null_element (updated w sets es) es (length-updated w sets es) (λ i l.
      let l' : i < length es = subst (λ k. i < k) (length-updated w sets es) l in
      updated_other w sets es i l' (ne_eqb _ _ (none i l')))

  high_change : (n : ℕ) (T : Table) → IsStored ls n T → (p : Place) → p.class ≡ w → (sets : Sets)
      → low ls c (change (update_in p sets) T) ≡ low ls c T
  high_change n T stored p e sets = same_low ls c _ _ (λ q h. get_change (update_in p sets) T q
      ∙ same q h (get T q) refl)
    where
      same : (q : Place) → below ls q.class c ≡ true → (o : Option (List Element)) → get T q ≡ o
          → option_map (update_in p sets q) o ≡ o
      same q h None f = refl
      same q h (Some es) f =
          let stays : updated p.class sets es ≡ es = ap (λ m. updated m sets es) e ∙ unchanged sets es
          (λ i l s. not_seen q.class ((stored q es f).greatest w (inr (i, l, sym s))) h) in
          ap Some (elim (is_entity p q) as (λ b. cond b (updated p.class sets es) es
          ≡ es) [ true ↦ stays | false ↦ refl ])

  high_if : (b : Bool) (S T : Table) → low ls c S ≡ low ls c T → low ls c (cond b S T) ≡ low ls c T
  high_if true S T e = e
  high_if false S T e = refl

  changed-high : (scheme : Scheme) (n : ℕ) (T : Table) → IsStored ls n T → (wr : Write)
      → low ls c (changed ls scheme w wr T) ≡ low ls c T
  changed-high scheme n T stored (Insert key values) = high_insert T (place key w w) (root w values) refl
  changed-high scheme n T stored (Update key key_class from sets) =
      let p = place key key_class w in
      elim (nat_eq from w) as (λ b. low ls c (cond b (change (update_in p sets) T)
      (insert T p (derived w sets (unwrap_or (get T (place key key_class from)) [])))) ≡ low ls c T) [
        | true ↦ high_change n T stored p refl sets
        | false ↦ high_insert T p _ refl
      ]
  changed-high scheme n T stored (Delete key key_class) = high_kept T (place key key_class w) refl

  -- it leaves what c may see
  pub write-high : (scheme : Scheme) (n : ℕ) (T : Table) → IsStored ls n T → (wr : Write)
      → low ls c (write ls scheme w wr T).table ≡ low ls c T
  write-high scheme n T stored wr = high_if _ _ T (changed-high scheme n T stored wr)
