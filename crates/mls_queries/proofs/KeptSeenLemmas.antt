-- A view and the entities that were written since: after one more, and after one is mended.
use Rattle.std.proofs.Common.{◌≡◌, ℕ, Bool, true, false, cond, not, ◌||◌, List, [], ◌∷◌, ◌++◌, refl, sym, ap, ◌∙◌, append_assoc, filter, true≢false}
use Rattle.std.specs.List.{list_any}
use Rattle.mls_lattice.specs.Labels.{Labels}
use Rattle.mls_lattice.proofs.EachLemmas.{all}
use Rattle.mls_scheme.specs.declared.place.Place.{Place}
use Rattle.mls_scheme.specs.declared.tuple.Tuple.{Tuple}
use Rattle.mls_scheme.specs.Table.{Table, place_of}
use Rattle.mls_filterview.specs.Entities.{of_entity, is_of, is_before, is_behind, mended}
use Rattle.mls_filterview.specs.Stored.{is_entity}
use Rattle.mls_filterview.specs.View.{rows}
use Rattle.mls_filterview.proofs.FilteredLemmas.{filter_append, filter_where, within_filter}
use Rattle.mls_filterview.proofs.MendLemmas.{before_other, behind_other, own_rows, rows_in_three}
use Rattle.mls_filterview.proofs.PartLemmas.{same_entity, entity_same_as}
use Rattle.mls_queries.specs.Views.{KeptView, is_outside, AgreesWith, noted}

-- ---- an entity more

or_left : (a b : Bool) → (a || b) ≡ false → a ≡ false
or_left true b h = h
or_left false b h = refl

or_right : (a b : Bool) → (a || b) ≡ false → b ≡ false
or_right true b h = absurd (true≢false h)
or_right false b h = h

not_true : (b : Bool) → not b ≡ true → b ≡ false
not_true true h = sym h
not_true false h = refl

any_append : {A : Type 0} (p : A → Bool) (xs ys : List A) → list_any p (xs ++ ys) ≡ (list_any p xs || list_any p ys)
any_append p [] ys = refl
any_append p (x ∷ xs) ys = ap (λ b. p x || b) (any_append p xs ys) ∙ grouped (p x) (list_any p xs) (list_any p ys)
  where
    grouped : (a b c : Bool) → (a || (b || c)) ≡ ((a || b) || c)
    grouped true b c = refl
    grouped false b c = refl

-- a tuple that is outside of these entities is not of one that is among them
not_among : (p : Place) (ps : List Place) (t : Tuple) → list_any (is_entity p) ps ≡ true → list_any (λ q. is_of q t) ps
    ≡ false → is_of p t ≡ false
not_among p [] t h out = absurd (true≢false (sym h))
not_among p (q ∷ ps) t h out = elim (is_entity p q) as (λ b. is_entity p q ≡ b → (b || list_any (is_entity p) ps) ≡ true
    → is_of p t ≡ false) [
      | true ↦ λ same k. other (is_of p t) refl same
      | false ↦ λ same k. not_among p ps t k (or_right (is_of q t) (list_any (λ r. is_of r t) ps) out)
    ] refl h
  where
    other : (b : Bool) → is_of p t ≡ b → is_entity p q ≡ true → b ≡ false
    other true own same =
        let a = same_entity p q same in
        let o = same_entity p (place_of 0 t) own in
        sym (entity_same_as q (place_of 0 t) (sym a.0 ∙ o.0) (sym a.1 ∙ o.1)) ∙ or_left (is_of q t)
        (list_any (λ r. is_of r t) ps) out
    other false own same = refl

module _ (p : Place) (old new : List Tuple) (others : filter (λ t. not (is_of p t)) new
    ≡ filter (λ t. not (is_of p t)) old) (v : KeptView) (agrees : AgreesWith old v) where
  -- outside of more entities, that of p among them
  more : (ws : List Place) → ((t : Tuple) → is_outside ws t ≡ true → is_outside v.written t ≡ true)
      → ((t : Tuple) → is_outside ws t ≡ true → not (is_of p t) ≡ true)
      → filter (is_outside ws) v.tuples ≡ filter (is_outside ws) new
  more ws fewer apart =
      sym (filter_where (is_outside ws) (is_outside v.written) v.tuples (all _ fewer v.tuples))
      ∙ ap (filter (is_outside ws)) agrees
      ∙ filter_where (is_outside ws) (is_outside v.written) old (all _ fewer old)
      ∙ sym (filter_where (is_outside ws) (λ t. not (is_of p t)) old (all _ apart old)) ∙ ap (filter (is_outside ws))
      (sym others)
      ∙ filter_where (is_outside ws) (λ t. not (is_of p t)) new (all _ apart new)

  with_one : (ws : List Place) → ws ≡ v.written ++ p ∷ [] → filter (is_outside ws) v.tuples ≡ filter (is_outside ws) new
  with_one ws is =
      more ws (λ t h. ap not (or_left (list_any (λ q. is_of q t) v.written) (is_of p t || false) (parts t h)))
      (λ t h. ap not (or_left (is_of p t) false (or_right (list_any (λ q. is_of q t) v.written) (is_of p t || false)
      (parts t h))))
    where
      parts : (t : Tuple) → is_outside ws t ≡ true → (list_any (λ q. is_of q t) v.written || (is_of p t || false))
          ≡ false
      parts t h = sym (ap (list_any (λ q. is_of q t)) is ∙ any_append (λ q. is_of q t) v.written (p ∷ []))
          ∙ not_true (list_any (λ q. is_of q t) ws) h

  pub noted_agrees : AgreesWith new (noted p v)
  noted_agrees = elim (list_any (is_entity p) v.written) as (λ b. list_any (is_entity p) v.written ≡ b
      → AgreesWith new (cond b v (record { tuples = v.tuples; written = v.written ++ p ∷ [] }))) [
        | true ↦ λ t. more v.written (λ x h. h) (λ x h. ap not (not_among p v.written x t
            (not_true (list_any (λ q. is_of q x) v.written) h)))
        | false ↦ λ t. with_one (v.written ++ p ∷ []) refl
      ] refl

-- ---- an entity mended

module _ (ls : Labels) (c : ℕ) (T : Table) (p : Place) (ps : List Place) (ts : List Tuple)
    (agrees : AgreesWith (rows ls c T) (record { tuples = ts; written = p ∷ ps })) where
  abbrev Rows : List Tuple
  Rows = rows ls c T

  abbrev out : Tuple → Bool
  out = is_outside ps

  -- rows of other entities
  apart : (test : Tuple → Bool) → ((t : Tuple) → test t ≡ true → is_of p t ≡ false) → filter out (filter test ts)
      ≡ filter out (filter test Rows)
  apart test other =
      let same : (t : Tuple) → test t ≡ true → out t ≡ is_outside (p ∷ ps) t =
      λ t h. ap (λ b. not (b || list_any (λ q. is_of q t) ps)) (sym (other t h)) in
      within_filter test out (is_outside (p ∷ ps)) same ts ∙ ap (filter test) agrees
      ∙ sym (within_filter test out (is_outside (p ∷ ps)) same Rows)

  pub mended_agrees : AgreesWith Rows (record { tuples = mended p (rows ls c (of_entity p T)) ts; written = ps })
  mended_agrees =
      let own = rows ls c (of_entity p T) in
      filter_append out (filter (is_before p) ts ++ own) (filter (is_behind p) ts)
      ∙ ap (λ xs. xs ++ filter out (filter (is_behind p) ts)) (filter_append out (filter (is_before p) ts) own)
      ∙ (λ i. (apart (is_before p) (before_other p) i ++ ap (filter out) (own_rows ls c p T) i) ++ apart (is_behind p)
      (behind_other p) i)
      ∙ append_assoc (filter out (filter (is_before p) Rows)) (filter out (filter (is_of p) Rows))
      (filter out (filter (is_behind p) Rows))
      ∙ ap (λ xs. filter out (filter (is_before p) Rows) ++ xs)
      (sym (filter_append out (filter (is_of p) Rows) (filter (is_behind p) Rows)))
      ∙ sym (filter_append out (filter (is_before p) Rows) (filter (is_of p) Rows ++ filter (is_behind p) Rows))
      ∙ ap (filter out) (sym (rows_in_three ls c p T))

-- where no entity was written they are the rows
filter_all : {A : Type 0} (xs : List A) → filter (λ x. true) xs ≡ xs
filter_all [] = refl
filter_all (x ∷ xs) = ap (λ ys. x ∷ ys) (filter_all xs)

pub none_written : (now ts : List Tuple) → AgreesWith now (record { tuples = ts; written = [] }) → ts ≡ now
none_written now ts agrees = sym (filter_all ts) ∙ agrees ∙ filter_all now
