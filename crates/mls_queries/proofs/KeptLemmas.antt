-- What holds of kept views holds after one is taken, kept or given up.
use Rattle.std.proofs.Common.{◌≡◌, ℕ, zero, suc, ◌<◌, Bool, true, false, cond, not, List, [], ◌∷◌, ◌++◌, map, take, Option, Some, None, refl, sym, ap, ◌∙◌, subst, eqb-true, ◌+◌, ◌≤◌, length, arith, ◌&&◌, nat_eq, IfSome, filter}
use Rattle.std.proofs.SliceLists.{all_by_recursion_push}
use Rattle.std.specs.List.{AllByRecursion, list_any}
use Rattle.std.specs.FinMap.{entries}
use Rattle.std.specs.Map.{lookup, lookup_entry, remove_entry}
use Rattle.std.specs.Option.{option_map_or}
use Rattle.std.proofs.lemmas.Bool.{and_parts}
use Rattle.mls_lattice.specs.Labels.{Labels, below}
use Rattle.mls_lattice.proofs.EachLemmas.{all_take}
use Rattle.mls_scheme.specs.declared.place.Place.{Place}
use Rattle.mls_scheme.specs.declared.tuple.Tuple.{Tuple}
use Rattle.mls_scheme.specs.Table.{Table, Database, tuple_at}
use Rattle.mls_filterview.specs.Entities.{AgreeOutside}
use Rattle.mls_filterview.specs.Stored.{is_entity}
use Rattle.mls_filterview.specs.Subsumption.{is_max_among}
use Rattle.mls_filterview.specs.View.{low, rows}
use Rattle.mls_filterview.proofs.MendLemmas.{others_stay}
use Rattle.lru.proofs.CallerLemmas.{Contains-lookup_entry}
use Rattle.mls_queries.specs.declared.views.ViewKey.{ViewKey}
use Rattle.mls_queries.specs.Views.{Kept, KeptView, fresh, noted, is_outside, AgreesWith, IsNamed, AreRows, AreDeclared, AreFollowed, key_of, is_view, put_view, most_views}
use Rattle.mls_queries.proofs.ViewsLemmas.{Entry, key_refl, all_followed, followed_fewer}
use Rattle.mls_queries.proofs.KeptSeenLemmas.{noted_agrees}

-- ---- lists

module _ (P : Entry → Type 0) where
  all_removed : (test : ViewKey → Bool) (es : Kept) → AllByRecursion P es → AllByRecursion P (remove_entry test es)
  all_removed test [] h = tt
  all_removed test (e ∷ es) h = elim (test e.0) as (λ b. AllByRecursion P (cond b es (e ∷ remove_entry test es))) [
    | true ↦ h.1
    | false ↦ (h.0, all_removed test es h.1)
  ]

  module _ (relation label : ℕ) (tuples : List Tuple) (own : (k : ViewKey) → is_view relation label k ≡ true
      → P (k, fresh tuples)) (es : Kept) (h : AllByRecursion P es) where
    all_put_by : (o : Option Entry) → lookup_entry (is_view relation label) es ≡ o
        → AllByRecursion P (option_map_or (λ e. (e.0, fresh tuples) ∷ remove_entry (is_view relation label) es) o
        ((key_of relation label, fresh tuples) ∷ take 31 es))
    all_put_by None is = (own (key_of relation label) (key_refl (key_of relation label)), all_take P es 31 h)
    all_put_by (Some e) is = (
      own e.0 (Contains-lookup_entry (is_view relation label) es e is).1,
      all_removed (is_view relation label) es h,
    )

    all_put : AllByRecursion P (put_view relation label tuples es)
    all_put = all_put_by (lookup_entry (is_view relation label) es) refl

key_parts : (relation label : ℕ) (k : ViewKey) → is_view relation label k ≡ true → (relation ≡ k.relation)
    × (label ≡ k.label)
key_parts relation label k h = let parts = and_parts (nat_eq relation k.relation) (nat_eq label k.label) h
    in (eqb-true relation k.relation parts.0, eqb-true label k.label parts.1)

-- ---- how many

removed_fewer : (test : ViewKey → Bool) (es : Kept) → length (remove_entry test es) ≤ length es
removed_fewer test [] = omega arith
removed_fewer test (e ∷ es) = elim (test e.0) as (λ b. length (cond b es (e ∷ remove_entry test es))
    ≤ length (e ∷ es)) [
      | true ↦ omega arith
      | false ↦ let a = removed_fewer test es in omega (arith, a)
    ]

none_entry : {A : Type 0} (e : Entry) → None ≡ Some e → A
none_entry e h = absurd cc

found_fewer : (test : ViewKey → Bool) (es : Kept) (e : Entry) → lookup_entry test es ≡ Some e
    → length (remove_entry test es) + 1 ≤ length es
found_fewer test [] e h = none_entry e h
found_fewer test (x ∷ es) e h =
    (elim (test x.0) as (λ b. cond b (Some x) (lookup_entry test es) ≡ Some e
    → length (cond b es (x ∷ remove_entry test es)) + 1 ≤ length (x ∷ es)) [
      | true ↦ λ k. omega arith
      | false ↦ λ k. (let a = found_fewer test es e k in omega (arith, a))
    ]) h

taken_fewer : (n : ℕ) (es : Kept) → length (take n es) ≤ n
taken_fewer zero es = omega arith
taken_fewer (suc n) [] = omega arith
taken_fewer (suc n) (e ∷ es) = let a = taken_fewer n es in omega (arith, a)

pub removed_most : (relation label : ℕ) (es : Kept) → length es ≤ most_views
    → length (remove_entry (is_view relation label) es) ≤ most_views
removed_most relation label es h = let a = removed_fewer (is_view relation label) es in omega (arith, a, h)

module _ (relation label : ℕ) (tuples : List Tuple) (es : Kept) (h : length es ≤ most_views) where
  put_most_by : (o : Option Entry) → lookup_entry (is_view relation label) es ≡ o
      → length (option_map_or (λ (e : Entry). (e.0, fresh tuples) ∷ remove_entry (is_view relation label) es) o
      ((key_of relation label, fresh tuples) ∷ take 31 es)) ≤ most_views
  put_most_by None is = let a = taken_fewer 31 es in omega (arith, a)
  put_most_by (Some e) is = let a = found_fewer (is_view relation label) es e is in omega (arith, a, h)

  pub put_most : length (put_view relation label tuples es) ≤ most_views
  put_most = put_most_by (lookup_entry (is_view relation label) es) refl

pub followed_most : (ls : Labels) (relation w : ℕ) (p : Place) (es new : Kept) → AreFollowed ls relation w p es new
    → length es ≤ most_views → length new ≤ most_views
followed_most ls relation w p es new f h = let a = followed_fewer ls relation w p es new f in omega (arith, a, h)

-- ---- labels and entities

pub removed_declared : (count relation label : ℕ) (es : Kept) → AreDeclared count es
    → AreDeclared count (remove_entry (is_view relation label) es)
removed_declared count relation label = all_removed _ (is_view relation label)

pub put_declared : (count relation label : ℕ) (tuples : List Tuple) (es : Kept) → label < count → AreDeclared count es
    → AreDeclared count (put_view relation label tuples es)
put_declared count relation label tuples es within h =
    all_put (λ e. (e.0.label < count) × AllByRecursion (IsNamed count) e.1.written) relation label tuples
    (λ k is. (subst (λ l. l < count) (key_parts relation label k is).1 within, tt)) es h

pub noted_named : (count : ℕ) (p : Place) (v : KeptView) → IsNamed count p → AllByRecursion (IsNamed count) v.written
    → AllByRecursion (IsNamed count) (noted p v).written
noted_named count p v named h = elim (list_any (is_entity p) v.written) as (λ b. AllByRecursion (IsNamed count)
    (cond b v (record { tuples = v.tuples; written = v.written ++ p ∷ [] })).written) [
      | true ↦ h
      | false ↦ all_by_recursion_push (IsNamed count) v.written p h named
    ]

pub followed_declared : (count : ℕ) (ls : Labels) (relation w : ℕ) (p : Place) (es new : Kept) → p.key_class < count
    → AreFollowed ls relation w p es new → AreDeclared count es → AreDeclared count new
followed_declared count ls relation w p es new within =
    let P : Entry → Type 0 = λ e. (e.0.label < count) × AllByRecursion (IsNamed count) e.1.written in
    all_followed ls relation w p P P (λ e b k. k)
    (λ e b spelled k. (k.0, noted_named count p e.1 (record { key = spelled; key_class = within }) k.1)) es new

some_seen : (a b : KeptView) → Some a ≡ Some b → a ≡ b
some_seen a b e = cc

none_seen : {A : Type 0} (a : KeptView) → Some a ≡ None → A
none_seen a e = absurd cc

-- what is found is one of them, of the relation and the label
module _ (P : Entry → Type 0) (Q : KeptView → Type 0) (relation label : ℕ) (to : (e : Entry)
    → is_view relation label e.0 ≡ true → P e → Q e.1) where
  found_has : (es : Kept) → AllByRecursion P es → (v : KeptView) → Some v ≡ lookup (is_view relation label) es → Q v
  found_has [] h v is = none_seen v is
  found_has (e ∷ es) h v is =
      (elim (is_view relation label e.0) as (λ b. is_view relation label e.0 ≡ b
      → Some v ≡ cond b (Some e.1) (lookup (is_view relation label) es) → Q v) [
        | true ↦ λ t k. subst Q (sym (some_seen v e.1 k)) (to e t h.0)
        | false ↦ λ t k. found_has es h.1 v k
      ]) refl is

  pub if_found : (es : Kept) → AllByRecursion P es → (o : Option KeptView) → o ≡ lookup (is_view relation label) es
      → IfSome o Q
  if_found es h None is = tt
  if_found es h (Some v) is = found_has es h v is

pub if_found_named : (count relation label : ℕ) (es : Kept) → AreDeclared count es → (o : Option KeptView)
    → o ≡ lookup (is_view relation label) es → IfSome o (λ v. AllByRecursion (IsNamed count) v.written)
if_found_named count relation label =
    if_found (λ e. (e.0.label < count) × AllByRecursion (IsNamed count) e.1.written)
    (λ v. AllByRecursion (IsNamed count) v.written) relation label (λ e t h. h.1)

-- ---- rows

module _ (ls : Labels) (db : Database) where
  -- the rows of the relation and the label, where the key is theirs
  of_key : (relation label : ℕ) (k : ViewKey) → is_view relation label k ≡ true → rows ls label (db relation)
      ≡ rows ls k.label (db k.relation)
  of_key relation label k h = let parts = key_parts relation label k h in λ i. rows ls (parts.1 i) (db (parts.0 i))

  pub if_found_rows : (relation label : ℕ) (es : Kept) → AreRows ls db es → (o : Option KeptView)
      → o ≡ lookup (is_view relation label) es → IfSome o (AgreesWith (rows ls label (db relation)))
  if_found_rows relation label =
      if_found (λ e. AgreesWith (rows ls e.0.label (db e.0.relation)) e.1)
      (AgreesWith (rows ls label (db relation))) relation label
      (λ e t h. subst (λ ts. AgreesWith ts e.1) (sym (of_key relation label e.0 t)) h)

  pub removed_rows : (relation label : ℕ) (es : Kept) → AreRows ls db es
      → AreRows ls db (remove_entry (is_view relation label) es)
  removed_rows relation label = all_removed _ (is_view relation label)

  pub put_rows : (relation label : ℕ) (tuples : List Tuple) (es : Kept) → tuples ≡ rows ls label (db relation)
      → AreRows ls db es → AreRows ls db (put_view relation label tuples es)
  put_rows relation label tuples es is h =
      all_put (λ e. AgreesWith (rows ls e.0.label (db e.0.relation)) e.1) relation label tuples
      (λ k own. ap (filter (is_outside [])) (is ∙ of_key relation label k own)) es h

-- rows are those of the tuples that the label may see
same_rows : (ls : Labels) (c : ℕ) (T U : Table) → low ls c T ≡ low ls c U → rows ls c T ≡ rows ls c U
unfolding rows
same_rows ls c T U h = ap (λ (L : Table). let es = entries L in map (λ e. tuple_at e.0 e.1)
    (filter (is_max_among es) es)) h

not_true : (b : Bool) → not b ≡ true → b ≡ false
not_true true h = sym h
not_true false h = refl

-- after a write of an entity of a relation, which only labels above its own may see, the views that are left are as
-- they were,
-- but for that entity where it is noted
pub followed_rows : (ls : Labels) (relation w : ℕ) (p : Place) (db new : Database)
    → ((c r : ℕ) → (nat_eq relation r && below ls w c) ≡ false → low ls c (db r) ≡ low ls c (new r))
    → ((r : ℕ) → AgreeOutside p (db r) (new r)) → (es left : Kept) → AreFollowed ls relation w p es left
    → AreRows ls db es → AreRows ls new left
followed_rows ls relation w p db new unseen agree =
    all_followed ls relation w p (λ e. AgreesWith (rows ls e.0.label (db e.0.relation)) e.1)
    (λ e. AgreesWith (rows ls e.0.label (new e.0.relation)) e.1)
    (λ e out h. subst (λ ts. AgreesWith ts e.1) (same_rows ls e.0.label (db e.0.relation) (new e.0.relation)
    (unseen e.0.label e.0.relation (not_true (nat_eq relation e.0.relation && below ls w e.0.label) out))) h)
    (λ e in' spelled h. noted_agrees p (rows ls e.0.label (db e.0.relation)) (rows ls e.0.label (new e.0.relation))
    (others_stay ls e.0.label p (db e.0.relation) (new e.0.relation) (agree e.0.relation)) e.1 h)
