-- Rows at places.
use Rattle.std.proofs.Common.{◌≡◌, ℕ, suc, ◌+◌, ◌<◌, Bool, true, false, cond, ◌&&◌, List, [], ◌∷◌, ◌++◌, length, take, Option, Some, None, refl, sym, ap, ◌∙◌, subst, arith, not, is_none, slice_index_or, filter, true≢false}
use Rattle.std.specs.List.{AllByRecursion}
use Rattle.std.proofs.lemmas.Bool.{and_parts, not-true}
use Rattle.std.proofs.lemmas.List.{map-append, take-map, take_more}
use Rattle.mls_lattice.specs.Labels.{Labels}
use Rattle.mls_lattice.proofs.EachLemmas.{all_append, all_take}
use Rattle.mls_scheme.specs.declared.tuple.Tuple.{Tuple}
use Rattle.mls_scheme.specs.Tuple.{no_tuple}
use Rattle.mls_filterview.proofs.FilteredLemmas.{map_filter}
use Rattle.mls_translang.specs.declared.query.Query.{Query}
use Rattle.mls_queries.specs.Query.{first_of, is_wanted, has_class, meets, highest_of, found}
use Rattle.mls_queries.specs.Places.{rows_at, AreWithin, places_from, asks_nothing}

-- ---- lists

pub all_filter : {A : Type 0} (P : A → Type 0) (p : A → Bool) (xs : List A) → AllByRecursion P xs
    → AllByRecursion P (filter p xs)
all_filter P p [] h = tt
all_filter P p (x ∷ xs) h =
    elim (p x) as (λ b. AllByRecursion P (cond b (x ∷ filter p xs) (filter p xs))) [
      | true ↦ (
        h.0,
        all_filter P p xs h.1,
      )
      | false ↦ all_filter P p xs h.1
    ]

-- two tests, one after the other
pub filter_both : {A : Type 0} (p q : A → Bool) (xs : List A) → filter (λ x. p x && q x) xs ≡ filter q (filter p xs)
filter_both p q [] = refl
filter_both p q (x ∷ xs) =
    elim (p x) as (λ b. cond (b && q x) (x ∷ filter (λ x. p x && q x) xs) (filter (λ x. p x && q x) xs)
    ≡ filter q (cond b (x ∷ filter p xs) (filter p xs))) [
      | true ↦ ap (λ ys. cond (q x) (x ∷ ys) ys) (filter_both p q xs)
      | false ↦ filter_both p q xs
    ]

-- ---- the first of them

pub first_within : (ts : List Tuple) (o : Option ℕ) (ps : List ℕ) → AreWithin ts ps → AreWithin ts (first_of o ps)
first_within ts None ps h = h
first_within ts (Some n) ps h = all_take (λ p. p < length ts) ps n h

pub rows_first : (ts : List Tuple) (o : Option ℕ) (ps : List ℕ) → rows_at ts (first_of o ps)
    ≡ first_of o (rows_at ts ps)
rows_first ts None ps = refl
rows_first ts (Some n) ps = sym (take-map (λ p. slice_index_or ts p no_tuple) n ps)

-- ---- all places

pub record AreFirst (ts : List Tuple) (n : ℕ) (ps : List ℕ) : Type 0 where
  pub rows : rows_at ts ps ≡ take n ts
  pub within : AreWithin ts ps

pub one_more : (ts : List Tuple) (n : ℕ) (ps : List ℕ) → n < length ts → AreFirst ts n ps
    → AreFirst ts (n + 1) (ps ++ n ∷ [])
one_more ts n ps l f = record {
  rows = map-append (λ p. slice_index_or ts p no_tuple) ps (n ∷ [])
      ∙ ap (λ xs. xs ++ slice_index_or ts n no_tuple ∷ []) f.rows
      ∙ sym (take_more ts n no_tuple l);
  within = all_append (λ p. p < length ts) ps (n ∷ []) f.within (l, tt);
}

-- what is found by both tests of each row
pub wanted_rows : (ls : Labels) (q : Query) (ts : List Tuple) (ps ws : List ℕ) (seen : List Tuple) → rows_at ts ps
    ≡ seen
    → ws ≡ filter (λ p. is_wanted ls q (slice_index_or ts p no_tuple)) ps
    → rows_at ts (first_of q.first ws) ≡ first_of q.first (filter (meets q.test) (filter (has_class ls q.class) seen))
wanted_rows ls q ts ps ws seen e w =
    rows_first ts q.first ws
    ∙ ap (first_of q.first) (ap (rows_at ts) w ∙ map_filter (λ p. slice_index_or ts p no_tuple) (is_wanted ls q) ps
    ∙ ap (filter (is_wanted ls q)) e
    ∙ filter_both (has_class ls q.class) (meets q.test) seen)

pub wanted_within : (ls : Labels) (q : Query) (ts : List Tuple) (ps ws : List ℕ) → AreWithin ts ps
    → ws ≡ filter (λ p. is_wanted ls q (slice_index_or ts p no_tuple)) ps → AreWithin ts (first_of q.first ws)
wanted_within ls q ts ps ws h w = first_within ts q.first ws (subst (AreWithin ts) (sym w)
    (all_filter (λ p. p < length ts) (λ p. is_wanted ls q (slice_index_or ts p no_tuple)) ps h))

-- a query that asks for nothing finds all
pub finds_all : (ls : Labels) (q : Query) (ts : List Tuple) → asks_nothing q ≡ true → ts ≡ found ls q ts
finds_all ls q ts h =
    let a = and_parts (not q.highest) (is_none q.class && (is_none q.test && is_none q.first)) h in
    let b = and_parts (is_none q.class) (is_none q.test && is_none q.first) a.1 in
    let d = and_parts (is_none q.test) (is_none q.first) b.1 in
    sym (
    (λ i. first_of (none q.first d.1 i) (filter (meets (none q.test d.0 i)) (filter (has_class ls (none q.class b.0 i))
    (highest_of ls (not-true q.highest a.0 i) ts))))
    ∙ each (filter (λ t. true) ts) ∙ each ts
    )
  where
    none : {A : Type 0} (o : Option A) → is_none o ≡ true → o ≡ None
    none None e = refl
    none (Some x) e = absurd (true≢false (sym e))

    each : (xs : List Tuple) → filter (λ t. true) xs ≡ xs
    each [] = refl
    each (x ∷ xs) = ap (λ ys. x ∷ ys) (each xs)

-- ---- the places of those that pass

at_seam : (pre : List Tuple) (t : Tuple) (rest : List Tuple) → slice_index_or (pre ++ t ∷ rest) (length pre) no_tuple
    ≡ t
at_seam [] t rest = refl
at_seam (p ∷ pre) t rest = at_seam pre t rest

seam_within : (pre : List Tuple) (t : Tuple) (rest : List Tuple) → length pre < length (pre ++ t ∷ rest)
seam_within [] t rest = omega arith
seam_within (p ∷ pre) t rest = let h = seam_within pre t rest in omega (arith, h)

longer : (pre : List Tuple) (t : Tuple) → suc (length pre) ≡ length (pre ++ t ∷ [])
longer [] t = refl
longer (p ∷ pre) t = ap suc (longer pre t)

moved : (pre : List Tuple) (t : Tuple) (rest : List Tuple) → pre ++ t ∷ rest ≡ (pre ++ t ∷ []) ++ rest
moved [] t rest = refl
moved (p ∷ pre) t rest = ap (λ ys. p ∷ ys) (moved pre t rest)

module _ (p : Tuple → Bool) (ts post : List Tuple) where
  pub rows_from : (pre ys : List Tuple) (k : ℕ) → ts ≡ pre ++ (ys ++ post) → k ≡ length pre
      → rows_at ts (places_from p k ys) ≡ filter p ys
  rows_from pre [] k e l = refl
  rows_from pre (y ∷ ys) k e l =
      let here : slice_index_or ts k no_tuple ≡ y = (λ i. slice_index_or (e i) (l i) no_tuple) ∙ at_seam pre y
      (ys ++ post) in
      let rest = rows_from (pre ++ y ∷ []) ys (suc k) (e ∙ moved pre y (ys ++ post)) (ap suc l ∙ longer pre y) in
      elim (p y) as (λ b. rows_at ts (cond b (k ∷ places_from p (suc k) ys) (places_from p (suc k) ys))
      ≡ cond b (y ∷ filter p ys) (filter p ys)) [
        | true ↦ λ i. here i ∷ rest i
        | false ↦ rest
      ]

  pub from_within : (pre ys : List Tuple) (k : ℕ) → ts ≡ pre ++ (ys ++ post) → k ≡ length pre
      → AreWithin ts (places_from p k ys)
  from_within pre [] k e l = tt
  from_within pre (y ∷ ys) k e l =
      let here : k < length ts = subst (λ (xs : List Tuple). k < length xs) (sym e)
      (subst (λ n. n < length (pre ++ y ∷ (ys ++ post))) (sym l) (seam_within pre y (ys ++ post))) in
      let rest = from_within (pre ++ y ∷ []) ys (suc k) (e ∙ moved pre y (ys ++ post)) (ap suc l ∙ longer pre y) in
      elim (p y) as (λ b. AreWithin ts (cond b (k ∷ places_from p (suc k) ys) (places_from p (suc k) ys))) [
        | true ↦
            (here, rest)
        | false ↦ rest
      ]
