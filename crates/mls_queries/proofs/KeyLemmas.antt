-- The tuples of one key, and the key that a condition demands.
use Rattle.std.proofs.Common.{◌≡◌, ℕ, zero, suc, true, false, cond, ◌-◌, List, [], ◌∷◌, ◌++◌, length, map, Option, Some, None, refl, sym, ap, ◌∙◌, subst, arith, eqb-true, nat_eq, nat_lt, slice_index_or, filter, true≢false, lt-ltb, length-append}
use Rattle.std.specs.Prelude.{⊤}
use Rattle.std.proofs.lemmas.Bool.{and_parts}
use Rattle.std.proofs.lemmas.Option.{none-some, same_Some}
use Rattle.mls_lattice.specs.Labels.{Labels}
use Rattle.mls_scheme.specs.declared.value.Value.{Value}
use Rattle.mls_scheme.specs.declared.tuple.Tuple.{Tuple}
use Rattle.mls_scheme.specs.Tuple.{at}
use Rattle.mls_scheme.specs.Table.{Table}
use Rattle.mls_scheme.proofs.OrderLemmas.{value_eq-true}
use Rattle.mls_filterview.specs.View.{rows}
use Rattle.mls_translang.specs.declared.operator.Operator.TheVariants as operators
use Rattle.mls_translang.specs.Tree.{Expr, Known, Field, Op}
use Rattle.mls_translang.specs.Expressions.{eval, same, cell_of, value_in}
use Rattle.mls_queries.specs.Query.{passes, is_key, reading}
use Rattle.mls_filterview.proofs.MendLemmas.{rows_of_those}
use Rattle.mls_queries.specs.Demanded.{of_key}
use Rattle.mls_queries.specs.Equated.{either, is_field, value_known, equated, demanded}

-- ---- the tuples of one key

-- the rows of the tuples of a key are those rows that have it
pub rows_of_key : (ls : Labels) (c : ℕ) (key : List Value) (T : Table) → rows ls c (of_key key T)
    ≡ filter (λ t. is_key t.key key) (rows ls c T)
rows_of_key ls c key T = rows_of_those ls c (λ values key_class. is_key values key) T

-- ---- the key that a condition demands

abbrev pub put_first : Option Value → Option (List Value) → Option (List Value)
put_first (Some v) (Some vs) = Some (v ∷ vs)
put_first _ _ = None

-- those of n attributes from k on, where it says all of them
abbrev pub demanded_from : ℕ → ℕ → Expr → Option (List Value)
demanded_from k zero e = Some []
demanded_from k (suc n) e = put_first (demanded k e) (demanded_from (suc k) n e)

module _ (t : Tuple) where
  field_reads : (i : ℕ) (e : Expr) → is_field i e ≡ true → value_in (reading t) e ≡ cell_of t i
  unfolding eval
  field_reads i (Field d j) h =
      let p = and_parts (nat_eq d 0) (nat_eq j i) h in
      ap (λ d. value_in (reading t) (Field d j)) (eqb-true d 0 p.0) ∙ ap (cell_of t) (eqb-true j i p.1)
  field_reads i _ h = absurd (true≢false (sym h))

  known_reads : (v : Value) (e : Expr) → value_known e ≡ Some v → value_in (reading t) e ≡ Some v
  unfolding eval
  known_reads v (Known w) h = h
  known_reads v _ h = absurd (none-some v h)

  same_values : (a b : Option Value) → same a b ≡ true → a ≡ b
  same_values None None h = refl
  same_values None (Some b) h = absurd (true≢false (sym h))
  same_values (Some a) None h = absurd (true≢false (sym h))
  same_values (Some a) (Some b) h = ap Some (value_eq-true a b h)

  equated_reads : (i : ℕ) (v : Value) (l r : Expr) → equated i l r ≡ Some v → same (value_in (reading t) l)
      (value_in (reading t) r) ≡ true → cell_of t i ≡ Some v
  equated_reads i v l r h s =
      elim (is_field i l) as (λ b. is_field i l ≡ b → cond b (value_known r) None ≡ Some v → cell_of t i ≡ Some v) [
        | true ↦ λ f k. sym (field_reads i l f) ∙ same_values _ _ s ∙ known_reads v r k
        | false ↦ λ f k. absurd (none-some v k)
      ] refl h

  turned : (a b : Option Value) → same a b ≡ true → same b a ≡ true
  turned a b h = subst (λ x. same x a ≡ true) (same_values a b h) (subst (λ x. same a x ≡ true)
      (sym (same_values a b h)) h)

  one_of : (o p : Option Value) (v : Value) (P : Type 0) → either o p ≡ Some v → (o ≡ Some v → P) → (p ≡ Some v → P) → P
  one_of (Some w) p v P h first second = first h
  one_of None p v P h first second = second h

  demanded_reads : (i : ℕ) (v : Value) (e : Expr) → demanded i e ≡ Some v → passes e t ≡ true → cell_of t i ≡ Some v
  unfolding eval
  demanded_reads i v (Op operators.And l r) h p =
      let both = and_parts (passes l t) (passes r t) p in
      one_of (demanded i l) (demanded i r) v _ h (λ q. demanded_reads i v l q both.0)
      (λ q. demanded_reads i v r q both.1)
  demanded_reads i v (Op operators.Equal l r) h p =
      one_of (equated i l r) (equated i r l) v _ h (λ q. equated_reads i v l r q p) (λ q. equated_reads i v r l q
      (turned (value_in (reading t) l) (value_in (reading t) r) p))
  demanded_reads i v _ h p = absurd (none-some v h)

  -- the attributes from k on have these values
  abbrev Reads : ℕ → List Value → Type 0
  Reads k [] = ⊤
  Reads k (x ∷ xs) = (cell_of t k ≡ Some x) × Reads (suc k) xs

  nth : (pre : List Value) (x : Value) (rest : List Value) → slice_index_or (map Some (pre ++ x ∷ rest))
      (length pre) None ≡ Some x
  nth [] x rest = refl
  nth (p ∷ pre) x rest = nth pre x rest

  within : (pre : List Value) (x : Value) (rest : List Value) → nat_lt (length pre) (length (pre ++ x ∷ rest)) ≡ true
  within pre x rest = let n = length-append pre (x ∷ rest) in lt-ltb (length pre) (length (pre ++ x ∷ rest))
      (omega (arith, n))

  cell_in : (pre : List Value) (x : Value) (rest : List Value) → t.key ≡ pre ++ x ∷ rest → cell_of t (length pre)
      ≡ Some x
  cell_in pre x rest e =
      subst (λ (key : List Value). cond (nat_lt (length pre) (length key)) (slice_index_or (map Some key)
      (length pre) None) (at t.elements (length pre - length key)).value ≡ Some x) (sym e)
      (ap (λ b. cond b (slice_index_or (map Some (pre ++ x ∷ rest)) (length pre) None)
      (at t.elements (length pre - length (pre ++ x ∷ rest))).value) (within pre x rest) ∙ nth pre x rest)

  longer : (pre : List Value) (x : Value) → length (pre ++ x ∷ []) ≡ suc (length pre)
  longer [] x = refl
  longer (p ∷ pre) x = ap suc (longer pre x)

  moved : (pre : List Value) (x : Value) (rest : List Value) → pre ++ x ∷ rest ≡ (pre ++ x ∷ []) ++ rest
  moved [] x rest = refl
  moved (p ∷ pre) x rest = ap (λ ys. p ∷ ys) (moved pre x rest)

  reads_from : (pre rest : List Value) → t.key ≡ pre ++ rest → Reads (length pre) rest
  reads_from pre [] e = tt
  reads_from pre (x ∷ rest) e = (
    cell_in pre x rest e,
    subst (λ k. Reads k rest) (longer pre x)
        (reads_from (pre ++ x ∷ []) rest (e ∙ moved pre x rest)),
  )

  both_put : (o : Option Value) (p : Option (List Value)) (vs : List Value) (P : Type 0) → put_first o p ≡ Some vs
      → ((v : Value) (ws : List Value) → o ≡ Some v → p ≡ Some ws → v ∷ ws ≡ vs → P) → P
  both_put None p vs P h k = absurd (none-some vs h)
  both_put (Some v) None vs P h k = absurd (none-some vs h)
  both_put (Some v) (Some ws) vs P h k = k v ws refl refl (same_Some (v ∷ ws) vs h)

  demanded_are : (e : Expr) → passes e t ≡ true → (k : ℕ) (xs vs : List Value) → Reads k xs
      → demanded_from k (length xs) e ≡ Some vs → xs ≡ vs
  demanded_are e p k [] vs r h = same_Some [] vs h
  demanded_are e p k (x ∷ xs) vs r h =
      both_put (demanded k e) (demanded_from (suc k) (length xs) e) vs _ h (λ v ws a b c.
      (λ i. same_Some x v (sym r.0 ∙ demanded_reads k v e a p) i ∷ demanded_are e p (suc k) xs ws r.1 b i) ∙ c)

  -- a row that passes has the key that the condition demands
  pub key_demanded : (e : Expr) (key : List Value) → passes e t ≡ true → demanded_from 0 (length t.key) e ≡ Some key
      → t.key ≡ key
  key_demanded e key p h = demanded_are e p 0 t.key key (reads_from [] t.key refl) h
