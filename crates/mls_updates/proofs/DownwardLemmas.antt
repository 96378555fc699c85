-- Labels put in order, the higher ones first.
use Rattle.std.proofs.Common.{◌≡◌, ℕ, zero, suc, ◌+◌, ◌<◌, ◌≤◌, arith, true, false, cond, not, List, [], ◌∷◌, length, drop, get_or, refl, sym, ap, ◌∙◌, subst, inl, inr, ◌⊎◌, insert, true≢false}
use Rattle.std.specs.List.{AllByRecursion, prefix_len}
use Rattle.std.proofs.lemmas.Bool.{cond-true, cond-false, false_from_ne_true}
use Rattle.std.proofs.lemmas.List.Sums.{prefix_len-drop_all, prefix_len-drop_no, prefix_len-drop_yes}
use Rattle.mls_lattice.specs.Labels.{Labels, below, AreDistinct}
use Rattle.mls_lattice.proofs.LatticeLemmas.{below-trans, below-antisym}
use Rattle.mls_filterview.specs.View.{IsAmong}
use Rattle.mls_updates.specs.Steps.{AreDownwards, AreAbove}

module _ (ls : Labels) where
  -- a label before the first one that it dominates
  pub put : ℕ → List ℕ → List ℕ
  put m [] = m ∷ []
  put m (x ∷ xs) = cond (below ls x m) (m ∷ x ∷ xs) (x ∷ put m xs)

  -- the labels below n that dominate w
  pub downward : ℕ → ℕ → List ℕ
  downward w zero = []
  downward w (suc n) = cond (below ls w n) (put n (downward w n)) (downward w n)

  abbrev pub before : ℕ → List ℕ → ℕ
  before m xs = prefix_len (λ x. not (below ls x m)) xs

  inserted : (m : ℕ) (xs : List ℕ) → insert xs (before m xs) m ≡ put m xs
  unfolding put
  inserted m [] = refl
  inserted m (x ∷ xs) =
      elim (below ls x m) as (λ b. insert (x ∷ xs) (cond (not b) (1 + before m xs) 0) m ≡ cond b (m ∷ x ∷ xs)
      (x ∷ put m xs)) [
        | true ↦ refl
        | false ↦ (let n : 1 + before m xs ≡ suc (before m xs) = omega arith in ap (λ k. insert (x ∷ xs) k m) n
            ∙ ap (λ ys. x ∷ ys) (inserted m xs))
      ]

  pub downward_skip : (w n : ℕ) → below ls w n ≡ false → downward w (n + 1) ≡ downward w n
  unfolding downward
  downward_skip w n h = let k : n + 1 ≡ suc n = omega arith in ap (downward w) k ∙ cond-false _ _ _ h

  pub downward_put : (w n : ℕ) (xs : List ℕ) → xs ≡ downward w n → below ls w n ≡ true → insert xs (before n xs) n
      ≡ downward w (n + 1)
  unfolding downward
  downward_put w n xs e h = let k : suc n ≡ n + 1 = omega arith in inserted n xs ∙ ap (put n) e
      ∙ sym (cond-true (below ls w n) _ _ h) ∙ ap (downward w) k

  -- ---- its members
  put_all : (P : ℕ → Type 0) (m : ℕ) (xs : List ℕ) → P m → AllByRecursion P xs → AllByRecursion P (put m xs)
  unfolding put
  put_all P m [] h k = (h, tt)
  put_all P m (x ∷ xs) h k = elim (below ls x m) as
      (λ b. AllByRecursion P (cond b (m ∷ x ∷ xs) (x ∷ put m xs))) [
        | true ↦ (h, k)
        | false ↦ (
          k.0,
          put_all P m xs h k.1,
        )
      ]

  put_new : (m : ℕ) (xs : List ℕ) → IsAmong m (put m xs)
  unfolding put
  put_new m [] = inl refl
  put_new m (x ∷ xs) = elim (below ls x m) as
      (λ b. IsAmong m (cond b (m ∷ x ∷ xs) (x ∷ put m xs))) [ true ↦ inl refl | false ↦ inr (put_new m xs) ]

  put_old : (m k : ℕ) (xs : List ℕ) → IsAmong k xs → IsAmong k (put m xs)
  unfolding put
  put_old m k [] h = absurd h
  put_old m k (x ∷ xs) h = elim (below ls x m) as
      (λ b. IsAmong k (cond b (m ∷ x ∷ xs) (x ∷ put m xs))) [ true ↦ inr h | false ↦ elim h [ inl e ↦ inl e | inr i ↦ inr (put_old m k xs i) ] ]

  -- each member is below n
  pub downward_below : (w n : ℕ) → AllByRecursion (λ m. m < n) (downward w n)
  unfolding downward
  downward_below w zero = tt
  downward_below w (suc n) =
      let old = weaker (downward w n) (downward_below w n) in
      elim (below ls w n) as (λ b. AllByRecursion (λ m. m < suc n) (cond b (put n (downward w n))
      (downward w n))) [ true ↦ put_all (λ m. m < suc n) n (downward w n) (omega arith) old | false ↦ old ]
    where
      weaker : (xs : List ℕ) → AllByRecursion (λ m. m < n) xs → AllByRecursion (λ m. m < suc n) xs
      weaker [] h = tt
      weaker (x ∷ xs) h = (let l = h.0 in omega arith, weaker xs h.1)

  above : (w n : ℕ) → AllByRecursion (λ m. below ls w m ≡ true) (downward w n)
  unfolding downward
  above w zero = tt
  above w (suc n) = elim (below ls w n) as (λ b. below ls w n ≡ b → AllByRecursion (λ m. below ls w m ≡ true)
      (cond b (put n (downward w n)) (downward w n))) [
        | true ↦ λ e. put_all (λ m. below ls w m ≡ true) n (downward w n) e (above w n)
        | false ↦ λ e. above w n
      ] refl

  all : (w n m : ℕ) → m < n → below ls w m ≡ true → IsAmong m (downward w n)
  unfolding downward
  all w zero m l h = absurd (omega arith)
  all w (suc n) m l h = elim (below ls w n) as (λ b. below ls w n ≡ b
      → IsAmong m (cond b (put n (downward w n)) (downward w n))) [
        | true ↦ λ e. elim (last_or m n l) [
          | inl same ↦ subst (λ k. IsAmong k (put n (downward w n))) (sym same)
              (put_new n (downward w n))
          | inr less ↦ put_old n m (downward w n) (all w n m less h)
        ]
        | false ↦ λ e. elim (last_or m n l) [
          | inl same ↦ absurd (true≢false (sym h ∙ ap (below ls w) same
              ∙ e))
          | inr less ↦ all w n m less h
        ]
      ] refl
    where
      last_or : (a b : ℕ) → a < suc b → (a ≡ b) ⊎ (a < b)
      last_or zero zero l = inl refl
      last_or zero (suc b) l = inr (omega arith)
      last_or (suc a) zero l = absurd (omega arith)
      last_or (suc a) (suc b) l = elim (last_or a b (omega arith)) [
        | inl e ↦ inl (ap suc e)
        | inr h ↦ inr
            (omega arith)
      ]

  module _ (distinct : AreDistinct ls) where
    -- a new label does not dominate those that stand before it, nor is it dominated by those behind it
    put_downwards : (n : ℕ) (xs : List ℕ) → n < length ls → AllByRecursion (λ m. m < n) xs → AreDownwards ls xs
        → AreDownwards ls (put n xs)
    unfolding put
    put_downwards n [] l bound d = (tt, tt)
    put_downwards n (x ∷ xs) l bound d =
        elim (below ls x n) as (λ b. below ls x n ≡ b → AreDownwards ls (cond b (n ∷ x ∷ xs) (x ∷ put n xs))) [
          | true ↦ λ e. (
            (
              false_from_ne_true (below ls n x) (λ h. (let less = bound.0 in let same = below-antisym ls distinct n x l
                  (omega arith) h e in absurd (omega arith))),
              none xs e d.0,
            ),
            d,
          )
          | false ↦ λ e. (put_all (λ k. below ls x k ≡ false) n xs e d.0, put_downwards n xs l bound.1 d.1)
        ] refl
      where
        none : (ys : List ℕ) → below ls x n ≡ true → AllByRecursion (λ k. below ls x k ≡ false) ys
            → AllByRecursion (λ k. below ls n k ≡ false) ys
        none [] e h = tt
        none (y ∷ ys) e h = (
          false_from_ne_true (below ls n y) (λ b. true≢false (sym (below-trans ls x n y e b) ∙ h.0)),
          none ys e h.1,
        )

    downwards : (w n : ℕ) → n ≤ length ls → AreDownwards ls (downward w n)
    unfolding downward
    downwards w zero l = tt
    downwards w (suc n) l =
        elim (below ls w n) as (λ b. AreDownwards ls (cond b (put n (downward w n)) (downward w n))) [
          | true ↦ put_downwards n (downward w n) (omega arith) (downward_below w n) (downwards w n (omega arith))
          | false ↦ downwards w n (omega arith)
        ]

    pub downward_above : (w : ℕ) (xs : List ℕ) (n : ℕ) → length ls ≤ n → n ≤ length ls → xs ≡ downward w n
        → AreAbove ls w xs
    downward_above w xs n l m e = subst (AreAbove ls w) (sym e) (record {
      downwards = downwards w n m;
      above = above w n;
      all = λ k h b. all w n k (omega arith) b;
    })

  -- ---- the place of a label
  pub place_found : (m : ℕ) (xs : List ℕ) (i d : ℕ) → i + before m (drop i xs) ≡ before m xs → i < length xs
      → below ls (get_or xs i d) m ≡ true → i ≡ before m xs
  place_found m xs i d h l b = let n = prefix_len-drop_no (λ x. not (below ls x m)) xs i d l (ap not b)
      in omega (arith, n, h)

  pub place_next : (m : ℕ) (xs : List ℕ) (i d : ℕ) → i + before m (drop i xs) ≡ before m xs → i < length xs
      → below ls (get_or xs i d) m ≡ false → i + 1 + before m (drop (i + 1) xs) ≡ before m xs
  place_next m xs i d h l b = let n = prefix_len-drop_yes (λ x. not (below ls x m)) xs i d l (ap not b)
      in omega (arith, n, h)

  pub place_end : (m : ℕ) (xs : List ℕ) (i : ℕ) → i + before m (drop i xs) ≡ before m xs → length xs ≤ i
      → i ≡ before m xs
  place_end m xs i h l = let n = prefix_len-drop_all (λ x. not (below ls x m)) xs i l in omega (arith, n, h)

-- ---- one after another

pub nothing_below : (ls : Labels) (w : ℕ) (xs : List ℕ) → xs ≡ [] → xs ≡ downward ls w 0
unfolding downward
nothing_below ls w xs h = h

pub insert_all : (P : ℕ → Type 0) (xs : List ℕ) (i m : ℕ) → AllByRecursion P xs → P m → AllByRecursion P (insert xs i m)
insert_all P [] zero m h k = (k, tt)
insert_all P [] (suc i) m h k = (k, tt)
insert_all P (x ∷ xs) zero m h k = (k, h)
insert_all P (x ∷ xs) (suc i) m h k = (h.0, insert_all P xs i m h.1 k)

pub ruleset downward_steps = (downward_skip, downward_put, nothing_below, insert_all)
