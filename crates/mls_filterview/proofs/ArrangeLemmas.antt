-- Lists sorted and rid of ties have the elements that they had.
use Rattle.std.proofs.Common.{◌≡◌, Result, Ok, Err, Bool, true, false, cond, List, [], ◌∷◌, refl, sym, subst, inl, inr, ◌⊎◌, IfOk}
use Rattle.std.specs.List.{dedup, dedup_from}
use Rattle.mls_filterview.specs.View.{IsAmong}

module _ {A : Type 0} (E : A → A → Bool) where
  from_dedup_from : (k : A) (xs : List A) (x : A) → IsAmong x (dedup_from E k xs) → (x ≡ k) ⊎ IsAmong x xs
  from_dedup_from k [] x (inl e) = inl e
  from_dedup_from k [] x (inr h) = absurd h
  from_dedup_from k (y ∷ ys) x h =
      elim (E y k) as (λ b. IsAmong x (cond b (dedup_from E k ys) (k ∷ dedup_from E y ys)) → (x ≡ k)
      ⊎ IsAmong x (y ∷ ys)) [
        | true ↦ λ i. elim (from_dedup_from k ys x i) [ inl e ↦ inl e | inr j ↦ inr (inr j) ]
        | false ↦ λ i. elim i [ inl e ↦ inl e | inr j ↦ inr (from_dedup_from y ys x j) ]
      ] h

  first_kept : (k : A) (xs : List A) → IsAmong k (dedup_from E k xs)
  first_kept k [] = inl refl
  first_kept k (y ∷ ys) =
      elim (E y k) as (λ b. IsAmong k (cond b (dedup_from E k ys)
      (k ∷ dedup_from E y ys))) [ true ↦ first_kept k ys | false ↦ inl refl ]

  pub from_dedup : (xs : List A) (x : A) → IsAmong x (dedup E xs) → IsAmong x xs
  from_dedup [] x h = h
  from_dedup (y ∷ ys) x h = from_dedup_from y ys x h

  module _ (same : (x : A) → E x x ≡ true) where
    kept_from : (k : A) (xs : List A) (x : A) → IsAmong x xs → (y : A) × IsAmong y (dedup_from E k xs) × (E x y ≡ true)
    kept_from k [] x h = absurd h
    kept_from k (z ∷ zs) x h =
        elim (E z k) as (λ b. E z k ≡ b → (y : A) × IsAmong y (cond b (dedup_from E k zs) (k ∷ dedup_from E z zs))
        × (E x y ≡ true)) [
          | true ↦ λ t. elim h [
            | inl e ↦ (
              k,
              first_kept k zs,
              subst (λ w. E w k ≡ true)
                  (sym e) t,
            )
            | inr j ↦ kept_from k zs x j
          ]
          | false ↦ λ t.
              elim h [
                | inl e ↦ (z, inr (first_kept z zs), subst (λ w. E w z ≡ true) (sym e) (same z))
                | inr j ↦ (let r = kept_from z zs x j in (r.0, inr r.1, r.2))
              ]
        ] refl

    pub kept_by_dedup : (xs : List A) (x : A) → IsAmong x xs → (y : A) × IsAmong y (dedup E xs) × (E x y ≡ true)
    kept_by_dedup [] x h = absurd h
    kept_by_dedup (z ∷ zs) x (inl e) = (z, first_kept z zs, subst (λ w. E w z ≡ true) (sym e) (same z))
    kept_by_dedup (z ∷ zs) x (inr h) = kept_from z zs x h

-- what holds of a value that was returned
pub if_ok : {A F : Type 0} (r : Result A F) (P Q : A → Type 0) → ((a : A) → P a → Q a) → IfOk r P → IfOk r Q
if_ok (Ok a) P Q f h = f a h
if_ok (Err e) P Q f h = h
