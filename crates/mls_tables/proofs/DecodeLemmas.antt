-- Rows that are read one by one, and what is shown of them.
use Rattle.std.proofs.Common.{◌≡◌, ℕ, zero, suc, ◌+◌, ◌<◌, List, [], ◌∷◌, ◌++◌, map, length, take, get_or, arith, sym, ap, subst, ◌∙◌, add-one, take-suc}
use Rattle.std.specs.List.{AllByRecursion}
use Rattle.std.proofs.lemmas.List.{map-append}
use Rattle.sqlite_value.specs.Order.{Row}

pub more : (P : Row → Type 0) (rows : List Row) (row : Row) → AllByRecursion P rows → P row
    → AllByRecursion P (rows ++ row ∷ [])
more P [] row all this = (this, tt)
more P (r ∷ rows) row all this = (all.0, more P rows row all.1 this)

-- what holds of each row holds of this one
pub here : (P : Row → Type 0) (rows : List Row) (i : ℕ) (row : Row) → i < length rows → row ≡ get_or rows i row
    → AllByRecursion P rows → P row
here P [] i row within is all = absurd (omega (arith, within))
here P (r ∷ rows) zero row within is all = subst P (sym is) all.0
here P (r ∷ rows) (suc i) row within is all = here P rows i row (omega (arith, within)) is all.1

-- one row more is shown
module _ {X : Type 0} (f : Row → X) (P : Row → Type 0) (rows : List Row) (i : ℕ) (row : Row) (within : i < length rows)
    (is : row ≡ get_or rows i row) where
  one_more : take (i + 1) rows ≡ take i rows ++ row ∷ []
  one_more = ap (λ n. take n rows) (add-one i) ∙ take-suc rows i row within ∙ ap (λ r. take i rows ++ r ∷ []) (sym is)

  pub shown_next : (found : List X) (x : X) → (found ≡ map f (take i rows)) × AllByRecursion P (take i rows)
      → (x ≡ f row) × P row
      → (found ++ x ∷ [] ≡ map f (take (i + 1) rows)) × AllByRecursion P (take (i + 1) rows)
  shown_next found x before now =
      let shown = map-append f (take i rows) (row ∷ []) in (
        ap (λ xs. xs ++ x ∷ []) before.0 ∙ ap (λ y. map f (take i rows) ++ y ∷ []) now.0 ∙ sym shown ∙ ap (map f)
            (sym one_more),
        subst (AllByRecursion P) (sym one_more) (more P (take i rows) row before.1 now.1),
      )
