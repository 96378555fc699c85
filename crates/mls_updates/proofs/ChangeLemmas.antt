-- What a look-up finds in a table after a change.
use Rattle.std.proofs.Common.{◌≡◌, Bool, true, cond, List, Option, Some, None, refl, sym, ap, ◌∙◌, inl, inr, ◌⊎◌, option_map}
use Rattle.std.specs.FinMap.{get, insert, retain_keys}
use Rattle.std.proofs.lemmas.Bool.{cases_Bool, cond-true, cond-false, false_from_ne_true}
use Rattle.std.proofs.lemmas.Option.{same_Some, none-some}
use Rattle.mls_scheme.specs.declared.tuple.Element.{Element}
use Rattle.mls_scheme.specs.Table.{Table, change}
use Rattle.mls_scheme.specs.declared.place.Place.{Place}
use Rattle.mls_scheme.proofs.OrderLemmas.{is_place, is_place-true, is_place-same}
use Rattle.mls_scheme.proofs.TableLemmas.{get_put, get_kept, get_change}

-- ---- a tuple more

pub get_new : (T : Table) (p : Place) (es : List Element) (q : Place) → q ≡ p → get (insert T p es) q ≡ Some es
get_new T p es q e = get_put T p es q ∙ cond-true _ _ _ (is_place-same q p e)

pub get_old : (T : Table) (p : Place) (es : List Element) (q : Place) → (q ≡ p → ⊥) → get (insert T p es) q ≡ get T q
get_old T p es q ne = get_put T p es q ∙ cond-false _ _ _ (false_from_ne_true (is_place q p)
    (λ b. ne (is_place-true q p b)))

-- what was found is found again where the place was free
pub get_again : (T : Table) (p : Place) (es : List Element) → get T p ≡ None → (q : Place) (fs : List Element)
    → get T q ≡ Some fs → get (insert T p es) q ≡ Some fs
get_again T p es free q fs h = get_old T p es q (λ e. none-some fs (sym free ∙ ap (get T) (sym e) ∙ h)) ∙ h

pub inserted_cases : (T : Table) (p : Place) (es : List Element) (q : Place) (fs : List Element) → get (insert T p es) q
    ≡ Some fs → ((q ≡ p) × (fs ≡ es)) ⊎ (get T q ≡ Some fs)
inserted_cases T p es q fs h =
    let found : cond (is_place q p) (Some es) (get T q) ≡ Some fs = sym (get_put T p es q) ∙ h in
    elim (cases_Bool (is_place q p)) [
      | inl b ↦ inl (is_place-true q p b, sym (same_Some es fs (sym (cond-true _ _ _ b) ∙ found)))
      | inr b ↦ inr (sym (cond-false _ _ _ b) ∙ found)
    ]

-- ---- fewer tuples

pub kept_cases : (T : Table) (test : Place → Bool) (q : Place) (fs : List Element) → get (retain_keys T test) q
    ≡ Some fs → (test q ≡ true) × (get T q ≡ Some fs)
kept_cases T test q fs h =
    let found : cond (test q) (get T q) None ≡ Some fs = sym (get_kept T test q) ∙ h in
    elim (cases_Bool (test q)) [
      | inl b ↦ (b, sym (cond-true _ _ _ b) ∙ found)
      | inr b ↦ absurd (none-some fs (sym (cond-false _ _ _ b) ∙ found))
    ]

-- ---- tuples changed in their places

pub changed_cases : (f : Place → List Element → List Element) (T : Table) (q : Place) (fs : List Element)
    → get (change f T) q ≡ Some fs → (es : List Element) × (get T q ≡ Some es) × (fs ≡ f q es)
changed_cases f T q fs h = by_old (get T q) refl
  where
    by_old : (o : Option (List Element)) → get T q ≡ o → (es : List Element) × (get T q ≡ Some es) × (fs ≡ f q es)
    by_old None e = absurd (none-some fs (sym (ap (option_map (f q)) e) ∙ sym (get_change f T q) ∙ h))
    by_old (Some es) e = (
      es,
      e,
      sym (same_Some (f q es) fs (sym (ap (option_map (f q)) e) ∙ sym (get_change f T q)
          ∙ h)),
    )
