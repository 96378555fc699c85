-- The elements that an update gives.
use Rattle.std.proofs.Common.{◌≡◌, ℕ, ◌<◌, ◌+◌, false, cond, List, [], ◌∷◌, map, length, Option, refl, sym, ap, ◌∙◌, subst, arith, inl, inr, nat_eq, ◌⊎◌, eqb-true, eq-eqb}
use Rattle.std.specs.List.{enumerate_from, AllByRecursion}
use Rattle.std.proofs.lemmas.Bool.{cases_Bool, cond-true, cond-false}
use Rattle.std.proofs.lemmas.List.{get_or-map, length-map}
use Rattle.std.proofs.lemmas.List.FromFn.{get_or-enumerate_from, length-enumerate_from}
use Rattle.mls_scheme.specs.declared.value.Value.{Value}
use Rattle.mls_scheme.specs.declared.tuple.Element.{Element}
use Rattle.mls_scheme.specs.Tuple.{at, null_element}
use Rattle.mls_filterview.specs.View.{IsAmong}
use Rattle.mls_updates.specs.Writes.{Sets, set_element, derived, updated}

-- ---- one item of a list

-- ---- one element

-- e is of class w, with a value that sets give attribute i
abbrev pub IsSet : ℕ → Sets → ℕ → Element → Type 0
IsSet w sets i e = (v : Option Value) × IsAmong (i, v) sets × (e ≡ record { value = v; class = w })

-- an element is set, or it stays
pub set_cases : (w : ℕ) (sets : Sets) (i : ℕ) (e : Element) → (set_element w sets i e ≡ e)
    ⊎ IsSet w sets i (set_element w sets i e)
set_cases w [] i e = inl refl
set_cases w (s ∷ ss) i e =
    elim (cases_Bool (nat_eq s.0 i)) [
      | inl b ↦ (let n = eqb-true s.0 i b in inr (s.1, inl (λ k. (sym n k, s.1)), cond-true _ _ _ b))
      | inr b ↦ (let same = cond-false (nat_eq s.0 i) (record { value = s.1; class = w }) (set_element w ss i e) b in
          elim (set_cases w ss i e) [ inl k ↦ inl (same ∙ k) | inr k ↦ inr (k.0, inr k.1, same ∙ k.2) ])
    ]

-- the first attribute that is named is set
pub some_set : (w n : ℕ) (sets : Sets) → 0 < length sets → AllByRecursion (λ s. s.0 < n) sets → (i : ℕ) × (i < n)
    × ((e : Element) → (set_element w sets i e).class ≡ w)
some_set w n [] l h = absurd (omega arith)
some_set w n (s ∷ ss) l h = (
  s.0,
  h.0,
  λ e. ap
      (λ b. (cond b (record { value = s.1; class = w }) (set_element w ss s.0 e)).class) (eq-eqb s.0 s.0 refl),
)

-- ---- elements by number

-- each element changed, by its number
length_numbered : (f : ℕ × Element → Element) (es : List Element) → length (map f (enumerate_from 0 es)) ≡ length es
length_numbered f es = length-map (enumerate_from 0 es) f ∙ length-enumerate_from 0 es

at_numbered : (f : ℕ × Element → Element) (es : List Element) (i : ℕ) → i < length es
    → at (map f (enumerate_from 0 es)) i ≡ f (i, at es i)
at_numbered f es i l =
    let n : 0 + i ≡ i = omega arith in
    get_or-map f (enumerate_from 0 es) i (0, null_element) null_element
    (subst (λ k. i < k) (sym (length-enumerate_from 0 es)) l)
    ∙ ap f (get_or-enumerate_from 0 es i (0, null_element) l) ∙ (λ k. f (n k, at es i))

pub length-derived : (w : ℕ) (sets : Sets) (es : List Element) → length (derived w sets es) ≡ length es
unfolding derived
length-derived w sets es = length_numbered _ es

pub length-updated : (w : ℕ) (sets : Sets) (es : List Element) → length (updated w sets es) ≡ length es
unfolding updated
length-updated w sets es = length_numbered _ es

pub at-derived : (w : ℕ) (sets : Sets) (es : List Element) (i : ℕ) → i < length es → at (derived w sets es) i
    ≡ set_element w sets i (at es i)
unfolding derived
at-derived w sets es i l = at_numbered _ es i l

pub at-updated : (w : ℕ) (sets : Sets) (es : List Element) (i : ℕ) → i < length es → at (updated w sets es) i
    ≡ cond (nat_eq (at es i).class w) (set_element w sets i (at es i)) (at es i)
unfolding updated
at-updated w sets es i l = at_numbered _ es i l

pub derived_cases : (w : ℕ) (sets : Sets) (es : List Element) (i : ℕ) → i < length es
    → (at (derived w sets es) i ≡ at es i) ⊎ IsSet w sets i (at (derived w sets es) i)
derived_cases w sets es i l =
    let same = at-derived w sets es i l in
    elim (set_cases w sets i (at es i)) [ inl s ↦ inl (same ∙ s) | inr s ↦ inr (s.0, s.1, same ∙ s.2) ]

-- an element of another class stays too
pub updated_other : (w : ℕ) (sets : Sets) (es : List Element) (i : ℕ) → i < length es → nat_eq (at es i).class w ≡ false
    → at (updated w sets es) i ≡ at es i
updated_other w sets es i l b = at-updated w sets es i l ∙ cond-false _ _ _ b

pub updated_cases : (w : ℕ) (sets : Sets) (es : List Element) (i : ℕ) → i < length es
    → (at (updated w sets es) i ≡ at es i) ⊎ (((at es i).class ≡ w) × IsSet w sets i (at (updated w sets es) i))
updated_cases w sets es i l =
    elim (cases_Bool (nat_eq (at es i).class w)) [
      | inl b ↦ (let same = at-updated w sets es i l ∙ cond-true _ _ _ b in
          elim (set_cases w sets i (at es i)) [
            | inl s ↦ inl (same ∙ s)
            | inr s ↦ inr (
              eqb-true _ _ b,
              (s.0, s.1, same ∙ s.2),
            )
          ])
      | inr b ↦ inl (updated_other w sets es i l b)
    ]

-- classes stay
pub updated_class : (w : ℕ) (sets : Sets) (es : List Element) (i : ℕ) → i < length es → (at (updated w sets es) i).class
    ≡ (at es i).class
updated_class w sets es i l = elim (updated_cases w sets es i l) [
  | inl s ↦ ap (λ e. e.class) s
  | inr s ↦ ap
      (λ e. e.class) s.1.2 ∙ sym s.0
]
