-- The tests of subsumption, as they are computed.
use Rattle.std.proofs.Common.{◌≡◌, Bool, true, false, ◌||◌, ◌&&◌, not, List, [], ◌∷◌, length, Option, Some, None, refl, sym, ap, ◌∙◌, arith, is_some, is_none, ◌↔◌, true≢false}
use Rattle.std.proofs.lemmas.Bool.{false_from_ne_true, and_right}
use Rattle.mls_scheme.specs.declared.value.Value.{Value}
use Rattle.mls_scheme.specs.declared.tuple.Element.{Element}
use Rattle.mls_scheme.specs.declared.tuple.Tuple.{Tuple}
use Rattle.mls_scheme.specs.Tuple.{is_null}
use Rattle.mls_scheme.specs.Table.{place_of}
use Rattle.mls_filterview.specs.Subsumption.{Subsumes, same_element, covers, all_cover}
use Rattle.mls_filterview.specs.Filtering.{subsumes_tuple}
use Rattle.mls_filterview.proofs.SubsumptionLemmas.{same_element-true, subsumes_entry-true, subsumes_entry-from}

not_null : (v w : Option Value) → is_none v ≡ false → (is_some v && not (is_some w)) ≡ is_none w
not_null None w h = absurd (true≢false h)
not_null (Some v) None h = refl
not_null (Some v) (Some w) h = refl

pub covers-other : (a b : Element) → (a ≡ b → ⊥) → is_null a ≡ false → covers a b ≡ is_null b
covers-other a b ne h =
    ap (λ x. x || (is_some a.value && not (is_some b.value)))
    (false_from_ne_true (same_element a b) (λ t. ne (same_element-true a b t)))
    ∙ not_null a.value b.value h

pub all_cover-uneven : (as' bs : List Element) → (length as' ≡ length bs → ⊥) → all_cover as' bs ≡ false
all_cover-uneven [] [] h = absurd (h refl)
all_cover-uneven [] (b ∷ bs) h = refl
all_cover-uneven (a ∷ as') [] h = refl
all_cover-uneven (a ∷ as') (b ∷ bs) h = and_right (covers a b) (all_cover as' bs)
    (all_cover-uneven as' bs (λ e. h (omega arith)))

pub ruleset uneven = (all_cover-uneven)

-- ---- tuples

pub subsumes_tuple-is : (b : Bool) (s t : Tuple) → b ≡ subsumes_tuple s t → (b ≡ true) ↔ Subsumes s t
subsumes_tuple-is b s t e = (
  λ h. subsumes_entry-true (place_of 0 s, s.elements) (place_of 0 t, t.elements) (sym e ∙ h),
  λ h. e ∙ subsumes_entry-from (place_of 0 s, s.elements) (place_of 0 t, t.elements) h,
)
