-- Keys, values and cells that a base takes have a spelling.
use Rattle.std.proofs.Common.{◌≡◌, ℕ, suc, ◌+◌, ◌<◌, ◌≤◌, arith, Bool, true, false, cond, List, [], ◌∷◌, length, Option, Some, None, refl, ◌∙◌, nat_eq, IfSome, filter_map, true≢false, eqb-true}
use Rattle.std.specs.List.{AllByRecursion, AllZip}
use Rattle.std.proofs.lemmas.List.{length-map}
use Rattle.mls_scheme.specs.declared.value.Value.{Value}
use Rattle.mls_scheme.specs.declared.tuple.Element.{Element}
use Rattle.mls_scheme.specs.declared.place.Place.{Place}
use Rattle.mls_scheme.specs.Spelling.{HasSpelling, IsSpelledKey}
use Rattle.mls_scheme.specs.Scheme.{Attribute, Scheme, IsScheme, other_of}
use Rattle.mls_scheme.specs.Value.{is_kind, fits_kind}
use Rattle.mls_scheme.specs.Fits.{HaveKinds}
use Rattle.mls_scheme.proofs.KindLemmas.{fits-spelled, key-spelled}
use Rattle.mls_filterview.specs.declared.fragment.Node.{Node}
use Rattle.mls_filterview.specs.Fragment.{node_of, cells_of, cells_from, IsCellOf}
use Rattle.mls_updates.specs.Writes.{Key, Sets, has_null, root, set_element}
use Rattle.mls_updates.specs.Steps.{outline}

abbrev pub IsSpelled : Element → Type 0
IsSpelled e = IfSome e.value HasSpelling

-- ---- cells

module _ (n : Node) (p : Place) (key : p.key ≡ n.key) (key_class : p.key_class ≡ n.key_class) (class : p.class
    ≡ n.label) where
  cells_spelled : (k : ℕ) (es : List Element) → k + length es ≤ length n.pattern → AllByRecursion IsSpelled es
      → AllByRecursion (IsCellOf n) (cells_from k p es)
  cells_spelled k [] few h = tt
  cells_spelled k (e ∷ es) few h = by_class (nat_eq e.class p.class) refl (cells_spelled (suc k) es
      (omega (arith, few)) h.1)
    where
      by_class : (b : Bool) → nat_eq e.class p.class ≡ b → AllByRecursion (IsCellOf n) (cells_from (suc k) p es)
          → AllByRecursion (IsCellOf n) (cond b (record {
            key = p.key;
            key_class = p.key_class;
            attr = k;
            label =
                e.class;
            value = e.value;
          } ∷ cells_from (suc k) p es) (cells_from (suc k) p es))
      by_class true c rest = (
        record {
          key = key;
          key_class = key_class;
          label = eqb-true e.class p.class c ∙ class;
          attr = omega (arith, few);
          value = h.0;
        },
        rest,
      )
      by_class false c rest = rest

pub tuple_cells : (p : Place) (es : List Element) → AllByRecursion IsSpelled es
    → AllByRecursion (IsCellOf (node_of (p, es))) (cells_of (p, es))
tuple_cells p es h = cells_spelled (node_of (p, es)) p refl refl refl 0 es (let l = length-map es (λ e. e.class)
    in omega (arith, l)) h

-- ---- elements

pub root_spelled : (w : ℕ) (values : List (Option Value)) → AllByRecursion (λ v. IfSome v HasSpelling) values
    → AllByRecursion IsSpelled (root w values)
root_spelled w [] h = tt
root_spelled w (v ∷ vs) h = (h.0, root_spelled w vs h.1)

set_spelled : (w : ℕ) (sets : Sets) (i m : ℕ) → AllByRecursion (λ s. IfSome s.1 HasSpelling) sets
    → IsSpelled (set_element w sets i (record { value = None; class = m }))
set_spelled w [] i m h = tt
set_spelled w (s ∷ ss) i m h =
    elim (nat_eq s.0 i) as (λ b. IsSpelled (cond b (record { value = s.1; class = w })
    (set_element w ss i (record { value = None; class = m })))) [ true ↦ h.0 | false ↦ set_spelled w ss i m h.1 ]

pub outline_spelled : (w : ℕ) (sets : Sets) (k : ℕ) (ms : List ℕ) → AllByRecursion (λ s. IfSome s.1 HasSpelling) sets
    → AllByRecursion IsSpelled (outline w sets k ms)
outline_spelled w sets k [] h = tt
outline_spelled w sets k (m ∷ ms) h = (set_spelled w sets k m h, outline_spelled w sets (suc k) ms h)

-- ---- what a write names

-- values of the kinds of attributes
pub values_spelled : (ats : List Attribute) (vs : List (Option Value)) → HaveKinds ats vs
    → AllByRecursion (λ v. IfSome v HasSpelling) vs
values_spelled [] [] h = tt
values_spelled [] (v ∷ vs) h = absurd h
values_spelled (a ∷ as') [] h = absurd h
values_spelled (a ∷ as') (v ∷ vs) h = (fits-spelled v a.1.kind h.0, values_spelled as' vs h.1)

-- named attributes of a scheme
pub sets_spelled : (scheme : Scheme) → IsScheme scheme → (sets : Sets)
    → AllByRecursion (λ s. s.0 < length scheme.others) sets
    → AllByRecursion (λ s. fits_kind s.1 (other_of scheme s.0).1.kind ≡ true) sets
    → AllByRecursion (λ s. (s.0 < 15) × IfSome s.1 HasSpelling) sets
sets_spelled scheme is [] l h = tt
sets_spelled scheme is (s ∷ ss) l h = (
  (
    let few = is.few_others in let a = l.0 in omega (arith, few, a),
    fits-spelled s.1 (other_of scheme s.0).1.kind h.0,
  ),
  sets_spelled scheme is ss l.1 h.1,
)

pub sets_values : (sets : Sets) → AllByRecursion (λ s. (s.0 < 15) × IfSome s.1 HasSpelling) sets
    → AllByRecursion (λ s. IfSome s.1 HasSpelling) sets
sets_values [] h = tt
sets_values (s ∷ ss) h = (h.0.1, sets_values ss h.1)

-- a key of a scheme with no null
kinds_known : (ats : List Attribute) (key : Key) → has_null key ≡ false → HaveKinds ats key
    → AllZip (λ a v. is_kind v a.1.kind ≡ true) ats (filter_map (λ v. v) key)
kinds_known [] [] e h = tt
kinds_known [] (v ∷ vs) e h = absurd h
kinds_known (a ∷ as') [] e h = absurd h
kinds_known (a ∷ as') (None ∷ vs) e h = absurd (true≢false e)
kinds_known (a ∷ as') (Some v ∷ vs) e h = (h.0, kinds_known as' vs e h.1)

pub key_spelled : (scheme : Scheme) → IsScheme scheme → (key : Key) → has_null key ≡ false → HaveKinds scheme.keys key
    → IsSpelledKey (filter_map (λ v. v) key)
key_spelled scheme is key e h = key-spelled scheme _ is (kinds_known scheme.keys key e h)
