-- The test of one entity, and the equations that it decides.
use Rattle.std.proofs.Common.{◌≡◌, ℕ, Bool, true, false, refl, sym, ap, ◌∙◌, ◌↔◌, true≢false}
use Rattle.std.proofs.lemmas.Bool.{false_from_ne_true}
use Rattle.mls_scheme.specs.declared.place.Place.{Place}
use Rattle.mls_scheme.proofs.OrderLemmas.{is_place-true, is_place-same}
use Rattle.mls_filterview.specs.Stored.{with_class, is_entity}

module _ {K : Type 0} {k l : K} {m n : ℕ} (b : Bool) where
  -- a test of keys decides where the key classes are one
  pub key_decides : m ≡ n → (b ≡ true) ↔ (k ≡ l) → (b ≡ true) ↔ ((k ≡ l) × (m ≡ n))
  key_decides e h = ((λ t. (h.0 t, e)), (λ p. h.1 p.0))

  pub class_decides : b ≡ false → (m ≡ n → ⊥) → (b ≡ true) ↔ ((k ≡ l) × (m ≡ n))
  class_decides f ne = ((λ t. absurd (true≢false (sym t ∙ f))), (λ p. absurd (ne p.1)))

pub entity_decides : (p q : Place) → (is_entity p q ≡ true) ↔ ((p.key ≡ q.key) × (p.key_class ≡ q.key_class))
entity_decides p q = (
  λ h. (let e = is_place-true p (with_class q p.class) h in (ap (λ x. x.key) e, ap (λ x. x.key_class) e)),
  λ h. is_place-same p (with_class q p.class) (λ i. record { key = h.0 i; key_class = h.1 i; class = p.class }),
)

-- what decides the same is the test
pub entity_is : (p q : Place) (b : Bool) → (b ≡ true) ↔ ((p.key ≡ q.key) × (p.key_class ≡ q.key_class))
    → b ≡ is_entity p q
entity_is p q true h = sym ((entity_decides p q).1 (h.0 refl))
entity_is p q false h = sym (false_from_ne_true (is_entity p q)
    (λ t. true≢false (sym (h.1 ((entity_decides p q).0 t)))))
