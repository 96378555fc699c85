-- What is seen of an older store, once it is widened.
use Rattle.std.proofs.Common.{◌≡◌, ℕ, zero, suc, ◌<◌, ◌≤◌, true, List, [], ◌∷◌, length, Option, None, Some, option_map, refl, ap, subst, ◌∙◌, arith}
use Rattle.std.specs.List.{AllZip}
use Rattle.std.specs.FinMap.{get}
use Rattle.mls_lattice.specs.Policy.{Policy, labels_of}
use Rattle.mls_scheme.specs.declared.value.Value.{Value}
use Rattle.mls_scheme.specs.Value.{is_kind}
use Rattle.mls_scheme.specs.declared.tuple.Element.{Element}
use Rattle.mls_scheme.specs.declared.place.Place.{Place}
use Rattle.mls_scheme.specs.Scheme.{Attribute, Schemes, scheme_of, no_scheme}
use Rattle.mls_scheme.specs.Extending.{schemes_before, Extends}
use Rattle.mls_scheme.specs.Fits.{Fits, in_interval}
use Rattle.mls_scheme.proofs.OlderLemmas.{before_long, extends_few}
use Rattle.mls_filterview.specs.Content.{Content}
use Rattle.mls_filterview.proofs.WidenLemmas.{view_of_widened_table}
use Rattle.mls_tables.specs.Rows.{Tables}
use Rattle.mls_rows.specs.Holding.{Holds}
use Rattle.mls_fragments.specs.Migrating.{more, IsSoundBefore, IsWidenedContent, WidenedIsSeenAlike}

past_all : (schemes : Schemes) (relation : ℕ) → length schemes ≤ relation → scheme_of schemes relation ≡ no_scheme
past_all [] relation l = refl
past_all (s ∷ schemes) zero l = absurd (omega (arith, l))
past_all (s ∷ schemes) (suc relation) l = past_all schemes relation (omega (arith, l))

-- a key of no attributes has no value
no_key : (P : Attribute → Value → Type 0) (key : List Value) → AllZip P [] key → 0 < length key → ⊥
no_key P [] h some = omega (arith, some)
no_key P (v ∷ key) h some = h

module _ (policy : Policy) (schemes : Schemes) (text : List ℕ) (labels : ℕ) (counts : List ℕ) (rows : Tables)
    (had now : Content) (extends : Extends policy schemes text counts) (holds : Holds rows had)
    (sound : IsSoundBefore policy schemes labels counts had) (wide : IsWidenedContent schemes counts had now) where
  -- an older store has no tuple of a new relation
  had_none : (relation : ℕ) → length counts ≤ relation → (p : Place) (o : Option (List Element))
      → get (had.db relation) p ≡ o → o ≡ None
  had_none relation l p None is = refl
  had_none relation l p (Some es) is =
      let long = before_long counts schemes (extends_few policy schemes text counts extends) in
      let none = past_all (schemes_before counts schemes) relation (omega (arith, l, long)) in
      let fits = subst (λ s. Fits (labels_of policy) s p es) none ((sound.content relation).fits p es is) in
      absurd (no_key (λ (a : Attribute) (v : Value). (is_kind v a.1.kind ≡ true)
      × (in_interval (labels_of policy) p.key_class a ≡ true)) p.key fits.key
      ((holds.tables relation).shared p es is).key.count.some)

  now_none : (relation : ℕ) → length counts ≤ relation → (p : Place) → get (now.db relation) p ≡ None
  now_none relation l p = wide.tables relation p ∙ ap (option_map _)
      (had_none relation l p (get (had.db relation) p) refl)

pub seen_alike : WidenedIsSeenAlike
seen_alike policy schemes text labels counts rows had now extends holds sound wide = record {
  older = λ relation c t. view_of_widened_table (labels_of policy) (more schemes counts relation) (had.db relation)
      (now.db relation) (wide.tables relation) c t;
  newer = now_none policy schemes text labels counts rows had now extends holds sound wide;
}
