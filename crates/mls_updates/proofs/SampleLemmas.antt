-- Small writes: what they make of a tuple, and which refusal comes first.
use Rattle.std.proofs.Common.{◌≡◌, ℕ, true, false, cond, not, ◌||◌, List, [], ◌∷◌, Option, Some, None, refl, ap, codes}
use Rattle.std.proofs.lemmas.Bool.{and_from}
use Rattle.mls_lattice.specs.Labels.{Labels, below}
use Rattle.mls_lattice.proofs.LatticeLemmas.{below-refl}
use Rattle.mls_scheme.specs.declared.value.Value.{Value}
use Rattle.mls_scheme.specs.declared.value.Value.TheVariants.{Text}
use Rattle.mls_scheme.specs.declared.tuple.Element.{Element}
use Rattle.mls_scheme.specs.Scheme.{Scheme, other_of}
use Rattle.mls_scheme.specs.Fits.{in_interval}
use Rattle.mls_updates.specs.declared.outcome.Outcome.TheVariants.{Done, KeyNull, Duplicate, NoTuple, NullAboveKey, Inherited, OutOfInterval, AlreadyDerived}
use Rattle.mls_updates.specs.Writes.{Key, Sets, first_refusal, outcome_of, root, derived, updated, root_refusals, own_refusals, below_refusals, drop_refusals}

abbrev word : List ℕ → Option Value
word text = Some (Text text)

abbrev pair : Option Value → ℕ → Option Value → ℕ → List Element
pair v k w m = record { value = v; class = k } ∷ record { value = w; class = m } ∷ []

abbrev exploration : List Element
exploration = pair (word (codes "Exploration")) 0 (word (codes "Talos")) 0

abbrev rigel : List Element
rigel = pair (word (codes "Exploration")) 0 (word (codes "Rigel")) 2

-- ---- elements

a_root_has_one_class : root 2 (word (codes "Trade") ∷ None ∷ []) ≡ pair (word (codes "Trade")) 2 None 2
a_root_has_one_class = refl

an_update_from_below_keeps_the_other_elements : derived 2 ((0, word (codes "Spying")) ∷ []) exploration
    ≡ pair (word (codes "Spying")) 2 (word (codes "Talos")) 0
unfolding derived
an_update_from_below_keeps_the_other_elements = refl

an_update_reaches_the_higher_tuple : updated 0 ((0, word (codes "Diplomacy")) ∷ []) rigel
    ≡ pair (word (codes "Diplomacy")) 0 (word (codes "Rigel")) 2
unfolding updated
an_update_reaches_the_higher_tuple = refl

an_update_leaves_higher_elements : updated 0 ((1, None) ∷ []) rigel ≡ rigel
unfolding updated
an_update_leaves_higher_elements = refl

-- ---- refusals

module _ (ls : Labels) (scheme : Scheme) (up : below ls 0 2 ≡ true) where
  abbrev known : Key
  known = word (codes "Enterprise") ∷ []

  abbrev trade : Sets
  trade = (0, word (codes "Trade")) ∷ []

  abbrev nulled : Sets
  nulled = (1, None) ∷ []

  a_null_key_comes_first : outcome_of (None ∷ []) (root_refusals ls scheme 0 (Some exploration)) ≡ KeyNull
  unfolding first_refusal
  a_null_key_comes_first = refl

  a_root_is_inserted_once : outcome_of known (root_refusals ls scheme 2 (Some exploration)) ≡ Duplicate
  unfolding first_refusal
  a_root_is_inserted_once = refl

  an_element_of_a_lower_class_is_inherited : outcome_of known (own_refusals ls scheme 2 0 trade (Some rigel))
      ≡ Inherited
  unfolding first_refusal
  an_element_of_a_lower_class_is_inherited = ap (λ b. cond (not b) NoTuple Inherited)
      (and_from _ _ up (below-refl ls 2))

  no_null_stands_above_the_key : outcome_of known (own_refusals ls scheme 2 0 nulled (Some rigel)) ≡ NullAboveKey
  unfolding first_refusal
  no_null_stands_above_the_key = ap (λ b. cond (not b) NoTuple NullAboveKey) (and_from _ _ up (below-refl ls 2))

  a_null_stands_at_the_key_class : outcome_of known (own_refusals ls scheme 0 0 nulled (Some exploration)) ≡ Done
  unfolding first_refusal
  a_null_stands_at_the_key_class = ap (λ b. cond (not b) NoTuple Done) (and_from _ _ (below-refl ls 0)
      (below-refl ls 0))

  an_entity_has_one_tuple_of_a_class : outcome_of known (below_refusals ls scheme 2 0 0 nulled (Some exploration)
      (Some rigel)) ≡ AlreadyDerived
  unfolding first_refusal
  an_entity_has_one_tuple_of_a_class = ap (λ b. cond (not b) NoTuple AlreadyDerived) (and_from _ _ (below-refl ls 0) up)

  a_class_outside_the_interval_is_refused : in_interval ls 2 (other_of scheme 0) ≡ false
      → outcome_of known (below_refusals ls scheme 2 0 0 trade (Some exploration) None) ≡ OutOfInterval
  unfolding first_refusal
  a_class_outside_the_interval_is_refused out = λ i. cond (not (and_from _ _ (below-refl ls 0) up i)) NoTuple
      (cond (not (out i) || false) OutOfInterval Done)

  what_is_not_there_is_not_deleted : outcome_of known (drop_refusals ls scheme 0 0 None) ≡ NoTuple
  unfolding first_refusal
  what_is_not_there_is_not_deleted = refl
