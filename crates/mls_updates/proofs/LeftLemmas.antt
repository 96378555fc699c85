-- What a call leaves, as its outcome says.
use Rattle.std.proofs.Common.{◌≡◌, ℕ, Bool, true, false, cond, ◌&&◌, List, [], ◌∷◌, Option, Some, None, refl, sym, ap, ◌∙◌, subst, is_some, option_map, unwrap_or, eq-eqb, ne_eqb}
use Rattle.std.specs.FinMap.{get, insert}
use Rattle.std.proofs.lemmas.Bool.{cond-true, cond-false, and_parts}
use Rattle.std.proofs.lemmas.Option.{none-some}
use Rattle.mls_lattice.specs.Labels.{Labels, below}
use Rattle.mls_scheme.specs.declared.tuple.Element.{Element}
use Rattle.mls_scheme.specs.Table.{Table, change}
use Rattle.mls_scheme.specs.declared.place.Place.{Place}
use Rattle.mls_scheme.specs.Scheme.{Scheme}
use Rattle.mls_scheme.specs.Writes.{key_of}
use Rattle.mls_filterview.specs.Content.{State, with_relation}
use Rattle.mls_filterview.specs.Stored.{with_class}
use Rattle.mls_updates.specs.declared.outcome.Outcome.{Outcome}
use Rattle.mls_updates.specs.declared.outcome.Outcome.TheVariants.{KeyNull}
use Rattle.mls_updates.specs.Outcome.{is_done}
use Rattle.mls_updates.specs.Writes.{Key, Sets, Write, Update, first_refusal, has_null, place, derived, update_in, written, own_refusals, below_refusals, refusals, changed}
use Rattle.mls_updates.specs.Calls.{IsLeft, IsWritten, classes_below}
use Rattle.mls_filterview.specs.Fragment.{classes}
use Rattle.mls_updates.proofs.PatternLemmas.{found_pattern}
use Rattle.mls_updates.proofs.StateLemmas.{same_state}

-- a refusal changed nothing
pub left_same : (relation : ℕ) (s t : State) (o p : Outcome) (new : Table) → o ≡ p → is_done o ≡ false → t ≡ s
    → IsLeft relation (written p new (s.now.db relation)) s t o
left_same relation s t o p new e d h = record {
  outcome = e;
  state = h ∙ sym (ap (λ q. with_relation s relation (cond (is_done q) new (s.now.db relation))) (sym e)
      ∙ ap (λ b. with_relation s relation (cond b new (s.now.db relation))) d ∙ same_state s relation);
}

pub left_done : (relation : ℕ) (s t : State) (o p : Outcome) (new : Table) → o ≡ p → is_done o ≡ true
    → t ≡ with_relation s relation new → IsLeft relation (written p new (s.now.db relation)) s t o
left_done relation s t o p new e d h = record {
  outcome = e;
  state = h ∙ sym (ap (λ q. with_relation s relation (cond (is_done q) new (s.now.db relation))) (sym e)
      ∙ ap (λ b. with_relation s relation (cond b new (s.now.db relation))) d);
}

-- the first refusal of a key without nulls, and of one with a null
past_key : (key : Key) (rs : List (Bool × Outcome)) → has_null key ≡ false
    → first_refusal ((has_null key, KeyNull) ∷ rs) ≡ first_refusal rs
unfolding first_refusal
past_key key rs h = cond-false (has_null key) KeyNull (first_refusal rs) h

at_key : (key : Key) (rs : List (Bool × Outcome)) → has_null key ≡ true
    → KeyNull ≡ first_refusal ((has_null key, KeyNull) ∷ rs)
unfolding first_refusal
at_key key rs h = sym (cond-true (has_null key) KeyNull (first_refusal rs) h)

null_key : (relation : ℕ) (s : State) (key : Key) (rs : List (Bool × Outcome)) (new : Table) → has_null key ≡ true
    → IsLeft relation (written (first_refusal ((has_null key, KeyNull) ∷ rs)) new (s.now.db relation)) s s KeyNull
null_key relation s key rs new h = left_same relation s s KeyNull _ new (at_key key rs h) refl refl

known_key : (relation : ℕ) (s t : State) (o : Outcome) (key : Key) (rs : List (Bool × Outcome)) (new : Table)
    → has_null key ≡ false
    → IsLeft relation (written (first_refusal rs) new (s.now.db relation)) s t o
    → IsLeft relation (written (first_refusal ((has_null key, KeyNull) ∷ rs)) new (s.now.db relation)) s t o
known_key relation s t o key rs new h l = subst (λ p. IsLeft relation (written p new (s.now.db relation)) s t o)
    (sym (past_key key rs h)) l

module _ (ls : Labels) (scheme : Scheme) (relation w : ℕ) (s : State) where
  abbrev T : Table
  T = s.now.db relation

  pub write_null : (wr : Write) → has_null (key_of wr) ≡ true → IsWritten ls scheme relation w wr s s KeyNull
  write_null wr h = null_key relation s (key_of wr) (refusals ls scheme w wr T) (changed ls scheme w wr T) h

  pub write_left : (wr : Write) (t : State) (o : Outcome) → has_null (key_of wr) ≡ false
      → IsLeft relation (written (first_refusal (refusals ls scheme w wr T)) (changed ls scheme w wr T) T) s t o
      → IsWritten ls scheme relation w wr s t o
  write_left wr t o h l = known_key relation s t o (key_of wr) (refusals ls scheme w wr T)
      (changed ls scheme w wr T) h l

  module _ (key : Key) (kc from : ℕ) (sets : Sets) (t : State) (o : Outcome) (h : has_null key ≡ false) where
    abbrev p : Place
    p = place key kc w

    -- the update, by whether it is one of the tuple of class w
    abbrev Updated : Bool → Type 0
    Updated b =
        IsLeft relation (written (first_refusal (cond b (own_refusals ls scheme w kc sets (get T p))
        (below_refusals ls scheme w kc from sets (get T (place key kc from)) (get T p))))
        (cond b (change (update_in p sets) T) (insert T p
        (derived w sets (unwrap_or (get T (place key kc from)) [])))) T) s t o

    pub own_left : from ≡ w → Updated true → IsWritten ls scheme relation w (Update key kc from sets) s t o
    own_left e l = write_left (Update key kc from sets) t o h (subst Updated (sym (eq-eqb from w e)) l)

    pub below_left : (from ≡ w → ⊥) → Updated false → IsWritten ls scheme relation w (Update key kc from sets) s t o
    below_left ne l = write_left (Update key kc from sets) t o h (subst Updated (sym (ne_eqb from w ne)) l)

-- ---- a lower tuple, by its classes

module _ (ls : Labels) (relation : ℕ) (p : Place) (from : ℕ) (s : State) where
  abbrev lower_found : Option (List Element)
  lower_found = get (s.now.db relation) (with_class p from)

  abbrev in_order : Bool
  in_order = below ls p.key_class from && below ls from p.class

  -- whether there is one
  pub below_found : (o : Option (List ℕ)) → o ≡ classes_below ls relation p from s → (is_some lower_found && in_order)
      ≡ is_some o
  below_found o h = by_order in_order lower_found ∙ ap is_some (sym h)
    where
      by_order : (b : Bool) (f : Option (List Element)) → (is_some f && b)
          ≡ is_some (cond b (option_map classes f) None)
      by_order true None = refl
      by_order true (Some es) = refl
      by_order false None = refl
      by_order false (Some es) = refl

  -- and which
  pub below_tuple : (xs : List ℕ) → Some xs ≡ classes_below ls relation p from s → (es : List Element)
      × (lower_found ≡ Some es) × (xs ≡ classes es) × (below ls p.key_class from ≡ true)
      × (below ls from p.class ≡ true)
  below_tuple xs h = by_order in_order refl h
    where
      by_order : (b : Bool) → in_order ≡ b → Some xs ≡ cond b (option_map classes lower_found) None
          → (es : List Element) × (lower_found ≡ Some es) × (xs ≡ classes es) × (below ls p.key_class from ≡ true)
          × (below ls from p.class ≡ true)
      by_order true e k =
          let f = found_pattern lower_found xs k in
          let q = and_parts _ _ e in
          (f.0, f.1, f.2, q.0, q.1)
      by_order false e k = absurd (none-some xs (sym k))
