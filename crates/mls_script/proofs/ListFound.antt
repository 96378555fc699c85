-- What is read is what stands there: values, lists of them, and new values of attributes.
use Rattle.std.proofs.Common.{◌≡◌, ◌+◌, ◌<◌, true, List, [], ◌∷◌, ◌++◌, length, drop, Option, Some, None, Ok, inl, inr, sym, ap, ◌∙◌, subst, arith, length-append, codes, bytes_eq}
use Rattle.std.specs.Prelude.{⊤}
use Rattle.std.specs.List.{AllByRecursion}
use Rattle.std.proofs.Math.ListN.{drop_of_length-le}
use Rattle.std.proofs.lemmas.Bool.{cases_Bool}
use Rattle.std.proofs.lemmas.List.{drop_more}
use Rattle.std.proofs.lemmas.Option.{slice_get-get_or}
use Rattle.std.proofs.lemmas.Slice.Eq.{bytes_eq-Decides}
use Rattle.mls_lattice.specs.Policy.{Name}
use Rattle.mls_lattice.proofs.EachLemmas.{all_if}
use Rattle.mls_scheme.specs.declared.value.Value.{Value}
use Rattle.mls_scheme.specs.declared.value.Value.TheVariants as value
use Rattle.mls_scheme.specs.Fits.{HaveKinds}
use Rattle.mls_scheme.specs.Scheme.{Attribute, Scheme, no_attribute}
use Rattle.mls_tokens.specs.declared.token.Token.{Token}
use Rattle.mls_tokens.specs.declared.token.Token.TheVariants.{Word, Int, Text, Sign}
use Rattle.mls_tokens.specs.Text.{separated}
use Rattle.mls_parser.specs.declared.fault.TextCause.TheVariants as cause
use Rattle.mls_parser.specs.Noted.{State, word_at}
use Rattle.mls_parser.specs.ReadList.{items_at}
use Rattle.mls_parser.proofs.FoundSteps.{Found, found_next, word_read, any_read}
use Rattle.mls_parser.proofs.OrderLemmas.{AllFit, behind}
use Rattle.mls_parser.proofs.OrderLemmas as order
use Rattle.mls_parser.proofs.ListFound.{same_number}
use Rattle.mls_parser.proofs.ValueLemmas.{AreAssigned}
use Rattle.mls_parser.proofs.ValueLemmas as values
use Rattle.mls_parser.proofs.PassedLemmas.{IsSpelled}
use Rattle.mls_translang.specs.Event.{Sets, SetsFit, HasSomeKind}
use Rattle.mls_script.specs.ReadList.{value_of_token, PlacedValue, value_at, fits_attribute, attribute_at, are_as_many, item_at, list_at, set_at, sets_at}
use Rattle.mls_script.specs.Tokens.{value_token, list_tokens, set_tokens}
use Rattle.mls_script.proofs.KindLemmas.{value_kind}

-- ---- values

value_is : (t : Token) (v : Option Value) → value_of_token t ≡ Some v → t ≡ value_token v
value_is (Word w) v e =
    elim (cases_Bool (bytes_eq w (codes "null"))) [
      | inl null ↦ let same : None ≡ v = let h = rw null at e in cc
          in ap (λ (x : Name). Word x) ((bytes_eq-Decides w (codes "null")).0 null) ∙ ap value_token same
      | inr other ↦ absurd (let h = rw other at e in cc)
    ]
value_is (Int n) v e = let same : Some (value.Int n) ≡ v = cc in ap value_token same
value_is (Text s) v e = let same : Some (value.Text s) ≡ v = cc in ap value_token same
value_is (Sign s) v e = absurd cc

pub record IsValue (ts : List Token) (v : PlacedValue) : Type 0 where
  pub tokens : ts ≡ value_token v.0 ∷ []
  pub kind : HasSomeKind v.0

value_read : (s : State) (x : PlacedValue × State) → value_at s ≡ Ok x → Found IsValue s x
value_read s x e =
    let h = any_read value_of_token s x e in
    record {
      tokens = h.tokens;
      passed = h.passed;
      right = λ none a.
          let r = h.right none a in
          let is = value_is r.1.0 x.0.0 r.1.1 in
          (r.0, record { tokens = r.1.2 ∙ ap (λ t. t ∷ []) is; kind = value_kind x.0.0 (subst IsSpelled is r.1.3) });
    }

-- ---- lists

abbrev pub value_tokens : Option Value → List Token
value_tokens v = value_token v ∷ []

-- one for each of some attributes, of its kind; or any
abbrev pub AreFor : Option (List Attribute) → List (Option Value) → Type 0
AreFor None vs = ⊤
AreFor (Some attributes) vs = HaveKinds attributes vs

-- of the kind of its attribute
pub record IsRightValue (o : Option Attribute) (v : Option Value) : Type 0 where
  pub kind : HasSomeKind v
  pub fits : fits_attribute o v ≡ true

right_value : (o : Option Attribute) (v : PlacedValue) (ts : List Token) → fits_attribute o v.0 ≡ true → IsValue ts v
    → (ts ≡ value_tokens v.0) × IsRightValue o v.0
right_value o v ts fit r = (r.tokens, record { kind = r.kind; fits = fit })

module _ (attributes : Option (List Attribute)) where
  abbrev IsItem : List (Option Value) → Option Value → Type 0
  IsItem front v = IsRightValue (attribute_at attributes (length front)) v

  some_kinds : (front vs : List (Option Value)) → AllFit behind IsItem front vs → AllByRecursion HasSomeKind vs
  some_kinds front [] h = tt
  some_kinds front (v ∷ vs) h = (h.0.kind, some_kinds (behind front v) vs h.1)

have_kinds : (attributes : List Attribute) (front vs : List (Option Value)) → length front + length vs
    ≡ length attributes → AllFit behind (IsItem (Some attributes)) front vs
    → HaveKinds (drop (length front) attributes) vs
have_kinds attributes front [] n h = subst (λ as'. HaveKinds as' []) (sym (drop_of_length-le attributes (let m = n
    in omega (arith, m)))) tt
have_kinds attributes front (v ∷ vs) n h =
    let at = length front in
    let lt : at < length attributes = omega (arith, n) in
    let longer : length (behind front v) ≡ at + 1 = length-append front (v ∷ []) in
    let here = ap (λ o. fits_attribute o v) (sym (slice_get-get_or attributes at no_attribute lt)) ∙ h.0.fits in
    let others = have_kinds attributes (behind front v) vs (omega (arith, n, longer)) h.1 in
    subst (λ as'. HaveKinds as' (v ∷ vs)) (sym (drop_more attributes at no_attribute lt)) (
      here,
      subst (λ k. HaveKinds (drop k attributes) vs) longer others,
    )

are_for : (attributes : Option (List Attribute)) (vs : List (Option Value)) → are_as_many attributes (length vs) ≡ true
    → AllFit behind (IsItem attributes) [] vs → AreFor attributes vs
are_for None vs enough h = tt
are_for (Some attributes) vs enough h = have_kinds attributes [] vs (let n = same_number (length vs)
    (length attributes) enough in omega (arith, n)) h

module _ (attributes : Option (List Attribute)) where
  pub record IsList (ts : List Token) (vs : List (Option Value)) : Type 0 where
    pub tokens : ts ≡ list_tokens vs
    pub kinds : AllByRecursion HasSomeKind vs
    pub fits : AreFor attributes vs

  pub list_read : (s : State) (x : List (Option Value) × State) → list_at attributes s ≡ Ok x → Found IsList s x
  unfolding item_at list_at
  list_read s x e =
      let read = values.item_read value_at (λ v. v.0) (λ v. v.1)
      (λ a v. fits_attribute a v.0) value_tokens IsRightValue IsValue value_read right_value
      (attribute_at attributes) in
      let h = order.list_read (item_at attributes) value_tokens (IsItem attributes) read (are_as_many attributes) s x e
      in
      record {
        tokens = h.tokens;
        passed = h.passed;
        right = λ none a.
            let r = h.right none a in (
              r.0,
              record {
                tokens = r.1.tokens;
                kinds = some_kinds attributes [] x.0 r.1.fit;
                fits =
                    are_for attributes x.0 r.1.enough r.1.fit;
              },
            );
      }

-- ---- new values

module _ (scheme : Scheme) where
  pub record AreNew (ts : List Token) (xs : Sets) : Type 0 where
    pub tokens : ts ≡ Word (codes "set") ∷ separated (set_tokens scheme) xs
    pub fits : SetsFit scheme xs

  are_new : (ts : List Token) (xs : Sets) → AreAssigned value_tokens IsRightValue scheme ts xs
      → AreNew (Word (codes "set") ∷ ts) xs
  are_new ts xs r = record {
    tokens = λ i. Word (codes "set") ∷ r.tokens i;
    fits = record {
      some = r.some;
      known = all_if _ _ (λ x h. h.0) xs r.each;
      distinct = r.apart;
      kinds =
          all_if _ _ (λ x h. h.1.fits) xs r.each;
    };
  }

  pub sets_read : (s : State) (x : Sets × State) → sets_at scheme s ≡ Ok x → Found AreNew s x
  unfolding set_at sets_at
  sets_read s =
      found_next AreNew (λ at ts xs. AreAssigned value_tokens IsRightValue scheme ts xs) s (word_at (codes "set") s)
      (λ w. items_at (set_at scheme) [] w.1) (word_read (codes "set") s)
      (λ w y e. values.sets_read value_at (λ v. v.0) (λ v. v.1)
      (λ a v. fits_attribute a v.0) value_tokens IsRightValue IsValue value_read right_value scheme w.1 y e)
      (λ at xs ts us word r. subst (λ l. AreNew (l ++ us) xs) (sym word) (are_new us xs r))
