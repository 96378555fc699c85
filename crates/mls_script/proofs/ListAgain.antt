-- What stands there is read: values, lists of them, and new values of attributes.
use Rattle.std.proofs.Common.{◌≡◌, ◌+◌, ◌<◌, ◌==◌, true, List, [], ◌∷◌, ◌++◌, length, drop, Option, Some, None, refl, sym, ap, ◌∙◌, subst, arith, length-append, codes}
use Rattle.std.specs.Prelude.{⊤}
use Rattle.std.specs.Cmp.{nat_eq_equiv}
use Rattle.std.proofs.lemmas.List.{drop_more}
use Rattle.std.proofs.lemmas.Option.{slice_get-get_or}
use Rattle.mls_lattice.proofs.EachLemmas.{all_zip}
use Rattle.mls_scheme.specs.declared.value.Value.{Value}
use Rattle.mls_scheme.specs.declared.value.Value.TheVariants as value
use Rattle.mls_scheme.specs.Fits.{HaveKinds}
use Rattle.mls_scheme.specs.Scheme.{Attribute, Scheme, IsScheme, no_attribute}
use Rattle.mls_tokens.specs.declared.sign.Sign.TheVariants.{RightParen, Comma}
use Rattle.mls_tokens.specs.declared.token.Token.{Token}
use Rattle.mls_tokens.specs.declared.token.Token.TheVariants.{Word}
use Rattle.mls_tokens.specs.Passing.{is_sign}
use Rattle.mls_tokens.specs.Scanning.{without_places}
use Rattle.mls_tokens.specs.Text.{separated}
use Rattle.mls_tokens.proofs.NextLemmas.{NotNext}
use Rattle.mls_parser.specs.declared.fault.TextCause.TheVariants as cause
use Rattle.mls_parser.specs.Noted.{State}
use Rattle.mls_parser.specs.ReadList.{items_at}
use Rattle.mls_parser.proofs.NextLemmas.{Gets, Same, Is, gets_more, word_gets, any_gets}
use Rattle.mls_parser.proofs.OrderLemmas.{AllFit, behind}
use Rattle.mls_parser.proofs.OrderLemmas as order
use Rattle.mls_parser.proofs.ValueLemmas as values
use Rattle.mls_translang.specs.Event.{Sets, SetsFit}
use Rattle.mls_script.specs.ReadList.{value_of_token, value_at, fits_attribute, attribute_at, are_as_many, item_at, list_at, set_at, sets_at}
use Rattle.mls_script.specs.Tokens.{value_token, list_tokens, set_tokens}
use Rattle.mls_script.proofs.ListFound.{value_tokens, AreFor}

-- ---- values

value_again : (v : Option Value) → value_of_token (value_token v) ≡ Some v
value_again None = refl
value_again (Some (value.Int n)) = refl
value_again (Some (value.Text s)) = refl

value_gets : (v : Option Value) (us : List Token) (s : State) → without_places s.1.placed ≡ value_token v ∷ us
    → Gets (value_at s) s (Is v) us
value_gets v us s k = any_gets value_of_token v (value_token v) us (value_again v) s k

-- ---- lists

no_paren : (v : Option Value) (us : List Token) → NotNext (is_sign RightParen) (value_token v ∷ us)
no_paren None us = refl
no_paren (Some (value.Int n)) us = refl
no_paren (Some (value.Text s)) us = refl

abbrev Any : List Token → Type 0
Any ts = ⊤

abbrev Fits : Option Attribute → Option Value → Type 0
Fits o v = fits_attribute o v ≡ true

fit_gets : (o : Option Attribute) (v : Option Value) (us : List Token) (s : State) → Fits o v → Any us
    → without_places s.1.placed ≡ value_tokens v ++ us → Gets (value_at s) s (λ x. (x.0 ≡ v) × Fits o x.0) us
fit_gets o v us s fit any k =
    let g = value_gets v us s k in
    record {
      value = g.value;
      rest = g.rest;
      is = g.is;
      holds = (g.holds, ap (fits_attribute o) g.holds ∙ fit);
      tokens =
          g.tokens;
      stop = g.stop;
    }

abbrev FitsItem : Option (List Attribute) → List (Option Value) → Option Value → Type 0
FitsItem attributes front v = Fits (attribute_at attributes (length front)) v

kinds_fit : (attributes : List Attribute) (front vs : List (Option Value)) → length front + length vs
    ≡ length attributes → HaveKinds (drop (length front) attributes) vs
    → AllFit behind (FitsItem (Some attributes)) front vs
kinds_fit attributes front [] c h = tt
kinds_fit attributes front (v ∷ vs) c h =
    let at = length front in
    let lt : at < length attributes = omega (arith, c) in
    let k = subst (λ as'. HaveKinds as' (v ∷ vs)) (drop_more attributes at no_attribute lt) h in
    let longer : length (behind front v) ≡ at + 1 = length-append front (v ∷ []) in (
      ap (λ o. fits_attribute o v) (slice_get-get_or attributes at no_attribute lt) ∙ k.0,
      kinds_fit attributes (behind front v) vs (omega (arith, c, longer))
          (subst (λ l. HaveKinds (drop l attributes) vs) (sym longer) k.1),
    )

any_fit : (front vs : List (Option Value)) → AllFit behind (FitsItem None) front vs
any_fit front [] = tt
any_fit front (v ∷ vs) = (refl, any_fit (behind front v) vs)

as_many : (attributes : List Attribute) (vs : List (Option Value)) → HaveKinds attributes vs
    → length vs ≡ length attributes
as_many [] [] h = refl
as_many [] (v ∷ vs) h = absurd h
as_many (a ∷ as') [] h = absurd h
as_many (a ∷ as') (v ∷ vs) h = let n = as_many as' vs h.1 in omega (arith, n)

all_fit : (attributes : Option (List Attribute)) (vs : List (Option Value)) → AreFor attributes vs
    → AllFit behind (FitsItem attributes) [] vs
all_fit None vs h = any_fit [] vs
all_fit (Some attributes) vs h = kinds_fit attributes [] vs (let n = as_many attributes vs h in omega (arith, n)) h

enough : (attributes : Option (List Attribute)) (vs : List (Option Value)) → AreFor attributes vs
    → are_as_many attributes (length vs) ≡ true
enough None vs h = refl
enough (Some attributes) vs h = ap (λ n. n == length attributes) (as_many attributes vs h) ∙ nat_eq_equiv.refl
    (length attributes)

pub list_gets : (attributes : Option (List Attribute)) (vs : List (Option Value)) (us : List Token) (s : State)
    → AreFor attributes vs → without_places s.1.placed ≡ list_tokens vs ++ us → Gets (list_at attributes s) s
    (Same vs) us
unfolding item_at list_at
list_gets attributes vs us s h k =
    let again = values.item_again value_at (λ v. v.0) (λ v. v.1) (λ a v. fits_attribute a v.0) value_tokens Fits Any
    (λ ts. tt) fit_gets (attribute_at attributes) in
    order.list_again (item_at attributes) value_tokens (FitsItem attributes) Any (λ ts. tt) again
    (are_as_many attributes) no_paren (λ ts. tt) vs us s (all_fit attributes vs h) (enough attributes vs h) k

-- ---- new values

module _ (scheme : Scheme) (valid : IsScheme scheme) where
  pub sets_gets : (xs : Sets) (us : List Token) (s : State) → SetsFit scheme xs → NotNext (is_sign Comma) us
      → without_places s.1.placed ≡ Word (codes "set") ∷ (separated (set_tokens scheme) xs ++ us)
      → Gets (sets_at scheme s) s (Same xs) us
  unfolding set_at sets_at
  sets_gets [] us s fits off k = absurd (let some = fits.some in omega arith)
  sets_gets (x ∷ xs) us s fits off k =
      gets_more (λ w. items_at (set_at scheme) [] w.1) (word_gets (codes "set") (separated (set_tokens scheme) (x ∷ xs)
      ++ us) s k)
      (λ at m is t. values.sets_again value_at (λ v. v.0) (λ v. v.1) (λ a v. fits_attribute a v.0) value_tokens Fits Any
      (λ ts. tt) fit_gets scheme valid x xs us (s.0, m)
      fits.distinct (all_zip _ _ _ (λ y within fit. (within, fit)) (x ∷ xs) fits.known fits.kinds) tt off t)
