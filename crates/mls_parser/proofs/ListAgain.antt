-- What stands there is read: lists of expressions, and new values of attributes.
use Rattle.std.proofs.Common.{◌≡◌, ℕ, ◌+◌, ◌<◌, ◌==◌, true, List, [], ◌∷◌, ◌++◌, length, drop, get_or, slice_get, Option, Some, refl, sym, ap, ◌∙◌, subst, arith, length-append}
use Rattle.std.specs.Cmp.{nat_eq_equiv}
use Rattle.std.specs.List.{AllByRecursion}
use Rattle.std.proofs.lemmas.List.{drop_more}
use Rattle.std.proofs.lemmas.Option.{slice_get-get_or}
use Rattle.mls_scheme.specs.declared.value.Value.TheVariants.{Int}
use Rattle.mls_scheme.specs.Scheme.{Attribute, Scheme, IsScheme, other_of, no_attribute}
use Rattle.mls_tokens.specs.declared.token.Token.{Token}
use Rattle.mls_tokens.specs.declared.token.Token.TheVariants.{Sign}
use Rattle.mls_tokens.specs.declared.sign.Sign.TheVariants as sign
use Rattle.mls_tokens.specs.Passing.{is_sign}
use Rattle.mls_tokens.specs.Scanning.{without_places}
use Rattle.mls_tokens.specs.Text.{separated}
use Rattle.mls_tokens.proofs.NextLemmas.{NotNext}
use Rattle.mls_translang.specs.Fits.{ExprFits, ListFits, SetsFit}
use Rattle.mls_translang.specs.Kinds.{Of, HasKind, HaveKinds}
use Rattle.mls_translang.specs.Tokens.{Context, expr_tokens, list_tokens, set_tokens}
use Rattle.mls_translang.specs.Tree.{Expr, Known}
use Rattle.mls_translang.specs.Tx.{IsOwn}
use Rattle.mls_parser.specs.declared.fault.TextCause.TheVariants as cause
use Rattle.mls_parser.specs.Noted.{State}
use Rattle.mls_parser.specs.ReadExpr.{whole_at}
use Rattle.mls_parser.specs.ReadList.{fits_item, item_at, list_at, set_at, sets_at}
use Rattle.mls_parser.proofs.ExprAgain.{whole_again}
use Rattle.mls_parser.proofs.FoundLemmas.{HasNames}
use Rattle.mls_parser.proofs.NextLemmas.{Gets, Same, none}
use Rattle.mls_parser.proofs.OrderLemmas.{AllFit, behind}
use Rattle.mls_parser.proofs.OrderLemmas as order
use Rattle.mls_parser.proofs.ValueLemmas.{IsRightSet}
use Rattle.mls_parser.proofs.ValueLemmas as values

-- ---- lists

abbrev pub NoDot : List Token → Type 0
NoDot ts = NotNext (is_sign sign.Dot) ts

no_comma : (ts : List Token) → NoDot (Sign sign.Comma ∷ ts)
no_comma ts = refl

no_paren : (p : Context) (e : Expr) (us : List Token) → NotNext (is_sign sign.RightParen) (expr_tokens p e ++ us)
no_paren p (Known (Int n)) us = refl
no_paren p _ us = refl

-- one for each attribute, of its kind
pub record AreListed (p : Context) (attributes : List Attribute) (es : List Expr) : Type 0 where
  pub own : AllByRecursion (IsOwn p.scope) es
  pub fits : ListFits p.schemes p.scope attributes es
  pub kinds : HaveKinds p.schemes p.scope attributes es

-- of attributes outside the key, none of them twice
pub record AreSet (p : Context) (scheme : Scheme) (xs : List (ℕ × Expr)) : Type 0 where
  pub own : AllByRecursion (λ x. IsOwn p.scope x.1) xs
  pub fits : SetsFit p.schemes p.scope scheme xs
  pub kinds : AllByRecursion (λ x. HasKind p.schemes p.scope (other_of scheme x.0).1.kind x.1) xs

module _ (p : Context) (n : HasNames p) where
  -- of the kind of an attribute
  record IsGiven (o : Option Attribute) (e : Expr) : Type 0 where
    own : IsOwn p.scope e
    fits : ExprFits p.schemes p.scope e
    attribute : Attribute
    is : o ≡ Some attribute
    kind : HasKind p.schemes p.scope attribute.1.kind e

  given_again : (o : Option Attribute) (e : Expr) (us : List Token) (s : State) → IsGiven o e → NoDot us
      → without_places s.1.placed ≡ expr_tokens p e ++ us
      → Gets (whole_at p s) s (λ g. (g.expr ≡ e) × (fits_item o g.gives ≡ true)) us
  given_again o e us s h off k =
      let g = whole_again p n e (Of h.attribute.1.kind) us s h.own h.fits h.kind off k in
      record {
        value = g.value;
        rest = g.rest;
        is = g.is;
        holds = (
          g.holds.is,
          ap (λ o. fits_item o g.value.gives) h.is
              ∙ g.holds.agrees,
        );
        tokens = g.tokens;
        stop = g.stop;
      }

  module _ (attributes : List Attribute) where
    abbrev FitsItem : List Expr → Expr → Type 0
    FitsItem front e = IsGiven (slice_get attributes (length front)) e

    all_fit : (front es : List Expr) → length front + length es ≡ length attributes → AllByRecursion (IsOwn p.scope) es
        → AllByRecursion (ExprFits p.schemes p.scope) es
        → HaveKinds p.schemes p.scope (drop (length front) attributes) es → AllFit behind FitsItem front es
    all_fit front [] c o f h = tt
    all_fit front (e ∷ es) c o f h =
        let at = length front in
        let lt : at < length attributes = omega (arith, c) in
        let k = subst (λ as'. HaveKinds p.schemes p.scope as' (e ∷ es)) (drop_more attributes at no_attribute lt) h in
        let longer : length (front ++ e ∷ []) ≡ at + 1 = length-append front (e ∷ []) in (
          record {
            own = o.0;
            fits = f.0;
            attribute = get_or attributes at no_attribute;
            is = slice_get-get_or attributes at no_attribute lt;
            kind = k.0;
          },
          all_fit (front ++ e ∷ []) es (omega (arith, c, longer)) o.1 f.1
              (subst (λ l. HaveKinds p.schemes p.scope (drop l attributes) es) (sym longer) k.1),
        )

    pub list_again : (es : List Expr) (us : List Token) (s : State) → AreListed p attributes es
        → without_places s.1.placed ≡ list_tokens p es ++ us → Gets (list_at p attributes s) s (Same es) us
    unfolding item_at list_at
    list_again es us s h k =
        let again = values.item_again (whole_at p) (λ g. g.expr) (λ g. g.at) (λ a g. fits_item a g.gives)
        (expr_tokens p) IsGiven NoDot no_comma given_again (slice_get attributes) in
        order.list_again (item_at p attributes) (expr_tokens p) FitsItem NoDot no_comma again (λ n. n ==
        length attributes) (no_paren p) (λ us. refl) es us s
        (all_fit [] es (let c = h.fits.count in omega (arith, c)) h.own h.fits.each h.kinds)
        (ap (λ m. m == length attributes) h.fits.count ∙ nat_eq_equiv.refl (length attributes)) k

  -- ---- new values

  module _ (scheme : Scheme) (valid : IsScheme scheme) where
    each_given : (xs : List (ℕ × Expr)) → AllByRecursion (λ x. IsOwn p.scope x.1) xs
        → AllByRecursion (λ x. (x.0 < length scheme.others) × ExprFits p.schemes p.scope x.1) xs
        → AllByRecursion (λ x. HasKind p.schemes p.scope (other_of scheme x.0).1.kind x.1) xs
        → AllByRecursion (IsRightSet (expr_tokens p) IsGiven scheme) xs
    each_given [] o f h = tt
    each_given (x ∷ xs) o f h = (
      (
        f.0.0,
        record {
          own = o.0;
          fits = f.0.1;
          attribute = other_of scheme x.0;
          is = refl;
          kind = h.0;
        },
      ),
      each_given xs o.1 f.1 h.1,
    )

    pub sets_again : (x : ℕ × Expr) (xs : List (ℕ × Expr)) (us : List Token) (s : State) → AreSet p scheme (x ∷ xs)
        → NoDot us → NotNext (is_sign sign.Comma) us
        → without_places s.1.placed ≡ separated (set_tokens p scheme) (x ∷ xs) ++ us
        → Gets (sets_at p scheme s) s (Same (x ∷ xs)) us
    unfolding set_at sets_at
    sets_again x xs us s h off last k =
        values.sets_again (whole_at p) (λ g. g.expr) (λ g. g.at) (λ a g. fits_item a g.gives)
        (expr_tokens p) IsGiven NoDot no_comma given_again scheme valid x xs us s
        h.fits.apart (each_given (x ∷ xs) h.own h.fits.each h.kinds) off last k
