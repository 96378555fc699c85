-- What is read is what stands there: lists of expressions.
use Rattle.std.proofs.Common.{◌≡◌, ℕ, ◌+◌, ◌<◌, ◌==◌, true, List, [], ◌∷◌, length, drop, get_or, slice_get, Option, Some, Ok, sym, ap, ◌∙◌, subst, arith, length-append}
use Rattle.std.specs.List.{AllByRecursion}
use Rattle.std.proofs.lemmas.Bool.Decides.{nat_tests}
use Rattle.std.proofs.lemmas.List.{drop_more}
use Rattle.std.proofs.lemmas.Option.{slice_get-get_or}
use Rattle.std.proofs.Math.ListN.{drop_of_length-le}
use Rattle.mls_scheme.specs.Scheme.{Attribute, no_attribute}
use Rattle.mls_tokens.specs.declared.token.Token.{Token}
use Rattle.mls_tokens.specs.declared.sign.Sign.TheVariants as sign
use Rattle.mls_translang.specs.Fits.{ExprFits, ListFits}
use Rattle.mls_translang.specs.Kinds.{HasKind, HaveKinds}
use Rattle.mls_translang.specs.Tokens.{Context, expr_tokens, list_tokens}
use Rattle.mls_translang.specs.Tree.{Expr}
use Rattle.mls_translang.specs.Tx.{IsOwn}
use Rattle.mls_parser.specs.declared.fault.TextCause.TheVariants as cause
use Rattle.mls_parser.specs.declared.given.Given.{Given}
use Rattle.mls_parser.specs.Noted.{State}
use Rattle.mls_parser.specs.ReadExpr.{whole_at}
use Rattle.mls_parser.specs.ReadList.{fits_item, item_at, list_at}
use Rattle.mls_parser.proofs.ExprFound.{IsRight, whole_found}
use Rattle.mls_parser.proofs.FoundSteps.{Found}
use Rattle.mls_parser.proofs.OrderLemmas.{AllFit, behind}
use Rattle.mls_parser.proofs.OrderLemmas as order
use Rattle.mls_parser.proofs.SortLemmas.{as_kind}
use Rattle.mls_parser.proofs.ValueLemmas.{item_read}

-- ---- expressions

pub right_read : (p : Context) (s : State) (x : Given × State) → whole_at p s ≡ Ok x
    → Found (λ ts g. IsRight p 16 [] ts g) s x
right_read p s x e =
    let h = whole_found p s x e in
    record {
      tokens = h.tokens;
      passed = h.passed;
      right = λ none a. let r = h.right none a
          in (r.clean, subst (λ fs. IsRight p 16 fs h.tokens x.0) r.clean r);
    }

-- ---- lists of expressions

pub same_number : (m n : ℕ) → (m == n) ≡ true → m ≡ n
same_number m n h = grind (arith, nat_tests)

module _ (p : Context) where
  -- of the kind of its attribute
  pub record IsRightExpr (o : Option Attribute) (e : Expr) : Type 0 where
    pub own : IsOwn p.scope e
    pub fits : ExprFits p.schemes p.scope e
    pub kind : (a : Attribute) → o ≡ Some a → HasKind p.schemes p.scope a.1.kind e

  pub right_expr : (o : Option Attribute) (g : Given) (ts : List Token) → fits_item o g.gives ≡ true
      → IsRight p 16 [] ts g → (ts ≡ expr_tokens p g.expr) × IsRightExpr o g.expr
  right_expr o g ts fit r = (
    r.tokens,
    record {
      own = record { nesting = r.nesting; numbers = r.sound.own };
      fits = r.sound.fits;
      kind = λ a is. as_kind p g.gives a.1.kind g.expr (ap (λ o. fits_item o g.gives) (sym is) ∙ fit) r.sound.gives;
    },
  )

module _ (p : Context) (attributes : List Attribute) where
  abbrev IsItem : List Expr → Expr → Type 0
  IsItem front e = IsRightExpr p (slice_get attributes (length front)) e

  are_own : (front es : List Expr) → AllFit behind IsItem front es → AllByRecursion (IsOwn p.scope) es
  are_own front [] h = tt
  are_own front (e ∷ es) h = (h.0.own, are_own (behind front e) es h.1)

  all_fit : (front es : List Expr) → AllFit behind IsItem front es → AllByRecursion (ExprFits p.schemes p.scope) es
  all_fit front [] h = tt
  all_fit front (e ∷ es) h = (h.0.fits, all_fit (behind front e) es h.1)

  have_kinds : (front es : List Expr) → length front + length es ≡ length attributes → AllFit behind IsItem front es
      → HaveKinds p.schemes p.scope (drop (length front) attributes) es
  have_kinds front [] n h = subst (λ as'. HaveKinds p.schemes p.scope as' [])
      (sym (drop_of_length-le attributes (let m = n in omega (arith, m)))) tt
  have_kinds front (e ∷ es) n h =
      let at = length front in
      let lt : at < length attributes = omega (arith, n) in
      let longer : length (behind front e) ≡ at + 1 = length-append front (e ∷ []) in
      let first = h.0.kind (get_or attributes at no_attribute) (slice_get-get_or attributes at no_attribute lt) in
      let others = have_kinds (behind front e) es (omega (arith, n, longer)) h.1 in
      subst (λ as'. HaveKinds p.schemes p.scope as' (e ∷ es)) (sym (drop_more attributes at no_attribute lt)) (
        first,
        subst (λ k. HaveKinds p.schemes p.scope (drop k attributes) es) longer others,
      )

  -- one for each attribute
  pub record IsList (ts : List Token) (es : List Expr) : Type 0 where
    pub tokens : ts ≡ list_tokens p es
    pub own : AllByRecursion (IsOwn p.scope) es
    pub fits : ListFits p.schemes p.scope attributes es
    pub kinds : HaveKinds p.schemes p.scope attributes es

  pub list_read : (s : State) (x : List Expr × State) → list_at p attributes s ≡ Ok x → Found IsList s x
  unfolding item_at list_at
  list_read s x e =
      let read = item_read (whole_at p) (λ g. g.expr) (λ g. g.at) (λ a g. fits_item a g.gives) (expr_tokens p)
      (IsRightExpr p) (λ ts g. IsRight p 16 [] ts g) (right_read p) (right_expr p) (slice_get attributes) in
      let h = order.list_read (item_at p attributes) (expr_tokens p) IsItem read (λ n. n == length attributes) s x e in
      record {
        tokens = h.tokens;
        passed = h.passed;
        right = λ none a.
            let r = h.right none a in
            let count = same_number (length x.0) (length attributes) r.1.enough in (
              r.0,
              record {
                tokens = r.1.tokens;
                own = are_own [] x.0 r.1.fit;
                fits = record {
                  count = count;
                  each =
                      all_fit [] x.0 r.1.fit;
                };
                kinds = have_kinds [] x.0 (omega (arith, count)) r.1.fit;
              },
            );
      }
