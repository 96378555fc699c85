-- What is read is what stands there: new values of attributes.
use Rattle.std.proofs.Common.{◌≡◌, ℕ, List, Ok, refl}
use Rattle.std.specs.List.{AllByRecursion}
use Rattle.mls_lattice.proofs.EachLemmas.{all_if}
use Rattle.mls_scheme.specs.Scheme.{Scheme, other_of}
use Rattle.mls_tokens.specs.declared.token.Token.{Token}
use Rattle.mls_tokens.specs.Text.{separated}
use Rattle.mls_translang.specs.Fits.{SetsFit}
use Rattle.mls_translang.specs.Kinds.{HasKind}
use Rattle.mls_translang.specs.Tokens.{Context, expr_tokens, set_tokens}
use Rattle.mls_translang.specs.Tree.{Expr}
use Rattle.mls_translang.specs.Tx.{IsOwn}
use Rattle.mls_parser.specs.Noted.{State}
use Rattle.mls_parser.specs.ReadExpr.{whole_at}
use Rattle.mls_parser.specs.ReadList.{fits_item, set_at, sets_at}
use Rattle.mls_parser.proofs.FoundSteps.{Found}
use Rattle.mls_parser.proofs.ListFound.{right_read, IsRightExpr, right_expr}
use Rattle.mls_parser.proofs.ValueLemmas.{IsRightSet, AreAssigned}
use Rattle.mls_parser.proofs.ValueLemmas as values

module _ (p : Context) (scheme : Scheme) where
  abbrev IsNewRight : ℕ × Expr → Type 0
  IsNewRight = IsRightSet (expr_tokens p) (IsRightExpr p) scheme

  pub record AreNew (ts : List Token) (xs : List (ℕ × Expr)) : Type 0 where
    pub tokens : ts ≡ separated (set_tokens p scheme) xs
    pub own : AllByRecursion (λ x. IsOwn p.scope x.1) xs
    pub fits : SetsFit p.schemes p.scope scheme xs
    pub kinds : AllByRecursion (λ x. HasKind p.schemes p.scope (other_of scheme x.0).1.kind x.1) xs

  are_new : (ts : List Token) (xs : List (ℕ × Expr)) → AreAssigned (expr_tokens p) (IsRightExpr p) scheme ts xs
      → AreNew ts xs
  are_new ts xs r = record {
    tokens = r.tokens;
    own = all_if IsNewRight _ (λ x h. h.1.own) xs r.each;
    fits = record { some = r.some; each = all_if IsNewRight _ (λ x h. (h.0, h.1.fits)) xs r.each; apart = r.apart };
    kinds = all_if IsNewRight _ (λ x h. h.1.kind (other_of scheme x.0) refl) xs r.each;
  }

  pub sets_read : (s : State) (x : List (ℕ × Expr) × State) → sets_at p scheme s ≡ Ok x → Found AreNew s x
  unfolding set_at sets_at
  sets_read s x e =
      let h = values.sets_read (whole_at p) (λ g. g.expr) (λ g. g.at) (λ a g. fits_item a g.gives) (expr_tokens p)
      (IsRightExpr p) _ (right_read p) (right_expr p) scheme s x e in
      record {
        tokens = h.tokens;
        passed = h.passed;
        right = λ none a. let r = h.right none a
            in (r.0, are_new h.tokens x.0 r.1);
      }
