-- What is read is what stands there: expressions.
use Rattle.std.proofs.Common.{◌≡◌, ℕ, zero, suc, ◌<◌, ◌≤◌, true, List, [], ◌∷◌, ◌++◌, length, Option, Some, None, Ok, refl, sym, ap, ◌∙◌, subst, arith, codes, is_some}
use Rattle.mls_lattice.specs.Policy.{Name as Bytes}
use Rattle.mls_lattice.specs.Reading.{◌>>=◌}
use Rattle.mls_lattice.proofs.ReadingLemmas.{bind_ok, same_ok}
use Rattle.mls_scheme.specs.declared.value.Value.{Value}
use Rattle.mls_scheme.specs.declared.value.Value.TheVariants as values
use Rattle.mls_scheme.specs.Value.{kind_of}
use Rattle.mls_tokens.specs.declared.token.Token.{Token}
use Rattle.mls_tokens.specs.declared.token.Token.TheVariants.{Word, Sign}
use Rattle.mls_tokens.specs.declared.sign.Sign.TheVariants as sign
use Rattle.mls_tokens.specs.Passing.{PlacedName}
use Rattle.mls_tokens.proofs.PassedLemmas.{Passed, passed_none, passed_more, passed_shorter}
use Rattle.mls_translang.specs.declared.operator.Operator.{Operator}
use Rattle.mls_translang.specs.Kinds.{field_of}
use Rattle.mls_translang.specs.Tokens.{Context, value_token, operator_token, expr_tokens}
use Rattle.mls_translang.specs.Tree.{Known, Null, No, Op}
use Rattle.mls_translang.specs.Tx.{IsLiteral, nesting}
use Rattle.mls_parser.specs.declared.fault.PlacedFault.{PlacedFault}
use Rattle.mls_parser.specs.declared.given.Given.{Given}
use Rattle.mls_parser.specs.declared.inferred.Inferred.TheVariants as inferred
use Rattle.mls_parser.specs.declared.names.Referent.{Referent}
use Rattle.mls_parser.specs.declared.names.Referent.TheVariants.{Variable, Parameter as Param}
use Rattle.mls_parser.specs.declared.words.Head.{Head}
use Rattle.mls_parser.specs.declared.words.Head.TheVariants as heads
use Rattle.mls_parser.specs.Fault.{unless}
use Rattle.mls_parser.specs.Infer.{may_be_truth, operands_fit, given_by_operator}
use Rattle.mls_parser.specs.Names.{variable_named, parameter_named, row_named, attribute_named, referent_or, referent, row_scheme}
use Rattle.mls_parser.specs.Noted.{State, Read, note, token, takes_sign, sign_at, name_at, known}
use Rattle.mls_parser.specs.ReadExpr.{given, refer, name_given, field_given, field_faults, dotted, behind_head, term_at, negation, second, operation, too_deep, expr_at, whole_at}
use Rattle.mls_parser.specs.Words.{head_of, operator_of, pass_known, pass_head}
use Rattle.mls_parser.specs.declared.fault.TextCause.TheVariants as cause
use Rattle.mls_parser.proofs.FaultLemmas.{neither, holds}
use Rattle.mls_parser.proofs.NumberLemmas.{variable_there, parameter_there, row_there, attribute_there, of_known}
use Rattle.mls_parser.proofs.PassedLemmas.{sign_found, sign_taken, name_found, known_found, any_found, AreSpelled, split}
use Rattle.mls_parser.proofs.SortLemmas.{IsSound, as_truth, operator_gives, name_sound, field_sound, literal_kind}
use Rattle.mls_parser.proofs.WordLemmas.{HeadIs, head_is, operator_is}

-- ---- what an expression without faults is

module _ (p : Context) (d : ℕ) where
  -- behind these faults it is spelled by these tokens
  pub record IsRight (fs : List PlacedFault) (ts : List Token) (g : Given) : Type 0 where
    pub clean : fs ≡ []
    pub tokens : ts ≡ expr_tokens p g.expr
    pub nesting : nesting g.expr ≤ d
    pub sound : IsSound p g.gives g.expr

  -- these tokens were passed, and where nothing was noted this is what they spell
  pub record ExprFound (s : State) (x : Given × State) : Type 0 where
    pub tokens : List Token
    pub passed : Passed tokens s.1 x.1.1
    pub some : 0 < length tokens
    pub right : x.1.0 ≡ [] → AreSpelled tokens → IsRight s.0 tokens x.0

  -- the same behind a token, which begins the expression
  record Behind (t : Token) (s : State) (x : Given × State) : Type 0 where
    more : List Token
    passed : Passed more s.1 x.1.1
    right : x.1.0 ≡ [] → AreSpelled (t ∷ more) → IsRight s.0 (t ∷ more) x.0

-- ---- names

module _ (p : Context) (d : ℕ) (t : Token) where
  name_spelled : (n : Bytes) (a b : Option ℕ) → variable_named p n ≡ a → parameter_named p n ≡ b
      → is_some (referent_or a b) ≡ true
      → Word n ∷ [] ≡ expr_tokens p (refer (referent_or a b))
  name_spelled n (Some i) b is other e = sym (λ j. Word (variable_there p n i is j) ∷ [])
  name_spelled n None (Some i) is other e = sym (λ j. Word (parameter_there p n i other j) ∷ [])
  name_spelled n None None is other e = absurd cc

  refer_flat : (o : Option Referent) → nesting (refer o) ≤ d
  refer_flat None = omega arith
  refer_flat (Some (Variable i)) = omega arith
  refer_flat (Some (Param i)) = omega arith

  field_spelled : (row attribute : PlacedName) (o : Option ℕ) → row_named p row.0 ≡ o → field_faults p row attribute o
      ≡ []
      → Word row.0 ∷ Sign sign.Dot ∷ Word attribute.0 ∷ [] ≡ expr_tokens p (field_given p row attribute o).expr
  field_spelled row attribute None is h = absurd cc
  field_spelled row attribute (Some i) is h =
      let name = of_known (attribute_named (row_scheme p i) attribute.0) attribute.1
      (λ k. (field_of (row_scheme p i) k).0 ≡ attribute.0) h
      (attribute_there (row_scheme p i) attribute.0) in
      sym (λ j. Word (row_there p row.0 i is j) ∷ Sign sign.Dot ∷ Word (name j) ∷ [])

  field_flat : (row attribute : PlacedName) (o : Option ℕ) → nesting (field_given p row attribute o).expr ≤ d
  field_flat row attribute None = omega arith
  field_flat row attribute (Some i) = omega arith

  dotted_found : (s : Bytes) (at : ℕ) → t ≡ Word s → (l : State) (o : Option (ℕ × State)) (x : Given × State)
      → takes_sign sign.Dot l ≡ o → dotted p (s, at) l o ≡ Ok x → Behind p d t l x
  dotted_found s at word l None x is e =
      let faults = known (referent p s) at in
      subst (Behind p d t l) (same_ok (dotted p (s, at) l None) (name_given p (s, at), note faults l) x refl e)
      (record {
        more = [];
        passed = passed_none l.1;
        right = λ none a.
            let n = neither l.0 faults none in
            let h = holds (is_some (referent p s)) at _ n.1 in
            record {
              clean = n.0;
              tokens = ap (λ y. y ∷ []) word ∙ name_spelled s (variable_named p s) (parameter_named p s) refl refl h;
              nesting = refer_flat (referent p s);
              sound = name_sound p s (variable_named p s) (parameter_named p s) refl refl h;
            };
      })
  dotted_found s at word l (Some dot) x is e =
      let row : PlacedName = (s, at) in
      let depth = row_named p s in
      let a = bind_ok (name_at dot.1) (λ a. Ok (
        field_given p row a.0 depth,
        note (field_faults p row a.0 depth) a.1,
      )) x e in
      let name = name_found dot.1 a.0 a.1 in
      let mark = sign_taken sign.Dot l dot is in
      let done : Read Given = Ok (field_given p row a.0.0 depth, note (field_faults p row a.0.0 depth) a.0.1) in
      subst (Behind p d t l) (same_ok done (
        field_given p row a.0.0 depth,
        note (field_faults p row a.0.0 depth) a.0.1,
      ) x refl a.2)
      (record {
        more = Sign sign.Dot ∷ Word a.0.0.0 ∷ [];
        passed = passed_more (Sign sign.Dot ∷ []) (Word a.0.0.0 ∷ []) l.1 dot.1.1 a.0.1.1 mark.passed name.name.passed;
        right = λ none b.
            let n = neither a.0.1.0 (field_faults p row a.0.0 depth) none in
            record {
              clean = sym mark.faults ∙ sym name.faults ∙ n.0;
              tokens = ap (λ y. y ∷ Sign sign.Dot ∷ Word a.0.0.0 ∷ []) word ∙ field_spelled row a.0.0 depth refl n.1;
              nesting = field_flat row a.0.0 depth;
              sound = field_sound p row a.0.0 depth refl n.1;
            };
      })

-- ---- behind what an expression begins with

value_literal : (v : Value) → AreSpelled (value_token v ∷ []) → IsLiteral v
value_literal (values.Int n) h = h.0.1.0
value_literal (values.Text s) h = h.0.1.1

module _ (p : Context) (d : ℕ) (negated operated : ℕ → State → Read Given)
    (by_not : (at : ℕ) (s : State) (x : Given × State) → negated at s ≡ Ok x → Behind p d (Word (codes "not")) s x)
    (by_paren : (at : ℕ) (s : State) (x : Given × State) → operated at s ≡ Ok x
    → Behind p d (Sign sign.LeftParen) s x) where
  behind_found : (t : Token) (h : Head) (at : ℕ) (s : State) (x : Given × State) → HeadIs t h
      → behind_head p negated operated h at s ≡ Ok x → Behind p d t s x
  behind_found t (heads.Literal v) at s x is e =
      let g = given (Known v) (inferred.Value (kind_of v)) at in
      subst (Behind p d t s) (same_ok (behind_head p negated operated (heads.Literal v) at s) (g, s) x refl e)
      (record {
        more = [];
        passed = passed_none s.1;
        right = λ none a.
            let l = value_literal v (subst (λ u. AreSpelled (u ∷ [])) is a) in
            record {
              clean = none;
              tokens = ap (λ y. y ∷ []) is;
              nesting = omega arith;
              sound =
                  record { own = l; fits = tt; gives = literal_kind p v l };
            };
      })
  behind_found t heads.Null at s x is e =
      subst (Behind p d t s) (same_ok (behind_head p negated operated heads.Null at s) (
        given Null inferred.Null at,
        s,
      ) x refl e)
      (record {
        more = [];
        passed = passed_none s.1;
        right = λ none a. record {
          clean = none;
          tokens = ap (λ y. y ∷ []) is;
          nesting = omega arith;
          sound =
              record { own = tt; fits = tt; gives = λ k. tt };
        };
      })
  behind_found t (heads.Name n) at s x is e = dotted_found p d t n at is.0 s (takes_sign sign.Dot s) x refl e
  behind_found t heads.Not at s x is e = subst (λ u. Behind p d u s x) (sym is) (by_not at s x e)
  behind_found t heads.Paren at s x is e = subst (λ u. Behind p d u s x) (sym is) (by_paren at s x e)

  term_found : (s : State) (x : Given × State) → term_at p negated operated s ≡ Ok x → ExprFound p d s x
  term_found s x e =
      let h = bind_ok (token pass_head s) (λ h. behind_head p negated operated h.0.0 h.0.1 h.1) x e in
      let first = any_found head_of s h.0 h.1 in
      let rest = behind_found first.0 h.0.0.0 h.0.0.1 h.0.1 x (head_is first.0 h.0.0.0 first.1) h.2 in
      record {
        tokens = first.0 ∷ rest.more;
        passed = passed_more (first.0 ∷ []) rest.more s.1 h.0.1.1 x.1.1 first.2.passed rest.passed;
        some = omega arith;
        right = λ none a. subst (λ fs. IsRight p d fs (first.0 ∷ rest.more) x.0) first.2.faults (rest.right none a);
      }

-- ---- operators

-- an operator, its second operand, and the parenthesis that closes both
record SecondFound (p : Context) (d : ℕ) (s : State) (x : ((Operator × ℕ) × Given) × State) : Type 0 where
  right : List Token
  passed : Passed (operator_token x.0.0.0 ∷ (right ++ Sign sign.RightParen ∷ [])) s.1 x.1.1
  operand : x.1.0 ≡ [] → AreSpelled right → IsRight p d s.0 right x.0.1

module _ (p : Context) (d : ℕ) (operand : State → Read Given) (sound : (s : State) (x : Given × State)
    → operand s ≡ Ok x → ExprFound p d s x) where
  negation_found : (at : ℕ) (s : State) (x : Given × State) → negation operand at s ≡ Ok x
      → Behind p (suc d) (Word (codes "not")) s x
  negation_found at s x e =
      let next : Given × State → Given × State =
      λ y. (given (No y.0.expr) inferred.Truth at, note (unless (may_be_truth y.0.gives) at cause.Kind) y.1) in
      let o = bind_ok (operand s) (λ y. Ok (next y)) x e in
      let found = sound s o.0 o.1 in
      let done : Read Given = Ok (next o.0) in
      subst (Behind p (suc d) (Word (codes "not")) s) (same_ok done (next o.0) x refl o.2)
      (record {
        more = found.tokens;
        passed = found.passed;
        right = λ none a.
            let n = neither o.0.1.0 _ none in
            let r = found.right n.0 a.1 in
            record {
              clean = r.clean;
              tokens = ap (λ ts. Word (codes "not") ∷ ts) r.tokens;
              nesting = (let m = r.nesting in omega (arith, m));
              sound = record {
                own = r.sound.own;
                fits = r.sound.fits;
                gives = (
                  refl,
                  as_truth p o.0.0.gives o.0.0.expr
                      (holds (may_be_truth o.0.0.gives) at _ n.1) r.sound.gives,
                );
              };
            };
      })

  second_found : (s : State) (x : ((Operator × ℕ) × Given) × State) → second operand s ≡ Ok x → SecondFound p d s x
  second_found s x e =
      let o = bind_ok (token (pass_known operator_of) s) (λ o. operand o.1 >>= λ b. sign_at sign.RightParen b.1 >>=
      λ q. Ok ((o.0, b.0), q.1)) x e in
      let b = bind_ok (operand o.0.1) (λ b. sign_at sign.RightParen b.1 >>= λ q. Ok ((o.0.0, b.0), q.1)) x o.2 in
      let q = bind_ok (sign_at sign.RightParen b.0.1) (λ q. Ok ((o.0.0, b.0.0), q.1)) x b.2 in
      let op = known_found operator_of s o.0 o.1 in
      let right = sound o.0.1 b.0 b.1 in
      let end = sign_found sign.RightParen b.0.1 q.0 q.1 in
      let close : List Token = Sign sign.RightParen ∷ [] in
      let done : Read ((Operator × ℕ) × Given) = Ok ((o.0.0, b.0.0), q.0.1) in
      subst (SecondFound p d s) (same_ok done ((o.0.0, b.0.0), q.0.1) x refl q.2)
      (record {
        right = right.tokens;
        passed = passed_more (operator_token o.0.0.0 ∷ []) (right.tokens ++ close) s.1 o.0.1.1 q.0.1.1
            (subst (λ t. Passed (t ∷ []) s.1 o.0.1.1) (operator_is op.0 o.0.0.0 op.1) op.2.passed)
            (passed_more right.tokens close o.0.1.1 b.0.1.1 q.0.1.1 right.passed end.passed);
        operand = λ none a. subst (λ fs. IsRight p d fs right.tokens b.0.0) op.2.faults
            (right.right (sym end.faults ∙ none) a);
      })

  operation_found : (at : ℕ) (s : State) (x : Given × State) → operation operand at s ≡ Ok x
      → Behind p (suc d) (Sign sign.LeftParen) s x
  operation_found at s x e =
      let next : Given × State → ((Operator × ℕ) × Given) × State → Given × State =
      λ a r. (
        given (Op r.0.0.0 a.0.expr r.0.1.expr) (given_by_operator r.0.0.0) at,
        note (unless (operands_fit r.0.0.0 a.0.gives r.0.1.gives) r.0.0.1 cause.Kind) r.1,
      ) in
      let a = bind_ok (operand s) (λ a. second operand a.1 >>= λ r. Ok (next a r)) x e in
      let r = bind_ok (second operand a.0.1) (λ r. Ok (next a.0 r)) x a.2 in
      let left = sound s a.0 a.1 in
      let rest = second_found a.0.1 r.0 r.1 in
      let op = r.0.0.0.0 in
      let close : List Token = Sign sign.RightParen ∷ [] in
      let behind : List Token = operator_token op ∷ (rest.right ++ close) in
      let done : Read Given = Ok (next a.0 r.0) in
      subst (Behind p (suc d) (Sign sign.LeftParen) s) (same_ok done (next a.0 r.0) x refl r.2)
      (record {
        more = left.tokens ++ behind;
        passed = passed_more left.tokens behind s.1 a.0.1.1 r.0.1.1 left.passed rest.passed;
        right = λ none t.
            let n = neither r.0.1.0 _ none in
            let first = split left.tokens behind t.1 in
            let last = split rest.right close first.1.1 in
            let b = rest.operand n.0 last.0 in
            let l = left.right b.clean first.0 in
            record {
              clean = l.clean;
              tokens = λ i. Sign sign.LeftParen ∷ (l.tokens i ++ (operator_token op ∷ (b.tokens i ++ close)));
              nesting = (let m = l.nesting in let k = b.nesting in omega (arith, m, k));
              sound = record {
                own = (l.sound.own, b.sound.own);
                fits = (l.sound.fits, b.sound.fits);
                gives = operator_gives p op a.0.0.gives r.0.0.1.gives a.0.0.expr r.0.0.1.expr
                    (holds (operands_fit op a.0.0.gives r.0.0.1.gives) r.0.0.0.1 _ n.1) l.sound.gives b.sound.gives;
              };
            };
      })

never : {p : Context} {d : ℕ} (t : Token) (at : ℕ) (s : State) (x : Given × State) → too_deep at s ≡ Ok x
    → Behind p d t s x
never t at s x e = absurd cc

pub expr_found : (p : Context) (d : ℕ) (s : State) (x : Given × State) → expr_at p d s ≡ Ok x → ExprFound p d s x
unfolding expr_at
expr_found p zero s x e = term_found p zero too_deep too_deep (never (Word (codes "not")))
    (never (Sign sign.LeftParen)) s x e
expr_found p (suc d) s x e =
    term_found p (suc d) (λ at r. negation (λ t. expr_at p d t) at r) (λ at r. operation (λ t. expr_at p d t) at r)
    (negation_found p d (λ t. expr_at p d t) (λ t y h. expr_found p d t y h)) (operation_found p d (λ t. expr_at p d t)
    (λ t y h. expr_found p d t y h)) s x e

-- ---- expressions of statements

pub whole_found : (p : Context) (s : State) (x : Given × State) → whole_at p s ≡ Ok x → ExprFound p 16 s x
unfolding whole_at
whole_found p s x e = expr_found p 16 s x e

pub whole_shorter : (p : Context) (s : State) (x : Given × State) → whole_at p s ≡ Ok x → length x.1.1.placed
    < length s.1.placed
whole_shorter p s x e = let h = whole_found p s x e in omega (arith, passed_shorter h.tokens s.1 x.1.1 h.passed, h.some)
