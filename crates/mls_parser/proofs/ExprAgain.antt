-- What stands there is read: expressions.
use Rattle.std.proofs.Common.{◌≡◌, ℕ, zero, suc, ◌≤◌, true, false, List, [], ◌∷◌, ◌++◌, Option, Some, None, Ok, inl, inr, refl, sym, ap, ◌∙◌, subst, arith, append_assoc, codes, ◌||◌, bytes_eq}
use Rattle.std.proofs.lemmas.Bool.{cases_Bool, and_parts, and_from, or_right, not-true}
use Rattle.std.proofs.lemmas.Slice.Eq.{bytes_eq-Decides}
use Rattle.mls_lattice.specs.Name.{is_name, is_reserved}
use Rattle.mls_lattice.specs.Policy.{Name as Bytes}
use Rattle.mls_lattice.specs.Reading.{◌>>=◌}
use Rattle.mls_scheme.specs.declared.value.Kind.{Kind}
use Rattle.mls_scheme.specs.declared.value.Kind.TheVariants as kinds
use Rattle.mls_scheme.specs.declared.value.Value.{Value}
use Rattle.mls_scheme.specs.declared.value.Value.TheVariants as values
use Rattle.mls_scheme.specs.Value.{kind_of, is_kind}
use Rattle.mls_tokens.specs.declared.token.Token.{Token}
use Rattle.mls_tokens.specs.declared.token.Token.TheVariants.{Word, Sign}
use Rattle.mls_tokens.specs.declared.sign.Sign.TheVariants as sign
use Rattle.mls_tokens.specs.Scanning.{Left, without_places}
use Rattle.mls_tokens.specs.Passing.{is_sign, PlacedName}
use Rattle.mls_tokens.proofs.NextLemmas.{NotNext}
use Rattle.mls_translang.specs.declared.operator.Operator.{Operator}
use Rattle.mls_translang.specs.declared.operator.Operator.TheVariants as operators
use Rattle.mls_translang.specs.Fits.{ExprFits}
use Rattle.mls_translang.specs.Kinds.{Sort, Of, Truth, OperatorGives, HasSort, field_of}
use Rattle.mls_translang.specs.Scope.{row_at}
use Rattle.mls_translang.specs.Tokens.{Context, name_at, value_token, operator_token, expr_tokens}
use Rattle.mls_translang.specs.Tree.{Expr, Known, Null, Var, Param, Field, No, Op}
use Rattle.mls_translang.specs.Tx.{nesting, HasOwn, IsOwn}
use Rattle.mls_translang.proofs.FieldLemmas.{attribute_is_name}
use Rattle.mls_parser.specs.declared.fault.PlacedFault.{PlacedFault}
use Rattle.mls_parser.specs.declared.fault.TextCause.TheVariants as cause
use Rattle.mls_parser.specs.declared.given.Given.{Given}
use Rattle.mls_parser.specs.declared.inferred.Inferred.{Inferred}
use Rattle.mls_parser.specs.declared.inferred.Inferred.TheVariants as inferred
use Rattle.mls_parser.specs.declared.names.Referent.{Referent}
use Rattle.mls_parser.specs.declared.names.Referent.TheVariants as referents
use Rattle.mls_parser.specs.declared.words.Head.{Head}
use Rattle.mls_parser.specs.declared.words.Head.TheVariants as heads
use Rattle.mls_parser.specs.Fault.{unless}
use Rattle.mls_parser.specs.Infer.{same_kind, may_be, may_be_truth, both, operands_fit, given_by_operator, of_kind, of_referent, of_attribute}
use Rattle.mls_parser.specs.Names.{parameter_named, row_named, numbered, referent, referent_or, row_scheme}
use Rattle.mls_parser.specs.Noted.{State, Read, note, sign_at, known}
use Rattle.mls_parser.specs.ReadExpr.{given, refer, name_given, field_given, field_faults, dotted, named_at, behind_head, term_at, negation, second, operation, too_deep, expr_at, whole_at}
use Rattle.mls_parser.specs.Words.{head_of, operator_of}
use Rattle.mls_parser.proofs.FoundLemmas.{HasNames, attribute_again, variable_again, parameter_again, no_variable, row_again, row_valid, variable_is_name, parameter_is_name, row_is_name}
use Rattle.mls_parser.proofs.NextLemmas.{Gets, gets_more, placed_then, gets_done, gets_noted, gets_is, Is, sign_gets, name_gets, known_gets, any_gets, took_sign, after_took, no_sign, none}

-- ---- names are no reserved words

pub not_reserved : (s : Bytes) → is_name s ≡ true → is_reserved s ≡ false
unfolding is_name
not_reserved s h = not-true (is_reserved s) (and_parts _ _ h).1

pub differs : (w s : Bytes) → is_reserved w ≡ true → is_name s ≡ true → bytes_eq s w ≡ false
differs w s word named =
    elim (cases_Bool (bytes_eq s w)) [
      | inl on ↦ absurd (let bad : is_reserved s ≡ true = ap is_reserved ((bytes_eq-Decides s w).0 on) ∙ word
          in let good = not_reserved s named in cc)
      | inr off ↦ off
    ]

-- ---- kinds

-- what is known of an expression agrees with a sort
abbrev pub Agrees : Sort → Inferred → Type 0
Agrees (Of k) given = may_be given k ≡ true
Agrees Truth given = may_be_truth given ≡ true

kind_agrees : (k : Kind) → same_kind k k ≡ true
kind_agrees kinds.Int = refl
kind_agrees kinds.Text = refl

literal_agrees : (v : Value) (k : Kind) → is_kind v k ≡ true → same_kind (kind_of v) k ≡ true
literal_agrees (values.Int n) kinds.Int e = refl
literal_agrees (values.Int n) kinds.Text e = absurd cc
literal_agrees (values.Text s) kinds.Int e = absurd cc
literal_agrees (values.Text s) kinds.Text e = refl

some_kind : (k : Kind) (a b : Inferred) → both k a b ≡ true → (both kinds.Int a b || both kinds.Text a b) ≡ true
some_kind kinds.Int a b e = ap (λ x. x || both kinds.Text a b) e
some_kind kinds.Text a b e = or_right (both kinds.Int a b) _ e

-- the operands of an operator have a sort, with which it fits
pub record FitsOperator (op : Operator) (t : Sort) (operands : Sort → Type 0) : Type 0 where
  pub sort : Sort
  pub holds : operands sort
  pub fit : (a b : Inferred) → Agrees sort a → Agrees sort b → operands_fit op a b ≡ true
  pub gives : Agrees t (given_by_operator op)

pub operator_fits : (op : Operator) (t : Sort) (operands : Sort → Type 0) → OperatorGives op t operands
    → FitsOperator op t operands
operator_fits operators.Plus t operands h = record {
  sort = Of kinds.Int;
  holds = h.1;
  fit = λ a b p q. and_from
      (may_be a kinds.Int) (may_be b kinds.Int) p q;
  gives = subst (λ s. Agrees s (given_by_operator operators.Plus))
      (sym h.0) refl;
}
operator_fits operators.Minus t operands h = record {
  sort = Of kinds.Int;
  holds = h.1;
  fit = λ a b p q. and_from
      (may_be a kinds.Int) (may_be b kinds.Int) p q;
  gives = subst (λ s. Agrees s (given_by_operator operators.Minus))
      (sym h.0) refl;
}
operator_fits operators.Times t operands h = record {
  sort = Of kinds.Int;
  holds = h.1;
  fit = λ a b p q. and_from
      (may_be a kinds.Int) (may_be b kinds.Int) p q;
  gives = subst (λ s. Agrees s (given_by_operator operators.Times))
      (sym h.0) refl;
}
operator_fits operators.And t operands h = record {
  sort = Truth;
  holds = h.1;
  fit = λ a b p q. and_from
      (may_be_truth a) (may_be_truth b) p q;
  gives = subst (λ s. Agrees s (given_by_operator operators.And))
      (sym h.0) refl;
}
operator_fits operators.Or t operands h = record {
  sort = Truth;
  holds = h.1;
  fit = λ a b p q. and_from (may_be_truth a)
      (may_be_truth b) p q;
  gives = subst (λ s. Agrees s (given_by_operator operators.Or)) (sym h.0) refl;
}
operator_fits operators.Equal t operands h = record {
  sort = Of h.1.0;
  holds = h.1.1;
  fit = λ a b p q. some_kind h.1.0 a b (and_from (may_be a h.1.0) (may_be b h.1.0) p q);
  gives =
      subst (λ s. Agrees s (given_by_operator operators.Equal)) (sym h.0) refl;
}
operator_fits operators.Unequal t operands h = record {
  sort = Of h.1.0;
  holds = h.1.1;
  fit = λ a b p q. some_kind h.1.0 a b (and_from (may_be a h.1.0) (may_be b h.1.0) p q);
  gives =
      subst (λ s. Agrees s (given_by_operator operators.Unequal)) (sym h.0) refl;
}
operator_fits operators.Less t operands h = record {
  sort = Of h.1.0;
  holds = h.1.1;
  fit = λ a b p q. some_kind h.1.0 a b (and_from (may_be a h.1.0) (may_be b h.1.0) p q);
  gives =
      subst (λ s. Agrees s (given_by_operator operators.Less)) (sym h.0) refl;
}
operator_fits operators.AtMost t operands h = record {
  sort = Of h.1.0;
  holds = h.1.1;
  fit = λ a b p q. some_kind h.1.0 a b (and_from (may_be a h.1.0) (may_be b h.1.0) p q);
  gives =
      subst (λ s. Agrees s (given_by_operator operators.AtMost)) (sym h.0) refl;
}
operator_fits operators.Greater t operands h = record {
  sort = Of h.1.0;
  holds = h.1.1;
  fit = λ a b p q. some_kind h.1.0 a b (and_from (may_be a h.1.0) (may_be b h.1.0) p q);
  gives =
      subst (λ s. Agrees s (given_by_operator operators.Greater)) (sym h.0) refl;
}
operator_fits operators.AtLeast t operands h = record {
  sort = Of h.1.0;
  holds = h.1.1;
  fit = λ a b p q. some_kind h.1.0 a b (and_from (may_be a h.1.0) (may_be b h.1.0) p q);
  gives =
      subst (λ s. Agrees s (given_by_operator operators.AtLeast)) (sym h.0) refl;
}

-- ---- tokens

value_head : (v : Value) → head_of (value_token v) ≡ Some (heads.Literal v)
value_head (values.Int n) = refl
value_head (values.Text s) = refl

name_head : (s : Bytes) → is_name s ≡ true → head_of (Word s) ≡ Some (heads.Name s)
unfolding is_reserved
name_head s named = rw (differs (codes "null") s refl named, differs (codes "not") s refl named, named) refl

operator_again : (op : Operator) → operator_of (operator_token op) ≡ Some op
operator_again operators.Plus = refl
operator_again _ = refl

pub no_dot : (op : Operator) (us : List Token) → NotNext (is_sign sign.Dot) (operator_token op ∷ us)
no_dot operators.Plus us = refl
no_dot _ us = refl

-- ---- expressions

-- the expression, whose kinds agree with a sort
pub record IsAgain (t : Sort) (e : Expr) (g : Given) : Type 0 where
  pub is : g.expr ≡ e
  pub agrees : Agrees t g.gives

module _ (p : Context) (negated operated : ℕ → State → Read Given) where
  term_gets : (h : Head) (t : Token) (us : List Token) (s : State) (Q : Given → Type 0) (vs : List Token)
      → head_of t ≡ Some h → without_places s.1.placed ≡ t ∷ us
      → ((at : ℕ) (m : Left) → without_places m.placed ≡ us → Gets (behind_head p negated operated h at (s.0, m)) (
        s.0,
        m,
      ) Q vs) → Gets (term_at p negated operated s) s Q vs
  term_gets h t us s Q vs found e next = placed_then (λ x. behind_head p negated operated x.0.0 x.0.1 x.1)
      (any_gets head_of h t us found s e) next

depth_gets : (p : Context) (d : ℕ) (s : State) (Q : Given → Type 0) (vs : List Token)
    → ((negated operated : ℕ → State → Read Given) → Gets (term_at p negated operated s) s Q vs)
    → Gets (expr_at p d s) s Q vs
unfolding expr_at
depth_gets p zero s Q vs all = all too_deep too_deep
depth_gets p (suc d) s Q vs all = all (λ at r. negation (λ t. expr_at p d t) at r)
    (λ at r. operation (λ t. expr_at p d t) at r)

module _ (p : Context) (n : HasNames p) where
  -- a name that stands for something, with no dot behind it
  name_again : (name : Bytes) (r : Referent) (t : Sort) (at : ℕ) (us : List Token) (fs : List PlacedFault) (m : Left)
      → referent p name ≡ Some r → Agrees t (of_referent p (Some r))
      → NotNext (is_sign sign.Dot) us → without_places m.placed ≡ us → Gets (named_at p (name, at) (fs, m)) (fs, m)
      (IsAgain t (refer (Some r))) us
  name_again name r t at us fs m e a off k =
      gets_is (named_at p (name, at) (fs, m)) (dotted p (name, at) (fs, m) None) (fs, m) (IsAgain t (refer (Some r))) us
      (ap (dotted p (name, at) (fs, m)) (no_sign sign.Dot us (fs, m) off k))
      (gets_noted (name_given p (name, at)) (known (referent p name) at) fs m (IsAgain t (refer (Some r))) us
      (ap (λ o. known o at) e)
      (record { is = ap refer e; agrees = subst (λ o. Agrees t (of_referent p o)) (sym e) a }) k)

  kind_is : {o : Option Kind} (t : Sort) → (k : Kind) × (t ≡ Of k) × (o ≡ Some k) → Agrees t (of_kind o)
  kind_is t h = subst (λ x. Agrees t (of_kind x)) (sym h.2) (subst (λ s. Agrees s (inferred.Value h.0)) (sym h.1)
      (kind_agrees h.0))

  -- an attribute of a row
  field_again : (d i : ℕ) (t : Sort) (at : ℕ) (us : List Token) (fs : List PlacedFault) (m : Left)
      → HasOwn p.scope (Field d i) → ExprFits p.schemes p.scope (Field d i)
      → HasSort p.schemes p.scope t (Field d i) → without_places m.placed ≡ Sign sign.Dot
      ∷ Word (field_of (row_scheme p d) i).0 ∷ us
      → Gets (named_at p ((row_at p.scope d).name, at) (fs, m)) (fs, m) (IsAgain t (Field d i)) us
  field_again d i t at us fs m o f h k =
      let row : PlacedName = ((row_at p.scope d).name, at) in
      let attribute = (field_of (row_scheme p d) i).0 in
      let r = row_again p n d o in
      let a = attribute_again (row_scheme p d) (row_valid p n d o) i f in
      let dot = took_sign sign.Dot (Word attribute ∷ us) (fs, m) k in
      gets_is (named_at p row (fs, m)) (dotted p row (fs, m) (Some (dot.at, (fs, dot.rest)))) (fs, m)
      (IsAgain t (Field d i)) us (ap (dotted p row (fs, m)) dot.is)
      (after_took dot (placed_then (λ x. Ok (
        field_given p row x.0 (row_named p row.0),
        note (field_faults p row x.0 (row_named p row.0)) x.1,
      ))
      (name_gets attribute us (fs, dot.rest) (attribute_is_name (row_scheme p d) (row_valid p n d o) i f) dot.tokens)
      (λ y q e. gets_noted (field_given p row (attribute, y) (row_named p row.0)) (field_faults p row (attribute, y)
      (row_named p row.0)) fs q (IsAgain t (Field d i)) us
      (ap (field_faults p row (attribute, y)) r ∙ ap (λ z. known z y) a)
      (record {
        is = ap (λ z. (field_given p row (attribute, y) z).expr) r ∙ ap (λ z. Field d (numbered z)) a;
        agrees = subst (λ z. Agrees t (field_given p row (attribute, y) z).gives) (sym r)
            (subst (λ z. Agrees t (of_attribute (row_scheme p d) z)) (sym a)
            (subst (λ s. Agrees s (inferred.Value (field_of (row_scheme p d) i).1.kind)) (sym h)
            (kind_agrees (field_of (row_scheme p d) i).1.kind)));
      }) e)))

  abbrev SecondAgain : Operator → Sort → Expr → (Operator × ℕ) × Given → Type 0
  SecondAgain op t right x = Is op x.0 × IsAgain t right x.1

  pub expr_again : (d : ℕ) (e : Expr) (t : Sort) (us : List Token) (s : State) → nesting e ≤ d → HasOwn p.scope e
      → ExprFits p.schemes p.scope e → HasSort p.schemes p.scope t e
      → NotNext (is_sign sign.Dot) us → without_places s.1.placed ≡ expr_tokens p e ++ us
      → Gets (expr_at p d s) s (IsAgain t e) us
  unfolding expr_at
  expr_again d (Known v) (Of k) us s l o f h off j =
      depth_gets p d s (IsAgain (Of k) (Known v)) us
      (λ a b. term_gets p a b (heads.Literal v) (value_token v) us s (IsAgain (Of k) (Known v)) us (value_head v) j
      (λ x m e. gets_done (given (Known v) (inferred.Value (kind_of v)) x) s.0 m (IsAgain (Of k) (Known v)) us
      (record { is = refl; agrees = literal_agrees v k h }) e))
  expr_again d (Known v) Truth us s l o f h off j = absurd h
  expr_again d Null (Of k) us s l o f h off j =
      depth_gets p d s (IsAgain (Of k) Null) us
      (λ a b. term_gets p a b heads.Null (Word (codes "null")) us s (IsAgain (Of k) Null) us refl j
      (λ x m e. gets_done (given Null inferred.Null x) s.0 m (IsAgain (Of k) Null) us
      (record { is = refl; agrees = refl }) e))
  expr_again d Null Truth us s l o f h off j = absurd h
  expr_again d (Var i) t us s l o f h off j =
      let name = name_at p.scope.vars i in
      let e : referent p name ≡ Some (referents.Variable i) = ap (λ x. referent_or x (parameter_named p name))
      (variable_again p n i o) in
      depth_gets p d s (IsAgain t (Var i)) us
      (λ a b. term_gets p a b (heads.Name name) (Word name) us s (IsAgain t (Var i)) us
      (name_head name (variable_is_name p n i o)) j
      (λ x m k. name_again name (referents.Variable i) t x us s.0 m e (kind_is t h) off k))
  expr_again d (Param i) t us s l o f h off j =
      let name = name_at p.scope.params i in
      let e : referent p name ≡ Some (referents.Parameter i) = λ k. referent_or (no_variable p n i o k)
      (parameter_again p n i o k) in
      depth_gets p d s (IsAgain t (Param i)) us
      (λ a b. term_gets p a b (heads.Name name) (Word name) us s (IsAgain t (Param i)) us
      (name_head name (parameter_is_name p n i o)) j
      (λ x m k. name_again name (referents.Parameter i) t x us s.0 m e (kind_is t h) off k))
  expr_again d (Field r i) t us s l o f h off j =
      let row = (row_at p.scope r).name in
      depth_gets p d s (IsAgain t (Field r i)) us
      (λ a b. term_gets p a b (heads.Name row) (Word row) (Sign sign.Dot ∷ Word (field_of (row_scheme p r) i).0 ∷ us) s
      (IsAgain t (Field r i)) us (name_head row (row_is_name p n r o)) j
      (λ x m k. field_again r i t x us s.0 m o f h k))
  expr_again zero (No e) t us s l o f h off j = absurd (omega (arith, l))
  expr_again (suc d) (No e) t us s l o f h off j =
      term_gets p (λ at r. negation (λ u. expr_at p d u) at r) (λ at r. operation (λ u. expr_at p d u) at r) heads.Not
      (Word (codes "not")) (expr_tokens p e ++ us) s (IsAgain t (No e)) us refl j
      (λ x m k. gets_more (λ y. Ok (
        given (No y.0.expr) inferred.Truth x,
        note (unless (may_be_truth y.0.gives) x cause.Kind) y.1,
      ))
      (expr_again d e Truth us (s.0, m) (omega (arith, l)) o f h.1 off k)
      (λ y q is w. gets_noted (given (No y.expr) inferred.Truth x) (unless (may_be_truth y.gives) x cause.Kind) s.0 q
      (IsAgain t (No e)) us (none x cause.Kind is.agrees)
      (record { is = ap (λ z. No z) is.is; agrees = subst (λ u. Agrees u inferred.Truth) (sym h.0) refl }) w))
  expr_again zero (Op op left right) t us s l o f h off j = absurd (omega (arith, l))
  expr_again (suc d) (Op op left right) t us s l o f h off j =
      let a : List Token = expr_tokens p left in
      let b : List Token = expr_tokens p right in
      let close : List Token = Sign sign.RightParen ∷ [] in
      let fit = operator_fits op t (λ u. HasSort p.schemes p.scope u left × HasSort p.schemes p.scope u right) h in
      let whole : (a ++ (operator_token op ∷ (b ++ close))) ++ us
      ≡ a ++ (operator_token op ∷ (b ++ (Sign sign.RightParen ∷ us)))
      = append_assoc a (operator_token op ∷ (b ++ close)) us ∙ ap (λ z. a ++ (operator_token op ∷ z))
      (append_assoc b close us) in
      term_gets p (λ at r. negation (λ u. expr_at p d u) at r) (λ at r. operation (λ u. expr_at p d u) at r) heads.Paren
      (Sign sign.LeftParen) ((a ++ (operator_token op ∷ (b ++ close))) ++ us) s
      (IsAgain t (Op op left right)) us refl j
      (λ x m k.
      gets_more (λ y. second (λ u. expr_at p d u) y.1 >>= λ r. Ok (
        given (Op r.0.0.0 y.0.expr r.0.1.expr)
            (given_by_operator r.0.0.0) x,
        note (unless
            (operands_fit r.0.0.0 y.0.gives r.0.1.gives) r.0.0.1 cause.Kind) r.1,
      ))
      (expr_again d left fit.sort (operator_token op ∷ (b ++ (Sign sign.RightParen ∷ us))) (s.0, m)
      (omega (arith, l)) o.0 f.0 fit.holds.0 (no_dot op (b ++ (Sign sign.RightParen ∷ us))) (k ∙ whole))
      (λ y m2 first k2. gets_more (λ r. Ok (
        given (Op r.0.0.0 y.expr r.0.1.expr) (given_by_operator r.0.0.0) x,
        note (unless (operands_fit r.0.0.0 y.gives r.0.1.gives) r.0.0.1 cause.Kind) r.1,
      ))
      (gets_more (λ z. expr_at p d z.1 >>= λ w. sign_at sign.RightParen w.1 >>= λ q. Ok ((z.0, w.0), q.1))
      (known_gets operator_of op (operator_token op) (b ++ (Sign sign.RightParen ∷ us)) (operator_again op) (
        s.0,
        m2,
      ) k2)
      (λ z m3 same k3. gets_more (λ w. sign_at sign.RightParen w.1 >>= λ q. Ok ((z, w.0), q.1))
      (expr_again d right fit.sort (Sign sign.RightParen ∷ us) (s.0, m3) (omega (arith, l)) o.1 f.1 fit.holds.1 refl k3)
      (λ w m4 last k4. gets_more (λ q. Ok ((z, w), q.1)) (sign_gets sign.RightParen us (s.0, m4) k4)
      (λ q m5 i5 k5. gets_done (z, w) s.0 m5 (SecondAgain op fit.sort right) us (same, last) k5))))
      (λ r m6 rest k6.
      let fits : operands_fit r.0.0 y.gives r.1.gives ≡ true = ap (λ v. operands_fit v y.gives r.1.gives) rest.0
      ∙ fit.fit y.gives r.1.gives first.agrees rest.1.agrees in
      gets_noted (given (Op r.0.0 y.expr r.1.expr) (given_by_operator r.0.0) x)
      (unless (operands_fit r.0.0 y.gives r.1.gives) r.0.1 cause.Kind) s.0 m6 (IsAgain t (Op op left right)) us
      (none r.0.1 cause.Kind fits)
      (record {
        is = λ i. Op (rest.0 i) (first.is i) (rest.1.is i);
        agrees = subst (λ v. Agrees t (given_by_operator v))
            (sym rest.0) fit.gives;
      }) k6)))

  -- an expression of a statement
  pub whole_again : (e : Expr) (t : Sort) (us : List Token) (s : State) → IsOwn p.scope e → ExprFits p.schemes p.scope e
      → HasSort p.schemes p.scope t e → NotNext (is_sign sign.Dot) us
      → without_places s.1.placed ≡ expr_tokens p e ++ us → Gets (whole_at p s) s (IsAgain t e) us
  unfolding whole_at
  whole_again e t us s o f h off k = expr_again 16 e t us s o.nesting o.numbers f h off k
