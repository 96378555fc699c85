-- What stands there is read: conditions.
use Rattle.std.proofs.Common.{◌≡◌, ℕ, zero, suc, ◌+◌, ◌-◌, ◌<◌, ◌≤◌, ◌==◌, Bool, true, false, ◌||◌, List, [], ◌∷◌, ◌++◌, Option, Some, None, Ok, Err, inl, inr, refl, sym, ap, ◌∙◌, subst, arith, append_assoc, option_map, is_some, if◌then◌else◌, ne_eqb, append-nil}
use Rattle.std.proofs.lemmas.Bool.{and_from}
use Rattle.mls_lattice.specs.Reading.{◌>>=◌}
use Rattle.mls_tokens.specs.declared.fault.TokenFault.{TokenFault}
use Rattle.mls_tokens.specs.declared.token.Token.{Token}
use Rattle.mls_tokens.specs.declared.token.Placed.{Placed}
use Rattle.mls_tokens.specs.declared.sign.Sign.TheVariants as sign
use Rattle.mls_tokens.specs.Scanning.{Left, without_places}
use Rattle.mls_tokens.specs.Passing.{left, is_sign}
use Rattle.mls_tokens.proofs.NextLemmas.{next_is, NotNext}
use Rattle.mls_translang.specs.declared.operator.Operator.{Operator}
use Rattle.mls_translang.specs.declared.operator.Operator.TheVariants.{Plus, Minus, Times, And, Or}
use Rattle.mls_translang.specs.Fits.{ExprFits}
use Rattle.mls_translang.specs.Kinds.{Sort, Truth, HasSort}
use Rattle.mls_translang.specs.Tokens.{Context, operator_token}
use Rattle.mls_translang.specs.Tree.{Expr, Op}
use Rattle.mls_translang.specs.Tx.{HasOwn}
use Rattle.mls_parser.specs.declared.fault.PlacedFault.{PlacedFault}
use Rattle.mls_parser.specs.declared.fault.TextCause.TheVariants as cause
use Rattle.mls_parser.specs.declared.given.Given.{Given}
use Rattle.mls_parser.specs.Condition.{is_comparison, SpellsSide, SpellsTest, SpellsTests, SpellsCondition, EndsCondition, ConditionsAreRead}
use Rattle.mls_parser.specs.Fault.{fault}
use Rattle.mls_parser.specs.Infer.{may_be_truth}
use Rattle.mls_parser.specs.Noted.{State, Read, note, token}
use Rattle.mls_parser.specs.ReadCondition.{comparison_of, joiner_of, take_known, behind_known, takes_known, between, between_faults, are_mixed, past_most, compared, test_at, joined, next_test_at, tests_from, tests_at, written_place, as_fields, condition_at}
use Rattle.mls_parser.specs.ReadExpr.{whole_at}
use Rattle.mls_parser.specs.ReadList.{tested}
use Rattle.mls_parser.specs.Words.{pass_head}
use Rattle.mls_parser.proofs.ConditionFound.{is_joiner}
use Rattle.mls_parser.proofs.ConditionLemmas.{written_names}
use Rattle.mls_parser.proofs.ConditionSteps.{first_test, tests_end, tests_more}
use Rattle.mls_parser.proofs.ExprAgain.{IsAgain, operator_fits, no_dot, whole_again}
use Rattle.mls_parser.proofs.FoundLemmas.{HasNames}
use Rattle.mls_parser.proofs.NextLemmas.{Gets, gets_more, gets_noted, none, Same}

-- ---- operators

-- the next token is no such operator
abbrev NoneNext : (Token → Option Operator) → List Token → Type 0
NoneNext what [] = Unit {0}
NoneNext what (t ∷ ts) = what t ≡ None

-- the next token is this operator
record TookAs (what : Token → Option Operator) (op : Operator) (s : State) (us : List Token) : Type 0 where
  at : ℕ
  rest : Left
  is : takes_known what s ≡ Some ((op, at), (s.0, rest))
  tokens : without_places rest.placed ≡ us
  stop : rest.stop ≡ s.1.stop

module _ (what : Token → Option Operator) where
  abbrev placed_as : List PlacedFault → Placed → List Placed → TokenFault → Option Operator
      → Option ((Operator × ℕ) × State)
  placed_as fs p ps stop o = option_map (behind_known fs) (option_map (λ (op : Operator). ((op, p.at), left ps stop)) o)

  took_first : (fs : List PlacedFault) (op : Operator) (t : Token) (us : List Token) (ps : List Placed)
      (stop : TokenFault) → what t ≡ Some op → without_places ps ≡ t ∷ us → TookAs what op (fs, left ps stop) us
  took_first fs op t us [] stop is e = absurd cc
  took_first fs op t us (p ∷ ps) stop is e =
      let h = next_is p ps t us e in
      record {
        at = p.at;
        rest = left ps stop;
        is = ap (placed_as fs p ps stop) (ap what h.0 ∙ is);
        tokens = h.1;
        stop =
            refl;
      }

  took_as : (op : Operator) (t : Token) (us : List Token) (s : State) → what t ≡ Some op → without_places s.1.placed
      ≡ t ∷ us → TookAs what op s us
  took_as op t us s is e = took_first s.0 op t us s.1.placed s.1.stop is e

  none_first : (ts : List Token) (ps : List Placed) (stop : TokenFault) → NoneNext what ts → without_places ps ≡ ts
      → take_known what ps stop ≡ None
  none_first ts [] stop off e = refl
  none_first [] (p ∷ ps) stop off e = absurd cc
  none_first (t ∷ ts) (p ∷ ps) stop off e = ap (option_map (λ (op : Operator). ((op, p.at), left ps stop)))
      (ap what (next_is p ps t ts e).0 ∙ off)

  none_as : (ts : List Token) (s : State) → NoneNext what ts → without_places s.1.placed ≡ ts → takes_known what s
      ≡ None
  none_as ts s off e = ap (option_map (behind_known s.0)) (none_first ts s.1.placed s.1.stop off e)

comparison_again : (op : Operator) → is_comparison op ≡ true → comparison_of (operator_token op) ≡ Some op
comparison_again Plus h = absurd cc
comparison_again Minus h = absurd cc
comparison_again Times h = absurd cc
comparison_again And h = absurd cc
comparison_again Or h = absurd cc
comparison_again _ h = refl

-- what stands between tests
record Joins (op : Operator) : Type 0 where
  known : joiner_of (operator_token op) ≡ Some op
  no_dot : is_sign sign.Dot (operator_token op) ≡ false
  no_comparison : comparison_of (operator_token op) ≡ None
  same : are_mixed (Some op) op ≡ false

joins : (op : Operator) → is_joiner op ≡ true → Joins op
joins And h = record { known = refl; no_dot = refl; no_comparison = refl; same = refl }
joins Or h = record { known = refl; no_dot = refl; no_comparison = refl; same = refl }
joins _ h = absurd cc

-- ---- tests

-- no test goes on with what stands there
record EndsTest (us : List Token) : Type 0 where
  no_dot : NotNext (is_sign sign.Dot) us
  no_comparison : NoneNext comparison_of us

module _ (p : Context) (n : HasNames p) where
  -- an expression of the place, of a sort
  record Fits (t : Sort) (e : Expr) : Type 0 where
    own : HasOwn p.scope e
    fits : ExprFits p.schemes p.scope e
    sort : HasSort p.schemes p.scope t e

  -- the operands of an operation, and what it makes of what was read as them
  record FitsBetween (t u : Sort) (op : Operator) (left right : Expr) : Type 0 where
    first : Fits u left
    second : Fits u right
    quiet : (a b : Given) (at : ℕ) → IsAgain u left a → IsAgain u right b → between_faults a (op, at) b ≡ []
    made : (a b : Given) (at : ℕ) → IsAgain u left a → IsAgain u right b → IsAgain t (Op op left right)
        (between a (op, at) b)

  between_fits : (t : Sort) (op : Operator) (left right e : Expr) → e ≡ Op op left right → Fits t e → (u : Sort)
      × FitsBetween t u op left right
  between_fits t op left right e is h =
      let f = subst (Fits t) is h in
      let fit = operator_fits op t (λ u. HasSort p.schemes p.scope u left × HasSort p.schemes p.scope u right) f.sort
      in (
        fit.sort,
        record {
          first = record { own = f.own.0; fits = f.fits.0; sort = fit.holds.0 };
          second = record { own = f.own.1; fits = f.fits.1; sort = fit.holds.1 };
          quiet = λ a b at x y. none at cause.Kind (fit.fit a.gives b.gives x.agrees y.agrees);
          made = λ a b at x y. (let l = x.is in let r = y.is in record {
            is = (λ i. Op op (l i) (r i));
            agrees =
                fit.gives;
          });
        },
      )

  -- the operands of a word between tests are truth values
  truths_fit : (op : Operator) → is_joiner op ≡ true → (left right e : Expr) → e ≡ Op op left right → Fits Truth e
      → FitsBetween Truth Truth op left right
  truths_fit And j left right e is h =
      let f = subst (Fits Truth) is h in
      record {
        first = record { own = f.own.0; fits = f.fits.0; sort = f.sort.1.0 };
        second = record { own = f.own.1; fits = f.fits.1; sort = f.sort.1.1 };
        quiet = λ a b at x y. none at cause.Kind (and_from (may_be_truth a.gives)
            (may_be_truth b.gives) x.agrees y.agrees);
        made = λ a b at x y. (let l = x.is in let r = y.is in record { is = (λ i. Op And (l i) (r i)); agrees = refl });
      }
  truths_fit Or j left right e is h =
      let f = subst (Fits Truth) is h in
      record {
        first = record { own = f.own.0; fits = f.fits.0; sort = f.sort.1.0 };
        second = record { own = f.own.1; fits = f.fits.1; sort = f.sort.1.1 };
        quiet = λ a b at x y. none at cause.Kind (and_from (may_be_truth a.gives)
            (may_be_truth b.gives) x.agrees y.agrees);
        made = λ a b at x y. (let l = x.is in let r = y.is in record { is = (λ i. Op Or (l i) (r i)); agrees = refl });
      }
  truths_fit _ j left right e is h = absurd cc

  side_again : (t : Sort) (e : Expr) (ts us : List Token) (s : State) → SpellsSide p e ts → Fits t e
      → NotNext (is_sign sign.Dot) us → without_places s.1.placed ≡ ts ++ us → Gets (whole_at p s) s (IsAgain t e) us
  side_again t e ts us s h f off k = whole_again p n e t us s (record {
    nesting = h.nesting;
    numbers =
        f.own;
  }) f.fits f.sort off (k ∙ ap (λ x. x ++ us) h.tokens)

  test_again : (t : Sort) (e : Expr) (ts us : List Token) (s : State) → SpellsTest p e ts → Fits t e → EndsTest us
      → without_places s.1.placed ≡ ts ++ us → Gets (test_at p s) s (IsAgain t e) us
  unfolding test_at
  test_again t e ts us s (inl side) f ends k =
      gets_more (λ a. compared p a.0 a.1 (takes_known comparison_of a.1)) (side_again t e ts us s side f ends.no_dot k)
      (λ y m h q. record {
        value = y;
        rest = m;
        is = ap (compared p y (s.0, m)) (none_as comparison_of us (
          s.0,
          m,
        ) ends.no_comparison q);
        holds = h;
        tokens = q;
        stop = refl;
      })
  test_again t e ts us s (inr (op, is, b)) f ends k =
      let behind : List Token = b.behind ++ us in
      let all : without_places s.1.placed ≡ b.before ++ (operator_token op ∷ behind) = k ∙ ap (λ x. x ++ us) b.tokens
      ∙ append_assoc b.before (operator_token op ∷ b.behind) us in
      let parts = between_fits t op b.left b.right e b.is f in
      gets_more (λ a. compared p a.0 a.1 (takes_known comparison_of a.1)) (side_again parts.0 b.left b.before
      (operator_token op ∷ behind) s b.spells_left parts.1.first (no_dot op behind) all)
      (λ y m h q.
      let o = took_as comparison_of op (operator_token op) behind (s.0, m) (comparison_again op is) q in
      let more =
      gets_more (λ r. Ok (between y (op, o.at) r.0, note (between_faults y (op, o.at) r.0) r.1))
      (side_again parts.0 b.right b.behind us (s.0, o.rest) b.spells_right parts.1.second ends.no_dot o.tokens)
      (λ z w g v. gets_noted (between y (op, o.at) z) (between_faults y (op, o.at) z) s.0 w (IsAgain t e) us
      (parts.1.quiet y z o.at h g)
      (subst (λ x. IsAgain t x (between y (op, o.at) z)) (sym b.is) (parts.1.made y z o.at h g)) v) in
      record {
        value = more.value;
        rest = more.rest;
        is = ap (compared p y (s.0, m)) o.is ∙ more.is;
        holds = more.holds;
        tokens = more.tokens;
        stop = more.stop ∙ o.stop;
      })

  -- ---- tests with one word between each two

  -- what is read behind these tests, of which there are so many more than one
  record Reaches (op : Operator) (count : ℕ) (s : State) (e : Expr) (us : List Token) : Type 0 where
    value : Given
    rest : Left
    room : ℕ
    before : Option Operator
    is : tests_at p s ≡ tests_from p room before value (s.0, rest)
    same : IsAgain Truth e value
    enough : 15 ≤ count + room
    unmixed : are_mixed before op ≡ false
    tokens : without_places rest.placed ≡ us
    stop : rest.stop ≡ s.1.stop

  abbrev one_more : (Operator × ℕ) × State → Read (Option ((Operator × ℕ) × Given))
  one_more op = test_at p op.1 >>= λ t. Ok (Some (op.0, t.0), t.1)

  abbrev or_mixed : Bool → Bool → (Operator × ℕ) × State → Read (Option ((Operator × ℕ) × Given))
  or_mixed mixed full op = if mixed then Err (fault op.0.1 cause.Expected) else
      (if full then Err (past_most (token pass_head op.1)) else one_more op)

  next_again : (room : ℕ) (before : Option Operator) (s : State) (op : (Operator × ℕ) × State) (t : Given) (r : State)
      → 0 < room → are_mixed before op.0.0 ≡ false → takes_known joiner_of s ≡ Some op
      → test_at p op.1 ≡ Ok (t, r) → next_test_at p room before s ≡ Ok (Some (op.0, t), r)
  unfolding next_test_at
  next_again room before s op t r some plain is e =
      let full : (room == 0) ≡ false = ne_eqb room 0 (λ z. omega (arith, z, some)) in
      ap (joined p room before s) is ∙ (λ i. or_mixed (plain i) (full i) op) ∙ ap (λ x. x >>= λ t. Ok (
        Some (op.0, t.0),
        t.1,
      )) e

  next_none : (room : ℕ) (before : Option Operator) (s : State) → takes_known joiner_of s ≡ None
      → next_test_at p room before s ≡ Ok (None, s)
  unfolding next_test_at
  next_none room before s is = ap (joined p room before s) is

  module _ (op : Operator) (word : is_joiner op ≡ true) (s : State) where
    abbrev j : Joins op
    j = joins op word

    one_again : (n : ℕ) (e : Expr) (ts us : List Token) → SpellsTest p e ts → Fits Truth e → EndsTest us
        → without_places s.1.placed ≡ ts ++ us → Reaches op n s e us
    one_again n e ts us h f ends k =
        let t = test_again Truth e ts us s h f ends k in
        record {
          value = t.value;
          rest = t.rest;
          room = 15;
          before = None;
          is = first_test p s t.value (s.0, t.rest) t.is;
          same = t.holds;
          enough = omega arith;
          unmixed = refl;
          tokens = t.tokens;
          stop = t.stop;
        }

    more_again : (n : ℕ) (left right e : Expr) (ts us : List Token) → e ≡ Op op left right → Fits Truth e → suc n ≤ 15
        → SpellsTest p right ts → EndsTest us
        → Reaches op n s left (operator_token op ∷ (ts ++ us)) → Reaches op (suc n) s e us
    more_again n left right e ts us is f le h ends g =
        let parts = truths_fit op word left right e is f in
        let some : 0 < g.room = (let z = g.enough in omega (arith, z, le)) in
        let o = took_as joiner_of op (operator_token op) (ts ++ us) (s.0, g.rest) j.known g.tokens in
        let t = test_again Truth right ts us (s.0, o.rest) h parts.second ends o.tokens in
        let next = next_again g.room g.before (s.0, g.rest) ((op, o.at), (s.0, o.rest)) t.value (
          s.0,
          t.rest,
        ) some g.unmixed o.is t.is in
        let both = between g.value (op, o.at) t.value in
        let quiet = ap (λ z. s.0 ++ z) (parts.quiet g.value t.value o.at g.same t.holds) ∙ append-nil s.0 in
        record {
          value = both;
          rest = t.rest;
          room = g.room - 1;
          before = Some op;
          is = g.is ∙ tests_more p g.before g.value (s.0, g.rest) g.room op o.at t.value both (s.0, t.rest) (
            s.0,
            t.rest,
          ) some next refl (λ i. (sym quiet i, t.rest));
          same = subst (λ x. IsAgain Truth x both) (sym is) (parts.made g.value t.value o.at g.same t.holds);
          enough = (let z = g.enough in omega (arith, z, some));
          unmixed = j.same;
          tokens = t.tokens;
          stop = t.stop ∙ o.stop ∙ g.stop;
        }

    tests_again : (n : ℕ) (e : Expr) (ts us : List Token) → n ≤ 15 → SpellsTests p op (suc n) e ts → Fits Truth e
        → EndsTest us → without_places s.1.placed ≡ ts ++ us → Reaches op n s e us
    tests_again n e ts us le (inl test) f ends k = one_again n e ts us test f ends k
    tests_again zero e ts us le (inr b) f ends k = absurd b.spells_left
    tests_again (suc n) e ts us le (inr b) f ends k =
        let behind : List Token = b.behind ++ us in
        let all : without_places s.1.placed ≡ b.before ++ (operator_token op ∷ behind) = k ∙ ap (λ x. x ++ us) b.tokens
        ∙ append_assoc b.before (operator_token op ∷ b.behind) us in
        let here : EndsTest (operator_token op ∷ behind) = record { no_dot = j.no_dot; no_comparison = j.no_comparison }
        in
        let parts = truths_fit op word b.left b.right e b.is f in
        more_again n b.left b.right e b.behind us b.is f le b.spells_right ends (tests_again n b.left b.before
        (operator_token op ∷ behind) (omega (arith, le)) b.spells_left parts.first here all)

  read_whole : (op : Operator) (s : State) (e : Expr) (us : List Token) → NoneNext joiner_of us → Reaches op 15 s e us
      → Gets (tests_at p s) s (IsAgain Truth e) us
  read_whole op s e us off f =
      let last = next_none f.room f.before (s.0, f.rest) (none_as joiner_of us (s.0, f.rest) off f.tokens) in
      record {
        value = f.value;
        rest = f.rest;
        is = f.is ∙ tests_end p f.before f.value (s.0, f.rest) f.room (s.0, f.rest) last;
        holds = f.same;
        tokens = f.tokens;
        stop = f.stop;
      }

-- ---- the end

no_dot_at : (a b : Bool) → (a || b) ≡ false → a ≡ false
no_dot_at false b h = refl
no_dot_at true b h = absurd cc

rest_at : (a b : Bool) → (a || b) ≡ false → b ≡ false
rest_at false b h = h
rest_at true b h = absurd cc

none_at : (o : Option Operator) → is_some o ≡ false → o ≡ None
none_at None h = refl
none_at (Some op) h = absurd cc

record Ends (us : List Token) : Type 0 where
  test : EndsTest us
  no_joiner : NoneNext joiner_of us

ends_at : (us : List Token) → EndsCondition us → Ends us
ends_at [] h = record { test = record { no_dot = tt; no_comparison = tt }; no_joiner = tt }
ends_at (t ∷ ts) h =
    let more = rest_at (is_sign sign.Dot t) (is_some (comparison_of t) || is_some (joiner_of t)) h in
    record {
      test = record {
        no_dot = no_dot_at (is_sign sign.Dot t) (is_some (comparison_of t) || is_some (joiner_of t)) h;
        no_comparison = none_at (comparison_of t) (no_dot_at (is_some (comparison_of t)) (is_some (joiner_of t)) more);
      };
      no_joiner = none_at (joiner_of t) (rest_at (is_some (comparison_of t)) (is_some (joiner_of t)) more);
    }

module _ (p : Context) (n : HasNames p) where
  tests_read : (e : Expr) (ts us : List Token) (s : State) → SpellsCondition p e ts → Fits p n Truth e
      → EndsCondition us → without_places s.1.placed ≡ ts ++ us → Gets (tests_at p s) s (IsAgain Truth e) us
  tests_read e ts us s (inl h) f over k =
      let ends = ends_at us over in
      read_whole p n And s e us ends.no_joiner (tests_again p n And refl s 15 e ts us (omega arith) h f ends.test k)
  tests_read e ts us s (inr h) f over k =
      let ends = ends_at us over in
      read_whole p n Or s e us ends.no_joiner (tests_again p n Or refl s 15 e ts us (omega arith) h f ends.test k)

-- ---- conditions

pub conditions_are_read : ConditionsAreRead
unfolding condition_at
conditions_are_read policy schemes is_policy valid relation s test ts us within h over k =
    let p = written_place policy schemes relation in
    let n = written_names policy schemes is_policy valid relation within in
    let g =
    gets_more (λ g. Ok (as_fields g.0.expr, note (tested (may_be_truth g.0.gives) g.0) g.1))
    (tests_read p n h.written ts us s h.spells (record { own = h.own; fits = h.fits; sort = h.truth }) over k)
    (λ g m r t. gets_noted (as_fields g.expr) (tested (may_be_truth g.gives) g) s.0 m (Same test) us
    (none g.at cause.Kind r.agrees) (ap as_fields r.is ∙ sym h.is) t) in
    record { rest = g.rest; is = g.is ∙ ap (λ x. Ok (x, (s.0, g.rest))) g.holds; tokens = g.tokens; stop = g.stop }
