-- Conditions, test by test.
use Rattle.std.proofs.Common.{◌≡◌, ℕ, zero, suc, ◌-◌, ◌<◌, Bool, true, false, List, [], ◌∷◌, Option, Some, None, Ok, Err, inl, inr, refl, sym, ap, ◌∙◌, arith, codes, option_map, if◌then◌else◌, bytes_eq}
use Rattle.std.proofs.lemmas.Bool.{cases_Bool}
use Rattle.mls_lattice.specs.Reading.{◌>>=◌}
use Rattle.mls_tokens.specs.declared.fault.TokenFault.{TokenFault}
use Rattle.mls_tokens.specs.declared.token.Token.{Token}
use Rattle.mls_tokens.specs.declared.token.Token.TheVariants.{Word, Sign as Sign_token}
use Rattle.mls_tokens.specs.declared.token.Placed.{Placed}
use Rattle.mls_tokens.specs.declared.sign.Sign.{Sign}
use Rattle.mls_tokens.specs.declared.sign.Sign.TheVariants as signs
use Rattle.mls_tokens.specs.Scanning.{Left, without_places}
use Rattle.mls_tokens.specs.Passing.{left, is_word, is_sign, take_first, taken}
use Rattle.mls_tokens.proofs.PassedLemmas.{Passed, sign_taken, word_taken}
use Rattle.mls_tokens.proofs.NextLemmas.{next_is}
use Rattle.mls_translang.specs.declared.operator.Operator.{Operator}
use Rattle.mls_translang.specs.declared.operator.Operator.TheVariants.{Equal, Unequal, Less, AtMost, Greater, AtLeast, And, Or}
use Rattle.mls_translang.specs.Tokens.{Context}
use Rattle.mls_parser.specs.declared.fault.PlacedFault.{PlacedFault}
use Rattle.mls_parser.specs.declared.given.Given.{Given}
use Rattle.mls_parser.specs.Noted.{State, note}
use Rattle.mls_parser.specs.ReadCondition.{comparison_of, joiner_of, take_known, taken_as, between, between_faults, test_at, next_test_at, with_next, tests_from, tests_at}

-- ---- operators

abbrev gives : ℕ × Left → Option (ℕ × Left)
gives x = Some x

gives_is : (x y : ℕ × Left) → gives x ≡ gives y → x ≡ y
gives_is x y e = cc

-- a token that a test takes is known as an operator
module _ (test : Token → Bool) (t : Token) (found : (l : Left) (x : ℕ × Left) → taken test l ≡ Some x
    → Passed (t ∷ []) l x.1)
    (what : Token → Option Operator) (op : Operator) (is : what t ≡ Some op) where
  known_first : (ps : List Placed) (stop : TokenFault) (at : ℕ) (r : Left) → take_first test ps stop ≡ Some (at, r)
      → take_known what ps stop ≡ Some ((op, at), r)
  known_first [] stop at r e = absurd cc
  known_first (p ∷ ps) stop at r e =
      elim (cases_Bool (test p.token)) [
        | inl on ↦
            let same = gives_is (p.at, left ps stop) (at, r) (rw on at e) in
            let here = (next_is p ps t (without_places r.placed) (found (left (p ∷ ps) stop) (at, r) e).tokens).0 in
            ap (λ u. option_map (λ (o : Operator). ((o, p.at), left ps stop)) (what u)) here
            ∙ ap (option_map (λ (o : Operator). ((o, p.at), left ps stop))) is
            ∙ ap (λ (x : ℕ × Left). Some ((op, x.0), x.1)) same
        | inr off ↦ absurd (let h = rw off at e in cc)
      ]

  known_taken : (l r : Left) (at : ℕ) → Some (at, r) ≡ taken test l → Some ((op, at), r) ≡ taken_as what l
  known_taken l r at e = sym (known_first l.placed l.stop at r (sym e))

abbrev IsTaken : Sign → Operator → Type 0
IsTaken s op = (l r : Left) (at : ℕ) → Some (at, r) ≡ taken (is_sign s) l → Some ((op, at), r)
    ≡ taken_as comparison_of l

pub equal_taken : IsTaken signs.Equals Equal
equal_taken = known_taken (is_sign signs.Equals) (Sign_token signs.Equals)
    (sign_taken signs.Equals) comparison_of Equal refl

pub unequal_taken : IsTaken signs.Differs Unequal
unequal_taken = known_taken (is_sign signs.Differs) (Sign_token signs.Differs)
    (sign_taken signs.Differs) comparison_of Unequal refl

pub less_taken : IsTaken signs.Less Less
less_taken = known_taken (is_sign signs.Less) (Sign_token signs.Less) (sign_taken signs.Less) comparison_of Less refl

pub at_most_taken : IsTaken signs.AtMost AtMost
at_most_taken = known_taken (is_sign signs.AtMost) (Sign_token signs.AtMost)
    (sign_taken signs.AtMost) comparison_of AtMost refl

pub greater_taken : IsTaken signs.Greater Greater
greater_taken = known_taken (is_sign signs.Greater) (Sign_token signs.Greater)
    (sign_taken signs.Greater) comparison_of Greater refl

pub at_least_taken : IsTaken signs.AtLeast AtLeast
at_least_taken = known_taken (is_sign signs.AtLeast) (Sign_token signs.AtLeast)
    (sign_taken signs.AtLeast) comparison_of AtLeast refl

abbrev known_as : ℕ × Left → Option Operator → Option ((Operator × ℕ) × Left)
known_as x o = option_map (λ op. ((op, x.0), x.1)) o

abbrev if_sign : Sign → Token → ℕ × Left → Option (ℕ × Left)
if_sign s t x = if is_sign s t then Some x else None

no_sign : (s : Sign) (x : ℕ × Left)
    → None ≡ if_sign signs.Equals (Sign_token s) x → None ≡ if_sign signs.Differs (Sign_token s) x
    → None ≡ if_sign signs.Less (Sign_token s) x
    → None ≡ if_sign signs.AtMost (Sign_token s) x → None ≡ if_sign signs.Greater (Sign_token s) x
    → None ≡ if_sign signs.AtLeast (Sign_token s) x
    → None ≡ known_as x (comparison_of (Sign_token s))
no_sign signs.Equals x a b c d e f = absurd cc
no_sign signs.Differs x a b c d e f = absurd cc
no_sign signs.Less x a b c d e f = absurd cc
no_sign signs.AtMost x a b c d e f = absurd cc
no_sign signs.Greater x a b c d e f = absurd cc
no_sign signs.AtLeast x a b c d e f = absurd cc
no_sign _ x a b c d e f = refl

no_token : (t : Token) (x : ℕ × Left)
    → None ≡ if_sign signs.Equals t x → None ≡ if_sign signs.Differs t x → None ≡ if_sign signs.Less t x
    → None ≡ if_sign signs.AtMost t x → None ≡ if_sign signs.Greater t x → None ≡ if_sign signs.AtLeast t x
    → None ≡ known_as x (comparison_of t)
no_token (Sign_token s) x a b c d e f = no_sign s x a b c d e f
no_token _ x a b c d e f = refl

no_comparison : (ps : List Placed) (stop : TokenFault)
    → None ≡ take_first (is_sign signs.Equals) ps stop → None ≡ take_first (is_sign signs.Differs) ps stop
    → None ≡ take_first (is_sign signs.Less) ps stop
    → None ≡ take_first (is_sign signs.AtMost) ps stop → None ≡ take_first (is_sign signs.Greater) ps stop
    → None ≡ take_first (is_sign signs.AtLeast) ps stop
    → None ≡ take_known comparison_of ps stop
no_comparison [] stop a b c d e f = refl
no_comparison (p ∷ ps) stop a b c d e f = no_token p.token (p.at, left ps stop) a b c d e f

pub none_taken : (l : Left)
    → None ≡ taken (is_sign signs.Equals) l → None ≡ taken (is_sign signs.Differs) l
    → None ≡ taken (is_sign signs.Less) l
    → None ≡ taken (is_sign signs.AtMost) l → None ≡ taken (is_sign signs.Greater) l
    → None ≡ taken (is_sign signs.AtLeast) l
    → None ≡ taken_as comparison_of l
none_taken l a b c d e f = no_comparison l.placed l.stop a b c d e f

pub ruleset comparison_steps = (
  equal_taken,
  unequal_taken,
  less_taken,
  at_most_taken,
  greater_taken,
  at_least_taken,
  none_taken,
)

-- ---- words

pub and_taken : (l r : Left) (at : ℕ) → Some (at, r) ≡ taken (is_word (codes "and")) l → Some ((And, at), r)
    ≡ taken_as joiner_of l
and_taken = known_taken (is_word (codes "and")) (Word (codes "and")) (word_taken (codes "and")) joiner_of And refl

pub or_taken : (l r : Left) (at : ℕ) → Some (at, r) ≡ taken (is_word (codes "or")) l → Some ((Or, at), r)
    ≡ taken_as joiner_of l
or_taken = known_taken (is_word (codes "or")) (Word (codes "or")) (word_taken (codes "or")) joiner_of Or refl

abbrev if_word : List ℕ → Token → ℕ × Left → Option (ℕ × Left)
if_word w t x = if is_word w t then Some x else None

no_word : (b c : Bool) (x : ℕ × Left) → None ≡ (if b then gives x else None) → None ≡ (if c then gives x else None)
    → None ≡ known_as x (if b then Some And else (if c then Some Or else None))
no_word true c x a o = absurd cc
no_word false true x a o = absurd cc
no_word false false x a o = refl

no_joiner : (t : Token) (x : ℕ × Left) → None ≡ if_word (codes "and") t x → None ≡ if_word (codes "or") t x
    → None ≡ known_as x (joiner_of t)
no_joiner (Word s) x a b = no_word (bytes_eq s (codes "and")) (bytes_eq s (codes "or")) x a b
no_joiner _ x a b = refl

no_joiner_first : (ps : List Placed) (stop : TokenFault) → None ≡ take_first (is_word (codes "and")) ps stop
    → None ≡ take_first (is_word (codes "or")) ps stop
    → None ≡ take_known joiner_of ps stop
no_joiner_first [] stop a b = refl
no_joiner_first (p ∷ ps) stop a b = no_joiner p.token (p.at, left ps stop) a b

pub no_joiner_taken : (l : Left) → None ≡ taken (is_word (codes "and")) l → None ≡ taken (is_word (codes "or")) l
    → None ≡ taken_as joiner_of l
no_joiner_taken l a b = no_joiner_first l.placed l.stop a b

pub ruleset joiner_steps = (and_taken, or_taken, no_joiner_taken)

-- ---- tests

module _ (p : Context) where
  -- what is left to read, behind the tests that were read, is the whole
  pub first_err : (s : State) (f : PlacedFault) → test_at p s ≡ Err f → tests_at p s ≡ Err f
  unfolding tests_at
  first_err s f is = ap (λ r. r >>= λ t. tests_from p 15 None t.0 t.1) is

  pub first_test : (s : State) (g : Given) (t : State) → test_at p s ≡ Ok (g, t) → tests_at p s
      ≡ tests_from p 15 None g t
  unfolding tests_at
  first_test s g t is = ap (λ x. x >>= λ t. tests_from p 15 None t.0 t.1) is

  module _ (before : Option Operator) (g : Given) (s : State) where
    pub tests_err : (room : ℕ) (f : PlacedFault) → next_test_at p room before s ≡ Err f → tests_from p room before g s
        ≡ Err f
    unfolding tests_from
    tests_err zero f is = ap (λ r. r >>= λ x. Ok (g, x.1)) is
    tests_err (suc room) f is = ap (λ r. r >>= with_next (λ op whole t. tests_from p room (Some op) whole t) g) is

    pub tests_end : (room : ℕ) (t : State) → next_test_at p room before s ≡ Ok (None, t) → tests_from p room before g s
        ≡ Ok (g, t)
    unfolding tests_from
    tests_end zero t is = ap (λ r. r >>= λ x. Ok (g, x.1)) is
    tests_end (suc room) t is = ap (λ r. r >>= with_next (λ op whole t. tests_from p room (Some op) whole t) g) is

    pub tests_more : (room : ℕ) (op : Operator) (at : ℕ) (test whole : Given) (t r : State) → 0 < room
        → next_test_at p room before s ≡ Ok (Some ((op, at), test), t)
        → whole ≡ between g (op, at) test → r ≡ note (between_faults g (op, at) test) t → tests_from p room before g s
        ≡ tests_from p (room - 1) (Some op) whole r
    unfolding tests_from
    tests_more zero op at test whole t r some is made noted = absurd (omega arith)
    tests_more (suc room) op at test whole t r some is made noted =
        let less : room ≡ suc room - 1 = omega arith in
        ap (λ r. r >>= with_next (λ op whole t. tests_from p room (Some op) whole t) g) is
        ∙ (λ i. tests_from p (less i) (Some op) (sym made i) (sym noted i))

pub ruleset condition_steps = (first_err, first_test, tests_err, tests_end, tests_more)
