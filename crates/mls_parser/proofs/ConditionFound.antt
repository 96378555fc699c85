-- What is read is what stands there: conditions.
use Rattle.std.proofs.Common.{◌≡◌, ℕ, zero, suc, ◌+◌, ◌<◌, ◌≤◌, Bool, true, false, ◌==◌, List, [], ◌∷◌, ◌++◌, Option, Some, None, option_map, Result, Ok, Err, inl, inr, refl, sym, ap, ◌∙◌, subst, arith, codes, ◌⊎◌, if◌then◌else◌, IfOk, bytes_eq}
use Rattle.std.proofs.lemmas.Option.{same_Some}
use Rattle.mls_lattice.specs.Policy.{Policy}
use Rattle.mls_lattice.specs.Reading.{◌>>=◌}
use Rattle.mls_lattice.proofs.ReadingLemmas.{ok_is, bind_ok}
use Rattle.mls_scheme.specs.Scheme.{Schemes}
use Rattle.mls_tokens.specs.declared.fault.TokenFault.{TokenFault}
use Rattle.mls_tokens.specs.declared.token.Token.{Token}
use Rattle.mls_tokens.specs.declared.token.Token.TheVariants.{Word, Sign as Sign_token}
use Rattle.mls_tokens.specs.declared.token.Placed.{Placed}
use Rattle.mls_tokens.specs.declared.sign.Sign.{Sign}
use Rattle.mls_tokens.specs.declared.sign.Sign.TheVariants as signs
use Rattle.mls_tokens.specs.Scanning.{Left, without_places}
use Rattle.mls_tokens.specs.Passing.{left}
use Rattle.mls_tokens.proofs.TokenLemmas.{chosen}
use Rattle.mls_tokens.proofs.PassedLemmas.{Passed, passed_more}
use Rattle.mls_translang.specs.declared.operator.Operator.{Operator}
use Rattle.mls_translang.specs.declared.operator.Operator.TheVariants.{Equal, Unequal, Less, AtMost, Greater, AtLeast, And, Or}
use Rattle.mls_translang.specs.Tokens.{Context, operator_token}
use Rattle.mls_translang.specs.Tree.{Expr}
use Rattle.mls_parser.specs.declared.fault.PlacedFault.{PlacedFault}
use Rattle.mls_parser.specs.declared.fault.TextCause.TheVariants as cause
use Rattle.mls_parser.specs.declared.given.Given.{Given}
use Rattle.mls_parser.specs.Condition.{is_comparison, SpellsBetween, SpellsSide, SpellsTest, SpellsTests, SpellsCondition, TellsCondition, IsCondition}
use Rattle.mls_translang.specs.Fits.{IsConditionOf}
use Rattle.mls_parser.specs.Fault.{fault}
use Rattle.mls_parser.specs.Infer.{may_be_truth, operands_fit}
use Rattle.mls_parser.specs.Noted.{State, Read, note, token, GivesPlaced}
use Rattle.mls_parser.specs.ReadCondition.{comparison_of_sign, comparison_of, joiner_of, take_known, taken_as, behind_known, takes_known, between, between_faults, are_mixed, past_most, with_next, compared, test_at, joined, next_test_at, tests_from, tests_at, written_place, as_fields, condition_at}
use Rattle.mls_parser.specs.ReadExpr.{whole_at}
use Rattle.mls_parser.specs.ReadList.{tested}
use Rattle.mls_parser.specs.Words.{pass_head}
use Rattle.mls_parser.proofs.ConditionLemmas.{told_of_row}
use Rattle.mls_parser.proofs.FaultLemmas.{neither, holds}
use Rattle.mls_parser.proofs.FoundSteps.{Found, found_noted}
use Rattle.mls_parser.proofs.ListFound.{right_read}
use Rattle.mls_parser.proofs.PassedLemmas.{Quiet, AreSpelled, split}
use Rattle.mls_parser.proofs.SortLemmas.{IsSound, as_truth, operator_gives}
use Rattle.mls_parser.proofs.WordLemmas.{operator_is}

-- ---- operators

abbrev IsComparison : Token → Operator → Type 0
IsComparison t op = (t ≡ operator_token op) × (is_comparison op ≡ true)

-- the operator is this one
this : (own op : Operator) → is_comparison own ≡ true → Some own ≡ Some op → IsComparison (operator_token own) op
this own op is e = (ap operator_token (same_Some own op e), sym (ap is_comparison (same_Some own op e)) ∙ is)

comparison_sign : (s : Sign) (op : Operator) → comparison_of_sign s ≡ Some op → IsComparison (Sign_token s) op
comparison_sign signs.Equals op e = this Equal op refl e
comparison_sign signs.Differs op e = this Unequal op refl e
comparison_sign signs.Less op e = this Less op refl e
comparison_sign signs.AtMost op e = this AtMost op refl e
comparison_sign signs.Greater op e = this Greater op refl e
comparison_sign signs.AtLeast op e = this AtLeast op refl e
comparison_sign _ op e = absurd cc

comparison_is : (t : Token) (op : Operator) → comparison_of t ≡ Some op → IsComparison t op
comparison_is (Sign_token s) op e = comparison_sign s op e
comparison_is _ op e = absurd cc

abbrev pub is_joiner : Operator → Bool
is_joiner And = true
is_joiner Or = true
is_joiner _ = false

abbrev IsJoiner : Token → Operator → Type 0
IsJoiner t op = (t ≡ operator_token op) × (is_joiner op ≡ true)

word_joins : (b c : Bool) (op : Operator) → (if b then Some And else (if c then Some Or else None)) ≡ Some op
    → is_joiner op ≡ true
word_joins true c op e = sym (ap is_joiner (same_Some And op e))
word_joins false true op e = sym (ap is_joiner (same_Some Or op e))
word_joins false false op e = absurd cc

joiner_is : (t : Token) (op : Operator) → joiner_of t ≡ Some op → IsJoiner t op
joiner_is (Word s) op e = (
  operator_is (Word s) op e,
  word_joins (bytes_eq s (codes "and"))
      (bytes_eq s (codes "or")) op e,
)
joiner_is _ op e = absurd cc

module _ (what : Token → Option Operator) (Is : Operator → Type 0) (is : (t : Token) (op : Operator) → what t ≡ Some op
    → (t ≡ operator_token op) × Is op) where
  -- such an operator was passed
  abbrev KnownFound : Left → (Operator × ℕ) × Left → Type 0
  KnownFound l x = Is x.0.0 × Passed (operator_token x.0.0 ∷ []) l x.1

  known_first : (p : Placed) (ps : List Placed) (stop : TokenFault) (o : Option Operator) (x : (Operator × ℕ) × Left)
      → what p.token ≡ o
      → option_map (λ (op : Operator). ((op, p.at), left ps stop)) o ≡ Some x → KnownFound (left (p ∷ ps) stop) x
  known_first p ps stop None x e h = absurd cc
  known_first p ps stop (Some op) x e h =
      subst (KnownFound (left (p ∷ ps) stop)) (same_Some ((op, p.at), left ps stop) x h)
      ((is p.token op e).1, record { tokens = ap (λ t. t ∷ without_places ps) (is p.token op e).0; stop = refl })

  known_of : (ps : List Placed) (stop : TokenFault) (x : (Operator × ℕ) × Left) → take_known what ps stop ≡ Some x
      → KnownFound (left ps stop) x
  known_of [] stop x e = absurd cc
  known_of (p ∷ ps) stop x e = known_first p ps stop (what p.token) x refl e

  known_behind : (fs : List PlacedFault) (l : Left) (o : Option ((Operator × ℕ) × Left)) (x : (Operator × ℕ) × State)
      → taken_as what l ≡ o → option_map (behind_known fs) o ≡ Some x
      → Is x.0.0 × Quiet (operator_token x.0.0 ∷ []) (fs, l) x.1
  known_behind fs l None x is e = absurd cc
  known_behind fs l (Some y) x is e =
      let h = known_of l.placed l.stop y is in
      subst (λ (z : (Operator × ℕ) × State). Is z.0.0 × Quiet (operator_token z.0.0 ∷ []) (fs, l) z.1)
      (same_Some (behind_known fs y) x e)
      (h.0, record { passed = h.1; faults = refl })

  known_found : (s : State) (x : (Operator × ℕ) × State) → takes_known what s ≡ Some x → Is x.0.0
      × Quiet (operator_token x.0.0 ∷ []) s x.1
  known_found s x e = known_behind s.0 s.1 (taken_as what s.1) x refl e

-- ---- tests

module _ (p : Context) where
  -- a part of a condition, in which no fault was noted
  record IsPart (Spelling : Expr → List Token → Type 0) (ts : List Token) (g : Given) : Type 0 where
    spells : Spelling g.expr ts
    sound : IsSound p g.gives g.expr

  part_made : (A B : Expr → List Token → Type 0) → ((e : Expr) (ts : List Token) → A e ts → B e ts)
      → (s : State) (x : Given × State) → Found (IsPart A) s x → Found (IsPart B) s x
  part_made A B made s x f = record {
    tokens = f.tokens;
    passed = f.passed;
    right = λ none a.
        let r = f.right none a in
        (r.0, record { spells = made x.0.expr f.tokens r.1.spells; sound = r.1.sound });
  }

  side_found : (s : State) (x : Given × State) → whole_at p s ≡ Ok x → Found (IsPart (SpellsSide p)) s x
  side_found s x e =
      let h = right_read p s x e in
      record {
        tokens = h.tokens;
        passed = h.passed;
        right = λ none a.
            let r = h.right none a in
            (r.0, record { spells = record { tokens = r.1.tokens; nesting = r.1.nesting }; sound = r.1.sound });
      }

  -- two parts, and an operator between them
  between_found : (A B : Expr → List Token → Type 0) (op : Operator × ℕ) (s m : State) (a b : Given × State)
      → Found (IsPart A) s a → Quiet (operator_token op.0 ∷ []) a.1 m → Found (IsPart B) m b
      → Found (IsPart (SpellsBetween A op.0 B)) s (between a.0 op b.0, note (between_faults a.0 op b.0) b.1)
  between_found A B op s m a b l q r = record {
    tokens = l.tokens ++ operator_token op.0 ∷ r.tokens;
    passed = passed_more l.tokens (operator_token op.0 ∷ r.tokens) s.1 a.1.1 b.1.1 l.passed
        (passed_more (operator_token op.0 ∷ []) r.tokens a.1.1 m.1 b.1.1 q.passed r.passed);
    right = λ none t.
        let n = neither b.1.0 (between_faults a.0 op b.0) none in
        let parts = split l.tokens (operator_token op.0 ∷ r.tokens) t in
        let second = r.right n.0 parts.1.1 in
        let first = l.right (sym q.faults ∙ second.0) parts.0 in
        let fit = holds (operands_fit op.0 a.0.gives b.0.gives) op.1 _ n.1 in (
          first.0,
          record {
            spells = record {
              left = a.0.expr;
              right = b.0.expr;
              is = refl;
              before = l.tokens;
              behind = r.tokens;
              tokens = refl;
              spells_left = first.1.spells;
              spells_right = second.1.spells;
            };
            sound = record {
              own = (first.1.sound.own, second.1.sound.own);
              fits = (first.1.sound.fits, second.1.sound.fits);
              gives = operator_gives p op.0 a.0.gives b.0.gives a.0.expr b.0.expr fit first.1.sound.gives second.1.sound.gives;
            };
          },
        );
  }

  test_found : (s : State) (x : Given × State) → test_at p s ≡ Ok x → Found (IsPart (SpellsTest p)) s x
  unfolding test_at
  test_found s x e =
      let a = bind_ok (whole_at p s) (λ a. compared p a.0 a.1 (takes_known comparison_of a.1)) x e in
      behind a.0 (side_found s a.0 a.1) (takes_known comparison_of a.0.1) refl a.2
    where
      behind : (a : Given × State) → Found (IsPart (SpellsSide p)) s a → (o : Option ((Operator × ℕ) × State))
          → takes_known comparison_of a.1 ≡ o → compared p a.0 a.1 o ≡ Ok x
          → Found (IsPart (SpellsTest p)) s x
      behind a side None is h =
          subst (Found (IsPart (SpellsTest p)) s) (ok_is {E = PlacedFault} (a.0, a.1) x h) (part_made (SpellsSide p)
          (SpellsTest p) (λ e ts y. inl y) s a side)
      behind a side (Some op) is h =
          let next : Given × State → Given × State = λ b. (between a.0 op.0 b.0, note (between_faults a.0 op.0 b.0) b.1)
          in
          let b = bind_ok (whole_at p op.1) (λ b. Ok (next b)) x h in
          let mark = known_found comparison_of (λ op. is_comparison op ≡ true) comparison_is a.1 op is in
          let both = between_found (SpellsSide p) (SpellsSide p) op.0 s op.1 a b.0 side mark.1 (side_found op.1 b.0 b.1)
          in
          subst (Found (IsPart (SpellsTest p)) s) (ok_is {E = PlacedFault} (next b.0) x b.2)
          (part_made (SpellsBetween (SpellsSide p) op.0.0 (SpellsSide p)) (SpellsTest p) (λ e ts y. inr (
            op.0.0,
            mark.0,
            y,
          )) s (next b.0) both)

  -- ---- one test more

  record MoreFound (room : ℕ) (before : Option Operator) (s : State) (op : Operator × ℕ) (test : Given)
      (r : State) : Type 0 where
    some : 0 < room
    unmixed : are_mixed before op.0 ≡ false
    joins : is_joiner op.0 ≡ true
    behind : State
    word : Quiet (operator_token op.0 ∷ []) s behind
    found : Found (IsPart (SpellsTest p)) behind (test, r)

  abbrev NextFound : ℕ → Option Operator → State → Option ((Operator × ℕ) × Given) × State → Type 0
  NextFound room before s (None, r) = r ≡ s
  NextFound room before s (Some (op, test), r) = MoreFound room before s op test r

  abbrev refused_next : PlacedFault → Read (Option ((Operator × ℕ) × Given))
  refused_next f = Err f

  abbrev one_more : (Operator × ℕ) × State → Read (Option ((Operator × ℕ) × Given))
  one_more op = test_at p op.1 >>= λ t. Ok (Some (op.0, t.0), t.1)

  some_room : (room : ℕ) → (room == 0) ≡ false → 0 < room
  some_room zero e = absurd cc
  some_room (suc room) e = omega arith

  next_found : (room : ℕ) (before : Option Operator) (s : State) (x : Option ((Operator × ℕ) × Given) × State)
      → next_test_at p room before s ≡ Ok x → NextFound room before s x
  unfolding next_test_at
  next_found room before s x e = go (takes_known joiner_of s) refl e
    where
      go : (o : Option ((Operator × ℕ) × State)) → takes_known joiner_of s ≡ o → joined p room before s o ≡ Ok x
          → NextFound room before s x
      go None is h = subst (NextFound room before s) (ok_is {E = PlacedFault} (None, s) x h) refl
      go (Some op) is h = mixed (chosen (are_mixed before op.0.0) (refused_next (fault op.0.1 cause.Expected))
          (if room == 0 then refused_next (past_most (token pass_head op.1)) else one_more op) (Ok x) h)
        where
          last : are_mixed before op.0.0 ≡ false
              → (((room == 0) ≡ true) × (refused_next (past_most (token pass_head op.1)) ≡ Ok x))
              ⊎ (((room == 0) ≡ false) × (one_more op ≡ Ok x)) → NextFound room before s x
          last plain (inl y) = absurd (let bad = y.1 in cc)
          last plain (inr n) =
              let t = bind_ok (test_at p op.1) (λ t. Ok (Some (op.0, t.0), t.1)) x n.1 in
              let word = known_found joiner_of (λ op. is_joiner op ≡ true) joiner_is s op is in
              subst (NextFound room before s) (ok_is {E = PlacedFault} (Some (op.0, t.0.0), t.0.1) x t.2)
              (record {
                some = some_room room n.0;
                unmixed = plain;
                joins = word.0;
                behind = op.1;
                word = word.1;
                found = test_found op.1 t.0 t.1;
              })

          mixed : ((are_mixed before op.0.0 ≡ true) × (refused_next (fault op.0.1 cause.Expected) ≡ Ok x))
              ⊎ ((are_mixed before op.0.0 ≡ false) × ((if room == 0 then refused_next
              (past_most (token pass_head op.1)) else one_more op) ≡ Ok x)) → NextFound room before s x
          mixed (inl y) = absurd (let bad = y.1 in cc)
          mixed (inr n) = last n.0 (chosen (room == 0) (refused_next (past_most (token pass_head op.1))) (one_more op)
              (Ok x) n.1)

  -- ---- all tests

  between_made : (A B C : Expr → List Token → Type 0) (op : Operator) (e : Expr) (ts : List Token)
      → ((l : Expr) (us : List Token) → A l us → B l us) → SpellsBetween A op C e ts → SpellsBetween B op C e ts
  between_made A B C op e ts made b = record {
    left = b.left;
    right = b.right;
    is = b.is;
    before = b.before;
    behind = b.behind;
    tokens = b.tokens;
    spells_left = made b.left b.before b.spells_left;
    spells_right = b.spells_right;
  }

  -- of so many tests at most
  spells_more : (op : Operator) (n m : ℕ) (e : Expr) (ts : List Token) → n ≤ m → SpellsTests p op n e ts
      → SpellsTests p op m e ts
  spells_more op zero m e ts le h = absurd h
  spells_more op (suc n) zero e ts le h = absurd (omega (arith, le))
  spells_more op (suc n) (suc m) e ts le (inl test) = inl test
  spells_more op (suc n) (suc m) e ts le (inr b) =
      inr (between_made (λ l us. SpellsTests p op n l us) (λ l us. SpellsTests p op m l us) (SpellsTest p) op e ts
      (λ l us h. spells_more op n m l us (omega (arith, le)) h) b)

  -- one test, or some with one word between each two
  abbrev SpellsSoFar : Option Operator → ℕ → Expr → List Token → Type 0
  SpellsSoFar None n e ts = SpellsTest p e ts
  SpellsSoFar (Some op) n e ts = (is_joiner op ≡ true) × SpellsTests p op n e ts

  spells_whole : (before : Option Operator) (n : ℕ) → n ≤ 16 → (e : Expr) (ts : List Token) → SpellsSoFar before n e ts
      → SpellsCondition p e ts
  spells_whole None n le e ts h = inl (inl h)
  spells_whole (Some And) n le e ts h = inl (spells_more And n 16 e ts le h.1)
  spells_whole (Some Or) n le e ts h = inr (spells_more Or n 16 e ts le h.1)
  spells_whole _ n le e ts h = absurd (let j = h.0 in cc)

  -- the word is the one before
  mixed_or_same : (b op : Operator) → is_joiner b ≡ true → is_joiner op ≡ true → are_mixed (Some b) op ≡ false → b ≡ op
  mixed_or_same And And j k m = refl
  mixed_or_same Or Or j k m = refl
  mixed_or_same _ _ j k m = absurd cc

  joined_so_far : (before : Option Operator) (op : Operator) (n : ℕ) → are_mixed before op ≡ false → is_joiner op ≡ true
      → (e : Expr) (ts : List Token) → SpellsSoFar before (suc n) e ts
      → SpellsTests p op (suc n) e ts
  joined_so_far None op n m j e ts h = inl h
  joined_so_far (Some b) op n m j e ts h = subst (λ o. SpellsTests p o (suc n) e ts) (mixed_or_same b op h.0 j m) h.1

  module _ (start : State) (x : Given × State) where
    ended : (before : Option Operator) (n : ℕ) (g : Given) (s r : State) → n ≤ 16
        → Found (IsPart (SpellsSoFar before n)) start (g, s) → r ≡ s → Path (Read Given) (Ok (g, r)) (Ok x)
        → Found (IsPart (SpellsCondition p)) start x
    ended before n g s r le f same h =
        subst (Found (IsPart (SpellsCondition p)) start) (ok_is {E = PlacedFault} (g, r) x h)
        (subst (λ (m : State). Found (IsPart (SpellsCondition p)) start (g, m)) (sym same)
        (part_made (SpellsSoFar before n) (SpellsCondition p) (spells_whole before n le) start (g, s) f))

    -- one test more, behind those before
    more_found : (before : Option Operator) (n room : ℕ) (g : Given) (s : State) (op : Operator × ℕ) (test : Given)
        (r : State) → Found (IsPart (SpellsSoFar before (suc n))) start (g, s) → MoreFound room before s op test r
        → Found (IsPart (SpellsSoFar (Some op.0) (suc (suc n)))) start (
          between g op test,
          note (between_faults g op test) r,
        )
    more_found before n room g s op test r f m =
        part_made (SpellsBetween (SpellsSoFar before (suc n)) op.0 (SpellsTest p))
        (SpellsSoFar (Some op.0) (suc (suc n)))
        (λ e ts b. (
          m.joins,
          inr (between_made (SpellsSoFar before (suc n)) (λ l us. SpellsTests p op.0 (suc n) l us)
              (SpellsTest p) op.0 e ts (joined_so_far before op.0 n m.unmixed m.joins) b),
        ))
        start (between g op test, note (between_faults g op test) r)
        (between_found (SpellsSoFar before (suc n)) (SpellsTest p) op start m.behind (g, s) (test, r) f m.word m.found)

    tests_found : (room n : ℕ) (before : Option Operator) (g : Given) (s : State) → suc n + room ≡ 16
        → Found (IsPart (SpellsSoFar before (suc n))) start (g, s) → tests_from p room before g s ≡ Ok x
        → Found (IsPart (SpellsCondition p)) start x
    unfolding tests_from
    tests_found zero n before g s full f h =
        let y = bind_ok (next_test_at p zero before s) (λ y. Ok (g, y.1)) x h in
        go y.0 (next_found zero before s y.0 y.1) y.2
      where
        go : (y : Option ((Operator × ℕ) × Given) × State) → NextFound zero before s y → Path (Read Given) (Ok (g, y.1))
            (Ok x) → Found (IsPart (SpellsCondition p)) start x
        go (None, r) found k = ended before (suc n) g s r (omega (arith, full)) f found k
        go (Some (op, test), r) found k = absurd (let some = found.some in omega (arith, some))
    tests_found (suc room) n before g s full f h =
        let y = bind_ok (next_test_at p (suc room) before s)
        (with_next (λ op whole r. tests_from p room (Some op) whole r) g) x h in
        go (λ op whole r found k. tests_found room (suc n) (Some op) whole r (omega (arith, full)) found k) y.0
        (next_found (suc room) before s y.0 y.1) y.2
      where
        go : ((op : Operator) (whole : Given) (r : State) → Found (IsPart (SpellsSoFar (Some op) (suc (suc n)))) start
            (whole, r) → tests_from p room (Some op) whole r ≡ Ok x → Found (IsPart (SpellsCondition p)) start x)
            → (y : Option ((Operator × ℕ) × Given) × State) → NextFound (suc room) before s y
            → with_next (λ op whole r. tests_from p room (Some op) whole r) g y ≡ Ok x
            → Found (IsPart (SpellsCondition p)) start x
        go more (None, r) found k = ended before (suc n) g s r (omega (arith, full)) f found k
        go more (Some (op, test), r) found k = more op.0 (between g op test) (note (between_faults g op test) r)
            (more_found before n (suc room) g s op test r f found) k

  tests_at_found : (s : State) (x : Given × State) → tests_at p s ≡ Ok x → Found (IsPart (SpellsCondition p)) s x
  unfolding tests_at
  tests_at_found s x e =
      let t = bind_ok (test_at p s) (λ t. tests_from p 15 None t.0 t.1) x e in
      tests_found s x 15 0 None t.0.0 t.0.1 refl (test_found s t.0 t.1) t.2

-- ---- conditions

module _ (policy : Policy) (schemes : Schemes) (relation : ℕ) where
  abbrev place : Context
  place = written_place policy schemes relation

  pub condition_found : (s : State) (y : Expr × State) → condition_at policy schemes relation s ≡ Ok y
      → Found (λ ts e. TellsCondition policy schemes relation e ts) s y
  unfolding condition_at
  condition_found s =
      found_noted (λ ts e. TellsCondition policy schemes relation e ts) s (tests_at place s) (λ g. as_fields g.expr)
      (λ g. tested (may_be_truth g.gives) g) (tests_at_found place s)
      (λ g ts none r. record {
        written = g.expr;
        is = refl;
        spells = r.spells;
        own = r.sound.own;
        fits = r.sound.fits;
        truth = as_truth place g.gives g.expr (holds (may_be_truth g.gives) g.at _ none) r.sound.gives;
      })

  -- ---- what the reader returned

  module _ (s t : State) where
    pub told_kept : (x : Result Expr PlacedFault) → GivesPlaced (λ e. (e, t)) x (condition_at policy schemes relation s)
        → AreSpelled (without_places s.1.placed) → t.0 ≡ [] → IfOk x (IsCondition policy schemes relation s.1 t.1)
    told_kept (Err f) g all none = tt
    told_kept (Ok e) g all none =
        let found = condition_found s (e, t) g in
        record {
          tokens = found.tokens;
          tells = (found.right none (split found.tokens (without_places t.1.placed)
              (subst AreSpelled found.passed.tokens all)).0).1;
          passed = found.passed.tokens;
          stop = found.passed.stop;
        }

    of_row : (x : Result Expr PlacedFault) → IfOk x (IsCondition policy schemes relation s.1 t.1)
        → IfOk x (IsConditionOf schemes relation)
    of_row (Err f) h = tt
    of_row (Ok e) h = told_of_row schemes relation policy e h.tokens h.tells

    pub fits_kept : (x : Result Expr PlacedFault) → GivesPlaced (λ e. (e, t)) x (condition_at policy schemes relation s)
        → AreSpelled (without_places s.1.placed) → t.0 ≡ [] → IfOk x (IsConditionOf schemes relation)
    fits_kept x g all none = of_row x (told_kept x g all none)
