-- Readers of conditions read no further than the next token.
use Rattle.std.proofs.Common.{◌≡◌, ℕ, zero, suc, ◌≤◌, ◌==◌, if◌then◌else◌, List, [], ◌∷◌, ◌++◌, Option, Some, None, option_map, Ok, Err, refl, sym, ap, ◌∙◌, subst, inl, inr}
use Rattle.std.specs.List.{AllByRecursion}
use Rattle.mls_lattice.specs.Policy.{Policy}
use Rattle.mls_lattice.specs.Reading.{◌>>=◌}
use Rattle.mls_scheme.specs.Scheme.{Schemes}
use Rattle.mls_tokens.specs.declared.fault.TokenFault.{TokenFault}
use Rattle.mls_tokens.specs.declared.token.Token.{Token}
use Rattle.mls_tokens.specs.declared.token.Placed.{Placed}
use Rattle.mls_tokens.specs.Scanning.{Left}
use Rattle.mls_tokens.specs.Passing.{left}
use Rattle.mls_translang.specs.declared.operator.Operator.{Operator}
use Rattle.mls_translang.specs.Tokens.{Context}
use Rattle.mls_parser.specs.declared.fault.TextCause.{TextCause}
use Rattle.mls_parser.specs.declared.fault.TextCause.TheVariants as cause
use Rattle.mls_parser.specs.declared.fault.PlacedFault.{PlacedFault}
use Rattle.mls_parser.specs.Fault.{fault}
use Rattle.mls_parser.specs.Infer.{may_be_truth, operands_fit}
use Rattle.mls_parser.specs.Noted.{State, Read, note, token}
use Rattle.mls_parser.specs.ReadCondition.{comparison_of, joiner_of, behind_known, takes_known, between, between_faults, are_mixed, past_most, with_next, compared, test_at, joined, next_test_at, tests_from, tests_at, written_place, as_fields, condition_at}
use Rattle.mls_parser.specs.ReadExpr.{name_given, whole_at}
use Rattle.mls_parser.specs.ReadList.{tested}
use Rattle.mls_parser.specs.Words.{head_of, pass_head}
use Rattle.mls_faults.proofs.ReadsLemmas.{GivenBy, AreOfNames, Two, one, two, Agree, ReadsFrom, Reads, reads_behind, reads_then}
use Rattle.mls_faults.proofs.StepLemmas.{of_unless, reads_noted, reads_done, reads_after, reads_fault, is_any, taken_or, IsTaking, taken_if, reads_taking, map_place, from_either}
use Rattle.mls_faults.proofs.ExprReads.{reads_whole}

-- an expression as it is read, and what it begins with
abbrev Given : Type 0
Given = GivenBy name_given

abbrev HeldBy : {A B : Type 0} → (A → Option B) → Type 0
HeldBy {B = B} f = B

-- ---- what may stand behind an expression

known_taken : (o : Option Operator) (fs : List PlacedFault) (n : ℕ) (l : Left)
    → option_map (behind_known fs) (option_map (λ op. ((op, n), l)) o) ≡ taken_if (option_map (λ op. (op, n)) o) fs l
known_taken None fs n l = refl
known_taken (Some op) fs n l = refl

is_known_taken : (what : Token → Option Operator) → IsTaking (takes_known what) (λ x. x.1)
is_known_taken what = record {
  what = λ p. option_map (λ op. (op, p.at)) (what p.token);
  at = λ p x is. map_place (what p.token) p.at x is;
  none = λ fs stop. refl;
  some = λ fs p ps stop. known_taken (what p.token) fs p.at (left ps stop);
}

-- ---- a test more than there may be

abbrev Head : Type 0
Head = HeldBy head_of

abbrev past_cause : Option (Head × ℕ) → TextCause
past_cause None = cause.Expected
past_cause (Some x) = cause.Depth

past_taken : (p : Placed) (o : Option (Head × ℕ)) → (is_any head_of).what p ≡ o → (fs : List PlacedFault) (l : Left)
    → past_most (taken_or p.at o fs l) ≡ fault p.at (past_cause o)
past_taken p None is fs l = refl
past_taken p (Some x) is fs l = ap (λ n. fault n cause.Depth) ((is_any head_of).at p x is)

past_next : (fs : List PlacedFault) (p : Placed) (ps : List Placed) (stop : TokenFault)
    → past_most (token pass_head (fs, left (p ∷ ps) stop)) ≡ fault p.at (past_cause ((is_any head_of).what p))
past_next fs p ps stop = ap past_most ((is_any head_of).some fs p ps stop)
    ∙ past_taken p ((is_any head_of).what p) refl fs (left ps stop)

past_later : (b : ℕ) (fs : List PlacedFault) (ps : List Placed) (stop : TokenFault)
    → AllByRecursion (λ p. b ≤ p.at) ps → b ≤ stop.at → b ≤ (past_most (token pass_head (fs, left ps stop))).at
past_later b fs [] stop late last = last
past_later b fs (p ∷ ps) stop late last =
    subst (λ (f : PlacedFault). b ≤ f.at) (sym (past_next fs p ps stop)) late.0

module _ (k : Two) {X : Type 0} where
  past_local : (fs : List PlacedFault) (us : List Placed)
      → Agree k {X = X} us (Err (past_most (token pass_head (one k fs us))))
      (Err (past_most (token pass_head (two k fs us))))
  past_local fs [] = inr (inr (past_later k.bound fs k.first k.stop k.from.placed k.from.stop))
  past_local fs (p ∷ us) = inl (record {
    fault = fault p.at (past_cause ((is_any head_of).what p));
    first = ap (λ f. Err f) (past_next fs p (us ++ k.first) k.stop);
    second = ap (λ f. Err f) (past_next fs p (us ++ k.second) k.other);
  })

  reads_past : Reads {X = X} k (λ s. Err (past_most (token pass_head s)))
  reads_past = record {
    later = λ s l. past_later k.bound s.0 s.1.placed s.1.stop l.placed l.stop;
    local = past_local;
    names = λ s n. tt;
  }

-- ---- tests

module _ (k : Two) (p : Context) where
  of_between : (l r : Given) (op : Operator × ℕ) → AreOfNames (between_faults l op r)
  of_between l r op = of_unless (operands_fit op.0 l.gives r.gives) op.1 cause.Kind refl

  reads_compared : (l : Given) → Reads k (λ s. compared p l s (takes_known comparison_of s))
  reads_compared l =
      let made : Operator × ℕ → Given × State → Read Given =
      λ op r. Ok (between l op r.0, note (between_faults l op r.0) r.1) in
      reads_taking k (takes_known comparison_of) (λ x. x.1) (is_known_taken comparison_of) (compared p l)
      (λ op t. whole_at p t >>= λ r. made op r) (λ s op t. refl) (reads_done k l)
      (λ op. reads_behind k op.1 (λ t. whole_at p t >>= λ r. made op r) (reads_then k (reads_whole k p)
      (λ r. made op r) (λ r. reads_noted k (between l op r) (between_faults l op r) (of_between l r op))))

  reads_test : Reads k (test_at p)
  unfolding test_at
  reads_test = reads_then k (reads_whole k p) (λ l. compared p l.0 l.1 (takes_known comparison_of l.1))
      (λ l. reads_compared l)

  from_joined : (room : ℕ) (before : Option Operator) (op : Operator × ℕ)
      → ReadsFrom {X = Option ((Operator × ℕ) × Given)} k op.1 (λ t. if are_mixed before op.0 then Err
      (fault op.1 cause.Expected)
      else (if room == 0 then Err (past_most (token pass_head t))
      else (test_at p t >>= λ x. Ok (Some (op, x.0), x.1))))
  from_joined room before op =
      let test : State → Read (Option ((Operator × ℕ) × Given)) = λ t. test_at p t >>= λ x. Ok (Some (op, x.0), x.1) in
      let past : State → Read (Option ((Operator × ℕ) × Given)) = λ t. Err (past_most (token pass_head t)) in
      from_either k (are_mixed before op.0) op.1 (λ t. Err (fault op.1 cause.Expected))
      (λ t. if room == 0 then past t else test t) (reads_fault k op.1 cause.Expected)
      (from_either k (room == 0) op.1 past test (reads_behind k op.1 past (reads_past k))
      (reads_behind k op.1 test (reads_then k reads_test (λ x. Ok (Some (op, x.0), x.1))
      (λ x. reads_done k (Some (op, x))))))

  reads_next_test : (room : ℕ) (before : Option Operator) → Reads k (next_test_at p room before)
  unfolding next_test_at
  reads_next_test room before =
      reads_taking k (takes_known joiner_of) (λ x. x.1) (is_known_taken joiner_of) (joined p room before)
      (λ op t. if are_mixed before op.0 then Err (fault op.1 cause.Expected)
      else (if room == 0 then Err (past_most (token pass_head t))
      else (test_at p t >>= λ x. Ok (Some (op, x.0), x.1)))) (λ s op t. refl) (reads_done k None)
      (λ op. from_joined room before op)

  reads_with_next : (more : Operator → Given → State → Read Given) → ((op : Operator) (g : Given)
      → Reads k (more op g)) → (g : Given) (x : Option ((Operator × ℕ) × Given))
      → Reads k (λ t. with_next more g (x, t))
  reads_with_next more h g None = reads_done k g
  reads_with_next more h g (Some (op, test)) =
      reads_after k {r = more op.0 (between g op test)} (between_faults g op test) (of_between g test op)
      (h op.0 (between g op test))

  reads_tests_from : (room : ℕ) (before : Option Operator) (g : Given) → Reads k (tests_from p room before g)
  unfolding tests_from
  reads_tests_from zero before g = reads_then k (reads_next_test zero before) (λ x. Ok (g, x.1)) (λ x. reads_done k g)
  reads_tests_from (suc room) before g = reads_then k (reads_next_test (suc room) before)
      (with_next (λ op whole r. tests_from p room (Some op) whole r) g)
      (λ x. reads_with_next (λ op whole r. tests_from p room (Some op) whole r)
      (λ op whole. reads_tests_from room (Some op) whole) g x)

  reads_tests : Reads k (tests_at p)
  unfolding tests_at
  reads_tests = reads_then k reads_test (λ t. tests_from p 15 None t.0 t.1) (λ t. reads_tests_from 15 None t)

pub reads_condition : (k : Two) (policy : Policy) (schemes : Schemes) (relation : ℕ)
    → Reads k (condition_at policy schemes relation)
unfolding condition_at
reads_condition k policy schemes relation =
    reads_then k (reads_tests k (written_place policy schemes relation))
    (λ g. Ok (as_fields g.0.expr, note (tested (may_be_truth g.0.gives) g.0) g.1))
    (λ g. reads_noted k (as_fields g.expr) (tested (may_be_truth g.gives) g)
    (of_unless (may_be_truth g.gives) g.at cause.Kind refl))
