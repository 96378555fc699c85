-- Parameters, variables and transactions, one by one.
use Rattle.std.proofs.Common.{◌≡◌, ℕ, suc, ◌+◌, ◌<◌, Bool, true, false, List, [], ◌∷◌, ◌++◌, length, Option, Some, None, Ok, Err, ap, ◌∙◌, arith, if◌then◌else◌, codes, nat_lt, not}
use Rattle.mls_lattice.specs.Policy.{Name, Policy}
use Rattle.mls_lattice.specs.Reading.{◌>>=◌}
use Rattle.mls_lattice.proofs.ReadingLemmas.{ok_is, bind_ok}
use Rattle.mls_scheme.specs.declared.value.Kind.{Kind}
use Rattle.mls_tokens.specs.declared.sign.Sign.TheVariants.{Comma, Colon}
use Rattle.mls_tokens.specs.declared.token.Token.TheVariants.{Word, Sign}
use Rattle.mls_tokens.specs.Passing.{PlacedName}
use Rattle.mls_tokens.proofs.PassedLemmas.{passed_shorter}
use Rattle.mls_translang.specs.declared.tx.Parameter.{Parameter}
use Rattle.mls_scheme.specs.Named.{has_name}
use Rattle.mls_parser.specs.declared.fault.PlacedFault.{PlacedFault}
use Rattle.mls_parser.specs.declared.fault.TextCause.TheVariants.{Repeated}
use Rattle.mls_parser.specs.Fault.{unless}
use Rattle.mls_parser.specs.Names.{label_named, numbered}
use Rattle.mls_parser.specs.Noted.{State, Read, note, token, takes_sign, sign_at, name_at, name_behind, known}
use Rattle.mls_parser.specs.ReadTx.{with_next, things_from, too_many, kept, Declared, param_behind, next_param}
use Rattle.mls_parser.specs.Words.{kind_of, pass_known}
use Rattle.mls_parser.proofs.PassedLemmas.{sign_found, takes_shorter, name_found, behind_found, known_found}

module _ {A : Type 0} (next : A → State → Read (Option A)) (most : ℕ) (first : A) (start : State) where
  -- what is left to read, behind the things that were read, is the whole: there may be so many more
  pub record ThingsSoFar (room : ℕ) (things : A) (s : State) : Type 0 where
    pub same : things_from next most first start ≡ things_from next (suc room) things s

  pub things_none : {room : ℕ} → most ≡ suc room → ThingsSoFar room first start
  things_none e = record { same = ap (λ n. things_from next n first start) e }

  module _ (room : ℕ) (things : A) (s : State) (h : ThingsSoFar room things s) where
    onward : (r : Read (Option A)) → next things s ≡ r → things_from next most first start
        ≡ (r >>= with_next (λ new q. things_from next room new q) things)
    onward r e = h.same ∙ ap (λ (z : Read (Option A)). z >>= with_next (λ new q. things_from next room new q) things) e

    pub things_err : (e : PlacedFault) → next things s ≡ Err e → things_from next most first start ≡ Err e
    things_err e is = onward (Err e) is

    pub things_end : (r : State) → next things s ≡ Ok (None, r) → things_from next most first start ≡ Ok (things, r)
    things_end r is = onward (Ok (None, r)) is

    pub things_more : (new : A) (r : State) (n : ℕ) → next things s ≡ Ok (Some new, r) → room ≡ suc n
        → ThingsSoFar n new r
    things_more new r n is e = record { same = onward (Ok (Some new, r)) is ∙ ap (λ k. things_from next k new r) e }

-- ---- the comma behind a parameter is nearer to the end

pub param_less : (policy : Policy) (front : Declared Parameter) (s : State) (x : Declared Parameter) (m l : State)
    (at : ℕ)
    → next_param policy front s ≡ Ok (x, m) → takes_sign Comma m ≡ Some (at, l) → length l.1.placed < length s.1.placed
unfolding next_param param_behind
param_less policy front s x m l at is e =
    let rest : PlacedName × State → Read (Declared Parameter) = λ n. param_behind policy front.0 n.0 n.1 >>=
    λ ps. Ok ((ps.0, front.1 + 1), ps.1) in
    let n = bind_ok (name_at s) (λ n. if nat_lt front.1 64 then rest n else too_many n.0.1) (x, m) is in
    let ps = bind_ok (param_behind policy front.0 n.0.0 n.0.1) (λ ps. Ok ((ps.0, front.1 + 1), ps.1)) (x, m)
    (roomy (nat_lt front.1 64) (rest n.0) n.0.0.1 (x, m) n.2) in
    let made : PlacedName × State → (Kind × ℕ) × State → List (Name × Parameter) × State =
    λ label kind. (
      kept front.0 (n.0.0.0, record { kind = kind.0.0; label = numbered (label_named policy label.0.0) }),
      note (unless (not (has_name front.0 n.0.0.0)) n.0.0.1 Repeated
          ++ known (label_named policy label.0.0) label.0.1) label.1,
    ) in
    let c = bind_ok (sign_at Colon n.0.1) (λ c. token (pass_known kind_of) c.1 >>= λ k. name_behind (codes "at") k.1 >>=
    λ b. Ok (made b k)) ps.0 ps.1 in
    let k = bind_ok (token (pass_known kind_of) c.0.1) (λ k. name_behind (codes "at") k.1 >>=
    λ b. Ok (made b k)) ps.0 c.2 in
    let b = bind_ok (name_behind (codes "at") k.0.1) (λ b. Ok (made b k.0)) ps.0 k.2 in
    let one = ok_is (made b.0 k.0) ps.0 b.2 in
    let two = ok_is ((ps.0.0, front.1 + 1), ps.0.1) (x, m) ps.2 in
    let word = known_found kind_of c.0.1 k.0 k.1 in
    omega (
      arith,
      passed_shorter (Word n.0.0.0 ∷ []) s.1 n.0.1.1 (name_found s n.0 n.1).name.passed,
      passed_shorter (Sign Colon ∷ []) n.0.1.1 c.0.1.1 (sign_found Colon n.0.1 c.0 c.1).passed,
      passed_shorter (word.0 ∷ []) c.0.1.1 k.0.1.1 word.2.passed,
      passed_shorter (Word (codes "at") ∷ Word b.0.0.0 ∷ []) k.0.1.1 b.0.1.1
          (behind_found (codes "at") k.0.1 b.0 b.1).passed,
      ap (λ (y : List (Name × Parameter) × State). length y.1.1.placed) one,
      ap (λ (y : Declared Parameter × State). length y.1.1.placed) two,
      takes_shorter Comma m at l e,
    )
  where
    roomy : {A : Type 0} (b : Bool) (r : Read A) (at : ℕ) (y : A × State) → (if b then r else too_many at) ≡ Ok y
        → r ≡ Ok y
    roomy true r at y e = e
    roomy false r at y e = absurd cc

pub ruleset thing_steps = (things_none, things_err, things_end, things_more)
