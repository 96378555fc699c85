-- Readers of transactions read no further than the next token.
use Rattle.std.proofs.Common.{ℕ, zero, suc, ◌+◌, Bool, not, ◌||◌, nat_lt, if◌then◌else◌, List, [], ◌∷◌, ◌++◌, codes, length, map, Option, Some, None, is_some, Ok, refl, bytes_eq}
use Rattle.std.specs.List.{list_any}
use Rattle.mls_lattice.specs.Labels.{below}
use Rattle.mls_lattice.specs.Policy.{Name, Policy, labels_of}
use Rattle.mls_lattice.specs.Reading.{◌>>=◌}
use Rattle.mls_scheme.specs.declared.value.Kind.{Kind}
use Rattle.mls_scheme.specs.Scheme.{Schemes}
use Rattle.mls_scheme.specs.Named.{has_name}
use Rattle.mls_tokens.specs.declared.sign.Sign.TheVariants as signs
use Rattle.mls_tokens.specs.Passing.{PlacedName, pass_name, is_word, pass}
use Rattle.mls_translang.specs.declared.tx.Parameter.{Parameter}
use Rattle.mls_translang.specs.Tree.{Block}
use Rattle.mls_parser.specs.declared.fault.TextCause.TheVariants as cause
use Rattle.mls_parser.specs.declared.fault.PlacedFault.{PlacedFault}
use Rattle.mls_parser.specs.Fault.{unless}
use Rattle.mls_parser.specs.Names.{label_named, relation_named, numbered}
use Rattle.mls_parser.specs.Noted.{State, Read, note, token, takes_sign, sign_at, word_at, name_behind, known}
use Rattle.mls_parser.specs.ReadBlock.{stmts_at}
use Rattle.mls_parser.specs.ReadTx.{too_many, with_next, things_from, kept, Declared, param_behind, next_param, params_behind, params_at, var_behind, var_if, next_var, vars_at, name_faults, levels_faults, heading_at, outermost, body_at, transaction_at, next_transaction, transactions_at, tx_of}
use Rattle.mls_parser.specs.Words.{kind_of, pass_known}
use Rattle.mls_faults.proofs.ReadsLemmas.{DomainOf, AreOfNames, Two, Reads, reads_behind, reads_then}
use Rattle.mls_faults.proofs.StepLemmas.{of_unless, of_both, reads_noted, reads_done, reads_after, reads_fault, reads_refused, token_then, is_pass, is_name_token, reads_sign, reads_name, reads_behind_word, reads_known, reads_end, reads_if_sign, reads_if_word, from_either, reads_unless_over}
use Rattle.mls_faults.proofs.ExprReads.{reads_items}
use Rattle.mls_faults.proofs.BlockReads.{reads_stmts}

-- a transaction as it is read
abbrev Draft : Type 0
Draft = DomainOf tx_of

-- ---- one after another

module _ (k : Two) {A : Type 0} (next : A → State → Read (Option A)) (h : (a : A) → Reads k (next a)) where
  reads_next : (more : A → State → Read A) → ((a : A) → Reads k (more a)) → (things : A) (x : Option A)
      → Reads k (λ t. with_next more things (x, t))
  reads_next more m things None = reads_done k things
  reads_next more m things (Some new) = m new

  pub reads_things : (n : ℕ) (things : A) → Reads k (things_from next n things)
  reads_things zero things = reads_refused k
  reads_things (suc n) things = reads_then k (h things) (with_next (λ new r. things_from next n new r) things)
      (λ x. reads_next (λ new r. things_from next n new r) (reads_things n) things x)

of_known : (meaning : Option ℕ) (at : ℕ) → AreOfNames (known meaning at)
of_known meaning at = of_unless (is_some meaning) at cause.UnknownName refl

-- ---- parameters

module _ (k : Two) (policy : Policy) where
  reads_param_behind : (front : List (Name × Parameter)) (name : PlacedName) → Reads k (param_behind policy front name)
  unfolding param_behind
  reads_param_behind front name =
      let faults : PlacedName → List PlacedFault = λ l. unless (not (has_name front name.0)) name.1 cause.Repeated
      ++ known (label_named policy l.0) l.1 in
      let item : Kind → PlacedName → List (Name × Parameter) = λ kind l. kept front (
        name.0,
        record { kind = kind; label = numbered (label_named policy l.0) },
      ) in
      let made : Kind → PlacedName × State → Read (List (Name × Parameter)) =
      λ kind l. Ok (item kind l.0, note (faults l.0) l.1) in
      reads_then k (reads_sign k signs.Colon) (λ colon. token (pass_known kind_of) colon.1 >>= λ kind. name_behind
      (codes "at") kind.1 >>=
      λ l. made kind.0.0 l)
      (λ colon. reads_then k (reads_known k kind_of) (λ kind. name_behind (codes "at") kind.1 >>= λ l. made kind.0.0 l)
      (λ kind. reads_then k (reads_behind_word k (codes "at")) (λ l. made kind.0 l)
      (λ l. reads_noted k (item kind.0 l) (faults l) (of_both (unless (not (has_name front name.0)) name.1
      cause.Repeated) (known (label_named policy l.0) l.1)
      (of_unless (not (has_name front name.0)) name.1 cause.Repeated refl) (of_known (label_named policy l.0) l.1)))))

  reads_param : (front : Declared Parameter) → Reads k (next_param policy front)
  unfolding next_param
  reads_param front =
      let inside : PlacedName → State → Read (Declared Parameter) = λ n t. param_behind policy front.0 n t >>=
      λ ps. Ok ((ps.0, front.1 + 1), ps.1) in
      token_then k pass_name (λ x. x.1) is_name_token (λ n. if nat_lt front.1 64 then inside n.0 n.1
      else too_many n.0.1)
      (λ p n is. from_either k (nat_lt front.1 64) n.1 (inside n) (λ t. too_many n.1) (reads_behind k n.1 (inside n)
      (reads_then k (reads_param_behind front.0 n) (λ ps. Ok ((ps.0, front.1 + 1), ps.1))
      (λ ps. reads_done k (ps, front.1 + 1)))) (reads_fault k n.1 cause.TooLong))

  reads_params : Reads k (params_at policy)
  unfolding params_at
  reads_params = reads_then k (reads_sign k signs.LeftParen)
      (λ x. params_behind policy x.1 (takes_sign signs.RightParen x.1))
      (λ x. reads_if_sign k signs.RightParen (params_behind policy) (λ at t. Ok ([], t)) (λ s at t. refl)
      (reads_then k (reads_items k (next_param policy) reads_param ([], 0))
      (λ ps. sign_at signs.RightParen ps.1 >>= λ end. Ok (ps.0.0, end.1)) (λ ps. reads_end k signs.RightParen ps.0))
      (λ at. reads_behind k at (λ t. Ok ([], t)) (reads_done k [])))

-- ---- variables

module _ (k : Two) (params : List (Name × Parameter)) where
  reads_var_behind : (front : List (Name × Kind)) → Reads k (var_behind params front)
  unfolding var_behind
  reads_var_behind front =
      let faults : PlacedName → List PlacedFault =
      λ n. unless (not (has_name params n.0 || has_name front n.0)) n.1 cause.Repeated in
      let made : PlacedName → Kind → ℕ × State → Read (List (Name × Kind)) =
      λ n kind end. Ok (kept front (n.0, kind), note (faults n) end.1) in
      reads_then k (reads_name k) (λ n. sign_at signs.Colon n.1 >>= λ colon. token (pass_known kind_of) colon.1 >>=
      λ kind. sign_at signs.Semicolon kind.1 >>= λ end. made n.0 kind.0.0 end)
      (λ n. reads_then k (reads_sign k signs.Colon) (λ colon. token (pass_known kind_of) colon.1 >>=
      λ kind. sign_at signs.Semicolon kind.1 >>=
      λ end. made n kind.0.0 end)
      (λ colon. reads_then k (reads_known k kind_of)
      (λ kind. sign_at signs.Semicolon kind.1 >>= λ end. made n kind.0.0 end)
      (λ kind. reads_then k (reads_sign k signs.Semicolon) (λ end. made n kind.0 end)
      (λ end. reads_noted k (kept front (n.0, kind.0)) (faults n)
      (of_unless (not (has_name params n.0 || has_name front n.0)) n.1 cause.Repeated refl)))))

  reads_var : (front : Declared Kind) → Reads k (next_var params front)
  unfolding next_var
  reads_var front =
      let inside : State → Read (Option (Declared Kind)) = λ t. var_behind params front.0 t >>=
      λ vs. Ok (Some (vs.0, front.1 + 1), vs.1) in
      reads_if_word k (codes "var") (var_if params front) (λ at t. if nat_lt front.1 64 then inside t else too_many at)
      (λ s at t. refl) (reads_done k None)
      (λ at. from_either k (nat_lt front.1 64) at inside (λ t. too_many at) (reads_behind k at inside
      (reads_then k (reads_var_behind front.0) (λ vs. Ok (Some (vs.0, front.1 + 1), vs.1))
      (λ vs. reads_done k (Some (vs, front.1 + 1))))) (reads_fault k at cause.TooLong))

  reads_vars : Reads k (vars_at params)
  unfolding vars_at
  reads_vars = reads_then k (reads_things k (next_var params) reads_var 65 ([], 0)) (λ vs. Ok (vs.0.0, vs.1))
      (λ vs. reads_done k vs.0)

-- ---- transactions

module _ (k : Two) (policy : Policy) (schemes : Schemes) where
  of_levels : (lo hi : PlacedName) → AreOfNames (levels_faults policy lo hi)
  of_levels lo hi =
      let order : Bool = below (labels_of policy) (numbered (label_named policy lo.0))
      (numbered (label_named policy hi.0)) in
      of_both (known (label_named policy lo.0) lo.1)
      (known (label_named policy hi.0) hi.1 ++ unless order hi.1 cause.LabelOrder)
      (of_known (label_named policy lo.0) lo.1)
      (of_both (known (label_named policy hi.0) hi.1) (unless order hi.1 cause.LabelOrder)
      (of_known (label_named policy hi.0) hi.1) (of_unless order hi.1 cause.LabelOrder refl))

  of_name : (earlier : List Draft) (name : PlacedName) → AreOfNames (name_faults schemes earlier name)
  of_name earlier name = of_unless (not (is_some (relation_named schemes name.0) || list_any (bytes_eq name.0)
      (map (λ t. t.name) earlier))) name.1 cause.Repeated refl

  reads_heading : (earlier : List Draft) → Reads k (heading_at policy schemes earlier)
  unfolding heading_at
  reads_heading earlier =
      let item : Name → PlacedName → PlacedName → Name × ℕ × ℕ = λ name lo hi. (
        name,
        numbered (label_named policy lo.0),
        numbered (label_named policy hi.0),
      ) in
      let made : Name → PlacedName → PlacedName × State → Read (Name × ℕ × ℕ) =
      λ name lo hi. Ok (item name lo hi.0, note (levels_faults policy lo hi.0) hi.1) in
      let behind : Name → PlacedName × State → Read (Name × ℕ × ℕ) =
      λ name lo. name_behind (codes "to") lo.1 >>= λ hi. made name lo.0 hi in
      reads_then k (reads_name k) (λ name. name_behind (codes "levels")
      (note (name_faults schemes earlier name.0) name.1) >>=
      λ lo. behind name.0.0 lo)
      (λ name. reads_after k {r = λ t. name_behind (codes "levels") t >>= λ lo. behind name.0 lo}
      (name_faults schemes earlier name) (of_name earlier name)
      (reads_then k (reads_behind_word k (codes "levels")) (λ lo. behind name.0 lo)
      (λ lo. reads_then k (reads_behind_word k (codes "to")) (λ hi. made name.0 lo hi)
      (λ hi. reads_noted k (item name.0 lo hi) (levels_faults policy lo hi) (of_levels lo hi)))))

  reads_body : (hi : ℕ) (params : List (Name × Parameter)) → Reads k (body_at policy schemes hi params)
  unfolding body_at
  reads_body hi params = reads_then k (reads_sign k signs.LeftBrace) (λ brace. vars_at params brace.1 >>=
      λ vars. stmts_at 16 (outermost policy schemes hi params vars.0) 0 vars.1 >>=
      λ body. Ok ((vars.0, body.0.0), body.1))
      (λ brace. reads_then k (reads_vars k params)
      (λ vars. stmts_at 16 (outermost policy schemes hi params vars.0) 0 vars.1 >>=
      λ body. Ok ((vars.0, body.0.0), body.1))
      (λ vars. reads_then k (reads_stmts k 16 (outermost policy schemes hi params vars) 0)
      (λ body. Ok ((vars, body.0.0), body.1)) (λ body. reads_done k (vars, body.0))))

  reads_transaction : (earlier : List Draft) → Reads k (transaction_at policy schemes earlier)
  unfolding transaction_at
  reads_transaction earlier =
      let made : Name × ℕ × ℕ → List (Name × Parameter) → List (Name × Kind) × Block → Draft =
      λ head params body. record {
        name = head.0;
        lo = head.1;
        hi = head.2;
        params = params;
        vars = body.0;
        body = body.1;
      } in
      reads_then k (reads_heading earlier) (λ head. params_at policy head.1 >>=
      λ params. body_at policy schemes head.0.2 params.0 params.1 >>=
      λ body. Ok (made head.0 params.0 body.0, body.1))
      (λ head. reads_then k (reads_params k policy) (λ params. body_at policy schemes head.2 params.0 params.1 >>=
      λ body. Ok (made head params.0 body.0, body.1))
      (λ params. reads_then k (reads_body head.2 params) (λ body. Ok (made head params body.0, body.1))
      (λ body. reads_done k (made head params body))))

  reads_next_transaction : (front : List Draft) → Reads k (next_transaction policy schemes front)
  unfolding next_transaction
  reads_next_transaction front =
      let inside : State → Read (Option (List Draft)) = λ t. transaction_at policy schemes front t >>=
      λ x. Ok (Some (front ++ x.0 ∷ []), x.1) in
      let behind : ℕ × State → Read (Option (List Draft)) =
      λ word. if nat_lt (length front) 64 then inside word.1 else too_many word.0 in
      reads_unless_over k None (λ s. word_at (codes "transaction") s >>= behind)
      (token_then k (pass (is_word (codes "transaction"))) (λ n. n) (is_pass (is_word (codes "transaction"))) behind
      (λ p at is. from_either k (nat_lt (length front) 64) at inside (λ t. too_many at) (reads_behind k at inside
      (reads_then k (reads_transaction front) (λ x. Ok (Some (front ++ x.0 ∷ []), x.1))
      (λ x. reads_done k (Some (front ++ x ∷ []))))) (reads_fault k at cause.TooLong)))

  pub reads_transactions : Reads k (transactions_at policy schemes)
  unfolding transactions_at
  reads_transactions = reads_things k (next_transaction policy schemes) reads_next_transaction 65 []
