-- Transactions, from the tokens that are left.
use Rattle.std.specs.Prelude.{ℕ, zero, suc, ◌+◌, not, ◌||◌, nat_lt, if◌then◌else◌, List, [], ◌∷◌, ◌++◌, codes, map}
use Rattle.std.specs.Prelude.{length, Option, Some, None, is_some, Ok, Err, bytes_eq}
use Rattle.std.specs.List.{list_any}
use Rattle.mls_lattice.specs.Labels.{below}
use Rattle.mls_lattice.specs.Policy.{Name, Policy, labels_of}
use Rattle.mls_lattice.specs.Reading.{◌>>=◌}
use Rattle.mls_scheme.specs.declared.value.Kind.{Kind}
use Rattle.mls_scheme.specs.Scheme.{Schemes}
use Rattle.mls_tokens.specs.declared.sign.Sign.TheVariants.{LeftParen, RightParen, LeftBrace, Semicolon, Colon}
use Rattle.mls_tokens.specs.Passing.{refused, PlacedName, has_ended}
use Rattle.mls_translang.specs.declared.tx.Parameter.{Parameter}
use Rattle.mls_scheme.specs.Named.{has_name}
use Rattle.mls_translang.specs.Tokens.{Context}
use Rattle.mls_translang.specs.Tree.{Block}
use Rattle.mls_translang.specs.Tx.{Tx}
use Rattle.mls_parser.specs.declared.draft.Draft.{Draft}
use Rattle.mls_parser.specs.declared.fault.TextCause.TheVariants as cause
use Rattle.mls_parser.specs.declared.fault.PlacedFault.{PlacedFault}
use Rattle.mls_parser.specs.Fault.{fault, unless, lifted}
use Rattle.mls_parser.specs.Names.{label_named, relation_named, numbered}
use Rattle.mls_parser.specs.Noted.{State, Read, note, token, takes_sign, takes_word, sign_at, word_at, name_at}
use Rattle.mls_parser.specs.Noted.{name_behind, known}
use Rattle.mls_parser.specs.ReadList.{items_at}
use Rattle.mls_parser.specs.ReadBlock.{stmts_at}
use Rattle.mls_parser.specs.Words.{kind_of, pass_known}

-- ---- one after another

-- one thing more than there may be
abbrev pub too_many : {X : Type 0} → ℕ → Read X
too_many at = Err (fault at cause.TooLong)

abbrev pub with_next : {A : Type 0} → (A → State → Read A) → A → Option A × State → Read A
with_next more things (None, s) = Ok (things, s)
with_next more things (Some new, s) = more new s

module _ {A : Type 0} (next : A → State → Read (Option A)) where
  -- n things at most, behind those before
  abbrev pub things_from : ℕ → A → State → Read A
  things_from zero things s = Err (lifted (refused s.1))
  things_from (suc n) things s = next things s >>= with_next (λ new r. things_from n new r) things

-- ---- names that a transaction declares

-- a name that is given again counts as the first
abbrev pub kept : {T : Type 0} → List (Name × T) → Name × T → List (Name × T)
kept xs x = if has_name xs x.0 then xs else (xs ++ x ∷ [])

-- what is declared by name, and how often something was
abbrev pub Declared : Type 0 → Type 0
Declared T = List (Name × T) × ℕ

-- ---- parameters

-- behind its name
unfoldable pub param_behind : Policy → List (Name × Parameter) → PlacedName → State → Read (List (Name × Parameter))
param_behind policy front name s = do
  colon ← sign_at Colon s
  kind ← token (pass_known kind_of) colon.1
  label ← name_behind (codes "at") kind.1
  Ok (
    kept front (name.0, record { kind = kind.0.0; label = numbered (label_named policy label.0.0) }),
    note (unless (not (has_name front name.0)) name.1 cause.Repeated
        ++ known (label_named policy label.0.0) label.0.1) label.1,
  )

unfoldable pub next_param : Policy → Declared Parameter → State → Read (Declared Parameter)
next_param policy front s =
    name_at s >>= λ n. if nat_lt front.1 64 then (param_behind policy front.0 n.0 n.1 >>= λ ps. Ok (
      (ps.0, front.1 + 1),
      ps.1,
    )) else too_many n.0.1

abbrev pub params_behind : Policy → State → Option (ℕ × State) → Read (List (Name × Parameter))
params_behind policy s (Some end) = Ok ([], end.1)
params_behind policy s None = do
  ps ← items_at (next_param policy) ([], 0) s
  end ← sign_at RightParen ps.1
  Ok (ps.0.0, end.1)

unfoldable pub params_at : Policy → State → Read (List (Name × Parameter))
params_at policy s = sign_at LeftParen s >>= λ x. params_behind policy x.1 (takes_sign RightParen x.1)

-- ---- variables

-- behind its first word
unfoldable pub var_behind : List (Name × Parameter) → List (Name × Kind) → State → Read (List (Name × Kind))
var_behind params front s = do
  name ← name_at s
  colon ← sign_at Colon name.1
  kind ← token (pass_known kind_of) colon.1
  end ← sign_at Semicolon kind.1
  Ok (
    kept front (name.0.0, kind.0.0),
    note
        (unless (not (has_name params name.0.0 || has_name front name.0.0)) name.0.1 cause.Repeated) end.1,
  )

abbrev pub var_if : List (Name × Parameter) → Declared Kind → State → Option (ℕ × State) → Read (Option (Declared Kind))
var_if params front s None = Ok (None, s)
var_if params front s (Some word) =
    if nat_lt front.1 64 then (var_behind params front.0 word.1 >>= λ vs. Ok (
      Some (vs.0, front.1 + 1),
      vs.1,
    )) else too_many word.0

-- none, where no more stands here
unfoldable pub next_var : List (Name × Parameter) → Declared Kind → State → Read (Option (Declared Kind))
next_var params front s = var_if params front s (takes_word (codes "var") s)

unfoldable pub vars_at : List (Name × Parameter) → State → Read (List (Name × Kind))
vars_at params s = things_from (next_var params) 65 ([], 0) s >>= λ vs. Ok (vs.0.0, vs.1)

-- ---- transactions

-- a name that a relation or one of these transactions has
abbrev pub name_faults : Schemes → List Draft → PlacedName → List PlacedFault
name_faults schemes earlier name =
    unless (not (is_some (relation_named schemes name.0) || list_any (bytes_eq name.0)
    (map (λ t. t.name) earlier))) name.1 cause.Repeated

abbrev pub levels_faults : Policy → PlacedName → PlacedName → List PlacedFault
levels_faults policy lo hi =
    known (label_named policy lo.0) lo.1
    ++ (known (label_named policy hi.0) hi.1
    ++ unless (below (labels_of policy) (numbered (label_named policy lo.0))
    (numbered (label_named policy hi.0))) hi.1 cause.LabelOrder)

module _ (policy : Policy) (schemes : Schemes) where
  -- its name, and the labels that it runs between
  unfoldable pub heading_at : List Draft → State → Read (Name × ℕ × ℕ)
  heading_at earlier s = do
    name ← name_at s
    lo ← name_behind (codes "levels") (note (name_faults schemes earlier name.0) name.1)
    hi ← name_behind (codes "to") lo.1
    Ok (
      (name.0.0, numbered (label_named policy lo.0.0), numbered (label_named policy hi.0.0)),
      note (levels_faults policy lo.0 hi.0) hi.1,
    )

  -- where its statements stand
  abbrev pub outermost : ℕ → List (Name × Parameter) → List (Name × Kind) → Context
  outermost hi params vars = record {
    policy = policy;
    schemes = schemes;
    hi = hi;
    scope = record {
      params = params;
      vars = vars;
      rows = [];
    };
  }

  -- its variables and its statements
  unfoldable pub body_at : ℕ → List (Name × Parameter) → State → Read (List (Name × Kind) × Block)
  body_at hi params s = do
    brace ← sign_at LeftBrace s
    vars ← vars_at params brace.1
    body ← stmts_at 16 (outermost hi params vars.0) 0 vars.1
    Ok ((vars.0, body.0.0), body.1)

  -- behind its first word
  unfoldable pub transaction_at : List Draft → State → Read Draft
  transaction_at earlier s = do
    head ← heading_at earlier s
    params ← params_at policy head.1
    body ← body_at head.0.2 params.0 params.1
    Ok (
      record { name = head.0.0; lo = head.0.1; hi = head.0.2; params = params.0; vars = body.0.0; body = body.0.1 },
      body.1,
    )

  -- none at the end
  unfoldable pub next_transaction : List Draft → State → Read (Option (List Draft))
  next_transaction front s =
      if has_ended s.1 then Ok (None, s)
      else (word_at (codes "transaction") s >>= λ word. if nat_lt (length front) 64 then
      (transaction_at front word.1 >>= λ t. Ok (Some (front ++ t.0 ∷ []), t.1)) else too_many word.0)

  unfoldable pub transactions_at : State → Read (List Draft)
  transactions_at s = things_from next_transaction 65 [] s

abbrev pub tx_of : Draft → Tx
tx_of t = record { name = t.name; lo = t.lo; hi = t.hi; params = t.params; vars = t.vars; body = t.body }
