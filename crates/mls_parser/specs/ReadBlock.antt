-- Statements, and blocks of them, from the tokens that are left.
use Rattle.std.specs.Prelude.{ℕ, zero, suc, ◌+◌, ◌-◌, ◌==◌, Bool, false, not, nat_lt, if◌then◌else◌, List, [], ◌∷◌}
use Rattle.std.specs.Prelude.{◌++◌, codes, Option, Some, None, Ok, Err}
use Rattle.mls_lattice.specs.Labels.{below}
use Rattle.mls_lattice.specs.Policy.{labels_of}
use Rattle.mls_lattice.specs.Reading.{◌>>=◌}
use Rattle.mls_scheme.specs.declared.value.Kind.{Kind}
use Rattle.mls_scheme.specs.declared.value.Kind.TheVariants.{Int}
use Rattle.mls_scheme.specs.Scheme.{Scheme, scheme_of}
use Rattle.mls_tokens.specs.declared.sign.Sign.TheVariants.{LeftBrace, RightBrace, Semicolon, Becomes}
use Rattle.mls_tokens.specs.Passing.{refused, PlacedName}
use Rattle.mls_translang.specs.declared.block.Stmt.{Stmt}
use Rattle.mls_translang.specs.declared.block.Stmt.TheVariants as stmts
use Rattle.mls_translang.specs.Blocks.{block_of}
use Rattle.mls_translang.specs.Scope.{kind_of_var}
use Rattle.mls_translang.specs.Tokens.{Context, at_row}
use Rattle.mls_translang.specs.Tree.{Expr, Insert, Update, Delete, Block, End}
use Rattle.mls_parser.specs.declared.fault.TextCause.TheVariants as cause
use Rattle.mls_parser.specs.declared.fault.PlacedFault.{PlacedFault}
use Rattle.mls_parser.specs.declared.given.Given.{Given}
use Rattle.mls_parser.specs.declared.inferred.Inferred.{Inferred}
use Rattle.mls_parser.specs.declared.inferred.Inferred.TheVariants.{Value}
use Rattle.mls_parser.specs.declared.words.Opening.{Opening}
use Rattle.mls_parser.specs.declared.words.Opening.TheVariants as openings
use Rattle.mls_parser.specs.declared.words.Plain.{Plain}
use Rattle.mls_parser.specs.declared.words.Plain.TheVariants as plains
use Rattle.mls_parser.specs.Fault.{fault, unless, lifted}
use Rattle.mls_parser.specs.Infer.{may_be, may_be_truth, may_be_value}
use Rattle.mls_parser.specs.Names.{label_named, variable_named, numbered, is_taken}
use Rattle.mls_parser.specs.Noted.{State, Read, note, token, takes_sign, takes_word, sign_at, word_at, name_at}
use Rattle.mls_parser.specs.Noted.{name_behind, known, label_behind, relation_at}
use Rattle.mls_parser.specs.ReadExpr.{whole_at}
use Rattle.mls_parser.specs.ReadList.{tested, list_at, sets_at}
use Rattle.mls_parser.specs.Words.{opening_of, pass_known}

-- ---- names

abbrev pub label : Context → PlacedName → ℕ
label p n = numbered (label_named p.policy n.0)

abbrev pub variable : Context → PlacedName → ℕ
variable p n = numbered (variable_named p n.0)

-- a value that a variable may have
abbrev pub fits_variable : Option Kind → Inferred → Bool
fits_variable None gives = may_be_value gives
fits_variable (Some k) gives = may_be gives k

-- a variable that gets what an expression gives
abbrev pub target_faults : Context → PlacedName → Option ℕ → Inferred → List PlacedFault
target_faults p target None gives = unless false target.1 cause.UnknownName
target_faults p target (Some i) gives = unless (fits_variable (kind_of_var p.scope i) gives) target.1 cause.Kind

module _ (p : Context) where
  abbrev pub targeted : PlacedName → Inferred → State → State
  targeted n gives s = note (target_faults p n (variable_named p n.0) gives) s

  -- ---- statements with no statement inside

  -- an outcome is a number
  abbrev pub outcome_of : State → Option (ℕ × State) → Read (Option ℕ)
  outcome_of s None = Ok (None, s)
  outcome_of s (Some word) = name_at word.1 >>= λ n. Ok (Some (variable p n.0), targeted n.0 (Value Int) n.1)

  -- the variable of an outcome, if one is named, and the end
  unfoldable pub outcome_at : State → Read (Option ℕ)
  outcome_at s = do
    o ← outcome_of s (takes_word (codes "as") s)
    end ← sign_at Semicolon o.1
    Ok (o.0, end.1)

  -- where a tuple is written, and the outcome
  unfoldable pub written_at : State → Read (ℕ × Option ℕ)
  written_at s = do
    w ← label_behind p.policy (codes "at") s
    o ← outcome_at w.1
    Ok ((w.0, o.0), o.1)

  -- the relation and the key of a write
  unfoldable pub keyed_at : State → Read (ℕ × List Expr)
  keyed_at s = do
    relation ← relation_at p.schemes s
    word ← word_at (codes "key") relation.1
    key ← list_at p (scheme_of p.schemes relation.0).keys word.1
    Ok ((relation.0, key.0), key.1)

  unfoldable pub assign_at : PlacedName → State → Read Stmt
  assign_at target s = do
    b ← sign_at Becomes s
    e ← whole_at p b.1
    end ← sign_at Semicolon e.1
    Ok (stmts.Assign (variable p target) e.0.expr, targeted target e.0.gives end.1)

  unfoldable pub insert_at : State → Read Stmt
  insert_at s = do
    k ← keyed_at s
    word ← word_at (codes "values") k.1
    values ← list_at p (scheme_of p.schemes k.0.0).others word.1
    w ← written_at values.1
    Ok (stmts.Write k.0.0 w.0.0 (Insert k.0.1 values.0) w.0.1, w.1)

  -- the tuple of an update, and where it is written
  unfoldable pub classes_at : State → Read (ℕ × ℕ × ℕ)
  classes_at s = do
    class ← label_behind p.policy (codes "class") s
    from ← label_behind p.policy (codes "from") class.1
    w ← label_behind p.policy (codes "at") from.1
    Ok ((class.0, from.0, w.0), w.1)

  -- its new values, and the outcome
  unfoldable pub changes_at : Scheme → State → Read (List (ℕ × Expr) × Option ℕ)
  changes_at scheme s = do
    word ← word_at (codes "set") s
    sets ← sets_at p scheme word.1
    o ← outcome_at sets.1
    Ok ((sets.0, o.0), o.1)

  unfoldable pub update_at : State → Read Stmt
  update_at s = do
    k ← keyed_at s
    c ← classes_at k.1
    n ← changes_at (scheme_of p.schemes k.0.0) c.1
    Ok (stmts.Write k.0.0 c.0.2 (Update k.0.1 c.0.0 c.0.1 n.0.0) n.0.1, n.1)

  unfoldable pub delete_at : State → Read Stmt
  delete_at s = do
    k ← keyed_at s
    class ← label_behind p.policy (codes "class") k.1
    w ← written_at class.1
    Ok (stmts.Write k.0.0 w.0.0 (Delete k.0.1 class.0) w.0.1, w.1)

  -- a label that the ceiling dominates
  unfoldable pub lower_behind : List ℕ → State → Read ℕ
  lower_behind word s = do
    n ← name_behind word s
    Ok (
      label p n.0,
      note (known (label_named p.policy n.0.0) n.0.1 ++ unless (below (labels_of p.policy)
          (label p n.0) p.hi) n.0.1 cause.LabelOrder) n.1,
    )

  -- an expression that gives a value
  unfoldable pub value_at : State → Read Given
  value_at s = whole_at p s >>= λ e. Ok (e.0, note (tested (may_be_value e.0.gives) e.0) e.1)

  unfoldable pub release_at : State → Read Stmt
  release_at s = do
    e ← value_at s
    to ← lower_behind (codes "to") e.1
    into ← name_behind (codes "into") to.1
    end ← sign_at Semicolon into.1
    Ok (stmts.Release e.0.expr to.0 (variable p into.0), targeted into.0 e.0.gives end.1)

  unfoldable pub emit_at : State → Read Stmt
  emit_at s = do
    e ← value_at s
    label ← label_behind p.policy (codes "at") e.1
    end ← sign_at Semicolon label.1
    Ok (stmts.Emit e.0.expr label.0, end.1)

  -- behind what it begins with
  abbrev pub plain_at : Plain → ℕ → State → Read Stmt
  plain_at (plains.Assign name) at s = assign_at (name, at) s
  plain_at plains.Insert at s = insert_at s
  plain_at plains.Update at s = update_at s
  plain_at plains.Delete at s = delete_at s
  plain_at plains.Release at s = release_at s
  plain_at plains.Emit at s = emit_at s

  -- ---- statements with blocks inside

  unfoldable pub guard_at : State → Read Expr
  guard_at s = whole_at p s >>= λ e. Ok (e.0.expr, note (tested (may_be_truth e.0.gives) e.0) e.1)

  -- the row of a loop, its relation and its label
  unfoldable pub loop_head_at : State → Read (List ℕ × ℕ × ℕ)
  loop_head_at s = do
    row ← name_at s
    word ← word_at (codes "in") (note (unless (not (is_taken p row.0.0)) row.0.1 cause.Repeated) row.1)
    relation ← relation_at p.schemes word.1
    label ← label_behind p.policy (codes "at") relation.1
    Ok ((row.0.0, relation.0, label.0), label.1)

-- what is read, and how many statements the transaction has up to there
abbrev pub Counted : Type 0 → Type 0
Counted X = Read (X × ℕ)

abbrev pub with_count : {X : Type 0} → ℕ → X × State → Counted X
with_count count x = Ok ((x.0, count), x.1)

-- by the blocks that may stand inside at a place, each read up to the brace that closes it
module _ (inner : Context → ℕ → State → Counted Block) (p : Context) where
  abbrev pub braced : ℕ → State → Counted Block
  braced count s = sign_at LeftBrace s >>= λ brace. inner p count brace.1

  abbrev pub other_of : ℕ → State → Option (ℕ × State) → Counted Block
  other_of count s None = Ok ((End, count), s)
  other_of count s (Some word) = braced count word.1

  abbrev pub other_at : ℕ → State → Counted Block
  other_at count s = other_of count s (takes_word (codes "else") s)

  unfoldable pub blocks_at : ℕ → State → Counted (Block × Block)
  blocks_at count s = do
    one ← braced count s
    other ← other_at one.0.1 one.1
    Ok (((one.0.0, other.0.0), other.0.1), other.1)

  abbrev pub if_at : ℕ → State → Counted Stmt
  if_at count s = do
    guard ← guard_at p s
    blocks ← blocks_at count guard.1
    Ok ((stmts.If guard.0 blocks.0.0.0 blocks.0.0.1, blocks.0.1), blocks.1)

module _ (inner : Context → ℕ → State → Counted Block) (p : Context) where
  abbrev pub for_at : ℕ → State → Counted Stmt
  for_at count s = do
    head ← loop_head_at p s
    body ← braced inner (at_row p head.0.0 head.0.1) count head.1
    Ok ((stmts.For head.0.0 head.0.1 head.0.2 body.0.0, body.0.1), body.1)

  abbrev pub content_at : Opening → ℕ → ℕ → State → Counted Stmt
  content_at openings.If at count s = if_at inner p count s
  content_at openings.For at count s = for_at count s
  content_at (openings.Plain form) at count s = plain_at p form at s >>= with_count count

  -- one statement more, if the transaction has no more than 1,000 with it
  abbrev pub opened : Opening → ℕ → ℕ → State → Counted Stmt
  opened opening at count s = if nat_lt count 1000 then content_at opening at (count + 1) s else Err
      (fault at cause.TooLong)

  abbrev pub stmt_with : ℕ → State → Counted Stmt
  stmt_with count s = token (pass_known opening_of) s >>= λ o. opened o.0.0 o.0.1 count o.1

-- a statement inside 16 others
abbrev pub deep_stmt : ℕ → State → Counted Stmt
deep_stmt count s = token (pass_known opening_of) s >>= λ o. Err (fault o.0.1 cause.Depth)

-- ---- blocks

module _ (stmt : ℕ → State → Counted Stmt) where
  -- the end, or a statement more
  abbrev pub end_or : (List Stmt → ℕ → State → Counted Block) → List Stmt → ℕ → State → Option (ℕ × State)
      → Counted Block
  end_or more front count s (Some end) = Ok ((block_of front, count), end.1)
  end_or more front count s None = stmt count s >>= λ x. more (front ++ x.0.0 ∷ []) x.0.1 x.1

  -- n statements at most, behind those before
  unfoldable pub stmts_from : ℕ → List Stmt → ℕ → State → Counted Block
  stmts_from zero front count s = Err (lifted (refused s.1))
  stmts_from (suc n) front count s = end_or (λ xs c r. stmts_from n xs c r) front count s (takes_sign RightBrace s)

  -- no more of them than the transaction may have
  unfoldable pub stmts_with : ℕ → State → Counted Block
  stmts_with count s = stmts_from (suc (1000 - count)) [] count s

-- statements up to the brace that closes them, with d others inside one another at most
unfoldable pub stmts_at : ℕ → Context → ℕ → State → Counted Block
stmts_at zero p count s = stmts_with deep_stmt count s
stmts_at (suc d) p count s = stmts_with (stmt_with (λ q c r. stmts_at d q c r) p) count s

-- one of them
unfoldable pub stmt_at : ℕ → Context → ℕ → State → Counted Stmt
stmt_at d p count s =
    token (pass_known opening_of) s >>= λ o. if d == 0 then Err (fault o.0.1 cause.Depth) else opened
    (λ q c r. stmts_at (d - 1) q c r) p o.0.0 o.0.1 count o.1
