-- Readers of statements read no further than the next token.
use Rattle.std.proofs.Common.{ℕ, zero, suc, ◌+◌, ◌-◌, not, nat_lt, if◌then◌else◌, List, [], ◌∷◌, ◌++◌, codes, bytes_eq, Option, Some, None, is_some, Ok, Err, refl}
use Rattle.mls_lattice.specs.Labels.{below}
use Rattle.mls_lattice.specs.Name.{is_name}
use Rattle.mls_lattice.specs.Policy.{labels_of}
use Rattle.mls_lattice.specs.Reading.{◌>>=◌}
use Rattle.mls_scheme.specs.Scheme.{Scheme, scheme_of}
use Rattle.mls_tokens.specs.declared.token.Token.{Token}
use Rattle.mls_tokens.specs.declared.token.Token.TheVariants.{Word, Int, Text, Sign}
use Rattle.mls_tokens.specs.declared.sign.Sign.TheVariants as signs
use Rattle.mls_tokens.specs.Passing.{PlacedName}
use Rattle.mls_translang.specs.declared.block.Stmt.{Stmt}
use Rattle.mls_translang.specs.declared.block.Stmt.TheVariants as stmts
use Rattle.mls_translang.specs.Blocks.{block_of}
use Rattle.mls_translang.specs.declared.operator.Operator.TheVariants.{Plus}
use Rattle.mls_translang.specs.Scope.{kind_of_var}
use Rattle.mls_translang.specs.Tokens.{Context, at_row}
use Rattle.mls_translang.specs.Tree.{Expr, Insert, Update, Delete, Block, End}
use Rattle.mls_parser.specs.declared.fault.TextCause.TheVariants as cause
use Rattle.mls_parser.specs.declared.fault.PlacedFault.{PlacedFault}
use Rattle.mls_parser.specs.Fault.{fault, unless}
use Rattle.mls_parser.specs.Infer.{may_be_truth, may_be_value, given_by_operator, of_attribute}
use Rattle.mls_parser.specs.Names.{label_named, variable_named, is_taken}
use Rattle.mls_parser.specs.Noted.{State, Read, note, token, takes_word, sign_at, word_at, name_at, name_behind, known, label_behind, relation_at}
use Rattle.mls_parser.specs.ReadExpr.{name_given, whole_at}
use Rattle.mls_parser.specs.ReadList.{tested, list_at, sets_at}
use Rattle.mls_parser.specs.ReadBlock.{label, variable, fits_variable, target_faults, targeted, outcome_of, outcome_at, written_at, keyed_at, assign_at, insert_at, classes_at, changes_at, update_at, delete_at, lower_behind, value_at, release_at, emit_at, guard_at, loop_head_at, Counted, with_count, braced, other_of, other_at, blocks_at, if_at, for_at, opened, stmt_with, deep_stmt, end_or, stmts_from, stmts_with, stmts_at}
use Rattle.mls_parser.specs.Words.{plain_of_word, opening_of}
use Rattle.mls_faults.proofs.ReadsLemmas.{GivenBy, AreOfNames, Two, ReadsFrom, Reads, reads_behind, reads_then}
use Rattle.mls_faults.proofs.StepLemmas.{of_unless, of_both, reads_noted, reads_done, reads_after, reads_fault, reads_refused, AllSome, all_if, all_mapped, known_then, reads_sign, reads_word, reads_name, reads_behind_word, reads_end, reads_if_sign, reads_if_word, from_either}
use Rattle.mls_faults.proofs.ExprReads.{reads_label_behind, reads_relation, reads_whole, reads_list_at, reads_sets}

-- an expression as it is read, and what it gives
abbrev Given : Type 0
Given = GivenBy name_given

abbrev Inferred : Type 0
Inferred = GivenBy of_attribute

module _ (k : Two) (p : Context) where
  -- ---- parts of statements

  of_target : (target : PlacedName) (o : Option ℕ) (gives : Inferred) → AreOfNames (target_faults p target o gives)
  of_target target None gives = (refl, tt)
  of_target target (Some i) gives =
      of_unless (fits_variable (kind_of_var p.scope i) gives) target.1 cause.Kind refl

  reads_outcome_of : Reads k (λ s. outcome_of p s (takes_word (codes "as") s))
  reads_outcome_of =
      let number : Inferred = given_by_operator Plus in
      let made : PlacedName × State → Read (Option ℕ) =
      λ n. Ok (Some (variable p n.0), targeted p n.0 number n.1) in
      reads_if_word k (codes "as") (outcome_of p) (λ at t. name_at t >>= made) (λ s at t. refl) (reads_done k None)
      (λ at. reads_behind k at (λ t. name_at t >>= made) (reads_then k (reads_name k) made
      (λ n. reads_noted k (Some (variable p n)) (target_faults p n (variable_named p n.0) number)
      (of_target n (variable_named p n.0) number))))

  reads_outcome : Reads k (outcome_at p)
  unfolding outcome_at
  reads_outcome = reads_then k reads_outcome_of (λ o. sign_at signs.Semicolon o.1 >>= λ e. Ok (o.0, e.1))
      (λ o. reads_end k signs.Semicolon o)

  reads_written : Reads k (written_at p)
  unfolding written_at
  reads_written = reads_then k (reads_label_behind k p.policy (codes "at"))
      (λ w. outcome_at p w.1 >>= λ o. Ok ((w.0, o.0), o.1))
      (λ w. reads_then k reads_outcome (λ o. Ok ((w, o.0), o.1)) (λ o. reads_done k (w, o)))

  reads_keyed : Reads k (keyed_at p)
  unfolding keyed_at
  reads_keyed = reads_then k (reads_relation k p.schemes) (λ r. word_at (codes "key") r.1 >>=
      λ w. list_at p (scheme_of p.schemes r.0).keys w.1 >>=
      λ key. Ok ((r.0, key.0), key.1))
      (λ r. reads_then k (reads_word k (codes "key"))
      (λ w. list_at p (scheme_of p.schemes r).keys w.1 >>= λ key. Ok ((r, key.0), key.1))
      (λ w. reads_then k (reads_list_at k p (scheme_of p.schemes r).keys)
      (λ key. Ok ((r, key.0), key.1)) (λ key. reads_done k (r, key))))

  -- ---- statements with no statement inside

  reads_assign : (target : PlacedName) → Reads k (assign_at p target)
  unfolding assign_at
  reads_assign target =
      let made : Given → ℕ × State → Read Stmt =
      λ g end. Ok (stmts.Assign (variable p target) g.expr, targeted p target g.gives end.1) in
      reads_then k (reads_sign k signs.Becomes)
      (λ b. whole_at p b.1 >>= λ e. sign_at signs.Semicolon e.1 >>= λ end. made e.0 end)
      (λ b. reads_then k (reads_whole k p) (λ e. sign_at signs.Semicolon e.1 >>= λ end. made e.0 end)
      (λ e. reads_then k (reads_sign k signs.Semicolon) (λ end. made e end)
      (λ end. reads_noted k (stmts.Assign (variable p target) e.expr)
      (target_faults p target (variable_named p target.0) e.gives)
      (of_target target (variable_named p target.0) e.gives))))

  reads_insert : Reads k (insert_at p)
  unfolding insert_at
  reads_insert =
      let made : ℕ × List Expr → List Expr → ℕ × Option ℕ → Stmt =
      λ k v w. stmts.Write k.0 w.0 (Insert k.1 v) w.1 in
      reads_then k reads_keyed (λ k. word_at (codes "values") k.1 >>=
      λ word. list_at p (scheme_of p.schemes k.0.0).others word.1
      >>= λ v. written_at p v.1 >>= λ w. Ok (made k.0 v.0 w.0, w.1))
      (λ key. reads_then k (reads_word k (codes "values"))
      (λ word. list_at p (scheme_of p.schemes key.0).others word.1 >>= λ v. written_at p v.1 >>=
      λ w. Ok (made key v.0 w.0, w.1))
      (λ word. reads_then k (reads_list_at k p (scheme_of p.schemes key.0).others)
      (λ v. written_at p v.1 >>= λ w. Ok (made key v.0 w.0, w.1))
      (λ v. reads_then k reads_written (λ w. Ok (made key v w.0, w.1)) (λ w. reads_done k (made key v w)))))

  reads_classes : Reads k (classes_at p)
  unfolding classes_at
  reads_classes = reads_then k (reads_label_behind k p.policy (codes "class"))
      (λ class. label_behind p.policy (codes "from") class.1 >>=
      λ from. label_behind p.policy (codes "at") from.1 >>= λ w. Ok ((class.0, from.0, w.0), w.1))
      (λ class. reads_then k (reads_label_behind k p.policy (codes "from"))
      (λ from. label_behind p.policy (codes "at") from.1 >>= λ w. Ok ((class, from.0, w.0), w.1))
      (λ from. reads_then k (reads_label_behind k p.policy (codes "at")) (λ w. Ok ((class, from, w.0), w.1))
      (λ w. reads_done k (class, from, w))))

  reads_changes : (scheme : Scheme) → Reads k (changes_at p scheme)
  unfolding changes_at
  reads_changes scheme = reads_then k (reads_word k (codes "set")) (λ word. sets_at p scheme word.1 >>=
      λ sets. outcome_at p sets.1 >>=
      λ o. Ok ((sets.0, o.0), o.1))
      (λ word. reads_then k (reads_sets k p scheme) (λ sets. outcome_at p sets.1 >>= λ o. Ok ((sets.0, o.0), o.1))
      (λ sets. reads_then k reads_outcome (λ o. Ok ((sets, o.0), o.1)) (λ o. reads_done k (sets, o))))

  reads_update : Reads k (update_at p)
  unfolding update_at
  reads_update =
      let made : ℕ × List Expr → ℕ × ℕ × ℕ → List (ℕ × Expr) × Option ℕ → Stmt =
      λ k c n. stmts.Write k.0 c.2 (Update k.1 c.0 c.1 n.0) n.1 in
      reads_then k reads_keyed (λ k. classes_at p k.1 >>= λ c. changes_at p (scheme_of p.schemes k.0.0) c.1 >>=
      λ n. Ok (made k.0 c.0 n.0, n.1))
      (λ key. reads_then k reads_classes
      (λ c. changes_at p (scheme_of p.schemes key.0) c.1 >>= λ n. Ok (made key c.0 n.0, n.1))
      (λ c. reads_then k (reads_changes (scheme_of p.schemes key.0)) (λ n. Ok (made key c n.0, n.1))
      (λ n. reads_done k (made key c n))))

  reads_delete : Reads k (delete_at p)
  unfolding delete_at
  reads_delete =
      let made : ℕ × List Expr → ℕ → ℕ × Option ℕ → Stmt = λ k c w. stmts.Write k.0 w.0 (Delete k.1 c) w.1 in
      reads_then k reads_keyed (λ k. label_behind p.policy (codes "class") k.1 >>= λ c. written_at p c.1 >>=
      λ w. Ok (made k.0 c.0 w.0, w.1))
      (λ key. reads_then k (reads_label_behind k p.policy (codes "class"))
      (λ c. written_at p c.1 >>= λ w. Ok (made key c.0 w.0, w.1))
      (λ c. reads_then k reads_written (λ w. Ok (made key c w.0, w.1)) (λ w. reads_done k (made key c w))))

  reads_lower : (w : List ℕ) → Reads k (lower_behind p w)
  unfolding lower_behind
  reads_lower w =
      let faults : PlacedName → List PlacedFault = λ n. known (label_named p.policy n.0) n.1
      ++ unless (below (labels_of p.policy) (label p n) p.hi) n.1 cause.LabelOrder in
      reads_then k (reads_behind_word k w) (λ n. Ok (label p n.0, note (faults n.0) n.1))
      (λ n. reads_noted k (label p n) (faults n) (of_both (known (label_named p.policy n.0) n.1)
      (unless (below (labels_of p.policy) (label p n) p.hi) n.1 cause.LabelOrder)
      (of_unless (is_some (label_named p.policy n.0)) n.1 cause.UnknownName refl)
      (of_unless (below (labels_of p.policy) (label p n) p.hi) n.1 cause.LabelOrder refl)))

  reads_value : Reads k (value_at p)
  unfolding value_at
  reads_value = reads_then k (reads_whole k p) (λ e. Ok (e.0, note (tested (may_be_value e.0.gives) e.0) e.1))
      (λ e. reads_noted k e (tested (may_be_value e.gives) e) (of_unless (may_be_value e.gives) e.at cause.Kind refl))

  reads_release : Reads k (release_at p)
  unfolding release_at
  reads_release =
      let made : Given → ℕ → PlacedName → ℕ × State → Read Stmt =
      λ e to into end. Ok (stmts.Release e.expr to (variable p into), targeted p into e.gives end.1) in
      reads_then k reads_value (λ e. lower_behind p (codes "to") e.1 >>= λ to. name_behind (codes "into") to.1 >>=
      λ into. sign_at signs.Semicolon into.1 >>= λ end. made e.0 to.0 into.0 end)
      (λ e. reads_then k (reads_lower (codes "to")) (λ to. name_behind (codes "into") to.1 >>=
      λ into. sign_at signs.Semicolon into.1 >>= λ end. made e to.0 into.0 end)
      (λ to. reads_then k (reads_behind_word k (codes "into"))
      (λ into. sign_at signs.Semicolon into.1 >>= λ end. made e to into.0 end)
      (λ into. reads_then k (reads_sign k signs.Semicolon) (λ end. made e to into end)
      (λ end. reads_noted k (stmts.Release e.expr to (variable p into))
      (target_faults p into (variable_named p into.0) e.gives)
      (of_target into (variable_named p into.0) e.gives)))))

  reads_emit : Reads k (emit_at p)
  unfolding emit_at
  reads_emit = reads_then k reads_value (λ e. label_behind p.policy (codes "at") e.1 >>=
      λ l. sign_at signs.Semicolon l.1 >>=
      λ end. Ok (stmts.Emit e.0.expr l.0, end.1))
      (λ e. reads_then k (reads_label_behind k p.policy (codes "at"))
      (λ l. sign_at signs.Semicolon l.1 >>= λ end. Ok (stmts.Emit e.expr l.0, end.1))
      (λ l. reads_end k signs.Semicolon (stmts.Emit e.expr l)))

  -- ---- statements with blocks inside

  reads_guard : Reads k (guard_at p)
  unfolding guard_at
  reads_guard = reads_then k (reads_whole k p) (λ e. Ok (e.0.expr, note (tested (may_be_truth e.0.gives) e.0) e.1))
      (λ e. reads_noted k e.expr (tested (may_be_truth e.gives) e)
      (of_unless (may_be_truth e.gives) e.at cause.Kind refl))

  reads_loop_head : Reads k (loop_head_at p)
  unfolding loop_head_at
  reads_loop_head =
      let faults : PlacedName → List PlacedFault = λ n. unless (not (is_taken p n.0)) n.1 cause.Repeated in
      let rest : List ℕ → ℕ × State → Read (List ℕ × ℕ × ℕ) = λ row word. relation_at p.schemes word.1 >>=
      λ r. label_behind p.policy (codes "at") r.1 >>= λ l. Ok ((row, r.0, l.0), l.1) in
      reads_then k (reads_name k)
      (λ row. word_at (codes "in") (note (faults row.0) row.1) >>= λ word. rest row.0.0 word)
      (λ row. reads_after k {r = λ t. word_at (codes "in") t >>= λ word. rest row.0 word} (faults row)
      (of_unless (not (is_taken p row.0)) row.1 cause.Repeated refl)
      (reads_then k (reads_word k (codes "in")) (λ word. rest row.0 word)
      (λ word. reads_then k (reads_relation k p.schemes)
      (λ r. label_behind p.policy (codes "at") r.1 >>= λ l. Ok ((row.0, r.0, l.0), l.1))
      (λ r. reads_then k (reads_label_behind k p.policy (codes "at")) (λ l. Ok ((row.0, r, l.0), l.1))
      (λ l. reads_done k (row.0, r, l))))))

-- one statement more, if the transaction may have it
from_opened_at : (k : Two) (at count : ℕ) (r : State → Counted Stmt) → Reads k r
    → ReadsFrom k at (λ s. if nat_lt count 1000 then r s else Err (fault at cause.TooLong))
from_opened_at k at count r m = from_either k (nat_lt count 1000) at r (λ s. Err (fault at cause.TooLong))
    (reads_behind k at r m) (reads_fault k at cause.TooLong)

module _ (k : Two) (inner : Context → ℕ → State → Counted Block) (h : (p : Context) (count : ℕ)
    → Reads k (inner p count)) where
  reads_braced : (p : Context) (count : ℕ) → Reads k (braced inner p count)
  reads_braced p count = reads_then k (reads_sign k signs.LeftBrace) (λ brace. inner p count brace.1)
      (λ brace. h p count)

  reads_other : (p : Context) (count : ℕ) → Reads k (other_at inner p count)
  reads_other p count = reads_if_word k (codes "else") (other_of inner p count) (λ at t. braced inner p count t)
      (λ s at t. refl) (reads_done k (End, count))
      (λ at. reads_behind k at (braced inner p count) (reads_braced p count))

  reads_blocks : (p : Context) (count : ℕ) → Reads k (blocks_at inner p count)
  unfolding blocks_at
  reads_blocks p count = reads_then k (reads_braced p count) (λ one. other_at inner p one.0.1 one.1 >>=
      λ other. Ok (((one.0.0, other.0.0), other.0.1), other.1))
      (λ one. reads_then k (reads_other p one.1) (λ other. Ok (((one.0, other.0.0), other.0.1), other.1))
      (λ other. reads_done k ((one.0, other.0), other.1)))

  reads_if : (p : Context) (count : ℕ) → Reads k (if_at inner p count)
  reads_if p count = reads_then k (reads_guard k p) (λ guard. blocks_at inner p count guard.1 >>=
      λ blocks. Ok ((stmts.If guard.0 blocks.0.0.0 blocks.0.0.1, blocks.0.1), blocks.1))
      (λ guard. reads_then k (reads_blocks p count)
      (λ blocks. Ok ((stmts.If guard blocks.0.0.0 blocks.0.0.1, blocks.0.1), blocks.1))
      (λ blocks. reads_done k (stmts.If guard blocks.0.0 blocks.0.1, blocks.1)))

  reads_for : (p : Context) (count : ℕ) → Reads k (for_at inner p count)
  reads_for p count = reads_then k (reads_loop_head k p)
      (λ head. braced inner (at_row p head.0.0 head.0.1) count head.1 >>=
      λ body. Ok ((stmts.For head.0.0 head.0.1 head.0.2 body.0.0, body.0.1), body.1))
      (λ head. reads_then k (reads_braced (at_row p head.0 head.1) count)
      (λ body. Ok ((stmts.For head.0 head.1 head.2 body.0.0, body.0.1), body.1))
      (λ body. reads_done k (stmts.For head.0 head.1 head.2 body.0, body.1)))

  from_counted : (at count : ℕ) {r : State → Read Stmt} → Reads k r → ReadsFrom k at
      (λ s. if nat_lt count 1000 then (r s >>= with_count (count + 1)) else Err (fault at cause.TooLong))
  from_counted at count {r = r} m = from_opened_at k at count (λ s. r s >>= with_count (count + 1))
      (reads_then k m (with_count (count + 1)) (λ x. reads_done k (x, count + 1)))

  -- a statement by its first word
  from_word : (p : Context) (count : ℕ) (w : List ℕ) (at : ℕ)
      → AllSome (λ y. ReadsFrom k at (λ s. opened inner p y at count s)) (opening_of (Word w))
  from_word p count w at =
      all_if (λ y. ReadsFrom k at (λ s. opened inner p y at count s)) (bytes_eq w (codes "if")) _ _
      (from_opened_at k at count _ (reads_if p (count + 1)))
      (all_if (λ y. ReadsFrom k at (λ s. opened inner p y at count s)) (bytes_eq w (codes "for")) _ _
      (from_opened_at k at count _ (reads_for p (count + 1)))
      (all_mapped (λ y. ReadsFrom k at (λ s. opened inner p y at count s)) _ (plain_of_word w)
      (all_if _ (bytes_eq w (codes "insert")) _ _ (from_counted at count (reads_insert k p))
      (all_if _ (bytes_eq w (codes "update")) _ _ (from_counted at count (reads_update k p))
      (all_if _ (bytes_eq w (codes "delete")) _ _ (from_counted at count (reads_delete k p))
      (all_if _ (bytes_eq w (codes "release")) _ _ (from_counted at count (reads_release k p))
      (all_if _ (bytes_eq w (codes "emit")) _ _ (from_counted at count (reads_emit k p))
      (all_if _ (is_name w) _ _ (from_counted at count (reads_assign k p (w, at))) tt))))))))

  from_token : (p : Context) (count : ℕ) (t : Token) (at : ℕ)
      → AllSome (λ y. ReadsFrom k at (λ s. opened inner p y at count s)) (opening_of t)
  from_token p count (Word w) at = from_word p count w at
  from_token p count (Int n) at = tt
  from_token p count (Text s) at = tt
  from_token p count (Sign m) at = tt

  reads_stmt_with : (p : Context) (count : ℕ) → Reads k (stmt_with inner p count)
  reads_stmt_with p count = known_then k opening_of (λ o. opened inner p o.0.0 o.0.1 count o.1) (from_token p count)

module _ (k : Two) where
  -- a statement inside 16 others
  all_deep : {Y : Type 0} (at : ℕ) (o : Option Y)
      → AllSome (λ (y : Y). ReadsFrom {X = Stmt × ℕ} k at (λ s. Err (fault at cause.Depth))) o
  all_deep at None = tt
  all_deep at (Some y) = reads_fault k at cause.Depth

  reads_deep : (count : ℕ) → Reads k (deep_stmt count)
  reads_deep count = known_then k opening_of (λ o. Err (fault o.0.1 cause.Depth)) (λ t at. all_deep at (opening_of t))

  -- ---- blocks

  module _ (stmt : ℕ → State → Counted Stmt) (h : (count : ℕ) → Reads k (stmt count)) where
    reads_stmts_from : (n : ℕ) (front : List Stmt) (count : ℕ) → Reads k (stmts_from stmt n front count)
    unfolding stmts_from
    reads_stmts_from zero front count = reads_refused k
    reads_stmts_from (suc n) front count =
        reads_if_sign k signs.RightBrace
        (end_or stmt (λ xs c r. stmts_from stmt n xs c r) front count)
        (λ at t. Ok ((block_of front, count), t)) (λ s at t. refl)
        (reads_then k (h count) (λ x. stmts_from stmt n (front ++ x.0.0 ∷ []) x.0.1 x.1)
        (λ x. reads_stmts_from n (front ++ x.0 ∷ []) x.1))
        (λ at. reads_behind k at (λ t. Ok ((block_of front, count), t)) (reads_done k (block_of front, count)))

    reads_stmts_with : (count : ℕ) → Reads k (stmts_with stmt count)
    unfolding stmts_with
    reads_stmts_with count = reads_stmts_from (suc (1000 - count)) [] count

  pub reads_stmts : (d : ℕ) (p : Context) (count : ℕ) → Reads k (stmts_at d p count)
  unfolding stmts_at
  reads_stmts zero p count = reads_stmts_with deep_stmt reads_deep count
  reads_stmts (suc d) p count = reads_stmts_with (stmt_with (λ q c r. stmts_at d q c r) p)
      (reads_stmt_with k (λ q c r. stmts_at d q c r) (λ q c. reads_stmts d q c) p) count
