-- What stands there is read: blocks.
use Rattle.std.proofs.Common.{◌≡◌, ℕ, zero, suc, ◌+◌, ◌-◌, ◌<◌, ◌≤◌, true, false, not, List, [], ◌∷◌, ◌++◌, length, map, Option, Some, None, Ok, Err, inl, inr, refl, sym, ap, ◌∙◌, subst, arith, append_assoc, codes, if◌then◌else◌, bytes_eq, lt-ltb, append-nil}
use Rattle.std.specs.List.{AllByRecursion, list_any}
use Rattle.std.proofs.lemmas.Bool.{or_parts}
use Rattle.std.proofs.lemmas.Map.Keys.{IsDistinct-cons}
use Rattle.mls_lattice.specs.Name.{is_name, is_reserved}
use Rattle.mls_lattice.specs.Policy.{Name}
use Rattle.mls_lattice.specs.Reading.{◌>>=◌}
use Rattle.mls_scheme.specs.Scheme.{scheme_of}
use Rattle.mls_tokens.specs.declared.token.Token.{Token}
use Rattle.mls_tokens.specs.declared.token.Token.TheVariants.{Word, Sign}
use Rattle.mls_tokens.specs.declared.sign.Sign.TheVariants as sign
use Rattle.mls_tokens.specs.Passing.{is_word, is_sign}
use Rattle.mls_tokens.specs.Scanning.{Left, without_places}
use Rattle.mls_tokens.proofs.NextLemmas.{NotNext}
use Rattle.mls_translang.specs.declared.block.Stmt.{Stmt as Form}
use Rattle.mls_translang.specs.declared.block.Stmt.TheVariants as forms
use Rattle.mls_translang.specs.Blocks.{block_of}
use Rattle.mls_translang.specs.Fits.{IsLabel, ExprFits, WritingFits, StmtFits, BlockFits}
use Rattle.mls_translang.specs.Kinds.{Truth, HasSort, WritingKinds, StmtKinds, BlockKinds}
use Rattle.mls_translang.specs.Scope.{IsFresh}
use Rattle.mls_translang.specs.Tells.{TellsOther, TellsBlock}
use Rattle.mls_translang.specs.Tokens.{Context, at_row, name_at as name_of, label_token, rel_token, var_token, expr_tokens, list_tokens, class_tokens, update_end, write_end, stmt_end, write_tokens, stmt_tokens, for_tokens, braced as braced_tokens}
use Rattle.mls_translang.specs.Tree.{Expr, Writing, Insert, Update, Delete, Stmt, Assign, Write_at, Release, Emit, Block, End, Do, If, For, statements, is_end}
use Rattle.mls_translang.specs.Tx.{IsOwn, WritingIsOwn, StmtIsOwn, BlockIsOwn, depth}
use Rattle.mls_parser.specs.declared.fault.PlacedFault.{PlacedFault}
use Rattle.mls_parser.specs.declared.fault.TextCause.TheVariants as cause
use Rattle.mls_parser.specs.declared.words.Opening.{Opening}
use Rattle.mls_parser.specs.declared.words.Opening.TheVariants as openings
use Rattle.mls_parser.specs.declared.words.Plain.{Plain}
use Rattle.mls_parser.specs.declared.words.Plain.TheVariants as plains
use Rattle.mls_parser.specs.Fault.{fault, unless}
use Rattle.mls_parser.specs.Infer.{may_be_truth}
use Rattle.mls_parser.specs.Names.{is_taken}
use Rattle.mls_parser.specs.Noted.{State, Read, note, takes_sign, word_at, label_behind, relation_at}
use Rattle.mls_parser.specs.ReadList.{tested}
use Rattle.mls_parser.specs.ReadBlock.{plain_at, guard_at, loop_head_at, Counted, with_count, braced, other_of, other_at, blocks_at, content_at, opened, stmt_with, deep_stmt, end_or, stmts_from, stmts_with, stmts_at}
use Rattle.mls_parser.specs.Words.{opening_of}
use Rattle.mls_parser.proofs.ExprAgain.{differs, whole_again}
use Rattle.mls_parser.proofs.FoundLemmas.{HasNames, variable_is_name}
use Rattle.mls_parser.proofs.ListAgain.{NoDot}
use Rattle.mls_parser.proofs.NextLemmas.{Gets, Same, gets_more, gets_then, placed_then, gets_done, gets_noted, gets_is, gets_same, quiet, sign_gets, word_gets, name_gets, known_gets, took_sign, took_word, after_took, no_sign, no_word, none}
use Rattle.mls_parser.proofs.ScopeLemmas.{all_taken}
use Rattle.mls_parser.proofs.StmtAgain.{HasOutcome, keyed, label_gets, relation_gets, insert_gets, update_gets, delete_gets, assign_gets, release_gets, emit_gets}

-- ---- blocks as lists of statements

abbrev pub form_of : Stmt → Form
form_of (Assign x e) = forms.Assign x e
form_of (Write_at relation w writing o) = forms.Write relation w writing o
form_of (Release e to into) = forms.Release e to into
form_of (Emit e label) = forms.Emit e label

abbrev pub forms_of : Block → List Form
forms_of End = []
forms_of (Do stmt rest) = form_of stmt ∷ forms_of rest
forms_of (If guard one other rest) = forms.If guard one other ∷ forms_of rest
forms_of (For row relation label body rest) = forms.For row relation label body ∷ forms_of rest

form_block : (s : Stmt) (fs : List Form) → block_of (form_of s ∷ fs) ≡ Do s (block_of fs)
form_block (Assign x e) fs = refl
form_block _ fs = refl

forms_block : (b : Block) → block_of (forms_of b) ≡ b
forms_block End = refl
forms_block (Do stmt rest) = form_block stmt (forms_of rest) ∙ ap (λ b. Do stmt b) (forms_block rest)
forms_block (If guard one other rest) = ap (λ b. If guard one other b) (forms_block rest)
forms_block (For row relation label body rest) = ap (λ b. For row relation label body b) (forms_block rest)

-- ---- statements by their first token

name_opening : (s : Name) → is_name s ≡ true → opening_of (Word s) ≡ Some (openings.Plain (plains.Assign s))
unfolding is_reserved
name_opening s named =
    rw (
      differs (codes "if") s refl named,
      differs (codes "for") s refl named,
      differs (codes "insert") s refl named,
      differs (codes "update") s refl named,
      differs (codes "delete") s refl named,
      differs (codes "release") s refl named,
      differs (codes "emit") s refl named,
      named,
    ) refl

module _ (inner : Context → ℕ → State → Counted Block) (p : Context) where
  opening_gets : (o : Opening) (t : Token) (us : List Token) (count : ℕ) (s : State) (P : Form × ℕ → Type 0)
      (vs : List Token) → opening_of t ≡ Some o → count < 1000 → without_places s.1.placed ≡ t ∷ us
      → ((at : ℕ) (m : Left) → without_places m.placed ≡ us → Gets (content_at inner p o at (count + 1) (s.0, m)) (
        s.0,
        m,
      ) P vs) → Gets (stmt_with inner p count s) s P vs
  opening_gets o t us count s P vs found less k next =
      placed_then (λ x. opened inner p x.0.0 x.0.1 count x.1) (known_gets opening_of o t us found s k)
      (λ at m j. gets_is (opened inner p o at count (s.0, m)) (content_at inner p o at (count + 1) (s.0, m)) (
        s.0,
        m,
      ) P vs
      (ap (λ b. if b then content_at inner p o at (count + 1) (s.0, m) else Err (fault at cause.TooLong))
      (lt-ltb count 1000 less)) (next at m j))

  plain_gets : (form : Plain) (t : Token) (us : List Token) (count : ℕ) (s : State) (f : Form) (vs : List Token)
      → opening_of t ≡ Some (openings.Plain form) → count < 1000 → without_places s.1.placed ≡ t ∷ us
      → ((at : ℕ) (m : Left) → without_places m.placed ≡ us → Gets (plain_at p form at (s.0, m)) (s.0, m) (Same f) vs)
      → Gets (stmt_with inner p count s) s (Same (f, count + 1)) vs
  plain_gets form t us count s f vs found less k next =
      opening_gets (openings.Plain form) t us count s (Same (f, count + 1)) vs found less k
      (λ at m j. gets_then (with_count (count + 1)) (next at m j) (λ r i. gets_done (f, count + 1) s.0 r
      (Same (f, count + 1)) vs refl i))

  module _ (n : HasNames p) where
    writing_gets : (relation w : ℕ) (x : Writing) (o : Option ℕ) (us : List Token) (count : ℕ) (s : State)
        → count < 1000 → relation < length p.schemes → IsLabel p.policy w → WritingIsOwn p.scope x
        → WritingFits p.policy p.schemes p.hi p.scope (scheme_of p.schemes relation) x → WritingKinds p.schemes p.scope
        (scheme_of p.schemes relation) x
        → HasOutcome p o → without_places s.1.placed ≡ write_tokens p relation w o x ++ us
        → Gets (stmt_with inner p count s) s (Same (form_of (Write_at relation w x o), count + 1)) us
    writing_gets relation w (Insert key values) o us count s less hr hw own fit kind h k =
        plain_gets plains.Insert (Word (codes "insert"))
        ((keyed p relation key ++ (Word (codes "values") ∷ (list_tokens p values ++ write_end p w (stmt_end p o))))
        ++ us) count s (forms.Write relation w (Insert key values) o) us refl less k
        (λ at m j. insert_gets p n relation w key values o us (s.0, m) hr hw (record {
          own = own.0;
          fits = fit.0;
          kinds = kind.0;
        }) (record { own = own.1; fits = fit.1; kinds = kind.1 }) h j)
    writing_gets relation w (Update key c f []) o us count s less hr hw own fit kind h k = absurd (let none = fit.3.some
        in omega (arith, none))
    writing_gets relation w (Update key c f (x ∷ xs)) o us count s less hr hw own fit kind h k =
        plain_gets plains.Update (Word (codes "update"))
        ((keyed p relation key ++ (class_tokens p c f w ++ update_end p relation (x ∷ xs) o)) ++ us) count s
        (forms.Write relation w (Update key c f (x ∷ xs)) o) us refl less k
        (λ at m j. update_gets p n relation w c f key x xs o us (s.0, m) hr hw fit.1 fit.2
        (record { own = own.0; fits = fit.0; kinds = kind.0 }) (record {
          own = own.1;
          fits = fit.3;
          kinds =
              kind.1;
        }) h j)
    writing_gets relation w (Delete key c) o us count s less hr hw own fit kind h k =
        plain_gets plains.Delete (Word (codes "delete"))
        ((keyed p relation key ++ (Word (codes "class") ∷ label_token p c ∷ write_end p w (stmt_end p o)))
        ++ us) count s (forms.Write relation w (Delete key c) o) us refl less k
        (λ at m j. delete_gets p n relation w c key o us (s.0, m) hr hw fit.1 (record {
          own = own;
          fits = fit.0;
          kinds =
              kind;
        }) h j)

    stmt_gets : (stmt : Stmt) (us : List Token) (count : ℕ) (s : State) → count < 1000 → StmtIsOwn p.scope stmt
        → StmtFits p.policy p.schemes p.hi p.scope stmt → StmtKinds p.schemes p.scope stmt
        → without_places s.1.placed ≡ stmt_tokens p stmt ++ us → Gets (stmt_with inner p count s) s
        (Same (form_of stmt, count + 1)) us
    stmt_gets (Assign x e) us count s less o f h k =
        let name = name_of p.scope.vars x in
        plain_gets (plains.Assign name) (var_token p x) (Sign sign.Becomes
        ∷ ((expr_tokens p e ++ Sign sign.Semicolon ∷ []) ++ us)) count s (forms.Assign x e) us
        (name_opening name (variable_is_name p n x o.0)) less k
        (λ at m j. assign_gets p n x at e us (s.0, m) o.0 o.1 f h j)
    stmt_gets (Write_at relation w x outcome) us count s less o f h k =
        writing_gets relation w x outcome us count s less f.0 f.1 o.0 f.2 h.0 (o.1, h.1) k
    stmt_gets (Release e to into) us count s less o f h k =
        plain_gets plains.Release (Word (codes "release"))
        ((expr_tokens p e ++ (Word (codes "to") ∷ label_token p to ∷ Word (codes "into") ∷ var_token p into
        ∷ Sign sign.Semicolon ∷ [])) ++ us) count s (forms.Release e to into) us refl less k
        (λ at m j. release_gets p n e to into us (s.0, m) o.0 o.1 f.0 f.1 f.2 h j)
    stmt_gets (Emit e l) us count s less o f h k =
        plain_gets plains.Emit (Word (codes "emit"))
        ((expr_tokens p e ++ (Word (codes "at") ∷ label_token p l ∷ Sign sign.Semicolon ∷ [])) ++ us) count s
        (forms.Emit e l) us refl less k
        (λ at m j. emit_gets p n e l h.0 us (s.0, m) o f.0 f.1 h.1 j)

-- ---- guards and heads of loops

module _ (p : Context) (n : HasNames p) where
  guard_gets : (e : Expr) (us : List Token) (s : State) → IsOwn p.scope e → ExprFits p.schemes p.scope e
      → HasSort p.schemes p.scope Truth e → NoDot us → without_places s.1.placed ≡ expr_tokens p e ++ us
      → Gets (guard_at p s) s (Same e) us
  unfolding guard_at
  guard_gets e us s o f h off k =
      gets_more (λ g. Ok (g.0.expr, note (tested (may_be_truth g.0.gives) g.0) g.1))
      (whole_again p n e Truth us s o f h off k)
      (λ g m r t. gets_noted g.expr (tested (may_be_truth g.gives) g) s.0 m (Same e) us
      (none g.at cause.Kind r.agrees) r.is t)

  loop_head_gets : (row : Name) (relation l : ℕ) (us : List Token) (s : State) → IsFresh p.scope row
      → relation < length p.schemes → IsLabel p.policy l
      → without_places s.1.placed ≡ Word row ∷ Word (codes "in") ∷ rel_token p relation ∷ Word (codes "at")
      ∷ label_token p l ∷ us → Gets (loop_head_at p s) s (Same (row, relation, l)) us
  unfolding loop_head_at
  loop_head_gets row relation l us s fresh hr hl k =
      let behind : List Token = Word (codes "at") ∷ label_token p l ∷ us in
      let finish : Name → State → Read (Name × ℕ × ℕ) = λ name r. word_at (codes "in") r >>=
      λ w. relation_at p.schemes w.1 >>= λ x. label_behind p.policy (codes "at") x.1 >>= λ y. Ok (
        (name, x.0, y.0),
        y.1,
      ) in
      let again : Name → ℕ → List PlacedFault = λ name at. unless (not (is_taken p name)) at cause.Repeated in
      placed_then (λ x. finish x.0.0 (note (again x.0.0 x.0.1) x.1))
      (name_gets row (Word (codes "in") ∷ rel_token p relation ∷ behind) s fresh.0 k)
      (λ at m t. gets_is (finish row (note (again row at) (s.0, m))) (finish row (s.0, m)) (s.0, m)
      (Same (row, relation, l)) us (ap (finish row) (quiet (again row at) s.0 m
      (none at cause.Repeated (ap not (sym (all_taken p row) ∙ fresh.1)))))
      (gets_more (λ w. relation_at p.schemes w.1 >>= λ x. label_behind p.policy (codes "at") x.1 >>=
      λ y. Ok ((row, x.0, y.0), y.1)) (word_gets (codes "in") (rel_token p relation ∷ behind) (s.0, m) t)
      (λ w m2 is t2. gets_then (λ x. label_behind p.policy (codes "at") x.1 >>= λ y. Ok ((row, x.0, y.0), y.1))
      (relation_gets p n relation behind (s.0, m2) hr t2)
      (λ m3 t3. gets_then (λ y. Ok ((row, relation, y.0), y.1)) (label_gets p n (codes "at") l us (s.0, m3) hl t3)
      (λ m4 t4. gets_done (row, relation, l) s.0 m4 (Same (row, relation, l)) us refl t4)))))

-- inside one loop more
names_more : (p : Context) (row : Name) (relation : ℕ) → HasNames p → IsFresh p.scope row → relation < length p.schemes
    → HasNames (at_row p row relation)
names_more p row relation h fresh within = record {
  policy = h.policy;
  schemes = h.schemes;
  names = (fresh.0, h.names);
  row_apart = IsDistinct-cons bytes_eq row (map (λ r. r.name) p.scope.rows) (none_here (map (λ r. r.name) p.scope.rows)
      (map (λ x. x.0) p.scope.params ++ map (λ v. v.0) p.scope.vars) fresh.1) h.row_apart;
  apart = h.apart;
  rows = (within, h.rows);
}
  where
    none_here : (xs ys : List Name) → list_any (bytes_eq row) (xs ++ ys) ≡ false → AllByRecursion (λ x. bytes_eq row x
        ≡ false) xs
    none_here [] ys e = tt
    none_here (x ∷ xs) ys e = let t = or_parts (bytes_eq row x) (list_any (bytes_eq row) (xs ++ ys)) e
        in (t.0, none_here xs ys t.1)

-- ---- blocks inside

abbrev pub Closed : List Token → List Token
Closed us = Sign sign.RightBrace ∷ us

-- a block of these tokens is read up to its brace
abbrev pub BlockReads : ℕ → Context → Block → List Token → Type 0
BlockReads d p b ts = (count : ℕ) (us : List Token) (s : State) → count + statements b ≤ 1000
    → without_places s.1.placed ≡ ts ++ Closed us → Gets (stmts_at d p count s) s (Same (b, count + statements b)) us

no_other : (b : Block) (count : ℕ) → is_end b ≡ true → ◌≡◌ {A = Block × ℕ} (End, count) (b, count + statements b)
no_other End count e = λ i. (End, same count i)
  where
    same : (count : ℕ) → count ≡ count + 0
    same count = omega arith
no_other _ count e = absurd cc

module _ (d : ℕ) (p : Context) where
  abbrev reads : Context → ℕ → State → Counted Block
  reads q c r = stmts_at d q c r

  braced_gets : (q : Context) (b : Block) (ts : List Token) (count : ℕ) (us : List Token) (s : State)
      → BlockReads d q b ts → count + statements b ≤ 1000 → without_places s.1.placed ≡ braced_tokens ts ++ us
      → Gets (braced reads q count s) s (Same (b, count + statements b)) us
  braced_gets q b ts count us s read few k =
      gets_more (λ brace. reads q count brace.1) (sign_gets sign.LeftBrace ((ts ++ Sign sign.RightBrace ∷ [])
      ++ us) s k)
      (λ at m is t. read count us (s.0, m) few (t ∙ append_assoc ts (Sign sign.RightBrace ∷ []) us))

  other_gets : (b : Block) (ts : List Token) (count : ℕ) (us : List Token) (s : State)
      → TellsOther (is_end b) (λ inner. TellsBlock p b inner) ts → ((inner : List Token) → TellsBlock p b inner
      → BlockReads d p b inner)
      → count + statements b ≤ 1000 → NotNext (is_word (codes "else")) us → without_places s.1.placed ≡ ts ++ us
      → Gets (other_at reads p count s) s (Same (b, count + statements b)) us
  other_gets b ts count us s (inl none) read few off k =
      let here : without_places s.1.placed ≡ us = k ∙ ap (λ z. z ++ us) none.1 in
      gets_is (other_at reads p count s) (Ok ((End, count), s)) s (Same (b, count + statements b)) us
      (ap (other_of reads p count s) (no_word (codes "else") us s off here))
      (gets_done (End, count) s.0 s.1 (Same (b, count + statements b)) us (no_other b count none.0) here)
  other_gets b ts count us s (inr some) read few off k =
      let word = took_word (codes "else") (braced_tokens some.0 ++ us) s (k ∙ ap (λ z. z ++ us) some.1) in
      gets_is (other_at reads p count s) (braced reads p count (s.0, word.rest)) s (Same (b, count + statements b)) us
      (ap (other_of reads p count s) word.is)
      (after_took word (braced_gets p b some.0 count us (s.0, word.rest) (read some.0 some.2) few word.tokens))

  blocks_gets : (one other : Block) (a b : List Token) (count : ℕ) (us : List Token) (s : State) → BlockReads d p one a
      → TellsOther (is_end other) (λ inner. TellsBlock p other inner) b
      → ((inner : List Token) → TellsBlock p other inner → BlockReads d p other inner)
      → count + statements one + statements other ≤ 1000 → NotNext (is_word (codes "else")) us
      → without_places s.1.placed ≡ braced_tokens a ++ (b ++ us) → Gets (blocks_at reads p count s) s
      (Same ((one, other), count + statements one + statements other)) us
  unfolding blocks_at
  blocks_gets one other a b count us s read_one told read_other few off k =
      let total = count + statements one + statements other in
      gets_then (λ x. other_at reads p x.0.1 x.1 >>= λ y. Ok (((x.0.0, y.0.0), y.0.1), y.1)) (braced_gets p one a count
      (b ++ us) s read_one (omega (arith, few)) k)
      (λ m t. gets_then (λ y. Ok (((one, y.0.0), y.0.1), y.1)) (other_gets other b (count + statements one) us (
        s.0,
        m,
      ) told read_other few off t)
      (λ m2 t2. gets_done ((one, other), total) s.0 m2 (Same ((one, other), total)) us refl t2))

  module _ (n : HasNames p) where
    if_gets : (guard : Expr) (one other : Block) (a b : List Token) (count : ℕ) (us : List Token) (s : State)
        → IsOwn p.scope guard → ExprFits p.schemes p.scope guard → HasSort p.schemes p.scope Truth guard
        → BlockReads d p one a
        → TellsOther (is_end other) (λ inner. TellsBlock p other inner) b
        → ((inner : List Token) → TellsBlock p other inner → BlockReads d p other inner)
        → count + 1 + statements one + statements other ≤ 1000
        → NotNext (is_word (codes "else")) us → without_places s.1.placed ≡ Word (codes "if")
        ∷ (expr_tokens p guard ++ (braced_tokens a ++ (b ++ us)))
        → Gets (stmt_with reads p count s) s (Same (
          forms.If guard one other,
          count + 1 + statements one + statements other,
        )) us
    if_gets guard one other a b count us s o f h read_one told read_other few off k =
        let x : Form × ℕ = (forms.If guard one other, count + 1 + statements one + statements other) in
        let behind : List Token = braced_tokens a ++ (b ++ us) in
        opening_gets reads p openings.If (Word (codes "if")) (expr_tokens p guard ++ behind) count s (Same x) us refl
        (omega (arith, few)) k
        (λ at m j. gets_then (λ g. blocks_at reads p (count + 1) g.1 >>= λ c. Ok (
          (forms.If g.0 c.0.0.0 c.0.0.1, c.0.1),
          c.1,
        )) (guard_gets p n guard behind (s.0, m) o f h refl j)
        (λ m2 t2. gets_then (λ c. Ok ((forms.If guard c.0.0.0 c.0.0.1, c.0.1), c.1)) (blocks_gets one other a b
        (count + 1) us (s.0, m2) read_one told read_other few off t2)
        (λ m3 t3. gets_done x s.0 m3 (Same x) us refl t3)))

    for_gets : (row : Name) (relation l : ℕ) (body : Block) (a : List Token) (count : ℕ) (us : List Token) (s : State)
        → IsFresh p.scope row → relation < length p.schemes → IsLabel p.policy l
        → BlockReads d (at_row p row relation) body a
        → count + 1 + statements body ≤ 1000 → without_places s.1.placed ≡ for_tokens p row relation l
        ++ (braced_tokens a ++ us) → Gets (stmt_with reads p count s) s (Same (
          forms.For row relation l body,
          count + 1 + statements body,
        )) us
    for_gets row relation l body a count us s fresh hr hl read few k =
        let x : Form × ℕ = (forms.For row relation l body, count + 1 + statements body) in
        let behind : List Token = braced_tokens a ++ us in
        opening_gets reads p openings.For (Word (codes "for")) (Word row ∷ Word (codes "in") ∷ rel_token p relation
        ∷ Word (codes "at") ∷ label_token p l ∷ behind) count s (Same x) us refl (omega (arith, few)) k
        (λ at m j. gets_then (λ h. braced reads (at_row p h.0.0 h.0.1) (count + 1) h.1 >>=
        λ c. Ok ((forms.For h.0.0 h.0.1 h.0.2 c.0.0, c.0.1), c.1)) (loop_head_gets p n row relation l behind (
          s.0,
          m,
        ) fresh hr hl j)
        (λ m2 t2. gets_then (λ c. Ok ((forms.For row relation l c.0.0, c.0.1), c.1))
        (braced_gets (at_row p row relation) body a (count + 1) us (s.0, m2) read few t2)
        (λ m3 t3. gets_done x s.0 m3 (Same x) us refl t3)))

-- ---- what a statement begins with

no_brace : (p : Context) (s : Stmt) (us : List Token) → NotNext (is_sign sign.RightBrace) (stmt_tokens p s ++ us)
no_brace p (Assign x e) us = refl
no_brace p (Write_at relation w (Insert key values) o) us = refl
no_brace p (Write_at relation w (Update key c f sets) o) us = refl
no_brace p (Write_at relation w (Delete key c) o) us = refl
no_brace p (Release e to into) us = refl
no_brace p (Emit e label) us = refl

-- a word that begins no statement
pub record IsOther (w : Name) : Type 0 where
  pub reserved : is_reserved w ≡ true
  pub no_if : bytes_eq (codes "if") w ≡ false
  pub no_for : bytes_eq (codes "for") w ≡ false
  pub no_insert : bytes_eq (codes "insert") w ≡ false
  pub no_update : bytes_eq (codes "update") w ≡ false
  pub no_delete : bytes_eq (codes "delete") w ≡ false
  pub no_release : bytes_eq (codes "release") w ≡ false
  pub no_emit : bytes_eq (codes "emit") w ≡ false

module _ (w : Name) (h : IsOther w) (p : Context) (n : HasNames p) where
  stmt_begins : (s : Stmt) (us : List Token) → StmtIsOwn p.scope s → NotNext (is_word w) (stmt_tokens p s ++ us)
  stmt_begins (Assign x e) us o = differs w (name_of p.scope.vars x) h.reserved (variable_is_name p n x o.0)
  stmt_begins (Write_at relation x (Insert key values) out) us o = h.no_insert
  stmt_begins (Write_at relation x (Update key c f sets) out) us o = h.no_update
  stmt_begins (Write_at relation x (Delete key c) out) us o = h.no_delete
  stmt_begins (Release e to into) us o = h.no_release
  stmt_begins (Emit e label) us o = h.no_emit

  pub block_begins : (b : Block) (ts us : List Token) → BlockIsOwn p.scope b → TellsBlock p b ts
      → NotNext (is_word w) (ts ++ Closed us)
  block_begins End ts us o t = subst (λ z. NotNext (is_word w) (z ++ Closed us)) (sym t) refl
  block_begins (Do stmt rest) ts us o t =
      subst (λ z. NotNext (is_word w) (z ++ Closed us)) (sym t.1)
      (subst (NotNext (is_word w)) (sym (append_assoc (stmt_tokens p stmt) t.0 (Closed us)))
      (stmt_begins stmt (t.0 ++ Closed us) o.0))
  block_begins (If guard one other rest) ts us o t = subst (λ z. NotNext (is_word w) (z ++ Closed us)) (sym t.3) h.no_if
  block_begins (For row relation label body rest) ts us o t = subst (λ z. NotNext (is_word w) (z ++ Closed us))
      (sym t.2) h.no_for

is_else : IsOther (codes "else")
unfolding is_reserved
is_else = record {
  reserved = refl;
  no_if = refl;
  no_for = refl;
  no_insert = refl;
  no_update = refl;
  no_delete = refl;
  no_release = refl;
  no_emit = refl;
}

-- ---- blocks

abbrev reader : ℕ → Context → ℕ → State → Counted Form
reader zero p count s = deep_stmt count s
reader (suc d) p count s = stmt_with (λ q c r. stmts_at d q c r) p count s

-- a block of these tokens is read behind some statements
abbrev ManyRead : ℕ → Context → Block → List Token → Type 0
ManyRead d p b ts =
    (n : ℕ) (front : List Form) (count : ℕ) (us : List Token) (s : State) → statements b < n → count + statements b
    ≤ 1000 → without_places s.1.placed ≡ ts ++ Closed us
    → Gets (stmts_from (reader d p) n front count s) s (Same (block_of (front ++ forms_of b), count + statements b)) us

block_reads : (d : ℕ) (p : Context) (b : Block) (ts : List Token) → ManyRead d p b ts → BlockReads d p b ts
unfolding stmts_at stmts_with
block_reads zero p b ts many count us s few k = gets_same (λ i. (forms_block b i, count + statements b))
    (many (suc (1000 - count)) [] count us s (omega (arith, few)) few k)
block_reads (suc d) p b ts many count us s few k = gets_same (λ i. (forms_block b i, count + statements b))
    (many (suc (1000 - count)) [] count us s (omega (arith, few)) few k)

module _ (d : ℕ) (p : Context) where
  -- a statement, and those behind it
  step : (f : Form) (rest : Block) (r : List Token) (n : ℕ) (front : List Form) (c total : ℕ) (us : List Token)
      (count : ℕ) (s : State) → ManyRead d p rest r → c + statements rest ≡ total → 1 + statements rest < n
      → total ≤ 1000
      → takes_sign sign.RightBrace s ≡ None → Gets (reader d p count s) s (Same (f, c)) (r ++ Closed us)
      → Gets (stmts_from (reader d p) n front count s) s (Same (block_of (front ++ f ∷ forms_of rest), total)) us
  unfolding stmts_from
  step f rest r zero front c total us count s more same less few off x = absurd (omega (arith, less))
  step f rest r (suc n) front c total us count s more same less few off x =
      let after : List Form → ℕ → State → Counted Block = λ xs c r. stmts_from (reader d p) n xs c r in
      gets_is (end_or (reader d p) after front count s (takes_sign sign.RightBrace s)) (reader d p count s >>=
      λ y. after (front ++ y.0.0 ∷ []) y.0.1 y.1) s (Same (block_of (front ++ f ∷ forms_of rest), total)) us
      (ap (end_or (reader d p) after front count s) off)
      (gets_then (λ y. after (front ++ y.0.0 ∷ []) y.0.1 y.1) x
      (λ m t. gets_same (λ i. (block_of (append_assoc front (f ∷ []) (forms_of rest) i), same i))
      (more n (front ++ f ∷ []) c us (s.0, m) (omega (arith, less)) (omega (arith, same, few)) t)))

  end_read : (ts : List Token) → ts ≡ [] → ManyRead d p End ts
  unfolding stmts_from
  end_read ts e zero front count us s less few k = absurd (omega (arith, less))
  end_read ts e (suc n) front count us s less few k =
      let brace = took_sign sign.RightBrace us s (k ∙ ap (λ z. z ++ Closed us) e) in
      let after : List Form → ℕ → State → Counted Block = λ xs c r. stmts_from (reader d p) n xs c r in
      let total : count ≡ count + 0 = omega arith in
      gets_is (end_or (reader d p) after front count s (takes_sign sign.RightBrace s)) (Ok (
        (block_of front, count),
        (s.0, brace.rest),
      )) s (Same (block_of (front ++ []), count + 0)) us
      (ap (end_or (reader d p) after front count s) brace.is)
      (after_took brace (gets_done (block_of front, count) s.0 brace.rest (Same (block_of (front ++ []), count + 0)) us
      (λ i. (block_of (sym (append-nil front) i), total i)) brace.tokens))

regroup : (g m q r b : List Token) → (g ++ (m ++ (q ++ r))) ++ b ≡ g ++ (m ++ (q ++ (r ++ b)))
regroup g m q r b = append_assoc g (m ++ (q ++ r)) b ∙ ap (λ t. g ++ t) (append_assoc m (q ++ r) b ∙ ap (λ t. m ++ t)
    (append_assoc q r b))

pub many_read : (b : Block) (d : ℕ) (p : Context) (ts : List Token) → HasNames p → depth b ≤ d → BlockIsOwn p.scope b
    → BlockFits p.policy p.schemes p.hi p.scope b → BlockKinds p.schemes p.scope b → TellsBlock p b ts
    → ManyRead d p b ts
many_read End d p ts n deep o f h t = end_read d p ts t
many_read (Do stmt rest) (suc d) p ts n deep o f h t = λ m front count us s less few k.
    let behind : List Token = t.0 ++ Closed us in
    let here : without_places s.1.placed ≡ stmt_tokens p stmt ++ behind = k ∙ ap (λ z. z ++ Closed us) t.1
    ∙ append_assoc (stmt_tokens p stmt) t.0 (Closed us) in
    step (suc d) p (form_of stmt) rest t.0 m front (count + 1) (count + (1 + statements rest)) us count s
    (many_read rest (suc d) p t.0 n (omega (arith, deep)) o.1 f.1 h.1 t.2) (omega arith) less few
    (no_sign sign.RightBrace (stmt_tokens p stmt ++ behind) s (no_brace p stmt behind) here)
    (stmt_gets (λ q c r. stmts_at d q c r) p n stmt behind count s (omega (arith, few)) o.0 f.0 h.0 here)
many_read (If guard one other rest) (suc d) p ts n deep o f h t = λ m front count us s less few k.
    let c = count + 1 + statements one + statements other in
    let behind : List Token = t.2 ++ Closed us in
    let all : List Token = Word (codes "if") ∷ (expr_tokens p guard ++ (braced_tokens t.0 ++ (t.1 ++ behind))) in
    let here : without_places s.1.placed ≡ all = k ∙ ap (λ z. z ++ Closed us) t.3 ∙ ap (λ z. Word (codes "if") ∷ z)
    (regroup (expr_tokens p guard) (braced_tokens t.0) t.1 t.2 (Closed us)) in
    step (suc d) p (forms.If guard one other) rest t.2 m front c
    (count + (1 + statements one + statements other + statements rest)) us count s (many_read rest (suc d) p t.2 n
    (omega (arith, deep)) o.3 f.3 h.3 t.6)
    (omega arith) (omega (arith, less)) few (no_sign sign.RightBrace all s refl here)
    (if_gets d p n guard one other t.0 t.1 count behind s o.0 f.0 h.0
    (block_reads d p one t.0 (many_read one d p t.0 n (omega (arith, deep)) o.1 f.1 h.1 t.4)) t.5
    (λ inner told. block_reads d p other inner (many_read other d p inner n (omega (arith, deep)) o.2 f.2 h.2 told))
    (omega (arith, few)) (block_begins (codes "else") is_else p n rest t.2 us o.3 t.6) here)
many_read (For row relation label body rest) (suc d) p ts n deep o f h t = λ m front count us s less few k.
    let q = at_row p row relation in
    let behind : List Token = t.1 ++ Closed us in
    let all : List Token = for_tokens p row relation label ++ (braced_tokens t.0 ++ behind) in
    let here : without_places s.1.placed ≡ all = k ∙ ap (λ z. z ++ Closed us) t.2 ∙ regroup []
    (for_tokens p row relation label) (braced_tokens t.0) t.1 (Closed us) in
    step (suc d) p (forms.For row relation label body) rest t.1 m front (count + 1 + statements body)
    (count + (1 + statements body + statements rest)) us count s
    (many_read rest (suc d) p t.1 n (omega (arith, deep)) o.2 f.3 h.1 t.4) (omega arith) (omega (arith, less)) few
    (no_sign sign.RightBrace all s refl here)
    (for_gets d p n row relation label body t.0 count behind s o.0 f.0 f.1 (block_reads d q body t.0
    (many_read body d q t.0 (names_more p row relation n o.0 f.0) (omega (arith, deep)) o.1 f.2 h.0 t.3))
    (omega (arith, few)) here)
many_read _ zero p ts n deep o f h t = λ m front count us s less few k. absurd (omega (arith, deep))

pub block_again : (p : Context) (b : Block) (ts us : List Token) (s : State) → HasNames p → depth b ≤ 16 → statements b
    ≤ 1000 → BlockIsOwn p.scope b → BlockFits p.policy p.schemes p.hi p.scope b → BlockKinds p.schemes p.scope b
    → TellsBlock p b ts → without_places s.1.placed ≡ ts ++ Closed us
    → Gets (stmts_at 16 p 0 s) s (Same (b, statements b)) us
block_again p b ts us s n deep few o f h t k =
    let total : 0 + statements b ≡ statements b = omega arith in
    gets_same (λ i. (b, total i)) (block_reads 16 p b ts (many_read b 16 p ts n deep o f h t) 0 us s
    (omega (arith, few)) k)
