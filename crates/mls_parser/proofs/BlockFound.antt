-- What is read is what stands there: blocks.
use Rattle.std.proofs.Common.{◌≡◌, ℕ, zero, suc, ◌+◌, ◌-◌, ◌<◌, ◌≤◌, Bool, true, false, not, nat_lt, List, [], ◌∷◌, ◌++◌, length, Option, Some, None, Ok, Err, inl, inr, refl, sym, ap, ◌∙◌, subst, arith, append_assoc, codes, if◌then◌else◌, ltb-true, append-nil}
use Rattle.std.proofs.lemmas.Bool.{not-true}
use Rattle.mls_lattice.specs.Reading.{◌>>=◌}
use Rattle.mls_lattice.proofs.ReadingLemmas.{bind_ok, same_ok}
use Rattle.mls_tokens.specs.declared.token.Token.{Token}
use Rattle.mls_tokens.specs.declared.token.Token.TheVariants.{Word, Sign}
use Rattle.mls_tokens.specs.declared.sign.Sign.TheVariants as sign
use Rattle.mls_tokens.specs.Passing.{PlacedName}
use Rattle.mls_tokens.proofs.PassedLemmas.{passed_more}
use Rattle.mls_translang.specs.declared.block.Stmt.{Stmt as Form}
use Rattle.mls_translang.specs.declared.block.Stmt.TheVariants as forms
use Rattle.mls_translang.specs.Blocks.{block_of}
use Rattle.mls_translang.specs.Fits.{IsLabel, ExprFits, BlockFits}
use Rattle.mls_translang.specs.Kinds.{Truth, HasSort, BlockKinds}
use Rattle.mls_translang.specs.Scope.{IsFresh}
use Rattle.mls_translang.specs.Tells.{TellsOther, TellsBlock}
use Rattle.mls_translang.specs.Tokens.{Context, at_row, label_token, rel_token, expr_tokens, braced as braced_tokens, for_tokens}
use Rattle.mls_translang.specs.Tree.{Expr, Block, End, statements, is_end}
use Rattle.mls_translang.specs.Tx.{IsOwn, BlockIsOwn, depth}
use Rattle.mls_parser.specs.declared.fault.PlacedFault.{PlacedFault}
use Rattle.mls_parser.specs.declared.fault.TextCause.TheVariants as cause
use Rattle.mls_parser.specs.declared.words.Opening.{Opening}
use Rattle.mls_parser.specs.declared.words.Opening.TheVariants as openings
use Rattle.mls_parser.specs.declared.words.Plain.{Plain}
use Rattle.mls_parser.specs.declared.words.Plain.TheVariants as plains
use Rattle.mls_parser.specs.Fault.{fault, unless}
use Rattle.mls_parser.specs.Infer.{may_be_truth}
use Rattle.mls_parser.specs.Names.{is_taken}
use Rattle.mls_parser.specs.Noted.{State, Read, note, token, takes_sign, takes_word, sign_at, word_at, name_at, label_behind, relation_at}
use Rattle.mls_parser.specs.ReadExpr.{whole_at}
use Rattle.mls_parser.specs.ReadList.{tested}
use Rattle.mls_parser.specs.ReadBlock.{plain_at, guard_at, loop_head_at, Counted, braced, other_of, other_at, blocks_at, if_at, for_at, content_at, opened, stmt_with, deep_stmt, end_or, stmts_from, stmts_with, stmts_at}
use Rattle.mls_parser.specs.Words.{opening_of, pass_known}
use Rattle.mls_parser.proofs.FaultLemmas.{holds}
use Rattle.mls_parser.proofs.FoundSteps.{Found, found_none, found_next, found_noted, found_made, sign_read, word_read, name_read}
use Rattle.mls_parser.proofs.ListFound.{right_read}
use Rattle.mls_parser.proofs.PassedLemmas.{sign_taken, word_taken, known_found, split}
use Rattle.mls_parser.proofs.ScopeLemmas.{all_taken}
use Rattle.mls_parser.proofs.SortLemmas.{as_truth}
use Rattle.mls_parser.proofs.StmtFound.{label_read, relation_read, IsPlain, assign_read, release_read, emit_read}
use Rattle.mls_parser.proofs.WordLemmas.{PlainIs, OpeningIs, opening_is}
use Rattle.mls_parser.proofs.WriteFound.{insert_read, update_read, delete_read}

-- ---- guards and heads of loops

module _ (p : Context) where
  record IsGuard (ts : List Token) (e : Expr) : Type 0 where
    tokens : ts ≡ expr_tokens p e
    own : IsOwn p.scope e
    fits : ExprFits p.schemes p.scope e
    truth : HasSort p.schemes p.scope Truth e

  guard_read : (s : State) (x : Expr × State) → guard_at p s ≡ Ok x → Found IsGuard s x
  unfolding guard_at
  guard_read s =
      found_noted IsGuard s (whole_at p s) (λ g. g.expr) (λ g. tested (may_be_truth g.gives) g) (right_read p s)
      (λ g ts none r. record {
        tokens = r.tokens;
        own = record { nesting = r.nesting; numbers = r.sound.own };
        fits = r.sound.fits;
        truth = as_truth p g.gives g.expr (holds (may_be_truth g.gives) g.at _ none) r.sound.gives;
      })

  record IsHead (ts : List Token) (h : List ℕ × ℕ × ℕ) : Type 0 where
    tokens : Word (codes "for") ∷ ts ≡ for_tokens p h.0 h.1 h.2
    fresh : IsFresh p.scope h.0
    relation : h.1 < length p.schemes
    label : IsLabel p.policy h.2

  -- behind the row's name
  abbrev IsRanged : List ℕ → List Token → List ℕ × ℕ × ℕ → Type 0
  IsRanged row ts h = (h.0 ≡ row) × (h.1 < length p.schemes) × IsLabel p.policy h.2
      × (ts ≡ Word (codes "in") ∷ rel_token p h.1 ∷ Word (codes "at") ∷ label_token p h.2 ∷ [])

  abbrev IsReached : List ℕ → List Token → List ℕ × ℕ × ℕ → Type 0
  IsReached row ts h = (h.0 ≡ row) × (h.1 < length p.schemes) × IsLabel p.policy h.2
      × (ts ≡ rel_token p h.1 ∷ Word (codes "at") ∷ label_token p h.2 ∷ [])

  ranged_read : (row : List ℕ) (s : State) (x : (List ℕ × ℕ × ℕ) × State)
      → (word_at (codes "in") s >>= λ w. relation_at p.schemes w.1 >>= λ relation. label_behind p.policy
      (codes "at") relation.1 >>= λ l. Ok ((row, relation.0, l.0), l.1)) ≡ Ok x → Found (IsRanged row) s x
  ranged_read row s =
      found_next (IsRanged row) (λ at ts h. IsReached row ts h) s (word_at (codes "in") s)
      (λ w. relation_at p.schemes w.1 >>= λ relation. label_behind p.policy (codes "at") relation.1 >>=
      λ l. Ok ((row, relation.0, l.0), l.1)) (word_read (codes "in") s)
      (λ w.
      found_next (IsReached row) (λ relation ts h. (h.0 ≡ row) × (h.1 ≡ relation) × IsLabel p.policy h.2
      × (ts ≡ Word (codes "at") ∷ label_token p h.2 ∷ [])) w.1 (relation_at p.schemes w.1)
      (λ relation. label_behind p.policy (codes "at") relation.1 >>= λ l. Ok ((row, relation.0, l.0), l.1))
      (relation_read p w.1)
      (λ relation. found_made (λ ts h. (h.0 ≡ row) × (h.1 ≡ relation.0) × IsLabel p.policy h.2
      × (ts ≡ Word (codes "at") ∷ label_token p h.2 ∷ [])) relation.1
      (label_behind p.policy (codes "at") relation.1) (λ l. (row, relation.0, l))
      (label_read p (codes "at") relation.1)
      (λ l ts r. (refl, refl, r.within, r.tokens)))
      (λ relation h ts us of l.
      let F : ℕ → Type 0 = λ n. IsReached row (ts ++ us) (h.0, n, h.2) in
      subst F (sym l.1) (l.0, of.within, l.2, (λ i. of.tokens i ++ l.3 i))))
      (λ at h ts us word r. (r.0, r.1, r.2, (λ i. word i ++ r.3 i)))

  loop_head_read : (s : State) (x : (List ℕ × ℕ × ℕ) × State) → loop_head_at p s ≡ Ok x → Found IsHead s x
  unfolding loop_head_at
  loop_head_read s x e =
      let rest : PlacedName × State → Read (List ℕ × ℕ × ℕ) =
      λ n. word_at (codes "in") n.1 >>= λ w. relation_at p.schemes w.1 >>= λ relation. label_behind p.policy
      (codes "at") relation.1 >>= λ l. Ok ((n.0.0, relation.0, l.0), l.1) in
      let again : PlacedName → List PlacedFault = λ n. unless (not (is_taken p n.0)) n.1 cause.Repeated in
      let n = bind_ok (name_at s) (λ n. rest (n.0, note (again n.0) n.1)) x e in
      let named = found_noted (λ ts m. (ts ≡ Word m.0 ∷ []) × IsFresh p.scope m.0) s (name_at s) (λ m. m) again
      (name_read s)
      (λ m ts none r. (
        r.0,
        (
          r.1,
          all_taken p m.0 ∙ not-true (is_taken p m.0)
              (holds (not (is_taken p m.0)) m.1 _ none),
        ),
      ))
      (n.0.0, note (again n.0.0) n.0.1) (ap (λ z. z >>= λ m. Ok (m.0, note (again m.0) m.1)) n.1) in
      let r = ranged_read n.0.0.0 (note (again n.0.0) n.0.1) x n.2 in
      record {
        tokens = named.tokens ++ r.tokens;
        passed = passed_more named.tokens r.tokens s.1 n.0.1.1 x.1.1 named.passed r.passed;
        right = λ none a.
            let parts = split named.tokens r.tokens a in
            let second = r.right none parts.1 in
            let first = named.right second.0 parts.0 in
            let ranged = second.1 in (
              first.0,
              record {
                tokens = λ i. Word (codes "for") ∷ ((first.1.0 ∙ ap (λ (w : List ℕ). Word w ∷ []) (sym ranged.0)) i
                    ++ ranged.3 i);
                fresh = subst (IsFresh p.scope) (sym ranged.0) first.1.1;
                relation = ranged.1;
                label = ranged.2;
              },
            );
      }

-- ---- what a block is

-- as many statements are counted with it, no more than 1,000, and no deeper
pub record IsGood (p : Context) (d count : ℕ) (y : Block × ℕ) : Type 0 where
  pub counted : y.1 ≡ count + statements y.0
  pub few : count ≤ 1000 → y.1 ≤ 1000
  pub deep : depth y.0 ≤ d
  pub own : BlockIsOwn p.scope y.0
  pub fits : BlockFits p.policy p.schemes p.hi p.scope y.0
  pub kinds : BlockKinds p.schemes p.scope y.0

-- up to the brace that closes it
pub record IsClosed (p : Context) (d count : ℕ) (ts : List Token) (y : Block × ℕ) : Type 0 where
  pub inner : List Token
  pub tokens : ts ≡ inner ++ Sign sign.RightBrace ∷ []
  pub told : TellsBlock p y.0 inner
  pub good : IsGood p d count y

record IsBraced (p : Context) (d count : ℕ) (ts : List Token) (y : Block × ℕ) : Type 0 where
  inner : List Token
  tokens : ts ≡ braced_tokens inner
  told : TellsBlock p y.0 inner
  good : IsGood p d count y

record IsOther (p : Context) (d count : ℕ) (ts : List Token) (y : Block × ℕ) : Type 0 where
  told : TellsOther (is_end y.0) (λ inner. TellsBlock p y.0 inner) ts
  good : IsGood p d count y

-- a statement before others, of these tokens
record IsOne (p : Context) (d count : ℕ) (ts : List Token) (x : Form × ℕ) : Type 0 where
  few : x.1 ≤ 1000
  told : (rest : List Form) (us : List Token) → TellsBlock p (block_of rest) us → TellsBlock p (block_of (x.0 ∷ rest))
      (ts ++ us)
  counted : (rest : List Form) → x.1 + statements (block_of rest) ≡ count + statements (block_of (x.0 ∷ rest))
  deep : (rest : List Form) → depth (block_of rest) ≤ d → depth (block_of (x.0 ∷ rest)) ≤ d
  own : (rest : List Form) → BlockIsOwn p.scope (block_of rest) → BlockIsOwn p.scope (block_of (x.0 ∷ rest))
  fits : (rest : List Form) → BlockFits p.policy p.schemes p.hi p.scope (block_of rest)
      → BlockFits p.policy p.schemes p.hi p.scope (block_of (x.0 ∷ rest))
  kinds : (rest : List Form) → BlockKinds p.schemes p.scope (block_of rest) → BlockKinds p.schemes p.scope
      (block_of (x.0 ∷ rest))

-- ---- statements with blocks inside

module _ (d : ℕ) (inner : Context → ℕ → State → Counted Block)
    (sound : (q : Context) (count : ℕ) (s : State) (y : (Block × ℕ) × State) → inner q count s ≡ Ok y
    → Found (IsClosed q d count) s y) where
  braced_read : (p : Context) (count : ℕ) (s : State) (y : (Block × ℕ) × State) → braced inner p count s ≡ Ok y
      → Found (IsBraced p d count) s y
  braced_read p count s y =
      found_next (IsBraced p d count) (λ at ts z. IsClosed p d count ts z) s (sign_at sign.LeftBrace s)
      (λ brace. inner p count brace.1) (sign_read sign.LeftBrace s)
      (λ brace z e. sound p count brace.1 z e)
      (λ at z ts us brace c. record {
        inner = c.inner;
        tokens = λ i. brace i ++ c.tokens i;
        told = c.told;
        good =
            c.good;
      }) y

  other_read : (p : Context) (count : ℕ) (s : State) (o : Option (ℕ × State)) (y : (Block × ℕ) × State)
      → takes_word (codes "else") s ≡ o → other_of inner p count s o ≡ Ok y → Found (IsOther p d count) s y
  other_read p count s None y is e =
      subst (Found (IsOther p d count) s) (same_ok (other_of inner p count s None) ((End, count), s) y refl e)
      (found_none (IsOther p d count) (End, count) s (record {
        told = inl (refl, refl);
        good = record { counted = omega arith; few = λ n. n; deep = omega arith; own = tt; fits = tt; kinds = tt };
      }))
  other_read p count s (Some word) y is e =
      let else' = word_taken (codes "else") s word is in
      let b = braced_read p count word.1 y e in
      record {
        tokens = Word (codes "else") ∷ b.tokens;
        passed = passed_more (Word (codes "else") ∷ []) b.tokens s.1 word.1.1 y.1.1 else'.passed b.passed;
        right = λ none a.
            let r = b.right none a.1 in (
              sym else'.faults ∙ r.0,
              record {
                told = inr (
                  r.1.inner,
                  ap (λ l. Word (codes "else") ∷ l) r.1.tokens,
                  r.1.told,
                );
                good = r.1.good;
              },
            );
      }

  -- the blocks of an `if`
  record AreBlocks (p : Context) (count : ℕ) (ts : List Token) (y : (Block × Block) × ℕ) : Type 0 where
    middle : ℕ
    one : List Token
    other : List Token
    tokens : ts ≡ braced_tokens one ++ other
    told_one : TellsBlock p y.0.0 one
    good_one : IsGood p d count (y.0.0, middle)
    second : IsOther p d middle other (y.0.1, y.1)

  abbrev IsSecond : Context → Block × ℕ → List Token → (Block × Block) × ℕ → Type 0
  IsSecond p one ts y = (y.0.0 ≡ one.0) × IsOther p d one.1 ts (y.0.1, y.1)

  blocks_read : (p : Context) (count : ℕ) (s : State) (y : ((Block × Block) × ℕ) × State) → blocks_at inner p count s
      ≡ Ok y → Found (AreBlocks p count) s y
  unfolding blocks_at
  blocks_read p count s =
      found_next (AreBlocks p count) (IsSecond p) s (braced inner p count s) (λ one. other_at inner p one.0.1 one.1 >>=
      λ other. Ok (((one.0.0, other.0.0), other.0.1), other.1)) (braced_read p count s)
      (λ one.
      found_made (IsSecond p one.0) one.1 (other_at inner p one.0.1 one.1) (λ o. ((one.0.0, o.0), o.1))
      (λ x e. other_read p one.0.1 one.1 (takes_word (codes "else") one.1) x refl e)
      (λ o ts r. (refl, r)))
      (λ one y ts us b r.
      let F : Block → Type 0 = λ z. AreBlocks p count (ts ++ us) ((z, y.0.1), y.1) in
      subst F (sym r.0) (record {
        middle = one.1;
        one = b.inner;
        other = us;
        tokens = ap (λ l. l ++ us) b.tokens;
        told_one = b.told;
        good_one = b.good;
        second = r.1;
      }))

  -- behind the guard
  abbrev IsIf : Context → ℕ → Expr → List Token → Form × ℕ → Type 0
  IsIf p count guard ts x = (blocks : Block × Block) × (x.0 ≡ forms.If guard blocks.0 blocks.1)
      × AreBlocks p count ts (blocks, x.1)

  if_read : (p : Context) (count : ℕ) (s : State) (x : (Form × ℕ) × State) → count + 1 ≤ 1000
      → if_at inner p (count + 1) s ≡ Ok x → Found (λ ts y. IsOne p (suc d) count (Word (codes "if") ∷ ts) y) s x
  if_read p count s x few =
      found_next (λ ts y. IsOne p (suc d) count (Word (codes "if") ∷ ts) y) (IsIf p (count + 1)) s (guard_at p s)
      (λ guard. blocks_at inner p (count + 1) guard.1 >>= λ b. Ok ((forms.If guard.0 b.0.0.0 b.0.0.1, b.0.1), b.1))
      (guard_read p s)
      (λ guard. found_made (IsIf p (count + 1) guard.0) guard.1 (blocks_at inner p (count + 1) guard.1)
      (λ b. (forms.If guard.0 b.0.0 b.0.1, b.1)) (blocks_read p (count + 1) guard.1) (λ b ts r. (b.0, refl, r)))
      (λ guard y ts us g r.
      let one = r.0.0 in
      let other = r.0.1 in
      let b = r.2 in
      let F : Form → Type 0 = λ f. IsOne p (suc d) count (Word (codes "if") ∷ (ts ++ us)) (f, y.1) in
      let first = b.good_one in
      let second = b.second.good in
      subst F (sym r.1) (record {
        few = second.few (first.few few);
        told = λ rest vs t. (
          b.one,
          b.other,
          vs,
          (λ i. Word (codes "if") ∷ ((g.tokens i ++ b.tokens i) ++ vs))
              ∙ ap (λ l. Word (codes "if") ∷ l) (append_assoc (expr_tokens p guard) (braced_tokens b.one ++ b.other) vs
              ∙ ap (λ l. expr_tokens p guard ++ l) (append_assoc (braced_tokens b.one) b.other vs)),
          b.told_one,
          b.second.told,
          t,
        );
        counted = λ rest. (let m = first.counted in let n = second.counted in omega (arith, m, n));
        deep = λ rest h. (let m = first.deep in let n = second.deep in omega (arith, m, n, h));
        own = λ rest h. (g.own, first.own, second.own, h);
        fits = λ rest h. (g.fits, first.fits, second.fits, h);
        kinds = λ rest h. (g.truth, first.kinds, second.kinds, h);
      }))
      x

  -- behind the head of a loop
  abbrev IsFor : Context → ℕ → List ℕ × ℕ × ℕ → List Token → Form × ℕ → Type 0
  IsFor p count h ts x = (body : Block) × (x.0 ≡ forms.For h.0 h.1 h.2 body) × IsBraced (at_row p h.0 h.1) d count ts
      (body, x.1)

  for_read : (p : Context) (count : ℕ) (s : State) (x : (Form × ℕ) × State) → count + 1 ≤ 1000
      → for_at inner p (count + 1) s ≡ Ok x → Found (λ ts y. IsOne p (suc d) count (Word (codes "for") ∷ ts) y) s x
  for_read p count s x few =
      found_next (λ ts y. IsOne p (suc d) count (Word (codes "for") ∷ ts) y) (IsFor p (count + 1)) s (loop_head_at p s)
      (λ head. braced inner (at_row p head.0.0 head.0.1) (count + 1) head.1 >>=
      λ b. Ok ((forms.For head.0.0 head.0.1 head.0.2 b.0.0, b.0.1), b.1)) (loop_head_read p s)
      (λ head. found_made (IsFor p (count + 1) head.0) head.1 (braced inner (at_row p head.0.0 head.0.1)
      (count + 1) head.1) (λ b. (forms.For head.0.0 head.0.1 head.0.2 b.0, b.1))
      (braced_read (at_row p head.0.0 head.0.1) (count + 1) head.1) (λ b ts r. (b.0, refl, r)))
      (λ head y ts us h r.
      let F : Form → Type 0 = λ f. IsOne p (suc d) count (Word (codes "for") ∷ (ts ++ us)) (f, y.1) in
      let good = r.2.good in
      subst F (sym r.1) (record {
        few = good.few few;
        told = λ rest vs t. (
          r.2.inner,
          vs,
          (λ i. (h.tokens i ++ r.2.tokens i) ++ vs) ∙ append_assoc (for_tokens p head.0 head.1 head.2)
              (braced_tokens r.2.inner) vs,
          r.2.told,
          t,
        );
        counted = λ rest. (let m = good.counted in omega (arith, m));
        deep = λ rest k. (let m = good.deep in omega (arith, m, k));
        own = λ rest k. (h.fresh, good.own, k);
        fits = λ rest k. (h.relation, h.label, good.fits, k);
        kinds = λ rest k. (good.kinds, k);
      }))
      x

  -- ---- any statement

  plain_read : (p : Context) (t : Token) (form : Plain) (at : ℕ) (s : State) (x : Form × State) → PlainIs t form
      → plain_at p form at s ≡ Ok x → Found (IsPlain p t) s x
  plain_read p t (plains.Assign n) at s x is e = subst (λ u. Found (IsPlain p u) s x) (sym is)
      (assign_read p (n, at) s x e)
  plain_read p t plains.Insert at s x is e = subst (λ u. Found (IsPlain p u) s x) (sym is) (insert_read p s x e)
  plain_read p t plains.Update at s x is e = subst (λ u. Found (IsPlain p u) s x) (sym is) (update_read p s x e)
  plain_read p t plains.Delete at s x is e = subst (λ u. Found (IsPlain p u) s x) (sym is) (delete_read p s x e)
  plain_read p t plains.Release at s x is e = subst (λ u. Found (IsPlain p u) s x) (sym is) (release_read p s x e)
  plain_read p t plains.Emit at s x is e = subst (λ u. Found (IsPlain p u) s x) (sym is) (emit_read p s x e)

  one_of : (p : Context) (count : ℕ) (t : Token) (ts : List Token) (form : Form) → count + 1 ≤ 1000
      → IsPlain p t ts form → IsOne p (suc d) count (t ∷ ts) (form, count + 1)
  one_of p count t ts form few h =
      record {
        few = few;
        told = λ rest us told. subst (λ b. TellsBlock p b ((t ∷ ts) ++ us)) (sym (h.is rest)) (
          us,
          ap (λ l. l ++ us) h.tokens,
          told,
        );
        counted = λ rest. (let e = ap statements (h.is rest) in omega (arith, e));
        deep = λ rest k. (let e = ap depth (h.is rest) in omega (arith, e, k));
        own = λ rest k. subst (BlockIsOwn p.scope) (sym (h.is rest)) (h.own, k);
        fits = λ rest k. subst (BlockFits p.policy p.schemes p.hi p.scope) (sym (h.is rest)) (h.fits, k);
        kinds = λ rest k. subst (BlockKinds p.schemes p.scope) (sym (h.is rest)) (h.kinds, k);
      }

  content_read : (p : Context) (t : Token) (o : Opening) (at count : ℕ) (s : State) (x : (Form × ℕ) × State)
      → OpeningIs t o → count + 1 ≤ 1000 → content_at inner p o at (count + 1) s ≡ Ok x
      → Found (λ ts y. IsOne p (suc d) count (t ∷ ts) y) s x
  content_read p t openings.If at count s x is few e = subst (λ u. Found (λ ts y. IsOne p (suc d) count (u ∷ ts) y) s x)
      (sym is) (if_read p count s x few e)
  content_read p t openings.For at count s x is few e =
      subst (λ u. Found (λ ts y. IsOne p (suc d) count (u ∷ ts) y) s x) (sym is) (for_read p count s x few e)
  content_read p t (openings.Plain form) at count s x is few e =
      found_made (λ ts y. IsOne p (suc d) count (t ∷ ts) y) s (plain_at p form at s) (λ f. (f, count + 1))
      (λ y k. plain_read p t form at s y is k) (λ f ts r. one_of p count t ts f few r) x e

  opened_read : (p : Context) (t : Token) (o : Opening) (at count : ℕ) (s : State) (x : (Form × ℕ) × State)
      → OpeningIs t o → opened inner p o at count s ≡ Ok x → Found (λ ts y. IsOne p (suc d) count (t ∷ ts) y) s x
  opened_read p t o at count s x is e = go (nat_lt count 1000) refl e
    where
      go : (b : Bool) → nat_lt count 1000 ≡ b → (if b then content_at inner p o at (count + 1) s else Err
          (fault at cause.TooLong)) ≡ Ok x → Found (λ ts y. IsOne p (suc d) count (t ∷ ts) y) s x
      go true lt h = content_read p t o at count s x is (let less = ltb-true count 1000 lt in omega (arith, less)) h
      go false lt h = absurd cc

  stmt_read : (p : Context) (count : ℕ) (s : State) (x : (Form × ℕ) × State) → stmt_with inner p count s ≡ Ok x
      → Found (IsOne p (suc d) count) s x
  stmt_read p count s x e =
      let o = bind_ok (token (pass_known opening_of) s) (λ o. opened inner p o.0.0 o.0.1 count o.1) x e in
      let first = known_found opening_of s o.0 o.1 in
      let rest = opened_read p first.0 o.0.0.0 o.0.0.1 count o.0.1 x (opening_is first.0 o.0.0.0 first.1) o.2 in
      record {
        tokens = first.0 ∷ rest.tokens;
        passed = passed_more (first.0 ∷ []) rest.tokens s.1 o.0.1.1 x.1.1 first.2.passed rest.passed;
        right = λ none a. let r = rest.right none a.1 in (sym first.2.faults ∙ r.0, r.1);
      }

-- ---- blocks

-- these statements, behind those before
record AreStmts (p : Context) (d : ℕ) (front : List Form) (count : ℕ) (ts : List Token) (y : Block × ℕ) : Type 0 where
  new : List Form
  is : y.0 ≡ block_of (front ++ new)
  closed : IsClosed p d count ts (block_of new, y.1)

module _ (p : Context) (d : ℕ) (stmt : ℕ → State → Counted Form) (one : (count : ℕ) (s : State) (x : (Form × ℕ) × State)
    → stmt count s ≡ Ok x → Found (IsOne p d count) s x) where
  stmts_read : (n : ℕ) (front : List Form) (count : ℕ) (s : State) (y : (Block × ℕ) × State)
      → stmts_from stmt n front count s ≡ Ok y → Found (AreStmts p d front count) s y
  unfolding stmts_from
  stmts_read zero front count s y e = absurd cc
  stmts_read (suc n) front count s y e = go (takes_sign sign.RightBrace s) refl (λ x z k. stmts_read n (front ++ x.0.0
      ∷ []) x.0.1 x.1 z k) e
    where
      go : (o : Option (ℕ × State)) → takes_sign sign.RightBrace s ≡ o
          → ((x : (Form × ℕ) × State) (z : (Block × ℕ) × State) → stmts_from stmt n (front ++ x.0.0 ∷ []) x.0.1 x.1
          ≡ Ok z → Found (AreStmts p d (front ++ x.0.0 ∷ []) x.0.1) x.1 z)
          → end_or stmt (λ xs c r. stmts_from stmt n xs c r) front count s o ≡ Ok y
          → Found (AreStmts p d front count) s y
      go (Some end) is others h =
          let close = sign_taken sign.RightBrace s end is in
          subst (Found (AreStmts p d front count) s)
          (same_ok (end_or stmt (λ xs c r. stmts_from stmt n xs c r) front count s (Some end))
          ((block_of front, count), end.1) y refl h)
          (record {
            tokens = Sign sign.RightBrace ∷ [];
            passed = close.passed;
            right = λ none a. (
              sym close.faults ∙ none,
              record {
                new = [];
                is = ap block_of (sym (append-nil front));
                closed = record {
                  inner = [];
                  tokens = refl;
                  told = refl;
                  good = record {
                    counted = omega arith;
                    few = λ m. m;
                    deep = omega arith;
                    own = tt;
                    fits = tt;
                    kinds =
                        tt;
                  };
                };
              },
            );
          })
      go None is others h =
          found_next (AreStmts p d front count) (λ x ts z. AreStmts p d (front ++ x.0 ∷ []) x.1 ts z) s (stmt count s)
          (λ x. stmts_from stmt n (front ++ x.0.0 ∷ []) x.0.1 x.1) (one count s)
          others
          (λ x z ts us r rest.
          let c = rest.closed in
          let good = c.good in
          record {
            new = x.0 ∷ rest.new;
            is = rest.is ∙ ap block_of (append_assoc front (x.0 ∷ []) rest.new);
            closed = record {
              inner = ts ++ c.inner;
              tokens = ap (λ l. ts ++ l) c.tokens ∙ sym (append_assoc ts c.inner (Sign sign.RightBrace ∷ []));
              told = r.told rest.new c.inner c.told;
              good = record {
                counted = (let m = good.counted in let k = r.counted rest.new in omega (arith, m, k));
                few = λ m. good.few r.few;
                deep = r.deep rest.new good.deep;
                own = r.own rest.new good.own;
                fits = r.fits rest.new good.fits;
                kinds = r.kinds rest.new good.kinds;
              };
            };
          })
          y h

  closed_read : (count : ℕ) (s : State) (y : (Block × ℕ) × State) → stmts_with stmt count s ≡ Ok y
      → Found (IsClosed p d count) s y
  unfolding stmts_with
  closed_read count s y e =
      let h = stmts_read (suc (1000 - count)) [] count s y e in
      record {
        tokens = h.tokens;
        passed = h.passed;
        right = λ none a.
            let r = h.right none a in
            let F : Block → Type 0 = λ b. IsClosed p d count h.tokens (b, y.0.1) in
            (r.0, subst F (sym r.1.is) r.1.closed);
      }

pub block_read : (d : ℕ) (p : Context) (count : ℕ) (s : State) (y : (Block × ℕ) × State) → stmts_at d p count s ≡ Ok y
    → Found (IsClosed p d count) s y
unfolding stmts_at
block_read zero p count s y e = closed_read p zero deep_stmt (λ c r x h. never c r x h) count s y e
  where
    never : (c : ℕ) (r : State) (x : (Form × ℕ) × State) → deep_stmt c r ≡ Ok x → Found (IsOne p zero c) r x
    never c r x h =
        let o = bind_ok (token (pass_known opening_of) r) (λ o. Err (fault o.0.1 cause.Depth)) x h in
        let bad = o.2 in
        absurd cc
block_read (suc d) p count s y e =
    closed_read p (suc d) (stmt_with (λ q c r. stmts_at d q c r) p) (λ c r x h. stmt_read d (λ q m t. stmts_at d q m t)
    (λ q m t z k. block_read d q m t z k) p c r x h) count s y e
