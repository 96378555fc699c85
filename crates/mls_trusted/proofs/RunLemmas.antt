-- Blocks run a statement at a time, and loops a row at a time.
use mathlib.Core.List.{reverse}
use Rattle.std.proofs.Common.{◌≡◌, ℕ, ◌<◌, ◌+◌, true, false, cond, List, [], ◌∷◌, ◌++◌, length, drop, take, get_or, Option, Result, Ok, Err, IfOk, OnOk, refl, sym, ap, ◌∙◌, subst}
use Rattle.std.specs.List.{AllByRecursion}
use Rattle.std.proofs.lemmas.List.{drop_more, take_more, reverse-append}
use Rattle.mls_lattice.specs.Labels.{Labels}
use Rattle.mls_lattice.specs.Policy.{Name, labels_of}
use Rattle.mls_scheme.specs.declared.value.Value.{Value}
use Rattle.mls_scheme.specs.declared.tuple.Tuple.{Tuple}
use Rattle.mls_scheme.specs.Table.{Database}
use Rattle.mls_scheme.specs.Scheme.{Schemes, scheme_of}
use Rattle.mls_filterview.specs.declared.base.BaseFault.{BaseFault}
use Rattle.mls_filterview.specs.Content.{Seen}
use Rattle.mls_filterview.specs.View.{rows}
use Rattle.mls_filterview.specs.Stored.{AreContent}
use Rattle.mls_translang.specs.declared.block.Stmt.{Stmt}
use Rattle.mls_translang.specs.declared.block.Stmt.TheVariants as stmt
use Rattle.mls_translang.specs.Tree.{Expr, Block, End, If, For}
use Rattle.mls_translang.specs.Blocks.{block_of}
use Rattle.mls_translang.specs.Scope.{Scope}
use Rattle.mls_translang.specs.Kinds.{BlockKinds}
use Rattle.mls_translang.proofs.BlockLemmas.{own_more, fits_more}
use Rattle.mls_translang.specs.Expressions.{holds_in}
use Rattle.mls_certcheck.specs.Kinds.{RowKinds}
use Rattle.mls_certcheck.specs.Meaning.{Progress, for_each, run_block}
use Rattle.mls_queries.specs.Views.{Kept, AreViews}
use Rattle.mls_trusted.specs.declared.call.Call.{Call}
use Rattle.mls_trusted.specs.declared.frame.Frame.{Frame}
use Rattle.mls_trusted.specs.Runs.{with_database}
use Rattle.mls_trusted.specs.Frames.{around_of, progress_of, env_in, inside, MayRunBlock, MayLoop, run_of, rows_of, loop_of, IsFrame, IsFrameStep, IsCallReady, IsFrameRun}

-- ---- the first statement and the rest

kinds_more : (schemes : Schemes) (s : Scope) (x : Stmt) (rest : List Stmt) → BlockKinds schemes s (block_of (x ∷ rest))
    → BlockKinds schemes s (block_of (x ∷ [])) × BlockKinds schemes s (block_of rest)
kinds_more schemes s (stmt.If guard one other) rest h = ((h.0, h.1, h.2, tt), h.3)
kinds_more schemes s _ rest h = ((h.0, tt), h.1)

module _ (ls : Labels) (schemes : Schemes) (args : List (Option Value)) (around : List Tuple) where
  run_more : (x : Stmt) (rest : List Stmt) (s : Progress) → run_block ls schemes args (block_of (x ∷ rest)) around s
      ≡ run_block ls schemes args (block_of rest) around (run_block ls schemes args (block_of (x ∷ [])) around s)
  unfolding run_block
  run_more (stmt.Assign v e) rest s = refl
  run_more _ rest s = refl

  pub run_none : (s : Progress) → s ≡ run_block ls schemes args End around s
  unfolding run_block
  run_none s = refl

  -- one more statement at the end
  run_last : (xs : List Stmt) (x : Stmt) (s : Progress) → run_block ls schemes args (block_of (xs ++ x ∷ [])) around s
      ≡ run_block ls schemes args (block_of (x ∷ [])) around (run_block ls schemes args (block_of xs) around s)
  run_last [] x s = ap (run_block ls schemes args (block_of (x ∷ [])) around) (run_none s)
  run_last (y ∷ ys) x s =
      run_more y (ys ++ x ∷ []) s ∙ run_last ys x (run_block ls schemes args (block_of (y ∷ [])) around s)
      ∙ ap (run_block ls schemes args (block_of (x ∷ [])) around) (sym (run_more y ys s))

-- one more row at the end
for_each_last : (f : Tuple → Progress → Progress) (rows : List Tuple) (row : Tuple) (s : Progress)
    → for_each f (rows ++ row ∷ []) s ≡ f row (for_each f rows s)
for_each_last f [] row s = refl
for_each_last f (r ∷ rs) row s = for_each_last f rs row (f r s)

-- ---- what may be run

module _ (call : Call) (around : List Tuple) where
  may_more : (x : Stmt) (rest : List Stmt) → MayRunBlock call around (block_of (x ∷ rest))
      → MayRunBlock call around (block_of (x ∷ [])) × MayRunBlock call around (block_of rest)
  may_more x rest m =
      let s = inside call m.rows in
      let o = own_more s x rest m.own in
      let f = fits_more call.policy.now call.schemes.now call.tx.now.hi s x rest m.fits in
      let k = kinds_more call.schemes.now s x rest m.kinds in (
        record { rows = m.rows; own = o.0; fits = f.0; kinds = k.0; read = m.read },
        record {
          rows = m.rows;
          own = o.1;
          fits = f.1;
          kinds = k.1;
          read = m.read;
        },
      )

  -- the statement at a place, and those behind it
  pub may_here : (xs : List Stmt) (i : ℕ) (x : Stmt) → x ≡ get_or xs i x → i < length xs
      → MayRunBlock call around (block_of (drop i xs)) → MayRunBlock call around (block_of (x ∷ []))
      × MayRunBlock call around (block_of (drop (i + 1) xs))
  may_here xs i x is within m =
      let here : drop i xs ≡ x ∷ drop (i + 1) xs = drop_more xs i x within ∙ ap (λ y. y ∷ drop (i + 1) xs) (sym is) in
      may_more x (drop (i + 1) xs) (subst (λ l. MayRunBlock call around (block_of l)) here m)

  -- a body at each of some rows
  pub may_each : (relation label : ℕ) (body : Block) → MayLoop call relation label around body → (rs : List Tuple)
      → AllByRecursion (RowKinds (scheme_of call.schemes.now relation)) rs
      → AllByRecursion (λ row. MayRunBlock call (row ∷ around) body) rs
  may_each relation label body m [] k = tt
  may_each relation label body m (row ∷ rest) k = (m.each row k.0, may_each relation label body m rest k.1)

-- ---- branches and loops

module _ (call : Call) (f : Frame) (guard : Expr) (one other : Block) (db : Database) where
  pub branch_one : holds_in (env_in call.args.now f) guard ≡ true → run_of call one (around_of f) (progress_of db f)
      ≡ run_of call (If guard one other End) (around_of f) (progress_of db f)
  unfolding run_block
  branch_one h = sym (ap (λ b. cond b (run_of call one (around_of f) (progress_of db f))
      (run_of call other (around_of f) (progress_of db f))) h)

  pub branch_other : holds_in (env_in call.args.now f) guard ≡ false → run_of call other (around_of f)
      (progress_of db f) ≡ run_of call (If guard one other End) (around_of f) (progress_of db f)
  unfolding run_block
  branch_other h = sym (ap (λ b. cond b (run_of call one (around_of f) (progress_of db f))
      (run_of call other (around_of f) (progress_of db f))) h)

pub loop_same : (call : Call) (name : Name) (relation label : ℕ) (body : Block) (around : List Tuple) (s : Progress)
    → loop_of call relation label body around s ≡ run_of call (For name relation label body End) around s
unfolding run_block
loop_same call name relation label body around s = refl

-- ---- what is run

module _ (call : Call) {B : Type 0} (seen : B → Seen) where
  abbrev Ran : (Progress → Progress) → B → B → Frame → Frame → Type 0
  Ran = IsFrameRun call seen

  -- nothing
  pub run_start : (run : Progress → Progress) (base : B) (f : Frame) → ((s : Progress) → s ≡ run s)
      → IsCallReady call seen base f → Ran run base base f f
  run_start run base f e h = record {
    ready = h;
    rows = refl;
    rest = λ k. refl;
    progress =
        λ k. e (progress_of (seen base).state.now.db f);
  }

  -- one part after another
  run_then : (first second run : Progress → Progress) (a b c : B) (f g h : Frame)
      → ((s : Progress) → run s ≡ second (first s)) → ((seen c).is_clean → (seen b).is_clean) → Ran first a b f g
      → Ran second b c g h → Ran run a c f h
  run_then first second run a b c f g h e back p q = record {
    ready = q.ready;
    rows = q.rows ∙ p.rows;
    rest = λ k. q.rest k ∙ ap (λ s. with_database s (seen c).state.now.db) (p.rest (back k));
    progress = λ k. q.progress k ∙ ap second (p.progress (back k)) ∙ sym (e (progress_of (seen a).state.now.db f));
  }

  -- the same part, said otherwise
  run_same : (one other : Progress → Progress) (a b : B) (f g : Frame) → ((db : Database) → one (progress_of db f)
      ≡ other (progress_of db f)) → Ran one a b f g → Ran other a b f g
  run_same one other a b f g e p = record {
    ready = p.ready;
    rows = p.rows;
    rest = p.rest;
    progress = λ k. p.progress k
        ∙ e (seen a).state.now.db;
  }

  -- a part that leaves the base
  run_step : (run : Progress → Progress) (a b : B) (f g : Frame) → b ≡ a → IsCallReady call seen a f
      → IsFrameStep call run f g → Ran run a b f g
  run_step run a b f g same h p = subst (λ (x : B). Ran run a x f g) (sym same) (record {
    ready = record {
      under = h.under;
      begun = h.begun;
      content = h.content;
      frame = p.frame;
      views =
          subst (AreViews call.policy.now seen a) (sym p.views) h.views;
    };
    rows = p.rows;
    rest = λ k. refl;
    progress = λ k. p.progress (seen a).state.now.db;
  })

  -- one more statement of a block
  pub run_stmts : (xs : List Stmt) (i : ℕ) (x : Stmt) → x ≡ get_or xs i x → i < length xs → (a b c : B) (f g h : Frame)
      → ((seen c).is_clean → (seen b).is_clean)
      → Ran (run_of call (block_of (take i xs)) (around_of f)) a b f g
      → Ran (run_of call (block_of (x ∷ [])) (around_of g)) b c g h
      → Ran (run_of call (block_of (take (i + 1) xs)) (around_of f)) a c f h
  run_stmts xs i x is within a b c f g h back p q =
      let more : take (i + 1) xs ≡ take i xs ++ x ∷ [] = take_more xs i x within ∙ ap (λ y. take i xs ++ y ∷ [])
      (sym is) in
      run_then _ _ _ a b c f g h
      (λ s. ap (λ l. run_of call (block_of l) (around_of f) s) more
      ∙ run_last (labels_of call.policy.now) call.schemes.now call.args.now (around_of f) (take i xs) x s)
      back p (subst (λ (around : List Tuple). Ran (run_of call (block_of (x ∷ [])) around) b c g h)
      (ap reverse p.rows) q)

  -- one more row of a loop
  pub run_rows_more : (body : Block) (rows : List Tuple) (row : Tuple) (a b c : B) (f g h : Frame)
      → ((seen c).is_clean → (seen b).is_clean)
      → Ran (rows_of call body (around_of f) rows) a b f g → Ran (run_of call body (row ∷ around_of g)) b c g h
      → Ran (rows_of call body (around_of f) (rows ++ row ∷ [])) a c f h
  run_rows_more body rows row a b c f g h back p q =
      run_then _ _ _ a b c f g h (λ s. for_each_last (λ r t. run_of call body (r ∷ around_of f) t) rows row s) back p
      (subst (λ (around : List Tuple). Ran (run_of call body (row ∷ around)) b c g h) (ap reverse p.rows) q)

  -- the base may have been read
  pub ready_read : (a b : B) (f : Frame) (kept : Kept) → ((seen b).is_clean → (seen a).is_clean) → (seen b).state.begun
      ≡ true → ((seen b).is_clean → (seen b).state ≡ (seen a).state)
      → AreViews call.policy.now seen b kept → IsCallReady call seen a f
      → IsCallReady call seen b (record f { views = kept })
  ready_read a b f kept back begun same views h = record {
    under = h.under;
    begun = begun;
    content = λ k. subst (λ s. AreContent (labels_of call.policy.now) call.schemes.now s.now.db) (sym (same k))
        (h.content (back k));
    frame = record {
      count = h.frame.count;
      vars = h.frame.vars;
      emitted = h.frame.emitted;
      released =
          h.frame.released;
    };
    views = views;
  }

  -- ---- inside a loop

  -- entering one
  pub entered : (base : B) (f g : Frame) → g ≡ record f { rows = g.rows } → IsCallReady call seen base f
      → IsCallReady call seen base g
  entered base f g e h = record {
    under = h.under;
    begun = h.begun;
    content = h.content;
    frame = subst (IsFrame call) (sym e) (record {
      count = h.frame.count;
      vars = h.frame.vars;
      emitted =
          h.frame.emitted;
      released = h.frame.released;
    });
    views = subst (λ (x : Frame). AreViews call.policy.now seen base x.views) (sym e) h.views;
  }

  pub entered_around : (f g : Frame) (row : Tuple) → g.rows.items ≡ f.rows.items ++ row ∷ [] → row ∷ around_of f
      ≡ around_of g
  entered_around f g row e = sym (ap reverse e ∙ reverse-append f.rows.items (row ∷ []))

  -- ---- at exits

  pub ok_same : {A : Type 0} (r : Result A BaseFault) (one other : Progress → Progress) (a b : B) (f g : Frame)
      → ((db : Database) → one (progress_of db f) ≡ other (progress_of db f)) → OnOk r (Ran one a b f g)
      → OnOk r (Ran other a b f g)
  ok_same (Ok x) one other a b f g e p = run_same one other a b f g e p
  ok_same (Err e) one other a b f g h p = p

  -- a part that only takes memory
  pub ok_step : {A E : Type 0} (r : Result A BaseFault) (growth : Result A E) (run : Progress → Progress) (a b : B)
      (f g : Frame) → IsCallReady call seen a f
      → IfOk r (λ x. growth ≡ Ok x) → OnOk r (b ≡ a) → OnOk growth (IsFrameStep call run f g) → OnOk r (Ran run a b f g)
  ok_step (Ok x) growth run a b f g h is same p = run_step run a b f g same h
      (subst (λ q. OnOk q (IsFrameStep call run f g)) is p)
  ok_step (Err e) growth run a b f g h is same p = is
