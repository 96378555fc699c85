use Rattle.std.proofs.Common.{◌≡◌, ◌≢◌, ℕ, ◌+◌, ◌≤◌, Bool, true, false, cond, List, [], ◌∷◌, ◌++◌, length, drop, Option, refl, sym, ap, ◌∙◌, subst, subst₂, suc, rules, arith, append-nil, append_assoc}
use Rattle.std.proofs.Math.ListN.{drop_of_length-le}
use Rattle.mls_certcheck.proofs.WalkLemmas.{drop_here}
use Rattle.mls_lattice.specs.Labels.{Labels}
use Rattle.mls_scheme.specs.declared.value.Value.{Value}
use Rattle.mls_scheme.specs.declared.tuple.Tuple.{Tuple}
use Rattle.mls_scheme.specs.Scheme.{Schemes, scheme_of}
use Rattle.mls_updates.specs.declared.outcome.Outcome.{Outcome}
use Rattle.mls_updates.specs.declared.outcome.Outcome.TheVariants.{Unexpected}
use Rattle.mls_updates.proofs.ExpectedLemmas.{expect_nothing}
use Rattle.mls_filterview.specs.View.{rows}
use Rattle.mls_scheme.specs.Tuple.{no_tuple}
use Rattle.mls_translang.specs.Tree.{Expr, Stmt as Simple, Writing, Write_at, Release, Block, End, Do, If, For}
use Rattle.mls_translang.specs.Blocks.{block_of}
use Rattle.mls_translang.specs.declared.block.Stmt.{Stmt}
use Rattle.mls_translang.specs.Expressions.{value_in, holds_in}
use Rattle.mls_certcheck.specs.Meaning.{Item, Variables, Progress, set_var, set_outcome, environment, write_in, perform, for_each, run_block}
use Rattle.mls_labeller.specs.declared.told.Told.{Told}
use Rattle.mls_labeller.specs.declared.range.Range.{Range}
use Rattle.mls_labeller.specs.Ranges.{Admits, AreHeld, Wider, HasRange}
use Rattle.mls_labeller.specs.Releases.{Repeats, CanRelease, Goes, Covers, Reaches, Multiplies}
use Rattle.mls_labeller.proofs.CountLemmas.{multiplies_none, multiplies_if, multiplies_for, multiplies_release, multiplies_then}
use Rattle.mls_labeller.proofs.walking.Walk.+walk.Goals as goal

module _ {looped : Bool} {before : List Range} where
  -- ---- the statements of a block

  -- what came of the first
  reaches_at : {after now : List Range} {told new : List Told} (s t : Stmt) (rest : List Stmt) → s ≡ t → now ≡ after
      → new ≡ told
      → Reaches looped before (block_of (t ∷ rest)) after (block_of rest) told
      → Reaches looped before (block_of (s ∷ rest)) now (block_of rest) new
  reaches_at {after} {now} {told} {new} s t rest is same all h =
      let one = subst (λ (x : Stmt). Reaches looped before (block_of (x ∷ rest)) after (block_of rest) told) (sym is) h
      in
      let two = subst (λ r. Reaches looped before (block_of (s ∷ rest)) r (block_of rest) told) (sym same) one in
      subst (Reaches looped before (block_of (s ∷ rest)) now (block_of rest)) (sym all) two

  reaches_all : (items : List Stmt) (i : ℕ) → length items ≤ i → (block : Block) → block_of items ≡ block
      → (now : List Range) (told : List Told)
      → Reaches looped before (block_of items) now (block_of (drop i items)) told → Covers looped before block now told
  unfolding run_block
  reaches_all items i end block is now told p =
      let none : Covers looped now End now [] = record { runs = λ ls schemes args around s held. (held, (refl, refl)) }
      in
      let over = subst (λ (ss : List Stmt). Covers looped now (block_of ss) now [])
      (sym (drop_of_length-le items end)) none in
      subst (λ (b : Block). Covers looped before b now told) is (subst (Covers looped before (block_of items) now)
      (append-nil told) (p.covers now [] over))

  -- ---- statements with no statement inside

  reaches_do : (stmt : Simple) (rest : Block) (after : List Range) (told : List Told)
      → ((ls : Labels) (schemes : Schemes) (args : List (Option Value)) (around : List Tuple) (s : Progress)
      → AreHeld before s.vars
      → AreHeld after (perform ls schemes args around stmt s).vars × ((more : List Told) (zs : List Item)
      → CanRelease looped rest more (perform ls schemes args around stmt s).released zs
      → CanRelease looped (Do stmt rest) (told ++ more) s.released zs))
      → Reaches looped before (Do stmt rest) after rest told
  unfolding run_block
  reaches_do stmt rest after told does = record {
    covers = λ end more h. record {
      runs = λ ls schemes args around s held.
          let d = does ls schemes args around s held in
          let g = h.runs ls schemes args around _ d.0 in
          (g.0, d.1 more _ g.1);
    };
  }

  reaches_write : (relation w : ℕ) (writing : Writing) (outcome : Option ℕ) (rest : Block) (after : List Range)
      → ((vars : Variables) (o : Outcome) → o ≢ Unexpected → AreHeld before vars
      → AreHeld after (set_outcome outcome o vars))
      → Reaches looped before (Do (Write_at relation w writing outcome) rest) after rest []
  unfolding perform
  reaches_write relation w writing outcome rest after put = reaches_do _ rest after [] (λ ls schemes args around s held. (
    put s.vars _ (expect_nothing ls (scheme_of schemes relation) w (s.db relation)
        (write_in (environment args around s) writing)) held,
    λ more zs h. h,
  ))

  -- ---- statements with blocks inside

  reaches_if : (here there after : List Range) (guard : Expr) (one other rest : Block) (a b : List Told)
      → Covers looped before one here a → Covers looped before other there b
      → Wider here after → Wider there after → Reaches looped before (If guard one other rest) after rest (a ++ b)
  unfolding run_block
  reaches_if here there after guard one other rest a b p q w z = record {
    covers = λ end more h. record {
      runs = λ ls schemes args around s held.
          let x = p.runs ls schemes args around s held in
          let y = q.runs ls schemes args around s held in
          let t = run_block ls schemes args one around s in
          let u = run_block ls schemes args other around s in
          elim (holds_in (environment args around s) guard) as (λ taken. Goes looped (If guard one other rest) end
          ((a ++ b) ++ more) s (run_block ls schemes args rest around (cond taken t u))) [
            | true ↦ let g = h.runs ls schemes args around t (λ v. w v (t.vars v) (x.0 v))
                in (g.0, (a, b, more, refl, true, t.released, u.released, x.1, y.1, g.1))
            | false ↦ let g = h.runs ls schemes args around u (λ v. z v (u.vars v) (y.0 v))
                in (g.0, (a, b, more, refl, false, t.released, u.released, x.1, y.1, g.1))
          ];
    };
  }

  module _ (ls : Labels) (schemes : Schemes) (args : List (Option Value)) (around : List Tuple) (name : List ℕ)
      (relation label : ℕ) (body rest : Block) (end : List Range) (told more : List Told)
      (b : Covers true before body before told) (h : Covers looped before rest end more) where
    abbrev turns_of : List Tuple → Progress → Progress
    turns_of = for_each (λ row t. run_block ls schemes args body (row ∷ around) t)

    -- what the turns release, and the rest behind them
    for_goes : (rs : List Tuple) (s : Progress) → AreHeld before s.vars
        → AreHeld end (run_block ls schemes args rest around (turns_of rs s)).vars × (turns : ℕ) × (ys : List Item)
        × Repeats (CanRelease true body told) turns s.released ys
        × CanRelease looped rest more ys (run_block ls schemes args rest around (turns_of rs s)).released
    for_goes [] s held = let g = h.runs ls schemes args around s held in (g.0, 0, s.released, refl, g.1)
    for_goes (row ∷ rs) s held =
        let x = b.runs ls schemes args (row ∷ around) s held in
        let g = for_goes rs _ x.0 in
        (g.0, suc g.1, g.2, (_, x.1, g.3), g.4)

    goes_for : (rs : List Tuple) (s : Progress) → AreHeld before s.vars
        → Goes looped (For name relation label body rest) end (told ++ more) s (run_block ls schemes args rest around
        (turns_of rs s))
    goes_for rs s held =
        let g = for_goes rs s held in (
          g.0,
          (
            told,
            more,
            refl,
            s.released,
            _,
            (b.runs ls schemes args (no_tuple ∷ around) s held).1,
            g.1,
            g.2,
            g.3,
            g.4,
          ),
        )

reaches_release : {before after : List Range} (e : Expr) (this : Told) (rest : Block) (r : Range) → r ≡ this.range
    → HasRange before e this.range
    → ((vars : Variables) (v : Option Value) → AreHeld before vars → Admits r v
    → AreHeld after (set_var this.into v vars))
    → Reaches this.looped before (Do (Release e this.to this.into) rest) after rest (this ∷ [])
unfolding perform
reaches_release {before} {after} e this rest r same gives put = reaches_do _ rest after (this ∷ [])
    (λ ls schemes args around s held.
    let v = value_in (environment args around s) e in
    let value : Admits this.range v = gives (environment args around s) held in (
      put s.vars v held (subst (λ (q : Range). Admits q v) (sym same) value),
      λ more zs h. (
        this.range,
        more,
        refl,
        v,
        value,
        h,
      ),
    ))

reaches_for : {looped : Bool} {before now : List Range} {told : List Told} (name : List ℕ) (relation label : ℕ)
    (body rest : Block) → Wider before now → Covers true now body now told
    → Reaches looped before (For name relation label body rest) now rest told
unfolding run_block
reaches_for {looped} {before} {now} {told} name relation label body rest wider b = record {
  covers = λ end more h. record {
    runs = λ ls schemes args around s held. goes_for ls schemes args around name relation label body rest end told more b h (rows ls label (s.db relation)) s (λ x. wider x (s.vars x) (held x));
  };
}

-- ---- one statement after another

reaches_from : {looped : Bool} {before now : List Range} {block : Block} {told : List Told} → now ≡ before → told ≡ []
    → Reaches looped before block now block told
reaches_from {looped} {before} {now} {block} {told} same none = subst₂ (λ r t. Reaches looped before block r block t)
    (sym same) (sym none) (record { covers = λ after more h. h })

reaches_on : {looped : Bool} {before between now : List Range} {block mid rest : Block} {told next new : List Told}
    → Reaches looped before block between mid told → Reaches looped between mid now rest next → new ≡ told ++ next
    → Reaches looped before block now rest new
reaches_on {looped} {before} {between} {now} {block} {mid} {rest} {told} {next} first second is =
    subst (Reaches looped before block now rest) (sym is) (record {
      covers = λ after more h. subst (Covers looped before block after) (sym (append_assoc told next more))
          (first.covers after (next ++ more) (second.covers after more h));
    })

covers_wider : {looped : Bool} {before after wide : List Range} {block : Block} {told : List Told} → Wider after wide
    → Covers looped before block after told → Covers looped before block wide told
covers_wider wider h = record {
  runs = λ ls schemes args around s held. let g = h.runs ls schemes args around s held
      in (λ x. wider x ((run_block ls schemes args _ around s).vars x) (g.0 x), g.1);
}

multiplies_from : {looped : Bool} {block : Block} {told : List Told} {n : ℕ} → told ≡ [] → n ≡ 1
    → Multiplies looped block block told n
multiplies_from {looped} {block} none one = subst₂ (Multiplies looped block block) (sym none) (sym one)
    (multiplies_none (λ told xs zs h. h) refl)

-- ---- how many lists there are

multiplies_at : {looped : Bool} {told new : List Told} {m n : ℕ} (s t : Stmt) (rest : List Stmt) → s ≡ t → new ≡ told
    → n ≡ m
    → Multiplies looped (block_of (t ∷ rest)) (block_of rest) told m → Multiplies looped (block_of (s ∷ rest))
    (block_of rest) new n
multiplies_at {looped} {told} {new} {m} {n} s t rest is all same h =
    let one = subst (λ (x : Stmt). Multiplies looped (block_of (x ∷ rest)) (block_of rest) told m) (sym is) h in
    subst₂ (Multiplies looped (block_of (s ∷ rest)) (block_of rest)) (sym all) (sym same) one

multiplies_all : {looped : Bool} (items : List Stmt) (i : ℕ) → length items ≤ i → (block : Block) → block_of items
    ≡ block → (told : List Told) (n : ℕ)
    → Multiplies looped (block_of items) (block_of (drop i items)) told n → Multiplies looped block End told n
multiplies_all {looped} items i end block is told n m =
    subst (λ (b : Block). Multiplies looped b End told n) is
    (subst (λ (ss : List Stmt). Multiplies looped (block_of items) (block_of ss) told n)
    (drop_of_length-le items end) m)

-- ---- the goals

pub stmt-returns-in_ok-put-in-Assign : goal.stmt-returns-in_ok-put-in-Assign
unfolding perform
stmt-returns-in_ok-put-in-Assign t c rest = (
  reaches_at _ _ rest c.in-Assign.is c.silent.ensures.ranges c.silent.ensures.told
      (reaches_do _ _ _ [] (λ ls schemes args around s held. (
        c.in_ok-put-in-Assign.ensures s.vars _ held (c.in_ok-range-in-Assign.ensures (environment args around s) held),
        λ more zs h. h,
      ))),
  multiplies_at _ _ rest c.in-Assign.is c.silent.ensures.told c.silent.ensures.lists
      (multiplies_none (λ told xs zs h. h) refl),
)

pub stmt-returns-in_ok-either-in-If : goal.stmt-returns-in_ok-either-in-If
stmt-returns-in_ok-either-in-If t c rest =
    let e = c.in_ok-either-in-If.ensures in
    let one = c.in_ok-one-in-If.ensures in
    let other = c.in_ok-other-in-If.ensures in (
      reaches_at _ _ rest c.in-If.is refl e.told (reaches_if _ _ _ _ _ _ _ _ _ one.0 other.0 e.one e.other),
      multiplies_at _ _ rest c.in-If.is e.told refl (multiplies_if one.1 other.1 (λ none. e.none (e.told ∙ none))
          (λ some. e.many (λ none. some (sym e.told ∙ none))) _ _),
    )

pub stmt-returns-in_ok-turns-in-For : goal.stmt-returns-in_ok-turns-in-For
stmt-returns-in_ok-turns-in-For t c rest =
    let e = c.in_ok-turns-in-For.ensures in (
      reaches_at _ _ rest c.in-For.is refl refl (reaches_for _ _ _ _ _ e.wider e.covers.0),
      multiplies_at _ _ rest c.in-For.is refl refl (multiplies_for e.covers.1 _ _ _ _),
    )

pub stmt-returns-in_ok-put_outcome-in-Write : goal.stmt-returns-in_ok-put_outcome-in-Write
stmt-returns-in_ok-put_outcome-in-Write t c rest = (
  reaches_at _ _ rest c.in-Write.is c.silent-in-Write.ensures.ranges c.silent-in-Write.ensures.told
      (reaches_write _ _ _ _ _ _ c.in_ok-put_outcome-in-Write.ensures),
  multiplies_at _ _ rest c.in-Write.is c.silent-in-Write.ensures.told c.silent-in-Write.ensures.lists
      (multiplies_none (λ told xs zs h. h) refl),
)

pub stmt-returns-in_ok-push-in-Release : goal.stmt-returns-in_ok-push-in-Release
stmt-returns-in_ok-push-in-Release t c rest =
    let this : Told = record {
      to = c.in-Release.to;
      into = c.in-Release.into;
      range = c.in_ok-range-in-Release.range;
      looped = c.args.self.looped;
    } in
    let told = c.in_ok-push-in-Release.ensures.items ∙ ap (λ (l : List Told). l ++ this
    ∷ []) c.silent-walked.ensures.told in (
      reaches_at _ _ rest c.in-Release.is c.silent-walked.ensures.ranges told
          (reaches_release _ this _ _ c.in_ok-copy-in-Release.ensures c.in_ok-range-in-Release.ensures c.in_ok-put-in-Release.ensures),
      multiplies_at _ _ rest c.in-Release.is told refl (multiplies_release this _ (search rules)
          (λ looped. search rules) (λ once. search rules) _ _),
    )

pub stmt-returns-in_ok-copy-in-Emit : goal.stmt-returns-in_ok-copy-in-Emit
unfolding perform
stmt-returns-in_ok-copy-in-Emit t c rest = (
  reaches_at _ _ rest c.in-Emit.is (c.silent-in-Emit.ensures.ranges
      ∙ c.in_ok-copy-in-Emit.ensures) c.silent-in-Emit.ensures.told
      (reaches_do _ _ _ [] (λ ls schemes args around s held. (held, λ more zs h. h))),
  multiplies_at _ _ rest c.in-Emit.is c.silent-in-Emit.ensures.told c.silent-in-Emit.ensures.lists
      (multiplies_none (λ told xs zs h. h) refl),
)

pub block-loop-stmt-init : goal.block-loop-stmt-init
block-loop-stmt-init t c = (
  reaches_from (c.silent-walked.ensures.ranges ∙ c.in_ok-copy.ensures) c.silent-walked.ensures.told,
  multiplies_from c.silent-walked.ensures.told c.silent-walked.ensures.lists,
)

pub block-loop-stmt-preserved : goal.block-loop-stmt-preserved
block-loop-stmt-preserved t c =
    let items = c.deref-stmt-items.result.now in
    let i = c.loop-stmt.stmt-index in
    let so_far = c.loop-stmt.invariant in
    let step = c.in_ok-next.ensures (drop (i + 1) items) in
    let here : block_of (drop i items) ≡ block_of (c.stmt-item.result ∷ drop (i + 1) items) =
    ap block_of (drop_here items i c.stmt-item.result c.loop-stmt-test.true c.stmt-item.is) in
    let first = subst (λ (b : Block). Reaches c.args.self.looped c.args.before.now.vars.items
    (block_of items) c.loop-stmt.walked.ranges.vars.items b c.loop-stmt.walked.told.items) here so_far.0 in
    let counted = subst (λ (b : Block). Multiplies c.args.self.looped
    (block_of items) b c.loop-stmt.walked.told.items c.loop-stmt.walked.lists) here so_far.1 in (
      reaches_on first step.0 c.in_ok-append.ensures.items,
      subst (λ told. Multiplies c.args.self.looped (block_of items)
          (block_of (drop (i + 1) items)) told c.saturating_mul.result) (sym c.in_ok-append.ensures.items)
          (multiplies_then counted step.1 c.saturating_mul.ensures),
    )

pub turns-returns-then-same-clause-covers : goal.turns-returns-then-same-clause-covers
turns-returns-then-same-clause-covers t c =
    let same : c.loop-turn.ranges.vars.items ≡ c.in_ok-grown.grown.vars.items = search rules in (
      covers_wider (subst (Wider c.in_ok-walked.walked.ranges.vars.items)
          (sym same) c.in_ok-grown.ensures.those) c.in_ok-walked.ensures.0,
      c.in_ok-walked.ensures.1,
    )

pub block-returns : goal.block-returns
block-returns t c =
    let items = c.deref-stmt-items.result.now in
    let end : length items ≤ c.loop-stmt.stmt-index = omega (arith, c.loop-stmt-test.false) in
    let is = ap block_of c.deref-stmt-items.ensures.value ∙ c.block.view_is in (
      reaches_all items c.loop-stmt.stmt-index end c.args.block.now is _ _ c.loop-stmt.invariant.0,
      multiplies_all items c.loop-stmt.stmt-index end c.args.block.now is _ _ c.loop-stmt.invariant.1,
    )
