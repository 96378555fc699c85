use mathlib.Core.List.{reverse}
use Rattle.std.proofs.Common.{◌≡◌, ◌+◌, ◌<◌, length, OnOk, IfOk, List, ◌∷◌, [], ◌++◌, take, get_or, refl, sym, ap, ◌∙◌, subst, arith}
use Rattle.std.proofs.lemmas.List.{take_more}
use Rattle.mls_scheme.specs.declared.tuple.Tuple.{Tuple}
use Rattle.mls_scheme.specs.Tuple.{no_tuple}
use Rattle.mls_lattice.specs.Policy.{labels_of}
use Rattle.mls_translang.specs.declared.block.Stmt.{Stmt}
use Rattle.mls_translang.specs.Tree.{Do, If, For, Assign, Release, Emit, End}
use Rattle.mls_translang.specs.Blocks.{block_of}
use Rattle.mls_translang.proofs.BlockLemmas.{size_step}
use Rattle.mls_lattice.proofs.EachLemmas.{all_at}
use Rattle.mls_translang.specs.Expressions.{is_true, eval}
use Rattle.mls_filterview.proofs.AccessLemmas.{avoids_then, avoids_same, avoids_some, low_reads_no_down, no_down_wider}
use Rattle.mls_lattice.proofs.LatticeLemmas.{below-refl}
use Rattle.mls_trusted.specs.Ends.{Between}
use Rattle.mls_trusted.proofs.EndLemmas.{between_here}
use Rattle.mls_trusted.specs.Frames.{around_of, progress_of, MayRunBlock, run_of, rows_of, loop_of, IsCallReady, IsFrameRun}
use Rattle.mls_trusted.proofs.RunLemmas.{run_none, run_start, run_stmts, may_here, branch_one, branch_other, loop_same, run_rows_more, ok_same, ok_step, ready_read, may_each, entered, entered_around}
use Rattle.mls_trusted.proofs.block.+run.Goals as goal

pub run_block-loop-stmt-init : goal.run_block-loop-stmt-init
run_block-loop-stmt-init g t c =
    let call = c.args.call.now in
    let around = around_of c.args.frame.now in
    record {
      clean = λ h. h;
      about = λ h. refl;
      access = λ b. avoids_same refl;
      between = λ b. b;
      count = omega arith;
      ran = run_start call g.B.Base.seen (run_of call End around) c.args.base.now c.args.frame.now
          (run_none (labels_of call.policy.now) call.schemes.now call.args.now around) c.requires.ready;
      may = subst (MayRunBlock call around) (sym (ap block_of c.deref-stmt-items.ensures.value
          ∙ c.block.view_is)) c.requires.may;
      size = omega arith;
    }

pub run_block-loop-stmt-preserved : goal.run_block-loop-stmt-preserved
run_block-loop-stmt-preserved g t c =
    let call = c.args.call.now in
    let xs = c.deref-stmt-items.result.now in
    let i = c.loop-stmt.stmt-index in
    let x = c.stmt-item.result in
    let inv = c.loop-stmt.invariant in
    let one = c.in_ok-run_stmt.ensures in
    let ls = labels_of call.policy.now in
    record {
      clean = λ h. inv.clean (one.call.clean h);
      about = λ h. one.call.about h ∙ inv.about (one.call.clean h);
      access = λ b. avoids_then (inv.access b) (one.access
          (between_here ls call.tx.now.lo call.tx.now.hi xs i x c.stmt-item.is c.loop-stmt-test.true
          (inv.between b)).0);
      between = λ b. (between_here ls call.tx.now.lo call.tx.now.hi xs i x c.stmt-item.is c.loop-stmt-test.true
          (inv.between b)).1;
      count = (let a = inv.count in let b = one.call.count in omega (arith, a, b));
      ran = run_stmts call g.B.Base.seen xs i x c.stmt-item.is c.loop-stmt-test.true
          c.args.base.now c.loop-stmt.base c.run_stmt.new.base c.args.frame.now c.loop-stmt.frame c.run_stmt.new.frame one.call.clean inv.ran one.ran;
      may = (may_here call (around_of c.args.frame.now) xs i x c.stmt-item.is c.loop-stmt-test.true inv.may).1;
      size = (size_step xs i x c.stmt-item.is c.loop-stmt-test.true (block_of xs) inv.size).1;
    }

pub run_branch-returns-then-is_true-clause-ran : goal.run_branch-returns-then-is_true-clause-ran
run_branch-returns-then-is_true-clause-ran g t c =
    let call = c.args.call.now in
    let f = c.args.frame.now in
    let guard = c.args.guard.now in
    let one = c.args.one.now in
    let other = c.args.other.now in
    let holds = sym (c.is_true.ensures ∙ ap is_true c.eval.ensures
    ∙ ap (λ env. is_true (eval env guard)) c.environment.ensures) ∙ c.if-is_true.true in
    ok_same call g.B.Base.seen c.run_block.result (run_of call one (around_of f)) (run_of call (If guard one other End)
    (around_of f))
    c.args.base.now c.run_block.new.base f c.run_block.new.frame
    (λ db. branch_one call f guard one other db holds) c.run_block.ensures.ran

pub run_branch-returns-else-is_true-clause-ran : goal.run_branch-returns-else-is_true-clause-ran
run_branch-returns-else-is_true-clause-ran g t c =
    let call = c.args.call.now in
    let f = c.args.frame.now in
    let guard = c.args.guard.now in
    let one = c.args.one.now in
    let other = c.args.other.now in
    let run = c.run_block-else-is_true in
    let fails = sym (c.is_true.ensures ∙ ap is_true c.eval.ensures
    ∙ ap (λ env. is_true (eval env guard)) c.environment.ensures) ∙ c.if-is_true.false in
    ok_same call g.B.Base.seen run.result (run_of call other (around_of f)) (run_of call (If guard one other End)
    (around_of f))
    c.args.base.now run.new.base f run.new.frame (λ db. branch_other call f guard one other db fails) run.ensures.ran

pub run_loop-run_rows-requires : goal.run_loop-run_rows-requires
run_loop-run_rows-requires g t c κs within =
    let call = c.args.call.now in
    let f = c.args.frame.now in
    let read = c.in_ok-rows.ensures in
    let ready = ready_read call g.B.Base.seen c.args.base.now c.rows_at.new.base f c.rows_at.new.views read.read.call.clean (read.read.mode ∙ c.requires.ready.begun) read.read.same c.rows_at.ensures.views c.requires.ready in
    let may = may_each call (around_of f) c.args.relation c.args.label c.args.body.now c.requires.may c.in_ok-rows.rows read.kinds in
    (omega arith, (within, (ready, may)))

pub run_row-run_block-requires : goal.run_row-run_block-requires
run_row-run_block-requires g t c κs within =
    let call = c.args.call.now in
    let f = c.args.frame.now in
    let into = c.enter.new.self in
    let body = c.args.body.now in
    let is = c.in_ok-settle.ensures.value in
    let rest = subst (λ r. OnOk r (into ≡ record f { rows = into.rows })) is c.enter.ensures.rest in
    let rows = subst (λ r. OnOk r (into.rows.items ≡ f.rows.items ++ c.args.row ∷ [])) is c.enter.ensures.rows in
    let ready = subst (λ b. IsCallReady call g.B.Base.seen b into) (sym c.in_ok-settle.ensures.same)
    (entered call g.B.Base.seen c.args.base.now f into rest c.requires.ready) in
    let may = subst (λ around. MayRunBlock call around body)
    (entered_around call g.B.Base.seen f into c.args.row rows) c.requires.may in
    (omega arith, (within, (ready, may)))

pub run_rows-run_row-requires : goal.run_rows-run_row-requires
run_rows-run_row-requires g t c κs within =
    let call = c.args.call.now in
    let f = c.args.frame.now in
    let xs = c.args.rows.now in
    let i = c.loop-place.place in
    let body = c.args.body.now in
    let inv = c.loop-place.invariant in
    let ready = subst (λ b. IsCallReady call g.B.Base.seen b c.loop-place.frame)
    (sym c.in_ok-row.ensures.same) inv.ran.ready in
    let is = subst (λ r. IfOk r (λ x. x ≡ get_or xs i no_tuple)) c.in_ok-row.ensures.value c.tuple.ensures in
    let lt = subst (λ (l : List Tuple). i < length l) c.as_slice-place-end.ensures c.loop-place-test.true in
    let here = all_at (λ r. MayRunBlock call (r ∷ around_of f) body) xs i no_tuple lt c.requires.may in
    let may = subst (λ (around : List Tuple). MayRunBlock call (c.in_ok-row.row ∷ around) body)
    (sym (ap reverse inv.ran.rows)) (subst (λ r. MayRunBlock call (r ∷ around_of f) body) (sym is) here) in
    (omega arith, (within, (ready, may)))

pub run_rows-loop-place-preserved : goal.run_rows-loop-place-preserved
run_rows-loop-place-preserved g t c =
    let call = c.args.call.now in
    let f = c.args.frame.now in
    let xs = c.args.rows.now in
    let i = c.loop-place.place in
    let body = c.args.body.now in
    let inv = c.loop-place.invariant in
    let same = c.in_ok-row.ensures.same in
    let one = c.in_ok-run_row.ensures in
    let is = subst (λ r. IfOk r (λ x. x ≡ get_or xs i no_tuple)) c.in_ok-row.ensures.value c.tuple.ensures in
    let lt = subst (λ (l : List Tuple). i < length l) c.as_slice-place-end.ensures c.loop-place-test.true in
    let more : take (i + 1) xs ≡ take i xs ++ c.in_ok-row.row ∷ [] = take_more xs i no_tuple lt
    ∙ ap (λ y. take i xs ++ y ∷ []) (sym is) in
    record {
      clean = λ h. inv.clean (subst (λ b. (g.B.Base.seen b).is_clean) same (one.call.clean h));
      about = λ h. one.call.about h ∙ ap (λ b. (g.B.Base.seen b).about) same
          ∙ inv.about (subst (λ b. (g.B.Base.seen b).is_clean) same (one.call.clean h));
      access = λ b. avoids_then (avoids_then (inv.access b) (avoids_some c.in_ok-row.ensures.access)) (one.access b);
      count = (let a = inv.count in let b = one.call.count in let d = ap (λ b. (g.B.Base.seen b).failures) same
          in omega (arith, a, b, d));
      ran = subst (λ rows. IsFrameRun call g.B.Base.seen
          (rows_of call body (around_of f) rows) c.args.base.now c.run_row.new.base f c.run_row.new.frame) (sym more)
          (run_rows_more call g.B.Base.seen body (take i xs) c.in_ok-row.row
          c.args.base.now c.settle.new.base c.run_row.new.base f c.loop-place.frame c.run_row.new.frame one.call.clean
          (subst (λ b. IsFrameRun call g.B.Base.seen (rows_of call body (around_of f)
          (take i xs)) c.args.base.now b f c.loop-place.frame) (sym same) inv.ran) one.ran);
    }

pub run_stmt-returns-in-For-clause-ran : goal.run_stmt-returns-in-For-clause-ran
run_stmt-returns-in-For-clause-ran g t c =
    let call = c.args.call.now in
    let f = c.args.frame.now in
    let x = c.in-For in
    subst (λ (s : Stmt). OnOk c.run_loop.result (IsFrameRun call g.B.Base.seen (run_of call (block_of (s ∷ []))
    (around_of f)) c.args.base.now c.run_loop.new.base f c.run_loop.new.frame)) (sym x.is)
    (ok_same call g.B.Base.seen c.run_loop.result (loop_of call x.relation x.label x.body (around_of f))
    (run_of call (For x.row x.relation x.label x.body End) (around_of f))
    c.args.base.now c.run_loop.new.base f c.run_loop.new.frame (λ db. loop_same call x.row x.relation x.label x.body
    (around_of f) (progress_of db f)) c.run_loop.ensures.ran)

pub run_stmt-returns-in-Assign-clause-ran : goal.run_stmt-returns-in-Assign-clause-ran
run_stmt-returns-in-Assign-clause-ran g t c =
    let call = c.args.call.now in
    let f = c.args.frame.now in
    let x = c.in-Assign in
    subst (λ (s : Stmt). OnOk c.settle.result (IsFrameRun call g.B.Base.seen (run_of call (block_of (s ∷ []))
    (around_of f)) c.args.base.now c.settle.new.base f c.assign.new.frame)) (sym x.is)
    (ok_step call g.B.Base.seen c.settle.result c.assign.result (run_of call (Do (Assign x.variable x.value) End)
    (around_of f)) c.args.base.now c.settle.new.base f c.assign.new.frame
    c.requires.ready c.settle.ensures.value c.settle.ensures.same c.assign.ensures)

pub run_stmt-returns-in-Release-clause-ran : goal.run_stmt-returns-in-Release-clause-ran
run_stmt-returns-in-Release-clause-ran g t c =
    let call = c.args.call.now in
    let f = c.args.frame.now in
    let x = c.in-Release in
    let m = c.settle-in-Release in
    subst (λ (s : Stmt). OnOk m.result (IsFrameRun call g.B.Base.seen (run_of call (block_of (s ∷ []))
    (around_of f)) c.args.base.now m.new.base f c.release.new.frame)) (sym x.is)
    (ok_step call g.B.Base.seen m.result c.release.result (run_of call (Do (Release x.value x.to x.into) End)
    (around_of f)) c.args.base.now m.new.base f c.release.new.frame
    c.requires.ready m.ensures.value m.ensures.same c.release.ensures)

pub run_stmt-returns-in-Emit-clause-ran : goal.run_stmt-returns-in-Emit-clause-ran
run_stmt-returns-in-Emit-clause-ran g t c =
    let call = c.args.call.now in
    let f = c.args.frame.now in
    let x = c.in-Emit in
    let m = c.settle-in-Emit in
    subst (λ (s : Stmt). OnOk m.result (IsFrameRun call g.B.Base.seen (run_of call (block_of (s ∷ []))
    (around_of f)) c.args.base.now m.new.base f c.emit.new.frame)) (sym x.is)
    (ok_step call g.B.Base.seen m.result c.emit.result (run_of call (Do (Emit x.value x.label) End)
    (around_of f)) c.args.base.now m.new.base f c.emit.new.frame
    c.requires.ready m.ensures.value m.ensures.same c.emit.ensures)

pub run_block-returns-in_err-run_stmt-clause-access : goal.run_block-returns-in_err-run_stmt-clause-access
run_block-returns-in_err-run_stmt-clause-access g t c = λ b.
    let call = c.args.call.now in
    let inv = c.loop-stmt.invariant in
    avoids_then (inv.access (subst (Between call) (sym (ap block_of c.deref-stmt-items.ensures.value
    ∙ c.block.view_is)) b))
    (c.in_err-run_stmt.ensures.access (between_here
    (labels_of call.policy.now) call.tx.now.lo call.tx.now.hi c.deref-stmt-items.result.now c.loop-stmt.stmt-index c.stmt-item.result c.stmt-item.is c.loop-stmt-test.true
    (inv.between (subst (Between call) (sym (ap block_of c.deref-stmt-items.ensures.value ∙ c.block.view_is)) b))).0)

pub run_block-returns-clause-access : goal.run_block-returns-clause-access
run_block-returns-clause-access g t c = λ b.
    let call = c.args.call.now in
    c.loop-stmt.invariant.access (subst (Between call) (sym (ap block_of c.deref-stmt-items.ensures.value
    ∙ c.block.view_is)) b)

pub run_branch-returns-then-is_true-clause-access : goal.run_branch-returns-then-is_true-clause-access
run_branch-returns-then-is_true-clause-access g t c = λ b. c.run_block.ensures.access b.0

pub run_branch-returns-else-is_true-clause-access : goal.run_branch-returns-else-is_true-clause-access
run_branch-returns-else-is_true-clause-access g t c = λ b. c.run_block-else-is_true.ensures.access b.1

pub run_row-returns-in_err-settle-clause-access : goal.run_row-returns-in_err-settle-clause-access
run_row-returns-in_err-settle-clause-access g t c = λ b. avoids_some c.in_err-settle.ensures.access

pub run_row-returns-in_err-run_block-clause-access : goal.run_row-returns-in_err-run_block-clause-access
run_row-returns-in_err-run_block-clause-access g t c = λ b. avoids_then (avoids_some c.in_ok-settle.ensures.access)
    (c.in_err-run_block.ensures.access b)

pub run_row-returns-clause-access : goal.run_row-returns-clause-access
run_row-returns-clause-access g t c = λ b. avoids_then (avoids_some c.in_ok-settle.ensures.access)
    (c.in_ok-run_block.ensures.access b)

pub run_rows-returns-in_err-row-clause-access : goal.run_rows-returns-in_err-row-clause-access
run_rows-returns-in_err-row-clause-access g t c = λ b. avoids_then (c.loop-place.invariant.access b)
    (avoids_some c.in_err-row.ensures.access)

pub run_rows-returns-in_err-run_row-clause-access : goal.run_rows-returns-in_err-run_row-clause-access
run_rows-returns-in_err-run_row-clause-access g t c = λ b. avoids_then (avoids_then (c.loop-place.invariant.access b)
    (avoids_some c.in_ok-row.ensures.access)) (c.in_err-run_row.ensures.access b)

pub run_loop-returns-in_err-rows-clause-access : goal.run_loop-returns-in_err-rows-clause-access
run_loop-returns-in_err-rows-clause-access g t c = λ low b.
    let call = c.args.call.now in
    let ls = labels_of call.policy.now in
    let lo = call.tx.now.lo in
    no_down_wider ls c.args.label lo call.tx.now.hi lo low (below-refl ls lo)
    (low_reads_no_down ls c.args.label lo c.in_err-rows.ensures.access)

pub run_loop-returns-clause-access : goal.run_loop-returns-clause-access
run_loop-returns-clause-access g t c = λ low b.
    let call = c.args.call.now in
    let ls = labels_of call.policy.now in
    let lo = call.tx.now.lo in
    avoids_then (no_down_wider ls c.args.label lo call.tx.now.hi lo low (below-refl ls lo)
    (low_reads_no_down ls c.args.label lo c.in_ok-rows.ensures.access)) (c.run_rows.ensures.access b)

pub run_stmt-returns-in-If-clause-access : goal.run_stmt-returns-in-If-clause-access
run_stmt-returns-in-If-clause-access g t c = λ b. c.run_branch.ensures.access
    (subst (λ (s : Stmt). Between c.args.call.now (block_of (s ∷ []))) c.in-If.is b)

pub run_stmt-returns-in-For-clause-access : goal.run_stmt-returns-in-For-clause-access
run_stmt-returns-in-For-clause-access g t c = λ b.
    let here = subst (λ (s : Stmt). Between c.args.call.now (block_of (s ∷ []))) c.in-For.is b in
    c.run_loop.ensures.access here.0 here.1

pub run_stmt-returns-in-Write-clause-access : goal.run_stmt-returns-in-Write-clause-access
run_stmt-returns-in-Write-clause-access g t c = λ b. c.write_at.ensures.access
    (subst (λ (s : Stmt). Between c.args.call.now (block_of (s ∷ []))) c.in-Write.is b)

pub run_stmt-returns-in-Assign-clause-access : goal.run_stmt-returns-in-Assign-clause-access
run_stmt-returns-in-Assign-clause-access g t c = λ b. avoids_some c.settle.ensures.access

pub run_stmt-returns-in-Release-clause-access : goal.run_stmt-returns-in-Release-clause-access
run_stmt-returns-in-Release-clause-access g t c = λ b. avoids_some c.settle-in-Release.ensures.access

pub run_stmt-returns-in-Emit-clause-access : goal.run_stmt-returns-in-Emit-clause-access
run_stmt-returns-in-Emit-clause-access g t c = λ b. avoids_some c.settle-in-Emit.ensures.access
