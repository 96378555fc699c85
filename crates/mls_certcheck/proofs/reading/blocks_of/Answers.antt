use Rattle.std.proofs.Common.{rules, ◌≡◌, suc, ◌+◌, ◌-◌, ◌<◌, true, false, length, map, drop, sym, ap, ◌∙◌, arith, length-append}
use Rattle.std.proofs.lemmas.Result.{err_from_is_err_and}
use Rattle.mls_certcheck.specs.Reading.{is_past_end, lines_of}
use Rattle.mls_certcheck.proofs.ReadingSteps.{blocks_over, blocks_next, blocks_err, left_some}
use Rattle.mls_certcheck.proofs.reading.blocks_of.Goals as goal

pub returns-in_err-block : goal.returns-in_err-block
returns-in_err-block c =
    let p = err_from_is_err_and c.from_residual.result c.from_residual.ensures.1 in
    let n = length c.args.lines.now - length c.loop-alloc.blocks.items in
    let left : is_past_end (drop c.loop-alloc.place (map (λ x. x.now) c.args.lines.now)) ≡ false = search rules in
    let some : length c.args.lines.now - length c.loop-alloc.blocks.items
    ≡ suc (length c.args.lines.now - length c.loop-alloc.blocks.items - 1) =
    omega (arith, left_some c.args.lines.now c.loop-alloc.place left, c.loop-alloc.invariant.fewer) in
    rw (p.1, p.2) (λ fault is. sym c.loop-alloc.invariant.read ∙ blocks_err n
    (n - 1) c.deref.result.now c.loop-alloc.blocks.items _ c.loop-alloc.place _ some c.deref.ensures.value left
    (c.in_err-block.ensures.reads fault is))

pub loop-alloc-preserved : goal.loop-alloc-preserved
loop-alloc-preserved c =
    let n = length c.args.lines.now - length c.loop-alloc.blocks.items in
    let m = length c.args.lines.now - length c.push.new.self.items in
    let left : is_past_end (drop c.loop-alloc.place (map (λ x. x.now) c.args.lines.now)) ≡ false = search rules in
    let grown : length c.push.new.self.items ≡ length c.loop-alloc.blocks.items + 1 =
    ap length c.in_ok-push.ensures.items ∙ length-append c.loop-alloc.blocks.items _ in
    let here : c.loop-alloc.place < length c.args.lines.now = left_some c.args.lines.now c.loop-alloc.place left in
    let some : length c.args.lines.now - length c.loop-alloc.blocks.items
    ≡ suc (length c.args.lines.now - length c.push.new.self.items) = omega (
      arith,
      here,
      c.loop-alloc.invariant.fewer,
      grown,
    ) in
    let moved : c.loop-alloc.place + (1 + c.lines_of.result) ≡ c.loop-alloc.place + 1 + lines_of c.in_ok-block.block.1 =
    omega (arith, c.lines_of.ensures) in
    record {
      within = omega (arith, moved, c.in_ok-block.ensures.within);
      fewer = omega (arith, grown, c.loop-alloc.invariant.fewer);
      read = blocks_next n m c.deref.result.now c.loop-alloc.blocks.items c.push.new.self.items _ c.loop-alloc.place _ c.in_ok-block.block some c.deref.ensures.value c.in_ok-push.ensures.items moved left c.in_ok-block.ensures.reads ∙ c.loop-alloc.invariant.read;
    }

pub returns : goal.returns
returns c =
    let over : is_past_end (drop c.loop-alloc.place (map (λ x. x.now) c.args.lines.now)) ≡ true = search rules in
    sym c.loop-alloc.invariant.read ∙ blocks_over _ c.loop-alloc.blocks.items _ c.loop-alloc.place over
