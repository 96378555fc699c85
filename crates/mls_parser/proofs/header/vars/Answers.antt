use Rattle.std.proofs.Common.{rules, ◌≡◌, ◌<◌, ◌+◌, ◌-◌, [], Some, Ok, arith}
use Rattle.mls_parser.specs.ReadTx.{next_var}
use Rattle.mls_parser.proofs.HeaderSteps.{things_more}
use Rattle.mls_parser.proofs.header.vars.Goals as goal

pub loop-vars-preserved : goal.loop-vars-preserved
loop-vars-preserved c =
    let h = c.loop-vars.invariant in
    let is : next_var c.args.params.now (c.loop-vars.vars, c.loop-vars.count) c.loop-vars.reader
    ≡ Ok (Some (c.next_var.new.vars, c.in-Some.next), c.next_var.new.reader) = search rules in
    let less : c.loop-vars.count < 64 = search rules in
    let more : c.in-Some.next ≡ c.loop-vars.count + 1 = search rules in
    let few = c.in_ok-next.ensures.few in
    let before = h.few in
    record {
      so_far = things_more (next_var c.args.params.now) 65 ([], 0) c.args.reader.now (64 - c.loop-vars.count)
          (c.loop-vars.vars, c.loop-vars.count) c.loop-vars.reader h.so_far
          (c.next_var.new.vars, c.in-Some.next) c.next_var.new.reader (64 - c.in-Some.next) is
          (omega (arith, less, more));
      few = omega (arith, few, before, more);
      most = omega (arith, less, more);
    }
