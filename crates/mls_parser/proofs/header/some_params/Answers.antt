use Rattle.std.proofs.Common.{rules, [], arith}
use Rattle.mls_parser.specs.ReadTx.{param_behind, next_param}
use Rattle.mls_parser.proofs.ItemSteps.{items_more}
use Rattle.mls_parser.proofs.HeaderSteps.{param_less}
use Rattle.mls_parser.proofs.header.some_params.Goals as goal

pub loop-params-preserved : goal.loop-params-preserved
unfolding next_param param_behind
loop-params-preserved c =
    let h = c.loop-params.invariant in
    let more = items_more (next_param c.args.policy.now) ([], 0) c.args.reader.now (
      c.loop-params.params,
      c.loop-params.count,
    ) c.loop-params.reader h.so_far in
    let less = param_less c.args.policy.now (c.loop-params.params, c.loop-params.count) c.loop-params.reader in
    let is = c.in_ok-next_param.ensures.exact in
    record {
      so_far = search (rules, more, less, is);
      few = (let a = h.few in let b = c.in_ok-next_param.ensures.few in omega (arith, a, b));
      most = (let a = c.in_ok-next_param.ensures.room in omega (arith, a));
    }
