use Rattle.std.proofs.Common.{rules, ◌≡◌, ◌+◌, ◌++◌, ◌<◌, List, length, subst, sym, option_to_list}
use Rattle.mls_translang.specs.declared.event.Event.{Event}
use Rattle.mls_script.proofs.ScriptSteps.{ReadSoFar, read_more}
use Rattle.mls_script.proofs.reading.events_of.Goals as goal

pub loop-rest-preserved : goal.loop-rest-preserved
loop-rest-preserved c =
    let items : c.keep.new.events.items ≡ c.loop-rest.events.items ++ option_to_list c.in-Ok.told = search rules in
    let some : 0 < length c.loop-rest.rest.now = search rules in
    subst (λ (x : List Event). ReadSoFar c.args.policy.now c.args.schemes.now c.args.bytes.now
    (c.loop-rest.number + 1) x c.split_line-ended.result.2.now) (sym items)
    (read_more c.args.policy.now c.args.schemes.now c.args.bytes.now c.loop-rest.number c.loop-rest.events.items c.loop-rest.rest.now c.split_line-ended.result.0.now c.split_line-ended.result.2.now c.split_line-ended.result.1
    c.loop-rest.invariant some c.split_line-ended.ensures.ended c.split_line-ended.ensures.last c.split_line-ended.ensures.one c.in-Ok.told c.in-Ok.ensures)
