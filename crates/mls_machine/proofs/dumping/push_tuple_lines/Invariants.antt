use Rattle.std.proofs.Common.{◌≡◌, ◌++◌, take, codes, flat_map}
use Rattle.mls_machine.specs.Dumping.{dump_event}
use Rattle.mls_machine.specs.Output.{front, script_text}
use Rattle.mls_machine.specs.Under.{site_under}
use Rattle.mls_machine.proofs.dumping.push_tuple_lines.Given as goal

abbrev pub invariant-loop-tuple : goal.invariant-loop-tuple
invariant-loop-tuple l =
    l.text.items
    ≡ l.initial.text.items
    ++ flat_map (λ t. front l.to.policy.now l.to.event.now l.to.event.now.level ++ script_text
    (site_under l.to.policy.now l.to.schemes.now)
    (dump_event (site_under l.to.policy.now l.to.schemes.now) l.to.event.now.session l.relation t) ++ codes "\n")
    (take l.tuple-index l.tuples)
