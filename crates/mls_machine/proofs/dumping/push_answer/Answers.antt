use Rattle.mls_machine.specs.Under.{site_under}
use Rattle.mls_machine.proofs.PrintingSteps.{dump_more}
use Rattle.mls_machine.proofs.dumping.push_answer.Goals as goal

pub returns-in-Dump : goal.returns-in-Dump
returns-in-Dump c =
    dump_more (site_under c.args.to.now.policy.now c.args.to.now.schemes.now) c.args.to.now.event.now c.in-Dump.relation c.args.tuples.now c.in-Dump.is c.args.text.now.items _ c.push_dump.result c.push_dump.ensures
