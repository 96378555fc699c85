use Rattle.std.proofs.Common.{sym, subst}
use Rattle.mls_translang.specs.Writing.{IsKnown}
use Rattle.mls_machine.specs.Under.{site_under}
use Rattle.mls_machine.proofs.DumpLemmas.{made_known}
use Rattle.mls_machine.proofs.dumping.push_tuple.Goals as goal

pub push_event_line-requires : goal.push_event_line-requires
push_event_line-requires c =
    subst (IsKnown c.args.to.now.policy.now c.args.to.now.schemes.now) (sym c.in_ok-made.ensures)
    (made_known (site_under c.args.to.now.policy.now c.args.to.now.schemes.now) c.args.relation c.args.tuple.now c.requires.relation c.requires.classes c.deref.result.now)
