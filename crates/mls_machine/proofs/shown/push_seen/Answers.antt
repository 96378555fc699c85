use Rattle.std.proofs.Common.{◌<◌, length, sym, subst}
use Rattle.mls_lattice.proofs.EachLemmas.{all_at}
use Rattle.mls_certcheck.specs.Meaning.{Item}
use Rattle.mls_machine.proofs.shown.push_seen.Goals as goal

pub push_if_seen-requires-clause-label : goal.push_if_seen-requires-clause-label
push_if_seen-requires-clause-label c =
    subst (λ (i : Item). i.0 < length c.args.to.now.policy.now.labels) (sym c.item-item.is)
    (all_at (λ (i : Item). i.0 < length c.args.to.now.policy.now.labels) c.args.items.now c.loop-item.item-index c.item-item.result c.loop-item-test.true c.requires.known)
