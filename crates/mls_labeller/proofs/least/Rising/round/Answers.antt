use Rattle.std.proofs.Common.{sym, subst}
use Rattle.mls_certcheck.specs.declared.flow.Line.{Line}
use Rattle.mls_lattice.proofs.EachLemmas.{all_at}
use Rattle.mls_labeller.specs.Flows.{IsBounded}
use Rattle.mls_labeller.specs.Rising.{claim_at, HasTargets}
use Rattle.mls_labeller.proofs.least.Rising.round.Goals as goal

pub follow-rose-requires-clause-targets : goal.follow-rose-requires-clause-targets
follow-rose-requires-clause-targets c =
    let has : Line → Type 0 = λ line. HasTargets c.args.self.now.labeller.tx.now line.flow in
    subst has (sym c.line-item.is) (all_at has c.args.lines.now c.loop-line.line-index c.line-item.result c.loop-line-test.true c.requires.targets)

pub follow-rose-requires-clause-due : goal.follow-rose-requires-clause-due
follow-rose-requires-clause-due c = λ other m.
    let holds : Line → Type 0 = λ line. IsBounded (claim_at c.args.self.now other) line.flow in
    subst holds (sym c.line-item.is) (all_at holds c.args.lines.now c.loop-line.line-index c.line-item.result c.loop-line-test.true (c.requires.due other m))
