use Rattle.mls_host.specs.Hosting.{hosted}
use Rattle.mls_runs.proofs.StepsLemmas as steps
use Rattle.mls_runs.proofs.steps.calls_are_in_turn.Goals as goal

pub returns : goal.returns
returns g c = λ old middle later new.
    steps.calls_are_in_turn (hosted g.H.Host.hosting g.H.Lines.TypedLines.echo old middle)
    (hosted g.K.Host.hosting g.K.Lines.TypedLines.echo later new)
