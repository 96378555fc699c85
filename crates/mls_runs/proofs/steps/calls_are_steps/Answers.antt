use Rattle.mls_host.specs.Hosting.{hosted, IsAppended, IsTold}
use Rattle.mls_runs.proofs.StepsLemmas as steps
use Rattle.mls_runs.proofs.steps.calls_are_steps.Goals as goal

pub returns : goal.returns
returns g c = λ old new first written asked told.
    steps.calls_are_steps g.X.Explains.explaining (hosted g.H.Host.hosting g.H.Lines.TypedLines.echo old new)
    (IsAppended g.W.Write.contents first written) (IsTold g.E.Write.contents asked told)
