use Rattle.mls_host.specs.Hosting.{hosted, IsAppended}
use Rattle.mls_runs.proofs.AlikeLemmas.{write_the_same}
use Rattle.mls_runs.proofs.alike.runs_write_the_same.Goals as goal

pub returns : goal.returns
returns g c = λ old new before after first written second over.
    write_the_same (hosted g.H.Host.hosting g.H.Lines.TypedLines.echo old new)
    (IsAppended g.W.Write.contents first written)
    (hosted g.K.Host.hosting g.K.Lines.TypedLines.echo before after) (IsAppended g.V.Write.contents second over)
