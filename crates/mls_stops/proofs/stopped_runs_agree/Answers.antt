use Rattle.mls_host.specs.Hosting.{hosted, IsAppended}
use Rattle.mls_stops.proofs.StopLemmas.{write_so_far}
use Rattle.mls_stops.proofs.stopped_runs_agree.Goals as goal

pub returns : goal.returns
returns g c = λ old new before after first written second over.
    write_so_far (hosted g.H.Host.hosting g.H.Lines.TypedLines.echo old new)
    (IsAppended g.W.Write.contents first written)
    (hosted g.K.Host.hosting g.K.Lines.TypedLines.echo before after) (IsAppended g.V.Write.contents second over)
