use Rattle.mls_host.specs.Hosting.{hosted, IsAppended, IsTold}
use Rattle.mls_runs.proofs.SameLemmas.{tell_the_same}
use Rattle.mls_runs.proofs.alike.shells_show_the_same.Goals as goal

pub returns : goal.returns
returns g c = λ old new before after first written asked told second over begun ended.
    tell_the_same g.X.Explains.explaining (hosted g.H.Host.hosting g.H.Lines.TypedLines.echo old new)
    (IsAppended g.W.Write.contents first written) (IsTold g.E.Write.contents asked told)
    (hosted g.K.Host.hosting g.K.Lines.TypedLines.echo before after) (IsAppended g.V.Write.contents second over)
    (IsTold g.F.Write.contents begun ended)
