use Rattle.std.proofs.Common.{[], Some, None, Ok}
use Rattle.std.proofs.KnownBytes.{Appends-nil}
use Rattle.mls_host.specs.Hosting.{hosted, IsAppended}
use Rattle.mls_host.proofs.StoppingLemmas.{untouched, caused_at}
use Rattle.mls_runs.specs.TurnRun.{IsTurnRefused}
use Rattle.mls_runs.proofs.TurningLemmas.{no_list, at_store}
use Rattle.mls_runs.proofs.turning.turn_store.Goals as goal

pub returns-in-None-clause-ends : goal.returns-in-None-clause-ends
returns-in-None-clause-ends g c =
    let Wrote = IsAppended g.W.Write.contents c.args.out.now c.args.out.now in
    no_list c.args.setting.now Wrote (hosted g.H.Host.hosting g.H.Lines.TypedLines.echo c.args.host.now c.args.host.now)
    (λ store reason. IsTurnRefused (g.H.Host.hosting c.args.host.now) c.args.setting.now store reason
    × Wrote []) c.args.store c.in-None.is (Appends-nil _)

pub returns-in-Some-clause-ends : goal.returns-in-Some-clause-ends
returns-in-Some-clause-ends g c =
    let Wrote = IsAppended g.W.Write.contents c.args.out.now c.turn_in_store.new.out in
    at_store c.args.setting.now Wrote (hosted g.H.Host.hosting g.H.Lines.TypedLines.echo c.args.host.now c.turn_in_store.new.host)
    (λ store reason. IsTurnRefused (g.H.Host.hosting c.turn_in_store.new.host) c.args.setting.now store reason
    × Wrote []) c.args.store c.in-Some.path c.in-Some.is c.turn_in_store.result c.turn_in_store.ensures.ends

pub returns-in-None-clause-caused : goal.returns-in-None-clause-caused
returns-in-None-clause-caused g c =
    caused_at (hosted g.H.Host.hosting g.H.Lines.TypedLines.echo c.args.host.now c.args.host.now) c.args.store None c.in-None.is (Ok (tt {0})) (untouched (g.H.Host.hosting c.args.host.now), λ none. none)

pub returns-in-Some-clause-caused : goal.returns-in-Some-clause-caused
returns-in-Some-clause-caused g c =
    caused_at (hosted g.H.Host.hosting g.H.Lines.TypedLines.echo c.args.host.now c.turn_in_store.new.host) c.args.store
    (Some c.in-Some.path) c.in-Some.is c.turn_in_store.result c.turn_in_store.ensures.caused
