use Rattle.std.proofs.Common.{false}
use Rattle.mls_sessions.proofs.FrameLemmas.{WentWell}
use Rattle.mls_sessions.specs.Engine.{site}
use Rattle.mls_runs.specs.Desk.{IsDeskFate}
use Rattle.mls_runs.proofs.AccessLemmas.{LinesSoFar}
use Rattle.mls_runs.proofs.DeskLemmas.{SoFar}
use Rattle.mls_runs.proofs.desk.serve.Given as goal

abbrev pub invariant-loop : goal.invariant-loop
invariant-loop g l =
    WentWell g.B.Base.seen l.fn.engine l.engine
    × SoFar g.B.Base.seen g.L.TypedLines.echo l.fn.engine (g.L.TypedLines.remaining l.fn.lines)
    (g.W.Write.contents l.fn.out)
    l.engine (g.L.TypedLines.remaining l.lines) (g.W.Write.contents l.out) false
    × LinesSoFar g.B.Base.seen (site l.fn.engine) g.L.TypedLines.echo (IsDeskFate l.policy l.schemes)
    (g.L.TypedLines.remaining l.fn.lines) (g.L.TypedLines.remaining l.lines) false l.fn.engine.base l.engine.base
