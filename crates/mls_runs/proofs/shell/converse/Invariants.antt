use Rattle.std.proofs.Common.{false}
use Rattle.mls_sessions.proofs.FrameLemmas.{WentWell}
use Rattle.mls_sessions.specs.Engine.{site}
use Rattle.mls_runs.specs.Shell.{IsShellFate}
use Rattle.mls_runs.proofs.AccessLemmas.{LinesSoFar}
use Rattle.mls_runs.proofs.TalkLemmas.{SoFar}
use Rattle.mls_runs.proofs.shell.converse.Given as goal

abbrev pub invariant-loop-before : goal.invariant-loop-before
invariant-loop-before g l =
    WentWell g.B.Base.seen l.fn.engine l.engine
    × SoFar g.B.Base.seen g.E.Write.contents g.X.Explains.explaining g.L.TypedLines.echo l.session l.fn.engine l.fn.err
    (g.L.TypedLines.remaining l.fn.lines) (g.W.Write.contents l.fn.out)
    l.before l.engine l.err (g.L.TypedLines.remaining l.lines) (g.W.Write.contents l.out) l.was_opened l.tally false
    × LinesSoFar g.B.Base.seen (site l.fn.engine) g.L.TypedLines.echo
    (IsShellFate l.policy l.schemes l.session)
    (g.L.TypedLines.remaining l.fn.lines) (g.L.TypedLines.remaining l.lines) false l.fn.engine.base l.engine.base
