use Rattle.std.proofs.Common.{◌≡◌, drop}
use Rattle.mls_sessions.specs.Sessions.{sessions_of}
use Rattle.mls_sessions.proofs.session.user_of.Given as goal

abbrev pub invariant-loop-session : goal.invariant-loop-session
invariant-loop-session l = sessions_of (drop l.session-index l.sessions) l.level l.name
    ≡ sessions_of l.sessions l.level l.name
