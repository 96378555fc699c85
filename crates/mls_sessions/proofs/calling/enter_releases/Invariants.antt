use Rattle.std.proofs.Common.{◌≡◌, ◌≤◌, true, take, map}
use Rattle.std.specs.List.{AllByRecursion}
use Rattle.mls_filterview.specs.Calls.{NoAccess}
use Rattle.mls_audit.specs.Spelling.{HasSpelling}
use Rattle.mls_machine.specs.Machine.{release_entry}
use Rattle.mls_sessions.specs.Sessions.{site_of_run}
use Rattle.mls_sessions.specs.Calling.{with_entries}
use Rattle.mls_sessions.proofs.calling.enter_releases.Given as goal

abbrev pub invariant-loop-item : goal.invariant-loop-item
invariant-loop-item g l =
    let s = (g.B.Base.seen l.fn.base).state in
    let t = (g.B.Base.seen l.base).state in
    let es = map (release_entry (site_of_run l.site) l.event l.user) (take l.item-index l.released) in
    record {
      clean : (g.B.Base.seen l.base).is_clean → (g.B.Base.seen l.fn.base).is_clean;
      about : (g.B.Base.seen l.base).is_clean → (g.B.Base.seen l.base).about ≡ (g.B.Base.seen l.fn.base).about;
      access : NoAccess g.B.Base.seen l.fn.base l.base;
      count : (g.B.Base.seen l.fn.base).failures ≤ (g.B.Base.seen l.base).failures;
      begun : t.begun ≡ true;
      way : (g.B.Base.seen l.base).is_clean → t ≡ with_entries s es;
      spelled : AllByRecursion HasSpelling es;
    }
