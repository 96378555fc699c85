use Rattle.std.proofs.Common.{ℕ, Bool, cond, List, ap₂, subst}
use Rattle.sqlite_disk.specs.Events.{Event, replay}
use Rattle.sqlite.specs.Files.{file_state}
use Rattle.sqlite.specs.Recovery.{Image}
use Rattle.mls_fragments.specs.Opening.{IsFoundIn}
use Rattle.mls_fragments.proofs.connecting.connected_at.Goals as goal

abbrev image : List ℕ → List ℕ → Image
image log db = record { log = log; db = db }

abbrev seen : List ℕ → List ℕ → Bool → List Event → List ℕ
seen log db is_log history = (replay (cond is_log log db) history).seen

pub returns-in-Ok-clause-found : goal.returns-in-Ok-clause-found
returns-in-Ok-clause-found g c clean =
    let (log, db) = c.in_ok-files.ensures.fresh in
    let same = ap₂ image (ap₂ (seen g.F.Start.log g.F.Start.db) log.0 log.1)
    (ap₂ (seen g.F.Start.log g.F.Start.db) db.0 db.1) in
    subst (λ i. IsFoundIn i (file_state c.in-Ok.conn).now) same (c.in-Ok.ensures.found clean)
