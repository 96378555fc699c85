use Rattle.std.proofs.Common.{◌≡◌, List, []}
use Rattle.sqlite_value.specs.Order.{Row}
use Rattle.sqlite.specs.Given.{IsPlain, HasGiven}
use Rattle.sqlite.specs.Held.{state}
use Rattle.sqlite.specs.Listing.{understood}
use Rattle.sqlite.specs.State.{HasCleanDisk, IsUnchanged}
use Rattle.mls_tables.proofs.StreamingLemmas.{IsKept}
use Rattle.mls_tables.proofs.statements.streaming.each.Given as goal

abbrev pub invariant-rows : goal.invariant-rows
invariant-rows g l =
    let old = state g.S.Store l.fn.conn in
    let now = state g.S.Store l.rows.conn.now in
    (l.rows.conn.ghost_name ≡ l.initial.rows.conn.ghost_name)
    × (HasCleanDisk now → HasCleanDisk old)
    × (HasCleanDisk now → IsPlain (understood old.now.schema l.sql)
    → (given : List Row) × HasGiven g.S.Store l.sql [] l.rows.conn.now given × IsUnchanged old now
    × IsKept l.at g.T.Shown.show g.T.Shown.shows given l.found.items l.last)
