use Rattle.std.proofs.Common.{◌≡◌, [], ◌∷◌, ◌++◌, Some, None, refl, subst, ◌∙◌, rules, arith}
use Rattle.std.proofs.lemmas.Grind.{common_steps}
use Rattle.sqlite.specs.Given.{HasGiven, GivesOn, row_if}
use Rattle.sqlite.specs.Held.{state}
use Rattle.sqlite.specs.State.{HasCleanDisk, KeepsCommit, Shown}
use Rattle.sqlite.proofs.Callers.{begun_plain, given_begin, unchanged_then}
use Rattle.mls_tables.specs.Adopting.{ShowsAll, BlamesOne}
use Rattle.mls_tables.proofs.EndLemmas.{refused_keeps, stopped_keeps}
use Rattle.mls_tables.proofs.StreamingLemmas.{IsKept, none_kept, one_kept, all_kept, shown_from}
use Rattle.mls_tables.proofs.statements.streaming.each.Goals as goal

pub returns-in_err-rows-clause-err : goal.returns-in_err-rows-clause-err
returns-in_err-rows-clause-err g c clean plain =
    let old = state g.S.Store c.args.conn.now in
    let new = state g.S.Store c.query.follows.lender-at-none in
    let held = rw c.in_err-rows.was at c.query.follows.holds-at-none in
    let kept : KeepsCommit old new = refused_keeps old new c.args.sql.now [] _ (held.err clean) in
    search rules

pub rows-init : goal.rows-init
rows-init g c =
    let made = c.in_ok-rows.ensures in (
      refl,
      λ clean. omega (arith, made.survives.clean),
      λ clean plain.
          let begun = begun_plain g.S.Store c.args.sql.now [] c.args.conn.now _ plain (made.begun clean) in
          ([], begun.0, begun.1, rw c.new-found.ensures.items (none_kept c.args.at g.T.Shown.show g.T.Shown.shows)),
    )

pub returns-in_err-advance-clause-err : goal.returns-in_err-advance-clause-err
returns-in_err-advance-clause-err g c clean plain =
    let old = state g.S.Store c.args.conn.now in
    let mid = state g.S.Store c.rows.rows.conn.now in
    let new = state g.S.Store c.advance.new.self.conn.now in
    let late : HasCleanDisk new = search rules in
    let was = c.rows.invariant.2 (omega (arith, c.advance.ensures.survives.clean)) plain in
    let kept : KeepsCommit old new = stopped_keeps old mid new _ was.2 (rw c.in_err-advance.was at
    (c.advance.ensures.kept late)) in
    search rules

pub returns-in_default-clause-all : goal.returns-in_default-clause-all
returns-in_default-clause-all g c clean plain =
    let old = state g.S.Store c.args.conn.now in
    let mid = state g.S.Store c.rows.rows.conn.now in
    let now = c.advance.new.self in
    let new = state g.S.Store now.conn.now in
    let sql = c.args.sql.now in
    let late : HasCleanDisk new = search rules in
    let was = c.rows.invariant.2 (omega (arith, c.advance.ensures.survives.clean)) plain in
    let none : row_if now.has_row now.conn.now ≡ None = search rules in
    let shown : Shown sql [] mid new was.0 = subst
    (GivesOn g.S.Store sql [] c.rows.rows.conn.now now.conn.now was.0) none
    ((rw c.in_ok-advance.was at (c.advance.ensures.ok late)) sql [] was.0 was.1) in
    let all : ShowsAll c.args.at g.T.Shown.show g.T.Shown.shows sql old new c.rows.found.items =
    all_kept c.args.at g.T.Shown.show g.T.Shown.shows sql old new was.0 c.rows.found.items c.rows.last
    (shown_from sql old mid new plain was.2 was.0 shown) was.3 in
    search rules

pub returns-in-Err-clause-bad : goal.returns-in-Err-clause-bad
returns-in-Err-clause-bad g c clean plain =
    let now = c.advance.new.self in
    let row = c.in-Some.row.now in
    let sql = c.args.sql.now in
    let late : HasCleanDisk (state g.S.Store now.conn.now) = search rules in
    let was = c.rows.invariant.2 (omega (arith, c.advance.ensures.survives.clean)) plain in
    let some : row_if now.has_row now.conn.now ≡ Some row = search rules in
    let given : HasGiven g.S.Store sql [] now.conn.now (was.0 ++ row ∷ []) =
    subst (GivesOn g.S.Store sql [] c.rows.rows.conn.now now.conn.now was.0) some
    ((rw c.in_ok-advance.was at (c.advance.ensures.ok late)) sql [] was.0 was.1) in
    let one : BlamesOne c.args.at g.T.Shown.reads sql (state g.S.Store now.conn.now) c.in-Err.fault =
    λ is. (was.0, row, given_begin g.S.Store sql [] now.conn.now (was.0 ++ row ∷ []) given, c.in-Err.ensures.bad is) in
    search rules

pub rows-preserved : goal.rows-preserved
rows-preserved g c =
    let old = state g.S.Store c.args.conn.now in
    let mid = state g.S.Store c.rows.rows.conn.now in
    let now = c.advance.new.self in
    let row = c.in-Some.row.now in
    let sql = c.args.sql.now in
    let moved = c.advance.ensures in (
      moved.same_reference ∙ c.rows.invariant.0,
      λ late. c.rows.invariant.1 (omega (arith, moved.survives.clean)),
      λ late plain.
          let was = c.rows.invariant.2 (omega (arith, moved.survives.clean)) plain in
          let some : row_if now.has_row now.conn.now ≡ Some row = search rules in
          let given : HasGiven g.S.Store sql [] now.conn.now (was.0 ++ row ∷ []) =
          subst (GivesOn g.S.Store sql [] c.rows.rows.conn.now now.conn.now was.0) some
          ((rw c.in_ok-advance.was at (moved.ok late)) sql [] was.0 was.1) in
          let same = unchanged_then old mid (state g.S.Store now.conn.now) was.2 (rw c.in_ok-advance.was at
          (moved.same late)) in
          let kept = one_kept c.args.at g.T.Shown.show g.T.Shown.shows was.0 c.rows.found.items _ c.rows.last row c.in-Ok.id was.3 c.in-Ok.ensures.kept c.in-Ok.ensures.read c.in-Ok.ensures.above in (
            was.0 ++ row ∷ [],
            given,
            same,
            subst (λ n. IsKept c.args.at g.T.Shown.show g.T.Shown.shows (was.0 ++ row
                ∷ []) c.keep.new.found.items (Some n)) (grind (arith, common_steps)) kept,
          ),
    )
