use Rattle.std.proofs.Common.{subst}
use Rattle.sqlite.specs.Effect.{Database}
use Rattle.sqlite.specs.Held.{state}
use Rattle.mls_tables.specs.Adopting.{AreAll}
use Rattle.mls_tables.specs.Rows.{tables_of}
use Rattle.mls_fragments.proofs.OpeningLemmas.{bad_rows, condemned_again}
use Rattle.mls_fragments.proofs.refusing.bad_row.Goals as goal

pub returns-in_ok-sorted_rows-in-Some-clause-bad : goal.returns-in_ok-sorted_rows-in-Some-clause-bad
returns-in_ok-sorted_rows-in-Some-clause-bad g c disk described =
    let rows = c.in_ok-sorted_rows-in-Some.field-0 in
    let clean = (c.in_ok-sorted_rows-in-Some.ensures.kept disk).clean in
    let bad = rw c.in-Some.is at c.in_ok-at.ensures.bad in (
      subst (λ (db : Database). AreAll (tables_of db.trees) rows) (c.in_ok-rows.ensures.same clean)
          (c.in_ok-sorted_rows-in-Some.ensures.all disk),
      bad_rows c.args.design.now.policy.now c.args.design.now.file.now c.args.described.now
          (state g.S.Store c.args.conn.now).now c.in_ok-rows.rows described (c.in_ok-rows.ensures.all clean) bad,
    )

pub returns-in_ok-sorted_rows-in-Some-clause-condemned : goal.returns-in_ok-sorted_rows-in-Some-clause-condemned
returns-in_ok-sorted_rows-in-Some-clause-condemned g c disk =
    let rows = c.in_ok-sorted_rows-in-Some.field-0 in
    let clean = (c.in_ok-sorted_rows-in-Some.ensures.kept disk).clean in
    let again = subst (λ (db : Database). AreAll (tables_of db.trees) rows) (c.in_ok-rows.ensures.same clean)
    (c.in_ok-sorted_rows-in-Some.ensures.all disk) in
    let condemned = rw c.in-Some.is at (c.in_ok-at.ensures.condemned c.in_ok-rows.ensures.sorted) in (
      c.in_ok-sorted_rows-in-Some.ensures.sorted,
      condemned_again c.args.design.now.policy.now c.args.design.now.file.now c.args.described.now
          (tables_of (state g.S.Store c.args.conn.now).now.trees) c.in_ok-rows.rows rows _
          (c.in_ok-rows.ensures.all clean) again
          c.in_ok-rows.ensures.sorted c.in_ok-sorted_rows-in-Some.ensures.sorted condemned,
    )
