use Rattle.std.proofs.Common.{arith, subst}
use Rattle.std.proofs.lemmas.Grind.{common_steps}
use Rattle.sqlite.specs.State.{HasCleanDisk, Commits}
use Rattle.sqlite.specs.Held.{state}
use Rattle.mls_tables.specs.Statements.{Begins}
use Rattle.mls_tables.proofs.EndLemmas.{tables_begun, has_read}
use Rattle.mls_tables.proofs.adopting.at_once.Goals as goal

pub returns-in_err-map_err-clause-left : goal.returns-in_err-map_err-clause-left
returns-in_err-map_err-clause-left g c = grind (arith, common_steps)

pub returns-in_err-map_err-clause-bad : goal.returns-in_err-map_err-clause-bad
returns-in_err-map_err-clause-bad g c = grind (arith, common_steps)

pub returns-in_err-found-clause-left : goal.returns-in_err-found-clause-left
returns-in_err-found-clause-left g c = grind (arith, common_steps)

pub returns-in_err-found-clause-bad : goal.returns-in_err-found-clause-bad
returns-in_err-found-clause-bad g c = grind (arith, common_steps)

pub returns-in_err-map_err-2-clause-left : goal.returns-in_err-map_err-2-clause-left
returns-in_err-map_err-2-clause-left g c = grind (arith, common_steps)

pub returns-in_err-map_err-2-clause-bad : goal.returns-in_err-map_err-2-clause-bad
returns-in_err-map_err-2-clause-bad g c = grind (arith, common_steps)

pub returns-clause-was_open : goal.returns-clause-was_open
returns-clause-was_open g c = grind (arith, common_steps)

pub returns-clause-says : goal.returns-clause-says
returns-clause-says g c =
    let old = state g.S.Store c.args.conn.now in
    let first = state g.S.Store c.begin.new.conn in
    let mid = state g.S.Store c.read.new.conn in
    let new = state g.S.Store c.commit.new.conn in
    let begins : HasCleanDisk first → Begins old first = grind (arith, common_steps) in
    let commits : HasCleanDisk new → Commits mid new = grind (arith, common_steps) in
    λ clean has.
    let read = c.commit.ensures.clean clean in
    let begun = begins (c.read.ensures.clean read) in
    let there = tables_begun old first mid new begun has in (
      subst (λ db. g.T.ReadOut.says db c.in_ok-found.found) begun.now (c.in_ok-found.ensures.says read there),
      has_read old first mid new begun (c.in_ok-found.ensures.same read there) (commits clean),
    )
