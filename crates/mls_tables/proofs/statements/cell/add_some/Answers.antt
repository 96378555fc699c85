use Rattle.std.proofs.Common.{◌≡◌, ◌∙◌, length, sym, subst, rules}
use Rattle.sqlite.specs.Held.{state}
use Rattle.sqlite.specs.State.{HasCleanDisk, Executes}
use Rattle.sqlite.specs.Values.{bound}
use Rattle.mls_tables.specs.Rows.{own_values}
use Rattle.mls_tables.specs.Sql.{add_cells}
use Rattle.mls_tables.proofs.Adds.{adds_own}
use Rattle.mls_tables.proofs.Causes.{add_own_fails}
use Rattle.mls_tables.proofs.Texts.{AddsOwn, add_own_is}
use Rattle.mls_tables.proofs.ChangeLemmas.{writes_within}
use Rattle.mls_tables.proofs.EndLemmas.{wrote}
use Rattle.mls_tables.proofs.OwnCells.{is_cut, some_done, some_stopped}
use Rattle.mls_tables.proofs.statements.cell.add_some.Goals as goal

pub returns-clause-wrote : goal.returns-clause-wrote
returns-clause-wrote g c =
    let cells = c.args.cells.now in
    let node = c.args.node.now in
    let old = state g.S.Store c.args.conn.now in
    let new = state g.S.Store c.execute.new.self in
    let text = c.adding.result.now in
    let means : AddsOwn text (length cells) = subst (λ it. AddsOwn it (length cells)) (sym c.adding.ensures)
    (add_own_is (length cells) c.requires.some c.requires.few) in
    let params : bound c.deref.result.now ≡ own_values node cells = search rules in
    writes_within old new c.execute.result (wrote old new text (own_values node cells) c.execute.result
    (λ ready. adds_own old new ready node cells text c.execute.result means)
    (λ ready. add_own_fails old new c.execute.result ready node cells text means)
    (subst (λ ps. HasCleanDisk new → Executes text ps old new c.execute.result) params c.execute.ensures.runs) c.execute.ensures.survives)

pub returns-clause-did : goal.returns-clause-did
returns-clause-did g c now within =
    let cells = c.args.cells.now in
    let node = c.args.node.now in
    let old = state g.S.Store c.args.conn.now in
    let new = state g.S.Store c.execute.new.self in
    let text = c.adding.result.now in
    let is : text ≡ add_cells (length cells) = c.adding.ensures ∙ is_cut (length cells) c.requires.some c.requires.few
    in
    let means : AddsOwn text (length cells) = subst (λ it. AddsOwn it (length cells)) (sym c.adding.ensures)
    (add_own_is (length cells) c.requires.some c.requires.few) in
    let params : bound c.deref.result.now ≡ own_values node cells = search rules in
    some_done old new node cells text is means within.ready c.execute.result
    (subst (λ ps. Executes text ps old new c.execute.result) params (c.execute.ensures.runs now))

pub returns-clause-stopped : goal.returns-clause-stopped
returns-clause-stopped g c now within =
    let cells = c.args.cells.now in
    let node = c.args.node.now in
    let old = state g.S.Store c.args.conn.now in
    let new = state g.S.Store c.execute.new.self in
    let text = c.adding.result.now in
    let is : text ≡ add_cells (length cells) = c.adding.ensures ∙ is_cut (length cells) c.requires.some c.requires.few
    in
    let means : AddsOwn text (length cells) = subst (λ it. AddsOwn it (length cells)) (sym c.adding.ensures)
    (add_own_is (length cells) c.requires.some c.requires.few) in
    let params : bound c.deref.result.now ≡ own_values node cells = search rules in
    some_stopped old new node cells text is means within.ready c.execute.result
    (subst (λ ps. Executes text ps old new c.execute.result) params (c.execute.ensures.runs now))
