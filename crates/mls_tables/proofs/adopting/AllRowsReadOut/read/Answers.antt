use Rattle.sqlite.specs.Held.{state}
use Rattle.mls_tables.specs.Adopting.{AreRead}
use Rattle.mls_tables.proofs.ReadLemmas.{read_after, refused}
use Rattle.mls_tables.proofs.adopting.AllRowsReadOut.read.Goals as goal

pub returns-in_err-nodes : goal.returns-in_err-nodes
returns-in_err-nodes g c =
    refused (state g.S.Store c.args.conn.now)
    (state g.S.Store c.nodes.new.conn) c.in_err-nodes.field-0.0 c.from_residual.result c.from_residual.ensures.1
    (λ db (all : AreRead db). all.0) c.in_err-nodes.ensures

pub returns-in_err-cells : goal.returns-in_err-cells
returns-in_err-cells g c =
    let old = state g.S.Store c.args.conn.now in
    let new = state g.S.Store c.cells.new.conn in
    refused old new c.in_err-cells.field-0.0 c.from_residual-in_err-cells.result c.from_residual-in_err-cells.ensures.1
    (λ db (all : AreRead db). all.1.0)
    (read_after old (state g.S.Store c.nodes.new.conn) new _ _ c.in_ok-nodes.ensures c.in_err-cells.ensures)

pub returns-in_err-entries : goal.returns-in_err-entries
returns-in_err-entries g c =
    let old = state g.S.Store c.args.conn.now in
    let mid = state g.S.Store c.cells.new.conn in
    let new = state g.S.Store c.entries.new.conn in
    refused old new c.in_err-entries.field-0.0 c.from_residual-in_err-entries.result c.from_residual-in_err-entries.ensures.1 (λ db (all : AreRead db). all.1.1)
    (read_after old mid new _ _ (read_after old
    (state g.S.Store c.nodes.new.conn) mid _ _ c.in_ok-nodes.ensures c.in_ok-cells.ensures) c.in_err-entries.ensures)

pub returns : goal.returns
returns g c =
    let old = state g.S.Store c.args.conn.now in
    let mid = state g.S.Store c.cells.new.conn in
    let new = state g.S.Store c.entries.new.conn in
    let nodes = c.in_ok-nodes.ensures in
    let cells = read_after old (state g.S.Store c.nodes.new.conn) mid _ _ nodes c.in_ok-cells.ensures in
    let entries = read_after old mid new _ _ cells c.in_ok-entries.ensures in
    record {
      clean = entries.clean;
      says = λ now has.
          let before = c.in_ok-entries.ensures.clean now in
          let n = nodes.says (c.in_ok-cells.ensures.clean before) has in
          let d = cells.says before has in
          let e = entries.says now has in
          ((n.0, (d.0, e.0)), (n.1, (d.1, e.1)));
      same = entries.same;
      left = λ now has. tt;
      bad = λ now has. tt;
    }
