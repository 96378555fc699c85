use Rattle.sqlite.specs.Held.{state}
use Rattle.mls_tables.proofs.Adds.{adds_meta}
use Rattle.mls_tables.proofs.Causes.{add_meta_fails}
use Rattle.mls_tables.proofs.EndLemmas.{wrote}
use Rattle.mls_tables.proofs.statements.meta.add_meta.Goals as goal

pub returns : goal.returns
returns g c =
    let old = state g.S.Store c.args.conn.now in
    let new = state g.S.Store c.execute.new.self in
    wrote old new _ _ c.execute.result (λ ready. adds_meta old new ready c.args.version c.args.lattice.now c.args.schemes.now c.execute.result) (λ ready. add_meta_fails old new c.execute.result ready c.args.version c.args.lattice.now c.args.schemes.now) (rw (c.params-to_sql.ensures, c.params-to_sql-2.ensures, c.params-to_sql-3.ensures) at c.execute.ensures.runs) c.execute.ensures.survives
