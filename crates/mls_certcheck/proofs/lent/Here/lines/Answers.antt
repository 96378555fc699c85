use Rattle.std.proofs.Common.{[], ◌∷◌}
use Rattle.std.proofs.lemmas.Result.{err_from_is_err_and}
use Rattle.mls_translang.specs.Blocks.{block_of}
use Rattle.mls_certcheck.specs.Walk.{entry_lines, own_of}
use Rattle.mls_certcheck.proofs.lent.Here.lines.Goals as goal

pub returns-in_err-entry : goal.returns-in_err-entry
returns-in_err-entry g c =
    let p = err_from_is_err_and c.from_residual.result c.from_residual.ensures.1 in
    rw (p.1, p.2) (g.met.V.Visit.stops _ _ (entry_lines c.args.self.now)
    (own_of c.args.self.now (block_of (c.args.stmt.now ∷ []))) _ c.in_err-entry.ensures)

pub returns : goal.returns
returns g c = g.met.V.Visit.more _ _ _ (entry_lines c.args.self.now)
    (own_of c.args.self.now (block_of (c.args.stmt.now ∷ []))) _ c.in_ok-entry.ensures c.own.ensures
