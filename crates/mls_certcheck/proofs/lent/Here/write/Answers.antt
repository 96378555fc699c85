use Rattle.std.proofs.Common.{◌++◌, sym, append_assoc}
use Rattle.std.proofs.lemmas.Result.{err_from_is_err_and}
use Rattle.mls_translang.specs.Tree.{Write_at}
use Rattle.mls_certcheck.specs.Lines.{write, order, rest}
use Rattle.mls_certcheck.specs.Loops.{loops_of}
use Rattle.mls_certcheck.proofs.WalkLemmas.{same_lines}
use Rattle.mls_certcheck.proofs.lent.Here.write.Goals as goal

pub returns-in_err-written : goal.returns-in_err-written
returns-in_err-written g c =
    let h = c.args.self.now in
    let at = c.args.at in
    let writing = c.args.write.now in
    let lines = write h.number h.before (loops_of h.loops) at writing c.args.outcome in
    let left = rest h.number h.before (Write_at 0 at writing c.args.outcome) in
    let p = err_from_is_err_and c.from_residual.result c.from_residual.ensures.1 in
    rw (p.1, p.2) (
    same_lines g.V.Visit.visits (sym (append_assoc lines (order h.number at writing) left))
    (g.met.V.Visit.stops _ _ lines (order h.number at writing ++ left) _ c.in_err-written.ensures)
    )

pub returns : goal.returns
returns g c =
    let h = c.args.self.now in
    let at = c.args.at in
    let writing = c.args.write.now in
    let lines = write h.number h.before (loops_of h.loops) at writing c.args.outcome in
    let left = rest h.number h.before (Write_at 0 at writing c.args.outcome) in
    same_lines g.V.Visit.visits (sym (append_assoc lines (order h.number at writing) left))
    (g.met.V.Visit.more _ _ _ lines (order h.number at writing ++ left) _ c.in_ok-written.ensures c.found.ensures)
