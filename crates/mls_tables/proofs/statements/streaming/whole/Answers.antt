use Rattle.std.proofs.Common.{inl}
use Rattle.std.proofs.lemmas.Result.{IfErr-weaker}
use Rattle.sqlite.specs.Held.{state}
use Rattle.mls_tables.proofs.EndLemmas.{keeps, always_ok, always_err}
use Rattle.mls_tables.proofs.statements.streaming.whole.Goals as goal

pub returns-in-Ok : goal.returns-in-Ok
returns-in-Ok g c =
    let each = c.in-Ok.ensures in
    record {
      clean = each.clean;
      all = each.all;
      same = λ now plain. always_ok c.in-Ok.read _ (each.same now plain);
      bad = λ now plain. IfErr-weaker c.in-Ok.read _ _ (λ e one is. (each.same now plain, one)) (each.bad now plain);
      left = λ now plain. always_err c.in-Ok.read _ (keeps (state g.S.Store c.args.conn.now)
          (state g.S.Store c.each.new.conn) (inl (each.same now plain)));
    }

pub returns-in-Err : goal.returns-in-Err
returns-in-Err g c =
    let each = c.in-Err.ensures in
    record {
      clean = each.clean;
      all = λ now plain. tt;
      same = λ now plain. tt;
      bad = λ now plain is. absurd
          (c.of_store.ensures is);
      left = each.err;
    }
