use Rattle.sqlite.specs.Held.{state}
use Rattle.mls_tables.proofs.EndLemmas.{kept_ended}
use Rattle.mls_tables.proofs.adopting.read_out.Goals as goal

pub returns-in-Ok-clause-reading : goal.returns-in-Ok-clause-reading
returns-in-Ok-clause-reading g c =
    let read = c.in-Ok.ensures.reading in
    record { clean = read.clean; schema = read.schema; was_open = read.was_open; left = λ clean. tt; bad = λ clean. tt }

pub returns-in-Err-clause-reading : goal.returns-in-Err-clause-reading
returns-in-Err-clause-reading g c =
    let read = c.in-Err.ensures.reading in
    let end = c.end.ensures in
    record {
      clean = λ clean. read.clean (end.clean clean);
      schema = tt;
      was_open = λ clean. tt;
      left = λ clean. kept_ended (state g.S.Store c.args.conn.now) (state g.S.Store c.of_database.new.conn)
          (state g.S.Store c.end.new.conn) (read.left (end.clean clean)) (end.ended clean);
      bad = λ clean. read.bad (end.clean clean);
    }
