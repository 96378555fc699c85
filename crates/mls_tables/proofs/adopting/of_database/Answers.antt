use Rattle.std.proofs.lemmas.Result.{IfErr-weaker}
use Rattle.mls_tables.proofs.EndLemmas.{always_ok}
use Rattle.mls_tables.proofs.adopting.of_database.Goals as goal

pub returns-clause-says : goal.returns-clause-says
returns-clause-says g c clean = c.at_once.ensures.says clean (c.has_tables.ensures.0 c.if-not-has_tables.false)

pub returns-clause-reading : goal.returns-clause-reading
returns-clause-reading g c =
    let has = c.has_tables.ensures.0 c.if-not-has_tables.false in
    let read = c.at_once.ensures in
    record {
      clean = read.clean;
      schema = always_ok c.at_once.result _ has;
      was_open = read.was_open;
      left = λ clean. read.left clean has;
      bad = λ clean. IfErr-weaker c.at_once.result _ _ (λ e blames is reads. blames is reads.1) (read.bad clean has);
    }
