use Rattle.sqlite.specs.Files.{image_of, file_state}
use Rattle.mls_fragments.specs.Again.{FindsHoldings, unopened, unadopted}
use Rattle.mls_fragments.specs.Holdings.{HasHoldings}
use Rattle.mls_fragments.proofs.HoldingsLemmas.{base_among}
use Rattle.mls_fragments.proofs.again.SqlBase+FileStore+D.open_files.Goals as goal

pub returns-in-Ok-adopt_files-clause-over : goal.returns-in-Ok-adopt_files-clause-over
returns-in-Ok-adopt_files-clause-over g c clean =
    let over = c.in-Ok-adopt_files.ensures.over clean in
    let db = (file_state c.in-Ok.conn).now in
    base_among (HasHoldings db) (FindsHoldings
    (image_of g.D.Disk c.args.files)) c.args.policy.now c.args.file.now c.in-Ok-adopt_files.base
    (λ h has. (db, c.in-Ok.ensures.found over.0, has)) over.1

pub returns-in-Ok-adopt_files-clause-clean : goal.returns-in-Ok-adopt_files-clause-clean
returns-in-Ok-adopt_files-clause-clean g c clean = c.in-Ok.ensures.clean (c.in-Ok-adopt_files.ensures.over clean).0

pub returns-in-Err-clause-refused : goal.returns-in-Err-clause-refused
returns-in-Err-clause-refused g c = unopened c.in-Err.ensures.fault c.in-Err.ensures.unopened

pub returns-in-Err-adopt_files-clause-refused : goal.returns-in-Err-adopt_files-clause-refused
returns-in-Err-adopt_files-clause-refused g c = unadopted c.in-Err-adopt_files.conn (record {
  was = c.in-Ok.conn;
  found =
      c.in-Ok.ensures.found;
  unadopted = c.in-Err-adopt_files.ensures.refused;
}) c.let_go.ensures
