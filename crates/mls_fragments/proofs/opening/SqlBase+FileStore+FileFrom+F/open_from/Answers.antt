use Rattle.sqlite.specs.Files.{file_state}
use Rattle.sqlite.specs.WalFiles.{image_at}
use Rattle.mls_fragments.specs.Again.{FindsHoldings}
use Rattle.mls_fragments.specs.Holdings.{HasHoldings}
use Rattle.mls_fragments.proofs.HoldingsLemmas.{base_among}
use Rattle.mls_fragments.proofs.opening.SqlBase+FileStore+FileFrom+F.open_from.Goals as goal

pub returns-in-Ok-adopt_files-clause-over : goal.returns-in-Ok-adopt_files-clause-over
returns-in-Ok-adopt_files-clause-over g c clean =
    let over = c.in-Ok-adopt_files.ensures.over clean in
    let db = (file_state c.in-Ok.conn).now in
    base_among (HasHoldings db) (FindsHoldings
    (image_at g.F.Start)) c.args.policy.now c.args.file.now c.in-Ok-adopt_files.base
    (λ h has. (db, c.in-Ok.ensures.found over.0, has)) over.1

pub returns-in-Err-adopt_files-clause-refused : goal.returns-in-Err-adopt_files-clause-refused
returns-in-Err-adopt_files-clause-refused g c = record {
  was = c.in-Ok.conn;
  found = c.in-Ok.ensures.found;
  unadopted = c.in-Err-adopt_files.ensures.refused;
}
