use Rattle.std.proofs.Common.{arith}
use Rattle.mls_fragments.proofs.AgainLemmas.{clean_store}
use Rattle.mls_fragments.proofs.again.SqlBase+FileStore+D.into_files.Goals as goal

pub returns : goal.returns
returns g c = record {
  clean = λ clean.
      let gone = c.let_go.ensures clean in
      let rises = gone.closed.quiet.clean in
      let now = clean_store gone.last c.let_go.result gone.files_are clean in
      c.settled_files.ensures.clean (omega (arith, rises, now));
}
