use Rattle.mls_stops.proofs.UnopenedLemmas.{unclosed_files_keep}
use Rattle.mls_stops.proofs.unclosed_files_keep.Goals as goal

pub returns : goal.returns
returns g c = unclosed_files_keep g.D.Disk
