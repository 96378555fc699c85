use Rattle.mls_stops.proofs.UnopenedLemmas.{unopened_files_stay}
use Rattle.mls_stops.proofs.unopened_files_stay.Goals as goal

pub returns : goal.returns
returns g c = unopened_files_stay g.D.Disk
