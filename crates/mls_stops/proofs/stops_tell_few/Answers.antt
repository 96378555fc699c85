use Rattle.mls_stops.proofs.SoFarLemmas.{runs_agree, stops_tell}
use Rattle.mls_stops.proofs.stops_tell_few.Goals as goal

pub returns-clause-runs : goal.returns-clause-runs
returns-clause-runs c = runs_agree

pub returns-clause-few : goal.returns-clause-few
returns-clause-few c = stops_tell
