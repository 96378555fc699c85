use Rattle.mls_updates.proofs.LawLemmas.{change_one_entity}
use Rattle.mls_updates.proofs.laws.writes_change_one_entity.Goals as goal

pub returns : goal.returns
returns c = change_one_entity
