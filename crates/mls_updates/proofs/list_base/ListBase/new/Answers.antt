use Rattle.mls_updates.proofs.TablesLemmas.{state-nil}
use Rattle.mls_updates.proofs.list_base.ListBase.new.Goals as goal

pub returns : goal.returns
returns c = state-nil c.new.result c.new.ensures.tables c.new.ensures.audit
