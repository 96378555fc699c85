use Rattle.mls_updates.specs.States.{tables_of}
use Rattle.mls_updates.proofs.TablesLemmas.{one_label}
use Rattle.mls_updates.proofs.list_base.ListBaseBase.fragment.Goals as goal

pub returns-in-Ok-clause-found : goal.returns-in-Ok-clause-found
returns-in-Ok-clause-found c = λ clean. one_label
    (tables_of c.args.self.now.held.tables c.args.relation) c.args.label c.in-Ok.fragment c.in-Ok.ensures
