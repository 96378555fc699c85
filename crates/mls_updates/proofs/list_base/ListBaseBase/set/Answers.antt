use Rattle.std.proofs.Common.{refl, sym, ◌∙◌}
use Rattle.mls_updates.proofs.TablesLemmas.{state-changed}
use Rattle.mls_updates.proofs.list_base.ListBaseBase.set.Goals as goal

pub returns-in-Ok-clause-done : goal.returns-in-Ok-clause-done
returns-in-Ok-clause-done c = λ clean.
    state-changed c.args.self.now.held _ c.args.self.now.saved (sym c.is_begun.ensures
    ∙ c.if-not-is_begun.false) c.args.relation _ c.in-Ok.ensures refl
