use Rattle.std.proofs.Common.{refl, sym, ap, ◌∙◌}
use Rattle.std.specs.FinMap.{get, insert}
use Rattle.mls_filterview.specs.Content.{with_table}
use Rattle.mls_filterview.specs.Fragment.{place_of_node}
use Rattle.mls_filterview.proofs.MadeLemmas.{elements_made}
use Rattle.mls_updates.specs.States.{tables_of}
use Rattle.mls_updates.proofs.TablesLemmas.{state-changed}
use Rattle.mls_updates.proofs.list_base.ListBaseBase.add.Goals as goal

pub returns-in-Ok-clause-done : goal.returns-in-Ok-clause-done
returns-in-Ok-clause-done c = λ clean es is_made.
    let db = tables_of c.args.self.now.held.tables in
    let T = db c.args.relation in
    state-changed c.args.self.now.held _ c.args.self.now.saved (sym c.is_begun.ensures
    ∙ c.if-not-is_begun.false) c.args.relation _
    (c.in-Ok.ensures.tables ∙ ap (λ fs. with_table db c.args.relation (insert T (place_of_node c.args.node) fs))
    (elements_made T (get T) (λ q. refl) c.args.node c.args.cells.now es is_made))
    c.in-Ok.ensures.audit
