use Rattle.std.proofs.Common.{◌≡◌, IfOk, subst}
use Rattle.std.proofs.lemmas.Result.{IfOk-weaker}
use Rattle.mls_lattice.specs.Policy.{labels_of}
use Rattle.mls_filterview.specs.View.{rows}
use Rattle.mls_filterview.specs.Entities.{of_entity}
use Rattle.mls_filterview.proofs.PartLemmas.{entity_low, of_entity_stored}
use Rattle.mls_filterview.proofs.mending.own_rows.Goals as goal

pub returns-clause-rows : goal.returns-clause-rows
returns-clause-rows g c = λ clean.
    let ls = labels_of c.args.policy.now in
    let T = (g.B.Base.seen c.args.base.now).state.now.db c.args.relation in
    let p = c.args.place.now in
    let before = c.in_ok-own.ensures.call.clean clean in
    let stored = c.requires.see.stored (c.in_ok-parts.ensures.read.call.clean before) in
    let low = entity_low ls T c.args.label stored.0 stored.1 p c.in_ok-parts.parts.nodes c.in_ok-parts.parts.cells
    (c.in_ok-parts.ensures.parts before) in
    subst (λ r. IfOk r (λ v. v.items ≡ rows ls c.args.label (of_entity p T))) c.in_ok-own.ensures.value
    (IfOk-weaker c.tuples_of.result _ _ (λ v each. each ls stored.0 (of_entity p T) c.args.label
    (of_entity_stored ls T c.args.label stored.0 stored.1 p) low) c.tuples_of.ensures)
