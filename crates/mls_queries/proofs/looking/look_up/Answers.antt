use Rattle.std.proofs.Common.{◌≡◌, IfOk, subst}
use Rattle.std.proofs.lemmas.Result.{IfOk-weaker}
use Rattle.mls_lattice.specs.Policy.{labels_of}
use Rattle.mls_filterview.specs.View.{rows}
use Rattle.mls_queries.specs.Demanded.{of_key}
use Rattle.mls_queries.proofs.PartLemmas.{of_key_stored}
use Rattle.mls_queries.proofs.looking.look_up.Goals as goal

pub returns-clause-rows : goal.returns-clause-rows
returns-clause-rows g c = λ clean.
    let ls = labels_of c.args.policy.now in
    let T = (g.B.Base.seen c.args.base.now).state.now.db c.args.relation in
    let key = c.args.key in
    let before = c.in_ok-tuples.ensures.call.clean clean in
    let stored = c.requires.see.stored (c.in_ok-parts.ensures.read.call.clean before) in
    subst (λ r. IfOk r (λ v. v.items ≡ rows ls c.args.label (of_key key T))) c.in_ok-tuples.ensures.value
    (IfOk-weaker c.seen.result _ _ (λ v each. each stored.0 (of_key key T)
    (of_key_stored ls T c.args.label key stored.0 stored.1) (c.in_ok-parts.ensures.parts before)) c.seen.ensures)
