use Rattle.std.proofs.Common.{◌≡◌, not, IfOk, sym, ap, ◌∙◌, subst}
use Rattle.std.specs.FinMap.{retain_keys}
use Rattle.std.proofs.lemmas.Result.{on_ok_weaker}
use Rattle.mls_lattice.specs.Policy.{labels_of}
use Rattle.mls_filterview.specs.Content.{with_relation}
use Rattle.mls_filterview.specs.Stored.{IsStored}
use Rattle.mls_updates.specs.Writes.{is_above}
use Rattle.mls_updates.specs.Steps.{AreAbove}
use Rattle.mls_updates.proofs.DropLemmas.{dropped_alone, dropped_all}
use Rattle.mls_filterview.proofs.AccessLemmas.{avoids_then, avoids_some, among_changes_high}
use Rattle.mls_updates.proofs.deleting.drop_above.Goals as goal

pub drop_each-requires-clause-alone : goal.drop_each-requires-clause-alone
drop_each-requires-clause-alone g c = λ clean.
    let ls = labels_of c.args.policy.now in
    let t = (g.B.Base.seen c.settle.new.base).state in
    let same : t ≡ (g.B.Base.seen c.args.base.now).state = ap (λ b. (g.B.Base.seen b).state) c.in_ok-order.ensures.same
    in
    let above : AreAbove ls c.args.place.class c.in_ok-order.order.items =
    subst (λ r. IfOk r (λ o. AreAbove ls c.args.place.class o.items)) c.in_ok-order.ensures.value c.downwards.ensures in
    let stored = c.requires.stored (c.in_ok-order.ensures.call.clean clean) in
    dropped_alone ls stored.0 (t.now.db c.args.relation) (subst (λ x. IsStored ls stored.0 (x.now.db c.args.relation))
    (sym same) stored.1) c.args.place c.deref.result.now
    (subst (AreAbove ls c.args.place.class) (sym c.deref.ensures.value) above)

pub returns-clause-done : goal.returns-clause-done
returns-clause-done g c = λ clean.
    let ls = labels_of c.args.policy.now in
    let t = (g.B.Base.seen c.settle.new.base).state in
    let same : t ≡ (g.B.Base.seen c.args.base.now).state = ap (λ b. (g.B.Base.seen b).state) c.in_ok-order.ensures.same
    in
    let above : AreAbove ls c.args.place.class c.in_ok-order.order.items =
    subst (λ r. IfOk r (λ o. AreAbove ls c.args.place.class o.items)) c.in_ok-order.ensures.value c.downwards.ensures in
    let stored = c.requires.stored (c.in_ok-order.ensures.call.clean (c.drop_each.ensures.step.call.clean clean)) in
    on_ok_weaker c.drop_each.result (λ e. e
    ∙ ap (with_relation t c.args.relation)
    (dropped_all ls stored.0 (t.now.db c.args.relation) (subst (λ x. IsStored ls stored.0 (x.now.db c.args.relation))
    (sym same) stored.1) c.args.place c.deref.result.now (subst (AreAbove ls c.args.place.class)
    (sym c.deref.ensures.value) above))
    ∙ (λ i. with_relation (same i) c.args.relation (retain_keys ((same i).now.db c.args.relation)
    (λ q. not (is_above ls c.args.place q)))))
    (c.drop_each.ensures.done clean)

pub returns-clause-access : goal.returns-clause-access
returns-clause-access g c =
    let ls = labels_of c.args.policy.now in
    let w = c.args.place.class in
    let above : AreAbove ls w c.in_ok-order.order.items =
    subst (λ r. IfOk r (λ o. AreAbove ls w o.items)) c.in_ok-order.ensures.value c.downwards.ensures in
    avoids_then (avoids_some c.in_ok-order.ensures.access)
    (among_changes_high ls w w c.deref.result.now
    (subst (AreAbove ls w) (sym c.deref.ensures.value) above).above c.drop_each.ensures.access)
