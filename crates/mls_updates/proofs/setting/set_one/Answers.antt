use Rattle.std.proofs.Common.{◌≡◌, IfOk, sym, ap, ◌∙◌, subst}
use Rattle.std.proofs.lemmas.Result.{on_ok_weaker}
use Rattle.mls_scheme.specs.Table.{change}
use Rattle.mls_filterview.specs.Content.{with_relation}
use Rattle.mls_filterview.specs.Fragment.{set_in}
use Rattle.mls_updates.proofs.CallLemmas.{change_step}
use Rattle.mls_filterview.specs.Calls.{CanSet, IsChange}
use Rattle.mls_filterview.proofs.AccessLemmas.{avoids_then, avoids_some}
use Rattle.mls_updates.proofs.setting.set_one.Goals as goal

pub returns-clause-done : goal.returns-clause-done
returns-clause-done g c = λ clean.
    let relation = c.args.relation in
    let value : c.in_ok-value.value ≡ c.args.value.now =
    subst (λ r. IfOk r (λ v. v ≡ c.args.value.now)) c.in_ok-value.ensures.value c.copy_value.ensures in
    let same : (g.B.Base.seen c.settle.new.base).state ≡ (g.B.Base.seen c.args.base.now).state =
    ap (λ b. (g.B.Base.seen b).state) c.in_ok-value.ensures.same in
    on_ok_weaker c.set.result (λ e. e ∙ (λ i. with_relation (same i) relation
    (change (set_in c.args.place.now c.args.attr (value i)) ((same i).now.db relation)))) (c.set.ensures.done clean)

pub returns-clause-step : goal.returns-clause-step
returns-clause-step g c =
    change_step g.B.Base.seen c.args.base.now c.set.new.self c.set.result c.requires.begun
    (subst (λ b. IsChange g.B.Base.seen (g.B.Base.seen b).state.begun b c.set.new.self c.set.result) c.in_ok-value.ensures.same c.set.ensures.change)

pub set-requires : goal.set-requires
set-requires g c =
    let value : c.in_ok-value.value ≡ c.args.value.now =
    subst (λ r. IfOk r (λ v. v ≡ c.args.value.now)) c.in_ok-value.ensures.value c.copy_value.ensures in
    subst (λ b. CanSet g.B.Base.seen b c.args.relation c.args.place.now c.args.attr c.in_ok-value.value)
    (sym c.in_ok-value.ensures.same)
    (subst (CanSet g.B.Base.seen c.args.base.now c.args.relation c.args.place.now c.args.attr)
    (sym value) c.requires.can)

pub returns-clause-access : goal.returns-clause-access
returns-clause-access g c = avoids_then (avoids_some c.in_ok-value.ensures.access) c.set.ensures.access
