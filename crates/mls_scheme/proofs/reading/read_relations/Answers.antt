use Rattle.std.proofs.Common.{◌+◌, drop, sym, ap, ◌∙◌}
use Rattle.std.proofs.lemmas.List.{drop_all}
use Rattle.toml.specs.View.{view, items_view}
use Rattle.mls_scheme.specs.Reading.{scheme_at, gather}
use Rattle.mls_scheme.proofs.SchemeSteps.{gather-more}
use Rattle.mls_scheme.proofs.reading.read_relations.Goals as goal

pub loop-value-preserved : goal.loop-value-preserved
loop-value-preserved c =
    let step = scheme_at c.args.policy.now in
    let i = c.loop-value.value-index in
    let v = c.value-item.result in
    let read = ap (λ schemes. step schemes (view v)) (sym c.deref.ensures.value) ∙ c.in_ok-scheme.ensures in
    ap (λ schemes. gather step schemes (items_view (drop (i + 1) c.args.items.now))) c.in_ok-push.ensures.items
    ∙ gather-more step c.args.items.now i v c.loop-value-test.true c.value-item.is c.loop-value.relations.items c.in_ok-scheme.scheme read
    ∙ c.loop-value.invariant

pub returns : goal.returns
returns c =
    sym c.loop-value.invariant
    ∙ ap (λ l. gather (scheme_at c.args.policy.now) c.loop-value.relations.items (items_view l))
    (drop_all c.loop-value.value-index c.args.items.now c.loop-value-test.false)
