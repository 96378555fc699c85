use Rattle.std.proofs.Common.{◌≡◌, Some, sym, ap, ◌∙◌, option_map, slice_get}
use Rattle.std.specs.List.{list_all}
use Rattle.mls_certcheck.specs.Lines.{within_ends}
use Rattle.mls_certcheck.specs.Checks.{holds}
use Rattle.mls_certcheck.specs.Walk.{claim_of}
use Rattle.mls_certcheck.proofs.CheckLemmas.{param_false, param_more}
use Rattle.mls_certcheck.proofs.checker.Checker.parameters_hold.Goals as goal

pub returns-then-not-parameter_holds : goal.returns-then-not-parameter_holds
returns-then-not-parameter_holds c =
    let got : option_map (λ q. q.1) (slice_get c.args.self.now.tx.now.params c.loop-place.place)
    ≡ Some c.get.result.now = ap (λ ps. option_map (λ q. q.1) (slice_get ps c.loop-place.place))
    (sym c.params-params.ensures.params) ∙ c.get.ensures in
    param_false (λ q. list_all (holds (claim_of c.args.self.now))
    (within_ends q.label)) c.args.self.now.tx.now.params c.loop-place.place c.get.result.now _ c.parameter_holds.result got c.loop-place.invariant c.parameter_holds.ensures c.if-not-parameter_holds.true

pub loop-place-preserved : goal.loop-place-preserved
loop-place-preserved c =
    let got : option_map (λ q. q.1) (slice_get c.args.self.now.tx.now.params c.loop-place.place)
    ≡ Some c.get.result.now = ap (λ ps. option_map (λ q. q.1) (slice_get ps c.loop-place.place))
    (sym c.params-params.ensures.params) ∙ c.get.ensures in
    param_more (λ q. list_all (holds (claim_of c.args.self.now))
    (within_ends q.label)) c.args.self.now.tx.now.params c.loop-place.place c.get.result.now _ c.parameter_holds.result got c.loop-place.invariant c.parameter_holds.ensures c.if-not-parameter_holds.false
