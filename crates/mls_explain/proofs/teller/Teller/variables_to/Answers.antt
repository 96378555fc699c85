use Rattle.std.proofs.Common.{string_bytes}
use Rattle.mls_explain.specs.Telling.{variable_line}
use Rattle.mls_explain.proofs.TellingLemmas.{each_more, each_over}
use Rattle.mls_explain.proofs.teller.Teller.variables_to.Goals as goal

pub loop-place-preserved : goal.loop-place-preserved
loop-place-preserved c =
    each_more (variable_line c.args.self.now.policy.now c.args.self.now.tx.now.vars) c.args.labels.now c.loop-place.place (record { rank = 0; cats = 0 }) _ (string_bytes c.loop-place.text)
    c.loop-place.invariant (string_bytes c.variable_to.new.text) c.loop-place-test.true c.in_ok-variable_to.ensures

pub returns : goal.returns
returns c =
    each_over (variable_line c.args.self.now.policy.now c.args.self.now.tx.now.vars) c.args.labels.now c.loop-place.place (record { rank = 0; cats = 0 }) _ (string_bytes c.loop-place.text)
    c.loop-place.invariant c.loop-place-test.false
