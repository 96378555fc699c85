use Rattle.std.proofs.Common.{◌∙◌, ap}
use Rattle.mls_translang.specs.Expressions.{value_in}
use Rattle.mls_trusted.proofs.PlainLemmas.{assign_step}
use Rattle.mls_trusted.proofs.plain.assign.Goals as goal

pub returns : goal.returns
returns c =
    assign_step c.args.call.now c.args.frame.now c.requires.frame c.args.value.now c.in_ok-value.value
    (c.in_ok-value.ensures ∙ ap (λ env. value_in env c.args.value.now) c.environment.ensures)
    c.args.variable c.set.new.self c.requires.may c.set.ensures
