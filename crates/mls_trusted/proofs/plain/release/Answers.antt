use Rattle.std.proofs.Common.{◌++◌, ◌∷◌, [], ◌∙◌, ap}
use Rattle.mls_translang.specs.Expressions.{value_in}
use Rattle.mls_trusted.proofs.PlainLemmas.{release_step}
use Rattle.mls_trusted.proofs.plain.release.Goals as goal

pub returns : goal.returns
returns c =
    release_step c.args.call.now c.args.frame.now c.requires.frame c.args.value.now c.in_ok-value.value
    (c.in_ok-value.ensures ∙ ap (λ env. value_in env c.args.value.now) c.environment.ensures)
    c.args.to c.args.into (record c.args.frame.now { released = c.push.new.self }) c.set.new.self c.requires.may
    (c.in_ok-push.ensures.items ∙ ap (λ v. c.args.frame.now.released.items ++ (c.args.to, v)
    ∷ []) c.in_ok-copy_value.ensures) c.set.ensures
