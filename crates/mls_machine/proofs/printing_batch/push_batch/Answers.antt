use Rattle.std.proofs.Common.{◌≡◌, ◌++◌, OnOk, flat_map, sym, ap, ◌∙◌, subst}
use Rattle.mls_translang.specs.declared.event.Command.TheVariants.{All}
use Rattle.mls_machine.specs.Output.{on_line, batch_texts}
use Rattle.mls_machine.specs.Printable.{CommandIsKnown}
use Rattle.mls_machine.specs.Under.{site_under}
use Rattle.mls_machine.proofs.printing_batch.push_batch.Goals as goal

pub push_ones-requires-clause-batch : goal.push_ones-requires-clause-batch
push_ones-requires-clause-batch c =
    subst (CommandIsKnown (site_under c.args.to.now.policy.now c.args.to.now.schemes.now))
    (c.in-All.is ∙ ap All (sym c.deref.ensures)) c.requires.command

pub returns-in-All : goal.returns-in-All
returns-in-All c =
    let policy = c.args.to.now.policy.now in
    subst (λ command. OnOk c.push_ones.result (c.push_ones.new.text.items ≡ c.args.text.now.items
    ++ flat_map (on_line policy c.args.to.now.event.now) (batch_texts c.args.form
    (site_under policy c.args.to.now.schemes.now) command c.args.answers.now)))
    (sym (c.in-All.is ∙ ap All (sym c.deref.ensures))) c.push_ones.ensures
