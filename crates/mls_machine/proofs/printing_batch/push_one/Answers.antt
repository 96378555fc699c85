use Rattle.std.proofs.Common.{◌≡◌, ◌++◌, OnOk, flat_map, sym, subst}
use Rattle.mls_machine.specs.Output.{on_line, answer_texts}
use Rattle.mls_machine.specs.Under.{site_under}
use Rattle.mls_machine.proofs.PrintingSteps.{outcome_more}
use Rattle.mls_machine.proofs.printing_batch.push_one.Goals as goal

pub returns-in-Rows : goal.returns-in-Rows
returns-in-Rows c =
    let policy = c.args.to.now.policy.now in
    subst (λ answer. OnOk c.push_rows_of.result (c.push_rows_of.new.text.items ≡ c.args.text.now.items
    ++ flat_map (on_line policy c.args.to.now.event.now) (answer_texts c.args.form
    (site_under policy c.args.to.now.schemes.now) c.args.one.now answer))) (sym c.in-Rows.is) c.push_rows_of.ensures

pub returns-in-Became : goal.returns-in-Became
returns-in-Became c =
    outcome_more (site_under c.args.to.now.policy.now c.args.to.now.schemes.now) c.args.to.now.event.now c.args.form
    c.args.one.now c.args.answer.now c.in-Became.outcome c.in-Became.is c.args.text.now.items
    c.push_outcome.new.text.items c.push_outcome.result c.push_outcome.ensures
