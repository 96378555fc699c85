use Rattle.std.proofs.Common.{◌≡◌, ◌++◌, OnOk, flat_map, sym, subst}
use Rattle.mls_machine.specs.declared.reply.Answer.TheVariants as answers
use Rattle.mls_machine.specs.Output.{on_line, answer_texts}
use Rattle.mls_machine.specs.Under.{site_under}
use Rattle.mls_machine.proofs.printing_batch.push_rows_of.Goals as goal

pub returns-in-View : goal.returns-in-View
returns-in-View c =
    let policy = c.args.to.now.policy.now in
    subst (λ one. OnOk c.push_found.result (c.push_found.new.text.items ≡ c.args.text.now.items
    ++ flat_map (on_line policy c.args.to.now.event.now) (answer_texts c.args.form
    (site_under policy c.args.to.now.schemes.now) one (answers.Rows c.args.rows.now)))) (sym c.in-View.is)
    c.push_found.ensures

pub returns-in-Expect : goal.returns-in-Expect
returns-in-Expect c =
    let policy = c.args.to.now.policy.now in
    subst (λ one. OnOk c.push_found-in-Expect.result (c.push_found-in-Expect.new.text.items ≡ c.args.text.now.items
    ++ flat_map (on_line policy c.args.to.now.event.now) (answer_texts c.args.form
    (site_under policy c.args.to.now.schemes.now) one (answers.Rows c.args.rows.now)))) (sym c.in-Expect.is)
    c.push_found-in-Expect.ensures
