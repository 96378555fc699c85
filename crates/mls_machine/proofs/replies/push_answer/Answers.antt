use Rattle.std.proofs.Common.{◌≡◌, ◌++◌, OnOk, flat_map, sym, subst}
use Rattle.mls_machine.specs.Output.{on_line, rows_texts}
use Rattle.mls_machine.specs.Under.{site_under}
use Rattle.mls_machine.proofs.replies.push_answer.Goals as goal

pub returns-in-View : goal.returns-in-View
returns-in-View c =
    let policy = c.args.to.now.policy.now in
    subst (λ command. OnOk c.push_found.result (c.push_found.new.text.items ≡ c.args.text.now.items
    ++ flat_map (on_line policy c.args.to.now.event.now) (rows_texts c.args.form
    (site_under policy c.args.to.now.schemes.now) command c.args.rows.now))) (sym c.in-View.is) c.push_found.ensures
