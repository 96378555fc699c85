use Rattle.std.proofs.Common.{rules, ◌≡◌, ◌++◌, subst, OnOk, flat_map}
use Rattle.mls_machine.specs.Output.{on_line, table_title, table_row}
use Rattle.mls_machine.proofs.TableSteps.{table_parts}
use Rattle.mls_machine.proofs.table.push_table.Goals as goal

pub returns : goal.returns
returns c =
    let p = c.args.to.now.policy.now in
    let what = c.args.what.now in
    table_parts p c.args.to.now.event.now (table_title what.policy.now what.scheme.now what.label what.query.now) what.scheme.now c.args.rows.now c.in_ok-names.names.items c.in_ok-widths.widths.items (search rules) (search rules)
    c.args.text.now.items c.push_title_line.new.text.items c.push_names_line.new.text.items c.push_rule_line.new.text.items c.push_tuples.new.text.items
    (search rules) (search rules) (search rules) c.push_tuples.result
    (subst
    (λ w. OnOk c.push_tuples.result (c.push_tuples.new.text.items ≡ c.push_rule_line.new.text.items
    ++ flat_map (λ t. on_line p c.args.to.now.event.now (table_row p w t)) c.args.rows.now))
    c.deref-5.ensures.value c.push_tuples.ensures)
