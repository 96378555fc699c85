use Rattle.std.proofs.Common.{◌++◌, ◌∙◌, ap, string_bytes}
use Rattle.mls_explain.specs.Telling.{variable_lines, statement_line}
use Rattle.mls_explain.proofs.TellingLemmas.{joined, each_more, each_over}
use Rattle.mls_explain.proofs.teller.Teller.statements_to.Goals as goal

pub loop-place-preserved : goal.loop-place-preserved
loop-place-preserved c =
    let p = c.args.self.now.policy.now in
    let vars = c.args.self.now.tx.now.vars in
    let row = ap (λ r. string_bytes c.statement_labels_to.new.text ++ variable_lines p vars r) c.row_after.ensures in
    each_more (statement_line p vars c.args.rows.now) c.args.labels.now c.loop-place.place
    (record { rank = 0; cats = 0 }) _ (string_bytes c.loop-place.text)
    c.loop-place.invariant (string_bytes c.variables_to.new.text) c.loop-place-test.true
    (joined _ _ _ c.in_ok-statement_labels_to.ensures (c.in_ok-variables_to.ensures ∙ row))

pub returns : goal.returns
returns c =
    each_over (statement_line c.args.self.now.policy.now c.args.self.now.tx.now.vars c.args.rows.now) c.args.labels.now c.loop-place.place (record { rank = 0; cats = 0 }) _ (string_bytes c.loop-place.text)
    c.loop-place.invariant c.loop-place-test.false
