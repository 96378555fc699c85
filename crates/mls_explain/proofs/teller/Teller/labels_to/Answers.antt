use Rattle.std.proofs.Common.{◌≡◌, [], ◌++◌, ◌∙◌, sym, ap, subst, codes, string_bytes, OnOk}
use Rattle.std.proofs.lemmas.Result.{on_ok_weaker}
use Rattle.mls_certcheck.specs.declared.cert.Certificate.{Certificate}
use Rattle.mls_explain.specs.Telling.{variable_lines, statement_lines, label_lines}
use Rattle.mls_explain.proofs.TellingLemmas.{joined}
use Rattle.mls_explain.proofs.teller.Teller.labels_to.Goals as goal

pub returns-in_ok-variables_to-in-One : goal.returns-in_ok-variables_to-in-One
returns-in_ok-variables_to-in-One c =
    let p = c.args.self.now.policy.now in
    let vars = c.args.self.now.tx.now.vars in
    let first = c.in_ok-variables_to-in-One.ensures ∙ ap (λ ls. string_bytes c.push_str.new.self
    ++ variable_lines p vars ls) c.deref.ensures in
    let rows = ap (λ ls. string_bytes c.variables_to.new.text ++ statement_lines p vars [] ls) c.deref-in-One.ensures in
    subst (λ (x : Certificate). OnOk c.statements_to.result (string_bytes c.statements_to.new.text
    ≡ string_bytes c.args.text.now ++ label_lines p vars x)) (sym c.in-One.is)
    (on_ok_weaker c.statements_to.result (λ told. joined _
    (codes "labels, version 1:\n") _ c.in_ok-push_str-in-One.ensures.bytes
    (joined (string_bytes c.push_str.new.self) _ _ first (told ∙ rows))) c.statements_to.ensures)

pub returns-in_ok-push_str-in-Two : goal.returns-in_ok-push_str-in-Two
returns-in_ok-push_str-in-Two c =
    let p = c.args.self.now.policy.now in
    let vars = c.args.self.now.tx.now.vars in
    let front = string_bytes c.push_str-in-Two.new.self in
    subst (λ (x : Certificate). OnOk c.statements_to-in-Two.result (string_bytes c.statements_to-in-Two.new.text
    ≡ string_bytes c.args.text.now ++ label_lines p vars x)) (sym c.in-Two.is)
    (on_ok_weaker c.statements_to-in-Two.result (λ told. joined _ (codes "labels, version 2:\n")
    (statement_lines p vars c.in-Two.cert.rows c.in-Two.cert.pc_labels) c.in_ok-push_str-in-Two.ensures.bytes
    (told ∙ (λ i. front ++ statement_lines p vars (c.deref-in-Two.ensures i)
    (c.deref-in-Two-2.ensures i)))) c.statements_to-in-Two.ensures)
