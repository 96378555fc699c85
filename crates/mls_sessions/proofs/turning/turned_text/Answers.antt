use Rattle.std.proofs.Common.{sym, ap, ◌∙◌, length}
use Rattle.std.proofs.lemmas.Result.{IfOk-weaker}
use Rattle.mls_machine.specs.Output.{printed}
use Rattle.mls_machine.specs.Turning.{turn_lines}
use Rattle.mls_sessions.specs.Turning.{turned_text}
use Rattle.mls_sessions.specs.World.{entries_in}
use Rattle.mls_sessions.proofs.TurningLemmas.{seen_text}
use Rattle.mls_sessions.proofs.turning.turned_text.Goals as goal

pub returns-in_ok-entries-in-None : goal.returns-in_ok-entries-in-None
returns-in_ok-entries-in-None c =
    let p = c.args.policy.now in
    let es = entries_in (length p.labels) c.args.strings.now in
    IfOk-weaker c.turn_bytes.result _ _
    (λ v h. h ∙ ap (λ x. printed (turn_lines p x)) (c.deref.ensures.value ∙ c.in_ok-entries-in-None.ensures.exact)
    ∙ ap (λ r. turned_text p r es) (sym c.in-None.is))
    c.turn_bytes.ensures

pub returns-in_ok-entries-in-Some : goal.returns-in_ok-entries-in-Some
returns-in_ok-entries-in-Some c =
    let p = c.args.policy.now in
    let es = entries_in (length p.labels) c.args.strings.now in
    IfOk-weaker c.turn_bytes-in-Some.result _ _
    (λ v h. h ∙ ap (λ x. printed (turn_lines p x)) (c.deref-in-Some.ensures.value
    ∙ c.in_ok-entries-in-Some.ensures.exact) ∙ seen_text p c.in-Some.label es ∙ ap (λ r. turned_text p r es)
    (sym c.in-Some.is))
    c.turn_bytes-in-Some.ensures
