use Rattle.std.proofs.Common.{◌≡◌, rules, ◌++◌, ◌∷◌, [], take, get_or, sym, subst}
use Rattle.std.proofs.lemmas.List.{take_more}
use Rattle.std.proofs.lemmas.Slice.Zip.{all_zipped_more}
use Rattle.mls_command.specs.Certifying.{IsAnswer, AreAnswers}
use Rattle.mls_command.proofs.certifying.answers_of.Goals as goal

pub loop-tx-preserved : goal.loop-tx-preserved
loop-tx-preserved c =
    let policy = c.args.policy.now in
    let i = c.loop-tx.tx-index in
    let txs = c.args.txs.now in
    let tx = c.tx-item.result in
    let answer = c.in_ok-answer.answer in
    let before = c.loop-tx.answers.items in
    let after = c.push.new.self.items in
    let more : after ≡ before ++ answer ∷ [] = search rules in
    let grown = all_zipped_more (IsAnswer policy) (take i txs) before (get_or txs i tx) answer c.loop-tx.invariant
    (search rules) in
    subst (λ l. AreAnswers policy l after) (sym (take_more txs i tx c.loop-tx-test.true))
    (subst (AreAnswers policy (take i txs ++ get_or txs i tx ∷ [])) (sym more) grown)
