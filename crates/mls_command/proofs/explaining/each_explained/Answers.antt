use Rattle.std.proofs.Common.{◌≡◌, rules, ◌++◌, ◌∷◌, [], take, get_or, sym, subst}
use Rattle.std.proofs.lemmas.List.{take_more}
use Rattle.std.proofs.lemmas.Slice.Zip.{all_zipped_more}
use Rattle.mls_explain.specs.Telling.{IsExplanation}
use Rattle.mls_command.specs.Explaining.{AreExplained}
use Rattle.mls_command.proofs.explaining.each_explained.Goals as goal

pub loop-tx-preserved : goal.loop-tx-preserved
loop-tx-preserved c =
    let policy = c.args.policy.now in
    let schemes = c.args.schemes.now in
    let i = c.loop-tx.tx-index in
    let txs = c.args.txs.now in
    let tx = c.tx-item.result in
    let explained = c.in_ok-explained.explained in
    let before = c.loop-tx.told.items in
    let after = c.push.new.self.items in
    let more : after ≡ before ++ explained ∷ [] = search rules in
    let grown = all_zipped_more (IsExplanation policy schemes) (take i txs) before
    (get_or txs i tx) explained c.loop-tx.invariant (search rules) in
    subst (λ l. AreExplained policy schemes l after) (sym (take_more txs i tx c.loop-tx-test.true))
    (subst (AreExplained policy schemes (take i txs ++ get_or txs i tx ∷ [])) (sym more) grown)
