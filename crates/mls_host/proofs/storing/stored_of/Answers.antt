use Rattle.std.proofs.Common.{◌≡◌, rules, ◌++◌, ◌∷◌, [], sym, subst}
use Rattle.std.proofs.lemmas.Slice.Zip.{all_zipped_more}
use Rattle.mls_host.specs.Storing.{cert_named, IsStoredWith, AreStoredWith}
use Rattle.mls_host.proofs.storing.stored_of.Goals as goal

pub loop-tx-preserved : goal.loop-tx-preserved
loop-tx-preserved c =
    let more : c.push.new.self.items ≡ c.loop-tx.stored.items ++ c.in_ok-stored_with.field-0 ∷ [] = search rules in
    subst (AreStoredWith c.args.policy.now c.args.blocks.now (c.loop-tx.yielded ++ c.in-Some.tx ∷ [])) (sym more)
    (all_zipped_more (λ tx s. IsStoredWith c.args.policy.now
    (cert_named c.args.blocks.now tx.name) tx s) c.loop-tx.yielded c.loop-tx.stored.items c.in-Some.tx c.in_ok-stored_with.field-0
    c.loop-tx.invariant (search rules))
