use Rattle.std.proofs.Common.{◌≡◌, rules}
use Rattle.std.proofs.lemmas.List.Elements.{same_from_all_zip}
use Rattle.mls_explain.proofs.chain.Chain.of.Goals as goal

pub returns : goal.returns
returns c =
    let same : c.in_ok-slots.slots ≡ c.args.tail.now.slots = search (rules, same_from_all_zip) in
    (λ i. record { root = c.args.tail.now.root; slots = same i })
