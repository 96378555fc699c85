use Rattle.std.proofs.Common.{false, [], sym, subst}
use Rattle.mls_translang.specs.Tree.{Block, End}
use Rattle.mls_certcheck.specs.Meaning.{start}
use Rattle.mls_labeller.specs.Releases.{AreTold, Covers, Multiplies, HasAll}
use Rattle.mls_labeller.proofs.CountLemmas.{all_lists}
use Rattle.mls_labeller.proofs.told.ranges_of.Goals as goal

pub returns-clause-told : goal.returns-clause-told
returns-clause-told c =
    let tx = c.args.tx.now in
    let before = c.in_ok-ranges.ranges.vars.items in
    let w = c.in_ok-walked.walked in
    let covers = subst (λ (b : Block). Covers false before b w.ranges.vars.items w.told.items) c.body.ensures.body c.in_ok-walked.ensures.0 in
    subst (AreTold tx) (sym c.from.ensures) (λ ls schemes args db. (covers.runs ls schemes args []
    (start db) c.in_ok-ranges.ensures).1)

pub returns-clause-counted : goal.returns-clause-counted
returns-clause-counted c few policy schemes reader =
    let tx = c.args.tx.now in
    let w = c.in_ok-walked.walked in
    let counts = subst (λ (b : Block). Multiplies false b End w.told.items w.lists) c.body.ensures.body c.in_ok-walked.ensures.1 in
    let it = all_lists tx counts few policy schemes reader in
    (it.0, it.1, subst (λ told. HasAll policy schemes tx reader told it.0) (sym c.from.ensures) it.2)
