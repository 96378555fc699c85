use Rattle.std.proofs.Common.{rules, ◌≡◌, true, [], is_some}
use Rattle.mls_parser.proofs.ItemSteps.{items_next}
use Rattle.mls_script.specs.ReadList.{set_at}
use Rattle.mls_script.proofs.ItemSteps.{set_less}
use Rattle.mls_script.proofs.lists.new_values.Goals as goal

pub loop-sets-preserved : goal.loop-sets-preserved
loop-sets-preserved c =
    let is = c.in_ok-set.ensures in
    let comma : is_some c.takes_sign.result ≡ true = search rules in
    items_next (set_at c.args.scheme.now) [] c.args.reader.now c.loop-sets.sets.items c.loop-sets.reader c.loop-sets.invariant
    c.set.new.front.items c.set.new.reader is c.takes_sign.result c.takes_sign.new.self comma c.takes_sign.ensures.taken
    (λ at e. set_less c.args.scheme.now c.loop-sets.sets.items c.loop-sets.reader c.set.new.front.items c.set.new.reader c.takes_sign.new.self at is e)
