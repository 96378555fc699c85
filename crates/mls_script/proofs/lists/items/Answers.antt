use Rattle.std.proofs.Common.{rules, ◌≡◌, true, [], is_some, option_map}
use Rattle.mls_parser.proofs.ItemSteps.{items_next}
use Rattle.mls_script.specs.ReadList.{item_at}
use Rattle.mls_script.proofs.ItemSteps.{item_less}
use Rattle.mls_script.proofs.lists.items.Goals as goal

pub loop-items-preserved : goal.loop-items-preserved
loop-items-preserved c =
    let attributes = option_map (λ a. a.now) c.args.attributes in
    let is = c.in_ok-item.ensures in
    let comma : is_some c.takes_sign.result ≡ true = search rules in
    items_next (item_at attributes) [] c.args.reader.now c.loop-items.items.items c.loop-items.reader c.loop-items.invariant
    c.item.new.front.items c.item.new.reader is c.takes_sign.result c.takes_sign.new.self comma c.takes_sign.ensures.taken
    (λ at e. item_less attributes c.loop-items.items.items c.loop-items.reader c.item.new.front.items c.item.new.reader c.takes_sign.new.self at is e)
