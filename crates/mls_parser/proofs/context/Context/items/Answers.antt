use Rattle.std.proofs.Common.{rules, ◌≡◌, true, [], is_some}
use Rattle.mls_parser.specs.ReadList.{item_at}
use Rattle.mls_parser.proofs.ItemSteps.{items_next, item_less}
use Rattle.mls_parser.proofs.context.Context.items.Goals as goal

pub loop-items-preserved : goal.loop-items-preserved
loop-items-preserved c =
    let is = c.in_ok-item.ensures in
    let comma : is_some c.takes_sign.result ≡ true = search rules in
    items_next (item_at c.args.self.now c.args.attributes.now) [] c.args.reader.now c.loop-items.items.items c.loop-items.reader c.loop-items.invariant
    c.item.new.front.items c.item.new.reader is c.takes_sign.result c.takes_sign.new.self comma c.takes_sign.ensures.taken
    (λ at e. item_less c.args.self.now c.args.attributes.now c.loop-items.items.items c.loop-items.reader c.item.new.front.items c.item.new.reader c.takes_sign.new.self at is e)
