use Rattle.std.proofs.Common.{sym, ◌∙◌, unwrap_or}
use Rattle.mls_lattice.specs.Policy.{labels_of}
use Rattle.mls_queries.specs.Views.{no_place}
use Rattle.mls_queries.proofs.ViewsLemmas.{turned_out, turned_over}
use Rattle.mls_queries.proofs.views.turn.Goals as goal

pub returns-then-may_change : goal.returns-then-may_change
returns-then-may_change c = λ es e is.
    turned_out (labels_of c.args.policy.now) c.args.relation c.args.low
    (unwrap_or c.args.written.now no_place) c.args.cache.now c.in-Some.key.now c.in-Some.field-0-1.now c.in-Some.ensures es e is
    (sym c.may_change.ensures ∙ c.if-may_change.true) c.renew.new.cache (c.renew.ensures es e is)

pub returns-else-may_change : goal.returns-else-may_change
returns-else-may_change c = λ es e is.
    turned_over (labels_of c.args.policy.now) c.args.relation c.args.low
    (unwrap_or c.args.written.now no_place) c.args.cache.now c.in-Some.key.now c.in-Some.field-0-1.now c.in-Some.ensures es e is
    (sym c.may_change.ensures ∙ c.if-may_change.false) c.len-count.ensures.valid.0 c.promote-kept.new.self c.promote-kept.ensures.entries
