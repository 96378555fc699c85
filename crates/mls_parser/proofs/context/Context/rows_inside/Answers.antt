use Rattle.std.proofs.Common.{List, ◌∷◌, ap, subst, ◌∙◌, take_all}
use Rattle.mls_translang.specs.declared.row.LoopRow.{LoopRow}
use Rattle.mls_translang.specs.Tokens.{Context}
use Rattle.mls_parser.specs.Names.{IsContext}
use Rattle.mls_parser.proofs.LoopLemmas.{copy_more}
use Rattle.mls_parser.proofs.ContextLemmas.{context_more}
use Rattle.mls_parser.proofs.context.Context.rows_inside.Goals as goal

pub loop-around-preserved : goal.loop-around-preserved
loop-around-preserved c =
    copy_more c.self.inside.rows.now c.loop-around.around-index c.around-item.result c.loop-around-test.true c.around-item.is
    (record { name = c.args.row.now; relation = c.args.relation })
    c.loop-around.rows.items c.push-in-loop-around.new.self.items c.in_ok-copy.field-0 c.loop-around.invariant c.in_ok-copy.ensures c.in_ok-push-2.ensures.items

pub returns-clause-rows : goal.returns-clause-rows
returns-clause-rows c =
    c.loop-around.invariant
    ∙ ap (λ (rows : List LoopRow). record { name = c.args.row.now; relation = c.args.relation } ∷ rows)
    (take_all c.loop-around.around-index c.self.inside.rows.now c.loop-around-test.false
    ∙ ap (λ (p : Context). p.scope.rows) c.self.view_is)

pub returns-clause-place : goal.returns-clause-place
returns-clause-place c =
    context_more c.args.self.now c.loop-around.rows.items c.args.row.now c.args.relation
    (subst IsContext c.self.view_is c.self.invariant) c.requires.room c.requires.known (returns-clause-rows c)
