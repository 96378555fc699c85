use Rattle.std.proofs.Common.{◌∷◌, length, replicate, refl, sym, ap, subst, ◌∙◌}
use Rattle.std.specs.List.{AllByRecursion}
use Rattle.mls_labeller.specs.Flows.{IsBounded}
use Rattle.mls_labeller.specs.Rising.{rows_of, claim_at, row_count, HasTargets, Stands}
use Rattle.mls_labeller.proofs.FlowLemmas.{body_bounded}
use Rattle.mls_labeller.proofs.SlotLemmas.{lines_have_targets}
use Rattle.mls_labeller.proofs.RiseLemmas.{lowest_stands, stands_least}
use Rattle.mls_labeller.proofs.least.Rising.least.Goals as goal

pub loop-labels-init : goal.loop-labels-init
loop-labels-init c =
    let k = c.args.self.now in
    let l = c.lowest.result in
    let vars = c.len.ensures ∙ ap length c.vars.ensures.vars in
    let rows = c.in_ok-labels.ensures ∙ (λ t. replicate (c.statements.ensures t) l
    ∷ replicate (row_count k.version (c.statements.ensures t)) (replicate (vars t) l)) in
    subst (Stands k) (sym rows) (lowest_stands k l c.lowest.ensures)

pub round-requires-clause-targets : goal.round-requires-clause-targets
round-requires-clause-targets c =
    let tx = c.args.self.now.labeller.tx.now in
    subst (AllByRecursion (λ line. HasTargets tx line.flow)) (sym c.requires)
    (lines_have_targets tx c.vars.ensures.valid)

pub round-requires-clause-due : goal.round-requires-clause-due
round-requires-clause-due c = λ other m.
    let that = claim_at c.args.self.now other in
    subst (AllByRecursion (λ line. IsBounded that line.flow)) (sym c.requires) (body_bounded that m.bounds)

pub returns-then-not-round : goal.returns-then-not-round
returns-then-not-round c =
    let k = c.args.self.now in
    let x = rows_of c.round.new.labels in
    stands_least k x c.if-not-round.ensures.stands
    (subst (AllByRecursion (λ line. IsBounded (claim_at k x) line.flow)) c.requires
    (c.if-not-round.ensures.still refl).1)
