use Rattle.std.proofs.Common.{◌≡◌, ℕ, List, length, ap, subst, ◌∙◌, flat_map}
use Rattle.std.proofs.lemmas.Result.{IfOk-weaker}
use Rattle.mls_certcheck.specs.declared.flow.Line.{Line}
use Rattle.mls_labeller.specs.Flows.{body_lines}
use Rattle.mls_explain.specs.declared.step.Step.{Step}
use Rattle.mls_explain.specs.Steps.{steps_in, steps}
use Rattle.mls_explain.specs.Chains.{IsBroken}
use Rattle.mls_explain.specs.Search.{IsUnderway}
use Rattle.mls_explain.proofs.chain.search_of.Goals as goal

pub returns : goal.returns
returns c =
    let tx = c.args.tx.now in
    let lines = c.in_ok-lines.ensures in
    let vars = c.len.ensures ∙ ap length c.vars.ensures.vars in
    let all : c.in_ok-steps.steps.items ≡ steps tx =
    c.in_ok-steps.ensures ∙ (λ i. flat_map (λ l. steps_in (vars i) l.flow) ((c.deref.ensures.value ∙ lines) i)) in
    IfOk-weaker c.start.result _ _
    (λ s begun p.
    subst (λ (hi : ℕ). IsUnderway p tx (steps tx)
    (IsBroken hi (body_lines tx) c.args.broken) 0 s.tails.items s.left.items) c.hi.ensures.hi
    (subst (λ (ls : List Line). IsUnderway p tx (steps tx)
    (IsBroken c.hi.result ls c.args.broken) 0 s.tails.items s.left.items) (c.deref-3.ensures.value ∙ lines)
    (subst (λ (ss : List Step). IsUnderway p tx ss
    (IsBroken c.hi.result c.deref-3.result.now c.args.broken) 0 s.tails.items s.left.items) (c.deref-2.ensures.value
    ∙ all) (begun p tx))))
    c.start.ensures
