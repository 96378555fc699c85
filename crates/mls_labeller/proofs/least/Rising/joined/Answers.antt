use Rattle.std.proofs.Common.{◌≡◌, ◌+◌, ◌∷◌, [], ◌++◌, take, sym, ap, subst, ◌∙◌}
use Rattle.std.proofs.lemmas.List.{take_more}
use Rattle.mls_lattice.specs.Lattice.{pair_of}
use Rattle.mls_certcheck.specs.Walk.{IsJoin}
use Rattle.mls_certcheck.proofs.LabelLemmas.{join_none, join_one, join_both}
use Rattle.mls_labeller.specs.Rising.{rows_of, claim_at}
use Rattle.mls_labeller.proofs.least.Rising.joined.Goals as goal

pub loop-source-init : goal.loop-source-init
loop-source-init c = join_none (claim_at c.args.self.now (rows_of c.args.labels.now)) _ c.lowest-label.ensures

pub loop-source-preserved : goal.loop-source-preserved
loop-source-preserved c =
    let at = claim_at c.args.self.now (rows_of c.args.labels.now) in
    let ss = c.args.sources.now in
    let i = c.loop-source.source-index in
    let s = c.source-item.result in
    let more : take (i + 1) ss ≡ take i ss ++ s ∷ [] = take_more ss i s c.loop-source-test.true
    ∙ ap (λ a. take i ss ++ a ∷ []) (sym c.source-item.is) in
    subst (λ l. IsJoin at l (pair_of c.join-label.result)) (sym more) (join_both at (take i ss)
    (s ∷ []) _ _ _ c.loop-source.invariant (join_one at s _ c.source.ensures) c.join-label.ensures)
