use Rattle.std.proofs.Common.{ℕ, ◌<◌, length, map, sym, ap, ◌∙◌, arith}
use Rattle.std.proofs.lemmas.List.{get_or-map, length-map}
use Rattle.mls_translang.specs.Tree.{Expr}
use Rattle.mls_certcheck.specs.Lines.{names}
use Rattle.mls_certcheck.specs.Loops.{loops_of}
use Rattle.mls_certcheck.specs.Walk.{claim_of}
use Rattle.mls_certcheck.proofs.LabelLemmas.{join_next}
use Rattle.mls_certcheck.proofs.checker.Checker.new_names.Goals as goal

pub loop-set-preserved : goal.loop-set-preserved
loop-set-preserved c =
    let h = c.args.here.now in
    let sets = c.args.sets.now in
    let i = c.loop-set.set-index in
    let set = c.set-item.result in
    let values = map (λ (s : ℕ × Expr). s.1) sets in
    let within : i < length values = omega (arith, length-map sets (λ (s : ℕ × Expr). s.1), c.loop-set-test.true) in
    join_next (claim_of c.args.self.now) (names h.before (loops_of h.loops)) values i set.1 _ _ _ within
    (ap (λ (s : ℕ × Expr). s.1) c.set-item.is
    ∙ sym (get_or-map (λ (s : ℕ × Expr). s.1) sets i set set.1 c.loop-set-test.true)) c.loop-set.invariant c.label.ensures c.join-bound.ensures
