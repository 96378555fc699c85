use Rattle.std.proofs.Common.{◌≡◌, ◌||◌, length, sym, ◌∙◌, arith}
use Rattle.mls_lattice.specs.Lattice.{◌⊑◌}
use Rattle.mls_certcheck.specs.Rules.{after}
use Rattle.mls_certcheck.specs.Checks.{is_target}
use Rattle.mls_certcheck.specs.Walk.{claim_of}
use Rattle.mls_certcheck.proofs.CheckLemmas.{below_fails}
use Rattle.mls_certcheck.proofs.checker.Checker.keeps.Goals as goal

pub returns-then-not-kept : goal.returns-then-not-kept
returns-then-not-kept c =
    let k = claim_of c.args.self.now in
    let count : c.len-place-end.result ≡ length k.tx.vars = cc in
    sym (below_fails (length k.tx.vars) (λ x. is_target c.args.but x
    || after k c.args.from x ⊑ after k c.args.to x) c.loop-place.place
    (omega (arith, count, c.loop-place-test.true)) (sym c.kept.ensures ∙ c.if-not-kept.true))
