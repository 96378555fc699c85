use Rattle.std.proofs.Common.{◌<◌, length, sym, ap, subst, ◌∙◌, arith, true≢false}
use Rattle.mls_lattice.specs.Lattice.{Dominates}
use Rattle.mls_lattice.proofs.LatticeLemmas.{Dominates-trans}
use Rattle.mls_certcheck.specs.Rules.{after}
use Rattle.mls_certcheck.specs.declared.flow.Slot.TheVariants.{Variable}
use Rattle.mls_labeller.specs.Rising.{claim_at}
use Rattle.mls_labeller.proofs.least.Rising.keep.Goals as goal

pub raise-rose-requires-clause-due : goal.raise-rose-requires-clause-due
raise-rose-requires-clause-due c = λ other m.
    let i = c.loop-place.place in
    let within : i < length c.args.self.now.labeller.tx.now.vars = omega (
      arith,
      c.loop-place-test.true,
      c.len-place-end.ensures,
      ap length c.vars.ensures.vars,
    ) in
    let up = c.requires.due other m i within (λ e. true≢false (sym (c.is_it.ensures.1 e) ∙ c.if-not-is_it.true)) in
    subst (Dominates (after (claim_at c.args.self.now other) c.args.to i)) (sym c.held-low.ensures)
    (Dominates-trans _ _ _ up (c.loop-place.invariant.stands.below other m (Variable c.args.from i)))
