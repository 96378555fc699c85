use Rattle.std.proofs.Common.{sym, subst, MatchOption}
use Rattle.mls_fragments.specs.Again.{FindsHoldings}
use Rattle.mls_fragments.specs.Holdings.{IsTakenOf}
use Rattle.mls_command.proofs.machine.MachineHost.store.Goals as goal

-- before a run it keeps what the files held
pub returns-in-Ok-clause-kept : goal.returns-in-Ok-clause-kept
returns-in-Ok-clause-kept g c =
    subst (λ l. (g.B.Base.seen c.in-Ok.base).is_clean
    → IsTakenOf (λ held. MatchOption l (FindsHoldings g.O.Opens.image held)
    (λ left. MatchOption c.args.self.now.base ⊥ (λ base. g.L.Left.keeps left.value
    (g.O.Opens.was_open base.value) held))) c.args.policy.now c.args.file.now
    (g.B.Base.seen c.in-Ok.base).state.now)
    (sym c.in-None.is) c.in-Ok.ensures.held
