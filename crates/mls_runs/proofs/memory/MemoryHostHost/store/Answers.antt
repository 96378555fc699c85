use Rattle.std.proofs.Common.{Some, not, refl, ap, ◌∙◌, subst, sym, MatchOption}
use Rattle.sqlite.specs.Held.{state}
use Rattle.sqlite.specs.Steps.{over_memory}
use Rattle.sqlite.proofs.Callers.{memory_is_clean}
use Rattle.mls_fragments.specs.Holdings.{HasHoldings}
use Rattle.mls_runs.specs.Memory.{shown, IsUnopenedFor}
use Rattle.mls_runs.proofs.MemoryLemmas.{barred, handed_back, same_held}
use Rattle.mls_runs.proofs.memory.MemoryHostHost.store.Goals as goal

pub returns-in-Ok-clause-kept : goal.returns-in-Ok-clause-kept
returns-in-Ok-clause-kept c = λ clean.
    let over = (c.in-Ok.ensures.over clean).1 in record {
      had = over.had;
      was = subst (λ o. MatchOption o ⊥ (λ conn. HasHoldings
          (state over_memory conn).now over.had)) c.in-Some.ensures.value over.was;
      row = over.row;
      takes = over.takes;
    }

pub returns-in-Err-clause-barred : goal.returns-in-Err-clause-barred
returns-in-Err-clause-barred c =
    let old = state over_memory c.in-Some.conn in
    let new = state over_memory c.in-Err.conn in
    let back = c.in-Err.ensures.refused.refused (memory_is_clean c.in-Err.conn) in
    let settled = c.is_autocommit-in-Err.ensures.settled (c.is_autocommit-in-Err.ensures.value
    ∙ ap not (back.mode refl)) refl in
    let was = c.is_autocommit.ensures.settled c.if-not-is_autocommit.false refl in
    subst (IsUnopenedFor c.args.policy.now c.args.file.now (Some (shown c.in-Err.conn))) (sym c.in_memory_fault.ensures)
    (barred c.args.policy.now c.args.file.now new.in_transaction old.now new.now
    (handed_back old new back refl settled was) c.in-Err.fault
    (c.in-Err.ensures.refused.texts (memory_is_clean c.in-Err.conn)) (c.in-Err.ensures.refused.bad
    (memory_is_clean c.in-Err.conn)))

pub returns-in-Err-clause-same : goal.returns-in-Err-clause-same
returns-in-Err-clause-same c =
    let old = state over_memory c.in-Some.conn in
    let new = state over_memory c.in-Err.conn in
    let back = c.in-Err.ensures.refused.refused (memory_is_clean c.in-Err.conn) in
    let settled = c.is_autocommit-in-Err.ensures.settled (c.is_autocommit-in-Err.ensures.value
    ∙ ap not (back.mode refl)) refl in
    let was = c.is_autocommit.ensures.settled c.if-not-is_autocommit.false refl in
    record {
      kept = λ path.
          same_held (λ conn. (state over_memory conn).now) c.args.self.now.store c.in-Some.conn c.in-Err.conn c.in-Some.ensures.value (handed_back old new back refl settled was);
      asked = λ m. (λ k. k, λ k. k);
      changed = λ m. (λ k. k, λ k. k);
    }
