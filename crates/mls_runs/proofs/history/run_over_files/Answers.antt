use Rattle.std.proofs.Common.{[], None, refl, sym, subst}
use Rattle.std.proofs.KnownBytes.{Appends-nil}
use Rattle.sqlite.specs.Files.{image_of}
use Rattle.mls_tables.specs.Store.{IsClean}
use Rattle.mls_fragments.specs.Again.{FindsHoldings}
use Rattle.mls_fragments.specs.Based.{state_of}
use Rattle.mls_fragments.proofs.HoldingsLemmas.{base_is_taken}
use Rattle.mls_host.specs.Hosting.{IsAppended}
use Rattle.mls_runs.specs.Running.{IsRun}
use Rattle.mls_certcheck.specs.Site.{site_of}
use Rattle.mls_runs.specs.History.{run_of, BeginsIn, IsUnclosedAfter}
use Rattle.mls_runs.proofs.HistoryLemmas.{ready_run, run_alone, closed_whole, closed_broken}
use Rattle.mls_runs.proofs.history.run_over_files.Goals as goal

pub returns-in-Err-clause-broken : goal.returns-in-Err-clause-broken
returns-in-Err-clause-broken g c = record {
  was = c.args.files;
  runs = (Appends-nil _, refl);
  refused =
      c.in-Err.ensures.refused;
}

pub returns-in-Ok-close_files-clause-whole : goal.returns-in-Ok-close_files-clause-whole
returns-in-Ok-close_files-clause-whole g c =
    let policy = c.args.policy.now in
    let file = c.args.file.now in
    let at = site_of policy file.schemes c.args.run.stored in
    let outcome = c.run_over_base-outcome.result.0 in
    let wrote = IsAppended g.W.Write.contents c.args.out.now c.run_over_base-outcome.new.out in
    let first = (state_of c.in-Ok.base).now in
    let left = (state_of c.run_over_base-outcome.result.1).now in
    let begins : IsClean c.in-Ok.base.tables → BeginsIn g.D.Disk policy file c.args.files first
    = λ base. (
      c.in-Ok.ensures.clean base,
      base_is_taken
          (FindsHoldings (image_of g.D.Disk c.args.files)) policy file c.in-Ok.base (c.in-Ok.ensures.over base),
    ) in
    let run : IsClean c.run_over_base-outcome.result.1.tables
    → IsRun at c.args.audience.now c.args.run.events.items wrote outcome first left
    = λ was. subst (λ o. IsRun at o c.args.run.events.items wrote outcome first left) c.same_audience-audience.ensures
    (subst (λ es. IsRun at c.same_audience-audience.result es wrote outcome first left) c.deref.ensures.value
    (c.run_over_base-outcome.ensures.run was)) in
    closed_whole g.D.Disk policy file c.args.audience.now c.requires.distinct c.args.files c.in-Ok-close_files.files c.args.run.stored c.args.run.events.items wrote first left
    (ready_run policy file.schemes c.args.run c.requires.prepared) c.in-Ok.ensures.sound outcome c.ended.result c.ended.ensures (λ clean.
    let was = c.in-Ok-close_files.ensures.clean clean in
    let kept = c.in-Ok-close_files.ensures.kept was in
    ((begins (c.run_over_base-outcome.ensures.leaves.clean was), run was), (kept.row, kept.kept clean)))

pub returns-in-Ok-close_files-clause-broken : goal.returns-in-Ok-close_files-clause-broken
returns-in-Ok-close_files-clause-broken g c =
    let policy = c.args.policy.now in
    let file = c.args.file.now in
    let at = site_of policy file.schemes c.args.run.stored in
    let outcome = c.run_over_base-outcome.result.0 in
    let wrote = IsAppended g.W.Write.contents c.args.out.now c.run_over_base-outcome.new.out in
    let first = (state_of c.in-Ok.base).now in
    let left = (state_of c.run_over_base-outcome.result.1).now in
    let begins : IsClean c.in-Ok.base.tables → BeginsIn g.D.Disk policy file c.args.files first
    = λ base. (
      c.in-Ok.ensures.clean base,
      base_is_taken
          (FindsHoldings (image_of g.D.Disk c.args.files)) policy file c.in-Ok.base (c.in-Ok.ensures.over base),
    ) in
    let run : IsClean c.run_over_base-outcome.result.1.tables
    → IsRun at c.args.audience.now c.args.run.events.items wrote outcome first left
    = λ was. subst (λ o. IsRun at o c.args.run.events.items wrote outcome first left) c.same_audience-audience.ensures
    (subst (λ es. IsRun at c.same_audience-audience.result es wrote outcome first left) c.deref.ensures.value
    (c.run_over_base-outcome.ensures.run was)) in
    closed_broken g.D.Disk policy file c.args.audience.now c.requires.distinct c.args.files c.in-Ok-close_files.files c.args.run.stored c.args.run.events.items wrote first left
    (ready_run policy file.schemes c.args.run c.requires.prepared) c.in-Ok.ensures.sound None outcome c.ended.result c.ended.ensures (λ clean.
    let was = c.in-Ok-close_files.ensures.clean clean in
    let kept = c.in-Ok-close_files.ensures.kept was in
    ((begins (c.run_over_base-outcome.ensures.leaves.clean was), run was), (kept.row, kept.kept clean)))

pub returns-clause-broken : goal.returns-clause-broken
returns-clause-broken g c =
    let policy = c.args.policy.now in
    let file = c.args.file.now in
    let at = site_of policy file.schemes c.args.run.stored in
    let outcome = c.run_over_base-outcome.result.0 in
    let wrote = IsAppended g.W.Write.contents c.args.out.now c.run_over_base-outcome.new.out in
    let first = (state_of c.in-Ok.base).now in
    let left = (state_of c.run_over_base-outcome.result.1).now in
    let unclosed = c.in-Err-close_files.ensures.unclosed in
    let run : IsClean c.run_over_base-outcome.result.1.tables
    → IsRun at c.args.audience.now c.args.run.events.items wrote outcome first left
    = λ was. subst (λ o. IsRun at o c.args.run.events.items wrote outcome first left) c.same_audience-audience.ensures
    (subst (λ es. IsRun at c.same_audience-audience.result es wrote outcome first left) c.deref.ensures.value
    (c.run_over_base-outcome.ensures.run was)) in
    let begins : IsClean c.in-Ok.base.tables → BeginsIn g.D.Disk policy file c.args.files first
    = λ base. (
      c.in-Ok.ensures.clean base,
      base_is_taken
          (FindsHoldings (image_of g.D.Disk c.args.files)) policy file c.in-Ok.base (c.in-Ok.ensures.over base),
    ) in
    subst (IsUnclosedAfter g.D.Disk policy file c.args.audience.now c.args.files [] (run_of policy file.schemes c.args.run) wrote c.in-Err-close_files.files)
    (sym c.of-unclosed.ensures) (record {
      run = λ clean.
          let was = unclosed.clean clean in (
            outcome,
            run_alone g.D.Disk policy file c.args.audience.now c.requires.distinct c.args.files c.in-Err-close_files.files c.args.run.stored c.args.run.events.items wrote first left
                (ready_run policy file.schemes c.args.run c.requires.prepared) c.in-Ok.ensures.sound outcome
                (begins (c.run_over_base-outcome.ensures.leaves.clean was), run was),
          );
      files = unclosed;
    })
