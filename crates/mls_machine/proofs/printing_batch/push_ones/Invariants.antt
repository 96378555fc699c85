use Rattle.std.proofs.Common.{◌≡◌, ◌++◌, drop}
use Rattle.mls_machine.specs.Under.{site_under}
use Rattle.mls_machine.proofs.PrintingSteps.{on_answers}
use Rattle.mls_machine.proofs.printing_batch.push_ones.Given as goal

abbrev pub invariant-loop-place : goal.invariant-loop-place
invariant-loop-place l =
    l.text.items ++ on_answers (site_under l.to.policy.now l.to.schemes.now) l.to.event.now l.form
    (drop l.place l.batch) (drop l.place l.answers)
    ≡ l.initial.text.items ++ on_answers (site_under l.to.policy.now l.to.schemes.now) l.to.event.now l.form l.batch l.answers
