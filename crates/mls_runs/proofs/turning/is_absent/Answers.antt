use Rattle.std.proofs.Common.{sym, ◌∙◌, inl, inr}
use Rattle.mls_runs.proofs.TurningLemmas.{none_there, some_there}
use Rattle.mls_runs.proofs.turning.is_absent.Goals as goal

pub returns-in-Ok-clause-absent : goal.returns-in-Ok-clause-absent
returns-in-Ok-clause-absent g c = λ is.
    none_there ((g.H.Host.hosting c.args.host.now).shows c.args.path.now) c.in-Ok.files.log.items c.in-Ok.files.db.items c.in-Ok.ensures.shown (sym c.are_empty.ensures ∙ is)

pub returns-in-Ok-clause-there : goal.returns-in-Ok-clause-there
returns-in-Ok-clause-there g c = λ is.
    inl (
      c.in-Ok.files.log.items,
      c.in-Ok.files.db.items,
      c.in-Ok.ensures.shown,
      some_there c.in-Ok.files.log.items c.in-Ok.files.db.items (sym c.are_empty.ensures ∙ is),
    )

pub returns-in-Err-clause-there : goal.returns-in-Err-clause-there
returns-in-Err-clause-there g c = λ is. inr (_, c.in-Err.ensures.hidden)
