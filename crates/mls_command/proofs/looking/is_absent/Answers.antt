use Rattle.std.proofs.Common.{◌≡◌, ℕ, List, refl, sym, ◌∙◌, ap}
use Rattle.mls_runs.proofs.TurningLemmas.{none_there}
use Rattle.mls_command.specs.Looking.{makes_store}
use Rattle.mls_command.proofs.looking.is_absent.Goals as goal

pub returns-in-Turn : goal.returns-in-Turn
returns-in-Turn c =
    λ is.
    let empty = none_there (λ (log db : List ℕ). (c.args.files.now.log.items ≡ log)
    × (c.args.files.now.db.items ≡ db)) c.args.files.now.log.items c.args.files.now.db.items (refl, refl)
    (sym c.are_empty.ensures ∙ is) in
    (ap makes_store c.in-Turn.is, empty.0, empty.1)
