use Rattle.std.proofs.lemmas.Result.{IfOk-weaker}
use Rattle.mls_tables.proofs.ReadLemmas.{on_ok}
use Rattle.mls_tables.proofs.adopting.read_description.Goals as goal

pub returns-clause-described : goal.returns-clause-described
returns-clause-described g c clean = IfOk-weaker c.read_out.result _ _ (λ m says. says.0)
    (c.read_out.ensures.says clean)

pub returns-clause-read : goal.returns-clause-read
returns-clause-read g c clean = on_ok _ _ c.read_out.result (λ m says. says.1) (c.read_out.ensures.says clean)
