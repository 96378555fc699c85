use Rattle.std.proofs.Common.{sym, subst, ◌∙◌}
use Rattle.std.proofs.lemmas.Result.{IfOk-weaker}
use Rattle.mls_tables.specs.Statements.{IsSchemaReady}
use Rattle.mls_tables.proofs.ReadLemmas.{ok_with}
use Rattle.mls_tables.proofs.adopting.read_store.Goals as goal

pub returns-clause-adopted : goal.returns-clause-adopted
returns-clause-adopted g c clean =
    let out = c.read_out.ensures in
    let meta = c.requires.described (out.reading.clean clean) in
    IfOk-weaker c.read_out.result _ _ (λ rows it. record {
      settled = record {
        is_open = it.1.1.is_open;
        mode = it.1.1.mode;
        ready = subst IsSchemaReady (sym it.1.1.same) (it.0, (it.1.0.0.0, (it.1.0.0.1.0, (it.1.0.0.1.1, meta))));
        settled = it.1.1.same ∙ sym it.1.1.committed;
      };
      same = it.1.1.same;
      all = it.1.0.1;
    }) (ok_with _ _ c.read_out.result out.reading.schema (out.says clean))
