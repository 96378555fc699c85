use Rattle.std.proofs.Common.{◌∙◌, Bool, List, ap}
use Rattle.std.proofs.lemmas.Result.{IfOk-weaker}
use Rattle.mls_filterview.specs.Subsumption.{is_max_among, flagged}
use Rattle.mls_filterview.proofs.EntityLemmas.{flags, flagged_by, tuples_of}
use Rattle.mls_filterview.proofs.maximal.maximal_tuples.Goals as goal

pub returns : goal.returns
returns c =
    let rows = c.args.rows.items in
    let set = c.deref-2.ensures.value ∙ c.in_ok-flags.ensures ∙ ap flags c.deref.ensures.value in
    IfOk-weaker c.flagged.result _ _ (λ v e.
    e ∙ ap (λ (bs : List Bool). tuples_of (flagged bs rows)) set ∙ ap tuples_of
    (flagged_by (is_max_among rows) rows)) c.flagged.ensures
