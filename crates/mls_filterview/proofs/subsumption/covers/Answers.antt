use Rattle.std.proofs.Common.{sym, ◌∙◌, inl, rules}
use Rattle.mls_filterview.proofs.SubsumptionLemmas.{covers-from}
use Rattle.mls_filterview.proofs.SubsumptionSteps.{covers-other}
use Rattle.mls_filterview.proofs.subsumption.covers.Goals as goal

pub returns-then-same : goal.returns-then-same
returns-then-same c = sym (covers-from c.args.left.now c.args.right.now (inl (search rules)))

pub returns-then-not-is_null : goal.returns-then-not-is_null
returns-then-not-is_null c = search rules ∙ sym (covers-other c.args.left.now c.args.right.now (search rules)
    (search rules))
