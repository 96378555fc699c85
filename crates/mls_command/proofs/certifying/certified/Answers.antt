use Rattle.std.proofs.Common.{sym, subst}
use Rattle.std.specs.List.{AllByRecursion}
use Rattle.mls_command.specs.Certifying.{HaveText}
use Rattle.mls_command.proofs.CertifyingLemmas.{answers_have_text}
use Rattle.mls_command.proofs.certifying.certified.Goals as goal

pub blocks_of-requires : goal.blocks_of-requires
blocks_of-requires c = subst (AllByRecursion (λ a. HaveText a.labels)) (sym c.deref.ensures.value)
    (answers_have_text c.args.policy.now c.args.txs.now _ c.in_ok-answers.ensures)
