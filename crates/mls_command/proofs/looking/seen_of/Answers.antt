use Rattle.std.proofs.Common.{List, ℕ, subst₂}
use Rattle.mls_explain.specs.Diagnosis.{IsDiagnosis}
use Rattle.mls_command.specs.Looking.{absent, opened}
use Rattle.mls_command.proofs.TellingLemmas.{if_ok}
use Rattle.mls_command.proofs.looking.seen_of.Goals as goal

pub returns-then-not-is_absent : goal.returns-then-not-is_absent
returns-then-not-is_absent c =
    if_ok (λ d is. opened d.fault
    (subst₂ (λ (log db : List ℕ). IsDiagnosis c.args.setting.now.policy c.args.setting.now.file log db d.fault) c.deref.ensures.value c.deref-then-not-is_absent.ensures.value is))
    c.diagnosis_of.result c.diagnosis_of.ensures.fault

pub returns : goal.returns
returns c = let no = c.is_absent.ensures c.if-not-is_absent.false in absent no.0 no.1 no.2
