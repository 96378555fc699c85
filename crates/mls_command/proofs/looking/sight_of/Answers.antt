use Rattle.std.proofs.Common.{Option, sym, subst}
use Rattle.mls_fragments.specs.declared.open_fault.OpenFault.{OpenFault}
use Rattle.mls_command.specs.Looking.{IsSight, hidden, shown}
use Rattle.mls_command.proofs.TellingLemmas.{if_ok, if_both}
use Rattle.mls_command.proofs.looking.sight_of.Goals as goal

pub returns-in-Ok : goal.returns-in-Ok
returns-in-Ok g c =
    let files = c.in-Ok.files in
    if_ok (λ d is. shown files.log.items files.db.items d.fault c.in-Ok.ensures.shown is) c.seen_of.result c.seen_of.ensures

pub returns-in-Err : goal.returns-in-Err
returns-in-Err g c =
    if_both (λ d fault cause.
    subst (λ (f : Option OpenFault). IsSight (g.H.Host.hosting c.args.host.now) c.args.setting.now c.args.task c.args.path.now f) (sym fault) (hidden c.in-Err.cause c.in-Err.ensures.hidden cause))
    c.diagnosis_of_hidden.result c.diagnosis_of_hidden.ensures.fault c.diagnosis_of_hidden.ensures.cause
