use Rattle.std.proofs.Common.{ap, refl}
use Rattle.mls_filterview.specs.Content.{State}
use Rattle.mls_audit.proofs.SoundLemmas.{none_sound}
use Rattle.mls_fragments.specs.Holdings.{as_it_was, holdings_of, row_of}
use Rattle.script_cases.proofs.lists.ListsHost.store.Goals as goal

pub returns-clause-idle : goal.returns-clause-idle
returns-clause-idle g c = ap (λ (s : State). s.begun) c.new.ensures

pub returns-clause-sound : goal.returns-clause-sound
returns-clause-sound g c = none_sound c.args.policy.now c.args.file.now.schemes _ c.new.ensures

pub returns-clause-kept : goal.returns-clause-kept
returns-clause-kept g c = λ clean.
    let row = row_of c.args.policy.now c.args.file.now 1 in
    record { had = holdings_of row _; was = tt; row = row; takes = as_it_was row refl (refl, refl) refl }
