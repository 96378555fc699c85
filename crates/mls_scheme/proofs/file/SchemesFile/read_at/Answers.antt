use Rattle.std.proofs.Common.{Ok}
use Rattle.mls_scheme.specs.declared.file.SchemesFile.{SchemesFile}
use Rattle.mls_scheme.proofs.SchemeLemmas.{read_found, read_under, read_intervals, read_refused}
use Rattle.mls_scheme.proofs.file.SchemesFile.read_at.Goals as goal

pub returns-in-Ok-schemes_of-clause-found : goal.returns-in-Ok-schemes_of-clause-found
returns-in-Ok-schemes_of-clause-found c = read_found (λ f. (f.version, f.schemes)) c.args.policy.now _ c.args.bytes.now
    (Ok c.in-Ok-schemes_of.file) c.in-Ok.ensures.ok c.in-Ok-schemes_of.ensures

pub returns-in-Ok-schemes_of-clause-under : goal.returns-in-Ok-schemes_of-clause-under
returns-in-Ok-schemes_of-clause-under c = read_under (λ f. (f.version, f.schemes)) c.args.policy.now _
    (Ok c.in-Ok-schemes_of.file) c.in-Ok-schemes_of.ensures

pub returns-in-Ok-schemes_of-clause-intervals : goal.returns-in-Ok-schemes_of-clause-intervals
returns-in-Ok-schemes_of-clause-intervals c = read_intervals (λ f. (f.version, f.schemes)) c.args.policy.now _
    (Ok c.in-Ok-schemes_of.file) c.in-Ok-schemes_of.ensures

pub returns-in-Ok-clause-refused : goal.returns-in-Ok-clause-refused
returns-in-Ok-clause-refused c =
    rw c.from.ensures (read_refused (λ (f : SchemesFile). (
      f.version,
      f.schemes,
    )) c.args.policy.now _ c.args.bytes.now c.in-Err-schemes_of.failed c.in-Ok.ensures.ok c.in-Err-schemes_of.ensures)
