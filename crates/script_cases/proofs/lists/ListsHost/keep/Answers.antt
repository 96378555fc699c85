use Rattle.std.proofs.Common.{[]}
use Rattle.mls_tables.specs.Rows.{first_meta}
use Rattle.script_cases.proofs.lists.ListsHost.keep.Goals as goal

-- any row will do where anything is kept
pub returns-clause-kept : goal.returns-clause-kept
returns-clause-kept g c = λ _. (first_meta 1 [] [], tt)
