use Rattle.std.proofs.Common.{arith}
use Rattle.mls_fragments.proofs.AgainLemmas.{clean_store}
use Rattle.mls_fragments.proofs.again.files_closed.Goals as goal

pub returns-in-Err-clause-was_clean : goal.returns-in-Err-clause-was_clean
returns-in-Err-clause-was_clean g c clean =
    let rises = c.in-Err.ensures.err.0.quiet.clean in
    let now = clean_store c.in-Err.store c.close.result c.close.ensures clean in
    omega (arith, rises, now)

pub returns-in-Err-clause-unclosed : goal.returns-in-Err-clause-unclosed
returns-in-Err-clause-unclosed g c = (c.in-Err.store, c.close.ensures, c.in-Err.ensures.err.0)
