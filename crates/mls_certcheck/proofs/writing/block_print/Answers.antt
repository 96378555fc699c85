use Rattle.std.proofs.Common.{rules, string_bytes}
use Rattle.mls_certcheck.proofs.FileLemmas.{block_read}
use Rattle.mls_certcheck.proofs.writing.block_print.Goals as goal

pub returns-clause-again : goal.returns-clause-again
returns-clause-again c = block_read (string_bytes c.block_to.new.text) (c.args.name.now, c.args.cert.now)
    (search rules) c.requires.named c.in_ok-block_to.ensures.fits
