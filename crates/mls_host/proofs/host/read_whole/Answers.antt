use Rattle.std.proofs.Common.{rules}
use Rattle.mls_host.proofs.WholeLemmas.{taken_whole}
use Rattle.mls_host.proofs.host.read_whole.Goals as goal

pub returns-in-Ok-2-clause-whole : goal.returns-in-Ok-2-clause-whole
returns-in-Ok-2-clause-whole g c =
    taken_whole g.R.Read.remaining c.args.reader c.take.result 1048577 c.new-bytes.result.items c.read_to_end.new.buf.items c.take.ensures.limit c.take.ensures.inner c.new-bytes.ensures.items (search rules)
    c.in-Ok-2.ensures.bytes
