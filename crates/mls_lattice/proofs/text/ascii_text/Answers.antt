use Rattle.mls_lattice.proofs.AsciiLemmas.{ok_from_utf8}
use Rattle.mls_lattice.proofs.text.ascii_text.Goals as goal

pub unwrap-requires : goal.unwrap-requires
unwrap-requires c = ok_from_utf8 c.args.bytes.now _ _ c.from_utf8.result c.from_utf8.ensures.cases c.requires
