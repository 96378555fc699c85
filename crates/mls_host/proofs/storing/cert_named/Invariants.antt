use Rattle.std.proofs.Common.{◌≡◌, drop}
use Rattle.mls_host.specs.Storing.{cert_named}
use Rattle.mls_host.proofs.storing.cert_named.Given as goal

abbrev pub invariant-loop-block : goal.invariant-loop-block
invariant-loop-block l = cert_named (drop l.block-index l.blocks) l.name ≡ cert_named l.blocks l.name
