use Rattle.std.specs.Io.KnownBytes.{Keeps}
use Rattle.mls_tokens.proofs.source.read_byte.Given as goal

abbrev pub invariant-loop : goal.invariant-loop
invariant-loop g l = Keeps (g.R.Read.remaining l.initial.input) (g.R.Read.remaining l.input)
