use Rattle.std.proofs.Common.{ℕ, List}
use Rattle.std.specs.Io.KnownBytes.{Consumes}
use Rattle.mls_tokens.specs.Typing.{HasNoFeed}
use Rattle.mls_tokens.proofs.lines.skip_line.Given as goal

abbrev pub invariant-loop : goal.invariant-loop
invariant-loop g l = (text : List ℕ) × HasNoFeed text × Consumes (g.S.Source.remaining l.initial.input)
    (g.S.Source.remaining l.input) text
