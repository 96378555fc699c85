use Rattle.std.proofs.Common.{◌≡◌, length}
use Rattle.std.specs.Io.KnownBytes.{Consumes}
use Rattle.mls_tokens.specs.Typing.{HasNoFeed}
use Rattle.mls_tokens.proofs.lines.read_part.Given as goal

abbrev pub invariant-loop : goal.invariant-loop
invariant-loop g l =
    (length l.line.items ≡ l.counter) × HasNoFeed l.line.items × Consumes (g.S.Source.remaining l.initial.input)
    (g.S.Source.remaining l.input) l.line.items
