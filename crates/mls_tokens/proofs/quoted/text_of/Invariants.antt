use Rattle.std.proofs.Common.{◌≡◌, [], drop}
use Rattle.mls_tokens.specs.declared.quoted.Mode.TheVariants.{Plain}
use Rattle.mls_tokens.specs.Scanning.{text_at}
use Rattle.mls_tokens.proofs.quoted.text_of.Given as goal

abbrev pub invariant-loop-i : goal.invariant-loop-i
invariant-loop-i l = text_at l.mode l.text.items (drop l.i l.bytes) ≡ text_at Plain [] l.bytes
