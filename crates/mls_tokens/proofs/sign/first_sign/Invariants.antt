use Rattle.std.proofs.Common.{◌≡◌, drop}
use Rattle.mls_tokens.specs.Sign.{first_sign}
use Rattle.mls_tokens.proofs.sign.first_sign.Given as goal

abbrev pub invariant-loop-sign : goal.invariant-loop-sign
invariant-loop-sign l = first_sign (drop l.sign-index l.signs) l.bytes ≡ first_sign l.signs l.bytes
