-- How steps of the reader follow one another.
use Rattle.mls_scheme.proofs.KeySteps.{utf8_at-ok, utf8_at-err}

pub ruleset utf8_steps = (utf8_at-ok, utf8_at-err)
