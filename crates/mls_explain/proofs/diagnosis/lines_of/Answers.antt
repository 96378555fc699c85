use Rattle.std.proofs.Common.{sym, subst}
use Rattle.mls_tokens.specs.Screen.{IsHarmless}
use Rattle.mls_tokens.proofs.HarmlessLemmas.{escaped_harmless}
use Rattle.mls_explain.proofs.diagnosis.lines_of.Goals as goal

pub returns-clause-lines : goal.returns-clause-lines
returns-clause-lines c = subst IsHarmless (sym c.in_ok-escape.ensures) (escaped_harmless c.as_bytes.result.now)
