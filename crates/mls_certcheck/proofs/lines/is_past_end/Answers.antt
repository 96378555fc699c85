use Rattle.std.proofs.Common.{ap, ◌∙◌}
use Rattle.mls_certcheck.specs.Reading.{is_past_end}
use Rattle.mls_certcheck.proofs.ReadingSteps.{left_lent}
use Rattle.mls_certcheck.proofs.lines.is_past_end.Goals as goal

pub returns : goal.returns
returns c = c.is_end.ensures ∙ ap is_past_end (left_lent c.args.lines.now c.args.place)
