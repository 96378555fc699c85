use Rattle.std.proofs.Common.{◌≡◌, ◌++◌, ◌∙◌, codes, rules, flat_map}
use Rattle.mls_machine.specs.Turning.{turn_line}
use Rattle.mls_machine.proofs.TurningLemmas.{lines_printed}
use Rattle.mls_machine.proofs.turning.turn_bytes.Goals as goal

pub returns : goal.returns
returns c =
    let whole : c.push_turn_lines.new.text.items ≡ flat_map (λ e. (turn_line c.args.policy.now e).text
    ++ codes "\n") c.args.entries.now = search rules in
    whole ∙ lines_printed c.args.policy.now c.args.entries.now
