use Rattle.mls_translang.specs.Writing.{lines_text}
use Rattle.mls_script.proofs.TellingLemmas.{script_again}
use Rattle.mls_script.proofs.WritingLemmas.{lines_read}
use Rattle.mls_script.proofs.lines_are_read.Goals as goal

pub returns : goal.returns
returns c policy schemes is_policy are_schemes es fits h =
    let reads = lines_read policy schemes is_policy are_schemes es fits h in
    (reads, script_again policy schemes is_policy are_schemes (lines_text policy schemes es) es reads)
