use Rattle.std.proofs.Common.{ℕ, List, [], get_or, codes, sym, ◌∙◌, Bor}
use Rattle.std.proofs.lemmas.Str.Pattern.{starts_text}
use Rattle.case_tables.specs.Lines.{is_inner}
use Rattle.case_tables.proofs.LineLemmas.{stops, goes}
use Rattle.case_tables.proofs.block.indented.Goals as goal

-- stands for a line behind the last one
abbrev no_line : Bor (List ℕ)
no_line = record { ref_ptr = (0, 0); now = [] }

pub returns-then-not-starts_with : goal.returns-then-not-starts_with
returns-then-not-starts_with c =
    let line = get_or c.args.lines.now c.loop-at.at no_line in
    stops (λ line. is_inner line.now) c.args.lines.now c.loop-at.at no_line c.loop-at-test.true
    (sym (starts_text _ (codes "  ") line.now c.starts_with.ensures.cases)
    ∙ c.if-not-starts_with.true) c.loop-at.invariant

pub loop-at-preserved : goal.loop-at-preserved
loop-at-preserved c =
    let line = get_or c.args.lines.now c.loop-at.at no_line in
    goes (λ line. is_inner line.now) c.args.lines.now c.loop-at.at no_line c.loop-at-test.true
    (sym (starts_text _ (codes "  ") line.now c.starts_with.ensures.cases)
    ∙ c.if-not-starts_with.false) c.loop-at.invariant
