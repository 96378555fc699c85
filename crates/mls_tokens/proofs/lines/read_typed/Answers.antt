use Rattle.mls_tokens.proofs.TypingLemmas.{line_read, last_read, long_line, taken_more, on_err}
use Rattle.mls_tokens.proofs.lines.read_typed.Goals as goal

pub returns-in_err-skip_line-in-Full-clause-lost : goal.returns-in_err-skip_line-in-Full-clause-lost
returns-in_err-skip_line-in-Full-clause-lost g c =
    let (text, one, long, read) = rw c.in-Full.is at c.in_ok-line.ensures.part in
    on_err c.from_residual-in_err-skip_line-in-Full.result
    (taken_more _ _ _ text read c.in_err-skip_line-in-Full.ensures.lost)

pub returns-in_ok-skip_line-in-Full-clause-typed : goal.returns-in_ok-skip_line-in-Full-clause-typed
returns-in_ok-skip_line-in-Full-clause-typed g c =
    let (text, one, long, read) = rw c.in-Full.is at c.in_ok-line.ensures.part in
    long_line _ _ _ text one long read c.in_ok-skip_line-in-Full.field-0 c.in_ok-skip_line-in-Full.ensures.skipped

pub returns-in-Line-clause-typed : goal.returns-in-Line-clause-typed
returns-in-Line-clause-typed g c =
    let (text, one, is, read, short) = rw c.in-Line.is at c.in_ok-line.ensures.part in
    line_read _ _ c.in-Line.line.items text one is read short

pub returns-in-Last-clause-typed : goal.returns-in-Last-clause-typed
returns-in-Last-clause-typed g c =
    let (one, read, end, short) = rw c.in-Last.is at c.in_ok-line.ensures.part in
    last_read _ _ c.in-Last.line.items one read end short
