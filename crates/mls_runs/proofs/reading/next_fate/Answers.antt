use Rattle.std.proofs.Common.{subst}
use Rattle.mls_translang.specs.declared.run_fault.RunCause.TheVariants.{Memory, Write}
use Rattle.mls_runs.specs.declared.shell_session.Fate.TheVariants.{Unreadable, Lost}
use Rattle.mls_runs.specs.Typed.{Becomes}
use Rattle.mls_runs.proofs.TypedLemmas.{read_long, read_lost, lost_read}
use Rattle.mls_runs.specs.Desk.{IsDeskFate}
use Rattle.mls_runs.specs.Reading.{fate_of}
use Rattle.mls_runs.proofs.ReadingLemmas.{read_whole}
use Rattle.mls_runs.proofs.reading.next_fate.Goals as goal

pub returns-in-Ok-Line-clause-read : goal.returns-in-Ok-Line-clause-read
returns-in-Ok-Line-clause-read g c =
    let (next, shown, short) = rw c.in-Ok-Line.field-0-is at c.in-Ok-Line.ensures.typed in
    read_whole c.args.policy.now c.args.schemes.now c.in-Ok-Line.line.items g.L.TypedLines.echo _ _ _ _ _ next short shown c.fate_of.result
    (subst (λ line. Becomes (fate_of c.args.policy.now c.args.schemes.now line) c.fate_of.result) c.deref.ensures.value c.fate_of.ensures.is)

pub returns-in-Ok-TooLong-clause-read : goal.returns-in-Ok-TooLong-clause-read
returns-in-Ok-TooLong-clause-read g c =
    let (line, long, quiet) = rw c.in-Ok-TooLong.field-0-is at c.in-Ok-TooLong.ensures.typed in
    read_long g.L.TypedLines.echo (IsDeskFate c.args.policy.now c.args.schemes.now) _ _ _ _ _ line long quiet

pub returns-in-Err-Unreadable-clause-read : goal.returns-in-Err-Unreadable-clause-read
returns-in-Err-Unreadable-clause-read g c =
    read_lost g.L.TypedLines.echo (IsDeskFate c.args.policy.now c.args.schemes.now) _ _ _ _ _ Unreadable tt
    (λ u. rw c.in-Err-Unreadable.field-0-is at c.in-Err-Unreadable.ensures.cause) c.in-Err-Unreadable.ensures.lost

pub returns-in-Err-Memory-clause-read : goal.returns-in-Err-Memory-clause-read
returns-in-Err-Memory-clause-read g c = read_lost g.L.TypedLines.echo
    (IsDeskFate c.args.policy.now c.args.schemes.now) _ _ _ _ _ (Lost Memory) (λ is. cc)
    (λ u. absurd (lost_read Memory u)) c.in-Err-Memory.ensures.lost

pub returns-in-Err-Output-clause-read : goal.returns-in-Err-Output-clause-read
returns-in-Err-Output-clause-read g c = read_lost g.L.TypedLines.echo
    (IsDeskFate c.args.policy.now c.args.schemes.now) _ _ _ _ _ (Lost Write) (λ is. cc)
    (λ u. absurd (lost_read Write u)) c.in-Err-Output.ensures.lost
