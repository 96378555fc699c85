use Rattle.std.proofs.Common.{subst, true≢false}
use Rattle.mls_translang.specs.declared.run_fault.RunCause.TheVariants.{Memory, Write}
use Rattle.mls_runs.specs.declared.shell_session.Fate.TheVariants.{Unreadable, Lost}
use Rattle.mls_runs.specs.Typed.{fate_of, Becomes}
use Rattle.mls_runs.specs.Shell.{IsShellFate}
use Rattle.mls_runs.proofs.TypedLemmas.{read_whole, known_whole, read_long, read_lost, lost_read}
use Rattle.mls_runs.proofs.typed.next_fate.Goals as goal

pub returns-in-Ok-Line-clause-read : goal.returns-in-Ok-Line-clause-read
returns-in-Ok-Line-clause-read g c =
    let (next, shown, short) = rw c.in-Ok-Line.field-0-is at c.in-Ok-Line.ensures.typed in
    let becomes = subst (λ line. Becomes (fate_of c.args.policy.now c.args.schemes.now c.args.session.now line) c.fate_of-fate.result) c.deref.ensures.value c.fate_of-fate.ensures.is in
    record {
      read = read_whole c.args.policy.now c.args.schemes.now c.args.session.now g.L.TypedLines.echo _ _ _ _ _ c.use_invariant.ensures c.use_invariant-2.ensures c.in-Ok-Line.line.items next short shown c.fate_of-fate.result becomes;
      known = known_whole c.args.policy.now c.args.schemes.now c.args.session.now g.L.TypedLines.echo _ _ _ _ _ c.use_invariant.ensures c.use_invariant-2.ensures c.in-Ok-Line.line.items next short shown c.fate_of-fate.result becomes;
    }

pub returns-in-Ok-TooLong-clause-read : goal.returns-in-Ok-TooLong-clause-read
returns-in-Ok-TooLong-clause-read g c =
    let (line, long, quiet) = rw c.in-Ok-TooLong.field-0-is at c.in-Ok-TooLong.ensures.typed in
    record {
      read = read_long g.L.TypedLines.echo (IsShellFate c.args.policy.now c.args.schemes.now c.args.session.now) _ _ _ _ _ line long quiet;
      known = λ found. c.requires;
    }

pub returns-in-Err-Unreadable-clause-read : goal.returns-in-Err-Unreadable-clause-read
returns-in-Err-Unreadable-clause-read g c = record {
  read = read_lost g.L.TypedLines.echo
      (IsShellFate c.args.policy.now c.args.schemes.now c.args.session.now) _ _ _ _ _ Unreadable tt
      (λ u. rw c.in-Err-Unreadable.field-0-is at c.in-Err-Unreadable.ensures.cause) c.in-Err-Unreadable.ensures.lost;
  known = λ found. c.requires;
}

pub returns-in-Err-Memory-clause-read : goal.returns-in-Err-Memory-clause-read
returns-in-Err-Memory-clause-read g c = record {
  read = read_lost g.L.TypedLines.echo
      (IsShellFate c.args.policy.now c.args.schemes.now c.args.session.now) _ _ _ _ _ (Lost Memory) (λ is. cc)
      (λ u. absurd (lost_read Memory u)) c.in-Err-Memory.ensures.lost;
  known = λ found. absurd (true≢false found);
}

pub returns-in-Err-Output-clause-read : goal.returns-in-Err-Output-clause-read
returns-in-Err-Output-clause-read g c = record {
  read = read_lost g.L.TypedLines.echo
      (IsShellFate c.args.policy.now c.args.schemes.now c.args.session.now) _ _ _ _ _ (Lost Write) (λ is. cc)
      (λ u. absurd (lost_read Write u)) c.in-Err-Output.ensures.lost;
  known = λ found. absurd (true≢false found);
}
