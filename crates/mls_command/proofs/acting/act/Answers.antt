use Rattle.std.proofs.Common.{◌≡◌, List, Option, subst, option_map}
use Rattle.std.proofs.KnownBytes.{Appends-nil}
use Rattle.clap.specs.Words.{Text}
use Rattle.mls_host.specs.Hosting.{hosted, IsAppended, IsTold}
use Rattle.mls_host.specs.Words.{texts_of}
use Rattle.mls_command.specs.Accounting.{IsAccountOf}
use Rattle.mls_command.specs.Answering.{AnswersWords, IsAnsweredAs}
use Rattle.mls_command.specs.Explained.{explained_of}
use Rattle.mls_host.proofs.StoppingLemmas.{untouched}
use Rattle.mls_command.proofs.ActingLemmas.{lacks_memory, noted}
use Rattle.mls_command.proofs.acting.act.Goals as goal

pub returns-in-Ok-Some : goal.returns-in-Ok-Some
returns-in-Ok-Some g c =
    let h = hosted g.H.Host.hosting g.H.Lines.TypedLines.echo c.args.host.now c.args.host.now in
    let wrote = IsAppended g.W.Write.contents c.args.out.now c.explain_inputs.new.out in
    let told = IsTold g.E.Write.contents c.tell_note.new.err c.explain_inputs.new.err in
    let is = subst (λ asked. option_map (λ v. texts_of v.items) asked
    ≡ explained_of (texts_of c.args.words.now)) c.in-Ok-Some.field-0-is c.in-Ok-Some.ensures in
    noted g.E.Write.contents c.args.err.now c.tell_note.new.err c.explain_inputs.new.err g.H.Advice.Explains.explaining h (texts_of c.args.words.now) wrote c.explain_inputs.result c.tell_note.ensures
    (subst (λ (other : Option (List Text)). IsAnsweredAs g.H.Advice.Explains.explaining h other
    (texts_of c.args.words.now) wrote told c.explain_inputs.result)
    is (
      untouched (g.H.Host.hosting c.args.host.now),
      subst (λ words. AnswersWords h (IsAccountOf (g.H.Host.hosting c.args.host.now))
          (texts_of words) wrote told c.explain_inputs.result) c.deref.ensures.value c.explain_inputs.ensures,
    ))

pub returns-in-Ok-None : goal.returns-in-Ok-None
returns-in-Ok-None g c =
    let h = hosted g.H.Host.hosting g.H.Lines.TypedLines.echo c.args.host.now c.answer.new.host in
    let wrote = IsAppended g.W.Write.contents c.args.out.now c.answer.new.out in
    let told = IsTold g.E.Write.contents c.tell_note.new.err c.answer.new.err in
    let is = subst (λ asked. option_map (λ v. texts_of v.items) asked
    ≡ explained_of (texts_of c.args.words.now)) c.in-Ok-None.field-0-is c.in-Ok-None.ensures in
    noted g.E.Write.contents c.args.err.now c.tell_note.new.err c.answer.new.err g.H.Advice.Explains.explaining h
    (texts_of c.args.words.now) wrote c.answer.result c.tell_note.ensures
    (subst (λ (other : Option (List Text)). IsAnsweredAs g.H.Advice.Explains.explaining h other
    (texts_of c.args.words.now) wrote told c.answer.result) is c.answer.ensures)

pub returns-in-Err : goal.returns-in-Err
returns-in-Err g c =
    let h = hosted g.H.Host.hosting g.H.Lines.TypedLines.echo c.args.host.now c.args.host.now in
    let wrote = IsAppended g.W.Write.contents c.args.out.now c.args.out.now in
    noted g.E.Write.contents c.args.err.now c.tell_note.new.err c.tell_usage.new.self g.H.Advice.Explains.explaining h
    (texts_of c.args.words.now) wrote c.status.result c.tell_note.ensures
    (lacks_memory g.H.Advice.Explains.explaining h (explained_of (texts_of c.args.words.now))
    (texts_of c.args.words.now) wrote (IsTold g.E.Write.contents c.tell_note.new.err c.tell_usage.new.self) c.status.result
    (untouched (g.H.Host.hosting c.args.host.now)) (Appends-nil _) c.tell_usage.ensures c.status.ensures)
