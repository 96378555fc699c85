use Rattle.std.proofs.Common.{refl, subst, string_bytes}
use Rattle.std.proofs.KnownBytes.{Appends-nil}
use Rattle.mls_host.specs.declared.words.Task.TheVariants.{ShowPolicy, Picture, Certify, Check, Explain}
use Rattle.mls_host.specs.Words.{named}
use Rattle.mls_host.specs.Deed.{deed}
use Rattle.mls_host.specs.Hosting.{hosted}
use Rattle.mls_host.proofs.HostingLemmas.{told_nothing}
use Rattle.mls_host.proofs.StoppingLemmas.{untouched}
use Rattle.mls_command.specs.Certifying.{IsCertified}
use Rattle.mls_command.specs.Checking.{IsChecked}
use Rattle.mls_command.specs.Explaining.{IsExplained, IsUnexplained}
use Rattle.mls_command.proofs.PrintingLemmas.{listing_printed, not_printed, made_printed}
use Rattle.mls_command.specs.Acting.{Prints, IsTaskRefused}
use Rattle.mls_command.proofs.TellingLemmas.{if_ok, if_both, if_three}
use Rattle.mls_command.proofs.ActingLemmas.{for_task}
use Rattle.mls_command.proofs.acting.print_task.Goals as goal

pub returns-in-ShowPolicy : goal.returns-in-ShowPolicy
returns-in-ShowPolicy g c =
    let h = hosted g.H.Host.hosting g.H.Lines.TypedLines.echo c.args.host.now c.args.host.now in
    let explaining = g.H.Advice.Explains.explaining in
    let d = deed g.W.Write.contents c.args.out.now c.print_made.new.out g.E.Write.contents c.args.err.now c.print_made.new.err c.print_made.result in
    for_task explaining h c.args.job c.args.inputs.now d c.args.job.task ShowPolicy c.in-ShowPolicy.is (
      untouched (g.H.Host.hosting c.args.host.now),
      made_printed (Prints (h.before.ignores c.args.job.documents) c.args.inputs.now ShowPolicy)
          (IsTaskRefused h c.args.job c.args.inputs.now ShowPolicy) c.texts-made.result d
          (if_three (λ l text told end. (
            text,
            told,
            end,
          )) c.texts-made.result c.texts-made.ensures.text c.texts-made.ensures.told c.texts-made.ensures.end) refl c.print_made.ensures,
    )

pub returns-in-Picture : goal.returns-in-Picture
returns-in-Picture g c =
    let h = hosted g.H.Host.hosting g.H.Lines.TypedLines.echo c.args.host.now c.args.host.now in
    let explaining = g.H.Advice.Explains.explaining in
    let d = deed g.W.Write.contents c.args.out.now c.print_made-in-Picture.new.out g.E.Write.contents c.args.err.now c.print_made-in-Picture.new.err c.print_made-in-Picture.result in
    for_task explaining h c.args.job c.args.inputs.now d c.args.job.task Picture c.in-Picture.is (
      untouched (g.H.Host.hosting c.args.host.now),
      made_printed (Prints (h.before.ignores c.args.job.documents) c.args.inputs.now Picture)
          (IsTaskRefused h c.args.job c.args.inputs.now Picture) c.picture_of-made.result d
          (if_both (λ l text told. (text, told)) c.picture_of-made.result c.picture_of-made.ensures.text c.picture_of-made.ensures.told) refl c.print_made-in-Picture.ensures,
    )

pub returns-in-Certify : goal.returns-in-Certify
returns-in-Certify g c =
    let h = hosted g.H.Host.hosting g.H.Lines.TypedLines.echo c.args.host.now c.args.host.now in
    let explaining = g.H.Advice.Explains.explaining in
    let d = deed g.W.Write.contents c.args.out.now c.print_made-in-Certify.new.out g.E.Write.contents c.args.err.now c.print_made-in-Certify.new.err c.print_made-in-Certify.result in
    for_task explaining h c.args.job c.args.inputs.now d c.args.job.task Certify c.in-Certify.is (
      untouched (g.H.Host.hosting c.args.host.now),
      made_printed (Prints (h.before.ignores c.args.job.documents) c.args.inputs.now Certify)
          (IsTaskRefused h c.args.job c.args.inputs.now Certify) c.certified-made.result d
          (if_ok (λ l k. subst (λ txs. IsCertified c.args.inputs.now.setting.policy txs l.text.items
          (string_bytes l.told) l.ending) c.deref.ensures k) c.certified-made.result c.certified-made.ensures) refl c.print_made-in-Certify.ensures,
    )

pub returns-in-Check : goal.returns-in-Check
returns-in-Check g c =
    let h = hosted g.H.Host.hosting g.H.Lines.TypedLines.echo c.args.host.now c.args.host.now in
    let explaining = g.H.Advice.Explains.explaining in
    let d = deed g.W.Write.contents c.args.out.now c.print_made-in-Check.new.out g.E.Write.contents c.args.err.now c.print_made-in-Check.new.err c.print_made-in-Check.result in
    for_task explaining h c.args.job c.args.inputs.now d c.args.job.task Check c.in-Check.is (
      untouched (g.H.Host.hosting c.args.host.now),
      made_printed (Prints (h.before.ignores c.args.job.documents) c.args.inputs.now Check)
          (IsTaskRefused h c.args.job c.args.inputs.now Check) c.checked-made.result d
          (if_ok (λ l k. subst (λ blocks. IsChecked c.args.inputs.now.setting.policy c.args.inputs.now.transactions blocks l.text.items (string_bytes l.told) l.ending) c.deref-in-Check-2.ensures
          (subst (λ txs. IsChecked c.args.inputs.now.setting.policy txs c.deref-in-Check-2.result.now l.text.items
          (string_bytes l.told) l.ending) c.deref-in-Check.ensures k)) c.checked-made.result c.checked-made.ensures) refl c.print_made-in-Check.ensures,
    )

pub returns-in_err-explanation_of-in-Explain : goal.returns-in_err-explanation_of-in-Explain
returns-in_err-explanation_of-in-Explain g c =
    let h = hosted g.H.Host.hosting g.H.Lines.TypedLines.echo c.args.host.now c.args.host.now in
    let explaining = g.H.Advice.Explains.explaining in
    let d = deed g.W.Write.contents c.args.out.now c.args.out.now g.E.Write.contents c.args.err.now c.args.err.now c.from_residual.result in
    for_task explaining h c.args.job c.args.inputs.now d c.args.job.task (Explain c.in-Explain.name) c.in-Explain.is (
      untouched (g.H.Host.hosting c.args.host.now),
      not_printed (Prints (h.before.ignores c.args.job.documents) c.args.inputs.now (Explain c.in-Explain.name))
          (IsTaskRefused h c.args.job c.args.inputs.now
          (Explain c.in-Explain.name)) d c.in_err-explanation_of-in-Explain.field-0.0 c.from_residual.ensures.1
          (subst (λ txs. IsUnexplained txs (named c.in-Explain.name) c.in_err-explanation_of-in-Explain.field-0.0) c.deref-in-Explain.ensures c.in_err-explanation_of-in-Explain.ensures.refused) (Appends-nil _, told_nothing g.E.Write.contents c.args.err.now),
    )

pub returns-in_ok-explanation_of-in-Explain : goal.returns-in_ok-explanation_of-in-Explain
returns-in_ok-explanation_of-in-Explain g c =
    let h = hosted g.H.Host.hosting g.H.Lines.TypedLines.echo c.args.host.now c.args.host.now in
    let explaining = g.H.Advice.Explains.explaining in
    let l = c.in_ok-explanation_of-in-Explain.field-0 in
    let d = deed g.W.Write.contents c.args.out.now c.print.new.out g.E.Write.contents c.args.err.now c.print.new.err c.print.result in
    for_task explaining h c.args.job c.args.inputs.now d c.args.job.task (Explain c.in-Explain.name) c.in-Explain.is (
      untouched (g.H.Host.hosting c.args.host.now),
      listing_printed (Prints (h.before.ignores c.args.job.documents) c.args.inputs.now (Explain c.in-Explain.name))
          (IsTaskRefused h c.args.job c.args.inputs.now (Explain c.in-Explain.name)) l d
          (subst (λ txs. IsExplained c.args.inputs.now.setting.policy c.args.inputs.now.setting.file.schemes txs
          (named c.in-Explain.name) (h.before.ignores c.args.job.documents) l.text.items
          (string_bytes l.told) l.ending) c.deref-in-Explain.ensures c.in_ok-explanation_of-in-Explain.ensures.listing) c.print.ensures.print,
    )
