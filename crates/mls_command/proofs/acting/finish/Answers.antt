-- finish
use Rattle.std.proofs.Common.{◌++◌, [], Result, Ok, Err, refl, subst, ◌∙◌}
use Rattle.mls_host.specs.declared.ending.Ending.{Ending}
use Rattle.mls_host.specs.declared.stop.Stop.{Stop}
use Rattle.mls_host.specs.Deed.{deed, end_text}
use Rattle.mls_host.specs.Hosting.{hosted, IsAppended, IsTold}
use Rattle.mls_host.proofs.HostingLemmas.{told_more}
use Rattle.mls_command.specs.Acting.{IsDeedOf}
use Rattle.mls_command.proofs.ActingLemmas.{deed_told, told_all}
use Rattle.mls_command.proofs.acting.finish.Goals as goal

pub returns-in-Ok : goal.returns-in-Ok
returns-in-Ok g c = record {
  end = (Ok c.in-Ok.ending);
  more = [];
  does = deed_told g.H.Advice.Explains.explaining
      (hosted g.H.Host.hosting g.H.Lines.TypedLines.echo c.args.host.now c.perform.new.host) c.args.job
      (IsAppended g.W.Write.contents c.args.out.now c.perform.new.out)
      (IsTold g.E.Write.contents c.args.err.now c.perform.new.err)
      (λ text. IsTold g.E.Write.contents c.args.err.now c.perform.new.err ((text ++ end_text (Ok c.in-Ok.ending))
      ++ []))
      (told_all (IsTold g.E.Write.contents c.args.err.now c.perform.new.err) c.in-Ok.ending) (Ok c.in-Ok.ending)
      (subst (λ (r : Result Ending Stop). IsDeedOf g.H.Advice.Explains.explaining
      (hosted g.H.Host.hosting g.H.Lines.TypedLines.echo c.args.host.now c.perform.new.host) c.args.job
      (deed g.W.Write.contents c.args.out.now c.perform.new.out g.E.Write.contents c.args.err.now c.perform.new.err r)) c.in-Ok.is c.perform.ensures);
  plain = λ no. refl;
  of_refusals = refl;
  status_is = c.status.ensures;
}

pub returns-in-Err : goal.returns-in-Err
returns-in-Err g c =
    let e = c.explain_stop.ensures in record {
      end = (Err c.in-Err.stop);
      more = e.more;
      does = deed_told g.H.Advice.Explains.explaining
          (hosted g.H.Host.hosting g.H.Lines.TypedLines.echo c.args.host.now c.perform.new.host) c.args.job
          (IsAppended g.W.Write.contents c.args.out.now c.perform.new.out)
          (IsTold g.E.Write.contents c.args.err.now c.perform.new.err)
          (λ text. IsTold g.E.Write.contents c.args.err.now c.explain_stop.new.err
          ((text ++ end_text (Err c.in-Err.stop)) ++ e.more))
          (λ text t. told_more g.E.Write.contents c.args.err.now c.tell_stop.new.self c.explain_stop.new.err
          (text ++ end_text (Err c.in-Err.stop)) e.more
          (told_more g.E.Write.contents c.args.err.now c.perform.new.err c.tell_stop.new.self text
          (end_text (Err c.in-Err.stop)) t c.tell_stop.ensures) e.leads) (Err c.in-Err.stop)
          (subst (λ (r : Result Ending Stop). IsDeedOf g.H.Advice.Explains.explaining
          (hosted g.H.Host.hosting g.H.Lines.TypedLines.echo c.args.host.now c.perform.new.host) c.args.job
          (deed g.W.Write.contents c.args.out.now c.perform.new.out g.E.Write.contents c.args.err.now c.perform.new.err r)) c.in-Err.is c.perform.ensures);
      plain = λ no. e.none (c.is_watched-is_watched.ensures ∙ no);
      of_refusals = tt;
      status_is = c.status-in-Err.ensures;
    }
