use Rattle.std.proofs.Common.{◌++◌, [], Result, Ok, Err, refl, sym, subst, append-nil}
use Rattle.mls_host.specs.declared.ending.Ending.{Ending}
use Rattle.mls_host.specs.declared.stop.Stop.{Stop}
use Rattle.mls_host.specs.Deed.{deed, end_text}
use Rattle.mls_host.specs.Hosting.{IsAppended, IsTold}
use Rattle.mls_host.proofs.HostingLemmas.{told_more}
use Rattle.mls_command.proofs.PrintingLemmas.{printing_told}
use Rattle.mls_command.specs.Accounting.{Accounts, IsUnread, IsAccountOf}
use Rattle.mls_command.proofs.ActingLemmas.{told_all}
use Rattle.mls_command.proofs.accounting.finish_account.Goals as goal

pub returns-in-Ok : goal.returns-in-Ok
returns-in-Ok g c = record {
  end = (Ok c.in-Ok.ending);
  more = [];
  plain = λ no. refl;
  of_refusals = refl;
  does = printing_told (Accounts (g.H.Host.hosting c.args.host.now) c.args.job)
      (IsUnread (g.H.Host.hosting c.args.host.now) c.args.job)
      (IsAppended g.W.Write.contents c.args.out.now c.print_account.new.out)
      (IsTold g.E.Write.contents c.args.err.now c.print_account.new.err)
      (λ text. IsTold g.E.Write.contents c.args.err.now c.print_account.new.err ((text ++ end_text (Ok c.in-Ok.ending))
      ++ []))
      (told_all (IsTold g.E.Write.contents c.args.err.now c.print_account.new.err) c.in-Ok.ending) (Ok c.in-Ok.ending)
      (subst (λ (r : Result Ending Stop). IsAccountOf (g.H.Host.hosting c.args.host.now) c.args.job
      (deed g.W.Write.contents c.args.out.now c.print_account.new.out g.E.Write.contents c.args.err.now c.print_account.new.err r)) c.in-Ok.is c.print_account.ensures);
  status_is = c.status.ensures;
}

pub returns-in-Err : goal.returns-in-Err
returns-in-Err g c = record {
  end = (Err c.in-Err.stop);
  more = [];
  plain = λ no. refl;
  of_refusals = tt;
  does = printing_told (Accounts (g.H.Host.hosting c.args.host.now) c.args.job)
      (IsUnread (g.H.Host.hosting c.args.host.now) c.args.job)
      (IsAppended g.W.Write.contents c.args.out.now c.print_account.new.out)
      (IsTold g.E.Write.contents c.args.err.now c.print_account.new.err)
      (λ text. IsTold g.E.Write.contents c.args.err.now c.tell_stop.new.self ((text ++ end_text (Err c.in-Err.stop))
      ++ []))
      (λ text t. subst (IsTold g.E.Write.contents c.args.err.now c.tell_stop.new.self)
      (sym (append-nil (text ++ end_text (Err c.in-Err.stop))))
      (told_more g.E.Write.contents c.args.err.now c.print_account.new.err c.tell_stop.new.self text
      (end_text (Err c.in-Err.stop)) t c.tell_stop.ensures)) (Err c.in-Err.stop)
      (subst (λ (r : Result Ending Stop). IsAccountOf (g.H.Host.hosting c.args.host.now) c.args.job
      (deed g.W.Write.contents c.args.out.now c.print_account.new.out g.E.Write.contents c.args.err.now c.print_account.new.err r)) c.in-Err.is c.print_account.ensures);
  status_is = c.status-in-Err.ensures;
}
