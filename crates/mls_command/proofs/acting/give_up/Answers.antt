-- give_up
use Rattle.std.proofs.Common.{Bool, Err, refl, sym, subst, ◌∙◌}
use Rattle.std.proofs.KnownBytes.{Appends-nil}
use Rattle.mls_host.specs.declared.stop.Stop.TheVariants.{Before}
use Rattle.mls_host.specs.Deed.{deed}
use Rattle.mls_host.specs.Hosting.{hosted}
use Rattle.mls_host.proofs.HostingLemmas.{told_nothing}
use Rattle.mls_host.proofs.StoppingLemmas.{untouched}
use Rattle.mls_command.proofs.AccountLemmas.{refused_unread}
use Rattle.mls_command.proofs.PrintingLemmas.{listing_printed, not_printed}
use Rattle.mls_command.specs.Accounting.{TellsRefusal, IsUnread}
use Rattle.mls_command.specs.Acting.{IsRefusedDeed}
use Rattle.mls_command.proofs.acting.give_up.Goals as goal

pub returns-then-not-explains : goal.returns-then-not-explains
returns-then-not-explains g c =
    let h = hosted g.H.Host.hosting g.H.Lines.TypedLines.echo c.args.host.now c.args.host.now in
    let d = deed g.W.Write.contents c.args.out.now c.args.out.now g.E.Write.contents c.args.err.now c.args.err.now
    (Err (Before c.args.reason)) in
    subst (λ (is : Bool). IsRefusedDeed h c.args.job is d) (sym (sym c.explains.ensures ∙ c.if-not-explains.true)) (
      c.args.reason,
      refl,
      c.requires,
      untouched (g.H.Host.hosting c.args.host.now),
      (Appends-nil _, told_nothing g.E.Write.contents c.args.err.now),
    )

pub returns-in_err-refused_listing : goal.returns-in_err-refused_listing
returns-in_err-refused_listing g c =
    let h = hosted g.H.Host.hosting g.H.Lines.TypedLines.echo c.args.host.now c.args.host.now in
    let d = deed g.W.Write.contents c.args.out.now c.args.out.now g.E.Write.contents c.args.err.now c.args.err.now c.from_residual.result in
    let e = c.in_err-refused_listing.field-0.0 in
    subst (λ (is : Bool). IsRefusedDeed h c.args.job is d) (sym (sym c.explains.ensures ∙ c.if-not-explains.false)) (
      untouched (g.H.Host.hosting c.args.host.now),
      not_printed (TellsRefusal h.before c.args.job) (IsUnread h.before c.args.job) d e c.from_residual.ensures.1
          (refused_unread h.before c.args.job c.args.reason c.requires
          (Err e) c.in_err-refused_listing.ensures.same c.in_err-refused_listing.ensures.memory)
          (Appends-nil _, told_nothing g.E.Write.contents c.args.err.now),
    )

pub returns : goal.returns
returns g c =
    let h = hosted g.H.Host.hosting g.H.Lines.TypedLines.echo c.args.host.now c.args.host.now in
    let d = deed g.W.Write.contents c.args.out.now c.print.new.out g.E.Write.contents c.args.err.now c.print.new.err c.print.result in
    subst (λ (is : Bool). IsRefusedDeed h c.args.job is d) (sym (sym c.explains.ensures ∙ c.if-not-explains.false)) (
      untouched (g.H.Host.hosting c.args.host.now),
      listing_printed (TellsRefusal h.before c.args.job)
          (IsUnread h.before c.args.job) c.in_ok-refused_listing.field-0 d
          (c.args.reason, c.requires, c.in_ok-refused_listing.ensures.told) c.print.ensures.print,
    )
