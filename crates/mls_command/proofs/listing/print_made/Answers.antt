use Rattle.std.proofs.Common.{◌≡◌, string_bytes, refl, sym, subst, IsOkAnd}
use Rattle.std.proofs.KnownBytes.{Appends-nil}
use Rattle.mls_host.specs.Deed.{deed}
use Rattle.mls_host.specs.declared.reason.Reason.TheVariants.{Memory}
use Rattle.mls_host.proofs.HostingLemmas.{told_nothing}
use Rattle.mls_command.specs.Printing.{IsListed}
use Rattle.mls_command.proofs.PrintingLemmas.{listing_printed}
use Rattle.mls_command.proofs.listing.print_made.Goals as goal

pub returns-in-Ok : goal.returns-in-Ok
returns-in-Ok g c =
    let l = c.in-Ok.listing in
    listing_printed (λ text told end. IsOkAnd c.args.made (λ m. IsListed m text told end)) (λ reason. reason ≡ Memory) l
    (deed g.W.Write.contents c.args.out.now c.print.new.out g.E.Write.contents c.args.err.now c.print.new.err c.print.result)
    (subst (λ made. IsOkAnd made (λ m. IsListed m l.text.items (string_bytes l.told) l.ending)) (sym c.in-Ok.is) (
      refl,
      refl,
      refl,
    )) c.print.ensures.print

pub returns-in-Err : goal.returns-in-Err
returns-in-Err g c = (refl, (Appends-nil _, told_nothing g.E.Write.contents c.args.err.now))
