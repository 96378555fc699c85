use Rattle.std.proofs.KnownBytes.{Appends-trans}
use Rattle.std.proofs.lemmas.Result.{on_ok_weaker}
use Rattle.mls_host.specs.Stop.{turned_text, closing_text}
use Rattle.mls_host.proofs.stop.tell_turned.Goals as goal

pub returns : goal.returns
returns g c =
    on_ok_weaker c.tell_closing.result
    (λ h. Appends-trans (g.W.Write.contents c.args.err.now) (g.W.Write.contents c.tell_turned_line.new.err)
    (g.W.Write.contents c.tell_closing.new.err)
    (turned_text c.args.cause) (closing_text c.args.is_closed) c.in_ok-tell_turned_line.ensures h)
    c.tell_closing.ensures
