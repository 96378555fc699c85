use Rattle.std.proofs.KnownBytes.{Appends-trans}
use Rattle.std.proofs.lemmas.Result.{on_ok_weaker}
use Rattle.mls_host.specs.Reason.{front_text, spot_text}
use Rattle.mls_host.proofs.reason.tell_place.Goals as goal

pub returns : goal.returns
returns g c =
    on_ok_weaker c.tell_spot.result
    (λ h. Appends-trans (g.W.Write.contents c.args.err.now) (g.W.Write.contents c.tell_front.new.err)
    (g.W.Write.contents c.tell_spot.new.err)
    (front_text c.args.role c.args.code c.args.word.now)
    (spot_text c.args.line c.args.column) c.in_ok-tell_front.ensures h)
    c.tell_spot.ensures
