use Rattle.std.proofs.Common.{List, ℕ, sym, subst}
use Rattle.mls_command.specs.Telling.{location_of, source_of, IsLocationTold}
use Rattle.mls_command.proofs.TellingLemmas.{location_told_more}
use Rattle.mls_command.proofs.telling.lines_of.Goals as goal

pub returns : goal.returns
returns g c =
    let is : List ℕ → Type 0 = IsLocationTold (source_of c.args.job c.args.reason.now) (location_of c.args.reason.now)
    in
    subst is (sym c.in_ok-push_str-2.ensures.bytes) (location_told_more _ _ _ _
    (subst is (sym c.in_ok-push_str.ensures.bytes) (location_told_more _ _ _ _ c.in_ok-text.ensures)))
