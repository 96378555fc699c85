use Rattle.std.proofs.Common.{◌≡◌, None, drop}
use Rattle.mls_updates.specs.Writes.{set_element}
use Rattle.mls_updates.proofs.outline.outline_element.Given as goal

abbrev pub invariant-loop-set : goal.invariant-loop-set
invariant-loop-set l =
    set_element l.w (drop l.set-index l.sets) l.attr (record { value = None; class = l.class })
    ≡ set_element l.w l.sets l.attr (record { value = None; class = l.class })
