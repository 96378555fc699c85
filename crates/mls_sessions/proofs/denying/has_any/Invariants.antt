use Rattle.std.proofs.Common.{◌≡◌, ◌==◌, drop, bit_and, map}
use Rattle.std.specs.List.{list_any}
use Rattle.mls_sessions.proofs.denying.has_any.Given as goal

abbrev pub invariant-loop-mode : goal.invariant-loop-mode
invariant-loop-mode l = list_any (λ mode. bit_and l.granted.0 mode == mode) (map (λ m. m.0) (drop l.mode-index l.modes))
    ≡ list_any (λ mode. bit_and l.granted.0 mode == mode) (map (λ m. m.0) l.modes)
