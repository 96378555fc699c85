use Rattle.std.proofs.Common.{◌≡◌, ◌++◌, drop, string_bytes, flat_map}
use Rattle.std.specs.List.{enumerate_from}
use Rattle.mls_explain.specs.Telling.{variable_line, variable_lines}
use Rattle.mls_explain.proofs.teller.Teller.variables_to.Given as goal

-- what was told, with what is left, is all
abbrev pub invariant-loop-place : goal.invariant-loop-place
invariant-loop-place l =
    string_bytes l.text ++ flat_map (variable_line l.self.policy.now l.self.tx.now.vars)
    (enumerate_from l.place (drop l.place l.labels)) ≡ string_bytes l.initial.text
    ++ variable_lines l.self.policy.now l.self.tx.now.vars l.labels
