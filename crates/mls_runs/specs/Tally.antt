-- Inner: no public contract names these. How lines are counted, one after another.
use Rattle.std.specs.Prelude.{◌+◌}
use Rattle.mls_host.specs.declared.telling.Tally.{Tally}
use Rattle.mls_runs.specs.declared.tally.Verdict.{Verdict}
use Rattle.mls_runs.specs.declared.tally.Verdict.TheVariants.{Silent, Done, Refused, Misunderstood}

abbrev pub tally_with : Tally → Verdict → Tally
tally_with t Silent = t
tally_with t Done = record t { lines = t.lines + 1 }
tally_with t Refused = record t { lines = t.lines + 1; refused = t.refused + 1 }
tally_with t Misunderstood = record t { lines = t.lines + 1; misunderstood = t.misunderstood + 1 }
