-- What an evaluation reads.
use Rattle.std.specs.Prelude.{None, reverse, slice_index_or}
use Rattle.mls_translang.specs.Expressions.{Environment}
use Rattle.mls_trusted.specs.declared.environment.Environment as of_environment

-- the rows of loops stand the outermost first
abbrev pub env_of : of_environment.Environment → Environment
env_of e = record { args = e.args.now; rows = reverse e.rows.now; vars = λ i. slice_index_or e.vars.now i None }
