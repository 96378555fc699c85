use Rattle.std.proofs.Common.{◌≡◌, take}
use Rattle.mls_certcheck.specs.Meaning.{values_set}
use Rattle.mls_trusted.specs.Environment.{env_of}
use Rattle.mls_trusted.proofs.operand.sets_of.Given as goal

abbrev pub invariant-loop-attribute : goal.invariant-loop-attribute
invariant-loop-attribute l = l.values.items ≡ values_set (env_of l.env) (take l.attribute-index l.sets)
