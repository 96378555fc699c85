use Rattle.std.proofs.Common.{arith}
use Rattle.mls_scheme.proofs.KeyLemmas.{is_value_found, is_value_only}
use Rattle.mls_scheme.proofs.key_reading.value_of.Goals as goal

pub returns-clause-found : goal.returns-clause-found
returns-clause-found c = is_value_found c.args.bytes.now c.sized_front_of.result
    (λ i. omega (arith, c.type_inv.bytes i)) c.sized_front_of.ensures.exact

pub returns-clause-only : goal.returns-clause-only
returns-clause-only c = is_value_only c.args.bytes.now c.sized_front_of.result c.sized_front_of.ensures.exact c.sized_front_of.ensures.taken
