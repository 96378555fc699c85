use Rattle.std.proofs.Common.{ap, sym, ◌∙◌, arith, Ok}
use Rattle.mls_scheme.proofs.KeyLemmas.{front}
use Rattle.mls_scheme.proofs.key_reading.sized_front_of.Goals as goal

pub overflow_sub-result : goal.overflow_sub-result
overflow_sub-result c = (front c.args.bytes.now c.in_ok-value.value c.in_ok-value.rest.now
    (λ i. omega (arith, c.type_inv.bytes i)) c.in_ok-value.ensures).within

pub returns-clause-taken : goal.returns-clause-taken
returns-clause-taken c = (front c.args.bytes.now c.in_ok-value.value c.in_ok-value.rest.now
    (λ i. omega (arith, c.type_inv.bytes i)) c.in_ok-value.ensures).taken

pub returns-clause-exact : goal.returns-clause-exact
returns-clause-exact c = c.in_ok-value.ensures ∙ ap (λ rest. Ok (c.in_ok-value.value, rest))
    (sym (front c.args.bytes.now c.in_ok-value.value c.in_ok-value.rest.now
    (λ i. omega (arith, c.type_inv.bytes i)) c.in_ok-value.ensures).after)
