use Rattle.std.proofs.Common.{◌≡◌, ◌*ℤ◌, ◌∙◌, subst, arith, w64, to_z, of_z, to_z-of_z, FitsSigned, SomeIff}
use Rattle.mls_translang.specs.Expressions.{value_of}
use Rattle.mls_queries.specs.Data.{datum_of}
use Rattle.mls_queries.proofs.DataLemmas.{of_numbers}
use Rattle.mls_queries.proofs.operator.times.Goals as goal

pub returns : goal.returns
returns c =
    let first : to_z w64 (of_z w64 c.in-Some.first) ≡ c.in-Some.first = grind (arith, to_z-of_z) in
    let second : to_z w64 (of_z w64 c.in-Some-as_number.second) ≡ c.in-Some-as_number.second = grind (arith, to_z-of_z)
    in
    c.number.ensures
    ∙ of_numbers ◌*ℤ◌ (value_of (datum_of c.args.left))
    (value_of (datum_of c.args.right)) c.in-Some.first c.in-Some-as_number.second c.checked_mul.result c.in-Some.ensures c.in-Some-as_number.ensures
    (subst (λ n. SomeIff c.checked_mul.result (FitsSigned w64 n) n) (λ i. first i *ℤ second i) c.checked_mul.ensures)
