use Rattle.std.proofs.Common.{arith}
use Rattle.mls_lives.proofs.told_bits_bound_calls.Goals as goal

-- the lists are at most so many, and so many bits tell as many apart
pub returns : goal.returns
returns c policy tx secure releases are counted bits has schemes read label =
    let some = are.counted counted policy schemes label in
    let few = c.calls_tell_few.ensures policy tx secure releases.told are.told schemes read label some.0 some.2 in
    record {
      class = few.class;
      few = λ w. omega (arith, few.few w, some.1, has.enough);
      alike = few.alike;
    }
