use Rattle.std.specs.List.{AllByRecursion}
use Rattle.mls_translang.specs.Fits.{IsReadUnder}
use Rattle.mls_certcheck.specs.Stored.{tx_of, IsCertifiedUnder}
use Rattle.cases.proofs.faults.stored.all_certified.Given as goal

abbrev pub invariant-loop-tx : goal.invariant-loop-tx
invariant-loop-tx l = record {
  read : AllByRecursion (λ s. IsReadUnder l.sample.policy.now l.sample.schemes.now (tx_of s)) l.stored.items;
  certified : AllByRecursion (IsCertifiedUnder l.sample.policy.now) l.stored.items;
  rest : AllByRecursion (IsReadUnder l.sample.policy.now l.sample.schemes.now) l.tx-iterator.rest.items;
}
