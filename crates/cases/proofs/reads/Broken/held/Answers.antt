use Rattle.std.proofs.Common.{sym, subst}
use Rattle.mls_filterview.specs.View.{IsAmong}
use Rattle.cases.proofs.AskedLemmas.{found_among}
use Rattle.cases.proofs.reads.Broken.held.Goals as goal

pub returns-then-contains-clause-access : goal.returns-then-contains-clause-access
returns-then-contains-clause-access c =
    let there = found_among c.args.self.now.broken c.args.labels.now (sym c.if-contains.ensures.value) in
    record {
      reads = λ m out h. absurd (out (subst (λ k. IsAmong k c.args.labels.now) (sym h.0) there));
      changes = λ m u h. h;
    }
