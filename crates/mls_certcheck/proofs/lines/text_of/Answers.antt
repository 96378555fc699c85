use Rattle.std.proofs.Common.{List, ℕ, ◌+◌, subst}
use Rattle.mls_lattice.specs.Reading.{Shows}
use Rattle.mls_certcheck.specs.Reading.{whole_in}
use Rattle.mls_certcheck.proofs.ReadingSteps.{left_lent}
use Rattle.mls_certcheck.proofs.lines.text_of.Goals as goal

pub returns-clause-reads : goal.returns-clause-reads
returns-clause-reads c =
    subst (λ (ls : List (List ℕ)). Shows (λ x. x.now) c.whole_of.result (whole_in (c.args.place + 1) ls))
    (left_lent c.args.lines.now c.args.place) c.whole_of.ensures.reads
