use Rattle.toml.specs.View.{view}
use Rattle.mls_lattice.proofs.ReadingLemmas.{Shows-ok_or}
use Rattle.mls_lattice.proofs.document.wanted.Goals as goal

pub returns : goal.returns
returns c = Shows-ok_or (λ v. view v.now) _ _ _ _ c.field.ensures c.ok_or.ensures.value
