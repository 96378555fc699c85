use Rattle.std.proofs.Common.{ap, map, ◌∙◌}
use Rattle.mls_scheme.specs.Named.{item_of}
use Rattle.mls_scheme.proofs.NamedLemmas.{pushed}
use Rattle.mls_scheme.proofs.named.Named.push.Goals as goal

pub returns-in-Ok : goal.returns-in-Ok
returns-in-Ok g c =
    rw (← c.self.view_is)
    (ap (map item_of) c.in-Ok.ensures.entries ∙ pushed c.self.inside.map.entries c.args.name c.args.item
    (rw c.self.view_is c.requires))
