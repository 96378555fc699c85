use Rattle.std.proofs.Common.{◌∙◌}
use Rattle.mls_scheme.proofs.NamedLemmas.{place_of_name}
use Rattle.mls_scheme.proofs.named.Named.place.Goals as goal

pub returns-clause-exact : goal.returns-clause-exact
returns-clause-exact g c = rw (← c.self.view_is) (c.get_index_of.ensures.index
    ∙ place_of_name c.self.inside.map.entries c.args.name.now)
