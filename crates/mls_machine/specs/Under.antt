-- What replies are printed under.
use Rattle.std.specs.Prelude.{[]}
use Rattle.mls_lattice.specs.Policy.{Policy}
use Rattle.mls_scheme.specs.Scheme.{Schemes}
use Rattle.mls_certcheck.specs.Site.{Site}

-- no stored transaction plays a part
abbrev pub site_under : Policy → Schemes → Site
site_under policy schemes = record { policy = policy; schemes = schemes; stored = [] }
