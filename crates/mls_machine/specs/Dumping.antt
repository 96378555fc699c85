-- The commands that make tuples again.
use Rattle.std.specs.Prelude.{ℕ, suc, not, ◌&&◌, if◌then◌else◌, nat_eq, nat_lt, List, [], ◌∷◌, map, length, Some, None}
use Rattle.std.specs.Prelude.{filter}
use Rattle.mls_lattice.specs.Labels.{Labels}
use Rattle.mls_lattice.specs.Policy.{Name}
use Rattle.mls_scheme.specs.declared.tuple.Element.{Element}
use Rattle.mls_scheme.specs.declared.tuple.Tuple.{Tuple}
use Rattle.mls_filterview.specs.Filtering.{greatest_from, class_number}
use Rattle.mls_scheme.specs.declared.write.Write.TheVariants.{Insert, Update}
use Rattle.mls_translang.specs.declared.event.Event.{Event}
use Rattle.mls_translang.specs.declared.event.Command.{Command}
use Rattle.mls_translang.specs.declared.event.Command.TheVariants.{Write}
use Rattle.mls_translang.specs.Event.{Sets}
use Rattle.mls_certcheck.specs.Site.{Site, site_labels, site_scheme}

-- the values of class m, each with the number of its attribute, counted from k; there are n attributes
abbrev pub own_sets : ℕ → ℕ → ℕ → List Element → Sets
own_sets m n k [] = []
own_sets m n k (e ∷ es) =
    if nat_eq e.class m && nat_lt k n then (k, e.value) ∷ own_sets m n (suc k) es else own_sets m n (suc k) es

-- the greatest of the classes of a tuple but for m
abbrev pub class_below : Labels → ℕ → Tuple → ℕ
class_below ls m t = greatest_from ls t.key_class (filter (λ e. not (nat_eq e.class m)) t.elements)

module _ (site : Site) where
  -- the command that makes a tuple of class m at that level: a root is inserted, any other is derived
  abbrev pub dump_command : ℕ → ℕ → Tuple → Command
  dump_command relation m t =
      if nat_eq m t.key_class then Write relation (Insert (map Some t.key) (map (λ e. e.value) t.elements))
      else Write relation (Update (map Some t.key) t.key_class (class_below (site_labels site) m t)
      (own_sets m (length (site_scheme site relation).others) 0 t.elements))

  -- the event that makes a tuple: in a session of this name at the class of the tuple
  abbrev pub dump_event : Name → ℕ → Tuple → Event
  dump_event session relation t = record {
    level = class_number (site_labels site) t;
    session = session;
    time = None;
    command = dump_command relation (class_number (site_labels site) t) t;
  }
