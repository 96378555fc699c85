-- Events, and the numbers and kinds that each event of a script keeps to.
use Rattle.std.specs.Prelude.{◌≡◌, ℕ, ◌<◌, ◌≤◌, Bool, true, nat_eq, List, map, length, Option, None, IfSome, ⊤}
use Rattle.std.specs.List.{AllByRecursion, IsDistinct}
use Rattle.mls_lattice.specs.Name.{is_name}
use Rattle.mls_lattice.specs.Policy.{Policy}
use Rattle.mls_lattice.specs.Time.{is_time}
use Rattle.mls_scheme.specs.declared.value.Kind.{Kind}
use Rattle.mls_scheme.specs.declared.value.Value.{Value}
use Rattle.mls_scheme.specs.Value.{fits_kind}
use Rattle.mls_scheme.specs.declared.write.Write.{Write as WriteOf}
use Rattle.mls_scheme.specs.declared.write.Write.TheVariants.{Insert, Update, Delete}
use Rattle.mls_scheme.specs.Scheme.{Scheme, Schemes, scheme_of, other_of}
use Rattle.mls_scheme.specs.Fits.{HaveKinds}
use Rattle.mls_translang.specs.Fits.{IsConditionOf}
use Rattle.mls_translang.specs.declared.query.Query.{Query}
use Rattle.mls_translang.specs.declared.event.Event.{Event}
use Rattle.mls_translang.specs.declared.event.Command.{Command}
use Rattle.mls_translang.specs.declared.event.Command.TheVariants.{Open, Close, Audit, View, Dump, Write, Call, All}
use Rattle.mls_translang.specs.declared.event.One.{One}
use Rattle.mls_translang.specs.declared.event.One.TheVariants as ones

-- new values of attributes outside the key, by their numbers
abbrev pub Sets : Type 0
Sets = List (ℕ × Option Value)

-- at least one value; each for an attribute outside the key, none twice, of its kind
pub record SetsFit (scheme : Scheme) (sets : Sets) : Type 0 where
  pub some : 0 < length sets
  pub known : AllByRecursion (λ s. s.0 < length scheme.others) sets
  pub distinct : IsDistinct nat_eq (map (λ s. s.0) sets)
  pub kinds : AllByRecursion (λ s. fits_kind s.1 (other_of scheme s.0).1.kind ≡ true) sets

-- a value of some kind, or null
abbrev pub HasSomeKind : Option Value → Type 0
HasSomeKind v = (k : Kind) × (fits_kind v k ≡ true)

-- a query on the rows of a relation; where they are counted it asks for no first ones
pub record QueryFits (policy : Policy) (schemes : Schemes) (relation : ℕ) (query : Query) (counts : Bool) : Type 0 where
  pub class : IfSome query.class (λ c. c.label < length policy.labels)
  pub test : IfSome query.test (IsConditionOf schemes relation)
  pub whole : counts ≡ true → query.first ≡ None

-- operands by number and kind, and declared labels
abbrev pub IsWriteOf : Policy → Scheme → WriteOf (Option Value) → Type 0
IsWriteOf policy scheme (Insert key values) = HaveKinds scheme.keys key × HaveKinds scheme.others values
IsWriteOf policy scheme (Update key key_class from sets) =
    HaveKinds scheme.keys key × (key_class < length policy.labels) × (from < length policy.labels) × SetsFit scheme sets
IsWriteOf policy scheme (Delete key key_class) = HaveKinds scheme.keys key × (key_class < length policy.labels)

-- a relation and a label that are declared, and a query on its rows
abbrev pub LookFits : Policy → Schemes → ℕ → ℕ → Query → Bool → Type 0
LookFits policy schemes relation label query counts =
    (relation < length schemes) × (label < length policy.labels) × QueryFits policy schemes relation query counts

-- a relation that is declared, and a write of it
abbrev pub IsWriteUnder : Policy → Schemes → ℕ → WriteOf (Option Value) → Type 0
IsWriteUnder policy schemes relation write =
    (relation < length schemes) × IsWriteOf policy (scheme_of schemes relation) write

-- one of the commands of a batch
abbrev pub OneFits : Policy → Schemes → One → Type 0
OneFits policy schemes (ones.View relation label query counts) = LookFits policy schemes relation label query counts
OneFits policy schemes (ones.Expect rows relation label query) = LookFits policy schemes relation label query true
OneFits policy schemes (ones.Write relation write) = IsWriteUnder policy schemes relation write

-- how many commands a batch has at most
abbrev pub most_ones : ℕ
most_ones = 1000

-- the commands of a batch: at least one, and no more than most
pub record BatchFits (policy : Policy) (schemes : Schemes) (batch : List One) : Type 0 where
  pub some : 0 < length batch
  pub most : length batch ≤ most_ones
  pub each : AllByRecursion (OneFits policy schemes) batch

abbrev pub CommandFits : Policy → Schemes → Command → Type 0
CommandFits policy schemes (Open user) = is_name user ≡ true
CommandFits policy schemes Close = ⊤
CommandFits policy schemes Audit = ⊤
CommandFits policy schemes (View relation label query counts) = LookFits policy schemes relation label query counts
CommandFits policy schemes (Dump relation) = relation < length schemes
CommandFits policy schemes (Write relation write) = IsWriteUnder policy schemes relation write
CommandFits policy schemes (Call tx args) = (is_name tx ≡ true) × AllByRecursion HasSomeKind args
CommandFits policy schemes (All batch) = BatchFits policy schemes batch

pub record EventFits (policy : Policy) (schemes : Schemes) (e : Event) : Type 0 where
  pub level : e.level < length policy.labels
  pub session : is_name e.session ≡ true
  pub timed : IfSome e.time (λ t. is_time t ≡ true)
  pub command : CommandFits policy schemes e.command
