-- The lines of events, as a person would write them.
use Rattle.std.specs.Prelude.{ℕ, ◌<◌, nat_le, Bool, true, false, ◌&&◌, List, [], ◌∷◌, ◌++◌, length, codes}
use Rattle.std.specs.Prelude.{Option, None, Some, ⊤, flat_map, is_none}
use Rattle.std.specs.List.{list_all, AllByRecursion}
use Rattle.std.specs.Fmt.{signed_decimal}
use Rattle.mls_lattice.specs.Canon.{label_name}
use Rattle.mls_lattice.specs.Policy.{Name, Policy}
use Rattle.mls_scheme.specs.declared.value.Value.{Value}
use Rattle.mls_scheme.specs.declared.value.Value.TheVariants as values
use Rattle.mls_scheme.specs.declared.write.Write.TheVariants.{Insert, Update}
use Rattle.mls_scheme.specs.Scheme.{Scheme, Schemes, scheme_of, other_of}
use Rattle.mls_tokens.specs.Writing.{quoted}
use Rattle.mls_translang.specs.declared.event.Event.{Event}
use Rattle.mls_translang.specs.declared.event.Command.{Command}
use Rattle.mls_translang.specs.declared.event.Command.TheVariants.{Write}

-- ---- values

abbrev pub value_text : Value → List ℕ
value_text (values.Int n) = signed_decimal n
value_text (values.Text s) = quoted s

abbrev pub cell_text : Option Value → List ℕ
cell_text None = codes "null"
cell_text (Some v) = value_text v

abbrev pub behind_comma : {X : Type 0} → (X → List ℕ) → X → List ℕ
behind_comma text x = codes ", " ++ text x

-- with a comma between each two
abbrev pub listed : {X : Type 0} → (X → List ℕ) → List X → List ℕ
listed text [] = []
listed text (x ∷ xs) = text x ++ flat_map (behind_comma text) xs

abbrev pub list_text : List (Option Value) → List ℕ
list_text vs = codes "(" ++ listed cell_text vs ++ codes ")"

-- an attribute outside the key, and its new value
abbrev pub set_text : Scheme → ℕ × Option Value → List ℕ
set_text scheme s = (other_of scheme s.0).0 ++ codes " = " ++ cell_text s.1

-- ---- lines

-- the name of a relation by its number
abbrev pub relation_name : Schemes → ℕ → Name
relation_name schemes relation = (scheme_of schemes relation).name

-- a verb, a relation and a key of it
abbrev pub keyed : Schemes → List ℕ → ℕ → List (Option Value) → List ℕ
keyed schemes verb relation key = verb ++ relation_name schemes relation ++ codes " key " ++ list_text key

module _ (policy : Policy) (schemes : Schemes) where
  -- inserts and updates are written, and no other command
  abbrev pub command_text : Command → List ℕ
  command_text (Write relation (Insert key values)) = keyed schemes (codes "insert ") relation key ++ codes " values "
      ++ list_text values
  command_text (Write relation (Update key key_class from sets)) =
      keyed schemes (codes "update ") relation key
      ++ codes " class " ++ label_name policy.labels key_class ++ codes " from " ++ label_name policy.labels from
      ++ codes " set " ++ listed (set_text (scheme_of schemes relation)) sets
  command_text command = []

  -- without its line feed
  abbrev pub line_text : Event → List ℕ
  line_text e = label_name policy.labels e.level ++ codes " " ++ e.session ++ codes " " ++ command_text e.command

  -- each with its line feed
  abbrev pub lines_text : List Event → List ℕ
  lines_text = flat_map (λ e. line_text e ++ 10 ∷ [])

  -- ---- what has a name

  abbrev pub HasKnownNumbers : Command → Type 0
  HasKnownNumbers (Write relation (Insert key values)) = relation < length schemes
  HasKnownNumbers (Write relation (Update key key_class from sets)) =
      (relation < length schemes) × (key_class < length policy.labels) × (from < length policy.labels)
      × AllByRecursion (λ s. s.0 < length (scheme_of schemes relation).others) sets
  HasKnownNumbers command = ⊤

  -- the numbers that a line writes are those of labels, relations and attributes
  pub record IsKnown (e : Event) : Type 0 where
    pub level : e.level < length policy.labels
    pub command : HasKnownNumbers e.command

-- ---- what a script can hold

-- a text between quotes has at most 8,192 bytes
abbrev pub is_writable_text : List ℕ → Bool
is_writable_text s = nat_le (length s) 8192

abbrev pub is_writable_value : Option Value → Bool
is_writable_value (Some (values.Text s)) = is_writable_text s
is_writable_value v = true

abbrev pub are_writable : List (Option Value) → Bool
are_writable = list_all is_writable_value

abbrev pub is_writable_command : Command → Bool
is_writable_command (Write relation (Insert key values)) = are_writable key && are_writable values
is_writable_command (Write relation (Update key key_class from sets)) =
    are_writable key && list_all (λ s. is_writable_value s.1) sets
is_writable_command command = false

-- lines that are written have no time
abbrev pub is_writable : Event → Bool
is_writable e = is_none e.time && is_writable_command e.command
