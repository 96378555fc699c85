-- What the fields of schemes say, or the first fault.
use Rattle.std.specs.Prelude.{ℕ, Bool, true, ◌&&◌, nat_eq, List, [], ◌∷◌, ◌++◌, codes, if◌then◌else◌, ◌==◌, Result, Ok}
use Rattle.std.specs.Prelude.{Err, ok_or, position, bytes_eq}
use Rattle.std.specs.List.{list_any}
use Rattle.toml.specs.Data.{Data, Items, no_items, item, Members, get_member}
use Rattle.mls_lattice.specs.declared.fault.FieldFault.TheVariants.{Repeated, UnknownName, EmptyInterval}
use Rattle.mls_lattice.specs.Labels.{below}
use Rattle.mls_lattice.specs.Policy.{Name, Policy, Named, labels_of}
use Rattle.mls_lattice.specs.declared.version.Version.{Version}
use Rattle.mls_lattice.specs.Reading.{◌>>=◌, wanted, text_at, version_at, table_at, name_at, tables_at, optional}
use Rattle.mls_lattice.specs.Reading.{items_len, bounded, some_of}
use Rattle.mls_scheme.specs.declared.fault.SchemeFault.{SchemeFault}
use Rattle.mls_scheme.specs.declared.fault.FileFault.{FileFault}
use Rattle.mls_scheme.specs.declared.fault.FileFault.TheVariants.{Field, NoKey, KeyIntervals}
use Rattle.mls_scheme.specs.declared.value.Kind.{Kind}
use Rattle.mls_scheme.specs.declared.value.Kind.TheVariants.{Int, Text}
use Rattle.mls_scheme.specs.declared.attributes.Column.{Column}
use Rattle.mls_scheme.specs.Fault.{scheme_fault_of}
use Rattle.mls_scheme.specs.Scheme.{Attribute, Scheme, Schemes}
use Rattle.mls_scheme.specs.Named.{has_name}

-- the same answer, with its fault told as another
abbrev pub lift : {X E F : Type 0} → (E → F) → Result X E → Result X F
lift told (Ok x) = Ok x
lift told (Err e) = Err (told e)

-- what the items say, each after those before it
abbrev pub gather : {A : Type 0} → (List A → Data → Result A FileFault) → List A → Items → Result (List A) FileFault
gather step before no_items = Ok before
gather step before (item d ds) = step before d >>= λ a. gather step (before ++ a ∷ []) ds

-- ---- single fields

abbrev pub name_field : Name → Members → Result Name FileFault
name_field key fields = lift Field (wanted key fields >>= name_at)

abbrev pub text_field : Name → Members → Result Name FileFault
text_field key fields = lift Field (wanted key fields >>= text_at)

abbrev pub kind_named : Name → Result Kind FileFault
kind_named word = if bytes_eq word (codes "int") then Ok Int else (if bytes_eq word (codes "text") then Ok Text else Err
    (Field UnknownName))

-- the number of the label of a name
abbrev pub label_named : List Named → Name → Result ℕ FileFault
label_named labels name = ok_or (position (λ l. bytes_eq l.name name) labels) (Field UnknownName)

abbrev pub label_field : List Named → Name → Members → Result ℕ FileFault
label_field labels key fields = name_field key fields >>= label_named labels

-- ---- attributes

-- the kind and the interval, which isn't empty
unfoldable pub column_at : Policy → Members → Result Column FileFault
column_at p fields = do
  word ← text_field (codes "kind") fields
  kind ← kind_named word
  low ← label_field p.labels (codes "low") fields
  high ← label_field p.labels (codes "high") fields
  if below (labels_of p) low high then Ok (record { kind = kind; low = low; high = high }) else Err
      (Field EmptyInterval)

abbrev pub new_name : Bool → Result (Unit {0}) FileFault
new_name taken = if taken then Err (Field Repeated) else Ok tt

-- an attribute with a name that those before don't have
unfoldable pub attribute_at : Policy → List Attribute → Data → Result Attribute FileFault
attribute_at p before d = do
  fields ← lift Field (table_at d)
  name ← name_field (codes "name") fields
  new ← new_name (has_name before name)
  column ← column_at p fields
  Ok (name, column)

-- the interval of the first key attribute, where there is one
abbrev pub has_key_interval : List Attribute → Column → Bool
has_key_interval [] c = true
has_key_interval (k ∷ ks) c = nat_eq k.1.low c.low && nat_eq k.1.high c.high

-- a key attribute after those before
unfoldable pub key_at : Policy → List Attribute → Data → Result Attribute FileFault
key_at p before d = attribute_at p before d >>= λ a. if has_key_interval before a.1 then Ok a else Err KeyIntervals

-- an attribute outside the key, after the key and those before
unfoldable pub other_at : Policy → List Attribute → List Attribute → Data → Result Attribute FileFault
other_at p keys before d = attribute_at p (keys ++ before) d

-- ---- relations

-- from 1 to 4 tables
unfoldable pub key_items : Members → Result Items FileFault
key_items fields = do
  ds ← lift Field (optional tables_at (get_member (codes "key") fields))
  if items_len ds == 0 then Err NoKey else lift Field (bounded 4 ds)

-- up to 15 tables
unfoldable pub other_items : Members → Result Items FileFault
other_items fields = lift Field (optional tables_at (get_member (codes "attribute") fields) >>= bounded 15)

abbrev pub has_relation : Schemes → Name → Bool
has_relation schemes name = list_any (λ s. bytes_eq s.name name) schemes

-- the key attributes, and those outside the key
unfoldable pub attributes_at : Policy → Members → Result (List Attribute × List Attribute) FileFault
attributes_at p fields = do
  key_tables ← key_items fields
  keys ← gather (key_at p) [] key_tables
  other_tables ← other_items fields
  others ← gather (other_at p keys) [] other_tables
  Ok (keys, others)

-- a relation with a name that those before don't have
unfoldable pub scheme_at : Policy → Schemes → Data → Result Scheme FileFault
scheme_at p before d = do
  fields ← lift Field (table_at d)
  name ← name_field (codes "name") fields
  new ← new_name (has_relation before name)
  attributes ← attributes_at p fields
  Ok (record { name = name; keys = attributes.0; others = attributes.1 })

-- from 1 to 64 tables
unfoldable pub relation_items : Members → Result Items FileFault
relation_items document = lift Field (wanted (codes "relation") document >>= tables_at >>= some_of 64)

-- all that a document says
unfoldable pub file_at : Policy → Members → Result (Version × Schemes) FileFault
file_at p document = do
  version ← lift Field (version_at document)
  tables ← relation_items document
  schemes ← gather (scheme_at p) [] tables
  Ok (version, schemes)

-- the same, with the fault that is told
abbrev pub schemes_at : Policy → Members → Result (Version × Schemes) SchemeFault
schemes_at p document = lift scheme_fault_of (file_at p document)
