-- What a field of a document says, or its fault.
use Rattle.std.specs.Prelude.{◌≡◌, ℕ, suc, ℤ, pos, codes, List, Bool, true, nat_lt, ◌==◌, ◌&&◌, if◌then◌else◌, Option}
use Rattle.std.specs.Prelude.{Some, None, is_some, Result, Ok, Err, ok_or}
use Rattle.std.specs.Ordering.{int_eq}
use Rattle.toml.specs.Data.{Data, Items, no_items, item, Members, get_member, as_str, as_integer, as_array, as_table}
use Rattle.mls_lattice.specs.declared.failed.Failed.{Failed}
use Rattle.mls_lattice.specs.declared.failed.Failed.TheVariants.{Fault}
use Rattle.mls_lattice.specs.declared.fault.FieldFault.{FieldFault}
use Rattle.mls_lattice.specs.declared.fault.FieldFault.TheVariants.{MissingField, WrongKind, TooMany, BadName}
use Rattle.mls_lattice.specs.declared.version.Version.{Version}
use Rattle.mls_lattice.specs.declared.version.Version.TheVariants.{One, Two}
use Rattle.mls_lattice.specs.Name.{is_name}

-- one step after another, up to the first fault
infixl 10 ◌>>=◌
abbrev pub ◌>>=◌ : {A B E : Type 0} → Result A E → (A → Result B E) → Result B E
(Ok x) >>= f = f x
(Err e) >>= f = Err e

-- What a function returned, seen by view, is what reading gives: its value, or the fault that the error tells.
abbrev pub GivesBy : {E F X Y : Type 0} → (E → (F → Type 0) → Type 0) → (X → Y) → Result X E → Result Y F → Type 0
GivesBy Tells view (Ok x) read = read ≡ Ok (view x)
GivesBy Tells view (Err e) read = Tells e (λ fault. read ≡ Err fault)

-- Of functions that need no memory, and of those whose want of it is told apart by a type, or by a test.
abbrev pub Shows : {F X Y : Type 0} → (X → Y) → Result X F → Result Y F → Type 0
Shows = GivesBy (λ fault Says. Says fault)

abbrev pub Gives : {F X Y : Type 0} → (X → Y) → Result X (Failed F) → Result Y F → Type 0
Gives = GivesBy (λ failed Says. (fault : _) → failed ≡ Fault fault → Says fault)

abbrev pub GivesUnless : {E X Y : Type 0} → (E → Type 0) → (X → Y) → Result X E → Result Y E → Type 0
GivesUnless OutOfMemory = GivesBy (λ e Says. (OutOfMemory e → ⊥) → Says e)

-- the value at a key
abbrev pub wanted : List ℕ → Members → Result Data FieldFault
wanted key fields = ok_or (get_member key fields) MissingField

abbrev pub text_at : Data → Result (List ℕ) FieldFault
text_at d = ok_or (as_str d) WrongKind

abbrev pub integer_at : Data → Result ℤ FieldFault
integer_at d = ok_or (as_integer d) WrongKind

abbrev pub array_at : Data → Result Items FieldFault
array_at d = ok_or (as_array d) WrongKind

abbrev pub table_at : Data → Result Members FieldFault
table_at d = ok_or (as_table d) WrongKind

-- a text that is a name
abbrev pub name_at : Data → Result (List ℕ) FieldFault
name_at d = text_at d >>= λ text. if is_name text then Ok text else Err BadName

-- the version, which is 1 or 2
unfoldable pub version_at : Members → Result Version FieldFault
version_at document = do
  d ← wanted (codes "version") document
  n ← integer_at d
  if int_eq n (pos 1) then Ok One else if int_eq n (pos 2) then Ok Two else Err WrongKind

-- the name at a key
abbrev pub name_field : List ℕ → Members → Result (List ℕ) FieldFault
name_field key fields = wanted key fields >>= name_at

abbrev pub items_len : Items → ℕ
items_len no_items = 0
items_len (item d ds) = suc (items_len ds)

abbrev pub all_items : (Data → Bool) → Items → Bool
all_items p no_items = true
all_items p (item d ds) = p d && all_items p ds

-- an array of texts, and one of tables
abbrev pub texts_at : Data → Result Items FieldFault
texts_at d = array_at d >>= λ ds. if all_items (λ x. is_some (as_str x)) ds then Ok ds else Err WrongKind

abbrev pub tables_at : Data → Result Items FieldFault
tables_at d = array_at d >>= λ ds. if all_items (λ x. is_some (as_table x)) ds then Ok ds else Err WrongKind

-- the same of a field that may be missing: then there are no items
abbrev pub optional : (Data → Result Items FieldFault) → Option Data → Result Items FieldFault
optional read None = Ok no_items
optional read (Some d) = read d

-- no more items than these
abbrev pub bounded : ℕ → Items → Result Items FieldFault
bounded most ds = if nat_lt most (items_len ds) then Err TooMany else Ok ds

-- as many, and one at least
abbrev pub some_of : ℕ → Items → Result Items FieldFault
some_of most ds = if items_len ds == 0 then Err MissingField else bounded most ds
