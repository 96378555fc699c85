-- Entries as bytes: each has one spelling.
use Rattle.std.specs.Prelude.{◌≡◌, ⊤, ℕ, suc, ◌<◌, true, List, [], ◌∷◌, ◌++◌, length, Option, None, Some, IsUtf8}
use Rattle.std.specs.Prelude.{IfSome}
use Rattle.mls_lattice.specs.Time.{is_time}
use Rattle.mls_scheme.specs.declared.value.Value.{Value}
use Rattle.mls_scheme.specs.Spelling as values
use Rattle.mls_audit.specs.Entry.{label_of}
use Rattle.mls_audit.specs.declared.entry.Deed.{Deed}
use Rattle.mls_audit.specs.declared.entry.Deed.TheVariants.{Called, Denied, Released}
use Rattle.mls_audit.specs.declared.entry.Entry.{Entry}

-- a length of one byte, and the text
abbrev pub name_spelling : List ℕ → List ℕ
name_spelling name = length name ∷ name

-- 0 for null
abbrev pub nullable_spelling : Option Value → List ℕ
nullable_spelling None = 0 ∷ []
nullable_spelling (Some v) = values.value_spelling v

-- the bytes of a time are its text
abbrev pub time_spelling : Option (List ℕ) → List ℕ
time_spelling None = []
time_spelling (Some time) = time

-- what an entry tells: a name, a code or a value
abbrev pub deed_spelling : Deed → List ℕ
deed_spelling (Called transaction) = name_spelling transaction
deed_spelling (Denied code) = code ∷ []
deed_spelling (Released value) = nullable_spelling value

abbrev pub deed_number : Deed → ℕ
deed_number (Called transaction) = 1
deed_number (Denied code) = 2
deed_number (Released value) = 3

-- the number of what is told; three more where there is a time
abbrev pub tag_of : Option (List ℕ) → ℕ → ℕ
tag_of None number = number
tag_of (Some time) number = suc (suc (suc number))

-- a label, any time, and the names of a user and a session
abbrev pub head_spelling : ℕ → Option (List ℕ) → List ℕ → List ℕ → List ℕ
head_spelling label time user session = label ∷ (time_spelling time ++ (name_spelling user ++ name_spelling session))

-- a tag before, and what the entry tells behind
abbrev pub entry_spelling : Entry → List ℕ
entry_spelling e = tag_of e.time (deed_number e.deed) ∷ (head_spelling e.label e.time e.user e.session
    ++ deed_spelling e.deed)

-- a label of one byte, and a time and names in UTF-8
abbrev pub IsHead : ℕ → Option (List ℕ) → List ℕ → List ℕ → Type 0
IsHead label time user session = (label < 256) × IfSome time IsUtf8 × IsUtf8 user × IsUtf8 session

-- a name in UTF-8, a number of one byte, or a value or null
abbrev pub IsDeed : Deed → Type 0
IsDeed (Called transaction) = IsUtf8 transaction
IsDeed (Denied code) = code < 256
IsDeed (Released value) = IfSome value values.IsValue

abbrev pub IsEntry : Entry → Type 0
IsEntry e = IsHead e.label e.time e.user e.session × IsDeed e.deed

-- a name has at most 255 bytes
abbrev pub IsShortName : List ℕ → Type 0
IsShortName name = length name < 256

-- a name of at most 255 bytes, and a text as a value with a length of 32 bits
abbrev pub IsShortDeed : Deed → Type 0
IsShortDeed (Called transaction) = IsShortName transaction
IsShortDeed (Denied code) = ⊤
IsShortDeed (Released value) = IfSome value values.IsShort

-- a time is one by its form
abbrev pub IsTimed : Option (List ℕ) → Type 0
IsTimed time = IfSome time (λ t. is_time t ≡ true)

-- so are all names of an entry, and its time is one
abbrev pub IsShort : Entry → Type 0
IsShort e = IsTimed e.time × IsShortName e.user × IsShortName e.session × IsShortDeed e.deed

-- what a spelling can be read back to
abbrev pub HasSpelling : Entry → Type 0
HasSpelling e = IsEntry e × IsShort e

-- the spelling of an entry of one of count labels
pub record IsEntryOf (count : ℕ) (bytes : List ℕ) : Type 0 where
  pub entry : Entry
  pub spelled : HasSpelling entry
  pub declared : label_of entry < count
  pub is : bytes ≡ entry_spelling entry

-- no two entries have one spelling
abbrev pub AreUnambiguous : Type 0
AreUnambiguous = (d e : Entry) → HasSpelling d → HasSpelling e → entry_spelling d ≡ entry_spelling e → d ≡ e
