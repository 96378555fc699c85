-- The policy that bytes are, with no word of how they are read, and the laws of reading.
use Rattle.std.specs.Prelude.{◌≡◌, ◌↔◌, ℕ, List, Some, Ok, Err, IsUtf8}
use Rattle.toml.specs.Data.{Members}
use Rattle.toml.specs.Parse.{parse_document}
use Rattle.mls_lattice.specs.declared.fault.FieldFault.{FieldFault}
use Rattle.mls_lattice.specs.declared.fault.PolicyFault.{PolicyFault}
use Rattle.mls_lattice.specs.Fault.{fault_of}
use Rattle.mls_lattice.specs.Policy.{Policy}
use Rattle.mls_lattice.specs.PolicyReading.{policy_at}
use Rattle.mls_lattice.specs.Says.{Says}

-- the bytes are a TOML document
abbrev pub IsDocument : List ℕ → Members → Type 0
IsDocument bytes document = IsUtf8 bytes × (parse_document bytes ≡ Some document)

-- the bytes are the text of a policy
abbrev pub ReadsPolicy : List ℕ → Policy → Type 0
ReadsPolicy bytes p = (document : Members) × IsDocument bytes document × Says document p

-- the bytes are a document with this first fault
abbrev pub HasFault : List ℕ → PolicyFault → Type 0
HasFault bytes e = (document : Members) × IsDocument bytes document × (fault : FieldFault)
    × (policy_at document ≡ Err fault) × (e ≡ fault_of fault)

-- a document is that of one policy at most
abbrev pub SaysOne : Type 0
SaysOne = (document : Members) (p q : Policy) → Says document p → Says document q → p ≡ q

-- reading a document gives a policy exactly where the document is that policy's
abbrev pub ReadingIsExact : Type 0
ReadingIsExact = (document : Members) (p : Policy) → (policy_at document ≡ Ok p) ↔ Says document p
