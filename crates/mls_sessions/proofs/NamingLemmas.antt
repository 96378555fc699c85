-- Names in entries.
use Rattle.std.proofs.Common.{◌≡◌, true, Result, Ok, Err, sym, subst, OnOk}
use Rattle.mls_lattice.specs.Name.{is_name}
use Rattle.mls_lattice.specs.Policy.{Name}
use Rattle.mls_lattice.proofs.NameLemmas.{name-short}
use Rattle.mls_audit.specs.declared.entry.Entry.{Entry}
use Rattle.mls_audit.specs.Spelling.{IsEntry, IsShort, IsShortName, HasSpelling}

pub copy_is_short : (copy name : Name) → copy ≡ name → is_name name ≡ true → IsShortName copy
copy_is_short copy name same is = subst IsShortName (sym same) (name-short name is)

-- an entry that was written has a spelling
pub spelled_as : {A F : Type 0} (r : Result A F) (written meant : Entry) → written ≡ meant → IsShort written
    → OnOk r (IsEntry written) → OnOk r (HasSpelling meant)
spelled_as (Ok x) written meant same short whole = subst HasSpelling same (whole, short)
spelled_as (Err e) written meant same short whole = tt
