-- The numbers and names of the causes for which stores are not opened.
use Rattle.std.specs.Prelude.{ℕ, List, ◌-◌, [], map, get_or}
use Rattle.mls_lattice.specs.declared.failed.Failed.{Failed}
use Rattle.mls_lattice.specs.declared.failed.Failed.TheVariants as failed
use Rattle.mls_tables.specs.declared.store.StoreFault.{StoreFault}
use Rattle.mls_tables.specs.declared.store.StoreFault.TheVariants as store
use Rattle.mls_tables.specs.declared.adopting.AdoptFault.{AdoptFault}
use Rattle.mls_tables.specs.declared.adopting.AdoptFault.TheVariants as adopt
use Rattle.mls_rows.specs.declared.reading.BadRow.{BadRow}
use Rattle.mls_fragments.specs.declared.open_fault.OpenFault.{OpenFault}
use Rattle.mls_fragments.specs.declared.open_fault.OpenFault.TheVariants.{Store, OtherPolicy, BadRows, Memory}
use Rattle.mls_fragments.specs.declared.open_fault.TheConstants.{WORDS}

abbrev pub code_of : OpenFault → ℕ
code_of Store = 1
code_of OtherPolicy = 2
code_of BadRows = 3
code_of Memory = 4

abbrev pub word_of : OpenFault → List ℕ
word_of f = get_or (map (λ w. w.now) WORDS) (code_of f - 1) []

-- a fault of the tables, at an opening
abbrev pub opening_fault : StoreFault → OpenFault
opening_fault store.Store = Store
opening_fault store.Memory = Memory

-- why tables are not adopted
abbrev pub adopting_fault : AdoptFault → OpenFault
adopting_fault adopt.Store = Store
adopting_fault adopt.Memory = Memory
adopting_fault adopt.BadRows = BadRows

-- why rows hold nothing
abbrev pub finding_fault : Failed BadRow → OpenFault
finding_fault (failed.Fault row) = BadRows
finding_fault failed.Memory = Memory
