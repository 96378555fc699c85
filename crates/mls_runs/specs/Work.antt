-- What is done over a database of a host.
use Rattle.std.specs.Prelude.{ℕ, List, Option, Result}
use Rattle.mls_lattice.specs.Policy.{Policy}
use Rattle.mls_scheme.specs.declared.file.SchemesFile.{SchemesFile}
use Rattle.mls_filterview.specs.Content.{Content}
use Rattle.mls_translang.specs.declared.run_fault.RunFault.{RunFault}
use Rattle.mls_host.specs.Hosting.{Hosted, IsClean, LeadsOverStore}

module _ {End : Type 0} (h : Hosted) (policy : Policy) (file : SchemesFile) (store : Option (List ℕ)) where
  -- what leads from one content to another is done over a store, where that is clean
  abbrev pub IsOverStore : (Result End RunFault → Content → Content → Type 0) → Result End RunFault → Type 0
  IsOverStore Leads end = IsClean h store → LeadsOverStore h policy file store (Leads end)
