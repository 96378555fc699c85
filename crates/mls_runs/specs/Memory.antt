-- A machine in memory, of which all is known.
use Rattle.std.specs.Prelude.{◌≡◌, ◌<◌, ℕ, Bool, true, false, List, [], length, Option, Some, None, option_map, Result}
use Rattle.std.specs.Prelude.{Ok, Err, MatchOption, ⊤, find, bytes_eq}
use Rattle.sqlite.specs.Effect.{Database}
use Rattle.sqlite_trees.specs.declared.memory.MemStore.{MemStore}
use Rattle.sqlite.specs.Held.{Held, state}
use Rattle.sqlite.specs.Steps.{over_memory}
use Rattle.mls_lattice.specs.Policy.{Policy}
use Rattle.mls_scheme.specs.declared.file.SchemesFile.{SchemesFile}
use Rattle.mls_filterview.specs.Content.{nowhere}
use Rattle.mls_fragments.specs.Holdings.{Holdings, HasHoldings}
use Rattle.mls_fragments.specs.Opening.{IsOfOthers, IsBad}
use Rattle.mls_fragments.specs.declared.open_fault.OpenFault.{OpenFault}
use Rattle.mls_fragments.specs.declared.open_fault.OpenFault.TheVariants as stores
use Rattle.mls_host.specs.declared.host.HostFault.{HostFault}
use Rattle.mls_host.specs.declared.host.HostFault.TheVariants.{Unreadable, TooLong, Memory}
use Rattle.mls_host.specs.declared.host.StoreCause.{StoreCause}
use Rattle.mls_host.specs.declared.host.StoreCause.TheVariants as causes
use Rattle.mls_runs.specs.declared.memory.HeldFile.{HeldFile}
use Rattle.mls_runs.specs.declared.memory.MemoryHost.{MemoryHost}
use Rattle.mls_host.specs.Hosting.{Hosting}

-- the first file of a name
abbrev pub file_named : List HeldFile → List ℕ → Option HeldFile
file_named files name = find (λ f. bytes_eq f.name name) files

-- why bytes are not copied: they are more than an input may have; or memory
abbrev pub IsUncopied : List ℕ → HostFault → Type 0
IsUncopied bytes Unreadable = ⊥
IsUncopied bytes TooLong = 1048576 < length bytes
IsUncopied bytes Memory = ⊤

-- why a file is not given, which is there, or not
abbrev pub IsLacking : Option (Result (List ℕ) HostFault) → HostFault → Type 0
IsLacking None fault = fault ≡ Unreadable
IsLacking (Some (Ok bytes)) fault = IsUncopied bytes fault
IsLacking (Some (Err held)) fault = fault ≡ held

-- why a file is not shown as a store's
abbrev pub cause_of : HostFault → StoreCause
cause_of Memory = causes.Memory
cause_of fault = causes.NoFile

-- a store in memory fails for want of memory alone
abbrev pub in_memory_fault : OpenFault → OpenFault
in_memory_fault stores.Store = stores.Memory
in_memory_fault fault = fault

-- what a connection shows of its store: whether a transaction has begun there, and what it holds
abbrev pub shown : Held MemStore → Bool × Database
shown conn = ((state over_memory conn).in_transaction, (state over_memory conn).now)

-- why a store is not opened: there is none, or a transaction has begun there; or
-- its texts are those of others, or it is bad; or memory
abbrev pub IsUnopenedFor : Policy → SchemesFile → Option (Bool × Database) → OpenFault → Type 0
IsUnopenedFor policy file store stores.Store = MatchOption store ⊤ (λ s. s.0 ≡ true)
IsUnopenedFor policy file store stores.Memory = ⊤
IsUnopenedFor policy file store stores.OtherPolicy = MatchOption store ⊥ (λ s. IsOfOthers policy file s.1)
IsUnopenedFor policy file store stores.BadRows = MatchOption store ⊥ (λ s. IsBad policy file s.1)

-- it gives the bytes that stand there under the name, or its input, and nothing else
abbrev pub gives : MemoryHost → Option (List ℕ) → List ℕ → Type 0
gives h None bytes = h.input.now ≡ bytes
gives h (Some name) bytes = option_map (λ f. f.bytes) (file_named h.files.items name) ≡ Some (Ok bytes)

-- and keeps, whatever the path, what the database of its connection has, and nothing else; a store in memory is
-- always clean
abbrev pub keeps : MemoryHost → List ℕ → Holdings → Type 0
keeps h path kept = MatchOption h.store ⊥ (λ conn. HasHoldings (state over_memory conn).now kept)

-- why it gives none: no file has the name; or what it holds in place of its bytes; or there are too many; or memory
abbrev pub lacks : MemoryHost → Option (List ℕ) → HostFault → Type 0
lacks h None fault = IsUncopied h.input.now fault
lacks h (Some name) fault = IsLacking (option_map (λ f. f.bytes) (file_named h.files.items name)) fault

-- why its store is not opened
abbrev pub bars : MemoryHost → List ℕ → Policy → SchemesFile → OpenFault → Type 0
bars h path policy file fault = IsUnopenedFor policy file (option_map shown h.store) fault

-- the files of a store that is looked at: what it gives under the name, and no log
abbrev pub shows : MemoryHost → List ℕ → List ℕ → List ℕ → Type 0
shows h path log db = (log ≡ []) × gives h (Some path) db

abbrev pub hides : MemoryHost → List ℕ → StoreCause → Type 0
hides h path cause = (fault : HostFault) × lacks h (Some path) fault × (cause ≡ cause_of fault)

-- a call of the store that it took back last failed
abbrev pub has_failed : MemoryHost → Type 0
has_failed h = MatchOption h.left ⊥ (λ l. 0 < l.value.tables.failures)

-- a base of SQL keeps no note of where it is read or changed
abbrev pub hosting : MemoryHost → Hosting
hosting h = record {
  gives = gives h;
  lacks = lacks h;
  types = λ known. known ≡ Some h.input.now;
  breaks = ⊥;
  is_terminal = false;
  is_watched = h.is_watched;
  keeps = keeps h;
  bars = bars h;
  shows = shows h;
  hides = hides h;
  ignores = λ _ _. ⊤;
  is_honest = ⊤;
  has_failed = has_failed h;
  is_unclosed = ⊥;
  asked = nowhere;
  changed = nowhere;
}
