-- The world that content and open sessions are.
use Rattle.std.specs.Prelude.{ℕ, if◌then◌else◌, nat_lt, List, length, Option, Some, None, Result, Ok, Err, filter_map}
use Rattle.mls_filterview.specs.Content.{Content}
use Rattle.mls_audit.specs.declared.entry.Entry.{Entry}
use Rattle.mls_scheme.specs.declared.key_fault.KeyFault.{KeyFault}
use Rattle.mls_audit.specs.Entry.{label_of}
use Rattle.mls_audit.specs.Reading.{entry_at}
use Rattle.mls_certcheck.specs.Site.{Site}
use Rattle.mls_machine.specs.Machine.{Sessions, World}

-- ---- the audit list

-- what is read, where it is an entry of one of count labels
abbrev pub declared : ℕ → Result Entry KeyFault → Option Entry
declared count (Ok e) = if nat_lt (label_of e) count then Some e else None
declared count (Err fault) = None

-- the entries of declared labels that strings spell
abbrev pub entries_in : ℕ → List (List ℕ) → List Entry
entries_in count = filter_map (λ bytes. declared count (entry_at bytes))

-- ---- content

abbrev pub world_at : Site → Sessions → Content → World
world_at site sessions c =
    record { db = c.db; sessions = sessions; audit = entries_in (length site.policy.labels) c.audit }
