-- A base over the tables of a store.
use Rattle.std.proofs.Common.{ap}
use Rattle.std.specs.Prelude.{◌≡◌, pos, Bool, List, false, if◌then◌else◌, length, map}
use Rattle.mls_lattice.specs.Policy.{Policy}
use Rattle.mls_scheme.specs.declared.file.SchemesFile.{SchemesFile}
use Rattle.mls_filterview.specs.Content.{About, Content, Seen, State}
use Rattle.mls_filterview.specs.declared.base.BaseFault.{BaseFault}
use Rattle.mls_filterview.specs.declared.base.BaseFault.TheVariants as base
use Rattle.mls_tables.specs.declared.store.StoreFault.{StoreFault}
use Rattle.mls_tables.specs.declared.store.StoreFault.TheVariants.{Store, Memory}
use Rattle.mls_tables.specs.declared.rows.MetaRow.{MetaRow}
use Rattle.mls_tables.specs.Rows.{Tables}
use Rattle.mls_tables.specs.Store.{TableState, IsClean}
use Rattle.mls_fragments.specs.declared.noted.Noted.{Noted}
use Rattle.mls_rows.specs.Changes.{Change, content_of}
use Rattle.mls_rows.specs.Finding.{HasByteClasses}
use Rattle.mls_rows.specs.Holding.{Holds}
use Rattle.mls_fragments.specs.Holdings.{HaveOneMeta, HaveHoldings, Holdings, Takes, holdings_of}

-- what a base shows: the changes that made its content now and that of the last commit, and the tables below
pub record BaseState : Type 0 where
  pub now : List Change
  pub kept : List Change
  pub tables : TableState

abbrev pub base_state : TableState → Noted → Noted → BaseState
base_state t now kept = record { now = now.content.changes; kept = kept.content.changes; tables = t }

-- a state whose content of the last commit stands for itself in a change only
abbrev pub state_with : Content → Content → Bool → State
state_with now kept begun = record { now = now; kept = if begun then kept else now; begun = begun }

-- the state that callers of a base see
abbrev pub state_of : BaseState → State
state_of b = state_with (content_of b.now) (content_of b.kept) b.tables.begun

-- what callers see of the rows that describe a store
abbrev pub about_of : List MetaRow → List About
about_of rows = map (λ row. record {
  number = row.id;
  version = row.version;
  lattice = row.lattice;
  schemes =
      row.schemes;
}) rows

-- outside a change all is as at the last commit
pub settled : (b : BaseState) → (state_of b).begun ≡ false → (state_of b).kept ≡ (state_of b).now
settled b e = ap (λ begun. if begun then content_of b.kept else content_of b.now) e

abbrev pub fault_of : StoreFault → BaseFault
fault_of Store = base.Store
fault_of Memory = base.Memory

-- one row describes the store; the others hold the content, whose classes are bytes; and the last entry's number is the
-- count of entries
pub record IsNoted (rows : Tables) (n : Noted) : Type 0 where
  pub meta : HaveOneMeta rows
  pub holds : Holds rows (content_of n.content.changes)
  pub classes : HasByteClasses (content_of n.content.changes)
  pub last : n.last ≡ pos (length (content_of n.content.changes).audit)

-- the rows now hold what is noted now, and those of the last commit what was noted then; outside a change they are one;
-- the same row describes both
pub record IsBased (t : TableState) (here last : Noted) : Type 0 where
  pub now : IsClean t → IsNoted t.now here
  pub kept : IsClean t → IsNoted t.kept last
  pub content : t.begun ≡ false → last.content.changes ≡ here.content.changes
  pub number : t.begun ≡ false → last.last ≡ here.last
  pub row : IsClean t → t.now.meta ≡ t.kept.meta

-- what the base's tables have: this row describes the store, and the others hold the content now
abbrev pub HasRow : BaseState → MetaRow → Type 0
HasRow b row = HaveHoldings b.tables.now (holdings_of row (state_of b).now)

-- the row that describes a base describes a later one, of which callers see the same
abbrev pub KeepsRow : (BaseState → Seen) → BaseState → BaseState → Type 0
KeepsRow seen was base =
    (seen was).is_clean → (seen base).is_clean → (seen base).about ≡ (seen was).about
    → (row : MetaRow) → HasRow was row → HasRow base row

-- a base over a store: what the store had, what is taken of it, and that the base's tables have that
pub record IsBaseOf (Had : Holdings → Type 0) (policy : Policy) (file : SchemesFile) (b : BaseState) : Type 0 where
  pub had : Holdings
  pub was : Had had
  pub row : MetaRow
  pub takes : Takes policy file had (holdings_of row (state_of b).now)
  pub base : HasRow b row
