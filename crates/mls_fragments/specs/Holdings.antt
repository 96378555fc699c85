-- What a store holds, and what an opening takes of it.
use Rattle.std.specs.Prelude.{◌≡◌, ℕ, List, [], ◌∷◌, Option, Some, None}
use Rattle.sqlite.specs.Effect.{Database}
use Rattle.mls_lattice.specs.Canon as lattice
use Rattle.mls_lattice.specs.Policy.{Policy}
use Rattle.mls_lattice.specs.Version.{version_number, later}
use Rattle.mls_scheme.specs.Canon as scheme
use Rattle.mls_scheme.specs.declared.file.SchemesFile.{SchemesFile}
use Rattle.mls_filterview.specs.Content.{Content, no_content}
use Rattle.mls_audit.specs.Sound.{IsSoundContent}
use Rattle.mls_tables.specs.declared.rows.MetaRow.{MetaRow}
use Rattle.mls_tables.specs.Adopting.{IsVersion}
use Rattle.mls_tables.specs.Rows.{Tables, first_meta, is_meta_row, tables_of}
use Rattle.mls_tables.specs.Schema.{HasTables, no_schema}
use Rattle.mls_tables.specs.Statements.{AreRows}
use Rattle.mls_rows.specs.Holding.{Holds}
use Rattle.mls_fragments.specs.Migrating.{HasTexts, IsExtended, IsSoundBefore, IsWidenedContent}

-- the row that describes a store, if one does, and its content
pub record Holdings : Type 0 where
  pub meta : Option MetaRow
  pub content : Content

abbrev pub no_holdings : Holdings
no_holdings = record { meta = None; content = no_content }

abbrev pub holdings_of : MetaRow → Content → Holdings
holdings_of row c = record { meta = Some row; content = c }

-- ---- who has them

-- One row describes the store, of version 1 or 2. Callers of a base see which; a host says that the store
-- keeps some row with what a run leaves.
pub record HaveOneMeta (t : Tables) : Type 0 where
  pub row : MetaRow
  pub one : t.meta ≡ row ∷ []
  pub version : IsVersion row.version

-- the rows of the four tables: this one describes the store, and the others hold the content
pub record HaveHoldings (t : Tables) (h : Holdings) : Type 0 where
  pub described : HaveOneMeta t
  pub meta : h.meta ≡ Some described.row
  pub holds : Holds t h.content

-- a database: none where it has no object, and else what the rows of its four tables have
pub data HasHoldings (db : Database) (h : Holdings) : Type 0 where
  no_tables : db.schema ≡ no_schema → h ≡ no_holdings → HasHoldings db h
  four_tables : HasTables db.schema → AreRows is_meta_row (db.trees 5) → HaveHoldings (tables_of db.trees) h
      → HasHoldings db h

-- a database has one row that describes it and one content
abbrev pub DatabaseHasOneHoldings : Type 0
DatabaseHasOneHoldings = (db : Database) (h k : Holdings) → HasHoldings db h → HasHoldings db k → h ≡ k

-- ---- what is taken of them

-- the row that texts of a policy and schemes give a store of a version
abbrev pub row_of : Policy → SchemesFile → ℕ → MetaRow
row_of policy file version =
    first_meta version (lattice.lattice_of policy) (scheme.canon_of policy file.version file.schemes)

-- What a store has once it is opened: where it had nothing, a row of these texts; where its texts are these, what it
-- had; and where they extend its texts, a row of these, and its content with each relation widened.
pub data Takes (policy : Policy) (file : SchemesFile) (had now : Holdings) : Type 0 where
  made : had ≡ no_holdings
      → now ≡ holdings_of (row_of policy file (version_number (later policy.version file.version))) no_content
      → Takes policy file had now
  as_it_was : (m : MetaRow) → had.meta ≡ Some m → HasTexts policy file m → now ≡ had → Takes policy file had now
  widened : (m : MetaRow) (labels : ℕ) (counts : List ℕ) → had.meta ≡ Some m → IsExtended policy file m labels counts
      → IsSoundBefore policy file.schemes labels counts had.content
      → IsWidenedContent file.schemes counts had.content now.content → now.meta ≡ Some (row_of policy file 2)
      → Takes policy file had now

-- content that is taken of something that a store had
pub record IsTakenOf (Had : Holdings → Type 0) (policy : Policy) (file : SchemesFile) (now : Content) : Type 0 where
  pub had : Holdings
  pub was : Had had
  pub row : MetaRow
  pub takes : Takes policy file had (holdings_of row now)

-- what a database has is taken again, as that of a connection that a base gave back
abbrev pub GivenBackIsTaken : Type 0
GivenBackIsTaken =
    (policy : Policy) (file : SchemesFile) (db : Database) (h : Holdings) (now : Content)
    → HasHoldings db h → IsTakenOf (HasHoldings db) policy file now
    → (row : MetaRow) × Takes policy file h (holdings_of row now)

-- content that is sound under a policy and schemes is taken as it was
abbrev pub SoundIsTakenAsItWas : Type 0
SoundIsTakenAsItWas =
    (policy : Policy) (file : SchemesFile) (had now : Holdings)
    → IsSoundContent policy file.schemes had.content → Takes policy file had now → now.content ≡ had.content
