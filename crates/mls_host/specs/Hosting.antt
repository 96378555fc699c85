-- What a host gives and lacks, keeps and bars, what is done over a store of it, and what is told on standard error.
use Rattle.std.specs.Prelude.{◌≡◌, ◌↔◌, ℕ, Bool, List, Option, Some, None, ⊤}
use Rattle.std.specs.Io.KnownBytes.{Appends}
use Rattle.mls_lattice.specs.Policy.{Policy}
use Rattle.mls_scheme.specs.declared.file.SchemesFile.{SchemesFile}
use Rattle.mls_filterview.specs.Content.{Content, no_content}
use Rattle.mls_tables.specs.declared.rows.MetaRow.{MetaRow}
use Rattle.mls_fragments.specs.Holdings.{Holdings, holdings_of, IsTakenOf}
use Rattle.mls_fragments.specs.declared.open_fault.OpenFault.{OpenFault}
use Rattle.mls_host.specs.declared.host.HostFault.{HostFault}
use Rattle.mls_host.specs.declared.host.StoreCause.{StoreCause}
use Rattle.mls_host.specs.declared.errors.Errors.{Errors}
use Rattle.mls_host.specs.declared.words.Documents.{Documents}

-- A host, as contracts see it.
-- A host that cannot know why it gives nothing says that any cause may be.
pub record Hosting : Type 1 where
  -- the bytes that it gives for the file at a path, and, with no path, for the standard input
  pub gives : Option (List ℕ) → List ℕ → Type 0
  -- why it gives none
  pub lacks : Option (List ℕ) → HostFault → Type 0
  -- what is known of the bytes that are typed there
  pub types : Option (List ℕ) → Type 0
  -- reading them may fail
  pub breaks : Type 0
  -- somebody types them at a terminal
  pub is_terminal : Bool
  -- somebody reads standard error at a terminal
  pub is_watched : Bool
  -- what the store at a path keeps: the row that describes it, and its content
  pub keeps : List ℕ → Holdings → Type 0
  -- why that store was not opened under a policy and schemes, by a host that has tried to
  pub bars : List ℕ → Policy → SchemesFile → OpenFault → Type 0
  -- the bytes of its log and of its database file, as they are shown
  pub shows : List ℕ → List ℕ → List ℕ → Type 0
  -- why none are shown
  pub hides : List ℕ → StoreCause → Type 0
  -- what is said of the fields of a policy and schemes that nobody reads
  pub ignores : Option Documents → List ℕ → Type 0
  -- the store that it took back last is clean: a premise of what is said of that, since a base may be any
  pub is_honest : Type 0
  -- a call of that store failed since it was opened
  pub has_failed : Type 0
  -- that store was not closed
  pub is_unclosed : Type 0
  -- the labels at which that store was read, and changed, since it was opened
  pub asked : ℕ → Type 0
  pub changed : ℕ → Type 0

-- nothing was read, and nothing changed
pub record AreNowhere (asked changed : ℕ → Type 0) : Type 0 where
  pub unread : (m : ℕ) → asked m → ⊥
  pub unchanged : (m : ℕ) → changed m → ⊥

-- a host before and after a command, and what it shows of a line that is typed
pub record Hosted : Type 1 where
  pub before : Hosting
  pub after : Hosting
  pub echo : List ℕ → List ℕ

module _ {Host : Type 0} (hosting : Host → Hosting) (echo : List ℕ → List ℕ) where
  abbrev pub hosted : Host → Host → Hosted
  hosted old new = record { before = hosting old; after = hosting new; echo = echo }

-- ---- stores

-- each store keeps what it kept, and none is read or changed
-- (of what each path keeps, both ways: an equation between hosts, whose fields are predicates, fits no clause)
pub record KeepSame (old new : Hosting) : Type 0 where
  pub kept : (path : List ℕ) (h : Holdings) → new.keeps path h ↔ old.keeps path h
  pub asked : (m : ℕ) → new.asked m ↔ old.asked m
  pub changed : (m : ℕ) → new.changed m ↔ old.changed m

module _ (h : Hosted) where
  abbrev pub KeepsStores : Type 0
  KeepsStores = KeepSame h.before h.after

  -- what is done without a store leaves each store
  abbrev pub LeavesStores : Option (List ℕ) → Type 0
  LeavesStores None = KeepsStores
  LeavesStores (Some path) = ⊤

  -- without a path it begins with nothing; with one, with what is taken of what the store there kept
  abbrev pub BeginsWith : Policy → SchemesFile → Option (List ℕ) → Content → Type 0
  BeginsWith policy file None first = first ≡ no_content
  BeginsWith policy file (Some path) first = IsTakenOf (h.before.keeps path) policy file first

  -- and what it leaves is kept there, with a row that describes it
  abbrev pub IsKeptAt : Option (List ℕ) → Content → Type 0
  IsKeptAt None left = ⊤
  IsKeptAt (Some path) left = (row : MetaRow) × h.after.keeps path (holdings_of row left)

  -- what leads from one content to another, under a policy and schemes, is done over a store
  pub record LeadsOverStore (policy : Policy) (file : SchemesFile) (store : Option (List ℕ))
      (Leads : Content → Content → Type 0) : Type 0 where
    pub first : Content
    pub left : Content
    pub begins : BeginsWith policy file store first
    pub kept : IsKeptAt store left
    pub leads : Leads first left

  -- what is said of a store is said where that is clean
  abbrev pub IsClean : Option (List ℕ) → Type 0
  IsClean None = ⊤
  IsClean (Some path) = h.after.is_honest

-- ---- standard error

-- a text was told, unless a write failed
abbrev pub IsTold : {E : Type 0} → (E → Option (List ℕ)) → Errors E → Errors E → List ℕ → Type 0
IsTold contents old new text =
    new.failed ≡ None → (old.failed ≡ None) × Appends (contents old.writer) (contents new.writer) text

-- a text was written at the end
abbrev pub IsAppended : {W : Type 0} → (W → Option (List ℕ)) → W → W → List ℕ → Type 0
IsAppended contents old new text = Appends (contents old) (contents new) text
