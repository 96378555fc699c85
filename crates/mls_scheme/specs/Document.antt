-- The schemes that a text says, with no word of how it is read.
use Rattle.std.specs.Prelude.{◌≡◌, ◌⊎◌, ℕ, true, pos, List, [], ◌∷◌, codes, Option, Some, None, position, bytes_eq}
use Rattle.std.specs.List.{AllZip}
use Rattle.toml.specs.Data.{Data, Items, no_items, item, Members, get_member, string, integer, array, table}
use Rattle.mls_lattice.specs.Labels.{below}
use Rattle.mls_lattice.specs.Name.{is_name}
use Rattle.mls_lattice.specs.Policy.{Name, Policy, labels_of}
use Rattle.mls_lattice.specs.ReadsPolicy.{IsDocument}
use Rattle.mls_lattice.specs.Version.{version_number}
use Rattle.mls_lattice.specs.declared.version.Version.{Version}
use Rattle.mls_scheme.specs.declared.value.Kind.{Kind}
use Rattle.mls_scheme.specs.declared.value.Kind.TheVariants.{Int, Text}
use Rattle.mls_scheme.specs.Scheme.{Attribute, Scheme, Schemes, IsScheme, AreSchemes}

-- the array of these tables
abbrev pub tables_of : List Members → Items
tables_of [] = no_items
tables_of (t ∷ ts) = item (table t) (tables_of ts)

abbrev pub HoldsTables : Option Data → List Members → Type 0
HoldsTables field ts = field ≡ Some (array (tables_of ts))

-- the word of a kind
abbrev pub kind_word : Kind → Name
kind_word Int = codes "int"
kind_word Text = codes "text"

-- the field holds the name of the label of this number
pub record NamesLabel (p : Policy) (field : Option Data) (label : ℕ) : Type 0 where
  pub name : Name
  pub field_is : field ≡ Some (string name)
  pub named : is_name name ≡ true
  pub declared : position (λ l. bytes_eq l.name name) p.labels ≡ Some label

pub record SaysAttribute (p : Policy) (fields : Members) (a : Attribute) : Type 0 where
  pub name : get_member (codes "name") fields ≡ Some (string a.0)
  pub named : is_name a.0 ≡ true
  pub kind : get_member (codes "kind") fields ≡ Some (string (kind_word a.1.kind))
  pub low : NamesLabel p (get_member (codes "low") fields) a.1.low
  pub high : NamesLabel p (get_member (codes "high") fields) a.1.high
  pub interval : below (labels_of p) a.1.low a.1.high ≡ true

pub record SaysRelation (p : Policy) (fields : Members) (s : Scheme) : Type 0 where
  pub name : get_member (codes "name") fields ≡ Some (string s.name)
  pub key_tables : List Members
  pub key : HoldsTables (get_member (codes "key") fields) key_tables
  pub keys : AllZip (SaysAttribute p) key_tables s.keys
  pub other_tables : List Members
  -- the field may be missing
  pub attribute : HoldsTables (get_member (codes "attribute") fields) other_tables
      ⊎ ((get_member (codes "attribute") fields ≡ None) × (other_tables ≡ []))
  pub others : AllZip (SaysAttribute p) other_tables s.others
  pub valid : IsScheme s

pub record Says (p : Policy) (document : Members) (v : Version) (schemes : Schemes) : Type 0 where
  pub version : get_member (codes "version") document ≡ Some (integer (pos (version_number v)))
  pub tables : List Members
  pub relation : HoldsTables (get_member (codes "relation") document) tables
  pub relations : AllZip (SaysRelation p) tables schemes
  pub valid : AreSchemes schemes

-- the bytes are the text of schemes of a version, under a policy
abbrev pub ReadsSchemes : Policy → List ℕ → Version → Schemes → Type 0
ReadsSchemes p bytes v schemes = (document : Members) × IsDocument bytes document × Says p document v schemes

-- a text says at most one list of schemes, of one version
abbrev pub SaysOnce : Type 0
SaysOnce =
    (p : Policy) (bytes : List ℕ) (v w : Version) (s t : Schemes) → ReadsSchemes p bytes v s → ReadsSchemes p bytes w t
    → (v ≡ w) × (s ≡ t)
