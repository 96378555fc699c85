-- Certificates as texts: each has one.
use Rattle.std.specs.Prelude.{◌≡◌, ℕ, ◌<◌, ◌^◌, ◌/◌, ◌%◌, true, List, [], ◌∷◌, ◌++◌, length, codes, map, flat_map}
use Rattle.std.specs.Prelude.{bytes_eq, decimal}
use Rattle.std.specs.List.{AllByRecursion, IsDistinct}
use Rattle.std.specs.Char.{digit_char}
use Rattle.std.specs.Int.{w32, to_be_bytes}
use Rattle.mls_lattice.specs.declared.label.Label.{Label}
use Rattle.mls_lattice.specs.Name.{is_name}
use Rattle.mls_certcheck.specs.declared.cert.Cert.{Cert}
use Rattle.mls_certcheck.specs.declared.cert.Cert2.{Cert2}
use Rattle.mls_certcheck.specs.declared.cert.Version.{Version}
use Rattle.mls_certcheck.specs.declared.cert.Version.TheVariants.{First, Second}
use Rattle.mls_certcheck.specs.declared.cert.Certificate.{Certificate}
use Rattle.mls_certcheck.specs.declared.cert.Certificate.TheVariants.{One, Two}

-- a byte as two hexadecimal digits, lower case
abbrev pub byte_text : ℕ → List ℕ
byte_text b = digit_char (b / 16) ∷ digit_char (b % 16) ∷ []

-- the rank, and the categories as eight digits
abbrev pub label_text : Label → List ℕ
label_text l = decimal l.rank ++ codes ":" ++ flat_map byte_text (to_be_bytes w32 l.cats)

abbrev pub spaced_label : Label → List ℕ
spaced_label l = codes " " ++ label_text l

-- a word, and labels after spaces
abbrev pub labels_line : List ℕ → List Label → List ℕ
labels_line word labels = word ++ flat_map spaced_label labels ++ codes "\n"

abbrev pub cert_text : Cert → List ℕ
cert_text c = labels_line (codes "vars") c.var_labels ++ labels_line (codes "pcs") c.pc_labels

-- the labels of each variable after a statement
abbrev pub row_line : List Label → List ℕ
row_line labels = labels_line (codes "row") labels

abbrev pub cert2_text : Cert2 → List ℕ
cert2_text c = labels_line (codes "pcs") c.pc_labels ++ flat_map row_line c.rows

abbrev pub certificate_text : Certificate → List ℕ
certificate_text (One c) = cert_text c
certificate_text (Two c) = cert2_text c

abbrev pub version_of : Certificate → Version
version_of (One c) = First
version_of (Two c) = Second

abbrev pub version_text : Version → List ℕ
version_text First = codes "1"
version_text Second = codes "2"

-- the version, and the name of a transaction
abbrev pub head_text : List ℕ × Certificate → List ℕ
head_text b = codes "certificate " ++ version_text (version_of b.1) ++ codes " " ++ b.0

-- a certificate, with the name of its transaction
abbrev pub block_text : List ℕ × Certificate → List ℕ
block_text b = head_text b ++ codes "\n" ++ certificate_text b.1

abbrev pub file_text : List (List ℕ × Certificate) → List ℕ
file_text blocks = flat_map block_text blocks

-- a rank of a byte, and 32 categories
abbrev pub IsLabel : Label → Type 0
IsLabel l = (l.rank < 256) × (l.cats < 2 ^ 32)

abbrev pub AreLabels : List Label → Type 0
AreLabels labels = AllByRecursion IsLabel labels

abbrev pub IsCert : Cert → Type 0
IsCert c = AreLabels c.var_labels × AreLabels c.pc_labels

-- a row for each statement
abbrev pub HasEachRow : Cert2 → Type 0
HasEachRow c = length c.rows ≡ length c.pc_labels

pub record IsCert2 (c : Cert2) : Type 0 where
  pub pcs : AreLabels c.pc_labels
  pub rows : AllByRecursion AreLabels c.rows
  pub each : HasEachRow c

abbrev pub IsCertificate : Certificate → Type 0
IsCertificate (One c) = IsCert c
IsCertificate (Two c) = IsCert2 c

-- what a certificate needs to have a text
abbrev pub HasText : Certificate → Type 0
HasText (One c) = Unit {0}
HasText (Two c) = HasEachRow c

-- no two certificates have one text
abbrev pub AreUnambiguous : Type 0
AreUnambiguous = (c d : Certificate) → IsCertificate c → IsCertificate d → certificate_text c ≡ certificate_text d
    → c ≡ d

-- certificates, of transactions of different names
pub record IsFile (blocks : List (List ℕ × Certificate)) : Type 0 where
  pub names : AllByRecursion (λ b. is_name b.0 ≡ true) blocks
  pub distinct : IsDistinct bytes_eq (map (λ b. b.0) blocks)
  pub certs : AllByRecursion (λ b. IsCertificate b.1) blocks

-- no two such lists have one text
abbrev pub FilesAreUnambiguous : Type 0
FilesAreUnambiguous = (bs cs : List (List ℕ × Certificate)) → IsFile bs → IsFile cs → file_text bs ≡ file_text cs
    → bs ≡ cs
