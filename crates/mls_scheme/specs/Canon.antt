-- The canonical text of schemes.
use Rattle.std.specs.Prelude.{ℕ, List, [], ◌∷◌, ◌++◌, codes, flat_map}
use Rattle.mls_lattice.specs.Policy.{Name, Policy}
use Rattle.mls_lattice.specs.Canon.{label_name}
use Rattle.mls_lattice.specs.Version.{version_text}
use Rattle.mls_lattice.specs.declared.version.Version.{Version}
use Rattle.mls_scheme.specs.Scheme.{Attribute, Scheme, Schemes}
use Rattle.mls_scheme.specs.Document.{kind_word}

-- words on a line, with single spaces
abbrev pub line_of : List Name → List ℕ
line_of [] = codes "\n"
line_of (word ∷ []) = word ++ codes "\n"
line_of (word ∷ next ∷ words) = word ++ (codes " " ++ line_of (next ∷ words))

-- key or attribute, then its name, its kind, and the ends of its interval
abbrev pub attribute_line : Policy → Name → Attribute → List ℕ
attribute_line p word a = line_of (word ∷ a.0 ∷ kind_word a.1.kind ∷ label_name p.labels a.1.low
    ∷ label_name p.labels a.1.high ∷ [])

-- the name of a relation, and its key
abbrev pub head_lines : Policy → Scheme → List ℕ
head_lines p s = line_of (codes "relation" ∷ s.name ∷ []) ++ flat_map (attribute_line p (codes "key")) s.keys

abbrev pub relation_lines : Policy → Scheme → List ℕ
relation_lines p s = head_lines p s ++ flat_map (attribute_line p (codes "attribute")) s.others

-- what a text of schemes begins with
abbrev pub first_line : Version → List ℕ
first_line v = codes "schemes " ++ version_text v ++ codes "\n"

abbrev pub canon_of : Policy → Version → Schemes → List ℕ
canon_of p v schemes = first_line v ++ flat_map (relation_lines p) schemes
