-- Older schemes, of which only the canonical text is left, and how later schemes extend them.
use Rattle.std.specs.Prelude.{◌≡◌, ◌≢◌, ⊤, ℕ, ◌<◌, ◌≤◌, true, List, [], ◌∷◌, ◌++◌, length, take, drop, codes, flat_map}
use Rattle.std.specs.List.{AllByRecursion}
use Rattle.mls_lattice.specs.Labels.{Labels, below}
use Rattle.mls_lattice.specs.Policy.{Policy, labels_of}
use Rattle.mls_lattice.specs.declared.version.Version.{Version}
use Rattle.mls_scheme.specs.Scheme.{Attribute, Scheme, Schemes, first_key}
use Rattle.mls_scheme.specs.Canon.{attribute_line, relation_lines, canon_of}

-- a relation with the first n of its attributes outside the key
abbrev pub scheme_before : ℕ → Scheme → Scheme
scheme_before n s = record { name = s.name; keys = s.keys; others = take n s.others }

-- the first relations, as many as there are counts, each with the first so many of its attributes outside the key
abbrev pub schemes_before : List ℕ → Schemes → Schemes
schemes_before [] schemes = []
schemes_before (n ∷ counts) [] = []
schemes_before (n ∷ counts) (s ∷ schemes) = scheme_before n s ∷ schemes_before counts schemes

-- an attribute may have every class from low to high
abbrev pub Contains : Labels → ℕ → ℕ → Attribute → Type 0
Contains ls low high a = (below ls a.1.low low ≡ true) × (below ls high a.1.high ≡ true)

-- each attribute past the first n may have every class that the key may have: it begins as null at the key
-- class
abbrev pub CoversKey : Labels → ℕ → Scheme → Type 0
CoversKey ls n s = AllByRecursion (Contains ls (first_key s).1.low (first_key s).1.high) (drop n s.others)

-- so many of the attributes outside the key are old, and the others cover the key
abbrev pub HadOthers : Policy → ℕ → Scheme → Type 0
HadOthers p n s = (n ≤ length s.others) × CoversKey (labels_of p) n s

-- what holds of each count and the relation of its number, and nothing of the relations behind them
abbrev pub AllFirst : (ℕ → Scheme → Type 0) → List ℕ → Schemes → Type 0
AllFirst P [] schemes = ⊤
AllFirst P (n ∷ counts) [] = ⊥
AllFirst P (n ∷ counts) (s ∷ schemes) = P n s × AllFirst P counts schemes

-- no more attributes than a relation has
abbrev pub AtMost : ℕ → Scheme → Type 0
AtMost n s = n ≤ length s.others

-- The schemes extend those that an old text says: its relations, one at least, are the first ones, and each had so many
-- attributes outside its key.
pub record Extends (p : Policy) (schemes : Schemes) (old : List ℕ) (counts : List ℕ) : Type 0 where
  pub version : Version
  pub some : 0 < length counts
  pub counts_are : AllFirst (HadOthers p) counts schemes
  pub text : old ≡ canon_of p version (schemes_before counts schemes)

-- the old numbers of attributes are one list
abbrev pub OldCountsAreOne : Type 0
OldCountsAreOne =
    (p : Policy) (schemes : Schemes) (old ns ms : List ℕ) → Extends p schemes old ns → Extends p schemes old ms
    → ns ≡ ms

-- ---- parts of a text

-- A text begins with the lines of a relation with the first n of its attributes outside the key.
pub record BeginsWith (p : Policy) (s : Scheme) (text : List ℕ) (n : ℕ) (rest : List ℕ) : Type 0 where
  pub had : HadOthers p n s
  pub split : text ≡ relation_lines p (scheme_before n s) ++ rest

-- A text is the lines of the first relations, each with the first so many of its attributes outside the key.
pub record AreLines (p : Policy) (schemes : Schemes) (text : List ℕ) (counts : List ℕ) : Type 0 where
  pub counts_are : AllFirst (HadOthers p) counts schemes
  pub split : text ≡ flat_map (relation_lines p) (schemes_before counts schemes)

-- no attribute's line begins the text: it is at the end or at a relation
abbrev pub IsPastAttributes : Policy → List ℕ → Type 0
IsPastAttributes p text = (a : Attribute) (more : List ℕ) → text ≢ attribute_line p (codes "attribute") a ++ more
