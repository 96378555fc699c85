-- What stands in the text that is told of a transaction: its canonical text, what came of its least labels, and then
-- any advice.
use Rattle.std.specs.Prelude.{◌≡◌, ℕ, ◌+◌, ◌-◌, Bool, true, false, if◌then◌else◌, List, [], ◌∷◌, ◌++◌, length}
use Rattle.std.specs.Prelude.{replicate, codes, slice_get, string_bytes, Option, None, Some, option_map, unwrap_or}
use Rattle.std.specs.Prelude.{flat_map, decimal, Contains, ⊤}
use Rattle.std.specs.List.{concat, enumerate_from, AllZip, AllByRecursion}
use Rattle.std.specs.Str.Lossy.{utf8_lossy}
use Rattle.std.specs.Str.Lines.{lines}
use Rattle.mls_lattice.specs.Lattice.{Pair, ◌⊑◌, same_pair, pair_of}
use Rattle.mls_lattice.specs.Policy.{Name, Policy}
use Rattle.mls_lattice.specs.declared.label.Label.{Label}
use Rattle.mls_scheme.specs.Scheme.{Schemes}
use Rattle.mls_scheme.specs.declared.value.Kind.{Kind}
use Rattle.mls_translang.specs.Tokens.{printed}
use Rattle.mls_translang.specs.Tx.{Tx}
use Rattle.mls_certcheck.specs.declared.cert.Certificate.{Certificate}
use Rattle.mls_certcheck.specs.declared.cert.Certificate.TheVariants.{One, Two}
use Rattle.mls_certcheck.specs.declared.refusal.Rule.{Rule}
use Rattle.mls_certcheck.specs.Refusal.{text_of}
use Rattle.mls_labeller.specs.declared.told.Told.{Told}
use Rattle.mls_labeller.specs.declared.told.Releases.{Releases}
use Rattle.mls_labeller.specs.Bits.{SaysRelease, SaysWhole, AreReleases}
use Rattle.mls_explain.specs.declared.labelling.Labelling.{Labelling}
use Rattle.mls_explain.specs.declared.labelling.Labelling.TheVariants.{Labelled, Refused}
use Rattle.mls_explain.specs.declared.explaining.Explained.{Explained}
use Rattle.mls_explain.specs.Explaining.{IsLabelling}

-- ---- labels by name

-- a label is a declared one, or, where it need not be that, dominates it
abbrev pub is_named : Bool → Pair → Pair → Bool
is_named exact label declared = if exact then same_pair label declared else declared ⊑ label

abbrev pub names_of : Bool → Policy → Label → List ℕ
names_of exact p label = flat_map (λ l. if is_named exact (pair_of label) l.value then codes " "
    ++ l.name else []) p.labels

abbrev pub words_for : List ℕ → List ℕ → List ℕ
words_for [] [] = codes " lowest"
words_for [] (c ∷ under) = codes " over" ++ c ∷ under
words_for (c ∷ same) under = c ∷ same

-- a declared label by its name; another one by those that it dominates
abbrev pub words_of : Policy → Label → List ℕ
words_of p label = words_for (names_of true p label) (names_of false p label)

-- ---- the lines of labels

-- a number at the right end of four columns
unfoldable pub four : ℕ → List ℕ
four n = replicate (4 - length (decimal n)) 32 ++ decimal n

abbrev pub at_line : Policy → ℕ × Label → List ℕ
at_line p x = four (x.0 + 1) ++ (codes "  at" ++ words_of p x.1 ++ codes "\n")

module _ (p : Policy) (vars : List (Name × Kind)) where
  -- of variables, in order
  abbrev pub variable_line : ℕ × Label → List ℕ
  variable_line x = codes "      " ++ unwrap_or (option_map (λ v. v.0) (slice_get vars x.0)) [] ++ codes ":"
      ++ words_of p x.1 ++ codes "\n"

  abbrev pub variable_lines : List Label → List ℕ
  variable_lines labels = flat_map variable_line (enumerate_from 0 labels)

  -- of statements, in order, each with the variables after it where there are rows of them
  abbrev pub statement_line : List (List Label) → ℕ × Label → List ℕ
  statement_line rows x = at_line p x ++ variable_lines (unwrap_or (slice_get rows x.0) [])

  abbrev pub statement_lines : List (List Label) → List Label → List ℕ
  statement_lines rows labels = flat_map (statement_line rows) (enumerate_from 0 labels)

  abbrev pub label_lines : Certificate → List ℕ
  label_lines (One cert) = codes "labels, version 1:\n" ++ (variable_lines cert.var_labels
      ++ statement_lines [] cert.pc_labels)
  label_lines (Two cert) = codes "labels, version 2:\n" ++ statement_lines cert.rows cert.pc_labels

-- the name, the place and the rule of a refusal
unfoldable pub refused_front : Name → List ℕ
refused_front name = name ++ codes " is refused: "

abbrev pub refused_line : Name → ℕ → Rule → List ℕ
refused_line name stmt r = refused_front name ++ decimal stmt ++ codes " " ++ text_of r ++ codes "\n"

-- what came of the least labels
abbrev pub head : Policy → Tx → Labelling → List ℕ
head p tx (Labelled cert) = label_lines p tx.vars cert
head p tx (Refused stmt r chain) = refused_line tx.name stmt r

-- ---- the whole

-- a line behind blanks, or behind the number of a statement
abbrev pub shown : Option ℕ → List ℕ → List ℕ
shown None line = codes "      " ++ line ++ codes "\n"
shown (Some n) line = four n ++ codes "  " ++ line ++ codes "\n"

abbrev pub IsListing : List (List ℕ) → List ℕ → Type 0
IsListing ls text =
    (parts : List (List ℕ)) × AllZip (λ line part. (n : Option ℕ) × (part ≡ shown n line)) ls parts
    × (text ≡ concat parts)

-- ---- what is released

-- of a release, to a label, in these words, and in which loops
abbrev pub release_line : ℕ → List ℕ → List ℕ → List ℕ → List ℕ
release_line number label words loops =
    four number ++ (codes "  releases to " ++ label ++ codes ": " ++ words ++ loops ++ codes "\n")

-- the words say how many bits it tells
pub record TellsOne (release : Told) (line : List ℕ) : Type 0 where
  pub number : ℕ
  pub label : List ℕ
  pub words : List ℕ
  pub loops : List ℕ
  pub line_is : line ≡ release_line number label words loops
  pub says : SaysRelease release words

-- lines that each tell one of these
abbrev pub AreLinesOf : List Told → List (List ℕ) → Type 0
AreLinesOf told = AllByRecursion (λ line. (release : Told) × Contains told release × TellsOne release line)

abbrev pub TellsEach : List Told → List ℕ → Type 0
TellsEach told text = (each : List (List ℕ)) × AreLinesOf told each × (text ≡ concat each)

abbrev pub whole_line : List ℕ → List ℕ
whole_line words = codes "      all releases: " ++ words ++ codes "\n"

-- each of them, and then, where there are several, how much a call tells
pub record TellsReleases (releases : Releases) (text : List ℕ) : Type 0 where
  pub each : List ℕ
  pub tells : TellsEach releases.told each
  pub whole : Option (List ℕ)
  pub says : SaysWhole releases whole
  pub text_is : text ≡ each ++ unwrap_or (option_map whole_line whole) []

-- what is told of what a labelled transaction releases
abbrev pub TellsTx : Tx → List ℕ → Type 0
TellsTx tx text = (releases : Releases) × AreReleases tx releases × TellsReleases releases text

-- of a refused one it is any advice
abbrev pub Advises : Tx → Labelling → List ℕ → Type 0
Advises tx (Labelled cert) text = TellsTx tx text
Advises tx (Refused stmt rule chain) text = ⊤

-- ---- the text

pub record TellsLabelling (p : Policy) (schemes : Schemes) (tx : Tx) (labelling : Labelling)
    (text : List ℕ) : Type 0 where
  pub listing : List ℕ
  pub lists : IsListing (lines (utf8_lossy (printed p schemes tx))) listing
  pub advice : List ℕ
  pub text_is : text ≡ listing ++ head p tx labelling ++ advice
  pub advises : Advises tx labelling advice

-- what came of a transaction, and a text that tells it
abbrev pub IsExplanation : Policy → Schemes → Tx → Explained → Type 0
IsExplanation p schemes tx e = IsLabelling p tx e.labelling × TellsLabelling p schemes tx e.labelling
    (string_bytes e.text)
