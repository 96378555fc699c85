-- How many bits a number of values is, and what is told of that.
use Rattle.std.specs.Prelude.{◌≡◌, ◌⊎◌, ℕ, zero, suc, ◌<◌, ◌≤◌, ◌^◌, Bool, if◌then◌else◌, List, ◌++◌}
use Rattle.std.specs.Prelude.{length, codes, decimal, Option, MatchOption}
use Rattle.mls_lattice.specs.Policy.{Policy}
use Rattle.mls_scheme.specs.declared.value.Value.{Value}
use Rattle.mls_scheme.specs.Scheme.{Schemes}
use Rattle.mls_translang.specs.Tx.{Tx}
use Rattle.mls_certcheck.specs.Meaning.{Item}
use Rattle.mls_labeller.specs.declared.range.Range.{Range}
use Rattle.mls_labeller.specs.declared.told.Told.{Told}
use Rattle.mls_labeller.specs.declared.told.Releases.{Releases}
use Rattle.mls_labeller.specs.Ranges.{HasValues, uncounted}
use Rattle.mls_labeller.specs.Releases.{AreTold, HasAll}

-- so many bits tell so many values apart, and no fewer do
pub record HasBits (count bits : ℕ) : Type 0 where
  pub enough : count ≤ 2 ^ bits
  pub least : (n : ℕ) → count ≤ 2 ^ n → bits ≤ n

-- the number of bits in words
unfoldable pub bits_text : ℕ → List ℕ
bits_text zero = codes "nothing"
bits_text (suc zero) = codes "one bit"
bits_text (suc (suc n)) = decimal (suc (suc n)) ++ codes " bits"

-- a text says how many bits so many values are
abbrev pub SaysBits : ℕ → List ℕ → Type 0
SaysBits count text = (bits : ℕ) × HasBits count bits × (text ≡ bits_text bits)

-- ---- a release

-- so many values a range has at most, if they are counted
abbrev pub IsCount : Range → ℕ → Type 0
IsCount range count =
    count < uncounted → (values : List (Option Value)) × (length values ≤ count) × HasValues range values

-- its values in any words, and then how many bits they are: of one call, or in a loop of each turn. Of values that are
-- not counted it is not said
pub record SaysRelease (told : Told) (text : List ℕ) : Type 0 where
  pub count : ℕ
  pub counted : IsCount told.range count
  pub values : List ℕ
  pub amount : List ℕ
  pub text_is : text ≡ values ++ amount
  pub bits : count < uncounted → (says : List ℕ) × SaysBits count says
      × (amount ≡ codes " (" ++ says ++ (if told.looped then codes ")" else codes " a call)"))

-- ---- all releases of a transaction

-- what is told of them holds of each run; and c sees at most so many lists of values of theirs, if these are counted
pub record AreReleases (tx : Tx) (releases : Releases) : Type 0 where
  pub told : AreTold tx releases.told
  pub counted : releases.lists < uncounted → (policy : Policy) (schemes : Schemes) (c : ℕ)
      → (lists : List (List Item)) × (length lists ≤ releases.lists) × HasAll policy schemes tx c releases.told lists

-- how many bits the lists of their values are; where there are several, and they are counted
abbrev pub SaysWhole : Releases → Option (List ℕ) → Type 0
SaysWhole releases text =
    MatchOption text ((length releases.told < 2) ⊎ (releases.lists ≡ uncounted))
    (λ text. (says : List ℕ) × SaysBits releases.lists says × (text ≡ says ++ codes " a call at most"))
