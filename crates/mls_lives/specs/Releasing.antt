-- What a run releases, step by step: from which release of the text each item comes, and in which order.
use Rattle.std.specs.Prelude.{◌≡◌, ◌⊎◌, ℕ, ◌<◌, Bool, true, false, ⊤, List, [], ◌∷◌, ◌++◌, length, map, Option}
use Rattle.std.specs.List.{AllByRecursion}
use Rattle.mls_lattice.specs.Labels.{Labels}
use Rattle.mls_scheme.specs.declared.value.Value.{Value}
use Rattle.mls_scheme.specs.Scheme.{Schemes}
use Rattle.mls_scheme.specs.Table.{Database}
use Rattle.mls_translang.specs.Tree.{Block, End, Do, If, For, Release}
use Rattle.mls_translang.specs.Tx.{Tx}
use Rattle.mls_certcheck.specs.Meaning.{Item, run_tx}
use Rattle.mls_labeller.specs.declared.told.Told.{Told}
use Rattle.mls_labeller.specs.Ranges.{Admits}
use Rattle.mls_labeller.specs.Releases.{AreTold}

-- where a release stands: to which label it is, into which variable, and whether in a loop
pub record Spot : Type 0 where
  pub to : ℕ
  pub into : ℕ
  pub looped : Bool

abbrev pub spot_of : Told → Spot
spot_of t = record { to = t.to; into = t.into; looped = t.looped }

-- the releases of a block, in the order of the text
abbrev pub spots_in : Bool → Block → List Spot
spots_in looped End = []
spots_in looped (Do (Release e to into) rest) =
    record { to = to; into = into; looped = looped } ∷ spots_in looped rest
spots_in looped (Do stmt rest) = spots_in looped rest
spots_in looped (If guard one other rest) = spots_in looped one ++ spots_in looped other ++ spots_in looped rest
spots_in looped (For row relation label body rest) = spots_in true body ++ spots_in looped rest

-- what is told are the releases of the text, in its order
abbrev pub ToldAreInOrder : Type 0
ToldAreInOrder = (tx : Tx) (told : List Told) → AreTold tx told → map spot_of told ≡ spots_in false tx.body

-- a step of a run: it releases an item, by the release with so many before it in the text
pub record Step : Type 0 where
  pub place : ℕ
  pub told : Told
  pub item : Item

-- so many stand before it
abbrev pub IsAt : List Told → ℕ → Told → Type 0
IsAt told k t = (before : List Told) × (after : List Told) × (told ≡ before ++ t ∷ after) × (length before ≡ k)

-- the item goes to the label of the release, and its value is of the range that is told of it
abbrev pub IsStep : List Told → Step → Type 0
IsStep told s = IsAt told s.place s.told × (s.told.to ≡ s.item.0) × Admits s.told.range s.item.1

-- of a step and one behind it: where not both are in loops, the release of the first stands before that of the other
abbrev pub ComesBefore : Step → Step → Type 0
ComesBefore s t = (s.told.looped ≡ false) ⊎ (t.told.looped ≡ false) → s.place < t.place

abbrev pub AreInOrder : List Step → Type 0
AreInOrder [] = ⊤
AreInOrder (s ∷ ss) = AllByRecursion (ComesBefore s) ss × AreInOrder ss

-- what a run releases comes from the releases of the text, one after another; so one in no loop is done once at most
abbrev pub ReleasesComeInOrder : Type 0
ReleasesComeInOrder =
    (tx : Tx) (told : List Told) → AreTold tx told
    → (ls : Labels) (schemes : Schemes) (args : List (Option Value)) (db : Database)
    → (steps : List Step) × ((run_tx ls schemes tx args db).released ≡ map (λ s. s.item) steps)
    × AllByRecursion (IsStep told) steps × AreInOrder steps
