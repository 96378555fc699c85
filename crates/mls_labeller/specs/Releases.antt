-- What lists of items runs can release, where a range is told of each release, in the order of the text.
use Rattle.std.specs.Prelude.{◌≡◌, ◌⊎◌, ℕ, zero, suc, ◌+◌, ◌*◌, ◌<◌, ◌≤◌, Bool, true, false, if◌then◌else◌, List}
use Rattle.std.specs.Prelude.{[], ◌∷◌, ◌++◌, length, Option}
use Rattle.std.specs.Prelude.{Contains}
use Rattle.mls_lattice.specs.Labels.{Labels}
use Rattle.mls_lattice.specs.Policy.{Policy, labels_of}
use Rattle.mls_scheme.specs.declared.value.Value.{Value}
use Rattle.mls_scheme.specs.declared.tuple.Tuple.{Tuple}
use Rattle.mls_scheme.specs.Scheme.{Schemes}
use Rattle.mls_scheme.specs.Table.{Database}
use Rattle.mls_translang.specs.Tree.{Release, Block, End, Do, If, For}
use Rattle.mls_translang.specs.Tx.{Tx}
use Rattle.mls_translang.specs.Fits.{IsReadUnder}
use Rattle.mls_certcheck.specs.Meaning.{Item, Progress, run_block, run_tx}
use Rattle.mls_certcheck.specs.Secure.{AreStored, SameViews, SameArgs, param_labels, seen_items, Alike, Secure}
use Rattle.mls_labeller.specs.declared.told.Told.{Told}
use Rattle.mls_labeller.specs.declared.range.Range.{Range}
use Rattle.mls_labeller.specs.Ranges.{Admits, AreHeld}
pub use Rattle.mls_labeller.specs.Ranges.{uncounted}

-- one list leads to another by so many steps
abbrev pub Repeats : (List Item → List Item → Type 0) → ℕ → List Item → List Item → Type 0
Repeats Goes zero xs zs = zs ≡ xs
Repeats Goes (suc n) xs zs = (ys : List Item) × Goes xs ys × Repeats Goes n ys zs

-- what is told of the releases of a block, in a loop or not, and items that were released before a run of it and are
-- behind it
abbrev pub CanRelease : Bool → Block → List Told → List Item → List Item → Type 0
CanRelease looped End told xs zs = (told ≡ []) × (zs ≡ xs)
-- a release gives its label and a value of its range, and other statements give nothing
CanRelease looped (Do (Release e to into) rest) told xs zs =
    (range : Range) × (more : List Told) × (told ≡ record { to = to; into = into; range = range; looped = looped }
    ∷ more)
    × (v : Option Value) × Admits range v × CanRelease looped rest more (xs ++ (to, v) ∷ []) zs
CanRelease looped (Do stmt rest) told xs zs = CanRelease looped rest told xs zs
-- a branch gives what one of its blocks can give
CanRelease looped (If guard one other rest) told xs zs =
    (a : List Told) × (b : List Told) × (more : List Told) × (told ≡ (a ++ b) ++ more) × (taken : Bool)
    × (x : List Item) × (y : List Item)
    × CanRelease looped one a xs x × CanRelease looped other b xs y × CanRelease looped rest more
    (if taken then x else y) zs
-- a loop gives what its body can give, never or again and again
CanRelease looped (For row relation label body rest) told xs zs =
    (a : List Told) × (more : List Told) × (told ≡ a ++ more) × (x : List Item) × (y : List Item)
    × CanRelease true body a x y
    × (turns : ℕ) × (ys : List Item) × Repeats (CanRelease true body a) turns xs ys × CanRelease looped rest more ys zs

-- in every run from any database, with any arguments, the releases have values of the ranges that are told
abbrev pub AreTold : Tx → List Told → Type 0
AreTold tx told =
    (ls : Labels) (schemes : Schemes) (args : List (Option Value)) (db : Database)
    → CanRelease false tx.body told [] (run_tx ls schemes tx args db).released

-- ---- ranges before and after a block

-- from one point of a run of a block to its end: variables of these ranges, and items that it can release
abbrev pub Goes : Bool → Block → List Range → List Told → Progress → Progress → Type 0
Goes looped block after told s t = AreHeld after t.vars × CanRelease looped block told s.released t.released

-- so goes every run of a block
pub record Covers (looped : Bool) (before : List Range) (block : Block) (after : List Range)
    (told : List Told) : Type 0 where
  pub runs : (ls : Labels) (schemes : Schemes) (args : List (Option Value)) (around : List Tuple) (s : Progress)
      → AreHeld before s.vars
      → Goes looped block after told s (run_block ls schemes args block around s)

-- so goes every run of a block, if it does from a point inside, where there are ranges now
pub record Reaches (looped : Bool) (before : List Range) (block : Block) (now : List Range) (rest : Block)
    (told : List Told) : Type 0 where
  pub covers : (after : List Range) (more : List Told) → Covers looped now rest after more
      → Covers looped before block after (told ++ more)

-- ---- how many lists of items there are

-- how many releases a block has
abbrev pub releases : Block → ℕ
releases End = 0
releases (Do (Release e to into) rest) = 1 + releases rest
releases (Do stmt rest) = releases rest
releases (If guard one other rest) = releases one + releases other + releases rest
releases (For row relation label body rest) = releases body + releases rest

-- each list of items that a block can release behind others
abbrev pub HasLists : Bool → Block → List Told → List (List Item) → Type 0
HasLists looped block told lists = (xs : List Item) (zs : List Item) → CanRelease looped block told xs zs
    → (ys : List Item) × Contains lists ys × (zs ≡ xs ++ ys)

-- From a block to a rest of it: for each list that the rest can release there are so many, if they are counted. One is
-- of nothing, and
-- in a loop no others are counted.
pub record Multiplies (looped : Bool) (block rest : Block) (told : List Told) (count : ℕ) : Type 0 where
  pub some : 1 ≤ count
  pub long : length told + releases rest ≡ releases block
  pub nothing : told ≡ [] → count ≡ 1
  pub loops : looped ≡ true → (told ≡ []) ⊎ (count ≡ uncounted)
  pub lists : count < uncounted → (more : List Told) (lists : List (List Item)) → HasLists looped rest more lists
      → (all : List (List Item)) × (length all ≤ count * length lists) × HasLists looped block (told ++ more) all

-- ---- how much a call can tell

-- what a call begins with
pub record World : Type 0 where
  pub db : Database
  pub args : List (Option Value)

module _ (policy : Policy) (schemes : Schemes) (tx : Tx) (c : ℕ) where
  abbrev pub run_of : World → Progress
  run_of w = run_tx (labels_of policy) schemes tx w.args w.db

  -- worlds are of so many classes at most, and where c sees two of one class alike before a call, it does after it
  pub record TellsAtMost (count : ℕ) : Type 0 where
    pub class : World → ℕ
    pub few : (w : World) → class w < count
    pub alike : (v w : World) → class v ≡ class w → AreStored (labels_of policy) schemes v.db
        → AreStored (labels_of policy) schemes w.db
        → SameViews (labels_of policy) c v.db w.db → SameArgs (labels_of policy) c (param_labels tx) v.args w.args
        → Alike (labels_of policy) c (run_of v) (run_of w)

  -- each list of items that can be released, as c sees it, is among these
  abbrev pub HasAll : List Told → List (List Item) → Type 0
  HasAll told lists =
      (items : List Item) → CanRelease false tx.body told [] items
      → Contains lists (seen_items (labels_of policy) c items)

-- by one call c can tell apart at most as many classes of worlds as there are lists of items of the ranges that are
-- told
abbrev pub CallsTellFew : Type 0
CallsTellFew =
    (policy : Policy) (tx : Tx) → Secure policy tx → (told : List Told) → AreTold tx told
    → (schemes : Schemes) → IsReadUnder policy schemes tx → (c : ℕ) (lists : List (List Item))
    → HasAll policy schemes tx c told lists
    → TellsAtMost policy schemes tx c (length lists)
