-- How much a level can learn in a history: in runs one after another.
use Rattle.std.specs.Prelude.{◌≡◌, ℕ, ◌<◌, List, [], ◌∷◌, ◌++◌, map, length, Contains}
use Rattle.std.specs.List.{AllByRecursion, AllZip}
use Rattle.mls_lattice.specs.Labels.{Labels, AreDistinct}
use Rattle.mls_scheme.specs.Scheme.{Schemes}
use Rattle.mls_certcheck.specs.Meaning.{Item}
use Rattle.mls_certcheck.specs.Secure.{AreStored}
use Rattle.mls_certcheck.specs.declared.stored.Stored.{Stored}
use Rattle.mls_certcheck.specs.Site.{Site, AreCertified}
use Rattle.mls_machine.specs.Machine.{World}
use Rattle.mls_machine.specs.Observation.{AgreeAt, released_to}
use Rattle.mls_machine.specs.History.{RunAt, run_start, run_end, LookAlike, HistoriesEndAlike, HistoryFits}
use Rattle.mls_machine.specs.History.{IsHistoryUnder}
use Rattle.mls_lives.specs.Lives.{all_ran, CountsAtMost, product}

-- runs one after another, from a world
pub record Past : Type 0 where
  pub world : World
  pub runs : List RunAt

module _ (ls : Labels) (schemes : Schemes) (c : ℕ) where
  -- a history begins as another does to c: of its runs c sees the same, run by run
  pub record BeginsAs (past other : Past) : Type 0 where
    pub stored : AreStored ls schemes other.world.db
    pub fits : HistoryFits other.runs
    pub agree : AgreeAt ls c past.world other.world
    pub runs : AllZip (LookAlike c) past.runs other.runs

  -- the histories that begin as this one does to c are of so many classes at most, and two of one class end alike to c
  pub record TellsAtMost (past : Past) (count : ℕ) : Type 0 where
    pub class : (other : Past) → BeginsAs past other → ℕ
    pub few : (other : Past) (begins : BeginsAs past other) → class other begins < count
    pub alike : (one two : Past) (first : BeginsAs past one) (second : BeginsAs past two)
        → class one first ≡ class two second → HistoriesEndAlike ls c one.world two.world one.runs two.runs

-- what each run releases to c
unfoldable pub history_released : ℕ → World → List RunAt → List (List Item)
history_released c w [] = []
history_released c w (r ∷ rs) =
    released_to r.site c (run_start w r) r.events ∷ history_released c (run_end w r) rs

-- the transactions that are run by events that c sees, each at the site of its run
unfoldable pub history_ran : ℕ → World → List RunAt → List (Site × Stored)
history_ran c w [] = []
history_ran c w (r ∷ rs) =
    map (λ s. (r.site, s)) (all_ran r.site c (run_start w r) r.events) ++ history_ran c (run_end w r) rs

-- ---- laws

abbrev pub HistoriesTellFew : Type 0
HistoriesTellFew =
    (ls : Labels) (schemes : Schemes) → AreDistinct ls → (c : ℕ) (past : Past) → IsHistoryUnder ls schemes past.runs
    → AllByRecursion (λ r. AreCertified r.site) past.runs
    → (lists : List (List (List Item)))
    → ((other : Past) → BeginsAs ls schemes c past other → Contains lists (history_released c other.world other.runs))
    → TellsAtMost ls schemes c past (length lists)

-- calls of many runs multiply as those of one do
abbrev pub HistoryCallsMultiply : Type 0
HistoryCallsMultiply =
    (ls : Labels) (schemes : Schemes) → AreDistinct ls → (c : ℕ) (past : Past) → IsHistoryUnder ls schemes past.runs
    → AllByRecursion (λ r. AreCertified r.site) past.runs
    → AreStored ls schemes past.world.db → HistoryFits past.runs
    → (counts : List ℕ) → AllZip (λ run n. CountsAtMost run.0 c run.1 n) (history_ran c past.world past.runs) counts
    → TellsAtMost ls schemes c past (product counts)
