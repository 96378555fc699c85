-- Why a run or a shell is given up, and which stores it leaves then.
use Rattle.std.specs.Prelude.{◌≡◌, ◌≢◌, ℕ, Bool, true, false, List, Option, Some, None, Result, Ok, Err, ⊤}
use Rattle.mls_translang.specs.declared.run_fault.RunCause.TheVariants.{Store}
use Rattle.mls_translang.specs.declared.run_fault.RunFault.{RunFault}
use Rattle.mls_host.specs.declared.stop.Stop.{Stop}
use Rattle.mls_host.specs.declared.stop.Stop.TheVariants.{Before, Run, NotClosed}
use Rattle.mls_host.specs.Hosting.{Hosted, KeepsStores, LeavesStores}

module _ (h : Hosted) where
  -- only a store that is named, and that the host did not close, is not closed
  abbrev pub IsUnclosed : Option (List ℕ) → Type 0
  IsUnclosed None = ⊥
  IsUnclosed (Some path) = h.after.is_unclosed

  -- the store is closed where this says so, and else it is not
  abbrev pub IsClosedAs : Option (List ℕ) → Bool → Type 0
  IsClosedAs store true = ¬ IsUnclosed store
  IsClosedAs store false = IsUnclosed store

  -- It stops for the store only where one is named, of which a call failed, if that is clean. Any may stop for memory,
  -- or for the writer, which tells nobody why it takes no more.
  abbrev pub IsStoppedFor : Option (List ℕ) → RunFault → Type 0
  IsStoppedFor None fault = fault.cause ≢ Store
  IsStoppedFor (Some path) fault = h.after.is_honest → fault.cause ≡ Store → h.after.has_failed

  -- Each store keeps what it kept where none is begun, and where none is named. What stops, or is not closed, has a
  -- cause; and the store of what ends or stops is closed, but where the contrary is told.
  abbrev pub IsCaused : {A : Type 0} → Option (List ℕ) → Result A Stop → Type 0
  IsCaused store (Ok end) = LeavesStores h store × IsClosedAs store true
  IsCaused store (Err (Before reason)) = KeepsStores h
  IsCaused store (Err (Run fault is_closed)) =
      LeavesStores h store × IsStoppedFor store fault × IsClosedAs store is_closed
  IsCaused store (Err NotClosed) = IsUnclosed store
  IsCaused store _ = ⊥

-- without a store it stops for none, and none is not closed
abbrev pub IsCausedInMemory : {A : Type 0} → Result A Stop → Type 0
IsCausedInMemory (Ok end) = ⊤
IsCausedInMemory (Err (Before reason)) = ⊤
IsCausedInMemory (Err (Run fault is_closed)) = (fault.cause ≢ Store) × (is_closed ≡ true)
IsCausedInMemory _ = ⊥
