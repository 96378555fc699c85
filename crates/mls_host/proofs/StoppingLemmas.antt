-- What goes with the end of a run or a shell, and that a host which is not touched keeps its stores.
use Rattle.std.proofs.Common.{◌≡◌, ◌<◌, ℕ, true, false, true≢false, List, Option, Some, None, Result, Ok, Err, IfErr, IsErr, refl, sym, subst, arith, Bor, IsErrAnd}
use Rattle.mls_translang.specs.declared.run_fault.RunCause.TheVariants.{Store}
use Rattle.mls_translang.specs.declared.run_fault.RunFault.{RunFault}
use Rattle.mls_host.specs.declared.host.CloseFault.{CloseFault}
use Rattle.mls_host.specs.declared.reason.Reason.{Reason}
use Rattle.mls_host.specs.declared.stop.Stop.{Stop}
use Rattle.mls_host.specs.declared.stop.Stop.TheVariants.{Before, Run}
use Rattle.mls_host.specs.Hosting.{Hosting, Hosted, KeepSame, KeepsStores}
use Rattle.mls_host.specs.Stop.{ended}
use Rattle.mls_host.specs.Stopping.{IsCaused, IsCausedInMemory}
use Rattle.mls_host.specs.Words.{named}

-- a host that is not touched
pub untouched : (h : Hosting) → KeepSame h h
untouched h = record {
  kept = λ path c. (λ k. k, λ k. k);
  asked = λ m. (λ k. k, λ k. k);
  changed = λ m. (λ k. k, λ k. k);
}

-- a run without a store, which is closed
pub ended_in_memory : {A : Type 0} (outcome : Result A RunFault) → IfErr outcome (λ f. f.cause ≡ Store → 0 < 0)
    → IsCausedInMemory (ended outcome (Ok tt))
ended_in_memory (Ok end) k = tt
ended_in_memory (Err fault) k = ((λ is. let none = k is in absurd (omega (arith, none))), refl)

module _ {A : Type 0} (h : Hosted) where
  caused_without : KeepsStores h → (r : Result A Stop) → IsCausedInMemory r → IsCaused h None r
  caused_without kept (Ok end) k = (kept, λ none. none)
  caused_without kept (Err (Before reason)) k = kept
  caused_without kept (Err (Run fault true)) k = (kept, k.0, λ none. none)
  caused_without kept (Err (Run fault false)) k = absurd (true≢false (sym k.1))
  caused_without kept _ k = absurd k

  -- over a store, of which a call failed where more have failed than before
  pub caused_in_store : (path : List ℕ) (outcome : Result A RunFault) (closed : Result (Unit {0}) CloseFault)
      (before after : ℕ) → (IsErr closed → h.after.is_unclosed) → (h.after.is_unclosed → IsErr closed)
      → (0 < after → h.after.has_failed)
      → (h.after.is_honest → IfErr outcome (λ f. f.cause ≡ Store → before < after))
      → IsCaused h (Some path) (ended outcome closed)
  caused_in_store path (Err fault) (Err e) before after unclosed none failed k =
      (tt, (λ honest is. let more = k honest is in failed (omega (arith, more))), unclosed refl)
  caused_in_store path (Err fault) (Ok v) before after unclosed none failed k = (
    tt,
    (λ honest is. let more = k honest is in failed (omega (arith, more))),
    λ is. absurd (true≢false (sym (none is))),
  )
  caused_in_store path (Ok end) (Err e) before after unclosed none failed k = unclosed refl
  caused_in_store path (Ok end) (Ok v) before after unclosed none failed k =
      (tt, λ is. absurd (true≢false (sym (none is))))

  -- where a store is named, or none
  pub caused_at : (store at : Option (Bor (List ℕ))) → store ≡ at → (r : Result A Stop) → IsCaused h (named at) r
      → IsCaused h (named store) r
  caused_at store at is r k = subst (λ (s : Option (Bor (List ℕ))). IsCaused h (named s) r) (sym is) k

  pub caused_from_memory : (store : Option (Bor (List ℕ))) → store ≡ None → KeepsStores h → (r : Result A Stop)
      → IsCausedInMemory r → IsCaused h (named store) r
  caused_from_memory store none kept r k = caused_at store None none r (caused_without kept r k)

  -- at the exit of a `?`, of a host that is not touched
  pub caused_before : (store : Option (List ℕ)) (r : Result A Stop) (reason : Reason)
      → IsErrAnd r (λ e. e ≡ Before reason) → KeepsStores h → IsCaused h store r
  caused_before store (Ok a) reason is k = absurd is
  caused_before store (Err e) reason is k = subst (λ (x : Stop). let r : Result A Stop = Err x in IsCaused h store r)
      (sym is) k
