-- Bases over files in memory.
use Rattle.std.proofs.Common.{◌≡◌, ◌≢◌, Result, Ok, Err, IfErr, refl, ap, subst, arith}
use Rattle.sqlite_trees.proofs.Doubt.{no_doubt}
use Rattle.sqlite.proofs.OpenLemmas.{pool_files}
use Rattle.sqlite.specs.Held.{Held}
use Rattle.sqlite.specs.State.{HasCleanDisk}
use Rattle.sqlite.specs.Files.{file_state}
use Rattle.sqlite.specs.declared.FileStore.{FileStore}
use Rattle.mls_filterview.specs.Calls.{IsCall, IsFault}
use Rattle.mls_filterview.specs.Content.{Seen}
use Rattle.mls_filterview.specs.declared.base.BaseFault.{BaseFault}
use Rattle.mls_filterview.specs.declared.base.BaseFault.TheVariants.{Store, Memory}
use Rattle.mls_fragments.specs.declared.memory_file.MemoryFile.{MemoryFile}
use Rattle.mls_fragments.specs.MemoryFile.{over_memory}

-- their stores give back what was written to them
pub memory_files_are_clean : (c : Held (FileStore MemoryFile over_memory)) → HasCleanDisk (file_state c)
memory_files_are_clean c = no_doubt _ (pool_files c.store.pool).1

-- as nothing of a store fails
abbrev forgiven : {Self : Type 0} → (Self → Seen) → Self → Seen
forgiven seen b = record (seen b) { failures = 0 }

module _ {Self : Type 0} (seen : Self → Seen) (old new : Self) where
  -- a fault that is none of the store's
  memory_fault : (e : BaseFault) → e ≢ Store → IsFault seen e old new → IsFault (forgiven seen) e old new
  memory_fault e other fault =
      record {
        store = λ is. absurd (other is);
        not_begun = λ is. refl;
        begun = λ is. refl;
        mode = fault.mode;
        content =
            fault.content;
      }

module _ {Self A : Type 0} (seen : Self → Seen) (old new : Self) where
  -- a call that answers Memory where the store failed
  pub memory_call : (r : Result A BaseFault) → r ≡ Err Store → IsCall seen old new r
      → IsCall (forgiven seen) {A = A} old new (Err Memory)
  memory_call r is call =
      let failed = subst (IsCall seen old new) is call in
      record {
        clean = failed.clean;
        about = failed.about;
        count = omega arith;
        fault = record {
          store = λ e. absurd cc;
          not_begun = λ e. refl;
          begun = λ e. refl;
          mode = failed.fault.mode;
          content = failed.fault.content;
        };
      }

  faults : (r : Result A BaseFault) → r ≢ Err Store → IfErr r (λ e. IsFault seen e old new)
      → IfErr r (λ e. IsFault (forgiven seen) e old new)
  faults (Ok a) other fault = tt
  faults (Err e) other fault = memory_fault seen old new e (λ is. other (ap Err is)) fault

  -- a call that answers so where it did not fail
  pub memory_answer : (r : Result A BaseFault) → r ≢ Err Store → IsCall seen old new r
      → IsCall (forgiven seen) old new r
  memory_answer r other call = record {
    clean = call.clean;
    about = call.about;
    count = omega arith;
    fault =
        faults r other call.fault;
  }

pub ruleset memory_calls = (memory_call, memory_answer)
