-- The audit list of a store, turned.
use Rattle.std.specs.Prelude.{◌≡◌, ◌≢◌, ℕ, List, [], ◌++◌, Option, Some, None, IfSome, Result, ⊤, ◌⊎◌}
use Rattle.mls_lattice.specs.Policy.{Policy, labels_of}
use Rattle.mls_filterview.specs.Content.{Content}
use Rattle.mls_audit.specs.Sound.{IsSoundContent}
use Rattle.mls_machine.specs.Machine.{World}
use Rattle.mls_machine.specs.Observation.{AgreeAt, out}
use Rattle.mls_machine.specs.Turning.{turn_lines, turned}
use Rattle.mls_translang.specs.declared.run_fault.RunFault.{RunFault}
use Rattle.mls_sessions.specs.Turning.{IsTurned}
use Rattle.mls_host.specs.declared.job.Setting.{Setting}
use Rattle.mls_fragments.specs.declared.open_fault.OpenFault.TheVariants as stores
use Rattle.mls_host.specs.declared.host.StoreCause.{StoreCause}
use Rattle.mls_host.specs.declared.reason.Reason.{Reason}
use Rattle.mls_host.specs.declared.reason.Reason.TheVariants.{Store}
use Rattle.mls_host.specs.Causes.{IsBarred}
use Rattle.mls_host.specs.Hosting.{Hosting, Hosted, AreNowhere, IsClean, LeadsOverStore}
use Rattle.mls_runs.specs.History.{world_of}

-- a turning passes nothing down: of any other world that looks alike to a level it shows that the same entries, and
-- leaves
-- a world that looks alike to it
abbrev pub TurnPassesNothingDown : Policy → World → Type 0
TurnPassesNothingDown policy v =
    (c : ℕ) (w : World) → AgreeAt (labels_of policy) c v w
    → (out (labels_of policy) c (turn_lines policy v.audit) ≡ out (labels_of policy) c (turn_lines policy w.audit))
    × AgreeAt (labels_of policy) c (turned v) (turned w)

-- a store is at a path: its files are shown, and one of them has bytes; or they are not shown, and it is opened to see
abbrev pub IsThere : Hosting → Option (List ℕ) → Type 0
IsThere h None = ⊤
IsThere h (Some path) =
    ((log : List ℕ) × (db : List ℕ) × h.shows path log db × (log ++ db ≢ []))
    ⊎ ((cause : StoreCause) × h.hides path cause)

module _ (setting : Setting) (Wrote : List ℕ → Type 0) (end : Result (Unit {0}) RunFault) where
  -- what a content is turned into: the entries that the reader may see are written, or all, and none is left
  pub record IsTurning (first left : Content) : Type 0 where
    pub list : IsTurned setting.policy setting.reader Wrote first left end
    -- a next run may begin with what is left
    pub sound : IsSoundContent setting.policy setting.file.schemes left
    pub secret : TurnPassesNothingDown setting.policy (world_of setting.policy first)

  -- a store is there, and its list is turned, where it is clean
  pub record IsTurnRun (h : Hosted) (store : Option (List ℕ)) : Type 0 where
    pub there : IsThere h.before store
    pub turned : IsClean h store → LeadsOverStore h setting.policy setting.file store IsTurning
    -- no tuple of it is read or changed, however it ends
    pub access : IfSome store (λ path. AreNowhere h.after.asked h.after.changed)

-- no list is turned: the store is barred; or there is none, and none is made
pub data IsTurnRefused (h : Hosting) (s : Setting) (store : Option (List ℕ)) (reason : Reason) : Type 0 where
  barred : IsBarred h s.policy s.file store reason → IsTurnRefused h s store reason
  absent : (path : List ℕ) → store ≡ Some path → h.shows path [] [] → reason ≡ Store stores.Store
      → IsTurnRefused h s store reason
