-- Replicas: stores that do the events of one log, each between events of its own.
use Rattle.std.specs.Prelude.{◌≡◌, ℕ, List, filter}
use Rattle.mls_lattice.specs.Labels.{AreDistinct, below}
use Rattle.mls_translang.specs.declared.event.Event.{Event}
use Rattle.mls_certcheck.specs.Site.{Site, site_labels, AreRead, AreCertified}
use Rattle.mls_machine.specs.Machine.{World}
use Rattle.mls_machine.specs.Telling.{by_releases}
use Rattle.mls_machine.specs.Observation.{AreStored, EventsFit, AgreeAt, EndAlike, ReleaseTheSame}
use Rattle.mls_machine.specs.Observation.{PassesOnlyReleasesDown}
use Rattle.mls_machine.specs.Serving.{served_to}

module _ (site : Site) where
  -- what a log feeds up to c: its events of levels that c dominates, in order
  abbrev pub feed : ℕ → List Event → List Event
  feed c log = filter (λ e. below (site_labels site) e.level c) log

  -- a replica is fed a log up to c: its own log has these events, in order, and between them any others, of
  -- levels that c does not dominate
  abbrev pub IsFed : ℕ → List Event → List Event → Type 0
  IsFed c log own = feed c log ≡ feed c own

  -- the replicas of a run from v over a log: at each level c, a store that looks alike to c, and is fed the log up
  -- to c, shows c the same, ends in a world that looks alike to c, and answers the sessions of levels that c
  -- dominates the same, event by event, if it also releases the same to c, or if the calls of the feed do so that can
  -- tell c something
  abbrev pub HasReplicas : World → List Event → Type 0
  HasReplicas v log =
      (c : ℕ) (w : World) (own : List Event) → AreStored site w.db → EventsFit site own
      → AgreeAt (site_labels site) c v w → IsFed c log own
      → ReleaseTheSame by_releases c site v log site w own
      → EndAlike site c v w log own × (served_to site c v log ≡ served_to site c w own)

-- where no information flows down in a run but what is released, its replicas do as it does
abbrev pub ReplicasAgree : Type 0
ReplicasAgree =
    (site : Site) (v : World) (log : List Event) → PassesOnlyReleasesDown site v log → HasReplicas site v log

-- so they do where the rules of certificates hold, over content of the stored form
abbrev pub AcceptedReplicasAgree : Type 0
AcceptedReplicasAgree =
    (site : Site) → AreDistinct (site_labels site) → AreRead site → AreCertified site
    → (v : World) (log : List Event) → AreStored site v.db → EventsFit site log → HasReplicas site v log

-- the feed alone is fed: a log has the feed that its own feed has
abbrev pub FeedsAreFed : Type 0
FeedsAreFed = (site : Site) (c : ℕ) (log : List Event) → IsFed site c (feed site c log) log
