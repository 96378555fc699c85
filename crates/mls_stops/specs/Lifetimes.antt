-- The life of a store: it is opened under files, and runs are made over it; then under later files, of version 2, which
-- may have more labels, attributes and relations, and so on.
use Rattle.std.specs.Prelude.{◌≡◌, ℕ, ◌<◌, ◌≤◌, List, [], ◌∷◌, length, Option, Some, None, ⊤, ◌⊎◌}
use Rattle.std.specs.List.{AllZip}
use Rattle.mls_lattice.specs.Labels.{Labels, AreDistinct, below}
use Rattle.mls_lattice.specs.Policy.{Policy, labels_of}
use Rattle.mls_scheme.specs.Scheme.{Schemes}
use Rattle.mls_filterview.specs.Content.{Content}
use Rattle.mls_audit.specs.Sound.{IsSoundContent}
use Rattle.mls_machine.specs.Observation.{AgreeAt}
use Rattle.mls_machine.specs.History.{RunAt, LookAlike, ReleaseAlike, HistoriesEndAlike, HistoryFits}
use Rattle.mls_runs.specs.History.{world_of}
use Rattle.mls_runs.specs.Steps.{AreStoreSteps, MigrationStep}

-- ---- later labels

-- labels are the first of others, and dominate one another among these as before
pub record AreFirst (old new : Labels) : Type 0 where
  pub few : length old ≤ length new
  pub same : (m n : ℕ) → m < length old → n < length old → below new m n ≡ below old m n

-- a policy has the labels of an older one first, of which c is one, and content is sound under the older
pub record AddsLabels (c : ℕ) (old new : Policy) (content : Content) : Type 0 where
  pub declared : c < length old.labels
  pub first : AreFirst (labels_of old) (labels_of new)
  pub distinct : AreDistinct (labels_of new)
  pub schemes : Schemes
  pub sound : IsSoundContent old schemes content

-- ---- lives

-- under this policy and these schemes a store is opened, as it was, or migrated from relations that have so many
-- attributes outside their keys; it then has a content, which runs leave as another
pub record Epoch : Type 0 where
  pub policy : Policy
  pub schemes : Schemes
  pub counts : Option (List ℕ)
  pub opened : Content
  pub runs : List RunAt
  pub left : Content

-- what a content is when it is opened
abbrev pub IsOpened : Policy → Schemes → Option (List ℕ) → Content → Content → Type 0
IsOpened policy schemes None first opened = (opened ≡ first) × IsSoundContent policy schemes opened
IsOpened policy schemes (Some counts) first opened = MigrationStep policy schemes counts first opened

module _ (c : ℕ) where
  -- epochs one after another, from a content under a policy, each under the same policy or one with more labels
  abbrev pub IsLifetime : Policy → Content → List Epoch → Type 0
  IsLifetime policy first [] = ⊤
  IsLifetime policy first (e ∷ es) =
      ((e.policy ≡ policy) ⊎ AddsLabels c policy e.policy first)
      × IsOpened e.policy e.schemes e.counts first e.opened
      × AreStoreSteps e.policy e.schemes e.runs e.opened e.left × IsLifetime e.policy e.left es

  -- two epochs are under the same policy and schemes, of files that a store is migrated to from the same or not at all,
  -- and run by run c sees the same of their events, and the same is released to it, or the calls do so that can tell it
  -- something
  pub record EpochsLookAlike (e f : Epoch) : Type 0 where
    pub policy : e.policy ≡ f.policy
    pub schemes : e.schemes ≡ f.schemes
    pub counts : e.counts ≡ f.counts
    pub fits : HistoryFits f.runs
    pub runs : AllZip (LookAlike c) e.runs f.runs
    pub released : ReleaseAlike c (world_of e.policy e.opened) (world_of f.policy f.opened) e.runs f.runs

  -- what is opened looks alike to c, and the runs show it the same and end alike
  pub record EpochsEndAlike (e f : Epoch) : Type 0 where
    pub opened : AgreeAt (labels_of e.policy) c (world_of e.policy e.opened) (world_of f.policy f.opened)
    pub runs : HistoriesEndAlike (labels_of e.policy) c (world_of e.policy e.opened)
        (world_of f.policy f.opened) e.runs f.runs

-- No information flows down in the life of a store but what is released, whatever files it is migrated to.
abbrev pub LifetimesPassOnlyReleases : Type 0
LifetimesPassOnlyReleases =
    (policy : Policy) → AreDistinct (labels_of policy) → (c : ℕ)
    → (first other : Content) (es fs : List Epoch) → IsLifetime c policy first es → IsLifetime c policy other fs
    → AgreeAt (labels_of policy) c (world_of policy first) (world_of policy other)
    → AllZip (EpochsLookAlike c) es fs → AllZip (EpochsEndAlike c) es fs
