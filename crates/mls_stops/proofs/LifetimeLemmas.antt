-- The life of a store, epoch by epoch: openings by the law of widenings, runs by that of histories.
use Rattle.std.proofs.Common.{◌≡◌, ◌⊎◌, inl, inr, ℕ, List, [], ◌∷◌, Option, Some, None, refl, sym, subst}
use Rattle.std.specs.List.{AllZip}
use Rattle.mls_lattice.specs.Labels.{AreDistinct}
use Rattle.mls_lattice.specs.Policy.{Policy, labels_of}
use Rattle.mls_scheme.specs.Scheme.{Schemes}
use Rattle.mls_filterview.specs.Content.{Content}
use Rattle.mls_audit.specs.Sound.{IsSoundContent}
use Rattle.mls_certcheck.specs.Secure.{AreStored}
use Rattle.mls_machine.specs.Observation.{AgreeAt}
use Rattle.mls_machine.specs.Machine.{World}
use Rattle.mls_machine.specs.History.{HistoriesEndAlike, ReleaseAlike}
use Rattle.mls_runs.specs.History.{world_of}
use Rattle.mls_runs.specs.Steps.{AreStoreSteps}
use Rattle.mls_runs.proofs.StepsLemmas.{steps_are_histories}
use Rattle.mls_stops.specs.Lifetimes.{AddsLabels, Epoch, IsOpened, IsLifetime, EpochsLookAlike, EpochsEndAlike, LifetimesPassOnlyReleases}
use Rattle.mls_stops.proofs.AddedLemmas.{still_alike}

module _ (c : ℕ) where
  abbrev Agree : Policy → Content → Content → Type 0
  Agree policy a b = AgreeAt (labels_of policy) c (world_of policy a) (world_of policy b)

  -- what is opened of two contents that look alike, in one way, looks alike
  opened_alike : (policy : Policy) (schemes : Schemes) (counts : Option (List ℕ)) (first other opened over : Content)
      → IsOpened policy schemes counts first opened → IsOpened policy schemes counts other over
      → Agree policy first other → Agree policy opened over
  opened_alike policy schemes None first other opened over h k agree =
      subst (λ a. Agree policy a over) (sym h.0) (subst (Agree policy first) (sym k.0) agree)
  opened_alike policy schemes (Some counts) first other opened over h k agree = h.secret c other over k.widened agree

  opened_sound : (policy : Policy) (schemes : Schemes) (counts : Option (List ℕ)) (first opened : Content)
      → IsOpened policy schemes counts first opened → IsSoundContent policy schemes opened
  opened_sound policy schemes None first opened h = h.1
  opened_sound policy schemes (Some counts) first opened h = h.sound

  stored_of : (policy : Policy) (schemes : Schemes) (a : Content) → IsSoundContent policy schemes a
      → AreStored (labels_of policy) schemes (world_of policy a).db
  stored_of policy schemes a sound relation = (sound.content relation).stored

  -- under a policy that is the same or has more labels
  module _ (policy now : Policy) (first other : Content) where
    later_alike : ((now ≡ policy) ⊎ AddsLabels c policy now first) → ((now ≡ policy) ⊎ AddsLabels c policy now other)
        → Agree policy first other → Agree now first other
    later_alike (inl same) k agree = subst (λ p. Agree p first other) (sym same) agree
    later_alike (inr adds) (inl same) agree = subst (λ p. Agree p first other) (sym same) agree
    later_alike (inr adds) (inr more) agree = still_alike policy now c first other adds more agree

    later_distinct : ((now ≡ policy) ⊎ AddsLabels c policy now first) → AreDistinct (labels_of policy)
        → AreDistinct (labels_of now)
    later_distinct (inl same) distinct = subst (λ p. AreDistinct (labels_of p)) (sym same) distinct
    later_distinct (inr adds) distinct = adds.distinct

  -- one epoch
  module _ (policy : Policy) (schemes : Schemes) (counts : Option (List ℕ)) (distinct : AreDistinct (labels_of policy))
      (first other : Content) (agree : Agree policy first other) where
    abbrev Runs : Epoch → Content → Type 0
    Runs e at = IsOpened policy schemes counts at e.opened × AreStoreSteps policy schemes e.runs e.opened e.left

    one_epoch : (e f : Epoch) → e.policy ≡ policy → f.policy ≡ policy → Runs e first → Runs f other
        → EpochsLookAlike c e f → EpochsEndAlike c e f × Agree policy e.left f.left
    one_epoch e f p q h k l =
        let opened : Agree policy e.opened f.opened
        = opened_alike policy schemes counts first other e.opened f.opened h.0 k.0 agree in
        let one = steps_are_histories policy schemes distinct e.runs e.opened e.left h.1 in
        let two = steps_are_histories policy schemes distinct f.runs f.opened f.left k.1 in
        let released = subst (λ r. ReleaseAlike c (world_of policy e.opened) (world_of r f.opened) e.runs f.runs) q
        (subst (λ r. ReleaseAlike c (world_of r e.opened) (world_of f.policy f.opened) e.runs f.runs) p l.released) in
        let runs : HistoriesEndAlike (labels_of policy) c (world_of policy e.opened)
        (world_of policy f.opened) e.runs f.runs
        = one.secret c (world_of policy f.opened) f.runs (stored_of policy schemes f.opened
        (opened_sound policy schemes counts other f.opened k.0)) l.fits opened l.runs released in
        let left : Agree policy e.left f.left
        = subst (λ (w : World). AgreeAt (labels_of policy) c w (world_of policy f.left)) one.left_by
        (subst (AgreeAt (labels_of policy) c _) two.left_by runs.worlds) in (
          record {
            opened = subst (λ r. AgreeAt (labels_of r) c (world_of r e.opened) (world_of f.policy f.opened)) (sym p)
                (subst (λ r. AgreeAt (labels_of policy) c (world_of policy e.opened) (world_of r f.opened)) (sym q) opened);
            runs = subst (λ r. HistoriesEndAlike (labels_of r) c (world_of r e.opened) (world_of f.policy f.opened) e.runs
                f.runs) (sym p)
                (subst (λ r. HistoriesEndAlike (labels_of policy) c (world_of policy e.opened) (world_of r f.opened)
                e.runs f.runs) (sym q) runs);
          },
          left,
        )

  epochs_alike : (policy : Policy) → AreDistinct (labels_of policy) → (first other : Content) (es fs : List Epoch)
      → IsLifetime c policy first es → IsLifetime c policy other fs → Agree policy first other
      → AllZip (EpochsLookAlike c) es fs → AllZip (EpochsEndAlike c) es fs
  epochs_alike policy distinct first other [] [] h k agree look = tt
  epochs_alike policy distinct first other [] (f ∷ fs) h k agree look = absurd look
  epochs_alike policy distinct first other (e ∷ es) [] h k agree look = absurd look
  epochs_alike policy distinct first other (e ∷ es) (f ∷ fs) h k agree look =
      let l = look.0 in
      let now = e.policy in
      let later : (now ≡ policy) ⊎ AddsLabels c policy now other
      = subst (λ p. (p ≡ policy) ⊎ AddsLabels c policy p other) (sym l.policy) k.0 in
      let over : IsOpened now e.schemes e.counts other f.opened
      = subst (λ p. IsOpened p e.schemes e.counts other f.opened) (sym l.policy)
      (subst (λ s. IsOpened f.policy s e.counts other f.opened) (sym l.schemes)
      (subst (λ o. IsOpened f.policy f.schemes o other f.opened) (sym l.counts) k.1)) in
      let steps : AreStoreSteps now e.schemes f.runs f.opened f.left
      = subst (λ p. AreStoreSteps p e.schemes f.runs f.opened f.left) (sym l.policy)
      (subst (λ s. AreStoreSteps f.policy s f.runs f.opened f.left) (sym l.schemes) k.2) in
      let apart : AreDistinct (labels_of now) = later_distinct policy now first other h.0 distinct in
      let one = one_epoch now e.schemes e.counts apart first other
      (later_alike policy now first other h.0 later agree) e f refl (sym l.policy) (h.1, h.2) (over, steps) l in
      let rest : IsLifetime c now f.left fs = subst (λ p. IsLifetime c p f.left fs) (sym l.policy) k.3 in
      (one.0, epochs_alike now apart e.left f.left es fs h.3 rest one.1 look.1)

pub lifetimes_pass : LifetimesPassOnlyReleases
lifetimes_pass policy distinct c first other es fs h k agree look =
    epochs_alike c policy distinct first other es fs h k agree look
