-- What is told by calls that by a test can tell something, and what certificates say of them.
use Rattle.std.proofs.Common.{◌≡◌, ℕ, zero, suc, ◌<◌, Bool, true, false, not, ◌&&◌, ◌||◌, IfSome, cond, List, [], ◌∷◌, ◌++◌, map, length, get_or, Option, Some, None, refl, sym, ap, ◌∙◌, subst, inl, inr, filter, arith, Contains, true≢false, option_map, unwrap_or}
use Rattle.std.specs.List.{list_any, list_all, AllByRecursion}
use Rattle.std.proofs.lemmas.Bool.{cases_Bool, and_parts, and_from, or_left, or_right, not_from_true, not_from_false, false_from_ne_true}
use Rattle.std.proofs.lemmas.List.Elements.{filter-append}
use Rattle.mls_lattice.specs.Lattice.{◌⊑◌}
use Rattle.mls_lattice.specs.Labels.{below, label_of}
use Rattle.mls_lattice.proofs.LatticeLemmas.{⊑-Dominates, Dominates-⊑}
use Rattle.mls_translang.specs.Tree.{Release}
use Rattle.mls_translang.specs.declared.event.Event.{Event}
use Rattle.mls_translang.specs.declared.event.Command.{Command}
use Rattle.mls_translang.specs.declared.event.Command.TheVariants as commands
use Rattle.mls_certcheck.specs.Meaning.{Item}
use Rattle.mls_certcheck.specs.Secure.{seen_items}
use Rattle.mls_certcheck.specs.CanTell.{Tells, TellsAt, CanTell}
use Rattle.mls_certcheck.specs.Points.{Shape, Plain, Point}
use Rattle.mls_certcheck.specs.Lines.{names, all_points}
use Rattle.mls_certcheck.specs.Rules.{Claim, claim, source_label, IsAbove}
use Rattle.mls_certcheck.specs.declared.flow.Source.{Source}
use Rattle.mls_certcheck.proofs.LawLemmas.{ceilings_tell_nothing}
use Rattle.mls_certcheck.specs.declared.stored.Stored.{Stored}
use Rattle.mls_certcheck.specs.declared.stored.Stored.TheVariants as stored
use Rattle.mls_certcheck.specs.Stored.{IsCertifiedUnder}
use Rattle.mls_certcheck.specs.Site.{Site, site_labels}
use Rattle.mls_machine.specs.Denying.{stored_named}
use Rattle.mls_machine.specs.Machine.{World, step}
use Rattle.mls_machine.specs.Telling.{tells, can_tell, Test, by_ceiling, by_releases}
use Rattle.mls_machine.specs.Observation.{shown, glimpse, seen, is_called, IsNoCall, HaveNoCall, AreUntold, released_in, run_told, told_to}
use Rattle.mls_machine.specs.Laws.{UntoldRunsReleaseTheSame, TestsAreSharp, TestsTellWhatCanTell}
use Rattle.mls_machine.proofs.CalledLemmas.{found_holds}

-- ---- the test of a claim

module _ (k : Claim) (c : ℕ) where
  under_all : (sources : List Source) → list_all (λ s. source_label k s ⊑ label_of k.labels c) sources ≡ true
      → IsAbove k (label_of k.labels c) sources
  under_all [] h = tt
  under_all (s ∷ sources) h =
      let q = and_parts _ _ h in
      (⊑-Dominates (source_label k s) (label_of k.labels c) q.0, under_all sources q.1)

  all_under : (sources : List Source) → IsAbove k (label_of k.labels c) sources
      → list_all (λ s. source_label k s ⊑ label_of k.labels c) sources ≡ true
  all_under [] h = refl
  all_under (s ∷ sources) h = and_from _ _ (Dominates-⊑ (source_label k s) (label_of k.labels c) h.0)
      (all_under sources h.1)

  tells_true : (b : ℕ) (rows : List ℕ) (shape : Shape) → Tells k c b rows shape → tells k c b rows shape ≡ true
  tells_true b rows (Plain (Release e to into)) h =
      and_from _ _ h.0 (not_from_false _ (false_from_ne_true _ (λ all. h.1 (under_all (names b rows e) all))))
  tells_true b rows _ h = absurd h

  true_tells : (b : ℕ) (rows : List ℕ) (shape : Shape) → tells k c b rows shape ≡ true → Tells k c b rows shape
  true_tells b rows (Plain (Release e to into)) h =
      let q = and_parts _ _ h in
      (q.0, λ above. true≢false (sym q.1 ∙ not_from_true _ (all_under (names b rows e) above)))
  true_tells b rows _ h = absurd (true≢false (sym h))

  abbrev test : Point → Bool
  test p = tells k c p.before p.rows p.shape

  some_true : (ps : List Point) (p : Point) (n : ℕ) → n < length ps → get_or ps n p ≡ p → TellsAt k c p
      → list_any test ps ≡ true
  some_true [] p n lt is h = absurd (omega (arith, lt))
  some_true (q ∷ ps) p zero lt is h = or_left _ _ (ap test is ∙ tells_true p.before p.rows p.shape h)
  some_true (q ∷ ps) p (suc n) lt is h = or_right _ _ (some_true ps p n (omega (arith, lt)) is h)

  true_some : (ps : List Point) → list_any test ps ≡ true → (p : Point) × Contains ps p × TellsAt k c p
  true_some [] h = absurd (true≢false (sym h))
  true_some (q ∷ ps) h =
      elim (cases_Bool (test q)) [
        | inl t ↦ (q, (0, omega arith, refl), true_tells q.before q.rows q.shape t)
        | inr f ↦
            let (p, has, t) = true_some ps (ap (λ b. b || list_any test ps) (sym f) ∙ h) in
            (p, (suc has.0, omega (arith, has.1), has.2), t)
      ]

  pub told_true : CanTell k c → can_tell k c ≡ true
  told_true (p, has, t) = some_true (all_points k.tx) p has.0 has.1 has.2 t

pub tests_tell : TestsTellWhatCanTell
tests_tell k c = (true_some k c (all_points k.tx), told_true k c)

-- ---- tests of what is called

-- by no test a command that is no call can tell anything
no_call_told : (site : Site) (test : Stored → Bool) (a : Command) → IsNoCall a → is_called site test a ≡ false
no_call_told site test (commands.Call name args) h = absurd h
no_call_told site test _ h = refl

pub none_untold : (tells : Test) (site : Site) (c : ℕ) (es : List Event) → HaveNoCall es
    → AllByRecursion (λ e. is_called site (tells site c) e.command ≡ false) es
none_untold tells site c [] none = tt
none_untold tells site c (e ∷ es) none = (
  no_call_told site (tells site c) e.command none.0,
  none_untold tells site c es none.1,
)

-- ---- runs

-- what c sees of one event more
pub sees_next : (site : Site) (c : ℕ) (e : Event) (es : List Event) (b : Bool) → below (site_labels site) e.level c ≡ b
    → seen site c (e ∷ es) ≡ cond b (glimpse site c e ∷ seen site c es) (seen site c es)
sees_next site c e es true h = ap (λ x. map (glimpse site c)
    (cond x (e ∷ filter (λ f. below (site_labels site) f.level c) es)
    (filter (λ f. below (site_labels site) f.level c) es))) h
sees_next site c e es false h = ap (λ x. map (glimpse site c)
    (cond x (e ∷ filter (λ f. below (site_labels site) f.level c) es)
    (filter (λ f. below (site_labels site) f.level c) es))) h

module _ (tells : Test) (site : Site) (c : ℕ) where
  abbrev next : World → Event → World
  next w e = (step site w e).world

  abbrev told_of : World → List Event → List Item
  told_of w es = told_to tells site c w es

  -- c sees the level of an event, or doesn't
  abbrev Sees : Event → Bool → Type 0
  Sees e b = below (site_labels site) e.level c ≡ b

  -- by the test the event calls what can tell c something, or doesn't
  abbrev pub TellsBy : Event → Bool → Type 0
  TellsBy e b = is_called site (tells site c) e.command ≡ b

  pub told_next : (w : World) (e : Event) (es : List Event) (b t : Bool) → Sees e b → TellsBy e t → told_of w (e ∷ es)
      ≡ seen_items (site_labels site) c (cond (b && t) (released_in (step site w e).reply) []) ++ told_of (next w e) es
  unfolding run_told
  told_next w e es b t h k =
      let items : List Item = released_in (step site w e).reply in
      let sees_it = below (site_labels site) e.level c in
      let tells_it = is_called site (tells site c) e.command in
      filter-append (λ i. below (site_labels site) i.0 c) (cond (sees_it && tells_it) items [])
      (run_told tells site c (next w e) es)
      ∙ (λ i. seen_items (site_labels site) c (cond (h i && k i) items []) ++ told_of (next w e) es)

  pub told_hidden : (w : World) (e : Event) (es : List Event) → Sees e false
      → told_of w (e ∷ es) ≡ told_of (next w e) es
  told_hidden w e es h = told_next w e es false (is_called site (tells site c) e.command) h refl

  -- calls that look alike tell alike
  tells_shown : (a : Command) → is_called site (tells site c) (shown site c a) ≡ is_called site (tells site c) a
  tells_shown (commands.Open name) = refl
  tells_shown commands.Close = refl
  tells_shown commands.Audit = refl
  tells_shown (commands.View relation label query counts) = refl
  tells_shown (commands.Dump relation) = refl
  tells_shown (commands.Write relation wr) = refl
  tells_shown (commands.Call name args) = refl
  tells_shown (commands.All batch) = refl

  pub tells_same : (e x : Event) → glimpse site c e ≡ glimpse site c x
      → is_called site (tells site c) x.command ≡ is_called site (tells site c) e.command
  tells_same e x g = sym (tells_shown x.command) ∙ ap (λ (y : Event). is_called site (tells site c) y.command) (sym g)
      ∙ tells_shown e.command

  -- where no call that c sees can tell it anything, nothing is told
  nothing_told : (w : World) (es : List Event) → AreUntold tells site c es → told_of w es ≡ []
  unfolding run_told
  nothing_told w [] h = refl
  nothing_told w (e ∷ es) h =
      elim (cases_Bool (below (site_labels site) e.level c)) [
        | inl b ↦
            let both = subst (AllByRecursion (λ (f : Event). is_called site (tells site c) f.command ≡ false))
            (sees_next site c e es true b) h in
            told_next w e es true false b (sym (tells_shown e.command) ∙ both.0) ∙ nothing_told (next w e) es both.1
        | inr b ↦
            told_hidden w e es b ∙ nothing_told (next w e) es
            (subst (AllByRecursion (λ (f : Event). is_called site (tells site c) f.command ≡ false))
            (sees_next site c e es false b) h)
      ]

pub untold_same : UntoldRunsReleaseTheSame
untold_same tells site c v es w fs same h =
    inr (nothing_told tells site c v es h ∙ sym (nothing_told tells site c w fs
    (subst (AllByRecursion (λ (f : Event). is_called site (tells site c) f.command ≡ false)) same h)))

-- ---- the second test is sharper

pub tests_sharp : TestsAreSharp
tests_sharp site certified c es = each (seen site c es)
  where
    stored_sharp : (o : Option Stored) → IfSome o (IsCertifiedUnder site.policy)
        → unwrap_or (option_map (by_ceiling site c) o) false ≡ false
        → unwrap_or (option_map (by_releases site c) o) false ≡ false
    stored_sharp None rules h = refl
    stored_sharp (Some (stored.Plain tx)) rules h = refl
    stored_sharp (Some (stored.Certified k)) rules h =
        let under : below (site_labels site) k.tx.hi c ≡ true = from_not (below (site_labels site) k.tx.hi c) h in
        false_from_ne_true _ (λ t. ceilings_tell_nothing site.policy k.tx k.cert rules c under
        (true_some (claim site.policy k.tx k.cert) c (all_points k.tx) t))
      where
        from_not : (b : Bool) → not b ≡ false → b ≡ true
        from_not true h = refl
        from_not false h = absurd (true≢false h)

    sharp : (a : Command) → is_called site (by_ceiling site c) a ≡ false → is_called site (by_releases site c) a ≡ false
    sharp (commands.Call name args) h =
        stored_sharp (stored_named site.stored name) (found_holds _ _ site.stored certified) h
    sharp _ h = refl

    each : (fs : List Event) → AllByRecursion (λ e. is_called site (by_ceiling site c) e.command ≡ false) fs
        → AllByRecursion (λ e. is_called site (by_releases site c) e.command ≡ false) fs
    each [] h = tt
    each (e ∷ fs) h = (sharp e.command h.0, each fs h.1)
