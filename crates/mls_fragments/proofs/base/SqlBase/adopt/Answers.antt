use Rattle.std.proofs.Common.{◌≡◌, false, true≢false, sym, ap, subst, ◌∙◌, Result, Ok, Err, IfOk, IfErr}
use Rattle.std.proofs.lemmas.Result.{IfOk-weaker}
use Rattle.sqlite.specs.Held.{state}
use Rattle.sqlite.specs.State.{State as Shown, HasCleanDisk}
use Rattle.mls_lattice.specs.Canon as lattice
use Rattle.mls_lattice.specs.Policy.{Policy}
use Rattle.mls_lattice.specs.Version.{version_number, later}
use Rattle.mls_scheme.specs.Canon as scheme
use Rattle.mls_scheme.specs.Scheme.{Schemes}
use Rattle.mls_scheme.specs.declared.file.SchemesFile.{SchemesFile}
use Rattle.mls_filterview.specs.Content.{State, no_content}
use Rattle.mls_audit.specs.Sound.{IsSoundContent}
use Rattle.mls_tables.specs.Rows.{described}
use Rattle.mls_tables.specs.Schema.{no_schema}
use Rattle.mls_tables.specs.Store.{IsClean}
use Rattle.mls_fragments.specs.Based.{BaseState, IsBaseOf, state_of}
use Rattle.mls_fragments.specs.Holdings.{HasHoldings}
use Rattle.mls_fragments.specs.Opening.{HoldsContent, IsUnadopted, IsUnmade, IsUnopened}
use Rattle.mls_fragments.specs.declared.open_fault.OpenFault.{OpenFault}
use Rattle.mls_audit.proofs.SoundLemmas.{nothing_sound}
use Rattle.mls_fragments.proofs.HoldingsLemmas.{base_made}
use Rattle.mls_fragments.proofs.OpeningLemmas.{not_other, not_bad}
use Rattle.mls_fragments.proofs.base.SqlBase.adopt.Goals as goal

pub returns-then-has_nothing-clause-new : goal.returns-then-has_nothing-clause-new
returns-then-has_nothing-clause-new g c none = IfOk-weaker c.created.result _ _
    (λ b is. ap (λ (s : State). s.now) is) c.created.ensures.content

pub returns-then-has_nothing-clause-sound : goal.returns-then-has_nothing-clause-sound
returns-then-has_nothing-clause-sound g c =
    IfOk-weaker c.created.result _ _ (λ b is. subst
    (λ (s : State). IsSoundContent c.args.policy.now c.args.file.now.schemes s.now) (sym is)
    (nothing_sound c.args.policy.now c.args.file.now.schemes)) c.created.ensures.content

made_ok : {E : Type 0} (policy : Policy) (file : SchemesFile) (old : Shown) (r : Result BaseState E) → old.now.schema
    ≡ no_schema
    → IfOk r (λ b. state_of b ≡ record { now = no_content; kept = no_content; begun = false })
    → IfOk r (λ b. IsClean b.tables → HasCleanDisk old
    × (b.tables.now ≡ described (version_number (later policy.version file.version)) (lattice.lattice_of policy)
    (scheme.canon_of policy file.version file.schemes)))
    → IfOk r (λ b. IsClean b.tables → HasCleanDisk old × IsBaseOf (HasHoldings old.now) policy file b)
made_ok policy file old (Ok b) none is tables = λ h. (
  (tables h).0,
  base_made policy file old.now b none
      (ap (λ (s : State). s.now) is) (tables h).1,
)
made_ok policy file old (Err e) none is tables = tt

pub returns-then-has_nothing-clause-over : goal.returns-then-has_nothing-clause-over
returns-then-has_nothing-clause-over g c =
    made_ok c.args.policy.now c.args.file.now (state g.S.Store c.args.conn) c.created.result
    (c.has_nothing.ensures.0 c.if-has_nothing.true) c.created.ensures.content c.created.ensures.described

module _ {A C : Type 0} (shown : C → Shown) (policy : Policy) (file : SchemesFile) (old : Shown) where
  unmade : (r : Result A (OpenFault × C)) → IfErr r (λ e. IsUnmade old (shown e.1) e.0)
      → IfErr r (λ e. IsUnadopted policy file old (shown e.1) e.0)
  unmade (Ok a) is = tt
  unmade (Err e) is = record {
    refused = is.refused;
    texts = λ clean other. absurd (not_other e.0 is.fault other);
    bad = λ clean bad. absurd (not_bad e.0 is.fault bad);
    made = λ none. is.fault;
    kept = λ none clean. is.kept clean;
  }

  unopened : (r : Result A (OpenFault × C)) → (old.now.schema ≡ no_schema → ⊥)
      → IfErr r (λ e. IsUnopened policy file old (shown e.1) e.0)
      → IfErr r (λ e. IsUnadopted policy file old (shown e.1) e.0)
  unopened (Ok a) some is = tt
  unopened (Err e) some is = record {
    refused = is.refused;
    texts = is.texts;
    bad = is.bad;
    made = λ none. absurd (some none);
    kept = λ none clean. absurd (some none);
  }

pub returns-then-has_nothing-clause-refused : goal.returns-then-has_nothing-clause-refused
returns-then-has_nothing-clause-refused g c = unmade (state g.S.Store) c.args.policy.now c.args.file.now
    (state g.S.Store c.args.conn) c.created.result c.created.ensures.unmade

pub returns-clause-over : goal.returns-clause-over
returns-clause-over g c = c.opened.ensures.over

sound_of : (policy : Policy) (schemes : Schemes) (b : BaseState) → HoldsContent policy schemes b
    → IsSoundContent policy schemes (state_of b).now
sound_of policy schemes b holds = holds.sound

mode_of : (policy : Policy) (schemes : Schemes) (b : BaseState) → HoldsContent policy schemes b → (state_of b).begun
    ≡ false
mode_of policy schemes b holds = holds.mode

pub returns-clause-sound : goal.returns-clause-sound
returns-clause-sound g c = IfOk-weaker c.opened.result _ _
    (sound_of c.args.policy.now c.args.file.now.schemes) c.opened.ensures.content

pub returns-clause-mode : goal.returns-clause-mode
returns-clause-mode g c = IfOk-weaker c.opened.result _ _
    (mode_of c.args.policy.now c.args.file.now.schemes) c.opened.ensures.content

pub returns-clause-refused : goal.returns-clause-refused
returns-clause-refused g c =
    unopened (state g.S.Store) c.args.policy.now c.args.file.now (state g.S.Store c.args.conn) c.opened.result
    (λ none. absurd (true≢false (sym (c.has_nothing.ensures.1 none)
    ∙ c.if-has_nothing.false))) c.opened.ensures.unopened
