-- Where there is nothing, all is as it should be.
use Rattle.std.proofs.Common.{◌≡◌, false, List, Some, sym, subst, ◌∙◌}
use Rattle.std.specs.FinMap.{empty, get, get-empty}
use Rattle.std.proofs.lemmas.Option.{none-some}
use Rattle.mls_lattice.specs.Labels.{Labels}
use Rattle.mls_lattice.specs.Policy.{Policy, labels_of}
use Rattle.mls_scheme.specs.declared.tuple.Element.{Element}
use Rattle.mls_scheme.specs.declared.place.Place.{Place}
use Rattle.mls_scheme.specs.Scheme.{Schemes}
use Rattle.mls_scheme.specs.Table.{place_cmp}
use Rattle.mls_filterview.specs.Content.{State, no_content}
use Rattle.mls_filterview.specs.Stored.{AreContent}
use Rattle.mls_audit.specs.Sound.{IsSoundContent}

nothing : (p : Place) (es : List Element) → get (empty {X = List Element} {R = place_cmp}) p ≡ Some es → ⊥
nothing p es h = none-some es (sym (get-empty place_cmp p) ∙ h)

pub no_tuples : (ls : Labels) (schemes : Schemes) → AreContent ls schemes no_content.db
no_tuples ls schemes relation = record {
  stored = λ p es h. absurd (nothing p es h);
  fits =
      λ p es h. absurd (nothing p es h);
}

pub nothing_sound : (policy : Policy) (schemes : Schemes) → IsSoundContent policy schemes no_content
nothing_sound policy schemes = record { content = no_tuples (labels_of policy) schemes; entries = tt }

-- so over a base that holds nothing
pub none_sound : (policy : Policy) (schemes : Schemes) (s : State) → s ≡ record {
  now = no_content;
  kept = no_content;
  begun = false;
} → IsSoundContent policy schemes s.now
none_sound policy schemes s none = subst (λ (x : State). IsSoundContent policy schemes x.now) (sym none)
    (nothing_sound policy schemes)
