use Rattle.std.proofs.Common.{◌≡◌, ℕ, List, [], ◌∷◌, get_or, refl, sym, ap, ◌∙◌, subst, inl, inr}
use Rattle.std.proofs.lemmas.List.{get_or_default}
use Rattle.mls_lattice.specs.Policy.{labels_of}
use Rattle.mls_certcheck.specs.Meaning.{Item}
use Rattle.mls_certcheck.specs.Secure.{Split, seen_items}
use Rattle.mls_labeller.specs.Releases.{World, run_of}
use Rattle.mls_labeller.proofs.laws.calls_tell_few.Goals as goal

no_split : (xs : List Item) → Split xs xs → ⊥
no_split [] h = h
no_split (x ∷ xs) (inl h) = h.1 refl
no_split (x ∷ xs) (inr h) = no_split xs h.1

-- worlds with one list look alike
pub returns : goal.returns
returns c' policy tx secure told is schemes read c lists all =
    let ls = labels_of policy in
    let released = λ (w : World). (run_of policy schemes tx c w).released in
    let seen = λ (w : World). seen_items ls c (released w) in
    let place = λ (w : World). all (released w) (is ls schemes w.args w.db) in record {
      class = λ w. (place w).0;
      few = λ w. (place w).1;
      alike = λ v w one stored_v stored_w views args.
          let at_w : get_or lists (place v).0 (seen w) ≡ seen w = ap (λ (k : ℕ). get_or lists k (seen w)) one
          ∙ (place w).2 in
          let same : seen v ≡ seen w = sym (place v).2 ∙ get_or_default lists (place v).0 (seen v) (seen w) (place v).1
          ∙ at_w in
          elim (secure.two_runs c schemes v.db w.db v.args w.args read stored_v stored_w views args) [
            | inl tell ↦ absurd (no_split (seen w) (subst (λ (xs : List Item). Split xs (seen w)) same tell.1))
            | inr look ↦ look
          ];
    }
