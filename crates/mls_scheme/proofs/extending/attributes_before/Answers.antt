use Rattle.std.proofs.Common.{◌≡◌, ◌≢◌, ◌++◌, append_assoc, ℕ, List, [], codes, take, refl, sym, ap, ◌∙◌, subst, flat_map}
use Rattle.mls_lattice.proofs.ExtendingLemmas.{begin-stopped}
use Rattle.mls_scheme.specs.Scheme.{Attribute}
use Rattle.mls_scheme.specs.Canon.{attribute_line}
use Rattle.mls_scheme.proofs.CanonLemmas.{attribute_there, lines_more}
use Rattle.mls_scheme.proofs.extending.attributes_before.Goals as goal

pub returns-in-None : goal.returns-in-None
returns-in-None c =
    let line = attribute_line c.args.policy.now (codes "attribute") in
    let a : Attribute = (c.name-name.result.now, c.get.result.now) in
    let there = attribute_there c.args.attributes.now c.loop-place.place c.name-name.result.now c.get.result.now c.name-name.ensures c.get.ensures in
    let is : c.deref.result.now ≡ line a = rw (
      c.deref.ensures,
      c.in_ok-attribute_to.ensures,
      c.new-line.ensures.bytes,
    ) refl in
    begin-stopped line c.args.attributes.now c.loop-place.place a c.args.text.now c.loop-place.rest.now there.1 there.0 c.loop-place.invariant
    (subst (λ (s : List ℕ). (more : List ℕ) → c.loop-place.rest.now ≢ s ++ more) is c.in-None.ensures)

pub loop-place-preserved : goal.loop-place-preserved
loop-place-preserved c =
    let line = attribute_line c.args.policy.now (codes "attribute") in
    let a : Attribute = (c.name-name.result.now, c.get.result.now) in
    let is : c.deref.result.now ≡ line a = rw (
      c.deref.ensures,
      c.in_ok-attribute_to.ensures,
      c.new-line.ensures.bytes,
    ) refl in
    let front = flat_map line (take c.loop-place.place c.args.attributes.now) in
    let after = c.in-Some.after.now in
    c.loop-place.invariant
    ∙ ap (λ (s : List ℕ). front ++ s) (c.in-Some.ensures ∙ ap (λ (s : List ℕ). s ++ after) is)
    ∙ sym (append_assoc front (line a) after)
    ∙ ap (λ (s : List ℕ). s ++ after) (lines_more line c.args.attributes.now c.loop-place.place c.name-name.result.now c.get.result.now [] c.name-name.ensures c.get.ensures)
