use Rattle.std.proofs.Common.{not, true, false, refl, sym, ap, ◌∙◌, is_some, nat_eq, slice_index_or}
use Rattle.std.specs.List.{list_any}
use Rattle.mls_lattice.specs.Policy.{labels_of}
use Rattle.mls_updates.proofs.DecidingLemmas.{own_passed}
use Rattle.mls_updates.proofs.PatternLemmas.{found_pattern, other_named}
use Rattle.mls_updates.proofs.deciding.own_outcome.Goals as goal

pub returns-then-names_inherited : goal.returns-then-names_inherited
returns-then-names_inherited c = λ scheme es e.
    let w = c.args.place.now.class in
    let sets = c.args.sets.now in
    let xs = c.in-Some.pattern in
    let known = sym c.in-Some.is ∙ e in
    let tuple = found_pattern es xs known in
    let other = sym (other_named es xs known w sets)
    ∙ ap (λ ys. list_any (λ r. not (nat_eq (slice_index_or ys r.0 0) w)) sets) (sym c.deref.ensures)
    ∙ sym c.if-names_inherited.ensures in
    own_passed (labels_of c.args.policy.now) scheme w c.args.place.now.key_class es (ap is_some tuple.1)
    (sym c.if-not-dominates.ensures.order) sets true _ other refl

pub returns-then-has_null_above : goal.returns-then-has_null_above
returns-then-has_null_above c = λ scheme es e.
    let w = c.args.place.now.class in
    let sets = c.args.sets.now in
    let xs = c.in-Some.pattern in
    let known = sym c.in-Some.is ∙ e in
    let tuple = found_pattern es xs known in
    let other = sym (other_named es xs known w sets)
    ∙ ap (λ ys. list_any (λ r. not (nat_eq (slice_index_or ys r.0 0) w)) sets) (sym c.deref.ensures)
    ∙ sym c.if-names_inherited.ensures in
    own_passed (labels_of c.args.policy.now) scheme w c.args.place.now.key_class es (ap is_some tuple.1)
    (sym c.if-not-dominates.ensures.order) sets false true other (sym c.if-has_null_above.ensures)

pub returns : goal.returns
returns c = λ scheme es e.
    let w = c.args.place.now.class in
    let sets = c.args.sets.now in
    let xs = c.in-Some.pattern in
    let known = sym c.in-Some.is ∙ e in
    let tuple = found_pattern es xs known in
    let other = sym (other_named es xs known w sets)
    ∙ ap (λ ys. list_any (λ r. not (nat_eq (slice_index_or ys r.0 0) w)) sets) (sym c.deref.ensures)
    ∙ sym c.if-names_inherited.ensures in
    own_passed (labels_of c.args.policy.now) scheme w c.args.place.now.key_class es (ap is_some tuple.1)
    (sym c.if-not-dominates.ensures.order) sets false false other (sym c.if-has_null_above.ensures)
