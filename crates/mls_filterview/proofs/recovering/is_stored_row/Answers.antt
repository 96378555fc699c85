-- proofs/recovering/is_stored_row/Answers.antt
use Rattle.std.proofs.Common.{◌≡◌, ℕ, ◌<◌, true, List, sym, ap, ◌∙◌, subst, length}
use Rattle.std.specs.BTreeMap.{get}
use Rattle.std.specs.List.{AllByRecursion}
use Rattle.std.proofs.lemmas.Result.{IfOk-weaker}
use Rattle.mls_lattice.specs.Labels.{Labels}
use Rattle.mls_lattice.specs.Policy.{labels_of}
use Rattle.mls_scheme.specs.declared.tuple.Element.{Element}
use Rattle.mls_scheme.specs.declared.place.Place.{Place}
use Rattle.mls_scheme.specs.Table.{place_cmp}
use Rattle.mls_scheme.specs.Tuple.{HasClassesBelow}
use Rattle.mls_filterview.specs.Checking.{is_placed, is_right_alone, is_closed, is_stored_row}
use Rattle.mls_filterview.proofs.ContentLemmas.{placed-true}
use Rattle.mls_filterview.proofs.RowRuleLemmas.{row_told}
use Rattle.mls_filterview.proofs.recovering.is_stored_row.Goals as goal

-- what the first test said
placed_row : (n : ℕ) (ls : Labels) (p : Place) (es xs : List Element) → xs ≡ es → true ≡ is_placed n ls (p, xs)
    → is_placed n ls (p, es) ≡ true
placed_row n ls p es xs same h = ap (λ ys. is_placed n ls (p, ys)) (sym same) ∙ sym h

pub is_right_alone-requires-clause-classes : goal.is_right_alone-requires-clause-classes
is_right_alone-requires-clause-classes c =
    let n = length c.args.policy.now.labels in
    let ls = labels_of c.args.policy.now in
    let placed = placed_row n ls c.args.place.now c.args.elements.now c.deref.result.now c.deref.ensures c.if-not-is_placed.ensures in
    subst (HasClassesBelow n) (sym c.in_ok-tuple.ensures) (placed-true n ls (
      c.args.place.now,
      c.args.elements.now,
    ) placed).declared

pub is_closed-requires-clause-classes : goal.is_closed-requires-clause-classes
is_closed-requires-clause-classes c =
    let n = length c.args.policy.now.labels in
    let ls = labels_of c.args.policy.now in
    let placed = placed_row n ls c.args.place.now c.args.elements.now c.deref.result.now c.deref.ensures c.if-not-is_placed.ensures in
    subst (AllByRecursion (λ (e : Element). e.class < n)) (sym c.deref-2.ensures) (placed-true n ls (
      c.args.place.now,
      c.args.elements.now,
    ) placed).declared.elements

pub returns : goal.returns
returns c =
    let n = length c.args.policy.now.labels in
    let ls = labels_of c.args.policy.now in
    let scheme = c.args.scheme.now in
    let found = get place_cmp c.args.rows.now in
    let p = c.args.place.now in
    let es = c.args.elements.now in
    let placed = placed_row n ls p es c.deref.result.now c.deref.ensures c.if-not-is_placed.ensures in
    let alone = ap (is_right_alone ls scheme) (sym c.in_ok-tuple.ensures) ∙ sym c.if-not-is_right_alone.ensures in
    IfOk-weaker c.is_closed.result (λ b. b ≡ is_closed ls found (p, c.deref-2.result.now)) (λ b. b
    ≡ is_stored_row n ls scheme found (p, es))
    (λ b h. h ∙ ap (λ xs. is_closed ls found (p, xs)) c.deref-2.ensures ∙ row_told n ls scheme found (
      p,
      es,
    ) placed alone)
    c.is_closed.ensures
