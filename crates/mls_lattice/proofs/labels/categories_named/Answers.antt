use Rattle.std.proofs.Common.{sym, ap, ◌∙◌}
use Rattle.std.proofs.lemmas.List.{at_drop_all}
use Rattle.std.proofs.lemmas.Result.{err_from_is_err_and}
use Rattle.toml.specs.View.{items_view}
use Rattle.mls_lattice.specs.Lattice.{cats_of}
use Rattle.mls_lattice.specs.PolicyReading.{more_categories}
use Rattle.mls_lattice.proofs.PolicyReadingLemmas.{categories-bad_name, categories-bad_place, categories-repeated, categories-more}
use Rattle.mls_lattice.proofs.labels.categories_named.Goals as goal

pub returns-in_err-name_of : goal.returns-in_err-name_of
returns-in_err-name_of c =
    let p = err_from_is_err_and c.from_residual.result c.from_residual.ensures.1 in
    rw (p.1, p.2) (sym c.loop-value.invariant
    ∙ categories-bad_name c.args.items.now _ _ c.loop-value-test.true c.value-item.is _ _ _ c.in_err-name_of.ensures)

pub returns-in_err-place : goal.returns-in_err-place
returns-in_err-place c =
    let p = err_from_is_err_and c.from_residual-in_err-place.result c.from_residual-in_err-place.ensures.1 in
    rw (p.1, p.2) (sym c.loop-value.invariant
    ∙ categories-bad_place c.args.items.now _ _ c.loop-value-test.true c.value-item.is _ _ _ _ c.in_ok-name_of.ensures c.in_err-place.ensures.reads)

pub returns-then-has : goal.returns-then-has
returns-then-has c =
    sym c.loop-value.invariant ∙ categories-repeated c.args.items.now _ _ c.loop-value-test.true c.value-item.is _ _ _ _ c.in_ok-name_of.ensures c.in_ok-place.ensures.reads (sym c.has.ensures ∙ c.if-has.true)

pub loop-value-preserved : goal.loop-value-preserved
loop-value-preserved c =
    let grown = ap (λ p. p.cats) c.with-label.ensures in
    rw grown (categories-more c.args.items.now _ _ c.loop-value-test.true c.value-item.is _ _ _ _ c.in_ok-name_of.ensures c.in_ok-place.ensures.reads (sym c.has.ensures ∙ c.if-has.false) ∙ c.loop-value.invariant)

pub returns : goal.returns
returns c = sym c.loop-value.invariant ∙ at_drop_all (λ vs. more_categories c.args.categories.now
    (cats_of c.loop-value.label.cats) (items_view vs)) c.args.items.now c.loop-value.value-index c.loop-value-test.false
