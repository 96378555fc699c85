-- The order of rows is total.
use Rattle.std.specs.Prelude.{List}
use Rattle.std.specs.Cmp.{IsTotalOrder}
use Rattle.std.specs.Cmp.Lexicographic.{options_total}
use Rattle.std.proofs.lemmas.Cmp.{on_total, then_total, nat_cmp_total, lists_total}
use Rattle.mls_scheme.specs.declared.tuple.Element.{Element}
use Rattle.mls_scheme.specs.declared.place.Place.{Place}
use Rattle.mls_scheme.specs.PlaceOrder.{value_total, place_total}
use Rattle.mls_filterview.specs.Filtering.{element_cmp, row_cmp}

element_total : IsTotalOrder element_cmp
element_total = then_total (on_total (λ (e : Element). e.value) (options_total value_total))
    (on_total (λ e. e.class) nat_cmp_total)

pub row_total : IsTotalOrder row_cmp
row_total = then_total (on_total (λ (r : Place × List Element). r.0) place_total)
    (on_total (λ r. r.1) (lists_total element_total))
