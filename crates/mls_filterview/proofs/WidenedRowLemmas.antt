-- The rows of a map, widened.
use Rattle.std.proofs.Common.{◌≡◌, ℕ, List, ◌++◌, map, ap, ◌∙◌}
use Rattle.std.specs.List.Sorted.{IsStrictlySortedBy}
use Rattle.std.specs.Map.{keys_of}
use Rattle.std.specs.FinMap.{get}
use Rattle.mls_scheme.specs.declared.tuple.Element.{Element}
use Rattle.mls_scheme.specs.declared.place.Place.{Place}
use Rattle.mls_scheme.specs.Table.{place_cmp}
use Rattle.mls_scheme.proofs.TableLemmas.{get_change}
use Rattle.mls_filterview.specs.Assembly.{table_of}
use Rattle.mls_filterview.specs.Widen.{nulls, widened_entry, IsWidened}
use Rattle.mls_filterview.proofs.EntryLemmas.{Entry}
use Rattle.mls_filterview.proofs.MapLemmas.{table_changed}

-- the table of widened rows
pub table_widened : (n : ℕ) (es ws : List Entry) → IsStrictlySortedBy place_cmp (keys_of es)
    → ws ≡ map (widened_entry n) es → IsWidened n (table_of es) (table_of ws)
table_widened n es ws s h = λ p.
    let f : Place → List Element → List Element = λ q xs. xs ++ nulls n q.key_class in
    ap (λ W. get W p) (table_changed f es ws s h) ∙ get_change f (table_of es) p
