use Rattle.std.proofs.Common.{◌≡◌, ◌||◌, drop, is_some, nat_eq}
use Rattle.std.specs.List.{list_all}
use Rattle.mls_filterview.proofs.checking.has_nulls_at_key.Given as goal

abbrev pub invariant-loop-element : goal.invariant-loop-element
invariant-loop-element l =
    (l.element-items ≡ l.tuple.elements)
    × (list_all (λ e. is_some e.value || nat_eq e.class l.tuple.key_class) (drop l.element-index l.element-items)
    ≡ list_all (λ e. is_some e.value || nat_eq e.class l.tuple.key_class) l.tuple.elements)
