-- The orders of values and of places are total.
use Rattle.std.specs.Prelude.{◌≡◌, refl}
use Rattle.std.specs.declared.cmp.Ordering.TheVariants.{Less, Equal}
use Rattle.std.specs.Cmp.{IsTotalOrder}
use Rattle.std.specs.Ordering.{ordering_reverse}
use Rattle.std.proofs.lemmas.Cmp.{on_total, then_total, nat_cmp_total, int_cmp_total, lists_total, nat_list_cmp_total}
use Rattle.mls_scheme.specs.declared.value.Value.{Value}
use Rattle.mls_scheme.specs.declared.value.Value.TheVariants.{Int, Text}
use Rattle.mls_scheme.specs.Value.{value_cmp}
use Rattle.mls_scheme.specs.Table.{place_cmp}
use Rattle.mls_scheme.specs.declared.place.Place.{Place}

value_reversed : (v w : Value) → value_cmp v w ≡ ordering_reverse (value_cmp w v)
value_reversed (Int m) (Int n) = int_cmp_total.antisymm m n
value_reversed (Int m) (Text t) = refl
value_reversed (Text s) (Int n) = refl
value_reversed (Text s) (Text t) = nat_list_cmp_total.antisymm s t

value_trans : (u v w : Value) → value_cmp u v ≡ Less → value_cmp v w ≡ Less → value_cmp u w ≡ Less
value_trans (Int l) (Int m) (Int n) a b = int_cmp_total.trans l m n a b
value_trans (Int l) v (Text u) a b = refl
value_trans (Int l) (Text t) (Int n) a b = absurd (cc)
value_trans (Text s) (Int m) w a b = absurd (cc)
value_trans (Text s) (Text t) (Int n) a b = b
value_trans (Text s) (Text t) (Text u) a b = nat_list_cmp_total.trans s t u a b

value_congr : (u v w : Value) → value_cmp u v ≡ Equal → value_cmp u w ≡ value_cmp v w
value_congr (Int l) (Int m) (Int n) e = int_cmp_total.congr l m n e
value_congr (Int l) (Int m) (Text u) e = refl
value_congr (Int l) (Text t) w e = absurd (cc)
value_congr (Text s) (Int m) w e = absurd (cc)
value_congr (Text s) (Text t) (Int n) e = refl
value_congr (Text s) (Text t) (Text u) e = nat_list_cmp_total.congr s t u e

pub value_total : IsTotalOrder value_cmp
value_total = record { antisymm = value_reversed; trans = value_trans; congr = value_congr }

pub place_total : IsTotalOrder place_cmp
unfolding place_cmp
place_total = then_total (on_total (λ (p : Place). p.key) (lists_total value_total))
    (then_total (on_total (λ p. p.key_class) nat_cmp_total) (on_total (λ p. p.class) nat_cmp_total))
