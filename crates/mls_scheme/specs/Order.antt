-- The orders of values and of places.
use Rattle.std.specs.Cmp.{IsTotalOrder}
use Rattle.std.specs.FinMap.{IsAntisymmetric}
use Rattle.mls_scheme.specs.Value.{value_cmp}
use Rattle.mls_scheme.specs.Table.{place_cmp}

-- they are total, and only equal ones tie
pub record AreOrdered : Type 0 where
  pub values : IsTotalOrder value_cmp
  pub equal_values : IsAntisymmetric value_cmp
  pub places : IsTotalOrder place_cmp
  pub equal_places : IsAntisymmetric place_cmp
