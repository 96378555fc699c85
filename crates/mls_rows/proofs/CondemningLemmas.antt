-- A row that a step condemns is condemned.
use Rattle.std.proofs.Common.{◌≡◌, inl, inr, ℕ, true≢false, List, subst, sym}
use Rattle.mls_tables.specs.declared.rows.NodeRow.{NodeRow}
use Rattle.mls_tables.specs.declared.rows.CellRow.{CellRow}
use Rattle.mls_tables.specs.declared.rows.AuditRow.{AuditRow}
use Rattle.mls_rows.specs.declared.place.Step.{Step}
use Rattle.mls_rows.specs.declared.place.Step.TheVariants.{Rows, Classes, Node, Cell, Tuple, LooseNode, LooseCell, MissingCell, Number, Entry}
use Rattle.mls_rows.specs.declared.place.Where.{Where}
use Rattle.mls_rows.specs.Condemning.{CondemnsAt, Condemns, CondemnsClasses, CondemnsReading, CondemnsList, IsOfTuples}

module _ (labels : ℕ) (nodes : List NodeRow) (cells : List CellRow) (entries : List AuditRow) (at : Where) where
  abbrev Here : Step → Type 0
  Here = CondemnsAt labels nodes cells entries at.row

  pub at_classes : (at.step ≡ Classes) × CondemnsClasses labels nodes at.row → Condemns labels nodes cells entries at
  at_classes c = subst Here (sym c.0) c.1

  pub at_reading : CondemnsReading nodes cells at → Condemns labels nodes cells entries at
  at_reading (inl c) = subst Here (sym c.0) c.1
  at_reading (inr c) = subst Here (sym c.0) c.1

  pub at_list : CondemnsList labels entries at → Condemns labels nodes cells entries at
  at_list (inl c) = subst Here (sym c.0) c.1
  at_list (inr c) = subst Here (sym c.0) c.1

  of_tuples : (step : Step) → IsOfTuples step → Here step
  of_tuples Rows none = absurd (true≢false (sym none))
  of_tuples Classes none = absurd (true≢false (sym none))
  of_tuples Node none = absurd (true≢false (sym none))
  of_tuples Cell none = absurd (true≢false (sym none))
  of_tuples (Tuple relation) is = tt
  of_tuples LooseNode is = tt
  of_tuples LooseCell is = tt
  of_tuples MissingCell is = tt
  of_tuples Number none = absurd (true≢false (sym none))
  of_tuples Entry none = absurd (true≢false (sym none))

  pub at_tuples : IsOfTuples at.step → Condemns labels nodes cells entries at
  at_tuples is = of_tuples at.step is
