-- What calls of the four tables promise, and what they ask for.
use Rattle.std.specs.Prelude.{◌≡◌, ℕ, true, List, IfSome, Option, OnOk, Result}
use Rattle.std.specs.List.{AllByRecursion}
use Rattle.mls_scheme.specs.declared.value.Value.{Value}
use Rattle.mls_scheme.specs.declared.place.Place.{Place}
use Rattle.mls_scheme.specs.Spelling.{HasSpelling, IsSpelledKey}
use Rattle.mls_filterview.specs.declared.fragment.Node.{Node}
use Rattle.mls_filterview.specs.declared.fragment.Cell.{Cell}
use Rattle.mls_filterview.specs.Fragment.{IsCellOf}
use Rattle.mls_tables.specs.declared.rows.CellRow.{CellRow}
use Rattle.mls_tables.specs.declared.store.StoreFault.{StoreFault}
use Rattle.mls_tables.specs.Statements.{IsOne, has_key_of}
use Rattle.mls_tables.specs.Store.{TableState, IsClean, IsStoreCall, IsSame}
use Rattle.mls_rows.specs.Holding.{value_row}

-- a call that reads: an answer leaves the rows, and whether a change is begun
pub record IsRowRead {A : Type 0} (old new : TableState) (result : Result A StoreFault) : Type 0 where
  pub call : IsStoreCall old new result
  pub mode : OnOk result (new.begun ≡ old.begun)
  pub same : IsClean new → OnOk result (IsSame old new)

-- a step of a change that is begun: an answer leaves it begun
pub record IsRowStep {A : Type 0} (old new : TableState) (result : Result A StoreFault) : Type 0 where
  pub call : IsStoreCall old new result
  pub mode : OnOk result (new.begun ≡ true)

-- a tuple whose key and own cells have spellings
pub record IsSpelledTuple (n : Node) (ds : List Cell) : Type 0 where
  pub key : IsSpelledKey n.key
  pub cells : AllByRecursion (IsCellOf n) ds

-- a value with a spelling is set of an element that stands once
pub record CanSetValue (t : TableState) (relation : ℕ) (p : Place) (attr : ℕ) (v : Option Value) : Type 0 where
  pub key : IsSpelledKey p.key
  pub value : IfSome v HasSpelling
  pub there : IsClean t → (was : CellRow) × IsOne (has_key_of (value_row relation p attr v)) t.now.cells was
