-- Stored tuples of one table in another.
use Rattle.std.proofs.Common.{◌≡◌, ℕ, List, Some}
use Rattle.std.specs.FinMap.{get}
use Rattle.mls_lattice.specs.Labels.{Labels}
use Rattle.mls_scheme.specs.declared.place.Place.{Place}
use Rattle.mls_scheme.specs.declared.tuple.Element.{Element}
use Rattle.mls_scheme.specs.Table.{Table}
use Rattle.mls_filterview.specs.Stored.{IsStoredTuple, Occurs, with_class}

-- a stored tuple of T is one of S where the entity's tuples of its classes are found again
pub moved : (ls : Labels) (n : ℕ) (T S : Table) (p : Place) (es : List Element) → IsStoredTuple ls n T p es
    → ((m : ℕ) (fs : List Element) → Occurs p es m → get T (with_class p m) ≡ Some fs → get S (with_class p m)
    ≡ Some fs)
    → IsStoredTuple ls n S p es
moved ls n T S p es st again = record {
  count = st.count;
  declared = st.declared;
  above_key = st.above_key;
  null_at_key = st.null_at_key;
  comparable = st.comparable;
  greatest = st.greatest;
  own = st.own;
  closed = λ m o. (let c = st.closed m o in (c.0, again m c.0 o c.1, c.2));
}
