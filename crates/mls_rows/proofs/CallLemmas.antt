-- Calls of the store that write, one after another.
use Rattle.std.proofs.Common.{◌≡◌, ℕ, List, [], ◌∷◌, ◌++◌, map, filter, not, Result, OnOk, IsPermutation, refl, sym, ap, subst, subst₂, ◌∙◌, IfSome}
use Rattle.std.specs.List.{AllByRecursion}
use Rattle.std.proofs.lemmas.Result.{on_ok_weaker}
use Rattle.mls_scheme.specs.declared.place.Place.{Place}
use Rattle.mls_scheme.specs.Spelling.{key_spelling, HasSpelling}
use Rattle.mls_filterview.specs.declared.fragment.Node.{Node}
use Rattle.mls_filterview.specs.declared.fragment.Cell.{Cell}
use Rattle.mls_filterview.specs.Fragment.{IsCellOf}
use Rattle.mls_tables.specs.declared.rows.NodeRow.{NodeRow}
use Rattle.mls_tables.specs.declared.rows.OwnCell.{OwnCell}
use Rattle.mls_tables.specs.declared.rows.TupleKey.{TupleKey}
use Rattle.mls_tables.specs.declared.store.StoreFault.{StoreFault}
use Rattle.mls_tables.specs.Rows.{Tables, is_cell_in, cell_beside}
use Rattle.mls_tables.specs.Statements.{AddsNode, DropsNode, AddsCells, DropsCells}
use Rattle.mls_tables.specs.Store.{TableState, Writes}
use Rattle.mls_rows.specs.Holding.{node_row, cell_row, own_cell, value_bytes, AddsTuple, DropsTuple, tuple_key}

-- ---- rows that are added

-- the cells of a tuple's class are those that stand beside its node
pub beside_node : (relation : ℕ) (n : Node) (cells : List Cell) → AllByRecursion (IsCellOf n) cells
    → map (cell_beside (node_row relation n)) (map own_cell cells) ≡ map (cell_row relation) cells
beside_node relation n [] are = refl
beside_node relation n (c ∷ cells) are =
    let same : cell_beside (node_row relation n) (own_cell c) ≡ cell_row relation c = λ i. record {
      rel = relation;
      ent = key_spelling (sym are.0.key i);
      kclass = sym are.0.key_class i;
      label = sym are.0.label i;
      attr = c.attr;
      value = value_bytes c.value;
    } in
    λ i. same i ∷ beside_node relation n cells are.1 i

pub own_spelled : (n : Node) (cells : List Cell) → AllByRecursion (IsCellOf n) cells
    → AllByRecursion (λ c. IfSome c.value HasSpelling) cells
own_spelled n [] are = tt
own_spelled n (c ∷ cells) are = (are.0.value, own_spelled n cells are.1)

-- the node of a tuple, and then its cells
pub adds_both : {B : Type 0} (relation : ℕ) (n : Node) (cells : List Cell) (node : NodeRow) (own : List OwnCell)
    (s m t : TableState) (result : Result B StoreFault) → node ≡ node_row relation n
    → map (cell_beside node) own ≡ map (cell_row relation) cells
    → Writes (AddsNode node) s m → OnOk result (Writes (AddsCells (map (cell_beside node) own)) m t)
    → OnOk result (Writes (AddsTuple (node_row relation n) (map (cell_row relation) cells)) s t)
adds_both relation n cells node own s m t result is beside first =
    on_ok_weaker result (λ next. (
      record {
        nodes = subst₂ (λ r (ns : List NodeRow). IsPermutation (r ∷ s.now.nodes) ns) is
            (sym (ap (λ (x : Tables). x.nodes) next.0.0)) first.0.1;
        cells = subst₂ (λ cs ds. IsPermutation (cs ++ ds) t.now.cells) beside
            (ap (λ (x : Tables). x.cells) first.0.0) next.0.1;
        rest = next.0.0 ∙ ap (λ (x : Tables). record x { cells = t.now.cells }) first.0.0
            ∙ ap (λ ns. record s.now { nodes = ns; cells = t.now.cells }) (sym (ap (λ (x : Tables). x.nodes) next.0.0));
      },
      next.1 ∙ first.1,
    ))

-- ---- rows that are dropped

drops_tuple : (relation : ℕ) (p : Place) (s m t : Tables) → DropsNode (tuple_key relation p) s m
    → DropsCells (tuple_key relation p) m t → DropsTuple relation p s t
drops_tuple relation p s m t first next =
    next ∙ ap {A = Tables} (λ x. record x {
      cells =
          filter (λ c. not (is_cell_in (tuple_key relation p) c)) x.cells;
    }) first

-- the node of a place, and then its cells
pub drops_both : {B : Type 0} (relation : ℕ) (p : Place) (key : TupleKey) (s m t : TableState)
    (result : Result B StoreFault) → key ≡ tuple_key relation p
    → Writes (DropsNode key) s m → OnOk result (Writes (DropsCells key) m t)
    → OnOk result (Writes (DropsTuple relation p) s t)
drops_both relation p key s m t result is =
    subst (λ k. Writes (DropsNode k) s m → OnOk result (Writes (DropsCells k) m t)
    → OnOk result (Writes (DropsTuple relation p) s t)) (sym is)
    (λ first. on_ok_weaker result (λ next. (drops_tuple relation p s.now m.now t.now first.0 next.0, next.1 ∙ first.1)))
