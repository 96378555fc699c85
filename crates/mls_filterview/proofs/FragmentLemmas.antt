-- The fragments of the labels that a label dominates.
use Rattle.std.proofs.Common.{◌≡◌, ◌+◌, ◌<◌, ℕ, zero, suc, Bool, true, false, cond, ◌||◌, List, [], ◌∷◌, ◌++◌, length, map, Some, refl, sym, ap, subst, ◌∙◌, inl, inr, arith, ◌↔◌, nat_eq, IsPermutation, filter, flat_map, true≢false, eqb-true, eq-eqb}
use Rattle.std.specs.List.{list_any}
use Rattle.std.specs.FinMap.{get, entries}
use Rattle.std.proofs.lemmas.Bool.{cases_lt}
use Rattle.mls_lattice.specs.Labels.{Labels, below}
use Rattle.mls_scheme.specs.declared.tuple.Element.{Element}
use Rattle.mls_scheme.specs.Tuple.{at}
use Rattle.mls_scheme.specs.declared.place.Place.{Place}
use Rattle.mls_scheme.specs.Table.{Table}
use Rattle.mls_filterview.specs.declared.fragment.Node.{Node}
use Rattle.mls_filterview.specs.declared.fragment.Cell.{Cell}
use Rattle.mls_filterview.specs.declared.fragment.Fragment.{Fragment}
use Rattle.mls_filterview.specs.View.{IsAmong}
use Rattle.mls_filterview.specs.Fragment.{of_classes, node_of, cell_at, cells_from, cells_of, AreFragments}
use Rattle.mls_filterview.specs.Assembly.{IsLowEntry, AreOf, AreLow}
use Rattle.mls_filterview.specs.Reach.{numbers}
use Rattle.mls_filterview.proofs.AmongLemmas.{among_map, map_among, among_filter, filter_among, among_left, among_push, push_last, among_permutation, among_flat_map, flat_map_among}
use Rattle.mls_filterview.proofs.EntryLemmas.{Entry, among_entries, entries_among}

-- ---- the cells of a tuple

-- the cell is that of the element i, which has the tuple's own class
abbrev pub IsCellOf : ℕ → Place → List Element → Cell → ℕ → Type 0
IsCellOf k p es d i = (i < length es) × (d ≡ cell_at p (k + i) (at es i)) × ((at es i).class ≡ p.class)

one_later : (k : ℕ) (p : Place) (e : Element) (es : List Element) (d : Cell) → (i : ℕ) × IsCellOf (suc k) p es d i
    → (i : ℕ) × IsCellOf k p (e ∷ es) d i
one_later k p e es d (i, (l, q, h)) = (suc i, (omega arith, q ∙ ap (λ j. cell_at p j (at es i)) (omega arith), h))

pub cell_found : (k : ℕ) (p : Place) (es : List Element) (d : Cell) → IsAmong d (cells_from k p es) → (i : ℕ)
    × IsCellOf k p es d i
cell_found k p [] d h = absurd h
cell_found k p (e ∷ es) d h =
    elim (nat_eq e.class p.class) as (λ b. nat_eq e.class p.class ≡ b
    → IsAmong d (cond b (cell_at p k e ∷ cells_from (suc k) p es) (cells_from (suc k) p es)) → (i : ℕ)
    × IsCellOf k p (e ∷ es) d i) [
      | true ↦ λ q g. elim g [
        | inl s ↦ (
          0,
          (
            omega arith,
            s ∙ ap (λ j. cell_at p j e) (omega arith),
            eqb-true e.class p.class q,
          ),
        )
        | inr r ↦ one_later k p e es d (cell_found (suc k) p es d r)
      ]
      | false ↦ λ q g. one_later k p e es d (cell_found (suc k) p es d g)
    ] refl h

pub cell_among : (k : ℕ) (p : Place) (es : List Element) (i j : ℕ) → i < length es → j ≡ k + i → (at es i).class
    ≡ p.class → IsAmong (cell_at p j (at es i)) (cells_from k p es)
cell_among k p [] i j l q h = absurd (omega arith)
cell_among k p (e ∷ es) zero j l q h =
    subst (λ b. IsAmong (cell_at p j e) (cond b (cell_at p k e ∷ cells_from (suc k) p es) (cells_from (suc k) p es)))
    (sym (eq-eqb e.class p.class h))
    (inl (ap (λ j. cell_at p j e) (omega arith)))
cell_among k p (e ∷ es) (suc i) j l q h =
    elim (nat_eq e.class p.class) as (λ b. IsAmong (cell_at p j (at es i))
    (cond b (cell_at p k e ∷ cells_from (suc k) p es) (cells_from (suc k) p es))) [
      | true ↦ inr (cell_among (suc k) p es i j (omega arith) (omega arith) h)
      | false ↦ cell_among (suc k) p es i j (omega arith) (omega arith) h
    ]

-- ---- what the nodes and the cells of entries are, in any order

nodes_among : (es : List Entry) (ns : List Node) → IsPermutation (map node_of es) ns → (n : Node) → IsAmong n ns
    ↔ ((e : Entry) × IsAmong e es × (n ≡ node_of e))
nodes_among es ns p n = (
  (λ i. among_map node_of es n ((among_permutation _ _ p n).1 i)),
  (λ h. (among_permutation _ _ p n).0 (subst (λ x. IsAmong x (map node_of es)) (sym h.2)
      (map_among node_of es h.0 h.1))),
)

cells_among : (es : List Entry) (ds : List Cell) → IsPermutation (flat_map cells_of es) ds → (d : Cell) → IsAmong d ds
    ↔ ((e : Entry) × IsAmong e es × IsAmong d (cells_of e))
cells_among es ds p d = (
  (λ i. among_flat_map cells_of es d ((among_permutation _ _ p d).1 i)),
  (λ h. (among_permutation _ _ p d).0 (flat_map_among cells_of es h.0 d h.1 h.2)),
)

-- ---- what fragments have

among_any : (m : ℕ) (ms : List ℕ) → list_any (λ k. nat_eq m k) ms ≡ true → IsAmong m ms
among_any m [] h = absurd (true≢false (sym h))
among_any m (k ∷ ks) h =
    elim (nat_eq m k) as (λ b. nat_eq m k ≡ b → (b || list_any (λ k. nat_eq m k) ks) ≡ true → IsAmong m (k ∷ ks)) [
      | true ↦ λ e t. inl (eqb-true m k e)
      | false ↦ λ e t. inr (among_any m ks t)
    ] refl h

any_among : (m : ℕ) (ms : List ℕ) → IsAmong m ms → list_any (λ k. nat_eq m k) ms ≡ true
any_among m [] h = absurd h
any_among m (k ∷ ks) (inl e) = ap (λ b. b || list_any (λ k. nat_eq m k) ks) (eq-eqb m k e)
any_among m (k ∷ ks) (inr i) = ap (λ b. nat_eq m k || b) (any_among m ks i) ∙ or_true (nat_eq m k)
  where
    or_true : (b : Bool) → (b || true) ≡ true
    or_true true = refl
    or_true false = refl

in_classes : (T : Table) (ms : List ℕ) (e : Entry) → IsAmong e (of_classes ms T) ↔ ((get T e.0 ≡ Some e.1)
    × IsAmong e.0.class ms)
in_classes T ms e = (
  (λ i. (let f = among_filter (λ (e : Entry). list_any (λ m. nat_eq e.0.class m) ms) (entries T) e i
      in (among_entries T e f.0, among_any e.0.class ms f.1))),
  (λ h. filter_among (λ (e : Entry). list_any (λ m. nat_eq e.0.class m) ms) (entries T) e (entries_among T e.0 e.1 h.0)
      (any_among e.0.class ms h.1)),
)

numbers_below : (n m : ℕ) → IsAmong m (numbers n) → m < n
numbers_below zero m i = absurd i
numbers_below (suc n) m i = elim (among_push (numbers n) n m i) [
  | inl j ↦ (let l = numbers_below n m j
      in omega (arith, l))
  | inr e ↦ omega (arith, e)
]

below_numbers : (n m : ℕ) → m < n → IsAmong m (numbers n)
below_numbers zero m l = absurd (omega (arith, l))
below_numbers (suc n) m l = elim (cases_lt m n) [
  | inl less ↦ among_left (numbers n) (n ∷ []) m (below_numbers n m less)
  | inr more ↦ (let e : m ≡ n = omega (arith, l, more) in subst (λ k. IsAmong k (numbers n ++ n ∷ [])) (sym e)
      (push_last (numbers n) n))
]

-- the fragments of the labels below n that c dominates are the parts of its low tuples
module _ (ls : Labels) (T : Table) (c n : ℕ) where
  abbrev dominated : List ℕ
  dominated = filter (λ m. below ls m c) (numbers n)

  low_classes : (e : Entry) → IsAmong e (of_classes dominated T) ↔ IsLowEntry ls T c n e
  low_classes e = (
    (λ i.
        let h = (in_classes T dominated e).0 i in
        let f = among_filter (λ m. below ls m c) (numbers n) e.0.class h.1 in
        (h.0, numbers_below n e.0.class f.0, f.1)),
    (λ h. (in_classes T dominated e).1 (
      h.0,
      filter_among (λ m. below ls m c) (numbers n) e.0.class
          (below_numbers n e.0.class h.1) h.2,
    )),
  )

  pub low_fragments : (f : Fragment) → AreFragments T dominated f → AreLow ls T c n f.nodes f.cells
  low_fragments f is = record {
    nodes = λ n.
        let r = nodes_among (of_classes dominated T) f.nodes is.nodes n in (
          (λ i. (let h = r.0 i in (h.0, (low_classes h.0).0 h.1, h.2))),
          (λ h. r.1 (h.0, (low_classes h.0).1 h.1, h.2)),
        );
    cells = λ d.
        let r = cells_among (of_classes dominated T) f.cells is.cells d in (
          (λ i. (let h = r.0 i in (h.0, (low_classes h.0).0 h.1, h.2))),
          (λ h. r.1 (h.0, (low_classes h.0).1 h.1, h.2)),
        );
  }

-- ---- what all nodes and all cells of a table are

pub all_of : (T : Table) (ns : List Node) (ds : List Cell) → IsPermutation (map node_of (entries T)) ns
    → IsPermutation (flat_map cells_of (entries T)) ds → AreOf (λ e. get T e.0 ≡ Some e.1) ns ds
all_of T ns ds p q = record {
  nodes = λ n.
      let r = nodes_among (entries T) ns p n in (
        (λ i. (let h = r.0 i in (h.0, among_entries T h.0 h.1, h.2))),
        (λ h. r.1 (h.0, entries_among T h.0.0 h.0.1 h.1, h.2)),
      );
  cells = λ d.
      let r = cells_among (entries T) ds q d in (
        (λ i. (let h = r.0 i in (h.0, among_entries T h.0 h.1, h.2))),
        (λ h. r.1 (h.0, entries_among T h.0.0 h.0.1 h.1, h.2)),
      );
}
