-- The tuple at a place, and its parts.
use Rattle.std.proofs.Common.{◌≡◌, true, List, [], ◌∷◌, map, Option, Some, None, refl, sym, ap, ◌∙◌, subst, inl, inr, append-nil, IsPermutation, flat_map}
use Rattle.std.specs.Option.{option_map_or}
use Rattle.std.specs.FinMap.{get, entries, entries_sorted, is_sorted}
use Rattle.std.proofs.lemmas.Option.{none-some, same_Some}
use Rattle.std.proofs.lemmas.List.{nil_from_length}
use Rattle.std.proofs.lemmas.List.Sorted.{IsPermutation-refl, length_permutation}
use Rattle.mls_scheme.specs.declared.tuple.Element.{Element}
use Rattle.mls_scheme.specs.declared.place.Place.{Place}
use Rattle.mls_scheme.specs.Table.{place_cmp, Table}
use Rattle.mls_scheme.proofs.OrderLemmas.{is_place, is_place-true, is_place-same}
use Rattle.mls_filterview.specs.declared.fragment.Node.{Node}
use Rattle.mls_filterview.specs.declared.fragment.Cell.{Cell}
use Rattle.mls_filterview.specs.declared.fragment.Fragment.{Fragment}
use Rattle.mls_filterview.specs.View.{IsAmong}
use Rattle.mls_filterview.specs.Fragment.{at_place, node_of, cells_of, IsEntityPart}
use Rattle.mls_filterview.proofs.AmongLemmas.{among_filter, filter_among, among_permutation}
use Rattle.mls_filterview.proofs.EntryLemmas.{Entry, among_entries, entries_among, sorted_filter, so_true, same_lists}

-- a tuple, or none, as a list
abbrev pub tuples : Place → Option (List Element) → List Entry
tuples p None = []
tuples p (Some es) = (p, es) ∷ []

module _ (T : Table) (p : Place) where
  here : Entry → Type 0
  here e = (e.0 ≡ p) × (get T p ≡ Some e.1)

  at_here : (e : Entry) → IsAmong e (at_place p T) → here e
  unfolding here
  at_here e i =
      let f = among_filter (λ (d : Entry). is_place d.0 p) (entries T) e i in
      let is = is_place-true e.0 p f.1 in
      (is, ap (get T) (sym is) ∙ among_entries T e f.0)

  here_at : (e : Entry) → here e → IsAmong e (at_place p T)
  unfolding here
  here_at e h = filter_among (λ (d : Entry). is_place d.0 p) (entries T) e (entries_among T e.0 e.1 (ap (get T) h.0
      ∙ h.1)) (is_place-same e.0 p h.0)

  in_order : is_sorted place_cmp (at_place p T) ≡ true
  in_order = sorted_filter (λ (d : Entry). is_place d.0 p) (entries T) (so_true _ (entries_sorted T))

  by_look : (o : Option (List Element)) → get T p ≡ o → at_place p T ≡ tuples p o
  unfolding here
  by_look None none = same_lists (at_place p T) [] in_order refl
      (λ e. ((λ i. none-some e.1 (sym none ∙ (at_here e i).1)), (λ i. absurd i)))
  by_look (Some es) found = same_lists (at_place p T) ((p, es) ∷ []) in_order refl (λ e. (
    (λ i. (let h = at_here e i in inl (λ j. (h.0 j, same_Some e.1 es (sym h.1 ∙ found) j)))),
    (λ i. elim i [ inl q ↦ here_at e (ap (λ d. d.0) q, found ∙ ap Some (sym (ap (λ d. d.1) q))) | inr r ↦ absurd r ]),
  ))

  -- the tuples at a place are what the look-up finds there
  pub at_place-get : at_place p T ≡ tuples p (get T p)
  at_place-get = by_look (get T p) refl

-- ---- one item in any order

pub nil_permuted : {X : Type 0} (ys : List X) → IsPermutation [] ys → ys ≡ []
nil_permuted ys h = nil_from_length ys (length_permutation [] ys h)

pub one_permuted : {X : Type 0} (x : X) (ys : List X) → IsPermutation (x ∷ []) ys → ys ≡ x ∷ []
one_permuted x [] h = absurd (let n = length_permutation (x ∷ []) [] h in cc)
one_permuted x (y ∷ []) h = ap (λ z. z ∷ []) (elim ((among_permutation (x ∷ []) (y ∷ []) h y).1
    (inl refl)) [ inl q ↦ q | inr r ↦ absurd r ])
one_permuted x (y ∷ z ∷ ys) h = absurd (let n = length_permutation (x ∷ []) (y ∷ z ∷ ys) h in cc)

-- ---- the parts of the tuple at a place

-- its node alone, where there is a tuple
abbrev pub node_there : Place → Option (List Element) → List Node
node_there p o = option_map_or (λ es. node_of (p, es) ∷ []) o []

abbrev pub cells_there : Place → Option (List Element) → List Cell
cells_there p o = option_map_or (λ es. cells_of (p, es)) o []

these_nodes : (p : Place) (o : Option (List Element)) → map node_of (tuples p o) ≡ node_there p o
these_nodes p None = refl
these_nodes p (Some es) = refl

these_cells : (p : Place) (o : Option (List Element)) → flat_map cells_of (tuples p o) ≡ cells_there p o
these_cells p None = refl
these_cells p (Some es) = append-nil (cells_of (p, es))

pub same_permuted : {X : Type 0} (xs ys : List X) → ys ≡ xs → IsPermutation xs ys
same_permuted xs ys e = subst (IsPermutation xs) (sym e) (IsPermutation-refl xs)

pub entity_part : (T : Table) (p : Place) (f : Fragment) → f.nodes ≡ node_there p (get T p)
    → f.cells ≡ cells_there p (get T p) → IsEntityPart T p f
entity_part T p f nodes cells = record {
  nodes = same_permuted _ f.nodes (nodes ∙ sym (these_nodes p (get T p)) ∙ ap (map node_of) (sym (at_place-get T p)));
  cells = same_permuted _ f.cells (cells ∙ sym (these_cells p (get T p)) ∙ ap (flat_map cells_of)
      (sym (at_place-get T p)));
}
