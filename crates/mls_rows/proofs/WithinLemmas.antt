-- The classes that occur in content are those of its rows.
use Rattle.std.proofs.Common.{◌≡◌, inl, inr, ℕ, ◌<◌, true, List, map, length, refl, sym, ap, subst, ◌∙◌, nat_eq, nat_lt, Some, eq-eqb, ltb-true, lt-ltb}
use Rattle.std.specs.List.{list_all}
use Rattle.std.specs.FinMap.{get, entries}
use Rattle.std.proofs.lemmas.Bool.{and_parts, and_from}
use Rattle.std.proofs.lemmas.List.Folds.{list_all-map}
use Rattle.std.proofs.lemmas.List.{length-map}
use Rattle.mls_lattice.specs.Policy.{Policy}
use Rattle.mls_scheme.specs.declared.tuple.Element.{Element}
use Rattle.mls_scheme.specs.Scheme.{Schemes}
use Rattle.mls_scheme.specs.Tuple.{at, null_element}
use Rattle.mls_filterview.specs.Content.{Content}
use Rattle.mls_filterview.specs.Fragment.{node_of}
use Rattle.mls_filterview.specs.View.{IsAmong}
use Rattle.mls_filterview.proofs.ContentLemmas.{all-among, among-all}
use Rattle.mls_filterview.proofs.AmongLemmas.{among_map, map_among, among_filter, filter_among, among_permutation}
use Rattle.mls_filterview.proofs.RuleLemmas.{all-each, each-all}
use Rattle.mls_filterview.proofs.EntryLemmas.{Entry, among_entries, entries_among}
use Rattle.mls_audit.specs.Sound.{IsSoundContent}
use Rattle.mls_tables.specs.declared.adopting.AllRows.{AllRows}
use Rattle.mls_tables.specs.Adopting.{AreAll}
use Rattle.mls_tables.specs.Rows.{Tables}
use Rattle.mls_rows.specs.Finding.{is_within, AreWithin, IsSoundWithin}
use Rattle.mls_rows.specs.Holding.{Holds, node_row, nodes_in}

-- the classes of elements, by their places
class_at : (labels : ℕ) (es : List Element) → list_all (λ m. nat_lt m labels) (map (λ x. x.class) es) ≡ true → (i : ℕ)
    → i < length es → (at es i).class < labels
class_at labels es h i l =
    ltb-true (at es i).class labels (all-each (λ e. nat_lt e.class labels) null_element es
    (sym (list_all-map (λ m. nat_lt m labels) (λ x. x.class) es) ∙ h) i l)

each_class : (labels : ℕ) (es : List Element) → ((i : ℕ) → i < length es → (at es i).class < labels)
    → list_all (λ m. nat_lt m labels) (map (λ x. x.class) es) ≡ true
each_class labels es h =
    list_all-map (λ m. nat_lt m labels) (λ x. x.class) es ∙ each-all (λ e. nat_lt e.class labels) null_element es
    (λ i l. lt-ltb (at es i).class labels (h i l))

module _ (labels : ℕ) (t : Tables) (rows : AllRows) (all : AreAll t rows) (c : Content) (holds : Holds t c) where
  row_of : (relation : ℕ) (e : Entry) → get (c.db relation) e.0 ≡ Some e.1
      → IsAmong (node_row relation (node_of e)) rows.nodes.items
  row_of relation e h =
      let listed = map_among (node_row relation) (nodes_in (c.db relation)) (node_of e)
      (map_among node_of (entries (c.db relation)) e (entries_among (c.db relation) e.0 e.1 h)) in
      let kept = among_filter (λ n. nat_eq n.rel relation) t.nodes _
      ((among_permutation _ _ (holds.tables relation).nodes (node_row relation (node_of e))).0 listed) in
      (among_permutation t.nodes rows.nodes.items all.0 (node_row relation (node_of e))).0 kept.0

  pub classes_within : list_all (is_within labels) rows.nodes.items ≡ true → (relation : ℕ)
      → AreWithin labels (c.db relation)
  classes_within within relation p es h m occurs =
      let row = and_parts _ _ (all-among (is_within labels) rows.nodes.items within
      (node_row relation (node_of (p, es))) (row_of relation (p, es) h)) in
      elim occurs [
        | inl e ↦ subst (λ n. n < labels) (sym e) (ltb-true p.key_class labels row.0)
        | inr k ↦ subst (λ n. n < labels) (sym k.2) (class_at labels es row.1 k.0 k.1)
      ]

  pub rows_within : ((relation : ℕ) → AreWithin labels (c.db relation)) → list_all (is_within labels) rows.nodes.items
      ≡ true
  rows_within within = among-all (is_within labels) rows.nodes.items (λ r i.
      let here = filter_among (λ n. nat_eq n.rel r.rel) t.nodes r
      ((among_permutation t.nodes rows.nodes.items all.0 r).1 i) (eq-eqb r.rel r.rel refl) in
      let n = among_map (node_row r.rel) (nodes_in (c.db r.rel)) r
      ((among_permutation _ _ (holds.tables r.rel).nodes r).1 here) in
      let e = among_map node_of (entries (c.db r.rel)) n.0 n.1 in
      let there = among_entries (c.db r.rel) e.0 e.1 in
      subst (λ x. is_within labels x ≡ true) (sym (n.2 ∙ ap (node_row r.rel) e.2)) (and_from _ _
      (lt-ltb e.0.0.key_class labels (within r.rel e.0.0 e.0.1 there e.0.0.key_class (inl refl)))
      (each_class labels e.0.1 (λ k l. within r.rel e.0.0 e.0.1 there (at e.0.1 k).class (inr (k, l, refl))))))

-- under all labels of a policy, what is within them is sound, and what is sound is within them
pub sound_whole : (policy : Policy) (schemes : Schemes) (c : Content) → IsSoundWithin policy schemes
    (length policy.labels) c → IsSoundContent policy schemes c
sound_whole policy schemes c h = record { content = h.content; entries = h.entries }

pub within_whole : (policy : Policy) (schemes : Schemes) (c : Content) → IsSoundContent policy schemes c
    → IsSoundWithin policy schemes (length policy.labels) c
within_whole policy schemes c h = record {
  content = h.content;
  classes = λ relation p es there m occurs. subst (λ n. m < n) (length-map policy.labels (λ l. l.value))
      (((h.content relation).stored p es there).declared m occurs);
  entries = h.entries;
}
