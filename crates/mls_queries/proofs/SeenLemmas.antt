-- The tuples of a map of low tuples.
use Rattle.std.proofs.Common.{◌≡◌, ℕ, ◌<◌, true, false, cond, List, [], ◌∷◌, Option, map, length, refl, sym, subst, inl, inr, ltb-true, lt-ltb, ◌↔◌, nat_lt, filter}
use Rattle.std.specs.List.{AllByRecursion}
use Rattle.std.specs.List.Sorted.{IsStrictlySortedBy}
use Rattle.std.specs.Map.{lookup, keys_of}
use Rattle.std.specs.BTreeMap.{is_at}
use Rattle.std.proofs.lemmas.Bool.{and_parts, and_from}
use Rattle.mls_lattice.specs.Labels.{Labels}
use Rattle.mls_scheme.specs.declared.value.Value.{Value}
use Rattle.mls_scheme.specs.declared.tuple.Tuple.{Tuple}
use Rattle.mls_scheme.specs.Tuple.{at, HasClassesBelow}
use Rattle.mls_scheme.specs.Table.{place_cmp, Table, Has, IsIn, place_of, tuple_at}
use Rattle.mls_filterview.specs.declared.fragment.Node.{Node}
use Rattle.mls_filterview.specs.declared.fragment.Cell.{Cell}
use Rattle.mls_filterview.specs.View.{low, IsAmong}
use Rattle.mls_filterview.specs.Stored.{IsStored}
use Rattle.mls_filterview.specs.Checking.{are_declared}
use Rattle.mls_filterview.specs.Assembly.{CellPlace, AreValues, AreRows, AreLow}
use Rattle.mls_filterview.proofs.AmongLemmas.{among_map, map_among, among_filter, filter_among}
use Rattle.mls_filterview.proofs.EntryLemmas.{Entry}
use Rattle.mls_filterview.proofs.LowLemmas.{from_low, to_low}
use Rattle.mls_filterview.proofs.AssemblyLemmas.{rows_low}
use Rattle.mls_filterview.proofs.ListedLemmas.{in_map}
use Rattle.mls_filterview.proofs.ContentLemmas.{declared-true, declared-from}
use Rattle.mls_queries.specs.Parts.{has_known}

pub known_below : (n : ℕ) (ts : List Tuple) → AllByRecursion (HasClassesBelow n) (filter (has_known n) ts)
known_below n [] = tt
known_below n (t ∷ ts) =
    elim (has_known n t) as (λ b. has_known n t ≡ b → AllByRecursion (HasClassesBelow n)
    (cond b (t ∷ filter (has_known n) ts) (filter (has_known n) ts))) [
      | true ↦ λ e. (
          let p = and_parts (nat_lt t.key_class n) (are_declared n t.elements) e in (
            record { key_class = ltb-true t.key_class n p.0; elements = declared-true n t.elements p.1 },
            known_below n ts,
          )
          )
      | false ↦ λ e. known_below n ts
    ] refl

module _ (ls : Labels) (n : ℕ) (T : Table) (stored : IsStored ls n T) (c : ℕ) (ns : List Node) (ds : List Cell)
    (parts : AreLow ls T c (length ls) ns ds)
    (held : CellPlace → Option (Option Value)) (values : AreValues ds held) (es : List Entry)
    (sorted : IsStrictlySortedBy place_cmp (keys_of es))
    (found : AreRows held ns (λ q. lookup (is_at (place_cmp q)) es)) (count : ℕ) (is : length ls ≡ count) where
  abbrev all : List Tuple
  all = map (λ (e : Entry). tuple_at e.0 e.1) es

  -- the tuples of the map are the low ones
  pub among_low : (t : Tuple) → IsAmong t (filter (has_known count) all) ↔ IsIn (low ls c T) t
  among_low t = (to, from)
    where
      to : IsAmong t (filter (has_known count) all) → IsIn (low ls c T) t
      to i =
          let f = among_filter (has_known count) all t i in
          let m = among_map (λ (e : Entry). tuple_at e.0 e.1) es t f.0 in
          let r = (rows_low ls n T stored c ns ds parts held values (λ q. lookup (is_at (place_cmp q)) es) found m.0).0
          ((in_map es sorted m.0).0 m.1) in (
            m.0.0.class,
            subst (Has (low ls c T) m.0.0.class) (sym m.2)
                (to_low ls c T (tuple_at m.0.0 m.0.1) m.0.0.class r.0 r.1),
          )

      from : IsIn (low ls c T) t → IsAmong t (filter (has_known count) all)
      from h =
          let g = from_low ls c T t h.0 h.1 in
          let e : Entry = (place_of h.0 t, t.elements) in
          let st = stored e.0 e.1 g.0 in
          let l = (rows_low ls n T stored c ns ds parts held values (λ q. lookup (is_at (place_cmp q)) es) found e).1
          (g.0, g.1) in
          filter_among (has_known count) all t (map_among (λ (e : Entry). tuple_at e.0 e.1) es e
          ((in_map es sorted e).1 l))
          (and_from (nat_lt t.key_class count) (are_declared count t.elements)
          (lt-ltb t.key_class count (subst (λ k. t.key_class < k) is (st.declared t.key_class (inl refl))))
          (declared-from count t.elements (λ i w. subst (λ k. (at t.elements i).class < k) is
          (st.declared (at t.elements i).class (inr (i, w, refl))))))
