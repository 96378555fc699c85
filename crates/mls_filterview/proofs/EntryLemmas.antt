-- The entries of a table: a list in order, determined by its members.
use Rattle.std.proofs.Common.{◌≡◌, Bool, true, false, cond, ◌&&◌, List, [], ◌∷◌, Option, Some, None, refl, sym, ap, ◌∙◌, subst, inl, inr, ◌↔◌, filter, is_lt}
use Rattle.std.specs.FinMap.{get, entries, entries_sorted, get-entries, find, is_sorted}
use Rattle.std.specs.FinMap.Entries.{below_all, same_entries}
use Rattle.std.proofs.lemmas.Cmp.{tied_itself}
use Rattle.std.proofs.lemmas.Bool.{and_parts, and_from, false_from_ne_true}
use Rattle.std.proofs.lemmas.Option.{same_Some, none-some}
use lib.Dec.{T as IsSo}
use Rattle.mls_scheme.specs.declared.tuple.Element.{Element}
use Rattle.mls_scheme.specs.Table.{place_cmp, Table}
use Rattle.mls_scheme.specs.declared.place.Place.{Place}
use Rattle.mls_scheme.proofs.OrderLemmas.{place_exact, place_total, is_place, is_place-true, is_place-same}
use Rattle.mls_filterview.specs.View.{IsAmong}

abbrev pub Entry : Type 0
Entry = Place × List Element

so_first : (a b : Bool) → IsSo (a && b) → IsSo a
so_first true b h = tt
so_first false b h = h

so_second : (a b : Bool) → IsSo (a && b) → IsSo b
so_second true b h = h
so_second false b h = absurd h

below_each : (p : Place) (es : List Entry) → IsSo (below_all place_cmp p es) → (e : Entry) → IsAmong e es
    → IsSo (is_lt (place_cmp p e.0))
below_each p [] h e i = absurd i
below_each p (d ∷ es) h e (inl q) = subst (λ x. IsSo (is_lt (place_cmp p x))) (sym (ap (λ x. x.0) q))
    (so_first _ (below_all place_cmp p es) h)
below_each p (d ∷ es) h e (inr i) = below_each p es (so_second (is_lt (place_cmp p d.0)) _ h) e i

pub found_in : (es : List Entry) → IsSo (is_sorted place_cmp es) → (e : Entry) → IsAmong e es → find place_cmp e.0 es
    ≡ Some e.1
found_in [] s e i = absurd i
found_in (d ∷ es) s e (inl q) = ap (λ b. cond b (Some d.1) (find place_cmp e.0 es))
    (is_place-same e.0 d.0 (ap (λ x. x.0) q)) ∙ ap Some (sym (ap (λ x. x.1) q))
found_in (d ∷ es) s e (inr i) =
    ap (λ b. cond b (Some d.1) (find place_cmp e.0 es))
    (false_from_ne_true (is_place e.0 d.0) (λ t.
    subst (λ x. IsSo (is_lt x)) (ap (λ p. place_cmp d.0 p) (is_place-true e.0 d.0 t) ∙ tied_itself place_total d.0)
    (below_each d.0 es (so_first _ (is_sorted place_cmp es) s) e i)))
    ∙ found_in es (so_second (below_all place_cmp d.0 es) _ s) e i

pub among_found : (es : List Entry) (q : Place) (us : List Element) → find place_cmp q es ≡ Some us → IsAmong (q, us) es
among_found [] q us h = absurd (none-some us h)
among_found (d ∷ es) q us h =
    elim (is_place q d.0) as (λ b. is_place q d.0 ≡ b → cond b (Some d.1) (find place_cmp q es) ≡ Some us
    → IsAmong (q, us) (d ∷ es)) [
      | true ↦ λ e k. inl (λ i. (is_place-true q d.0 e i, sym (same_Some d.1 us k) i))
      | false ↦ λ e k. inr (among_found es q us k)
    ] refl h

pub among_entries : (L : Table) (e : Entry) → IsAmong e (entries L) → get L e.0 ≡ Some e.1
among_entries L e i = get-entries L e.0 ∙ found_in (entries L) (entries_sorted L) e i

pub entries_among : (L : Table) (q : Place) (us : List Element) → get L q ≡ Some us → IsAmong (q, us) (entries L)
entries_among L q us h = among_found (entries L) q us (sym (get-entries L q) ∙ h)

-- ---- the order
below_filter : (x : Place) (p : Entry → Bool) (es : List Entry) → below_all place_cmp x es ≡ true
    → below_all place_cmp x (filter p es) ≡ true
below_filter x p [] h = refl
below_filter x p (e ∷ es) h =
    let q = and_parts _ _ h in
    elim (p e) as (λ b. below_all place_cmp x (cond b (e ∷ filter p es) (filter p es)) ≡ true) [
      | true ↦ and_from _ _ q.0
          (below_filter x p es q.1)
      | false ↦ below_filter x p es q.1
    ]

pub sorted_filter : (p : Entry → Bool) (es : List Entry) → is_sorted place_cmp es ≡ true
    → is_sorted place_cmp (filter p es) ≡ true
sorted_filter p [] h = refl
sorted_filter p (e ∷ es) h =
    let q = and_parts _ _ h in
    elim (p e) as (λ b. is_sorted place_cmp (cond b (e ∷ filter p es) (filter p es)) ≡ true) [
      | true ↦ and_from _ _
          (below_filter e.0 p es q.0) (sorted_filter p es q.1)
      | false ↦ sorted_filter p es q.1
    ]

pub so_true : (b : Bool) → IsSo b → b ≡ true
so_true true h = refl
so_true false h = absurd h

pub so_from : (b : Bool) → b ≡ true → IsSo b
so_from b h = subst IsSo (sym h) tt

-- ---- lists in order with the same entries

same_find : (es fs : List Entry) → IsSo (is_sorted place_cmp es) → IsSo (is_sorted place_cmp fs)
    → ((e : Entry) → IsAmong e es ↔ IsAmong e fs) → (q : Place) → find place_cmp q es ≡ find place_cmp q fs
same_find es fs s t h q = cases (find place_cmp q es) (find place_cmp q fs) refl refl
  where
    cases : (o p : Option (List Element)) → find place_cmp q es ≡ o → find place_cmp q fs ≡ p → find place_cmp q es
        ≡ find place_cmp q fs
    cases None None a b = a ∙ sym b
    cases (Some us) p a b = a ∙ sym (found_in fs t (q, us) ((h (q, us)).0 (among_found es q us a)))
    cases None (Some us) a b = found_in es s (q, us) ((h (q, us)).1 (among_found fs q us b)) ∙ sym b

-- a list in order that has just the tuples of low is its entries
pub entries_are : (L : Table) (es : List Entry) → IsSo (is_sorted place_cmp es)
    → ((e : Entry) → IsAmong e es ↔ (get L e.0 ≡ Some e.1)) → es ≡ entries L
entries_are L es s h =
    same_entries place_cmp place_total place_exact es (entries L) s (entries_sorted L)
    (same_find es (entries L) s (entries_sorted L) (λ e. (
      (λ i. entries_among L e.0 e.1 ((h e).0 i)),
      (λ i. (h e).1 (among_entries L e i)),
    )))

pub same_lists : (es fs : List Entry) → is_sorted place_cmp es ≡ true → is_sorted place_cmp fs ≡ true
    → ((e : Entry) → IsAmong e es ↔ IsAmong e fs) → es ≡ fs
same_lists es fs s t h = same_entries place_cmp place_total place_exact es fs (so_from _ s) (so_from _ t)
    (same_find es fs (so_from _ s) (so_from _ t) h)
