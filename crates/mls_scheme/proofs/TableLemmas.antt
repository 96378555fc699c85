-- Tables by look-up: every proof on tables goes by these equations.
use Rattle.std.proofs.Common.{◌≡◌, Bool, true, false, cond, List, [], ◌∷◌, Some, None, map, refl, sym, ap, ◌∙◌, subst, ◌&&◌, is_lt, option_map}
use Rattle.std.specs.FinMap.{same_map, get, insert, retain_keys, entries, entries_sorted, get-entries, get-insert, get-retain_keys, get-from_sorted, find, is_sorted}
use Rattle.std.specs.FinMap.Entries.{below_all}
use lib.Dec.{T as IsSo}
use Rattle.mls_scheme.specs.declared.tuple.Element.{Element}
use Rattle.mls_scheme.specs.Table.{place_cmp, Table, change}
use Rattle.mls_scheme.specs.declared.place.Place.{Place}
use Rattle.mls_scheme.proofs.OrderLemmas.{place_total, place_exact, is_place, is_place-true}

-- two tables that answer alike are one
pub same_table : (S T : Table) → ((p : Place) → get S p ≡ get T p) → S ≡ T
same_table S T h = same_map place_total place_exact S T h

pub get_put : (T : Table) (p : Place) (es : List Element) (q : Place) → get (insert T p es) q ≡ cond (is_place q p)
    (Some es) (get T q)
get_put T p es q = get-insert place_total T p es q

pub get_kept : (T : Table) (test : Place → Bool) (q : Place) → get (retain_keys T test) q ≡ cond (test q) (get T q) None
get_kept T test q = get-retain_keys T test q (λ x e. ap test (sym (place_exact q x e)))

-- each entry with its tuple changed
abbrev mapped : (Place → List Element → List Element) → List (Place × List Element) → List (Place × List Element)
mapped f es = map (λ e. (e.0, f e.0 e.1)) es

below_mapped : (f : Place → List Element → List Element) (p : Place) (es : List (Place × List Element))
    → below_all place_cmp p (mapped f es) ≡ below_all place_cmp p es
below_mapped f p [] = refl
below_mapped f p (e ∷ es) = ap (λ b. is_lt (place_cmp p e.0) && b) (below_mapped f p es)

sorted_mapped : (f : Place → List Element → List Element) (es : List (Place × List Element))
    → is_sorted place_cmp (mapped f es) ≡ is_sorted place_cmp es
sorted_mapped f [] = refl
sorted_mapped f (e ∷ es) = λ i. below_mapped f e.0 es i && sorted_mapped f es i

find_mapped : (f : Place → List Element → List Element) (q : Place) (es : List (Place × List Element))
    → find place_cmp q (mapped f es) ≡ option_map (f q) (find place_cmp q es)
find_mapped f q [] = refl
find_mapped f q (e ∷ es) =
    elim (is_place q e.0) as (λ b. is_place q e.0 ≡ b → cond b (Some (f e.0 e.1)) (find place_cmp q (mapped f es))
    ≡ option_map (f q) (cond b (Some e.1) (find place_cmp q es))) [
      | true ↦ λ h. ap (λ p. Some (f p e.1)) (sym (is_place-true q e.0 h))
      | false ↦ λ h. find_mapped f q es
    ] refl

pub get_change : (f : Place → List Element → List Element) (T : Table) (q : Place) → get (change f T) q
    ≡ option_map (f q) (get T q)
unfolding change
get_change f T q =
    get-from_sorted place_cmp (mapped f (entries T)) q (subst (λ b. IsSo b) (sym (sorted_mapped f (entries T)))
    (entries_sorted T))
    ∙ find_mapped f q (entries T) ∙ ap (option_map (f q)) (sym (get-entries T q))
