-- The tuples of classes that a level dominates, by look-up.
use Rattle.std.proofs.Common.{◌≡◌, ℕ, true, false, cond, map, None, refl, sym, ap, ◌∙◌, filter, flat_map}
use Rattle.std.specs.FinMap.{get, entries}
use Rattle.std.proofs.lemmas.Option.{none-some}
use Rattle.mls_lattice.specs.Labels.{Labels, below}
use Rattle.mls_lattice.proofs.LatticeLemmas.{below-trans}
use Rattle.mls_scheme.specs.declared.tuple.Tuple.{Tuple}
use Rattle.mls_scheme.specs.Table.{Table, tuple_at, Has, place_of}
use Rattle.mls_scheme.specs.declared.place.Place.{Place}
use Rattle.mls_scheme.proofs.TableLemmas.{get_kept, same_table}
use Rattle.mls_filterview.specs.View.{low, rows}
use Rattle.mls_filterview.specs.Subsumption.{is_max_among}
use Rattle.mls_filterview.specs.Reach.{upward, of_class, low_tuples}

pub get_low : (ls : Labels) (c : ℕ) (T : Table) (q : Place) → get (low ls c T) q ≡ cond (below ls q.class c)
    (get T q) None
unfolding low
get_low ls c T q = get_kept T (λ p. below ls p.class c) q

-- at a class that c dominates, low has what the table has
pub get_low_in : (ls : Labels) (c : ℕ) (T : Table) (q : Place) → below ls q.class c ≡ true → get (low ls c T) q
    ≡ get T q
get_low_in ls c T q h = get_low ls c T q ∙ ap (λ b. cond b (get T q) None) h

-- at another, nothing
pub get_low_out : (ls : Labels) (c : ℕ) (T : Table) (q : Place) → below ls q.class c ≡ false → get (low ls c T) q ≡ None
get_low_out ls c T q h = get_low ls c T q ∙ ap (λ b. cond b (get T q) None) h

-- low of two tables is one where they agree at the classes that c dominates
pub same_low : (ls : Labels) (c : ℕ) (S T : Table) → ((q : Place) → below ls q.class c ≡ true → get S q ≡ get T q)
    → low ls c S ≡ low ls c T
same_low ls c S T h = same_table _ _ (λ q.
    elim (below ls q.class c) as (λ b. below ls q.class c ≡ b → get (low ls c S) q ≡ get (low ls c T) q) [
      | true ↦ λ e. get_low_in ls c S q e ∙ h q e ∙ sym (get_low_in ls c T q e)
      | false ↦ λ e. get_low_out ls c S q e ∙ sym (get_low_out ls c T q e)
    ] refl)

-- a tuple of low is one of the table, of a class that c dominates
pub from_low : (ls : Labels) (c : ℕ) (T : Table) (t : Tuple) (m : ℕ) → Has (low ls c T) m t → Has T m t
    × (below ls m c ≡ true)
from_low ls c T t m h =
    elim (below ls m c) as (λ b. below ls m c ≡ b → Has T m t × (b ≡ true)) [
      | true ↦ λ e. (sym (get_low_in ls c T (place_of m t) e) ∙ h, refl)
      | false ↦ λ e. absurd (none-some t.elements (sym (get_low_out ls c T (place_of m t) e) ∙ h))
    ] refl

pub to_low : (ls : Labels) (c : ℕ) (T : Table) (t : Tuple) (m : ℕ) → Has T m t → below ls m c ≡ true
    → Has (low ls c T) m t
to_low ls c T t m h e = get_low_in ls c T (place_of m t) e ∙ h

-- what two tables have in common at c they have at each d that c dominates
pub low_under : (ls : Labels) (c d : ℕ) (S T : Table) → low ls c S ≡ low ls c T → below ls d c ≡ true → low ls d S
    ≡ low ls d T
low_under ls c d S T h under = same_low ls d S T (λ q at_d.
    let at_c = below-trans ls q.class d c at_d under in
    sym (get_low_in ls c S q at_c) ∙ ap (λ U. get U q) h ∙ get_low_in ls c T q at_c)

-- so what d sees of them is the same
pub low_tuples_under : (ls : Labels) (c d : ℕ) (S T : Table) → low ls c S ≡ low ls c T → below ls d c ≡ true
    → low_tuples ls d S ≡ low_tuples ls d T
unfolding low_tuples
low_tuples_under ls c d S T h under = ap (λ U. flat_map (of_class (entries U)) (upward ls))
    (low_under ls c d S T h under)

pub rows_under : (ls : Labels) (c d : ℕ) (S T : Table) → low ls c S ≡ low ls c T → below ls d c ≡ true → rows ls d S
    ≡ rows ls d T
unfolding rows
rows_under ls c d S T h under = ap (λ U. map (λ e. tuple_at e.0 e.1) (filter (is_max_among (entries U)) (entries U)))
    (low_under ls c d S T h under)
