-- What is seen of the tuples of a dump.
use Rattle.std.proofs.Common.{◌≡◌, ℕ, Bool, true, false, cond, Option, None, refl, sym, ap, ◌∙◌, true≢false}
use Rattle.std.specs.FinMap.{get}
use Rattle.mls_lattice.specs.Labels.{Labels, below}
use Rattle.mls_lattice.proofs.LatticeLemmas.{below-trans}
use Rattle.mls_scheme.specs.declared.place.Place.{Place}
use Rattle.mls_scheme.specs.Table.{Table}
use Rattle.mls_scheme.proofs.TableLemmas.{same_table}
use Rattle.mls_filterview.specs.View.{low}
use Rattle.mls_filterview.proofs.LevelLemmas.{views_from_low}
use Rattle.mls_filterview.proofs.LowLemmas.{get_low}
use Rattle.mls_queries.proofs.PartLemmas.{low_stored}
use Rattle.mls_lives.specs.Loading.{DumpsShowTheSame}

-- what is kept by a test, and that only by one that it implies
kept_within : {A : Type 0} (a b : Bool) → (a ≡ true → b ≡ true) → (o : Option A)
    → cond a (cond b o None) None ≡ cond a o None
kept_within false b h o = refl
kept_within true true h o = refl
kept_within true false h o = absurd (true≢false (sym (h refl)))

-- the tuples that d dominates are among those that c does
low_of_low : (ls : Labels) (c d : ℕ) (T : Table) → below ls d c ≡ true → low ls d (low ls c T) ≡ low ls d T
low_of_low ls c d T under = same_table _ _ (λ p. get_low ls d (low ls c T) p ∙ twice p ∙ sym (get_low ls d T p))
  where
    twice : (p : Place) → cond (below ls p.class d) (get (low ls c T) p) None ≡ cond (below ls p.class d) (get T p) None
    twice p = ap (λ o. cond (below ls p.class d) o None) (get_low ls c T p)
        ∙ kept_within (below ls p.class d) (below ls p.class c) (λ h. below-trans ls p.class d c h under) (get T p)

pub dumps_show_the_same : DumpsShowTheSame
dumps_show_the_same ls n c d T stored under =
    views_from_low ls n n (low ls c T) T (low_stored ls n c T stored) stored d (low_of_low ls c d T under)
