-- What lives tell: lives that release the same to a level end alike to it, and there are few that do not.
use Rattle.std.proofs.Common.{◌≡◌, ℕ, ◌≤◌, List, length, sym, ◌∙◌, subst, inl, inr, arith, [], ◌∷◌, map}
use Rattle.std.specs.Prelude.{Contains}
use Rattle.std.specs.List.{AllZip}
use Rattle.mls_lattice.specs.Labels.{Labels, AreDistinct}
use Rattle.mls_certcheck.specs.Meaning.{Item}
use Rattle.mls_certcheck.specs.Site.{Site, site_labels, AreRead, AreCertified}
use Rattle.mls_certcheck.specs.declared.stored.Stored.{Stored}
use Rattle.mls_machine.specs.Machine.{World}
use Rattle.mls_machine.specs.Observation.{AgreeAt, EndAlike, released_to, told_to, ReleaseTheSame}
use Rattle.mls_machine.specs.Telling.{by_releases}
use Rattle.mls_machine.proofs.RunLemmas.{accepted_alike, certified_secure}
use Rattle.mls_lives.specs.Lives.{Life, BeginsAs, TellsAtMost, all_ran, CountsAtMost, product, RunsTellFew, CallsMultiply}
use Rattle.mls_lives.proofs.ListLemmas.{same_place}
use Rattle.mls_lives.proofs.RanLemmas.{same_ran}
use Rattle.mls_lives.proofs.ReleasedLemmas.{IsFew, marked, counted_few, few_after, run_releases, AreReleased}

pub agree_between : (ls : Labels) (c : ℕ) (u v w : World) → AgreeAt ls c u v → AgreeAt ls c u w → AgreeAt ls c v w
agree_between ls c u v w h k = record {
  views = λ r t. (λ x. (k.views r t).0 ((h.views r t).1 x), λ x. (h.views r t).0 ((k.views r t).1 x));
  sessions = λ l n b. sym (h.sessions l n b) ∙ k.sessions l n b;
  entries = sym h.entries ∙ k.entries;
}

module _ (site : Site) (distinct : AreDistinct (site_labels site)) (read : AreRead site) (certified : AreCertified site)
    (c : ℕ) (life : Life) where
  -- two lives that begin so, and release the same
  between : (one two : Life) → BeginsAs site c life one → BeginsAs site c life two
      → ReleaseTheSame by_releases c site one.world one.events site two.world two.events
      → EndAlike site c one.world two.world one.events two.events
  between one two a b same =
      accepted_alike site distinct read certified one.world one.events a.stored a.fits c two.world two.events b.stored b.fits
      (agree_between (site_labels site) c life.world one.world two.world a.agree b.agree) (sym a.events ∙ b.events)
      same

  -- where what each life does is one of these lists, and lives that do the same release the same
  tell_few : (does : Life → List Item)
      → ((one two : Life) → does one ≡ does two
      → ReleaseTheSame by_releases c site one.world one.events site two.world two.events)
      → (lists : List (List Item)) (count : ℕ) → length lists ≤ count
      → ((other : Life) → BeginsAs site c life other → Contains lists (does other)) → TellsAtMost site c life count
  tell_few does same lists count long has = record {
    class = λ other begins. (has other begins).0;
    few = λ other begins. (let within = (has other begins).1 in omega (arith, within, long));
    alike = λ one two a b one_class. between one two a b
        (same one two (same_place lists _ _ (has one a) (has two b) one_class));
  }

each_few : (site : Site) (c : ℕ) (ran : List Stored) (counts : List ℕ) → AllZip (CountsAtMost site c) ran counts
    → AllZip (IsFew (site_labels site) site.schemes c) (map (marked site c) ran) counts
each_few site c [] [] h = tt
each_few site c [] (n ∷ ns) h = absurd h
each_few site c (s ∷ ran) [] h = absurd h
each_few site c (s ∷ ran) (n ∷ ns) h = (counted_few site c s n h.0, each_few site c ran ns h.1)

pub runs_tell : RunsTellFew
runs_tell site distinct read certified c life lists has = tell_few site distinct read certified c life
    (λ other. released_to site c other.world other.events) (λ one two same. inl same) lists (length lists)
    (omega arith) has

pub calls_multiply : CallsMultiply
calls_multiply site distinct read certified c life stored fits counts each =
    let ls = site_labels site in
    let secure = certified_secure site distinct certified in
    let few = few_after ls site.schemes c (map (marked site c) (all_ran site c life.world life.events)) counts
    (each_few site c (all_ran site c life.world life.events) counts each) in
    tell_few site distinct read certified c life (λ other. told_to by_releases site c other.world other.events)
    (λ one two same. inr same) few.lists (product counts) few.few
    (λ other begins. few.all (told_to by_releases site c other.world other.events)
    (subst (λ ran. AreReleased ls site.schemes c (map (marked site c) ran)
    (told_to by_releases site c other.world other.events))
    (sym (same_ran site c distinct read secure life.events other.events life.world other.world fits begins.fits stored
    begins.stored begins.agree.sessions begins.events))
    (run_releases site c distinct read other.world other.events begins.stored begins.fits)))
