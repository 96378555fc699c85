-- What many sessions are answered, each for its own level, in two worlds that look alike to a level above them.
use Rattle.std.proofs.Common.{◌≡◌, ℕ, Bool, true, false, cond, List, [], ◌∷◌, ◌++◌, map, refl, sym, ap, ◌∙◌, filter}
use Rattle.mls_lattice.specs.Labels.{below}
use Rattle.mls_lattice.proofs.LatticeLemmas.{below-trans}
use Rattle.mls_translang.specs.declared.event.Event.{Event}
use Rattle.mls_machine.specs.declared.form.Form.TheVariants.{Lines}
use Rattle.mls_machine.specs.declared.reply.Reply.{Reply}
use Rattle.mls_certcheck.specs.Site.{Site, site_labels}
use Rattle.mls_machine.specs.Machine.{World, step}
use Rattle.mls_machine.specs.Output.{Line, reply_lines, printed}
use Rattle.mls_machine.specs.Observation.{out, glimpse, seen, reply_shown, replies_shown}
use Rattle.mls_machine.specs.Serving.{answer_to, served_to, ServedRunsAreAlike}
use Rattle.mls_machine.proofs.AlikeLemmas.{filter_within}
use Rattle.mls_machine.proofs.FormLemmas.{seen_in}

module _ (site : Site) (c : ℕ) where
  -- the lines of a reply that the level of its event may see
  abbrev lines_for : Event → Reply → List Line
  lines_for e r = out (site_labels site) e.level (reply_lines site e r)

  -- they are those of what c sees of both, if c dominates that level
  seen_answer : (w : World) (e : Event) → below (site_labels site) e.level c ≡ true
      → answer_to site w e ≡ printed (lines_for (glimpse site c e) (reply_shown (site_labels site) c
      (step site w e).reply))
  seen_answer w e sees =
      let ls = site_labels site in
      let lines = reply_lines site e (step site w e).reply in
      ap printed
      (sym (filter_within (λ (l : Line). below ls l.label e.level) (λ (l : Line). below ls l.label c)
      (λ l k. below-trans ls l.label e.level c k sees) lines)
      ∙ ap (out ls e.level) (seen_in site c e sees (step site w e).reply Lines))

  -- each reply with its event
  abbrev answers_of : List Event → List Reply → List (List ℕ)
  answers_of [] rs = []
  answers_of (e ∷ es) [] = []
  answers_of (e ∷ es) (r ∷ rs) = printed (lines_for e r) ∷ answers_of es rs

  -- what c sees of the events and the replies tells all these answers
  Told : World → List Event → Type 0
  Told w es = served_to site c w es ≡ answers_of (seen site c es) (replies_shown site c w es)

  module _ (w : World) (e : Event) (es : List Event) where
    abbrev now : World
    now = (step site w e).world

    abbrev reply : Reply
    reply = reply_shown (site_labels site) c (step site w e).reply

    -- the answers, by whether c sees the level of the first
    abbrev served_if : Bool → List (List ℕ)
    served_if b = cond b (answer_to site w e ∷ []) [] ++ served_to site c now es

    abbrev told_if : Bool → List (List ℕ)
    told_if b =
        let others = filter (λ (f : Event). below (site_labels site) f.level c) es in
        answers_of (map (glimpse site c) (cond b (e ∷ others) others)) (cond b (reply ∷ []) []
        ++ replies_shown site c now es)

    served_next : (b : Bool) → below (site_labels site) e.level c ≡ b → Told now es → Told w (e ∷ es)
    unfolding Told served_to replies_shown
    served_next true h r = ap served_if h ∙ (λ i. seen_answer w e h i ∷ r i) ∙ sym (ap told_if h)
    served_next false h r = ap served_if h ∙ r ∙ sym (ap told_if h)

  served_is : (w : World) (es : List Event) → Told w es
  unfolding Told served_to replies_shown
  served_is w [] = refl
  served_is w (e ∷ es) = served_next w e es (below (site_labels site) e.level c) refl
      (served_is (step site w e).world es)

pub served_alike : ServedRunsAreAlike
unfolding Told
served_alike site c v es secret w fs sw ff agree same relation =
    served_is site c v es
    ∙ (λ i. answers_of site c (same i) ((secret c w fs sw ff agree same relation).replies i))
    ∙ sym (served_is site c w fs)
