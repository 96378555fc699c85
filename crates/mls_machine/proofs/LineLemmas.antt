-- Runs of the machine: one event more.
use Rattle.std.proofs.Common.{◌≡◌, ℕ, ◌+◌, ◌<◌, List, [], ◌∷◌, ◌++◌, length, take, get_or, Option, Some, None, refl, sym, ap, ◌∙◌, append_assoc, append-nil, codes}
use Rattle.std.proofs.lemmas.List.{take_more}
use Rattle.std.proofs.lemmas.List.Elements.{filter-append}
use Rattle.std.proofs.lemmas.Grind.{flat_map-append}
use Rattle.mls_lattice.specs.Labels.{Labels, below}
use Rattle.mls_translang.specs.declared.event.Event.{Event}
use Rattle.mls_machine.specs.declared.form.Form.{Form}
use Rattle.mls_machine.specs.declared.form.Audience.{Audience}
use Rattle.mls_certcheck.specs.Site.{Site, site_labels}
use Rattle.mls_machine.specs.Machine.{World, step, end_of}
use Rattle.mls_machine.specs.Output.{Line, reply_lines_in, run_lines, printed}
use Rattle.mls_machine.specs.Observation.{heard, run_shows}
use Rattle.mls_machine.specs.Showing.{reply_shows}

-- what a reader hears of some lines and then of others
heard-append : (ls : Labels) (reader : Option ℕ) (xs ys : List Line) → heard ls reader (xs ++ ys) ≡ heard ls reader xs
    ++ heard ls reader ys
heard-append ls None xs ys = refl
heard-append ls (Some c) xs ys = filter-append (λ l. below ls l.label c) xs ys

pub printed-append : (ls : Labels) (reader : Option ℕ) (xs ys : List Line) → printed (heard ls reader (xs ++ ys))
    ≡ printed (heard ls reader xs) ++ printed (heard ls reader ys)
printed-append ls reader xs ys = ap printed (heard-append ls reader xs ys) ∙ flat_map-append (λ (l : Line). l.text
    ++ codes "\n") (heard ls reader xs) (heard ls reader ys)

pub nothing_heard : (ls : Labels) (reader : Option ℕ) → printed (heard ls reader []) ≡ []
nothing_heard ls None = refl
nothing_heard ls (Some c) = refl

module _ (site : Site) where
  end_of-snoc : (w : World) (es : List Event) (e : Event) → end_of site w (es ++ e ∷ [])
      ≡ (step site (end_of site w es) e).world
  unfolding end_of
  end_of-snoc w [] e = refl
  end_of-snoc w (d ∷ es) e = end_of-snoc (step site w d).world es e

  run_lines-snoc : (form : Form) (w : World) (es : List Event) (e : Event)
      → run_lines form site w (es ++ e ∷ []) ≡ run_lines form site w es ++ reply_lines_in form site e
      (step site (end_of site w es) e).reply
  unfolding end_of run_lines
  run_lines-snoc form w [] e = append-nil (reply_lines_in form site e (step site w e).reply)
  run_lines-snoc form w (d ∷ es) e =
      let first = reply_lines_in form site d (step site w d).reply in
      ap (λ l. first ++ l) (run_lines-snoc form (step site w d).world es e) ∙ sym (append_assoc first _ _)

  module _ (w : World) (es : List Event) (i : ℕ) (e : Event) (within : i < length es) (is : get_or es i e ≡ e) where
    more : take (i + 1) es ≡ take i es ++ e ∷ []
    more = take_more es i e within ∙ ap (λ x. take i es ++ x ∷ []) is

    pub end_more : end_of site w (take (i + 1) es) ≡ (step site (end_of site w (take i es)) e).world
    end_more = ap (end_of site w) more ∙ end_of-snoc w (take i es) e

    pub lines_more : (form : Form) → run_lines form site w (take (i + 1) es) ≡ run_lines form site w (take i es)
        ++ reply_lines_in form site e (step site (end_of site w (take i es)) e).reply
    lines_more form = ap (run_lines form site w) more ∙ run_lines-snoc form w (take i es) e

    pub printed_more : (a : Audience) → run_shows site a w (take (i + 1) es) ≡ run_shows site a w (take i es)
        ++ reply_shows site a e (step site (end_of site w (take i es)) e).reply
    printed_more a =
        ap (λ l. printed (heard (site_labels site) a.reader l)) (lines_more a.form)
        ∙ printed-append (site_labels site) a.reader (run_lines a.form site w (take i es)) (reply_lines_in a.form site e
        (step site (end_of site w (take i es)) e).reply)
