-- Lines for a screen: their bytes are those of the lines, escaped.
use Rattle.std.proofs.Common.{◌≡◌, ℕ, List, [], ◌∷◌, ◌++◌, map, Option, Some, None, refl, sym, ap, ◌∙◌, subst, append_assoc, codes}
use Rattle.std.proofs.lemmas.List.{map-append}
use Rattle.mls_tokens.specs.Screen.{escaped, IsHarmless}
use Rattle.mls_tokens.proofs.EscapingLemmas.{escaped-line}
use Rattle.mls_tokens.proofs.HarmlessLemmas.{escaped_harmless}
use Rattle.mls_lattice.specs.Labels.{Labels, below}
use Rattle.mls_translang.specs.declared.event.Event.{Event}
use Rattle.mls_machine.specs.declared.form.Form.TheVariants.{Table}
use Rattle.mls_certcheck.specs.Site.{Site, site_labels}
use Rattle.mls_machine.specs.Machine.{World, step}
use Rattle.mls_machine.specs.Output.{Line, lines_with, texts_in_table, escaped_line, run_lines, printed}
use Rattle.mls_machine.specs.Observation.{heard}
use Rattle.mls_machine.specs.Laws.{TablesAreHarmless}
use Rattle.mls_machine.proofs.ItemLemmas.{filter-map}

pub printed-escaped : (lines : List Line) → escaped (printed lines) ≡ printed (map escaped_line lines)
printed-escaped [] = refl
printed-escaped (l ∷ lines) =
    ap escaped (append_assoc l.text (codes "\n") (printed lines)) ∙ escaped-line l.text (printed lines)
    ∙ ap (λ rest. escaped l.text ++ (codes "\n" ++ rest)) (printed-escaped lines)
    ∙ sym (append_assoc (escaped l.text) (codes "\n") (printed (map escaped_line lines)))

heard-escaped : (ls : Labels) (reader : Option ℕ) (lines : List Line) → heard ls reader (map escaped_line lines)
    ≡ map escaped_line (heard ls reader lines)
heard-escaped ls None lines = refl
heard-escaped ls (Some c) lines = filter-map (λ l. below ls l.label c) escaped_line lines

pub shown-escaped : (ls : Labels) (reader : Option ℕ) (lines : List Line) → escaped (printed (heard ls reader lines))
    ≡ printed (heard ls reader (map escaped_line lines))
shown-escaped ls reader lines = printed-escaped (heard ls reader lines) ∙ ap printed
    (sym (heard-escaped ls reader lines))

-- the lines of a run, before they are escaped
bare : Site → World → List Event → List Line
bare site w [] = []
bare site w (e ∷ es) = lines_with site e (texts_in_table site e.session e.command (step site w e).reply)
    (step site w e).reply ++ bare site (step site w e).world es

bare-escaped : (site : Site) (w : World) (es : List Event) → run_lines Table site w es ≡ map escaped_line
    (bare site w es)
unfolding run_lines bare
bare-escaped site w [] = refl
bare-escaped site w (e ∷ es) =
    let first = lines_with site e (texts_in_table site e.session e.command (step site w e).reply) (step site w e).reply
    in
    ap (λ l. map escaped_line first ++ l) (bare-escaped site (step site w e).world es)
    ∙ sym (map-append escaped_line first (bare site (step site w e).world es))

pub tables_harmless : TablesAreHarmless
tables_harmless site reader w es =
    subst IsHarmless (shown-escaped (site_labels site) reader (bare site w es)
    ∙ ap (λ l. printed (heard (site_labels site) reader l)) (sym (bare-escaped site w es)))
    (escaped_harmless (printed (heard (site_labels site) reader (bare site w es))))
