-- A shell answers what a desk of its one session does.
use Rattle.std.proofs.Common.{◌≡◌, Bool, true, false, true≢false, ◌&&◌, nat_eq, eqb-true, List, [], ◌∷◌, ◌++◌, refl, sym, ap, ◌∙◌, append-nil, bytes_eq}
use Rattle.std.specs.List.{list_all}
use Rattle.mls_translang.specs.declared.event.Event.{Event}
use Rattle.mls_machine.specs.declared.form.Form.TheVariants.{Lines}
use Rattle.mls_certcheck.specs.Site.{Site}
use Rattle.mls_machine.specs.Machine.{World, step, end_of}
use Rattle.mls_machine.specs.Observation.{run_shows}
use Rattle.mls_machine.specs.Showing.{reader_of}
use Rattle.mls_machine.specs.Serving.{answer_to, answers_to}
use Rattle.mls_runs.specs.Running.{form_of}
use Rattle.mls_runs.specs.declared.shell_session.ShellSession.{ShellSession}
use Rattle.mls_runs.specs.Shell.{audience_at, is_own, answers}
use Rattle.mls_runs.proofs.ShellLemmas.{prints-append, prints-none}
use Rattle.mls_runs.specs.Laws.{ShellsAreDesks}
use Rattle.mls_runs.proofs.AnsweringLemmas.{shown_one}

both : (a b : Bool) → (a && b) ≡ true → (a ≡ true) × (b ≡ true)
both true b h = (refl, h)
both false b h = absurd (true≢false (sym h))

module _ (site : Site) (session : ShellSession) (plain : session.has_prompt ≡ false) where
  one : (w : World) (e : Event) → is_own session e ≡ true → answers site session w (e ∷ []) ≡ answers_to site w (e ∷ [])
  one w e own =
      let level = eqb-true e.level session.level (both (nat_eq e.level session.level)
      (bytes_eq e.session session.user) own).0 in
      ap (λ b. run_shows site (reader_of session.level (form_of b)) w (e ∷ [])) plain
      ∙ ap (λ l. run_shows site (reader_of l Lines) w (e ∷ [])) (sym level) ∙ shown_one site w e

  all : (w : World) (es : List Event) → list_all (is_own session) es ≡ true → answers site session w es
      ≡ answers_to site w es
  unfolding answers_to end_of
  all w [] h = prints-none site (audience_at session) w
  all w (e ∷ es) h =
      let own = both (is_own session e) (list_all (is_own session) es) h in
      let v = (step site w e).world in
      prints-append site (audience_at session) w (e ∷ []) es
      ∙ (λ i. one w e own.0 i ++ all v es own.1 i)
      ∙ ap (λ l. l ++ answers_to site v es) (append-nil (answer_to site w e))

pub shells_are_desks : ShellsAreDesks
shells_are_desks site session w es plain own = all site session plain w es own
