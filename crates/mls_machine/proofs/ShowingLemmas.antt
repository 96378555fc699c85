-- What an audience is shown of a reply.
use Rattle.std.proofs.Common.{◌≡◌, ℕ, Bool, true, false, cond, List, [], ◌++◌, map, Option, Some, None, codes, refl, sym, ap, ◌∙◌, append-nil, flat_map}
use Rattle.std.proofs.lemmas.List.Folds.{flat_map-map}
use Rattle.mls_lattice.specs.Labels.{Labels}
use Rattle.mls_scheme.specs.declared.tuple.Tuple.{Tuple}
use Rattle.mls_translang.specs.declared.event.Event.{Event}
use Rattle.mls_machine.specs.declared.reply.Reply.{Reply}
use Rattle.mls_machine.specs.declared.form.Form.TheVariants.{Table}
use Rattle.mls_machine.specs.declared.reply.Answer.{Answer}
use Rattle.mls_machine.specs.declared.reply.Reply.TheVariants.{Rows, Did}
use Rattle.mls_certcheck.specs.Site.{Site, site_labels}
use Rattle.mls_machine.specs.Output.{Line, front, line, lines_with, table_texts, batch_texts, texts_in_table, reply_lines, printed}
use Rattle.mls_machine.specs.Observation.{heard}
use Rattle.mls_machine.proofs.ScreenLemmas.{shown-escaped}
use Rattle.mls_machine.specs.Seen.{hears}
use Rattle.mls_machine.proofs.ShownLemmas.{texts_seen}

module _ (site : Site) (e : Event) (reader : Option ℕ) where
  abbrev ls : Labels
  ls = site_labels site

  abbrev on_level : List (List ℕ) → List Line
  on_level texts = map (line site.policy e e.level) texts

  -- lines at the level of the session: all of them, or none
  texts_heard : (reader : Option ℕ) (b : Bool) → hears ls reader e.level ≡ b → (texts : List (List ℕ))
      → heard ls reader (on_level texts) ≡ cond b (on_level texts) []
  texts_heard None true h texts = refl
  texts_heard None false h texts = absurd cc
  texts_heard (Some c) b h texts = texts_seen site e c b h texts

  pub all_heard : hears ls reader e.level ≡ true → (texts : List (List ℕ)) → flat_map (λ t. front site.policy e e.level
      ++ t ++ codes "\n") texts ≡ printed (heard ls reader (on_level texts))
  all_heard h texts = sym (ap printed (texts_heard reader true h texts) ∙ flat_map-map (λ (l : Line). l.text
      ++ codes "\n") (line site.policy e e.level) texts)

  pub none_heard : hears ls reader e.level ≡ false → (texts : List (List ℕ))
      → [] ≡ printed (heard ls reader (on_level texts))
  none_heard h texts = sym (ap printed (texts_heard reader false h texts))

  pub rows_heard : (r : Reply) (tuples : List Tuple) → r ≡ Rows tuples
      → printed (heard ls reader (on_level (table_texts site e.command tuples)))
      ≡ printed (heard ls reader (lines_with site e (texts_in_table site e.session e.command r) r))
  rows_heard r tuples is =
      ap (λ l. printed (heard ls reader l)) (sym (append-nil (on_level (table_texts site e.command tuples))))
      ∙ ap (λ x. printed (heard ls reader (lines_with site e (texts_in_table site e.session e.command x) x))) (sym is)

  pub batch_heard : (r : Reply) (given : List Answer) → r ≡ Did given
      → printed (heard ls reader (on_level (batch_texts Table site e.command given)))
      ≡ printed (heard ls reader (lines_with site e (texts_in_table site e.session e.command r) r))
  batch_heard r given is =
      ap (λ l. printed (heard ls reader l)) (sym (append-nil (on_level (batch_texts Table site e.command given))))
      ∙ ap (λ x. printed (heard ls reader (lines_with site e (texts_in_table site e.session e.command x) x))) (sym is)

  -- another reply is shown as it is
  pub others_heard : (r : Reply) → ((tuples : List Tuple) → r ≡ Rows tuples → ⊥)
      → ((given : List Answer) → r ≡ Did given → ⊥) → printed (heard ls reader (reply_lines site e r))
      ≡ printed (heard ls reader (lines_with site e (texts_in_table site e.session e.command r) r))
  others_heard (Rows tuples) other more = absurd (other tuples refl)
  others_heard (Did given) other more = absurd (more given refl)
  others_heard r other more = refl

pub ruleset screen_steps = (shown-escaped)
