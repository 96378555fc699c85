-- What a level sees of the lines of a reply, in each form: those of what it sees of the event and of the reply, or
-- none.
use Rattle.std.proofs.Common.{◌≡◌, ℕ, true, false, cond, List, [], ◌∷◌, ◌++◌, map, refl, sym, ap, ◌∙◌}
use Rattle.std.proofs.lemmas.List.Elements.{filter-append}
use Rattle.mls_lattice.specs.Labels.{Labels, below}
use Rattle.mls_tokens.specs.Writing.{printable}
use Rattle.mls_lattice.specs.Policy.{Name}
use Rattle.mls_scheme.specs.declared.tuple.Tuple.{Tuple}
use Rattle.mls_translang.specs.declared.event.Event.{Event}
use Rattle.mls_translang.specs.declared.event.Command.{Command}
use Rattle.mls_translang.specs.declared.event.Command.TheVariants as commands
use Rattle.mls_machine.specs.declared.form.Form.{Form}
use Rattle.mls_machine.specs.declared.form.Form.TheVariants.{Lines, Table}
use Rattle.mls_machine.specs.declared.reply.Reply.{Reply}
use Rattle.mls_machine.specs.declared.reply.Answer.{Answer}
use Rattle.mls_machine.specs.declared.reply.Reply.TheVariants.{Rows, Dumped, Ran, Did}
use Rattle.mls_certcheck.specs.Site.{Site, site_labels}
use Rattle.mls_machine.specs.Output.{Line, line, item_lines, lines_with, escaped_line, view_texts, table_texts, dump_texts, batch_texts, call_texts, reply_texts, texts_in_table, reply_lines, reply_lines_in}
use Rattle.mls_machine.specs.Observation.{out, shown, glimpse, reply_shown}
use Rattle.mls_machine.proofs.ItemLemmas.{filter-map, lines_seen}
use Rattle.mls_machine.proofs.HiddenLemmas.{hidden_lines}

module _ (site : Site) (c : ℕ) where
  abbrev ls : Labels
  ls = site_labels site

  -- ---- texts are those of what c sees of the command and the reply

  same_views : (a : Command) (tuples : List Tuple) → view_texts site (shown site c a) tuples ≡ view_texts site a tuples
  same_views (commands.Call name args) tuples = refl
  same_views a tuples = refl

  same_tables : (a : Command) (tuples : List Tuple) → table_texts site (shown site c a) tuples
      ≡ table_texts site a tuples
  same_tables (commands.Call name args) tuples = refl
  same_tables a tuples = refl

  same_calls : (a : Command) → call_texts (shown site c a) ≡ call_texts a
  same_calls (commands.Call name args) = refl
  same_calls a = refl

  same_dumps : (session : Name) (a : Command) (tuples : List Tuple) → dump_texts site session (shown site c a) tuples
      ≡ dump_texts site session a tuples
  same_dumps session (commands.Call name args) tuples = refl
  same_dumps session a tuples = refl

  same_batches : (form : Form) (a : Command) (given : List Answer) → batch_texts form site (shown site c a) given
      ≡ batch_texts form site a given
  same_batches form (commands.Call name args) given = refl
  same_batches form a given = refl

  same_texts : (session : Name) (a : Command) (r : Reply) → reply_texts site session (shown site c a)
      (reply_shown ls c r) ≡ reply_texts site session a r
  same_texts session a (Rows tuples) = same_views a tuples
  same_texts session a (Dumped tuples) = same_dumps (printable session) a tuples
  same_texts session a (Ran run) = same_calls a
  same_texts session a (Did given) = same_batches Lines a given
  same_texts session a r = refl

  same_in_table : (session : Name) (a : Command) (r : Reply) → texts_in_table site session (shown site c a)
      (reply_shown ls c r) ≡ texts_in_table site session a r
  same_in_table session a (Rows tuples) = same_tables a tuples
  same_in_table session a (Dumped tuples) = same_dumps (printable session) a tuples
  same_in_table session a (Ran run) = same_calls a
  same_in_table session a (Did given) = same_batches Table a given
  same_in_table session a r = refl

  module _ (e : Event) where
    abbrev on_level : List (List ℕ) → List Line
    on_level texts = map (line site.policy e e.level) texts

    -- ---- at a level that c dominates

    module _ (sees : below ls e.level c ≡ true) where
      texts_seen : (texts : List (List ℕ)) → out ls c (on_level texts) ≡ on_level texts
      texts_seen [] = refl
      texts_seen (t ∷ texts) =
          ap (λ b. cond b (line site.policy e e.level t ∷ out ls c (on_level texts)) (out ls c (on_level texts))) sees
          ∙ ap (λ l. line site.policy e e.level t ∷ l) (texts_seen texts)

      items_seen : (r : Reply) → out ls c (item_lines site.policy e r) ≡ item_lines site.policy e (reply_shown ls c r)
      items_seen (Ran run) = lines_seen ls c site.policy e run.emitted run.released
      items_seen r = refl

      with_seen : (r : Reply) (texts others : List (List ℕ)) → others ≡ texts → out ls c (lines_with site e texts r)
          ≡ lines_with site (glimpse site c e) others (reply_shown ls c r)
      with_seen r texts others same =
          filter-append (λ l. below ls l.label c) (on_level texts) (item_lines site.policy e r)
          ∙ (λ i. texts_seen texts i ++ items_seen r i) ∙ ap (λ t. on_level t ++ item_lines site.policy e
          (reply_shown ls c r)) (sym same)

      pub seen_in : (r : Reply) (form : Form) → out ls c (reply_lines_in form site e r) ≡ reply_lines_in form site
          (glimpse site c e) (reply_shown ls c r)
      seen_in r Lines = with_seen r (reply_texts site e.session e.command r) (reply_texts site e.session
          (shown site c e.command) (reply_shown ls c r)) (same_texts e.session e.command r)
      seen_in r Table =
          filter-map (λ l. below ls l.label c) escaped_line
          (lines_with site e (texts_in_table site e.session e.command r) r)
          ∙ ap (map escaped_line)
          (with_seen r (texts_in_table site e.session e.command r) (texts_in_table site e.session
          (shown site c e.command) (reply_shown ls c r)) (same_in_table e.session e.command r))

    -- ---- at another

    module _ (hidden : below ls e.level c ≡ false) (r : Reply) (silent : out ls c (reply_lines site e r) ≡ []) where
      items_hidden : out ls c (item_lines site.policy e r) ≡ []
      items_hidden =
          let texts = reply_texts site e.session e.command r in
          ap (λ l. l ++ out ls c (item_lines site.policy e r))
          (sym (hidden_lines ls c site.policy e e.level hidden texts))
          ∙ sym (filter-append (λ l. below ls l.label c) (on_level texts) (item_lines site.policy e r)) ∙ silent

      with_hidden : (texts : List (List ℕ)) → out ls c (lines_with site e texts r) ≡ []
      with_hidden texts =
          filter-append (λ l. below ls l.label c) (on_level texts) (item_lines site.policy e r)
          ∙ (λ i. hidden_lines ls c site.policy e e.level hidden texts i ++ items_hidden i)

      pub hidden_in : (form : Form) → out ls c (reply_lines_in form site e r) ≡ []
      hidden_in Lines = silent
      hidden_in Table =
          filter-map (λ l. below ls l.label c) escaped_line
          (lines_with site e (texts_in_table site e.session e.command r) r) ∙ ap (map escaped_line)
          (with_hidden (texts_in_table site e.session e.command r))
