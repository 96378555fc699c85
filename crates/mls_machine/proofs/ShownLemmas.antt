-- What a reader may see of the lines of a reply.
use Rattle.std.proofs.Common.{◌≡◌, ℕ, Bool, true, false, cond, List, [], ◌∷◌, ◌++◌, map, codes, Some, refl, sym, ap, ◌∙◌, subst, append-nil, append_assoc, flat_map}
use Rattle.mls_lattice.specs.Labels.{Labels, below}
use Rattle.mls_certcheck.specs.declared.run.Run.{Run}
use Rattle.mls_certcheck.specs.Meaning.{Item}
use Rattle.mls_translang.specs.declared.event.Event.{Event}
use Rattle.mls_machine.specs.declared.reply.Reply.{Reply}
use Rattle.mls_machine.specs.declared.reply.Reply.TheVariants.{Opened, Closed, Rows, Dumped, Wrote, Ran, Entries, Did, Undone, Denied}
use Rattle.mls_certcheck.specs.Site.{Site, site_labels}
use Rattle.mls_machine.specs.Output.{Line, line, item_line, call_texts, reply_texts, reply_lines, printed}
use Rattle.mls_machine.specs.Observation.{out}
use Rattle.mls_machine.proofs.LineLemmas.{printed-append}
use Rattle.mls_machine.specs.Seen.{seen_item}

module _ (site : Site) (e : Event) (c : ℕ) where
  abbrev ls : Labels
  ls = site_labels site

  abbrev on_level : List (List ℕ) → List Line
  on_level texts = map (line site.policy e e.level) texts

  -- ---- lines at the level of the session: all of them, or none

  pub texts_seen : (b : Bool) → below ls e.level c ≡ b → (texts : List (List ℕ)) → out ls c (on_level texts)
      ≡ cond b (on_level texts) []
  texts_seen true h [] = refl
  texts_seen false h [] = refl
  texts_seen true h (t ∷ texts) =
      ap (λ b. cond b (line site.policy e e.level t ∷ out ls c (on_level texts)) (out ls c (on_level texts))) h
      ∙ ap (λ l. line site.policy e e.level t ∷ l) (texts_seen true h texts)
  texts_seen false h (t ∷ texts) =
      ap (λ b. cond b (line site.policy e e.level t ∷ out ls c (on_level texts)) (out ls c (on_level texts))) h
      ∙ texts_seen false h texts

  all_or_none : (b : Bool) → below ls e.level c ≡ b → (texts : List (List ℕ)) → out ls c (on_level texts ++ [])
      ≡ cond b (on_level texts ++ []) []
  all_or_none b h texts = subst (λ lines. out ls c lines ≡ cond b lines []) (sym (append-nil (on_level texts)))
      (texts_seen b h texts)

  -- a reply without items
  plain_lines : (b : Bool) → below ls e.level c ≡ b → (r : Reply) → ((run : Run) → r ≡ Ran run → ⊥)
      → out ls c (reply_lines site e r) ≡ cond b (reply_lines site e r) []
  plain_lines b h (Opened user) other = all_or_none b h (reply_texts site e.session e.command (Opened user))
  plain_lines b h Closed other = all_or_none b h (reply_texts site e.session e.command Closed)
  plain_lines b h (Rows tuples) other = all_or_none b h (reply_texts site e.session e.command (Rows tuples))
  plain_lines b h (Dumped tuples) other = all_or_none b h (reply_texts site e.session e.command (Dumped tuples))
  plain_lines b h (Wrote o) other = all_or_none b h (reply_texts site e.session e.command (Wrote o))
  plain_lines b h (Ran run) other = absurd (other run refl)
  plain_lines b h (Entries es) other = all_or_none b h (reply_texts site e.session e.command (Entries es))
  plain_lines b h (Did given) other = all_or_none b h (reply_texts site e.session e.command (Did given))
  plain_lines b h (Undone number o) other = all_or_none b h (reply_texts site e.session e.command (Undone number o))
  plain_lines b h (Denied d) other = all_or_none b h (reply_texts site e.session e.command (Denied d))

  pub plain_seen : (b : Bool) → below ls e.level c ≡ b → (r : Reply) → ((run : Run) → r ≡ Ran run → ⊥)
      → printed (cond b (reply_lines site e r) []) ≡ printed (out ls c (reply_lines site e r))
  plain_seen b h r other = sym (ap printed (plain_lines b h r other))

  -- ---- items, each by its own label

  abbrev seen : List ℕ → Item → List ℕ
  seen deed = seen_item site.policy e c deed

  items_seen : (deed : List ℕ) (items : List Item) → printed (out ls c (map (item_line site.policy e deed) items))
      ≡ flat_map (seen deed) items
  unfolding seen_item
  items_seen deed [] = refl
  items_seen deed (i ∷ items) =
      printed-append ls (Some c) (item_line site.policy e deed i ∷ []) (map (item_line site.policy e deed) items)
      ∙ ap (λ l. seen deed i ++ l) (items_seen deed items)

  -- the call, what it emitted, and what it released
  pub run_seen : (r : Reply) (run : Run) → r ≡ Ran run
      → printed (out ls c (on_level (call_texts e.command))) ++ flat_map (seen (codes "emit ")) run.emitted
      ++ flat_map (seen (codes "release ")) run.released
      ≡ printed (out ls c (reply_lines site e r))
  run_seen r run is =
      let first = on_level (call_texts e.command) in
      let second = map (item_line site.policy e (codes "emit ")) run.emitted in
      let third = map (item_line site.policy e (codes "release ")) run.released in
      sym (ap (λ x. printed (out ls c (reply_lines site e x))) is
      ∙ printed-append ls (Some c) first (second ++ third) ∙ ap (λ l. printed (out ls c first) ++ l)
      (printed-append ls (Some c) second third)
      ∙ (λ i. printed (out ls c first) ++ (items_seen (codes "emit ") run.emitted i ++ items_seen
      (codes "release ") run.released i))
      ∙ sym (append_assoc (printed (out ls c first)) (flat_map (seen (codes "emit ")) run.emitted)
      (flat_map (seen (codes "release ")) run.released)))
