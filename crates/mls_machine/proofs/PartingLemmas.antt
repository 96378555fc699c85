-- No line feed stands in a line, and parted at them the output is its lines.
use Rattle.std.proofs.Common.{◌≡◌, ℕ, Bool, true, false, cond, List, [], ◌∷◌, ◌++◌, map, Option, Some, None, refl, ap, ◌∙◌, append_assoc, arith, codes, length, filter, All, decimal}
use Rattle.std.specs.List.{AllByRecursion, slice_split}
use Rattle.std.proofs.lemmas.List.Folds.{list_any-append}
use Rattle.std.proofs.lemmas.List.Elements.{All-cons}
use Rattle.std.proofs.lemmas.List.Splits.{slice_split_at}
use Rattle.mls_lattice.proofs.EachLemmas.{all_front, all_back, all, all_if, all_append, all_map}
use Rattle.mls_tokens.specs.Writing.{printable}
use Rattle.mls_lattice.specs.Policy.{Name}
use Rattle.mls_lattice.specs.Name.{is_name}
use Rattle.mls_lattice.specs.Canon.{label_name, user_name}
use Rattle.mls_scheme.specs.Scheme.{Scheme, IsScheme, scheme_of}
use Rattle.mls_scheme.specs.declared.tuple.Tuple.{Tuple}
use Rattle.mls_updates.specs.declared.outcome.Outcome.{Outcome}
use Rattle.mls_updates.specs.declared.outcome.Outcome.TheVariants as outcomes
use Rattle.mls_updates.specs.Outcome.{is_done, code_of as outcome_code, word_of as outcome_word}
use Rattle.mls_audit.specs.Entry.{label_of}
use Rattle.mls_certcheck.specs.Meaning.{Item}
use Rattle.mls_translang.specs.declared.event.Event.{Event}
use Rattle.mls_translang.specs.declared.event.Command.{Command}
use Rattle.mls_translang.specs.declared.event.Command.TheVariants as commands
use Rattle.mls_translang.specs.declared.event.One.{One}
use Rattle.mls_machine.specs.declared.form.Form.{Form}
use Rattle.mls_machine.specs.declared.form.Form.TheVariants.{Lines, Table}
use Rattle.mls_machine.specs.declared.reply.Denial.{Denial}
use Rattle.mls_machine.specs.declared.reply.Denial.TheVariants as denials
use Rattle.mls_machine.specs.declared.reply.Reply.{Reply}
use Rattle.mls_machine.specs.declared.reply.Reply.TheVariants.{Opened, Closed, Rows, Dumped, Wrote, Ran, Entries, Did, Undone, Denied}
use Rattle.mls_machine.specs.declared.reply.Answer.{Answer}
use Rattle.mls_machine.specs.declared.reply.Answer.TheVariants as answers
use Rattle.mls_certcheck.specs.Site.{Site, site_labels}
use Rattle.mls_machine.specs.Reply.{code_of, word_of}
use Rattle.mls_machine.specs.Dumping.{dump_event}
use Rattle.mls_machine.specs.Machine.{World, step}
use Rattle.mls_translang.specs.Writing.{cell_text}
use Rattle.mls_machine.specs.Output.{Line, row_text, entry_text, outcome_text, denial_text, view_texts, table_texts, rows_texts, table_widths, script_text, dump_texts, undone_text, looks_as, answer_texts, answers_texts, batch_texts, call_texts, reply_texts, texts_in_table, front, line, item_line, item_lines, lines_with, escaped_line, reply_lines_in, run_lines, printed}
use Rattle.mls_machine.specs.Observation.{heard, out}
use Rattle.mls_machine.specs.Turning.{turn_line}
use Rattle.mls_machine.specs.Parting.{is_line_feed, IsOneLine, HasPlainNames, IsPlain, PoliciesArePlain, RepliesAreLines, RunsAreLines, TurningsAreLines, RunsPartIntoLines}
use Rattle.mls_machine.proofs.OneLineLemmas.{one_line-append, one_line-at, one_line-printable, one_line-decimal, one_line-escaped, one_line-name, first_of, second_of}
use Rattle.mls_machine.proofs.DumpLineLemmas.{dump_line, made_line}
use Rattle.mls_machine.proofs.RowLineLemmas.{cell_line, scheme_line, label_line, row_line, heading_line, count_line, table_lines, entry_line}

-- ---- outcomes and denials

coded_line : (deed word : List ℕ) (n : ℕ) → IsOneLine deed → IsOneLine word → IsOneLine (deed ++ decimal n ++ codes " "
    ++ word)
coded_line deed word n h k = simp (list_any-append, h, one_line-decimal n, k)

outcome_word_line : (o : Outcome) → IsOneLine (outcome_word o)
outcome_word_line outcomes.Done = refl
outcome_word_line _ = refl

outcome_line : (o : Outcome) → IsOneLine (outcome_text o)
outcome_line o =
    elim (is_done o) as (λ b. IsOneLine (cond b (codes "done") (codes "refused " ++ decimal (outcome_code o)
    ++ codes " " ++ outcome_word o))) [
      | true ↦ refl
      | false ↦ coded_line (codes "refused ") (outcome_word o) (outcome_code o) refl (outcome_word_line o)
    ]

undone_line : (number : ℕ) (o : Outcome) → IsOneLine (undone_text number o)
undone_line number o =
    one_line-append (outcome_text o ++ codes " at ") (decimal number)
    (one_line-append (outcome_text o) (codes " at ") (outcome_line o) refl) (one_line-decimal number)

denial_word_line : (d : Denial) → IsOneLine (word_of d)
denial_word_line denials.NoSession = refl
denial_word_line _ = refl

denial_line : (d : Denial) → IsOneLine (denial_text d)
denial_line d = coded_line (codes "denied ") (word_of d) (code_of d) refl (denial_word_line d)

-- ---- replies

-- no line feed in the text of a line
abbrev Whole : Line → Type 0
Whole l = IsOneLine l.text

module _ (site : Site) (plain : IsPlain site) where
  view_lines : (command : Command) (tuples : List Tuple) → AllByRecursion IsOneLine (view_texts site command tuples)
  view_lines (commands.View relation label query true) tuples = (
    count_line site.policy plain.labels (scheme_of site.schemes relation) label query (length tuples)
        (scheme_line site.schemes relation plain.relations),
    tt,
  )
  view_lines (commands.View relation label query false) tuples = (
    heading_line site.policy plain.labels (scheme_of site.schemes relation) label query
        (scheme_line site.schemes relation plain.relations),
    all_map IsOneLine (row_text site.policy) tuples (all (λ t. IsOneLine (row_text site.policy t))
        (row_line site.policy plain.labels) tuples),
  )
  view_lines _ tuples = tt

  in_table : (command : Command) (tuples : List Tuple) → AllByRecursion IsOneLine (table_texts site command tuples)
  in_table (commands.View relation label query true) tuples =
      view_lines (commands.View relation label query true) tuples
  in_table (commands.View relation label query false) tuples =
      let s = scheme_of site.schemes relation in
      table_lines site.policy plain.labels s label query (table_widths site.policy s tuples) tuples
      (scheme_line site.schemes relation plain.relations)
  in_table _ tuples = tt

  rows_lines : (form : Form) (command : Command) (tuples : List Tuple)
      → AllByRecursion IsOneLine (rows_texts form site command tuples)
  rows_lines Lines command tuples = view_lines command tuples
  rows_lines Table command tuples = in_table command tuples

  answer_lines : (form : Form) (one : One) (a : Answer) → AllByRecursion IsOneLine (answer_texts form site one a)
  answer_lines form one (answers.Rows tuples) = rows_lines form (looks_as one) tuples
  answer_lines form one (answers.Became o) = (outcome_line o, tt)

  answers_lines : (form : Form) (batch : List One) (given : List Answer)
      → AllByRecursion IsOneLine (answers_texts form site batch given)
  answers_lines form [] given = tt
  answers_lines form (one ∷ batch) [] = tt
  answers_lines form (one ∷ batch) (a ∷ given) =
      all_append IsOneLine (answer_texts form site one a) (answers_texts form site batch given)
      (answer_lines form one a) (answers_lines form batch given)

  batch_lines : (form : Form) (command : Command) (given : List Answer)
      → AllByRecursion IsOneLine (batch_texts form site command given)
  batch_lines form (commands.All batch) given = answers_lines form batch given
  batch_lines form _ given = tt

  call_lines : (command : Command) → AllByRecursion IsOneLine (call_texts command)
  call_lines (commands.Call name args) = (
    one_line-append (codes "called ") (printable name) refl
        (one_line-printable name),
    tt,
  )
  call_lines _ = tt

  dump_lines : (session : Name) → IsOneLine session → (command : Command) (tuples : List Tuple)
      → AllByRecursion IsOneLine (dump_texts site session command tuples)
  dump_lines session h (commands.Dump relation) tuples = (
    dump_line (scheme_of site.schemes relation) (scheme_line site.schemes relation plain.relations),
    all_map IsOneLine (λ t. script_text site (dump_event site session relation t)) tuples
        (all (λ t. IsOneLine (script_text site (dump_event site session relation t)))
        (λ t. made_line site plain session h relation t) tuples),
  )
  dump_lines session h _ tuples = tt

  opened_line : (user : ℕ) → IsOneLine (codes "opened " ++ user_name site.policy.users user)
  opened_line user = one_line-append (codes "opened ") (user_name site.policy.users user) refl
      (one_line-at (λ u. u.name) site.policy.users user plain.users)

  reply_text_lines : (session : Name) (command : Command) (r : Reply)
      → AllByRecursion IsOneLine (reply_texts site session command r)
  reply_text_lines session command (Opened user) = (opened_line user, tt)
  reply_text_lines session command Closed = (refl, tt)
  reply_text_lines session command (Rows tuples) = view_lines command tuples
  reply_text_lines session command (Dumped tuples) = dump_lines (printable session)
      (one_line-printable session) command tuples
  reply_text_lines session command (Wrote o) = (outcome_line o, tt)
  reply_text_lines session command (Ran run) = call_lines command
  reply_text_lines session command (Entries es) = (
    refl,
    all_map IsOneLine (entry_text site.policy) es
        (all (λ e. IsOneLine (entry_text site.policy e)) (entry_line site.policy plain.labels) es),
  )
  reply_text_lines session command (Did given) = batch_lines Lines command given
  reply_text_lines session command (Undone number o) = (undone_line number o, tt)
  reply_text_lines session command (Denied d) = (denial_line d, tt)

  table_text_lines : (session : Name) (command : Command) (r : Reply)
      → AllByRecursion IsOneLine (texts_in_table site session command r)
  table_text_lines session command (Opened user) = (opened_line user, tt)
  table_text_lines session command Closed = (refl, tt)
  table_text_lines session command (Rows tuples) = in_table command tuples
  table_text_lines session command (Dumped tuples) = dump_lines (printable session)
      (one_line-printable session) command tuples
  table_text_lines session command (Wrote o) = (outcome_line o, tt)
  table_text_lines session command (Ran run) = call_lines command
  table_text_lines session command (Entries es) = reply_text_lines session command (Entries es)
  table_text_lines session command (Did given) = batch_lines Table command given
  table_text_lines session command (Undone number o) = (undone_line number o, tt)
  table_text_lines session command (Denied d) = (denial_line d, tt)

  -- ---- lines

  front_line : (e : Event) (label : ℕ) → IsOneLine (front site.policy e label)
  front_line e label =
      simp (
        list_any-append,
        label_line site.policy plain.labels label,
        label_line site.policy plain.labels e.level,
        one_line-printable e.session,
      )

  whole_line : (e : Event) (label : ℕ) (text : List ℕ) → IsOneLine text → Whole (line site.policy e label text)
  whole_line e label text h = one_line-append (front site.policy e label) text (front_line e label) h

  whole_item : (e : Event) (deed : List ℕ) (item : Item) → IsOneLine deed → Whole (item_line site.policy e deed item)
  whole_item e deed item h = whole_line e item.0 (deed ++ cell_text item.1) (one_line-append deed (cell_text item.1) h
      (cell_line item.1))

  whole_map : (e : Event) (deed : List ℕ) → IsOneLine deed → (items : List Item)
      → AllByRecursion Whole (map (item_line site.policy e deed) items)
  whole_map e deed h items = all_map Whole (item_line site.policy e deed) items
      (all (λ i. Whole (item_line site.policy e deed i)) (λ i. whole_item e deed i h) items)

  whole_items : (e : Event) (r : Reply) → AllByRecursion Whole (item_lines site.policy e r)
  whole_items e (Ran run) =
      all_append Whole (map (item_line site.policy e (codes "emit ")) run.emitted)
      (map (item_line site.policy e (codes "release ")) run.released)
      (whole_map e (codes "emit ") refl run.emitted) (whole_map e (codes "release ") refl run.released)
  whole_items e _ = tt

  whole_lines : (e : Event) (texts : List (List ℕ)) (r : Reply) → AllByRecursion IsOneLine texts
      → AllByRecursion Whole (lines_with site e texts r)
  whole_lines e texts r h =
      all_append Whole (map (line site.policy e e.level) texts) (item_lines site.policy e r)
      (all_map Whole (line site.policy e e.level) texts (all_if IsOneLine (λ t. Whole (line site.policy e e.level t))
      (λ t k. whole_line e e.level t k) texts h))
      (whole_items e r)

  whole_reply : (form : Form) (e : Event) (r : Reply) → AllByRecursion Whole (reply_lines_in form site e r)
  whole_reply Lines e r = whole_lines e (reply_texts site e.session e.command r) r
      (reply_text_lines e.session e.command r)
  whole_reply Table e r =
      let lines = lines_with site e (texts_in_table site e.session e.command r) r in
      all_map Whole escaped_line lines (all_if Whole (λ l. Whole (escaped_line l))
      (λ l k. one_line-escaped l.text k) lines (whole_lines e (texts_in_table site e.session e.command r) r
      (table_text_lines e.session e.command r)))

  whole_run : (form : Form) (w : World) (es : List Event) → AllByRecursion Whole (run_lines form site w es)
  unfolding run_lines
  whole_run form w [] = tt
  whole_run form w (e ∷ es) =
      let s = step site w e in
      all_append Whole (reply_lines_in form site e s.reply) (run_lines form site s.world es)
      (whole_reply form e s.reply) (whole_run form s.world es)

pub turnings_whole : TurningsAreLines
turnings_whole site plain entries =
    let p = site.policy in
    all_map Whole (turn_line p) entries
    (all (λ e. Whole (turn_line p e))
    (λ e. one_line-append (label_name p.labels (label_of e) ++ codes " ") (entry_text p e)
    (one_line-append (label_name p.labels (label_of e)) (codes " ") (label_line p plain.labels (label_of e)) refl)
    (entry_line p plain.labels e))
    entries)

-- ---- parted again

no_feed : (xs : List ℕ) → IsOneLine xs → All (λ b. is_line_feed b ≡ false) xs
no_feed [] h = λ k d l. absurd (omega arith)
no_feed (x ∷ xs) h = All-cons (λ b. is_line_feed b ≡ false) x xs (first_of (is_line_feed x) _ h)
    (no_feed xs (second_of (is_line_feed x) _ h))

parted : (lines : List Line) → AllByRecursion Whole lines → slice_split is_line_feed (printed lines)
    ≡ map (λ l. l.text) lines ++ [] ∷ []
parted [] h = refl
parted (l ∷ lines) h =
    ap (slice_split is_line_feed) (append_assoc l.text (codes "\n") (printed lines))
    ∙ slice_split_at is_line_feed l.text 10 (printed lines) (no_feed l.text h.0) refl
    ∙ ap (λ ts. l.text ∷ ts) (parted lines h.1)

-- what is left of lines
whole_filter : (p : Line → Bool) (lines : List Line) → AllByRecursion Whole lines
    → AllByRecursion Whole (filter p lines)
whole_filter p [] h = tt
whole_filter p (l ∷ lines) h =
    elim (p l) as (λ b. AllByRecursion Whole (cond b (l ∷ filter p lines) (filter p lines))) [
      | true ↦ (h.0, whole_filter p lines h.1)
      | false ↦ whole_filter p lines h.1
    ]

-- ---- names

names_from_map : {A : Type 0} (f : A → Name) (xs : List A) → AllByRecursion (λ name. is_name name ≡ true) (map f xs)
    → AllByRecursion (λ x. IsOneLine (f x)) xs
names_from_map f [] h = tt
names_from_map f (x ∷ xs) h = (one_line-name (f x) h.0, names_from_map f xs h.1)

plain_scheme : (s : Scheme) → IsScheme s → HasPlainNames s
plain_scheme s h =
    let names = names_from_map (λ a. a.0) (s.keys ++ s.others) h.names in
    record {
      name = one_line-name s.name h.named;
      keys = all_front _ s.keys s.others names;
      others =
          all_back _ s.keys s.others names;
    }

-- ---- the laws

pub policies_plain : PoliciesArePlain
policies_plain site policy schemes = record {
  labels = names_from_map (λ l. l.name) site.policy.labels policy.label_names;
  users = names_from_map (λ u. u.name) site.policy.users policy.user_names;
  relations = all_if IsScheme HasPlainNames plain_scheme site.schemes schemes.each;
}

pub replies_whole : RepliesAreLines
replies_whole site plain form e r = whole_reply site plain form e r

pub runs_whole : RunsAreLines
runs_whole site plain form w es = whole_run site plain form w es

pub runs_part : RunsPartIntoLines
runs_part site plain audience w es = parts audience.reader
  where
    parts : (reader : Option ℕ) → slice_split is_line_feed
        (printed (heard (site_labels site) reader (run_lines audience.form site w es))) ≡ map (λ l. l.text)
        (heard (site_labels site) reader (run_lines audience.form site w es)) ++ [] ∷ []
    parts None = parted (run_lines audience.form site w es) (whole_run site plain audience.form w es)
    parts (Some c) = parted (out (site_labels site) c (run_lines audience.form site w es))
        (whole_filter _ (run_lines audience.form site w es) (whole_run site plain audience.form w es))
