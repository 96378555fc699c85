-- What is printed: the name of a label by its value, and the lines of replies.
use Rattle.std.proofs.Common.{◌≡◌, ◌+◌, ℕ, ◌<◌, ◌≤◌, ◌⊎◌, inl, inr, Bool, true, false, List, [], ◌∷◌, length, drop, get_or, refl, sym, ap, ◌∙◌, add-one, drop-cons, Some, None, ◌++◌, take, codes, append-nil, append_assoc, flat_map, map, slice_get, option_map, Result, Ok, Err, OnOk}
use Rattle.std.proofs.lemmas.List.{get_or-map, flat_map_more, take_more, drop_more, drop_all}
use Rattle.std.proofs.lemmas.Option.{slice_get-get_or}
use Rattle.mls_lattice.specs.Lattice.{Pair, same_pair, bottom}
use Rattle.mls_lattice.specs.Labels.{label_of}
use Rattle.mls_lattice.specs.Name.{is_name}
use Rattle.mls_lattice.specs.Policy.{Name, Named, Policy}
use Rattle.mls_lattice.specs.Canon.{label_name}
use Rattle.mls_scheme.specs.Scheme.{Attribute, Scheme, Schemes, column_of}
use Rattle.mls_scheme.proofs.CanonLemmas.{lines_more}
use Rattle.std.proofs.lemmas.List.Folds.{flat_map-map}
use Rattle.std.proofs.lemmas.Grind.{flat_map-append}
use Rattle.mls_tokens.specs.Writing.{printable}
use Rattle.mls_scheme.specs.declared.tuple.Tuple.{Tuple}
use Rattle.mls_audit.specs.declared.entry.Entry.{Entry}
use Rattle.mls_certcheck.specs.declared.run.Run.{Run}
use Rattle.mls_certcheck.specs.Meaning.{Item}
use Rattle.mls_translang.specs.declared.query.Query.{Query}
use Rattle.mls_translang.specs.declared.event.Event.{Event}
use Rattle.mls_translang.specs.declared.event.Command.{Command}
use Rattle.mls_translang.specs.declared.event.Command.TheVariants as commands
use Rattle.mls_translang.specs.declared.event.One.{One}
use Rattle.mls_updates.specs.declared.outcome.Outcome.{Outcome}
use Rattle.mls_machine.specs.declared.form.Form.{Form}
use Rattle.mls_machine.specs.declared.form.Form.TheVariants.{Lines, Table}
use Rattle.mls_machine.specs.declared.reply.Reply.{Reply}
use Rattle.mls_machine.specs.declared.reply.Answer.{Answer}
use Rattle.mls_machine.specs.declared.reply.Answer.TheVariants as answers
use Rattle.mls_machine.specs.declared.reply.Reply.TheVariants.{Rows, Dumped, Ran, Entries, Did}
use Rattle.mls_certcheck.specs.declared.stored.Stored.{Stored}
use Rattle.mls_certcheck.specs.Site.{Site, site_scheme}
use Rattle.mls_machine.specs.Dumping.{dump_event}
use Rattle.mls_translang.specs.Writing.{cell_text}
use Rattle.mls_machine.specs.Output.{Line, name_of, front, line, item_line, heading, count_text, row_text, entry_text, view_texts, rows_texts, dump_heading, script_text, dump_texts, outcome_text, looks_as, answer_texts, answers_texts, batch_texts, call_texts, reply_texts, reply_lines, reply_lines_in, lines_with, escaped_line, table_texts, texts_in_table, printed}
use Rattle.mls_machine.specs.Under.{site_under}
use Rattle.mls_machine.proofs.DumpLemmas.{printable_name}

abbrev no_label : Named
no_label = record { name = []; value = bottom }

module _ (ls : List Named) (n : ℕ) (p v : Pair) (within : n < length ls) (is : v
    ≡ label_of (map (λ l. l.value) ls) n) where
  value_at : v ≡ (get_or ls n no_label).value
  value_at = is ∙ get_or-map (λ (l : Named). l.value) ls n no_label bottom within

  here : name_of (drop n ls) p ≡ name_of (get_or ls n no_label ∷ drop (n + 1) ls) p
  here =
      let split : drop n ls ≡ get_or ls n no_label ∷ drop (n + 1) ls =
      rw (add-one n, drop-cons ls n no_label within) refl in
      ap (λ (xs : List Named). name_of xs p) split

  pub name_of-found : same_pair v p ≡ true → name_of (drop n ls) p ≡ label_name ls n
  name_of-found h = here ∙ rw (← value_at, h, slice_get-get_or ls n no_label within) refl

  pub name_of-next : same_pair v p ≡ false → name_of (drop (n + 1) ls) p ≡ name_of (drop n ls) p
  name_of-next h = sym (here ∙ rw (← value_at, h) refl)

pub ruleset naming = (name_of-found, name_of-next)

-- one attribute more
pub names_more : (attributes : List Attribute) (k : ℕ) (name : Name) (start : List ℕ)
    → option_map (λ a. a.0) (slice_get attributes k) ≡ Some name
    → (start ++ flat_map (λ a. codes " " ++ a.0) (take k attributes)) ++ (codes " " ++ name) ≡ start
    ++ flat_map (λ a. codes " " ++ a.0) (take (k + 1) attributes)
names_more attributes k name start h =
    let Goal : Type 0 = (start ++ flat_map (λ a. codes " " ++ a.0) (take k attributes)) ++ (codes " " ++ name) ≡ start
    ++ flat_map (λ a. codes " " ++ a.0) (take (k + 1) attributes) in
    elim (slice_get attributes k) as (λ o. slice_get attributes k ≡ o → option_map (λ a. a.0) o ≡ Some name → Goal) [
      | None ↦ λ e g. absurd cc
      | Some a ↦ λ e g. lines_more (λ (x : Attribute). codes " " ++ x.0) attributes k name (column_of a) start h
          (ap (option_map column_of) e)
    ] refl h

-- ---- lines

-- the parts of the line of an item
pub line_parts : (start f row end : List ℕ) → ((start ++ f) ++ row) ++ end ≡ start ++ (f ++ row ++ end)
line_parts start f row end = ap (λ (x : List ℕ). x ++ end) (append_assoc start f row) ∙ append_assoc start
    (f ++ row) end

pub cell_parts : (start cell sign name end : List ℕ) → (((start ++ cell) ++ sign) ++ name) ++ end ≡ start
    ++ (cell ++ sign ++ name ++ end)
cell_parts start cell sign name end = ap (λ (x : List ℕ). (x ++ name) ++ end) (append_assoc start cell sign)
    ∙ line_parts start (cell ++ sign) name end

pub item_parts : (start f deed cell end : List ℕ) → (((start ++ f) ++ deed) ++ cell) ++ end ≡ start
    ++ (f ++ (deed ++ cell) ++ end)
item_parts start f deed cell end =
    ap (λ (x : List ℕ). x ++ end) (append_assoc (start ++ f) deed cell) ∙ line_parts start f (deed ++ cell) end

-- what is written for one thing more
pub one_more : {X : Type 0} (f : X → List ℕ) (xs : List X) (k : ℕ) (x d : X) (start old new : List ℕ) → k < length xs
    → x ≡ get_or xs k d
    → old ≡ start ++ flat_map f (take k xs) → new ≡ old ++ f x → new ≡ start ++ flat_map f (take (k + 1) xs)
one_more f xs k x d start old new within is before after =
    after ∙ ap (λ (t : List ℕ). t ++ f x) before ∙ flat_map_more f start (take k xs) x
    ∙ ap (λ ys. start ++ flat_map f ys) (sym (take_more xs k d within ∙ ap (λ y. take k xs ++ y ∷ []) (sym is)))

module _ (site : Site) (e : Event) where
  abbrev start : List ℕ
  start = front site.policy e e.level

  abbrev on_line : List ℕ → List ℕ
  on_line t = start ++ t ++ codes "\n"

  rows_lines : (relation label : ℕ) (query : Query) (tuples : List Tuple)
      → on_line (heading site.policy (site_scheme site relation) label query)
      ++ flat_map (λ t. on_line (row_text site.policy t)) tuples
      ≡ flat_map on_line (view_texts site (commands.View relation label query false) tuples)
  rows_lines relation label query tuples =
      ap (λ l. on_line (heading site.policy (site_scheme site relation) label query) ++ l)
      (sym (flat_map-map on_line (row_text site.policy) tuples))

  module _ (relation label : ℕ) (query : Query) (counts : Bool) (tuples : List Tuple)
      (scheme : Scheme) (same : scheme ≡ site_scheme site relation) (old new : List ℕ) where
    abbrev view : Command
    view = commands.View relation label query counts

    pub answered : (form : Form) (b : Bool) → counts ≡ b
        → flat_map on_line (rows_texts form site (commands.View relation label query b) tuples) ≡ flat_map on_line
        (rows_texts form site view tuples)
    answered form b h = sym (ap (λ c. flat_map on_line
        (rows_texts form site (commands.View relation label query c) tuples)) h)

    counted : (form : Form) → rows_texts form site (commands.View relation label query true) tuples
        ≡ count_text site.policy (site_scheme site relation) label query (length tuples) ∷ []
    counted Lines = refl
    counted Table = refl

    -- after a heading of the scheme of the relation
    pub rows_more : (form : Form) → form ≡ Lines → counts ≡ false → {A F : Type 0} (r : Result A F)
        → OnOk r (new ≡ old ++ (on_line (heading site.policy scheme label query)
        ++ flat_map (λ t. on_line (row_text site.policy t)) tuples))
        → OnOk r (new ≡ old ++ flat_map on_line (rows_texts form site view tuples))
    rows_more form in_lines not_counted (Ok x) h =
        h ∙ ap (λ s. old ++ (on_line (heading site.policy s label query)
        ++ flat_map (λ t. on_line (row_text site.policy t)) tuples)) same
        ∙ ap (λ l. old ++ l) (rows_lines relation label query tuples ∙ answered Lines false not_counted
        ∙ ap (λ f. flat_map on_line (rows_texts f site view tuples)) (sym in_lines))
    rows_more form in_lines not_counted (Err f) h = h

    -- their number alone
    pub count_more : (form : Form) → counts ≡ true → (n : ℕ) → n ≡ length tuples → {A F : Type 0} (r : Result A F)
        → OnOk r (new ≡ old ++ on_line (count_text site.policy scheme label query n))
        → OnOk r (new ≡ old ++ flat_map on_line (rows_texts form site view tuples))
    count_more form counts_them n all (Ok x) h =
        h ∙ (λ i. old ++ on_line (count_text site.policy (same i) label query (all i)))
        ∙ ap (λ l. old ++ l) (sym (append-nil (on_line (count_text site.policy (site_scheme site relation) label query
        (length tuples))))
        ∙ ap (flat_map on_line) (sym (counted form)) ∙ answered form true counts_them)
    count_more form counts_them n all (Err f) h = h

  printed_lines : (texts : List (List ℕ)) → printed (map (line site.policy e e.level) texts) ≡ flat_map on_line texts
  printed_lines texts = flat_map-map (λ (l : Line). l.text ++ codes "\n") (line site.policy e e.level) texts

  -- a reply without items
  only_texts : (texts : List (List ℕ)) → printed (map (line site.policy e e.level) texts ++ []) ≡ flat_map on_line texts
  only_texts texts = ap printed (append-nil (map (line site.policy e e.level) texts)) ∙ printed_lines texts

  pub rows_printed : (r : Reply) (tuples : List Tuple) → r ≡ Rows tuples
      → flat_map on_line (view_texts site e.command tuples) ≡ printed (reply_lines site e r)
  rows_printed r tuples is = sym (ap (λ x. printed (reply_lines site e x)) is ∙ only_texts
      (view_texts site e.command tuples))

  -- ---- batches

  pub batch_printed : (r : Reply) (given : List Answer) → r ≡ Did given
      → flat_map on_line (batch_texts Lines site e.command given) ≡ printed (reply_lines site e r)
  batch_printed r given is = sym (ap (λ x. printed (reply_lines site e x)) is ∙ only_texts
      (batch_texts Lines site e.command given))

  -- what became of a command
  pub outcome_more : (form : Form) (one : One) (a : Answer) (o : Outcome) → a ≡ answers.Became o
      → (old new : List ℕ) → {A F : Type 0} (r : Result A F) → OnOk r (new ≡ old ++ on_line (outcome_text o))
      → OnOk r (new ≡ old ++ flat_map on_line (answer_texts form site one a))
  outcome_more form one a o is old new (Ok x) h =
      h ∙ ap (λ t. old ++ t) (sym (append-nil (on_line (outcome_text o)))
      ∙ ap (λ b. flat_map on_line (answer_texts form site one b)) (sym is))
  outcome_more form one a o is old new (Err f) h = h

  -- the answers to the commands that are left
  abbrev pub on_answers : Form → List One → List Answer → List ℕ
  on_answers form batch given = flat_map on_line (answers_texts form site batch given)

  pub answers_next : (form : Form) (one : One) (a : Answer) (batch : List One) (given : List Answer)
      → flat_map on_line (answer_texts form site one a) ++ on_answers form batch given ≡ on_answers form (one ∷ batch)
      (a ∷ given)
  answers_next form one a batch given = sym (flat_map-append on_line (answer_texts form site one a)
      (answers_texts form site batch given))

  -- after the last command, or the last answer
  no_answers : (form : Form) (batch : List One) → on_answers form batch [] ≡ []
  no_answers form [] = refl
  no_answers form (one ∷ batch) = refl

  module _ (form : Form) (batch : List One) (given : List Answer) (k : ℕ) (text whole : List ℕ)
      (so_far : text ++ on_answers form (drop k batch) (drop k given) ≡ whole) where
    pub answers_all : (length batch ≤ k) ⊎ (length given ≤ k) → text ≡ whole
    answers_all (inl past) =
        sym (append-nil text)
        ∙ ap (λ (xs : List One). text ++ on_answers form xs (drop k given)) (sym (drop_all k batch past)) ∙ so_far
    answers_all (inr past) =
        sym (append-nil text) ∙ ap (λ t. text ++ t) (sym (no_answers form (drop k batch)))
        ∙ ap (λ (xs : List Answer). text ++ on_answers form (drop k batch) xs) (sym (drop_all k given past)) ∙ so_far

    pub answers_more : (one : One) (a : Answer) → k < length batch → one ≡ get_or batch k one → k < length given
        → a ≡ get_or given k a → (new : List ℕ) → new ≡ text ++ flat_map on_line (answer_texts form site one a)
        → new ++ on_answers form (drop (k + 1) batch) (drop (k + 1) given) ≡ whole
    answers_more one a one_within one_is a_within a_is new pushed =
        let texts = flat_map on_line (answer_texts form site one a) in
        let rest = on_answers form (drop (k + 1) batch) (drop (k + 1) given) in
        let ones_next : one ∷ drop (k + 1) batch ≡ drop k batch
        = ap (λ x. x ∷ drop (k + 1) batch) one_is ∙ sym (drop_more batch k one one_within) in
        let answers_left : a ∷ drop (k + 1) given ≡ drop k given
        = ap (λ x. x ∷ drop (k + 1) given) a_is ∙ sym (drop_more given k a a_within) in
        ap (λ (t : List ℕ). t ++ rest) pushed ∙ append_assoc text texts rest
        ∙ ap (λ t. text ++ t) (answers_next form one a (drop (k + 1) batch) (drop (k + 1) given)
        ∙ (λ i. on_answers form (ones_next i) (answers_left i))) ∙ so_far

  -- ---- dumps

  -- after a heading
  dump_lines : (relation : ℕ) (tuples : List Tuple) → e.command ≡ commands.Dump relation
      → on_line (dump_heading (site_scheme site relation))
      ++ flat_map (λ t. on_line (script_text site (dump_event site e.session relation t))) tuples
      ≡ flat_map on_line (dump_texts site e.session e.command tuples)
  dump_lines relation tuples is =
      ap (λ l. on_line (dump_heading (site_scheme site relation)) ++ l)
      (sym (flat_map-map on_line (λ t. script_text site (dump_event site e.session relation t)) tuples))
      ∙ sym (ap (λ x. flat_map on_line (dump_texts site e.session x tuples)) is)

  pub dump_more : (relation : ℕ) (tuples : List Tuple) → e.command ≡ commands.Dump relation → (old new : List ℕ)
      → {A F : Type 0} (r : Result A F)
      → OnOk r (new ≡ old ++ (on_line (dump_heading (site_scheme site relation))
      ++ flat_map (λ t. on_line (script_text site (dump_event site e.session relation t))) tuples))
      → OnOk r (new ≡ old ++ flat_map on_line (dump_texts site e.session e.command tuples))
  dump_more relation tuples is old new (Ok x) h = h ∙ ap (λ l. old ++ l) (dump_lines relation tuples is)
  dump_more relation tuples is old new (Err f) h = h

  pub dump_printed : is_name e.session ≡ true → (r : Reply) (tuples : List Tuple) → r ≡ Dumped tuples
      → flat_map on_line (dump_texts site e.session e.command tuples) ≡ printed (reply_lines site e r)
  dump_printed named r tuples is =
      ap (λ session. flat_map on_line (dump_texts site session e.command tuples)) (sym (printable_name e.session named))
      ∙ sym (ap (λ x. printed (reply_lines site e x)) is ∙ only_texts
      (dump_texts site (printable e.session) e.command tuples))

  pub entries_printed : (r : Reply) (es : List Entry) → r ≡ Entries es
      → on_line (codes "audit") ++ flat_map (λ x. on_line (entry_text site.policy x)) es
      ≡ printed (reply_lines site e r)
  entries_printed r es is =
      sym (ap (λ x. printed (reply_lines site e x)) is ∙ only_texts (codes "audit" ∷ map (entry_text site.policy) es)
      ∙ ap (λ l. on_line (codes "audit") ++ l) (flat_map-map on_line (entry_text site.policy) es))

  -- ---- the lines of a call and of items

  abbrev on_item_line : List ℕ → Item → List ℕ
  on_item_line deed i = front site.policy e i.0 ++ (deed ++ cell_text i.1) ++ codes "\n"

  printed_items : (deed : List ℕ) (items : List Item) → printed (map (item_line site.policy e deed) items)
      ≡ flat_map (on_item_line deed) items
  printed_items deed items = flat_map-map (λ (l : Line). l.text ++ codes "\n") (item_line site.policy e deed) items

  printed_more : (ls ms : List Line) → printed (ls ++ ms) ≡ printed ls ++ printed ms
  printed_more ls ms = flat_map-append (λ (l : Line). l.text ++ codes "\n") ls ms

  pub ran_printed : (r : Reply) (run : Run) → r ≡ Ran run
      → flat_map on_line (call_texts e.command) ++ flat_map (on_item_line (codes "emit ")) run.emitted
      ++ flat_map (on_item_line (codes "release ")) run.released ≡ printed (reply_lines site e r)
  ran_printed r run is =
      let first = map (line site.policy e e.level) (call_texts e.command) in
      let second = map (item_line site.policy e (codes "emit ")) run.emitted in
      let third = map (item_line site.policy e (codes "release ")) run.released in
      sym (ap (λ x. printed (reply_lines site e x)) is ∙ printed_more first (second ++ third)
      ∙ ap (λ l. printed first ++ l) (printed_more second third)
      ∙ (λ i. printed_lines (call_texts e.command) i ++ (printed_items (codes "emit ") run.emitted i ++ printed_items
      (codes "release ") run.released i))
      ∙ sym (append_assoc (flat_map on_line (call_texts e.command))
      (flat_map (on_item_line (codes "emit ")) run.emitted)
      (flat_map (on_item_line (codes "release ")) run.released)))

-- the stored transactions play no part in what is printed
same_views : (p : Policy) (s : Schemes) (stored : List Stored) (command : Command) (tuples : List Tuple)
    → view_texts (site_under p s) command tuples ≡ view_texts (record {
      policy = p;
      schemes = s;
      stored =
          stored;
    }) command tuples
same_views p s stored (commands.Open name) tuples = refl
same_views p s stored _ tuples = refl

same_dumps : (p : Policy) (s : Schemes) (stored : List Stored) (session : Name) (command : Command)
    (tuples : List Tuple)
    → dump_texts (site_under p s) session command tuples ≡ dump_texts (record {
      policy = p;
      schemes = s;
      stored =
          stored;
    }) session command tuples
same_dumps p s stored session (commands.Dump relation) tuples = refl
same_dumps p s stored session command tuples = refl

same_tables : (p : Policy) (s : Schemes) (stored : List Stored) (command : Command) (tuples : List Tuple)
    → table_texts (site_under p s) command tuples ≡ table_texts (record {
      policy = p;
      schemes = s;
      stored =
          stored;
    }) command tuples
same_tables p s stored (commands.View relation label query counts) tuples = refl
same_tables p s stored (commands.Dump relation) tuples = refl
same_tables p s stored command tuples = refl

same_answer : (p : Policy) (s : Schemes) (stored : List Stored) (form : Form) (one : One) (a : Answer)
    → answer_texts form (site_under p s) one a ≡ answer_texts form (record {
      policy = p;
      schemes = s;
      stored =
          stored;
    }) one a
same_answer p s stored Lines one (answers.Rows tuples) = same_views p s stored (looks_as one) tuples
same_answer p s stored Table one (answers.Rows tuples) = same_tables p s stored (looks_as one) tuples
same_answer p s stored form one (answers.Became o) = refl

same_answers : (p : Policy) (s : Schemes) (stored : List Stored) (form : Form) (batch : List One) (given : List Answer)
    → answers_texts form (site_under p s) batch given ≡ answers_texts form (record {
      policy = p;
      schemes = s;
      stored =
          stored;
    }) batch given
same_answers p s stored form [] given = refl
same_answers p s stored form (one ∷ batch) [] = refl
same_answers p s stored form (one ∷ batch) (a ∷ given) = λ i. same_answer p s stored form one a i
    ++ same_answers p s stored form batch given i

same_batch : (p : Policy) (s : Schemes) (stored : List Stored) (form : Form) (command : Command) (given : List Answer)
    → batch_texts form (site_under p s) command given ≡ batch_texts form (record {
      policy = p;
      schemes = s;
      stored =
          stored;
    }) command given
same_batch p s stored form (commands.All batch) given = same_answers p s stored form batch given
same_batch p s stored form command given = refl

same_texts : (p : Policy) (s : Schemes) (stored : List Stored) (session : Name) (command : Command) (r : Reply)
    → reply_texts (site_under p s) session command r ≡ reply_texts (record {
      policy = p;
      schemes = s;
      stored =
          stored;
    }) session command r
same_texts p s stored session command (Rows tuples) = same_views p s stored command tuples
same_texts p s stored session command (Dumped tuples) = same_dumps p s stored (printable session) command tuples
same_texts p s stored session command (Did given) = same_batch p s stored Lines command given
same_texts p s stored session command _ = refl

same_in_table : (p : Policy) (s : Schemes) (stored : List Stored) (session : Name) (command : Command) (r : Reply)
    → texts_in_table (site_under p s) session command r ≡ texts_in_table (record {
      policy = p;
      schemes = s;
      stored =
          stored;
    }) session command r
same_in_table p s stored session command (Rows tuples) = same_tables p s stored command tuples
same_in_table p s stored session command (Did given) = same_batch p s stored Table command given
same_in_table p s stored session command r = same_texts p s stored session command r

pub lines_under : (form : Form) (site : Site) (e : Event) (r : Reply)
    → reply_lines_in form (site_under site.policy site.schemes) e r ≡ reply_lines_in form site e r
lines_under Lines site e r = ap (λ texts. lines_with site e texts r)
    (same_texts site.policy site.schemes site.stored e.session e.command r)
lines_under Table site e r = ap (λ texts. map escaped_line (lines_with site e texts r))
    (same_in_table site.policy site.schemes site.stored e.session e.command r)
