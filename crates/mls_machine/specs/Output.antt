-- The printed output: the lines of the replies, in order, with a line feed after each.
use Rattle.std.specs.Prelude.{ℕ, Bool, true, if◌then◌else◌, is_some, List, [], ◌∷◌, ◌++◌, map, Option, Some, None}
use Rattle.std.specs.Prelude.{codes}
use Rattle.std.specs.Prelude.{length, flat_map, decimal, zip}
use Rattle.mls_tokens.specs.Writing.{printable}
use Rattle.mls_tokens.specs.Screen.{escaped}
use Rattle.mls_tokens.specs.Table.{wider, padded, ruled}
use Rattle.mls_lattice.specs.Lattice.{Pair, same_pair}
use Rattle.mls_lattice.specs.Policy.{Name, Named, Policy, labels_of}
use Rattle.mls_lattice.specs.Canon.{label_name, user_name}
use Rattle.mls_scheme.specs.declared.value.Value.{Value}
use Rattle.mls_scheme.specs.declared.tuple.Tuple.{Tuple}
use Rattle.mls_scheme.specs.Tuple.{tuple_class}
use Rattle.mls_scheme.specs.Scheme.{Scheme, scheme_of}
use Rattle.mls_updates.specs.declared.outcome.Outcome.{Outcome}
use Rattle.mls_updates.specs.Outcome.{is_done, code_of as outcome_code, word_of as outcome_word}
use Rattle.mls_audit.specs.declared.entry.Entry.{Entry}
use Rattle.mls_audit.specs.declared.entry.Deed.{Deed}
use Rattle.mls_audit.specs.declared.entry.Deed.TheVariants as deeds
use Rattle.mls_certcheck.specs.Meaning.{Item}
use Rattle.mls_translang.specs.declared.query.Query.{Query}
use Rattle.mls_translang.specs.declared.event.Event.{Event}
use Rattle.mls_translang.specs.declared.event.Command.{Command}
use Rattle.mls_translang.specs.declared.event.Command.TheVariants as commands
use Rattle.mls_translang.specs.declared.event.One.{One}
use Rattle.mls_translang.specs.declared.event.One.TheVariants as ones
use Rattle.mls_translang.specs.Writing.{cell_text, line_text, is_writable}
use Rattle.mls_machine.specs.declared.form.Form.{Form}
use Rattle.mls_machine.specs.declared.form.Form.TheVariants.{Lines, Table}
use Rattle.mls_machine.specs.declared.reply.Denial.{Denial}
use Rattle.mls_machine.specs.declared.reply.Answer.{Answer}
use Rattle.mls_machine.specs.declared.reply.Answer.TheVariants as answers
use Rattle.mls_machine.specs.declared.reply.Reply.{Reply}
use Rattle.mls_machine.specs.declared.reply.Reply.TheVariants.{Opened, Closed, Rows, Dumped, Wrote, Ran, Entries}
use Rattle.mls_machine.specs.declared.reply.Reply.TheVariants.{Did, Undone, Denied}
use Rattle.mls_certcheck.specs.Site.{Site}
use Rattle.mls_machine.specs.Dumping.{dump_event}
use Rattle.mls_machine.specs.Reply.{code_of, word_of}
use Rattle.mls_machine.specs.Machine.{World, step}

-- ---- rows

-- the name of the first label of this value
abbrev pub name_of : List Named → Pair → Name
name_of [] p = []
name_of (l ∷ ls) p = if same_pair l.value p then l.name else name_of ls p

-- a value and its class, with what parts it from the next
abbrev pub cell_entry : List Named → ℕ → Option Value → List ℕ
cell_entry labels class v = cell_text v ++ codes " " ++ label_name labels class ++ codes " | "

-- the key with its class, the elements with theirs, and the class of the tuple
abbrev pub row_text : Policy → Tuple → List ℕ
row_text p t =
    codes "row " ++ flat_map (λ v. cell_entry p.labels t.key_class (Some v)) t.key
    ++ flat_map (λ e. cell_entry p.labels e.class e.value) t.elements
    ++ name_of p.labels (tuple_class (labels_of p) t)

-- a word behind a space, where a query has that part
abbrev pub word_if : Bool → List ℕ → List ℕ
word_if has word = if has then codes " " ++ word else []

-- which parts a query has, in the order in which they are written
abbrev pub query_words : Query → List ℕ
query_words q =
    word_if q.highest (codes "highest") ++ word_if (is_some q.class) (codes "class")
    ++ word_if (is_some q.first) (codes "first") ++ word_if (is_some q.test) (codes "where")

-- what was asked of a relation at a label, under a verb
abbrev pub asked : Policy → List ℕ → Scheme → ℕ → Query → List ℕ
asked p verb s label q = verb ++ codes " " ++ s.name ++ codes " at " ++ label_name p.labels label ++ query_words q
    ++ codes ":"

abbrev pub heading : Policy → Scheme → ℕ → Query → List ℕ
heading p s label q =
    asked p (codes "view") s label q ++ flat_map (λ a. codes " " ++ a.0) s.keys
    ++ flat_map (λ a. codes " " ++ a.0) s.others

-- how many rows were found
abbrev pub count_text : Policy → Scheme → ℕ → Query → ℕ → List ℕ
count_text p s label q n = asked p (codes "count") s label q ++ codes " " ++ decimal n

-- the texts of rows, which answer a view and nothing else: the rows or their number
abbrev pub view_texts : Site → Command → List Tuple → List (List ℕ)
view_texts site (commands.View relation label query counts) tuples =
    if counts then count_text site.policy (scheme_of site.schemes relation) label query (length tuples) ∷ []
    else heading site.policy (scheme_of site.schemes relation) label query ∷ map (row_text site.policy) tuples
view_texts site command tuples = []

-- ---- rows as a table

-- a value and its class
abbrev pub table_cell : List Named → ℕ → Option Value → List ℕ
table_cell labels class v = escaped (cell_text v ++ codes " " ++ label_name labels class)

abbrev pub tuple_cells : Policy → Tuple → List (List ℕ)
tuple_cells p t =
    map (λ v. table_cell p.labels t.key_class (Some v)) t.key
    ++ map (λ e. table_cell p.labels e.class e.value) t.elements

abbrev pub name_cells : Scheme → List (List ℕ)
name_cells s = map (λ a. a.0) s.keys ++ map (λ a. a.0) s.others

-- the widths of columns that have room for the cells of these tuples too
abbrev pub widths_with : Policy → List ℕ → List Tuple → List ℕ
widths_with p widths [] = widths
widths_with p widths (t ∷ ts) = widths_with p (wider widths 0 (tuple_cells p t)) ts

abbrev pub table_widths : Policy → Scheme → List Tuple → List ℕ
table_widths p s tuples = widths_with p (wider [] 0 (name_cells s)) tuples

abbrev pub table_title : Policy → Scheme → ℕ → Query → List ℕ
table_title p s label q = asked p (codes "view") s label q

-- the names of the attributes, and a rule below them
abbrev pub table_names : Scheme → List ℕ → List ℕ
table_names s widths = padded widths 0 (name_cells s) ++ codes "class"

abbrev pub table_rule : List ℕ → List ℕ
table_rule widths = flat_map ruled widths ++ codes "-----"

-- the cells of a tuple, and its class
abbrev pub table_row : Policy → List ℕ → Tuple → List ℕ
table_row p widths t = padded widths 0 (tuple_cells p t) ++ name_of p.labels (tuple_class (labels_of p) t)

abbrev pub table_of : Policy → Scheme → ℕ → Query → List ℕ → List Tuple → List (List ℕ)
table_of p s label q widths tuples =
    table_title p s label q ∷ table_names s widths ∷ table_rule widths ∷ map (table_row p widths) tuples

-- the texts of a table, which answers a view and nothing else; a number of rows is told as without a table
abbrev pub table_texts : Site → Command → List Tuple → List (List ℕ)
table_texts site (commands.View relation label query counts) tuples =
    if counts then view_texts site (commands.View relation label query counts) tuples
    else table_of site.policy (scheme_of site.schemes relation) label query
    (table_widths site.policy (scheme_of site.schemes relation) tuples) tuples
table_texts site command tuples = []

-- what a view and a count show, in lines or as a table
abbrev pub rows_texts : Form → Site → Command → List Tuple → List (List ℕ)
rows_texts Lines = view_texts
rows_texts Table = table_texts

-- ---- dumps

abbrev pub dump_heading : Scheme → List ℕ
dump_heading s = codes "dump " ++ s.name ++ codes ":"

-- the line of a script that makes a tuple; no script can hold one with a value that is not writable, which
-- another word tells, so that no row is lost in silence
abbrev pub script_text : Site → Event → List ℕ
script_text site e = (if is_writable e then codes "line " else codes "unread ") ++ line_text site.policy site.schemes e

-- the texts of a dump, which answers a command of its own and nothing else
abbrev pub dump_texts : Site → Name → Command → List Tuple → List (List ℕ)
dump_texts site session (commands.Dump relation) tuples =
    dump_heading (scheme_of site.schemes relation)
    ∷ map (λ t. script_text site (dump_event site session relation t)) tuples
dump_texts site session command tuples = []

-- ---- entries

-- the label, what was done, the user and the session
abbrev pub entry_front : Policy → ℕ → List ℕ → Name → Name → List ℕ
entry_front p label deed user session =
    codes "entry " ++ label_name p.labels label ++ deed ++ printable user ++ codes " " ++ printable session ++ codes " "

abbrev pub deed_word : Deed → List ℕ
deed_word (deeds.Called transaction) = codes " called "
deed_word (deeds.Denied code) = codes " denied "
deed_word (deeds.Released value) = codes " released "

abbrev pub deed_text : Deed → List ℕ
deed_text (deeds.Called transaction) = printable transaction
deed_text (deeds.Denied code) = decimal code
deed_text (deeds.Released value) = cell_text value

-- any time, at the end of a line
abbrev pub time_text : Option (List ℕ) → List ℕ
time_text None = []
time_text (Some time) = codes " " ++ printable time

abbrev pub entry_text : Policy → Entry → List ℕ
entry_text p e = entry_front p e.label (deed_word e.deed) e.user e.session ++ (deed_text e.deed ++ time_text e.time)

-- ---- replies

abbrev pub outcome_text : Outcome → List ℕ
outcome_text o =
    if is_done o then codes "done" else codes "refused " ++ decimal (outcome_code o) ++ codes " " ++ outcome_word o

abbrev pub denial_text : Denial → List ℕ
denial_text d = codes "denied " ++ decimal (code_of d) ++ codes " " ++ word_of d

-- a refusal that undid the commands of a batch, by its number
abbrev pub undone_text : ℕ → Outcome → List ℕ
undone_text number o = outcome_text o ++ codes " at " ++ decimal number

-- the command that a command of a batch is where it looks
abbrev pub looks_as : One → Command
looks_as (ones.View relation label query counts) = commands.View relation label query counts
looks_as (ones.Expect rows relation label query) = commands.View relation label query true
looks_as (ones.Write relation wr) = commands.Write relation wr

-- the texts of an answer, as they are to the command alone
abbrev pub answer_texts : Form → Site → One → Answer → List (List ℕ)
answer_texts form site one (answers.Rows tuples) = rows_texts form site (looks_as one) tuples
answer_texts form site one (answers.Became o) = outcome_text o ∷ []

-- those of all answers, in order
abbrev pub answers_texts : Form → Site → List One → List Answer → List (List ℕ)
answers_texts form site batch given = flat_map (λ x. answer_texts form site x.0 x.1) (zip batch given)

-- they answer a batch and nothing else
abbrev pub batch_texts : Form → Site → Command → List Answer → List (List ℕ)
batch_texts form site (commands.All batch) given = answers_texts form site batch given
batch_texts form site command given = []

-- the text of a call, which answers nothing else
abbrev pub call_texts : Command → List (List ℕ)
call_texts (commands.Call name args) = (codes "called " ++ printable name) ∷ []
call_texts command = []

-- the texts of a reply to a command of a session, one for each of its lines at the level of the session; a name
-- that a command gave is made printable, and that of a user, which the policy gave, is so
abbrev pub reply_texts : Site → Name → Command → Reply → List (List ℕ)
reply_texts site session command (Opened user) = (codes "opened " ++ user_name site.policy.users user) ∷ []
reply_texts site session command Closed = codes "closed" ∷ []
reply_texts site session command (Rows tuples) = view_texts site command tuples
reply_texts site session command (Dumped tuples) = dump_texts site (printable session) command tuples
reply_texts site session command (Wrote o) = outcome_text o ∷ []
reply_texts site session command (Ran run) = call_texts command
reply_texts site session command (Entries es) = codes "audit" ∷ map (entry_text site.policy) es
reply_texts site session command (Did given) = batch_texts Lines site command given
reply_texts site session command (Undone number o) = undone_text number o ∷ []
reply_texts site session command (Denied d) = denial_text d ∷ []

-- the same with a table for a view
abbrev pub texts_in_table : Site → Name → Command → Reply → List (List ℕ)
texts_in_table site session command (Rows tuples) = table_texts site command tuples
texts_in_table site session command (Did given) = batch_texts Table site command given
texts_in_table site session command r = reply_texts site session command r

-- ---- lines

-- a line without its end, and the label that may see it
pub record Line : Type 0 where
  pub label : ℕ
  pub text : List ℕ

-- a line begins with its label and the session that it answers
abbrev pub front : Policy → Event → ℕ → List ℕ
front p e label =
    label_name p.labels label ++ codes " " ++ label_name p.labels e.level ++ codes "/" ++ printable e.session
    ++ codes " "

-- a text in a line at the level of the session, with its end
abbrev pub on_line : Policy → Event → List ℕ → List ℕ
on_line p e text = front p e e.level ++ text ++ codes "\n"

abbrev pub line : Policy → Event → ℕ → List ℕ → Line
line p e label text = record { label = label; text = front p e label ++ text }

-- an item, in a line of its own label
abbrev pub item_line : Policy → Event → List ℕ → Item → Line
item_line p e deed item = line p e item.0 (deed ++ cell_text item.1)

-- the items of a reply: first those that are emitted, then those that are released
abbrev pub item_lines : Policy → Event → Reply → List Line
item_lines p e (Ran run) =
    map (item_line p e (codes "emit ")) run.emitted ++ map (item_line p e (codes "release ")) run.released
item_lines p e reply = []

-- the lines of a reply: those at the level of the session, with these texts, and then its items
abbrev pub lines_with : Site → Event → List (List ℕ) → Reply → List Line
lines_with site e texts r = map (line site.policy e e.level) texts ++ item_lines site.policy e r

abbrev pub reply_lines : Site → Event → Reply → List Line
reply_lines site e r = lines_with site e (reply_texts site e.session e.command r) r

-- a line for a screen, of the same label
abbrev pub escaped_line : Line → Line
escaped_line l = record { label = l.label; text = escaped l.text }

abbrev pub reply_lines_in : Form → Site → Event → Reply → List Line
reply_lines_in Lines site e r = reply_lines site e r
reply_lines_in Table site e r = map escaped_line (lines_with site e (texts_in_table site e.session e.command r) r)

-- the lines of a run from w
unfoldable pub run_lines : Form → Site → World → List Event → List Line
run_lines form site w [] = []
run_lines form site w (e ∷ es) =
    reply_lines_in form site e (step site w e).reply ++ run_lines form site (step site w e).world es

-- the bytes of lines, each with its end
abbrev pub printed : List Line → List ℕ
printed = flat_map (λ l. l.text ++ codes "\n")
