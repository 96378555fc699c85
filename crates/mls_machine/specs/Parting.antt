-- Lines are told apart by their line feeds: one ends each line, and none stands in it. The first word of a line tells
-- who may see it.
use Rattle.std.specs.Prelude.{◌≡◌, ℕ, ◌==◌, Bool, false, List, [], ◌∷◌, ◌++◌, map, Option, Some, None, filter, position}
use Rattle.std.specs.Prelude.{bytes_eq}
use Rattle.std.specs.List.{list_any, before_first, slice_split, AllByRecursion}
use Rattle.mls_lattice.specs.Labels.{Labels, below}
use Rattle.mls_lattice.specs.Policy.{Policy, IsPolicy}
use Rattle.mls_scheme.specs.Scheme.{Scheme, AreSchemes}
use Rattle.mls_audit.specs.declared.entry.Entry.{Entry}
use Rattle.mls_translang.specs.declared.event.Event.{Event}
use Rattle.mls_machine.specs.declared.form.Form.{Form}
use Rattle.mls_machine.specs.declared.form.Audience.{Audience}
use Rattle.mls_machine.specs.declared.reply.Reply.{Reply}
use Rattle.mls_certcheck.specs.Site.{Site, site_labels, AreRead}
use Rattle.mls_machine.specs.Machine.{World}
use Rattle.mls_machine.specs.declared.form.Form.TheVariants.{Lines}
use Rattle.mls_machine.specs.Output.{reply_lines_in, run_lines}
use Rattle.mls_machine.specs.Printable.{EntriesAreKnown}
use Rattle.mls_machine.specs.Observation.{AreStored, EventsFit, out, heard, run_shows}
use Rattle.mls_machine.specs.Showing.{everyone}
use Rattle.mls_machine.specs.Turning.{turn_lines}

abbrev pub is_line_feed : ℕ → Bool
is_line_feed b = b == 10

-- no line feed stands in a text
abbrev pub IsOneLine : List ℕ → Type 0
IsOneLine text = list_any is_line_feed text ≡ false

-- ---- names, which lines show as they are

pub record HasPlainNames (scheme : Scheme) : Type 0 where
  pub name : IsOneLine scheme.name
  pub keys : AllByRecursion (λ a. IsOneLine a.0) scheme.keys
  pub others : AllByRecursion (λ a. IsOneLine a.0) scheme.others

-- no line feed stands in the names of labels, users, relations and attributes
pub record IsPlain (site : Site) : Type 0 where
  pub labels : AllByRecursion (λ l. IsOneLine l.name) site.policy.labels
  pub users : AllByRecursion (λ u. IsOneLine u.name) site.policy.users
  pub relations : AllByRecursion HasPlainNames site.schemes

-- in those of a policy and of schemes none does
abbrev pub PoliciesArePlain : Type 0
PoliciesArePlain = (site : Site) → IsPolicy site.policy → AreSchemes site.schemes → IsPlain site

-- ---- lines

-- so none stands in a line, whatever is asked, stored, or answered
abbrev pub RepliesAreLines : Type 0
RepliesAreLines =
    (site : Site) → IsPlain site → (form : Form) (e : Event) (r : Reply)
    → AllByRecursion (λ l. IsOneLine l.text) (reply_lines_in form site e r)

abbrev pub RunsAreLines : Type 0
RunsAreLines =
    (site : Site) → IsPlain site → (form : Form) (w : World) (es : List Event)
    → AllByRecursion (λ l. IsOneLine l.text) (run_lines form site w es)

-- nor in a line of a turning
abbrev pub TurningsAreLines : Type 0
TurningsAreLines =
    (site : Site) → IsPlain site → (entries : List Entry)
    → AllByRecursion (λ l. IsOneLine l.text) (turn_lines site.policy entries)

-- what a run shows, parted at its line feeds, is the lines that may be heard, in order, and nothing behind the last
abbrev pub RunsPartIntoLines : Type 0
RunsPartIntoLines =
    (site : Site) → IsPlain site → (audience : Audience) (w : World) (es : List Event)
    → slice_split is_line_feed (run_shows site audience w es)
    ≡ map (λ l. l.text) (heard (site_labels site) audience.reader (run_lines audience.form site w es)) ++ [] ∷ []

-- ---- labels

abbrev pub is_space : ℕ → Bool
is_space b = b == 32

-- the label that the first word of a text names, if it names one
abbrev pub label_told : Policy → List ℕ → Option ℕ
label_told p text = position (λ l. bytes_eq l.name (before_first is_space text)) p.labels

abbrev pub may_see : Labels → ℕ → Option ℕ → Bool
may_see ls c None = false
may_see ls c (Some label) = below ls label c

-- what is written for everyone, parted at its line feeds: those whose first word names a label that c dominates are the
-- lines that c may see, in order
abbrev pub LinesArePicked : Type 0
LinesArePicked =
    (site : Site) → IsPolicy site.policy → AreSchemes site.schemes → AreRead site
    → (w : World) (es : List Event) → AreStored site w.db → EntriesAreKnown site.policy w.audit → EventsFit site es
    → (c : ℕ)
    → filter (λ text. may_see (site_labels site) c (label_told site.policy text))
    (slice_split is_line_feed (run_shows site everyone w es))
    ≡ map (λ l. l.text) (out (site_labels site) c (run_lines Lines site w es))
