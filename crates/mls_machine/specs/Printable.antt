-- Replies that can be printed: the numbers in them are those of the policy and the schemes.
use Rattle.std.specs.Prelude.{◌≡◌, ℕ, ◌<◌, true, List, length, ⊤}
use Rattle.std.specs.List.{AllByRecursion}
use Rattle.mls_lattice.specs.Name.{is_name}
use Rattle.mls_lattice.specs.Policy.{Policy}
use Rattle.mls_scheme.specs.Tuple.{HasClassesBelow}
use Rattle.mls_audit.specs.declared.entry.Entry.{Entry}
use Rattle.mls_audit.specs.Entry.{label_of}
use Rattle.mls_certcheck.specs.Meaning.{Item}
use Rattle.mls_certcheck.specs.Site.{Site}
use Rattle.mls_translang.specs.declared.event.Event.{Event}
use Rattle.mls_translang.specs.declared.event.Command.{Command}
use Rattle.mls_translang.specs.declared.event.Command.TheVariants as commands
use Rattle.mls_translang.specs.declared.event.One.{One}
use Rattle.mls_translang.specs.declared.event.One.TheVariants as ones
use Rattle.mls_machine.specs.declared.reply.Answer.{Answer}
use Rattle.mls_machine.specs.declared.reply.Answer.TheVariants as answers
use Rattle.mls_machine.specs.declared.reply.Reply.{Reply}
use Rattle.mls_machine.specs.declared.reply.Reply.TheVariants.{Opened, Closed, Rows, Dumped, Wrote, Ran, Entries}
use Rattle.mls_machine.specs.declared.reply.Reply.TheVariants.{Did, Undone, Denied}

abbrev pub IsKnownLook : Site → ℕ → ℕ → Type 0
IsKnownLook site relation label = (relation < length site.schemes) × (label < length site.policy.labels)

abbrev pub OneIsKnown : Site → One → Type 0
OneIsKnown site (ones.View relation label query counts) = IsKnownLook site relation label
OneIsKnown site (ones.Expect rows relation label query) = IsKnownLook site relation label
OneIsKnown site (ones.Write relation wr) = ⊤

abbrev pub CommandIsKnown : Site → Command → Type 0
CommandIsKnown site (commands.View relation label query counts) = IsKnownLook site relation label
CommandIsKnown site (commands.Dump relation) = relation < length site.schemes
CommandIsKnown site (commands.All batch) = AllByRecursion (OneIsKnown site) batch
CommandIsKnown site command = ⊤

-- the labels of entries are declared
abbrev pub EntriesAreKnown : Policy → List Entry → Type 0
EntriesAreKnown p = AllByRecursion (λ e. label_of e < length p.labels)

-- the labels of items are declared
abbrev pub ItemsAreKnown : Policy → List Item → Type 0
ItemsAreKnown p = AllByRecursion (λ i. i.0 < length p.labels)

abbrev pub AnswerIsKnown : Policy → Answer → Type 0
AnswerIsKnown p (answers.Rows tuples) = AllByRecursion (HasClassesBelow (length p.labels)) tuples
AnswerIsKnown p (answers.Became o) = ⊤

abbrev pub ReplyIsKnown : Policy → Reply → Type 0
ReplyIsKnown p (Opened user) = user < length p.users
ReplyIsKnown p Closed = ⊤
ReplyIsKnown p (Rows tuples) = AllByRecursion (HasClassesBelow (length p.labels)) tuples
ReplyIsKnown p (Dumped tuples) = AllByRecursion (HasClassesBelow (length p.labels)) tuples
ReplyIsKnown p (Wrote o) = ⊤
ReplyIsKnown p (Ran run) = ItemsAreKnown p run.emitted × ItemsAreKnown p run.released
ReplyIsKnown p (Entries es) = EntriesAreKnown p es
ReplyIsKnown p (Did given) = AllByRecursion (AnswerIsKnown p) given
ReplyIsKnown p (Undone number o) = ⊤
ReplyIsKnown p (Denied d) = ⊤

pub record CanBePrinted (site : Site) (e : Event) (r : Reply) : Type 0 where
  pub level : e.level < length site.policy.labels
  pub session : is_name e.session ≡ true
  pub command : CommandIsKnown site e.command
  pub reply : ReplyIsKnown site.policy r
