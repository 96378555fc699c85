-- Whether the numbers in a reply are those of the policy.
use Rattle.std.specs.Prelude.{ℕ, Bool, true, ◌&&◌, nat_lt, ◌<◌, List, length, ⊤}
use Rattle.std.specs.List.{list_all}
use Rattle.mls_lattice.specs.Policy.{Policy}
use Rattle.mls_scheme.specs.declared.tuple.Element.{Element}
use Rattle.mls_scheme.specs.declared.tuple.Tuple.{Tuple}
use Rattle.mls_machine.specs.declared.reply.Answer.{Answer}
use Rattle.mls_machine.specs.declared.reply.Answer.TheVariants as answers
use Rattle.mls_machine.specs.declared.reply.Reply.{Reply}
use Rattle.mls_machine.specs.declared.reply.Reply.TheVariants.{Opened, Closed, Rows, Dumped, Wrote, Ran, Entries}
use Rattle.mls_machine.specs.declared.reply.Reply.TheVariants.{Did, Undone, Denied}
use Rattle.mls_machine.specs.Printable.{EntriesAreKnown, ItemsAreKnown}

-- ---- classes, as a test

abbrev pub elements_known : ℕ → List Element → Bool
elements_known count = list_all (λ e. nat_lt e.class count)

abbrev pub tuple_known : ℕ → Tuple → Bool
tuple_known count t = nat_lt t.key_class count && elements_known count t.elements

abbrev pub tuples_known : ℕ → List Tuple → Bool
tuples_known count = list_all (tuple_known count)

abbrev pub answer_known : ℕ → Answer → Bool
answer_known count (answers.Rows tuples) = tuples_known count tuples
answer_known count (answers.Became o) = true

abbrev pub answers_known : ℕ → List Answer → Bool
answers_known count = list_all (answer_known count)

-- ---- replies over any store

-- the user that a session is opened for is one of the policy, and the labels of items and of entries are declared
abbrev pub HasKnownNumbers : Policy → Reply → Type 0
HasKnownNumbers policy (Opened user) = user < length policy.users
HasKnownNumbers policy (Ran run) = ItemsAreKnown policy run.emitted × ItemsAreKnown policy run.released
HasKnownNumbers policy (Entries es) = EntriesAreKnown policy es
HasKnownNumbers policy Closed = ⊤
HasKnownNumbers policy (Rows found) = ⊤
HasKnownNumbers policy (Dumped ts) = ⊤
HasKnownNumbers policy (Wrote o) = ⊤
HasKnownNumbers policy (Did given) = ⊤
HasKnownNumbers policy (Undone number o) = ⊤
HasKnownNumbers policy (Denied d) = ⊤
