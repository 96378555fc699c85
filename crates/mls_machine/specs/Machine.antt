-- The machine of sessions (after Bell and LaPadula 1976): what each event does to the database, the sessions and the
-- audit list, and what it is answered.
use Rattle.std.specs.Prelude.{ℕ, ◌+◌, ◌&&◌, if◌then◌else◌, nat_eq, List, [], ◌∷◌, ◌++◌, map, length, Option, Some, None}
use Rattle.std.specs.Prelude.{Result, Ok, Err, bytes_eq}
use Rattle.mls_lattice.specs.Policy.{Name}
use Rattle.mls_lattice.specs.Canon.{user_name}
use Rattle.mls_scheme.specs.declared.value.Value.{Value}
use Rattle.mls_scheme.specs.Table.{Database}
use Rattle.mls_filterview.specs.View.{rows}
use Rattle.mls_filterview.specs.Reach.{low_tuples}
use Rattle.mls_filterview.specs.Content.{with_table}
use Rattle.mls_updates.specs.Writes.{Write, write}
use Rattle.mls_updates.specs.declared.outcome.Outcome.{Outcome}
use Rattle.mls_updates.specs.declared.outcome.Outcome.TheVariants.{Done, Unexpected}
use Rattle.mls_updates.specs.Outcome.{is_done}
use Rattle.mls_audit.specs.declared.entry.Entry.{Entry}
use Rattle.mls_audit.specs.declared.entry.Deed.{Deed}
use Rattle.mls_audit.specs.declared.entry.Deed.TheVariants as deeds
use Rattle.mls_audit.specs.Entry.{visible}
use Rattle.mls_translang.specs.Tx.{Tx}
use Rattle.mls_certcheck.specs.Meaning.{Item, run_tx}
use Rattle.mls_translang.specs.declared.query.Query.{Query}
use Rattle.mls_queries.specs.Query.{found}
use Rattle.mls_translang.specs.declared.event.Event.{Event}
use Rattle.mls_translang.specs.declared.event.Command.{Command}
use Rattle.mls_translang.specs.declared.event.Command.TheVariants as commands
use Rattle.mls_translang.specs.declared.event.One.{One}
use Rattle.mls_translang.specs.declared.event.One.TheVariants as ones
use Rattle.mls_machine.specs.declared.reply.Denial.{Denial}
use Rattle.mls_machine.specs.declared.reply.Denial.TheVariants.{NoSession, AlreadyOpen, UnknownTransaction}
use Rattle.mls_machine.specs.declared.reply.Denial.TheVariants.{NotCertified}
use Rattle.mls_machine.specs.declared.reply.Answer.{Answer}
use Rattle.mls_machine.specs.declared.reply.Answer.TheVariants as answers
use Rattle.mls_machine.specs.declared.reply.Reply.{Reply}
use Rattle.mls_machine.specs.declared.reply.Reply.TheVariants.{Opened, Closed, Rows, Dumped, Wrote, Ran, Entries}
use Rattle.mls_machine.specs.declared.reply.Reply.TheVariants.{Did, Undone, Denied}
use Rattle.mls_certcheck.specs.declared.stored.Stored.{Stored}
use Rattle.mls_certcheck.specs.declared.stored.Stored.TheVariants.{Certified, Plain}
use Rattle.mls_certcheck.specs.Site.{Site, site_labels, site_scheme}
use Rattle.mls_machine.specs.Reply.{code_of}
use Rattle.mls_machine.specs.Denying.{first_denial, user_named, stored_named, fitted, cleared, view_denials}
use Rattle.mls_machine.specs.Denying.{write_denials, batch_denials, call_denials}

-- the user of each open session, by its level and name; an event changes one place at most, so nothing asks
-- that they are finitely many
abbrev pub Sessions : Type 0
Sessions = ℕ → Name → Option ℕ

abbrev pub no_sessions : Sessions
no_sessions level name = None

-- open for a user, or closed
abbrev pub with_session : Sessions → ℕ → Name → Option ℕ → Sessions
with_session s level name user l n = if nat_eq l level && bytes_eq n name then user else s l n

pub record World : Type 0 where
  pub db : Database
  pub sessions : Sessions
  pub audit : List Entry

pub record Step : Type 0 where
  pub world : World
  pub reply : Reply

-- the session of an event is open for a user now, or closed
abbrev pub in_session : World → Event → Option ℕ → World
in_session w event user = record w { sessions = with_session w.sessions event.level event.session user }

-- where no such session is open, a denial changes nothing
abbrev pub turned_away : World → Denial → Step
turned_away w denial = record { world = w; reply = Denied denial }

abbrev pub opened : World → Event → ℕ → Step
opened w event user = record { world = in_session w event (Some user); reply = Opened user }

abbrev pub closed : World → Event → Step
closed w event = record { world = in_session w event None; reply = Closed }

-- ---- the commands of a batch

-- what one of them leaves of a database, and what it is answered
pub record OneStep : Type 0 where
  pub db : Database
  pub answer : Answer

-- what all of them leave, and what they are answered, in order
pub record BatchEnd : Type 0 where
  pub db : Database
  pub answers : List Answer

-- why one with this answer is refused, if it is
abbrev pub refusal_of : Answer → Option Outcome
refusal_of (answers.Rows tuples) = None
refusal_of (answers.Became o) = if is_done o then None else Some o

abbrev pub unless_refused : Option Outcome → ℕ → Result BatchEnd (ℕ × Outcome) → Result BatchEnd (ℕ × Outcome)
unless_refused None number more = more
unless_refused (Some o) number more = Err (number, o)

module _ (site : Site) where
  -- ---- denials in an open session

  -- an entry of an event, which has its time
  abbrev pub entry_of : Event → ℕ → ℕ → Deed → Entry
  entry_of event label user deed =
      record {
        label = label;
        time = event.time;
        user = user_name site.policy.users user;
        session = event.session;
        deed = deed;
      }

  abbrev pub denial_entry : Event → ℕ → Denial → Entry
  denial_entry event user denial = entry_of event event.level user (deeds.Denied (code_of denial))

  -- the denial is entered in the audit list
  abbrev pub denied : World → Event → ℕ → Denial → Step
  denied w event user denial =
      record { world = record w { audit = w.audit ++ denial_entry event user denial ∷ [] }; reply = Denied denial }

  abbrev pub unless : Option Denial → World → Event → ℕ → Step → Step
  unless None w event user effect = effect
  unless (Some denial) w event user effect = denied w event user denial

  -- ---- effects in an open session

  -- what a query finds of the view
  abbrev pub viewed : World → ℕ → ℕ → Query → Step
  viewed w relation label query =
      record {
        world = w;
        reply = Rows (found (site_labels site) query (rows (site_labels site) label
            (w.db relation)));
      }

  -- the tuples whose classes the level of the session dominates, each behind those that it is derived from:
  -- also a root that is subsumed, which has to be there before what is derived from it
  abbrev pub dumped : World → ℕ → ℕ → Step
  dumped w relation level = record { world = w; reply = Dumped (low_tuples (site_labels site) level (w.db relation)) }

  -- a write at the level of the session
  abbrev pub wrote : World → ℕ → ℕ → Write → Step
  wrote w level relation wr =
      let new = write (site_labels site) (site_scheme site relation) level wr (w.db relation) in
      record { world = record w { db = with_table w.db relation new.table }; reply = Wrote new.outcome }

  -- the entries that the level of the session dominates
  abbrev pub listed : World → ℕ → Step
  listed w level = record { world = w; reply = Entries (visible (site_labels site) level w.audit) }

  -- ---- batches

  -- what a command of a batch answers at a level over a database, and what it leaves of it
  abbrev pub did_one : ℕ → One → Database → OneStep
  did_one level (ones.View relation label query counts) db =
      let read = rows (site_labels site) label (db relation) in
      record { db = db; answer = answers.Rows (found (site_labels site) query read) }
  did_one level (ones.Expect expected relation label query) db =
      let there = length (found (site_labels site) query (rows (site_labels site) label (db relation))) in
      record { db = db; answer = answers.Became (if nat_eq there expected then Done else Unexpected) }
  did_one level (ones.Write relation wr) db =
      let new = write (site_labels site) (site_scheme site relation) level wr (db relation) in
      record { db = with_table db relation new.table; answer = answers.Became new.outcome }

  -- commands at a level, in order, behind those that gave these answers, each over what those before it left: what is
  -- left and answered in the end, or the number and the outcome of the first that is refused
  unfoldable pub did_all : ℕ → List Answer → List One → Database → Result BatchEnd (ℕ × Outcome)
  did_all level front [] db = Ok (record { db = db; answers = front })
  did_all level front (one ∷ batch) db =
      let step = did_one level one db in
      unless_refused (refusal_of step.answer) (length front + 1)
      (did_all level (front ++ step.answer ∷ []) batch step.db)

  -- all of them, or none
  abbrev pub ended : World → Result BatchEnd (ℕ × Outcome) → Step
  ended w (Ok end) = record { world = record w { db = end.db }; reply = Did end.answers }
  ended w (Err refused) = record { world = w; reply = Undone refused.0 refused.1 }

  abbrev pub did : World → ℕ → List One → Step
  did w level batch = ended w (did_all level [] batch w.db)

  -- ---- calls

  -- what is released is entered at the label that may see it
  abbrev pub release_entry : Event → ℕ → Item → Entry
  release_entry event user item = entry_of event item.0 user (deeds.Released item.1)

  -- the call at the level of the session, and then the releases in order
  abbrev pub call_entries : Event → ℕ → Name → List Item → List Entry
  call_entries event user name released =
      entry_of event event.level user (deeds.Called name)
      ∷ map (release_entry event user) released

  -- the transaction of the name is run
  abbrev pub called : World → Event → ℕ → Name → Tx → List (Option Value) → Step
  called w event user name tx args =
      let end = run_tx (site_labels site) site.schemes tx (fitted tx.params args) w.db in
      record {
        world = record w { db = end.db; audit = w.audit ++ call_entries event user name end.released };
        reply = Ran (record { emitted = end.emitted; released = end.released });
      }

  -- ---- commands

  abbrev pub view_step : World → Event → ℕ → ℕ → ℕ → Query → Step
  view_step w event user relation label query =
      unless (first_denial (view_denials site event.level user relation label)) w event user
      (viewed w relation label query)

  -- as a view at the level of the session
  abbrev pub dump_step : World → Event → ℕ → ℕ → Step
  dump_step w event user relation =
      unless (first_denial (view_denials site event.level user relation event.level)) w event user
      (dumped w relation event.level)

  abbrev pub write_step : World → Event → ℕ → ℕ → Write → Step
  write_step w event user relation wr =
      unless (first_denial (write_denials site event.level user relation wr)) w event user
      (wrote w event.level relation wr)

  -- each of its denials is judged before the first command
  abbrev pub batch_step : World → Event → ℕ → List One → Step
  batch_step w event user batch =
      unless (first_denial (batch_denials site event.level user batch)) w event user (did w event.level batch)

  -- a call of what is stored by the name, if anything is
  abbrev pub call_step : World → Event → ℕ → Name → List (Option Value) → Option Stored → Step
  call_step w event user name args None = denied w event user UnknownTransaction
  call_step w event user name args (Some (Plain tx)) = denied w event user NotCertified
  call_step w event user name args (Some (Certified k)) =
      unless (first_denial (call_denials site event.level user k.tx args)) w event user
      (called w event user name k.tx args)

  -- where the session is open, for this user
  abbrev pub step_inside : World → Event → Command → ℕ → Step
  step_inside w event (commands.Open name) user = denied w event user AlreadyOpen
  step_inside w event commands.Close user = closed w event
  step_inside w event commands.Audit user = listed w event.level
  step_inside w event (commands.View relation label query counts) user = view_step w event user relation label query
  step_inside w event (commands.Dump relation) user = dump_step w event user relation
  step_inside w event (commands.Write relation wr) user = write_step w event user relation wr
  step_inside w event (commands.Call name args) user = call_step w event user name args (stored_named site.stored name)
  step_inside w event (commands.All batch) user = batch_step w event user batch

  -- an opening, for the user that is cleared for the level
  abbrev pub open_step : World → Event → Result ℕ Denial → Step
  open_step w event (Ok user) = opened w event user
  open_step w event (Err denial) = turned_away w denial

  -- where no such session is open
  abbrev pub step_outside : World → Event → Command → Step
  step_outside w event (commands.Open name) = open_step w event (cleared site event.level (user_named site.policy name))
  step_outside w event command = turned_away w NoSession

  -- ---- steps and runs

  abbrev pub step_at : World → Event → Command → Option ℕ → Step
  step_at w event command None = step_outside w event command
  step_at w event command (Some user) = step_inside w event command user

  unfoldable pub step : World → Event → Step
  step w event = step_at w event event.command (w.sessions event.level event.session)

  unfoldable pub end_of : World → List Event → World
  end_of w [] = w
  end_of w (e ∷ es) = end_of (step w e).world es
