-- What is denied or refused changes nothing but the audit list, and that grows by denials and calls alone.
use Rattle.std.proofs.Common.{◌≡◌, ℕ, List, [], ◌++◌, Option, Some, None, Result, Ok, Err, refl, sym, ap, ◌∙◌, append-nil}
use Rattle.mls_updates.specs.declared.outcome.Outcome.{Outcome}
use Rattle.mls_updates.specs.Writes.{Write}
use Rattle.mls_queries.proofs.WrittenLemmas.{table_left, same_relation}
use Rattle.mls_scheme.specs.declared.value.Value.{Value}
use Rattle.mls_lattice.specs.Policy.{Name}
use Rattle.mls_translang.specs.declared.event.Event.{Event}
use Rattle.mls_translang.specs.declared.event.Command.{Command}
use Rattle.mls_translang.specs.declared.event.Command.TheVariants as commands
use Rattle.mls_translang.specs.declared.event.One.{One}
use Rattle.mls_machine.specs.declared.reply.Denial.{Denial}
use Rattle.mls_certcheck.specs.declared.stored.Stored.{Stored}
use Rattle.mls_certcheck.specs.declared.stored.Stored.TheVariants.{Certified, Plain}
use Rattle.mls_certcheck.specs.Site.{Site, site_labels, site_scheme}
use Rattle.mls_machine.specs.Denying.{first_denial, cleared, user_named, stored_named, call_denials}
use Rattle.mls_machine.specs.Machine.{World, Step, BatchEnd, denied, unless, wrote, did_all, ended, called, call_step, step_inside, open_step, step_outside, step_at, step}
use Rattle.mls_machine.specs.Laws.{ChangesNothing, entries_added, RefusalsChangeNothing, DenialsAndCallsAreEntered}

-- ---- steps

-- what a step leaves at a command, in a session that is open for a user or in none
record Leaves (site : Site) (w : World) (e : Event) (command : Command) (session : Option ℕ) (s : Step) : Type 0 where
  pub db : ChangesNothing s.reply → s.world.db ≡ w.db
  pub sessions : ChangesNothing s.reply → s.world.sessions ≡ w.sessions
  pub audit : s.world.audit ≡ w.audit ++ entries_added site e command session s.reply

module _ (site : Site) (w : World) (e : Event) where
  all_left : (command : Command) (session : Option ℕ) (s : Step) → s.world ≡ w
      → entries_added site e command session s.reply ≡ [] → Leaves site w e command session s
  all_left command session s same none = record {
    db = λ h. ap (λ v. v.db) same;
    sessions = λ h. ap (λ v. v.sessions) same;
    audit = ap (λ v. v.audit) same ∙ sym (append-nil w.audit) ∙ ap (λ es. w.audit ++ es) (sym none);
  }

  denied_left : (command : Command) (user : ℕ) (denial : Denial) → Leaves site w e command (Some user)
      (denied site w e user denial)
  denied_left command user denial = record { db = λ h. refl; sessions = λ h. refl; audit = refl }

  wrote_left : (command : Command) (user relation : ℕ) (wr : Write) → entries_added site e command (Some user)
      (wrote site w e.level relation wr).reply ≡ [] → Leaves site w e command (Some user)
      (wrote site w e.level relation wr)
  wrote_left command user relation wr none = record {
    db = λ h. (let same = same_relation w.db relation _ (table_left (site_labels site)
        (site_scheme site relation) e.level (w.db relation) wr h) in λ i r. same r i);
    sessions = λ h. refl;
    audit = sym (append-nil w.audit) ∙ ap (λ es. w.audit ++ es) (sym none);
  }

  ended_left : (batch : List One) (user : ℕ) (r : Result BatchEnd (ℕ × Outcome)) → Leaves site w e (commands.All batch)
      (Some user) (ended site w r)
  ended_left batch user (Ok end) = record {
    db = λ h. absurd h;
    sessions = λ h. absurd h;
    audit =
        sym (append-nil w.audit);
  }
  ended_left batch user (Err refused) = all_left _ (Some user) _ refl refl

  unless_left : (command : Command) (denial : Option Denial) (user : ℕ) (effect : Step)
      → Leaves site w e command (Some user) effect → Leaves site w e command (Some user)
      (unless site denial w e user effect)
  unless_left command None user effect h = h
  unless_left command (Some denial) user effect h = denied_left command user denial

  call_left : (user : ℕ) (name : Name) (args : List (Option Value)) (o : Option Stored)
      → Leaves site w e (commands.Call name args) (Some user) (call_step site w e user name args o)
  call_left user name args None = denied_left _ user _
  call_left user name args (Some (Plain tx)) = denied_left _ user _
  call_left user name args (Some (Certified k)) =
      unless_left (commands.Call name args) (first_denial (call_denials site e.level user k.tx args)) user
      (called site w e user name k.tx args) (record { db = λ h. absurd h; sessions = λ h. absurd h; audit = refl })

  inside_left : (command : Command) (user : ℕ) → Leaves site w e command (Some user) (step_inside site w e command user)
  inside_left (commands.Open name) user = denied_left _ user _
  inside_left commands.Close user = record {
    db = λ h. absurd h;
    sessions = λ h. absurd h;
    audit =
        sym (append-nil w.audit);
  }
  inside_left commands.Audit user = all_left _ (Some user) _ refl refl
  inside_left (commands.View relation label query counts) user = unless_left _ _ user _
      (all_left _ (Some user) _ refl refl)
  inside_left (commands.Dump relation) user = unless_left _ _ user _ (all_left _ (Some user) _ refl refl)
  inside_left (commands.Write relation wr) user = unless_left _ _ user _ (wrote_left _ user relation wr refl)
  inside_left (commands.Call name args) user = call_left user name args (stored_named site.stored name)
  inside_left (commands.All batch) user = unless_left _ _ user _
      (ended_left batch user (did_all site e.level [] batch w.db))

  opened_left : (name : Name) (r : Result ℕ Denial) → Leaves site w e (commands.Open name) None (open_step site w e r)
  opened_left name (Ok user) = record { db = λ h. absurd h; sessions = λ h. absurd h; audit = sym (append-nil w.audit) }
  opened_left name (Err denial) = all_left _ None _ refl refl

  outside_left : (command : Command) → Leaves site w e command None (step_outside site w e command)
  outside_left (commands.Open name) = opened_left name (cleared site e.level (user_named site.policy name))
  outside_left _ = all_left _ None _ refl refl

  at_left : (session : Option ℕ) → Leaves site w e e.command session (step_at site w e e.command session)
  at_left (Some user) = inside_left e.command user
  at_left None = outside_left e.command

  step_left : Leaves site w e e.command (w.sessions e.level e.session) (step site w e)
  unfolding step
  step_left = at_left (w.sessions e.level e.session)

pub refusal_left : RefusalsChangeNothing
refusal_left site w e h = let l = step_left site w e in (l.db h, l.sessions h)

pub entered : DenialsAndCallsAreEntered
entered site w e = (step_left site w e).audit
