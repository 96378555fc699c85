-- A write event that is done again after a stop.
use Rattle.std.proofs.Common.{◌≡◌, ℕ, Option, Some, None, cond, refl, sym, ap, ◌∙◌, subst, inl, inr, ◌⊎◌, eq-eqb}
use Rattle.mls_lattice.specs.Labels.{Labels}
use Rattle.mls_scheme.specs.Scheme.{Scheme}
use Rattle.mls_scheme.specs.Table.{Database}
use Rattle.mls_filterview.specs.Content.{with_table}
use Rattle.mls_updates.specs.Writes.{Write}
use Rattle.mls_queries.proofs.WrittenLemmas.{same_relation}
use Rattle.mls_translang.specs.declared.event.Event.{Event}
use Rattle.mls_translang.specs.declared.event.Command.{Command}
use Rattle.mls_translang.specs.declared.event.Command.TheVariants as commands
use Rattle.mls_certcheck.specs.Site.{Site, site_labels, site_scheme}
use Rattle.mls_machine.specs.declared.reply.Denial.{Denial}
use Rattle.mls_machine.specs.Denying.{first_denial, write_denials}
use Rattle.mls_machine.specs.Machine.{World, wrote, unless, step_at, step}
use Rattle.mls_replicas.specs.Again.{left, IsWrite, WritesAgainRecover}
use Rattle.mls_replicas.proofs.AgainLemmas.{writes_again}

-- a database after a write of one relation
abbrev written_db : Labels → Scheme → ℕ → Write → ℕ → Database → Database
written_db ls scheme w wr relation db = with_table db relation (left ls scheme w wr (db relation))

written_again : (ls : Labels) (scheme : Scheme) (w : ℕ) (wr : Write) (relation : ℕ) (db : Database)
    → written_db ls scheme w wr relation (written_db ls scheme w wr relation db) ≡ written_db ls scheme w wr relation db
written_again ls scheme w wr relation db =
    let new = written_db ls scheme w wr relation db in
    let there : new relation ≡ left ls scheme w wr (db relation) = ap (λ b. cond b (left ls scheme w wr (db relation))
    (db relation)) (eq-eqb relation relation refl) in
    let same = same_relation new relation _ (ap (left ls scheme w wr) there ∙ writes_again ls scheme w wr (db relation)
    ∙ sym there) in
    λ i r. same r i

module _ (site : Site) (v w : World) (e : Event) where
  -- a step leaves in v what it leaves in w
  abbrev IsDone : Command → Option ℕ → Type 0
  IsDone command user = (step_at site v e command user).world.db ≡ (step_at site w e command user).world.db

  module _ (relation : ℕ) (wr : Write) where
    done_inside : (user : ℕ) (denial : Option Denial)
        → (v.db ≡ w.db) ⊎ (v.db ≡ (unless site denial w e user (wrote site w e.level relation wr)).world.db)
        → (unless site denial v e user (wrote site v e.level relation wr)).world.db
        ≡ (unless site denial w e user (wrote site w e.level relation wr)).world.db
    done_inside user (Some denial) (inl same) = same
    done_inside user (Some denial) (inr same) = same
    done_inside user None (inl before) = ap (written_db (site_labels site)
        (site_scheme site relation) e.level wr relation) before
    done_inside user None (inr after) =
        ap (written_db (site_labels site) (site_scheme site relation) e.level wr relation) after
        ∙ written_again (site_labels site) (site_scheme site relation) e.level wr relation w.db

    done_by : (user : Option ℕ) → (v.db ≡ w.db) ⊎ (v.db ≡ (step_at site w e (commands.Write relation wr) user).world.db)
        → IsDone (commands.Write relation wr) user
    done_by (Some user) h = done_inside user (first_denial (write_denials site e.level user relation wr)) h
    done_by None (inl same) = same
    done_by None (inr same) = same

  done_at : (command : Command) → IsWrite command → (user : Option ℕ) → (v.db ≡ w.db)
      ⊎ (v.db ≡ (step_at site w e command user).world.db) → IsDone command user
  done_at (commands.Write relation wr) is user h = done_by relation wr user h
  done_at (commands.Open name) is user h = absurd is
  done_at commands.Close is user h = absurd is
  done_at commands.Audit is user h = absurd is
  done_at (commands.View relation label query counts) is user h = absurd is
  done_at (commands.Dump relation) is user h = absurd is
  done_at (commands.Call name args) is user h = absurd is
  done_at (commands.All batch) is user h = absurd is

pub recovered : WritesAgainRecover
unfolding step
recovered site w e is v same stands =
    subst (λ user. (step_at site v e e.command user).world.db
    ≡ (step_at site w e e.command (w.sessions e.level e.session)).world.db) (sym same)
    (done_at site v w e e.command is (w.sessions e.level e.session) stands)
