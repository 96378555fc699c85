use Rattle.std.proofs.Common.{◌≡◌, ◌<◌, ℕ, Option, true, List, [], length, IfSome, refl, sym, ap, ◌∙◌, subst}
use Rattle.mls_lattice.specs.Name.{is_name}
use Rattle.mls_runs.specs.declared.shell_session.ShellSession.{ShellSession}
use Rattle.std.proofs.KnownBytes.{Appends-nil}
use Rattle.mls_host.specs.declared.reason.Reason.TheVariants.{Memory}
use Rattle.mls_host.specs.Words.{named}
use Rattle.mls_host.specs.declared.errors.Errors.{Errors}
use Rattle.mls_host.specs.Storing.{AreStoredWith}
use Rattle.mls_runs.specs.ShellRun.{shell_session_of, no_level}
use Rattle.mls_host.specs.Hosting.{hosted, IsAppended, IsTold}
use Rattle.mls_host.proofs.HostingLemmas.{told_nothing}
use Rattle.mls_runs.proofs.RunningLemmas.{may_serve}
use Rattle.mls_host.proofs.StoppingLemmas.{untouched, caused_before}
use Rattle.mls_runs.proofs.ShellEndLemmas.{Ends, shell_before, shell_over_stored}
use Rattle.mls_runs.proofs.shells.run_shell.Goals as goal

pub over_store-requires : goal.over_store-requires
over_store-requires g c =
    let i = c.args.inputs in
    record {
      serves = may_serve i.setting _ i.transactions c.in_ok-stored.stored c.requires.fit.read c.in_ok-stored.ensures;
      level = subst (λ (s : ShellSession). s.level < length i.setting.policy.labels)
          (sym c.in_ok-session.ensures.session) (subst (λ (o : Option ℕ). IfSome o (λ l. l
          < length i.setting.policy.labels)) c.in-Some.is i.setting.declared);
      user = subst (λ (s : ShellSession). is_name s.user ≡ true) (sym c.in_ok-session.ensures.session) c.requires.user;
      first = rw c.deref-2.ensures.value c.in_ok-session.ensures.first;
    }

pub returns-in-None-clause-shell : goal.returns-in-None-clause-shell
returns-in-None-clause-shell g c = (
  no_level c.in-None.is refl,
  Appends-nil _,
  told_nothing g.E.Write.contents c.args.err.now,
)

pub returns-in_err-stored-clause-shell : goal.returns-in_err-stored-clause-shell
returns-in_err-stored-clause-shell g c =
    shell_before g.X.Explains.explaining (hosted g.H.Host.hosting g.H.Lines.TypedLines.echo c.args.host.now c.args.host.now) c.args.inputs (named c.args.store) c.args.label.now c.args.user.now
    (IsAppended g.W.Write.contents c.args.out.now c.args.out.now)
    (IsTold g.E.Write.contents c.args.err.now c.args.err.now) c.from_residual.result c.from_residual.ensures.1
    (Appends-nil _) (told_nothing g.E.Write.contents c.args.err.now)

pub returns-in_err-session-clause-shell : goal.returns-in_err-session-clause-shell
returns-in_err-session-clause-shell g c =
    shell_before g.X.Explains.explaining (hosted g.H.Host.hosting g.H.Lines.TypedLines.echo c.args.host.now c.args.host.now) c.args.inputs (named c.args.store) c.args.label.now c.args.user.now
    (IsAppended g.W.Write.contents c.args.out.now c.args.out.now)
    (IsTold g.E.Write.contents c.args.err.now c.args.err.now) c.from_residual-in_err-session.result c.from_residual-in_err-session.ensures.1
    (Appends-nil _) (told_nothing g.E.Write.contents c.args.err.now)

pub returns-clause-shell : goal.returns-clause-shell
returns-clause-shell g c =
    let h = hosted g.H.Host.hosting g.H.Lines.TypedLines.echo c.args.host.now c.over_store.new.host in
    let new = c.over_store.new.work in
    let Wrote : g.row.W.Denot → List ℕ → Type 0 = λ out. IsAppended g.W.Write.contents c.args.out.now out in
    let Told : Errors g.row.E.Denot → List ℕ → Type 0 = λ err. IsTold g.E.Write.contents c.args.err.now err in
    let i = c.args.inputs in
    let EndsAt : g.row.W.Denot → Errors g.row.E.Denot → Type 0 = λ out err. Ends g.X.Explains.explaining h i
    (named c.args.store) c.args.label.now c.args.user.now (Wrote out) (Told err) c.over_store.result in
    let ends : EndsAt new.out.now new.err.now =
    shell_over_stored g.X.Explains.explaining h i (named c.args.store) c.args.label.now c.args.user.now
    (Wrote new.out.now) (Told new.err.now) c.in_ok-stored.stored c.in-Some.level
    (g.H.Lines.TypedLines.remaining c.lines-lines.result) (g.H.Lines.TypedLines.remaining new.lines.now)
    (g.H.Lines.TypedLines.breaks new.lines.now)
    (subst (λ blocks. AreStoredWith i.setting.policy blocks i.transactions c.in_ok-stored.stored) c.deref.ensures c.in_ok-stored.ensures) c.in-Some.is c.lines-lines.ensures.typed (c.lines-lines.ensures.broken new.lines.now)
    (new ≡ _) (λ same. (
      subst (λ out. Wrote out []) (sym (ap (λ work. work.out.now) same)) (Appends-nil _),
      subst (λ err. Told err []) (sym (ap (λ work. work.err.now) same))
          (told_nothing g.E.Write.contents c.args.err.now),
    ))
    _ (c.in_ok-session.ensures.session ∙ ap (λ b. shell_session_of c.args.label.now c.args.user.now c.in-Some.level b c.is_watched.result) c.is_terminal.ensures ∙ ap (shell_session_of c.args.label.now c.args.user.now c.in-Some.level (g.H.Host.hosting c.args.host.now).is_terminal) c.is_watched.ensures)
    c.over_store.result c.over_store.ensures.ends in
    let moved : (out : g.row.W.Denot) (err : Errors g.row.E.Denot) → new.out.now ≡ out → new.err.now ≡ err
    → EndsAt out err
    = λ out err e f. subst (λ err. EndsAt out err) f (subst (λ out. EndsAt out new.err.now) e ends) in
    moved _ _ (sym (c.out-1.given.1 (sym c.over_store.ensures.same.1)))
    (sym (c.err-1.given.1 (sym c.over_store.ensures.same.2)))

pub returns-in-None-clause-caused : goal.returns-in-None-clause-caused
returns-in-None-clause-caused g c = untouched (g.H.Host.hosting c.args.host.now)

pub returns-in_err-stored-clause-caused : goal.returns-in_err-stored-clause-caused
returns-in_err-stored-clause-caused g c =
    caused_before (hosted g.H.Host.hosting g.H.Lines.TypedLines.echo c.args.host.now c.args.host.now)
    (named c.args.store) c.from_residual.result Memory c.from_residual.ensures.1
    (untouched (g.H.Host.hosting c.args.host.now))

pub returns-in_err-session-clause-caused : goal.returns-in_err-session-clause-caused
returns-in_err-session-clause-caused g c =
    caused_before (hosted g.H.Host.hosting g.H.Lines.TypedLines.echo c.args.host.now c.args.host.now)
    (named c.args.store) c.from_residual-in_err-session.result Memory c.from_residual-in_err-session.ensures.1
    (untouched (g.H.Host.hosting c.args.host.now))
