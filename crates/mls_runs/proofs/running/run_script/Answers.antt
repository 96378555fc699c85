use Rattle.std.proofs.Common.{rules, ◌≡◌, [], sym, ap, subst}
use Rattle.std.proofs.KnownBytes.{Appends-nil}
use Rattle.mls_host.specs.Hosting.{hosted, IsAppended}
use Rattle.mls_host.specs.Words.{named}
use Rattle.mls_host.specs.Storing.{AreStoredWith}
use Rattle.mls_host.specs.declared.reason.Reason.TheVariants.{Memory}
use Rattle.mls_runs.proofs.RunningLemmas.{may_serve}
use Rattle.mls_runs.proofs.ScriptRunLemmas.{Ends, script_run, not_begun}
use Rattle.mls_host.proofs.StoppingLemmas.{untouched, caused_before}
use Rattle.mls_runs.proofs.running.run_script.Goals as goal

pub over_store-requires : goal.over_store-requires
over_store-requires g c =
    let i = c.args.inputs in
    record {
      serves = may_serve i.setting _ i.transactions c.in_ok-stored.stored c.requires.read c.in_ok-stored.ensures;
      fits = rw c.deref-2.ensures c.requires.fits;
      declared = i.setting.declared;
    }

pub returns-in_err-stored-clause-run : goal.returns-in_err-stored-clause-run
returns-in_err-stored-clause-run g c =
    not_begun (hosted g.H.Host.hosting g.H.Lines.TypedLines.echo c.args.host.now c.args.host.now) c.args.inputs
    (named c.args.store) c.args.is_table (IsAppended g.W.Write.contents c.args.out.now c.args.out.now)
    c.from_residual.result c.from_residual.ensures.1 (Appends-nil _)

pub returns-clause-run : goal.returns-clause-run
returns-clause-run g c =
    let h = hosted g.H.Host.hosting g.H.Lines.TypedLines.echo c.args.host.now c.over_store.new.host in
    let new = c.over_store.new.work in
    let wrote = IsAppended g.W.Write.contents c.args.out.now new.out.now in
    let i = c.args.inputs in
    subst (λ (out : g.row.W.Denot). Ends h i (named c.args.store) c.args.is_table
    (IsAppended g.W.Write.contents c.args.out.now out) c.over_store.result) (search rules)
    (script_run h i (named c.args.store) c.args.is_table wrote c.in_ok-stored.stored
    (subst (λ blocks. AreStoredWith i.setting.policy blocks i.transactions c.in_ok-stored.stored) c.deref.ensures c.in_ok-stored.ensures)
    (new ≡ _) (λ same. subst (λ (out : g.row.W.Denot). IsAppended g.W.Write.contents c.args.out.now out [])
    (sym (ap (λ work. work.out.now) same)) (Appends-nil _))
    c.form_of.result _ c.form_of.ensures c.deref-2.ensures c.over_store.result c.over_store.ensures.ends)

pub returns-in_err-stored-clause-caused : goal.returns-in_err-stored-clause-caused
returns-in_err-stored-clause-caused g c =
    caused_before (hosted g.H.Host.hosting g.H.Lines.TypedLines.echo c.args.host.now c.args.host.now)
    (named c.args.store) c.from_residual.result Memory c.from_residual.ensures.1
    (untouched (g.H.Host.hosting c.args.host.now))
