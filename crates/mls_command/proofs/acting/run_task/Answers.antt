use Rattle.std.proofs.Common.{None, Ok, subst, ap, ◌∙◌}
use Rattle.std.specs.Result.{result_from_control_flow}
use Rattle.mls_host.specs.declared.words.Task.TheVariants.{Shell, Serve}
use Rattle.mls_host.specs.Deed.{deed}
use Rattle.mls_host.specs.Hosting.{hosted, IsAppended, IsTold}
use Rattle.mls_host.specs.Reading.{HasUser}
use Rattle.mls_host.specs.declared.ending.Ending.TheVariants.{Well}
use Rattle.mls_host.proofs.HostingLemmas.{told_nothing}
use Rattle.mls_command.proofs.ActingLemmas.{for_task, run_done, run_given_up, shell_ended, desk_ended}
use Rattle.mls_command.proofs.acting.run_task.Goals as goal

pub run_shell-requires-clause-user : goal.run_shell-requires-clause-user
run_shell-requires-clause-user g c = subst HasUser c.in-Shell.is c.requires.user

pub returns-in_err-run_script-in-Run : goal.returns-in_err-run_script-in-Run
returns-in_err-run_script-in-Run g c =
    let h = hosted g.H.Host.hosting g.H.Lines.TypedLines.echo c.args.host.now c.run_script.new.host in
    let explaining = g.H.Advice.Explains.explaining in
    let d = deed g.W.Write.contents c.args.out.now c.run_script.new.out g.E.Write.contents c.args.err.now c.args.err.now c.from_residual.result in
    for_task explaining h c.args.job c.args.inputs d c.args.job.task _ c.in-Run.is
    (run_given_up explaining h c.args.job c.args.inputs None c.in-Run.is_table
    (IsAppended g.W.Write.contents c.args.out.now c.run_script.new.out)
    (IsTold g.E.Write.contents c.args.err.now c.args.err.now)
    c.run_script.result c.in_err-run_script-in-Run.field-0.0 (c.branch-run_script.ensures
    ∙ ap result_from_control_flow c.in_err-run_script-in-Run.is) (
      c.run_script.ensures.caused,
      c.run_script.ensures.run,
    )
    (told_nothing g.E.Write.contents c.args.err.now) c.from_residual.result c.from_residual.ensures.1)

pub returns-in_ok-run_script-in-Run : goal.returns-in_ok-run_script-in-Run
returns-in_ok-run_script-in-Run g c =
    let h = hosted g.H.Host.hosting g.H.Lines.TypedLines.echo c.args.host.now c.run_script.new.host in
    let explaining = g.H.Advice.Explains.explaining in
    let d = deed g.W.Write.contents c.args.out.now c.run_script.new.out g.E.Write.contents c.args.err.now c.args.err.now
    (Ok Well) in
    for_task explaining h c.args.job c.args.inputs d c.args.job.task _ c.in-Run.is
    (run_done explaining h c.args.job c.args.inputs None c.in-Run.is_table
    (IsAppended g.W.Write.contents c.args.out.now c.run_script.new.out)
    (IsTold g.E.Write.contents c.args.err.now c.args.err.now)
    c.run_script.result (c.branch-run_script.ensures ∙ ap result_from_control_flow c.in_ok-run_script-in-Run.is)
    (c.run_script.ensures.caused, c.run_script.ensures.run) (told_nothing g.E.Write.contents c.args.err.now))

pub returns-in-Shell : goal.returns-in-Shell
returns-in-Shell g c =
    let h = hosted g.H.Host.hosting g.H.Lines.TypedLines.echo c.args.host.now c.run_shell.new.host in
    let explaining = g.H.Advice.Explains.explaining in
    let d = deed g.W.Write.contents c.args.out.now c.run_shell.new.out g.E.Write.contents c.args.err.now c.run_shell.new.err c.run_shell.result in
    for_task explaining h c.args.job c.args.inputs d c.args.job.task
    (Shell c.in-Shell.label c.in-Shell.user) c.in-Shell.is
    (shell_ended explaining h c.args.job c.args.inputs c.in-Shell.label c.in-Shell.user
    (IsAppended g.W.Write.contents c.args.out.now c.run_shell.new.out)
    (IsTold g.E.Write.contents c.args.err.now c.run_shell.new.err)
    c.run_shell.result c.run_shell.ensures.caused c.run_shell.ensures.shell)

pub returns-in-Serve : goal.returns-in-Serve
returns-in-Serve g c =
    let h = hosted g.H.Host.hosting g.H.Lines.TypedLines.echo c.args.host.now c.run_desk.new.host in
    let explaining = g.H.Advice.Explains.explaining in
    let d = deed g.W.Write.contents c.args.out.now c.run_desk.new.out g.E.Write.contents c.args.err.now c.args.err.now c.served.result in
    for_task explaining h c.args.job c.args.inputs d c.args.job.task Serve c.in-Serve.is (
      c.run_desk.result,
      c.served.ensures,
      desk_ended explaining h c.args.job c.args.inputs (IsAppended g.W.Write.contents c.args.out.now c.run_desk.new.out)
          (IsTold g.E.Write.contents c.args.err.now c.args.err.now)
          c.run_desk.result c.run_desk.ensures.caused c.run_desk.ensures.desk
          (told_nothing g.E.Write.contents c.args.err.now),
    )

pub returns-in-Turn : goal.returns-in-Turn
returns-in-Turn g c =
    let h = hosted g.H.Host.hosting g.H.Lines.TypedLines.echo c.args.host.now c.turn_store.new.host in
    let explaining = g.H.Advice.Explains.explaining in
    let d = deed g.W.Write.contents c.args.out.now c.turn_store.new.out g.E.Write.contents c.args.err.now c.args.err.now c.turned.result in
    for_task explaining h c.args.job c.args.inputs d c.args.job.task _ c.in-Turn.is (
      c.turn_store.result,
      c.turned.ensures,
      c.turn_store.ensures.caused,
      told_nothing g.E.Write.contents c.args.err.now,
      c.turn_store.ensures.ends,
    )
