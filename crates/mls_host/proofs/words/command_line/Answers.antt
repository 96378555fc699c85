use Rattle.clap.specs.Words.{with_subcommand}
use Rattle.mls_host.specs.Words.{run, shell, serve, turn, show_policy, certify, check, explain, program}
use Rattle.mls_host.proofs.words.command_line.Goals as goal

pub returns : goal.returns
returns c =
    let with_run = with_subcommand program run.top in
    let with_shell = with_subcommand with_run shell.top in
    let with_serve = with_subcommand with_shell serve.top in
    let with_turn = with_subcommand with_serve turn.top in
    let with_show = with_subcommand with_turn show_policy.top in
    let with_certify = with_subcommand with_show certify.top in
    let with_check = with_subcommand with_certify check.top in
    c.with_command.ensures with_check explain
    (c.with_command-line-7.ensures with_certify check
    (c.with_command-line-6.ensures with_show certify
    (c.with_command-line-5.ensures with_turn show_policy
    (c.with_command-line-4.ensures with_serve turn
    (c.with_command-line-3.ensures with_shell serve
    (c.with_command-line-2.ensures with_run shell
    (c.with_command-line.ensures program run (c.program.ensures.app, c.program.ensures.local) c.run_command.ensures)
    c.shell_command.ensures)
    c.serve_command.ensures)
    c.turn_command.ensures)
    c.show_command.ensures)
    c.certify_command.ensures)
    c.check_command.ensures)
    c.explain_command.ensures
