use Rattle.std.proofs.Common.{◌≡◌, [], ◌∷◌, option_map, OnOk, IfErr, rules, subst}
use Rattle.std.proofs.lemmas.List.{nil_from_length}
use Rattle.mls_host.specs.Hosting.{IsAppended}
use Rattle.mls_runs.specs.History.{run_of, AreRunsOver, IsBrokenOff}
use Rattle.mls_runs.proofs.HistoryLemmas.{Goes, goes_more, goes_broken, goes_whole}
use Rattle.mls_runs.proofs.history.run_history.Goals as goal

pub returns-in-Err-clause-broken : goal.returns-in-Err-clause-broken
returns-in-Err-clause-broken g c =
    let policy = c.args.policy.now in
    let file = c.args.file.now in
    let l = c.loop-run in
    let before = g.W.Write.contents c.args.out.now in
    let after = g.W.Write.contents l.out in
    let last = g.W.Write.contents c.run_over_files-outcome.new.out in
    let rest = c.next.new.self.rest.items in
    let now = c.run_over_files-outcome.result.1 in
    let unclosed = option_map (λ s. s.value) c.run_over_files-outcome.result.2 in
    let goes = subst (λ rs. Goes g.D.Disk policy file c.args.audience c.args.runs.items c.args.files before l.yielded rs l.number l.left after) c.in-Some.ensures.steps.0 l.invariant in
    let broken = subst (λ r. IfErr r (IsBrokenOff g.D.Disk policy file c.args.audience l.left []
    (run_of policy file.schemes c.in-Some.run')
    (IsAppended g.W.Write.contents l.out c.run_over_files-outcome.new.out) now unclosed))
    c.in-Err.is c.run_over_files-outcome.ensures.broken in
    goes_broken g.D.Disk policy file c.args.audience c.args.runs.items c.args.files before c.use_invariant.ensures.distinct c.requires.prepared l.yielded rest c.in-Some.run' l.number l.left now after last goes unclosed c.in-Err.cause broken

pub loop-run-preserved : goal.loop-run-preserved
loop-run-preserved g c =
    let policy = c.args.policy.now in
    let file = c.args.file.now in
    let l = c.loop-run in
    let before = g.W.Write.contents c.args.out.now in
    let after = g.W.Write.contents l.out in
    let last = g.W.Write.contents c.run_over_files-outcome.new.out in
    let rest = c.next.new.self.rest.items in
    let now = c.run_over_files-outcome.result.1 in
    let goes = subst (λ rs. Goes g.D.Disk policy file c.args.audience c.args.runs.items c.args.files before l.yielded rs l.number l.left after) c.in-Some.ensures.steps.0 l.invariant in
    let whole = subst (λ r. OnOk r (AreRunsOver g.D.Disk policy file c.args.audience l.left
    (run_of policy file.schemes c.in-Some.run' ∷ [])
    (IsAppended g.W.Write.contents l.out c.run_over_files-outcome.new.out) now))
    c.in_default.is c.run_over_files-outcome.ensures.whole in
    goes_more g.D.Disk policy file c.args.audience c.args.runs.items c.args.files before c.use_invariant.ensures.distinct c.requires.prepared l.yielded rest c.in-Some.run' l.number l.left now after last goes whole

pub loop-run-preserved-in_default : goal.loop-run-preserved-in_default
loop-run-preserved-in_default g c =
    let policy = c.args.policy.now in
    let file = c.args.file.now in
    let l = c.loop-run in
    let before = g.W.Write.contents c.args.out.now in
    let after = g.W.Write.contents l.out in
    let last = g.W.Write.contents c.run_over_files-outcome.new.out in
    let rest = c.next.new.self.rest.items in
    let now = c.run_over_files-outcome.result.1 in
    let goes = subst (λ rs. Goes g.D.Disk policy file c.args.audience c.args.runs.items c.args.files before l.yielded rs l.number l.left after) c.in-Some.ensures.steps.0 l.invariant in
    let whole = subst (λ r. OnOk r (AreRunsOver g.D.Disk policy file c.args.audience l.left
    (run_of policy file.schemes c.in-Some.run' ∷ [])
    (IsAppended g.W.Write.contents l.out c.run_over_files-outcome.new.out) now))
    c.in_default.is c.run_over_files-outcome.ensures.whole in
    goes_more g.D.Disk policy file c.args.audience c.args.runs.items c.args.files before c.use_invariant.ensures.distinct c.requires.prepared l.yielded rest c.in-Some.run' l.number l.left now after last goes whole

pub returns-clause-whole : goal.returns-clause-whole
returns-clause-whole g c =
    let l = c.loop-run in
    let none : l.run-iterator.rest.items ≡ [] = nil_from_length _ (search rules) in
    goes_whole g.D.Disk c.args.policy.now c.args.file.now c.args.audience c.args.runs.items c.args.files
    (g.W.Write.contents c.args.out.now) l.yielded l.run-iterator.rest.items l.number l.left
    (g.W.Write.contents l.out) l.invariant none
