use Rattle.std.proofs.Common.{◌≡◌, ◌<◌, length, sym, subst}
use Rattle.std.proofs.lemmas.Result.{IfOk-at_ok}
use Rattle.mls_scheme.specs.Writes.{key_class_of}
use Rattle.mls_updates.specs.Writes.{Write}
use Rattle.mls_updates.specs.Calls.{CanWrite}
use Rattle.mls_certcheck.specs.Meaning.{write_in}
use Rattle.mls_trusted.specs.Frames.{env_in}
use Rattle.mls_trusted.proofs.WriteLemmas.{key_class_declared, can_write, content_lent, run_written}
use Rattle.mls_lattice.specs.Policy.{labels_of}
use Rattle.mls_filterview.proofs.AccessLemmas.{avoids_then, avoids_some, no_down_wider}
use Rattle.mls_trusted.proofs.write.write_at.Goals as goal

pub write-requires : goal.write-requires
write-requires g c =
    let call = c.args.call.now in
    let f = c.args.frame.now in
    let relation = c.args.relation in
    let at = c.args.at in
    let writing = c.args.write.now in
    let is = IfOk-at_ok (λ x. x ≡ write_in (env_in call.args.now f) writing) c.in_ok-valued.ensures.value c.evaluated.ensures in
    let stored = content_lent call f relation at writing c.args.outcome g.B.Base.seen c.args.base.now c.settle.new.base c.in_ok-valued.ensures.same c.requires.ready c.in_ok-valued.ensures.call.clean in
    subst (CanWrite g.B.Base.seen c.settle.new.base call.policy.now call.schemes.now relation at) (sym is)
    (can_write call f relation at c.args.outcome c.requires.ready.frame g.B.Base.seen c.settle.new.base c.requires.ready.under stored writing c.requires.may)

pub returns-clause-ran : goal.returns-clause-ran
returns-clause-ran g c =
    let call = c.args.call.now in
    let f = c.args.frame.now in
    let relation = c.args.relation in
    let at = c.args.at in
    let writing = c.args.write.now in
    let is = IfOk-at_ok (λ x. x ≡ write_in (env_in call.args.now f) writing) c.in_ok-valued.ensures.value c.evaluated.ensures in
    let within = subst (λ (x : Write). key_class_of at x < length call.policy.now.labels) (sym is)
    (key_class_declared call f relation at c.args.outcome writing c.requires.may) in
    run_written call f relation at writing c.args.outcome g.B.Base.seen c.args.base.now c.settle.new.base c.write.new.base c.wrote.new.self c.in_ok-done.done
    c.in_ok-valued.valued c.in_ok-valued.ensures.same is c.requires.ready c.requires.may c.in_ok-done.ensures c.wrote.ensures.vars within c.wrote.ensures.views

pub returns-clause-access : goal.returns-clause-access
returns-clause-access g c = λ b.
    let call = c.args.call.now in
    avoids_then (avoids_some c.in_ok-valued.ensures.access)
    (no_down_wider (labels_of call.policy.now) c.args.at c.args.at call.tx.now.hi call.tx.now.lo b.0.1 b.0.0 c.in_ok-done.ensures.access)

pub returns-in_err-done-clause-access : goal.returns-in_err-done-clause-access
returns-in_err-done-clause-access g c = λ b.
    let call = c.args.call.now in
    avoids_then (avoids_some c.in_ok-valued.ensures.access)
    (no_down_wider (labels_of call.policy.now) c.args.at c.args.at call.tx.now.hi call.tx.now.lo b.0.1 b.0.0 c.in_err-done.ensures.access)

pub returns-in_err-valued-clause-access : goal.returns-in_err-valued-clause-access
returns-in_err-valued-clause-access g c = λ b. avoids_some c.in_err-valued.ensures.access
