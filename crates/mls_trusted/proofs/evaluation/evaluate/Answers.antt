use Rattle.std.proofs.Common.{rules, sym, subst}
use Rattle.mls_lattice.specs.Policy.{labels_of}
use Rattle.mls_filterview.specs.Stored.{AreContent}
use Rattle.mls_trusted.proofs.EvaluationLemmas.{commits_run}
use Rattle.mls_filterview.proofs.AccessLemmas.{avoids_then, avoids_some}
use Rattle.mls_trusted.proofs.evaluation.evaluate.Goals as goal

pub evaluate_in-requires : goal.evaluate_in-requires
evaluate_in-requires g c = record {
  call = record {
    under = c.requires.under;
    read = c.requires.read;
    args = c.requires.args;
    content = λ clean.
        subst (λ s. AreContent (labels_of c.args.policy.now) c.args.schemes.now s.now.db)
        (sym (c.in_ok-begin.ensures.done clean)) (c.requires.content
        (c.in_ok-begin.ensures.outside.call.clean clean));
  };
  begun = c.in_ok-begin.ensures.outside.mode;
  views = search rules;
}

pub returns-clause-called : goal.returns-clause-called
returns-clause-called g c =
    let seen = g.B.Base.seen in
    let last = c.in_ok-commit.ensures in
    record {
      items = c.in_ok-run.ensures.called.items;
      done = λ clean.
          let before = last.change.call.clean clean in
          commits_run (labels_of c.args.policy.now) c.args.schemes.now c.args.certified.now.tx c.args.args.now
          (seen c.args.base.now).state (seen c.begin.new.self).state (seen c.evaluate_in.new.base).state
          (seen c.commit.new.self).state c.in_ok-run.run' (c.in_ok-begin.ensures.done
          (c.in_ok-run.ensures.step.call.clean before)) (c.in_ok-run.ensures.called.done before) (last.done clean);
      content = λ clean. subst (λ s. AreContent (labels_of c.args.policy.now) c.args.schemes.now s.now.db)
          (sym (last.done clean)) (c.in_ok-run.ensures.called.content (last.change.call.clean clean));
    }

pub returns-in_err-begin-clause-access : goal.returns-in_err-begin-clause-access
returns-in_err-begin-clause-access g c = λ cert rules. avoids_some c.in_err-begin.ensures.access

pub returns-in_err-run-clause-access : goal.returns-in_err-run-clause-access
returns-in_err-run-clause-access g c = λ cert rules. avoids_then (avoids_some c.in_ok-begin.ensures.access)
    (c.in_err-run.ensures.access cert rules)

pub returns-in_err-commit-clause-access : goal.returns-in_err-commit-clause-access
returns-in_err-commit-clause-access g c = λ cert rules. avoids_then
    (avoids_then (avoids_some c.in_ok-begin.ensures.access) (c.in_ok-run.ensures.access cert rules))
    (avoids_some c.in_err-commit.ensures.access)

pub returns-clause-access : goal.returns-clause-access
returns-clause-access g c = λ cert rules. avoids_then (avoids_then (avoids_some c.in_ok-begin.ensures.access)
    (c.in_ok-run.ensures.access cert rules)) (avoids_some c.in_ok-commit.ensures.access)
