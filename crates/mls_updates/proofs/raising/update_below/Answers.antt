use Rattle.std.proofs.Common.{length, IfOk, sym, ap, ◌∙◌, subst}
use Rattle.mls_lattice.specs.Policy.{labels_of}
use Rattle.mls_filterview.specs.Stored.{IsStored, with_class}
use Rattle.mls_updates.specs.Calls.{IsDerived, classes_below}
use Rattle.mls_updates.proofs.CallLemmas.{later_call}
use Rattle.mls_filterview.proofs.AccessLemmas.{avoids_then, low_reads_no_down}
use Rattle.mls_updates.proofs.raising.update_below.Goals as goal

pub derive-requires-clause-found : goal.derive-requires-clause-found
derive-requires-clause-found g c = λ clean.
    c.in_ok-pattern.ensures.found clean ∙ ap (classes_below (labels_of c.args.policy.now) c.args.relation
    (with_class c.args.place c.args.w) c.args.place.class) (sym (c.in_ok-pattern.ensures.read.same clean))

pub pattern_below-requires-clause-at : goal.pattern_below-requires-clause-at
pattern_below-requires-clause-at g c = record {
  begun = c.requires.at.begun;
  class = c.requires.from;
  key_class =
      c.requires.at.key_class;
  key = c.requires.at.key;
}

pub derive-requires-clause-can : goal.derive-requires-clause-can
derive-requires-clause-can g c = record {
  at = record {
    begun = c.in_ok-pattern.ensures.read.mode ∙ c.requires.at.begun;
    class = c.requires.at.class;
    key_class = c.requires.at.key_class;
    key = c.requires.at.key;
  };
  from = c.requires.from;
  other = c.requires.other;
  under = c.requires.under;
  fits = c.requires.fits;
  values = c.requires.values;
  stored = λ clean.
      subst (λ x. IsStored (labels_of c.args.policy.now) (length c.args.scheme.now.others) (x.now.db c.args.relation))
      (sym (c.in_ok-pattern.ensures.read.same clean))
      (c.requires.stored (c.in_ok-pattern.ensures.read.call.clean clean));
}

pub returns-clause-step : goal.returns-clause-step
returns-clause-step g c = record {
  call = later_call g.B.Base.seen c.args.base.now c.pattern_below.new.base c.derive.new.base c.in_ok-pattern.ensures.read.mode c.in_ok-pattern.ensures.read.same
      _ c.derive.result c.in_ok-pattern.ensures.read.call c.derive.ensures.step.served c.derive.ensures.step.call;
  served = c.derive.ensures.step.served;
  mode = c.derive.ensures.step.mode;
}

pub returns-clause-done : goal.returns-clause-done
returns-clause-done g c = λ clean.
    let u = (g.B.Base.seen c.derive.new.base).state in
    subst (λ x. IfOk c.derive.result (IsDerived (labels_of c.args.policy.now) c.args.scheme.now c.args.relation
    (with_class c.args.place c.args.w) c.args.place.class c.args.sets.now x u))
    (c.in_ok-pattern.ensures.read.same (c.derive.ensures.step.call.clean clean)) (c.derive.ensures.done clean)

pub returns-clause-access : goal.returns-clause-access
returns-clause-access g c = avoids_then (low_reads_no_down
    (labels_of c.args.policy.now) c.args.w c.args.w c.in_ok-pattern.ensures.access) c.derive.ensures.access

pub returns-in_err-pattern-clause-access : goal.returns-in_err-pattern-clause-access
returns-in_err-pattern-clause-access g c =
    low_reads_no_down (labels_of c.args.policy.now) c.args.w c.args.w c.in_err-pattern.ensures.access
