use Rattle.std.proofs.Common.{◌≡◌, OnOk, IfOk, ap, ◌∙◌, subst}
use Rattle.mls_filterview.specs.Content.{with_entry}
use Rattle.mls_audit.specs.Spelling.{HasSpelling, entry_spelling}
use Rattle.mls_machine.specs.Machine.{denial_entry}
use Rattle.mls_sessions.specs.Sessions.{site_of_run}
use Rattle.mls_sessions.proofs.StepLemmas.{denied_over}
use Rattle.mls_sessions.proofs.change.enter.Goals as goal

pub returns-clause-done : goal.returns-clause-done
returns-clause-done g c = record {
  done = λ clean.
      let site = site_of_run c.args.site.now in
      let entry = denial_entry site c.args.event.now c.args.user c.args.denial in
      denied_over site (g.B.Base.seen c.args.base.now).state
      (g.B.Base.seen c.audit_add.new.self).state c.args.event.now c.args.user c.args.denial c.in_ok-bytes.bytes.items c.requires.may.fits.level
      (subst (λ r. OnOk r (HasSpelling entry)) c.in_ok-bytes.ensures.value c.denial_bytes.ensures.spelled)
      (subst (λ r. IfOk r (λ v. v.items ≡ entry_spelling entry)) c.in_ok-bytes.ensures.value c.denial_bytes.ensures.bytes)
      (c.in_ok-audit_add.ensures.done clean ∙ ap
      (with_entry (g.B.Base.seen c.settle.new.base).state) c.deref.ensures.value
      ∙ ap (λ b. with_entry (g.B.Base.seen b).state c.in_ok-bytes.bytes.items) c.in_ok-bytes.ensures.same);
  known = tt;
}
