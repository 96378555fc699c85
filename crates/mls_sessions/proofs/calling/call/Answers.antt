use Rattle.std.proofs.Common.{List, Option, length, refl, sym, ap, ◌∙◌, subst}
use Rattle.std.specs.List.{AllByRecursion}
use Rattle.mls_audit.specs.Spelling.{HasSpelling}
use Rattle.mls_scheme.specs.declared.value.Value.{Value}
use Rattle.mls_certcheck.specs.Meaning.{run_tx}
use Rattle.mls_certcheck.specs.declared.stored.Stored.TheVariants.{Certified}
use Rattle.mls_certcheck.specs.Site.{site_labels}
use Rattle.mls_machine.specs.Denying.{stored_named, fitted}
use Rattle.mls_machine.specs.Machine.{call_entries}
use Rattle.mls_trusted.specs.Runs.{with_database, IsEvaluated}
use Rattle.mls_sessions.specs.Sessions.{site_of_run}
use Rattle.mls_sessions.specs.Calling.{with_entries}
use Rattle.mls_sessions.proofs.StoredLemmas.{found_read}
use Rattle.mls_sessions.proofs.CallLemmas.{certified_found, counted, items_known, call_allowed, call_over}
use Rattle.mls_filterview.proofs.AccessLemmas.{avoids_then, avoids_some}
use Rattle.mls_sessions.proofs.AccessLemmas.{found_rules, call_permitted}
use Rattle.mls_sessions.proofs.calling.call.Goals as goal

pub certified_named-certified-requires : goal.certified_named-certified-requires
certified_named-certified-requires g c =
    let site = site_of_run c.args.site.now in
    let e = c.args.event.now in
    let found = certified_found site e.level c.args.user c.in-Call.tx c.in-Call.args
    (call_allowed site e c.args.user c.in-Call.tx c.in-Call.args c.in-Call.is c.requires.may.asked.2) in (
      found.0,
      ap (λ xs. stored_named xs c.deref-2.result.now) c.deref.ensures
          ∙ ap (stored_named c.args.site.now.stored) c.deref-2.ensures ∙ found.1,
    )

pub run_certified-requires-clause-may : goal.run_certified-requires-clause-may
run_certified-requires-clause-may g c =
    let site = site_of_run c.args.site.now in
    let e = c.args.event.now in
    let k = c.certified_named-certified.result.now in
    let stored = sym (ap (λ xs. stored_named xs c.deref-2.result.now) c.deref.ensures
    ∙ ap (stored_named c.args.site.now.stored) c.deref-2.ensures) ∙ c.certified_named-certified.ensures in
    record {
      read = found_read site c.in-Call.tx (Certified k) c.requires.may.read stored;
      count = ap (λ (xs : List (Option Value)). length xs) c.deref-3.ensures
          ∙ counted site e.level c.args.user c.in-Call.tx c.in-Call.args k stored
          (call_allowed site e c.args.user c.in-Call.tx c.in-Call.args c.in-Call.is c.requires.may.asked.2);
    }

pub returns-clause-done : goal.returns-clause-done
returns-clause-done g c = record {
  done = λ clean.
      let site = site_of_run c.args.site.now in
      let e = c.args.event.now in
      let k = c.certified_named-certified.result.now in
      let s = (g.B.Base.seen c.args.base.now).state in
      let m = (g.B.Base.seen c.run_certified.new.base).state in
      let t = (g.B.Base.seen c.enter_run.new.base).state in
      let run = c.in_ok-run.run' in
      let ran : (args : List (Option Value)) → _ = λ args. run_tx (site_labels site) site.schemes k.tx
      (fitted k.tx.params args) s.now.db in
      call_over site e c.args.user c.in-Call.tx c.in-Call.args c.in-Call.is c.requires.may.asked.2 k
      (sym (ap (λ xs. stored_named xs c.deref-2.result.now) c.deref.ensures
      ∙ ap (stored_named c.args.site.now.stored) c.deref-2.ensures) ∙ c.certified_named-certified.ensures)
      s m t run
      (subst (λ (args : List (Option Value)). IsEvaluated (ran args)
      (with_database s (ran args).db) m run) c.deref-3.ensures (c.in_ok-run.ensures.run.done
      (c.in_ok-enter_run.ensures.step.call.clean clean)))
      (c.in_ok-enter_run.ensures.entered.done clean
      ∙ (λ i. with_entries m (call_entries site e c.args.user (c.deref-4.ensures i) (c.deref-5.ensures i))))
      (subst (AllByRecursion HasSpelling) (λ i. call_entries site e c.args.user (c.deref-4.ensures i)
      (c.deref-5.ensures i)) c.in_ok-enter_run.ensures.entered.spelled)
      c.requires.may.fits.level c.in_ok-run.ensures.run.items.released;
  known = (
    items_known c.args.site.now.policy.now c.in_ok-run.run'.emitted c.in_ok-run.ensures.run.items.emitted,
    items_known c.args.site.now.policy.now c.in_ok-run.run'.released c.in_ok-run.ensures.run.items.released,
  );
}

pub returns-clause-access : goal.returns-clause-access
returns-clause-access g c =
    let site = site_of_run c.args.site.now in
    let e = c.args.event.now in
    let k = c.certified_named-certified.result.now in
    let stored = sym (ap (λ xs. stored_named xs c.deref-2.result.now) c.deref.ensures
    ∙ ap (stored_named c.args.site.now.stored) c.deref-2.ensures) ∙ c.certified_named-certified.ensures in
    let rules = found_rules site c.in-Call.tx k c.args.site.now.certified stored in
    call_permitted g.B.Base.seen c.args.base.now c.enter_run.new.base site e.level e refl c.args.user
    c.in-Call.tx c.in-Call.args c.in-Call.is c.requires.may.asked.2 k stored
    (avoids_then (c.in_ok-run.ensures.access k.cert rules) (avoids_some c.in_ok-enter_run.ensures.access))

pub returns-in_err-enter_run-clause-access : goal.returns-in_err-enter_run-clause-access
returns-in_err-enter_run-clause-access g c =
    let site = site_of_run c.args.site.now in
    let e = c.args.event.now in
    let k = c.certified_named-certified.result.now in
    let stored = sym (ap (λ xs. stored_named xs c.deref-2.result.now) c.deref.ensures
    ∙ ap (stored_named c.args.site.now.stored) c.deref-2.ensures) ∙ c.certified_named-certified.ensures in
    let rules = found_rules site c.in-Call.tx k c.args.site.now.certified stored in
    call_permitted g.B.Base.seen c.args.base.now c.enter_run.new.base site e.level e refl c.args.user
    c.in-Call.tx c.in-Call.args c.in-Call.is c.requires.may.asked.2 k stored
    (avoids_then (c.in_ok-run.ensures.access k.cert rules) (avoids_some c.in_err-enter_run.ensures.access))

pub returns-in_err-run-clause-access : goal.returns-in_err-run-clause-access
returns-in_err-run-clause-access g c =
    let site = site_of_run c.args.site.now in
    let e = c.args.event.now in
    let k = c.certified_named-certified.result.now in
    let stored = sym (ap (λ xs. stored_named xs c.deref-2.result.now) c.deref.ensures
    ∙ ap (stored_named c.args.site.now.stored) c.deref-2.ensures) ∙ c.certified_named-certified.ensures in
    let rules = found_rules site c.in-Call.tx k c.args.site.now.certified stored in
    call_permitted g.B.Base.seen c.args.base.now c.run_certified.new.base site e.level e refl c.args.user
    c.in-Call.tx c.in-Call.args c.in-Call.is c.requires.may.asked.2 k stored
    (c.in_err-run.ensures.access k.cert rules)
