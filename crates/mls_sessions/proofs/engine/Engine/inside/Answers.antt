use Rattle.std.proofs.Common.{refl, sym, ap, ◌∙◌, subst, None}
use Rattle.std.proofs.lemmas.Result.{IfOk-weaker}
use Rattle.mls_translang.specs.declared.event.Command.TheVariants.{All}
use Rattle.mls_translang.specs.Event.{CommandFits}
use Rattle.mls_machine.specs.Machine.{with_session, denied, viewed, dumped, listed, did, step_inside}
use Rattle.mls_sessions.specs.Sessions.{sessions_of}
use Rattle.mls_sessions.specs.Turns.{is_call}
use Rattle.mls_sessions.specs.Engine.{site, world_of}
use Rattle.mls_sessions.proofs.SessionLemmas.{user_known}
use Rattle.mls_sessions.proofs.EngineLemmas.{none_from, denied_is, viewed_is, dumped_is, did_is, listed_is, closed_is, wrote_is, answers_over, answers_stay, answers_closed}
use Rattle.mls_filterview.proofs.AccessLemmas.{avoids_some}
use Rattle.mls_machine.proofs.DenyingLemmas.{view_below, batch_below}
use Rattle.mls_sessions.specs.Denying.{denial_in}
use Rattle.mls_sessions.proofs.AccessLemmas.{batch_permitted, dump_permitted, view_permitted}
use Rattle.mls_sessions.proofs.BatchLemmas.{may_do}
use Rattle.mls_sessions.proofs.engine.Engine.inside.Goals as goal

pub denial_of-requires-clause-user : goal.denial_of-requires-clause-user
denial_of-requires-clause-user g c = user_known _ c.args.self.now.sessions.items c.args.event.now.level c.args.event.now.session c.args.user c.requires.ready.users c.requires.held

pub change-requires-clause-may : goal.change-requires-clause-may
change-requires-clause-may g c = record {
  fits = c.requires.fits;
  read = c.requires.ready.read;
  asked = user_known _ c.args.self.now.sessions.items c.args.event.now.level c.args.event.now.session c.args.user c.requires.ready.users c.requires.held;
}

pub returns-in-Some-clause-answers : goal.returns-in-Some-clause-answers
returns-in-Some-clause-answers g c =
    answers_over g.B.Base.seen c.args.self.now c.requires.ready c.args.event.now c.requires.fits c.change.new.base
    (λ w. denied (site c.args.self.now) w c.args.event.now c.args.user c.in-Some.denial)
    (denied_is (site c.args.self.now) (world_of g.B.Base.seen c.args.self.now) c.args.event.now c.args.user c.requires.held c.in-Some.denial (sym c.denial_of.ensures ∙ c.in-Some.is)) c.change.new.views c.change.result c.change.ensures.over.turn c.change.ensures.over.idle c.change.ensures.done.done c.change.ensures.views

pub returns-in-View-clause-answers : goal.returns-in-View-clause-answers
returns-in-View-clause-answers g c =
    answers_over g.B.Base.seen c.args.self.now c.requires.ready c.args.event.now c.requires.fits c.look.new.base
    (λ w. viewed (site c.args.self.now) w c.in-View.relation c.in-View.label c.in-View.query)
    (viewed_is (site c.args.self.now) (world_of g.B.Base.seen c.args.self.now) c.args.event.now c.args.user c.requires.held c.in-View.relation c.in-View.label c.in-View.query c.in-View.counts c.in-View.is (sym c.denial_of.ensures ∙ none_from c.denial_of.result c.in_default.not-Some)) c.look.new.views c.look.result c.look.ensures.looked.over.turn c.look.ensures.looked.over.idle c.look.ensures.looked.done c.look.ensures.views

pub returns-in-Audit-clause-answers : goal.returns-in-Audit-clause-answers
returns-in-Audit-clause-answers g c =
    answers_stay g.B.Base.seen c.args.self.now c.requires.ready c.args.event.now c.requires.fits c.audit.new.base
    (λ w. listed (site c.args.self.now) w c.args.event.now.level) (listed_is (site c.args.self.now)
    (world_of g.B.Base.seen c.args.self.now) c.args.event.now c.args.user c.requires.held c.in-Audit.is) c.args.self.now.views c.audit.result c.audit.ensures.looked.over.turn c.audit.ensures.looked.over.idle c.audit.ensures.looked.done refl refl

pub returns-in-Dump-clause-answers : goal.returns-in-Dump-clause-answers
returns-in-Dump-clause-answers g c =
    answers_stay g.B.Base.seen c.args.self.now c.requires.ready c.args.event.now c.requires.fits c.dump.new.base
    (λ w. dumped (site c.args.self.now) w c.in-Dump.relation c.args.event.now.level) (dumped_is (site c.args.self.now)
    (world_of g.B.Base.seen c.args.self.now) c.args.event.now c.args.user c.requires.held c.in-Dump.relation c.in-Dump.is (sym c.denial_of.ensures ∙ none_from c.denial_of.result c.in_default.not-Some)) c.args.self.now.views c.dump.result c.dump.ensures.looked.over.turn c.dump.ensures.looked.over.idle c.dump.ensures.looked.done refl refl

pub returns-in-Write-clause-answers : goal.returns-in-Write-clause-answers
returns-in-Write-clause-answers g c =
    answers_over g.B.Base.seen c.args.self.now c.requires.ready c.args.event.now c.requires.fits c.change-in-Write.new.base
    (λ w. step_inside (site c.args.self.now) w c.args.event.now c.args.event.now.command c.args.user)
    (wrote_is (site c.args.self.now) (world_of g.B.Base.seen c.args.self.now) c.args.event.now c.args.user c.requires.held) c.change-in-Write.new.views c.change-in-Write.result c.change-in-Write.ensures.over.turn c.change-in-Write.ensures.over.idle (λ clean. IfOk-weaker c.change-in-Write.result _ _ (λ r each. each c.args.user (sym c.denial_of.ensures ∙ none_from c.denial_of.result c.in_default.not-Some)) (c.change-in-Write.ensures.done.done clean)) c.change-in-Write.ensures.views

pub returns-in-Close-clause-answers : goal.returns-in-Close-clause-answers
returns-in-Close-clause-answers g c =
    answers_closed g.B.Base.seen c.args.self.now c.requires.ready c.args.event.now c.requires.fits c.close.new.sessions
    (c.close.ensures.users _ c.requires.ready.users)
    (c.close.ensures.closed ∙ ap (λ name. with_session
    (sessions_of c.args.self.now.sessions.items) c.args.event.now.level name None) c.deref.ensures)
    (closed_is (site c.args.self.now) (world_of g.B.Base.seen c.args.self.now) c.args.event.now c.args.user c.requires.held c.in-Close.is)

pub change-requires-in-Call-clause-may : goal.change-requires-in-Call-clause-may
change-requires-in-Call-clause-may g c = record {
  fits = c.requires.fits;
  read = c.requires.ready.read;
  asked = (
    user_known _ c.args.self.now.sessions.items c.args.event.now.level c.args.event.now.session c.args.user c.requires.ready.users c.requires.held,
    ap is_call c.in-Call.is,
    sym c.denial_of.ensures ∙ none_from c.denial_of.result c.in_default.not-Some,
  );
}

pub returns-in-Call-clause-answers : goal.returns-in-Call-clause-answers
returns-in-Call-clause-answers g c =
    answers_over g.B.Base.seen c.args.self.now c.requires.ready c.args.event.now c.requires.fits c.change-in-Call.new.base
    (λ w. step_inside (site c.args.self.now) w c.args.event.now c.args.event.now.command c.args.user)
    (wrote_is (site c.args.self.now) (world_of g.B.Base.seen c.args.self.now) c.args.event.now c.args.user c.requires.held) c.change-in-Call.new.views c.change-in-Call.result c.change-in-Call.ensures.over.turn c.change-in-Call.ensures.over.idle c.change-in-Call.ensures.done.done c.change-in-Call.ensures.views

pub returns-in-View-clause-access : goal.returns-in-View-clause-access
returns-in-View-clause-access g c =
    let at = site c.args.self.now in
    let e = c.args.event.now in
    let none = sym (ap (denial_in at e.level c.args.user) c.in-View.is) ∙ sym c.denial_of.ensures
    ∙ none_from c.denial_of.result c.in_default.not-Some in
    view_permitted g.B.Base.seen c.args.self.now.base c.look.new.base at e.level e.command c.in-View.relation
    c.in-View.label c.in-View.query c.in-View.counts c.in-View.is
    (view_below at e.level c.args.user c.in-View.relation c.in-View.label none) c.look.ensures.access

pub returns-in-Dump-clause-access : goal.returns-in-Dump-clause-access
returns-in-Dump-clause-access g c =
    dump_permitted g.B.Base.seen c.args.self.now.base c.dump.new.base (site c.args.self.now) c.args.event.now.level
    c.args.event.now.command c.in-Dump.relation c.in-Dump.is c.dump.ensures.access

pub returns-in-Audit-clause-access : goal.returns-in-Audit-clause-access
returns-in-Audit-clause-access g c = avoids_some c.audit.ensures.access

pub do_batch-requires-clause-may : goal.do_batch-requires-clause-may
do_batch-requires-clause-may g c =
    let at = site c.args.self.now in
    let e = c.args.event.now in
    let batch = c.deref-in-All.result.now in
    let is = c.in-All.is ∙ ap All (sym c.deref-in-All.ensures) in
    let none = sym (ap (denial_in at e.level c.args.user) is) ∙ sym c.denial_of.ensures
    ∙ none_from c.denial_of.result c.in_default.not-Some in
    let fits = subst (CommandFits at.policy at.schemes) is c.requires.fits.command in
    record {
      declared = c.requires.fits.level;
      each = may_do at e.level batch c.requires.fits.level fits.each (batch_below at e.level c.args.user batch none);
    }

pub returns-in-All-clause-answers : goal.returns-in-All-clause-answers
returns-in-All-clause-answers g c =
    answers_over g.B.Base.seen c.args.self.now c.requires.ready c.args.event.now c.requires.fits c.do_batch.new.base
    (λ w. did (site c.args.self.now) w c.args.event.now.level c.deref-in-All.result.now)
    (did_is (site c.args.self.now) (world_of g.B.Base.seen c.args.self.now) c.args.event.now c.args.user c.requires.held
    c.deref-in-All.result.now (c.in-All.is ∙ ap All (sym c.deref-in-All.ensures))
    (sym c.denial_of.ensures ∙ none_from c.denial_of.result c.in_default.not-Some)) c.do_batch.new.views
    c.do_batch.result c.do_batch.ensures.answered.over.turn c.do_batch.ensures.answered.over.idle
    c.do_batch.ensures.answered.done c.do_batch.ensures.views

pub returns-in-All-clause-access : goal.returns-in-All-clause-access
returns-in-All-clause-access g c =
    let at = site c.args.self.now in
    let e = c.args.event.now in
    batch_permitted g.B.Base.seen c.args.self.now.base c.do_batch.new.base at e.level e.command
    c.deref-in-All.result.now (c.in-All.is ∙ ap All (sym c.deref-in-All.ensures)) c.do_batch.ensures.access
