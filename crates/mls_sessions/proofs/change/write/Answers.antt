use Rattle.std.proofs.Common.{length, subst}
use Rattle.mls_scheme.specs.Scheme.{scheme_of}
use Rattle.mls_queries.proofs.WrittenLemmas.{kept_written}
use Rattle.mls_translang.specs.Event.{CommandFits}
use Rattle.mls_sessions.proofs.KeptLemmas.{key_class_within, can_write}
use Rattle.mls_sessions.proofs.change.write.Goals as goal

pub write-requires : goal.write-requires
write-requires g c =
    let policy = c.args.site.now.policy.now in
    let schemes = c.args.site.now.schemes.now in
    let relation = c.in-Write.relation in
    let fits = subst (CommandFits policy schemes) c.in-Write.is c.requires.may.fits.command in
    can_write g.B.Base.seen c.args.base.now policy schemes relation c.args.event.now.level c.requires.may.fits.level fits.0 c.args.site.now.under
    (λ h. (c.requires.found.sound h).content relation) c.in-Write.write fits.1

pub returns-clause-views : goal.returns-clause-views
returns-clause-views g c =
    let policy = c.args.site.now.policy.now in
    let schemes = c.args.site.now.schemes.now in
    let relation = c.in-Write.relation in
    let at = c.args.event.now.level in
    let wr = c.in-Write.write in
    let scheme = scheme_of schemes relation in
    let fits = subst (CommandFits policy schemes) c.in-Write.is c.requires.may.fits.command in
    let done = c.in_ok-outcome.ensures in
    kept_written policy g.B.Base.seen scheme (length scheme.others) relation at wr c.args.base.now c.write.new.base c.in_ok-outcome.outcome c.args.views.now c.follow.new.self
    done.change.call.clean (λ k. ((c.requires.found.sound
    (done.change.call.clean k)).content relation).stored) done.done
    (key_class_within policy scheme at c.requires.may.fits.level wr fits.1) c.requires.found.views c.follow.ensures
