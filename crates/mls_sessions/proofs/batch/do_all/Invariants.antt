use Rattle.std.proofs.Common.{◌≡◌, [], length, drop}
use Rattle.mls_audit.specs.Sound.{IsSoundContent}
use Rattle.mls_queries.specs.Views.{AreViews}
use Rattle.mls_certcheck.specs.Site.{site_labels}
use Rattle.mls_machine.specs.Machine.{did_all}
use Rattle.mls_sessions.specs.Access.{IsBatchPermitted}
use Rattle.mls_sessions.specs.Sessions.{site_of_run}
use Rattle.mls_sessions.proofs.GoingLemmas.{GoesOn}
use Rattle.mls_sessions.proofs.batch.do_all.Given as goal

abbrev pub invariant-loop-place : goal.invariant-loop-place
invariant-loop-place g l =
    let seen = g.B.Base.seen in
    let site = site_of_run l.site in
    let s = (seen l.fn.base).state.now in
    let t = (seen l.base).state.now in
    record {
      goes_on : GoesOn seen l.fn.base l.base;
      access : IsBatchPermitted seen (site_labels site) l.level l.batch l.fn.base l.base;
      audit : (seen l.base).is_clean → t.audit ≡ s.audit;
      rest : (seen l.base).is_clean → did_all site l.level l.answers.items (drop l.place l.batch) t.db
          ≡ did_all site l.level [] l.batch s.db;
      number : length l.answers.items ≡ l.place;
      sound : (seen l.base).is_clean → IsSoundContent site.policy site.schemes t;
      views : AreViews site.policy seen l.base l.views;
    }
