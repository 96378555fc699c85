use Rattle.std.proofs.Common.{◌≡◌, sym, ap, ◌∙◌, subst, true≢false}
use Rattle.mls_lattice.specs.Policy.{labels_of}
use Rattle.mls_updates.specs.Writes.{named}
use Rattle.mls_queries.specs.Views.{kept_in, AreFollowed}
use Rattle.mls_queries.proofs.ViewsLemmas.{named_followed}
use Rattle.mls_queries.proofs.views.Views.follow.Goals as goal

pub returns-in-Some : goal.returns-in-Some
returns-in-Some c =
    let ls = labels_of c.args.policy.now in
    let p = named c.args.level c.args.write.now in
    let left = c.follow_in.new.cache.entries in
    let kept : c.args.self.now ≡ c.in-Some.cache.entries = sym c.self.view_is ∙ ap kept_in c.in-Some.is in
    record {
      refused = λ f. absurd (true≢false (sym c.if-is_done.true ∙ c.is_done.ensures ∙ f));
      done = λ d. subst (λ es. AreFollowed ls c.args.relation c.args.level p es left) (sym kept)
          (named_followed ls c.args.relation c.args.level p c.place_named-written.result c.place_named-written.ensures.named c.in-Some.cache.entries left c.follow_in.ensures.followed);
    }
