use Rattle.std.proofs.Common.{sym, subst, length}
use Rattle.mls_filterview.specs.Calls.{CanSee}
use Rattle.mls_queries.proofs.finding.find_now.Goals as goal

pub find_in_view-requires-clause-see : goal.find_in_view-requires-clause-see
find_in_view-requires-clause-see g c =
    subst (λ b. CanSee g.B.Base.seen b c.args.relation c.args.policy.now c.args.label) (sym c.in_ok-key.ensures.same)
    (record {
      label = c.requires.label;
      stored = λ clean. (length c.args.scheme.now.others, (c.requires.content clean).stored);
    })
