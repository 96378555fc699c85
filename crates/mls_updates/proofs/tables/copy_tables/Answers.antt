use Rattle.std.proofs.Common.{rules, ◌≡◌}
use Rattle.std.proofs.lemmas.Result.{MatchResult-weaker}
use Rattle.std.proofs.lemmas.List.Elements.{same_from_all_zip}
use Rattle.mls_updates.proofs.TablesLemmas.{copied}
use Rattle.mls_updates.proofs.tables.copy_tables.Goals as goal

pub returns : goal.returns
returns c = MatchResult-weaker c.clone.result c.clone.ensures.cases (λ copy h. copied _ (λ p q s. (
  s.0,
  same_from_all_zip _ p.1.entries q.1.entries s.1 (λ x y u.
      let key : y.0 ≡ x.0 = search (rules, same_from_all_zip) in
      let value : y.1 ≡ x.1 = search (rules, same_from_all_zip) in
      λ i. (key i, value i)),
)) c.args.tables.now copy h) (λ e h. tt)
