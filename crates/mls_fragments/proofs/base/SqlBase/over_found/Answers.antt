use Rattle.std.proofs.Common.{ap, subst, sym}
use Rattle.mls_tables.specs.Rows.{Tables}
use Rattle.mls_fragments.specs.Based.{IsNoted}
use Rattle.mls_fragments.proofs.NotedLemmas.{noted_copied}
use Rattle.mls_fragments.proofs.base.SqlBase.over_found.Goals as goal

pub invariant_of-result : goal.invariant_of-result
invariant_of-result g c = record {
  now = λ h. c.requires.noted h;
  kept = λ h. noted_copied c.args.store.kept c.args.found c.copy.new.self c.copy.ensures.content c.copy.ensures.last
      (subst (λ rows. IsNoted rows c.args.found) (sym (c.requires.kept h)) (c.requires.noted h));
  content = λ e. c.copy.ensures.content;
  number = λ e. c.copy.ensures.last;
  row = λ h. ap (λ (t : Tables). t.meta) (sym (c.requires.kept h));
}
