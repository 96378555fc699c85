use Rattle.std.proofs.Common.{sym, ap, ◌∙◌}
use Rattle.mls_tables.specs.Rows.{Tables}
use Rattle.mls_fragments.proofs.NotedLemmas.{noted_none}
use Rattle.mls_fragments.proofs.base.SqlBase.over_new.Goals as goal

pub invariant_of-result : goal.invariant_of-result
invariant_of-result g c = record {
  now = λ h. (let m = c.requires.new h in noted_none m.0 m.1 m.2 c.args.store.now c.new.result m.3 c.new.ensures.content c.new.ensures.last);
  kept = λ h. (let m = c.requires.new h in noted_none m.0 m.1 m.2 c.args.store.kept c.new-2.result
      (m.4 ∙ m.3) c.new-2.ensures.content c.new-2.ensures.last);
  content = λ e. c.new-2.ensures.content ∙ sym c.new.ensures.content;
  number = λ e. c.new-2.ensures.last ∙ sym c.new.ensures.last;
  row = λ h. (let m = c.requires.new h in ap (λ (t : Tables). t.meta) (sym m.4));
}
