use Rattle.std.proofs.Common.{◌≡◌, IfOk, subst, ◌∙◌}
use Rattle.mls_filterview.specs.Entities.{mended}
use Rattle.mls_filterview.proofs.mending.mend.Goals as goal

pub returns-clause-rows : goal.returns-clause-rows
returns-clause-rows g c = λ clean.
    let p = c.own_rows.new.place in
    let seen = c.args.seen.items in
    let own = c.in_ok-own.ensures.rows (c.in_ok-mended.ensures.call.clean clean) in
    subst (λ r. IfOk r (λ v. v.items ≡ mended p c.in_ok-own.own.items seen)) c.in_ok-mended.ensures.value c.put_own.ensures
    ∙ (λ i. mended (record {
      key = c.in_ok-own.ensures.key i;
      key_class = c.in_ok-own.ensures.entity i;
      class =
          p.class;
    }) (own i) seen)
