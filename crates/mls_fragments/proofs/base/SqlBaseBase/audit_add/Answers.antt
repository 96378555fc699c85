use Rattle.std.proofs.Common.{◌≡◌, ◌+ℤ◌, pos, ap, subst, ◌∙◌, rules, w64, to_z, of_z, to_z-of_z, SFits}
use Rattle.mls_tables.specs.Statements.{AddsEntry}
use Rattle.mls_fragments.proofs.NotedLemmas.{based_on, noted_entry}
use Rattle.mls_fragments.proofs.base.SqlBaseBase.audit_add.Goals as goal

pub invariant_of-self : goal.invariant_of-self
invariant_of-self g c =
    let here = c.self.inside.now in
    let before : SFits w64 here.last = search rules in
    let fits : SFits w64 c.in-Ok.number = search rules in
    let back : to_z w64 (of_z w64 here.last) ≡ here.last = to_z-of_z before in
    let next = c.append.ensures.last ∙ to_z-of_z fits ∙ c.in-Ok.ensures.number ∙ ap (λ n. n +ℤ pos 1) back in
    based_on c.self.inside.store c.add_entry.new.store here _ c.self.inside.kept c.self.invariant c.in-Ok.ensures.step.call.clean c.in-Ok.ensures.step.mode (λ h. (c.in-Ok.ensures.done h).1)
    (λ h was. noted_entry _ _ here _ was c.args.bytes.now c.append.ensures.content next
    (subst (λ n. AddsEntry (record {
      number = n +ℤ pos 1;
      bytes =
          c.args.bytes.now;
    }) c.self.inside.store.now c.add_entry.new.store.now) back (c.in-Ok.ensures.done h).0))
