use Rattle.std.proofs.Common.{◌≡◌, rules, subst}
use Rattle.mls_scheme.specs.Scheme.{Schemes}
use Rattle.mls_scheme.specs.Extending.{AreLines}
use Rattle.mls_scheme.proofs.ExtendingLemmas.{none_extended, some_has}
use Rattle.mls_scheme.proofs.scheme.Schemes.extends.Goals as goal

pub returns-then-is_empty-clause-none : goal.returns-then-is_empty-clause-none
returns-then-is_empty-clause-none c = λ none counts extends.
    let same : c.deref.result.now ≡ c.args.self.now = search rules in
    let found = some_has _ _ _ c.in-Some-2.is c.in_ok-counts.ensures.found in
    let lines = subst (λ (schemes : Schemes). AreLines c.args.policy.now schemes c.in-Some.rest.now c.in-Some-2.counts.items) same found in
    none_extended c.args.policy.now c.args.self.now c.args.old.now c.in-Some.rest.now c.in-Some-2.counts.items counts
    c.in-Some.ensures lines (search rules) extends
