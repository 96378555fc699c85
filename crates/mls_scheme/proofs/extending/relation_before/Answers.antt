use Rattle.std.proofs.Common.{◌≡◌, ◌≢◌, ◌++◌, ℕ, List, true, codes, refl, ap, ◌∙◌, subst}
use Rattle.mls_lattice.specs.Extending.{BeginWith}
use Rattle.mls_scheme.specs.Scheme.{Attribute}
use Rattle.mls_scheme.specs.Canon.{attribute_line, head_lines}
use Rattle.mls_scheme.proofs.ExtendingLemmas.{relation_headless, relation_one, relation_uncovered}
use Rattle.mls_scheme.proofs.extending.relation_before.Goals as goal

pub returns-in_default-clause-only : goal.returns-in_default-clause-only
returns-in_default-clause-only c =
    let is : c.deref.result.now ≡ head_lines c.args.policy.now c.args.scheme.now = rw (
      c.deref.ensures,
      c.in_ok-head_to.ensures,
      c.new-head.ensures.bytes,
    ) refl in
    λ n rest past begins.
    relation_headless c.args.policy.now c.args.scheme.now c.args.text.now (subst (λ (s : List ℕ). (more : List ℕ)
    → c.args.text.now ≢ s ++ more) is c.in_default.ensures) n rest begins

pub returns-then-covers_key-clause-only : goal.returns-then-covers_key-clause-only
returns-then-covers_key-clause-only c =
    let is : c.deref.result.now ≡ head_lines c.args.policy.now c.args.scheme.now = rw (
      c.deref.ensures,
      c.in_ok-head_to.ensures,
      c.new-head.ensures.bytes,
    ) refl in
    let headed : c.args.text.now ≡ head_lines c.args.policy.now c.args.scheme.now ++ c.in-Some.rest.now =
    c.in-Some.ensures ∙ ap (λ (s : List ℕ). s ++ c.in-Some.rest.now) is in
    let lines = subst (λ (xs : List Attribute). BeginWith (attribute_line c.args.policy.now
    (codes "attribute")) xs c.in-Some.rest.now c.in_ok-count.count c.in_ok-count.rest.now) c.others.ensures.others c.in_ok-count.ensures in
    relation_one c.args.policy.now c.args.scheme.now c.args.text.now c.in-Some.rest.now headed c.in_ok-count.count c.in_ok-count.rest.now lines

pub returns-clause-only : goal.returns-clause-only
returns-clause-only c =
    let is : c.deref.result.now ≡ head_lines c.args.policy.now c.args.scheme.now = rw (
      c.deref.ensures,
      c.in_ok-head_to.ensures,
      c.new-head.ensures.bytes,
    ) refl in
    let headed : c.args.text.now ≡ head_lines c.args.policy.now c.args.scheme.now ++ c.in-Some.rest.now =
    c.in-Some.ensures ∙ ap (λ (s : List ℕ). s ++ c.in-Some.rest.now) is in
    let lines = subst (λ (xs : List Attribute). BeginWith (attribute_line c.args.policy.now
    (codes "attribute")) xs c.in-Some.rest.now c.in_ok-count.count c.in_ok-count.rest.now) c.others.ensures.others c.in_ok-count.ensures in
    let off = c.if-covers_key.false in
    relation_uncovered c.args.policy.now c.args.scheme.now c.args.text.now c.in-Some.rest.now headed c.in_ok-count.count c.in_ok-count.rest.now lines
    (λ covers. let on : c.covers_key.result ≡ true = c.covers_key.ensures.1 covers in absurd cc)
