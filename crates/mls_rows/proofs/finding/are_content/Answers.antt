use Rattle.std.proofs.Common.{true≢false, map, refl, sym, ap, subst₂, ◌∙◌, arith}
use Rattle.std.proofs.lemmas.List.{length-map}
use Rattle.mls_lattice.specs.Policy.{labels_of}
use Rattle.mls_scheme.specs.Scheme.{scheme_of}
use Rattle.mls_filterview.specs.Stored.{IsContent}
use Rattle.mls_filterview.specs.Assembly.{table_of}
use Rattle.mls_rows.specs.Changes.{table_in}
use Rattle.mls_rows.proofs.FindingLemmas.{up_to, table_at}
use Rattle.mls_rows.proofs.finding.are_content.Goals as goal

pub returns-then-not-branch-clause-are : goal.returns-then-not-branch-clause-are
returns-then-not-branch-clause-are c = (
  λ no. absurd (true≢false (sym no)),
  λ all.
      let here = all c.loop-relation.relation (let l = c.loop-relation-test.true
      in omega (arith, l, length-map c.args.tables.now (λ t. t.entries))) in
      let same = subst₂ (λ s es. IsContent (labels_of c.args.policy.now) s (table_of es))
      (sym (c.scheme-scheme.ensures.row ∙ ap (scheme_of c.args.schemes.now) c.new-relation.ensures))
      (table_at (λ t. t.entries) c.args.tables.now c.loop-relation.relation c.index-tables-relation.result c.loop-relation-test.true c.index-tables-relation.is) here in
      absurd (true≢false (sym (c.in_ok-is_content.ensures.1 same) ∙ c.if-not-branch.true)),
)

pub loop-relation-preserved : goal.loop-relation-preserved
loop-relation-preserved c =
    up_to (λ relation. IsContent (labels_of c.args.policy.now) (scheme_of c.args.schemes.now relation)
    (table_in (map (λ t. t.entries) c.args.tables.now) relation)) c.loop-relation.relation c.loop-relation.invariant
    (subst₂ (λ s es. IsContent (labels_of c.args.policy.now) s (table_of es)) (c.scheme-scheme.ensures.row
    ∙ ap (scheme_of c.args.schemes.now) c.new-relation.ensures)
    (sym (table_at (λ t. t.entries) c.args.tables.now c.loop-relation.relation c.index-tables-relation.result c.loop-relation-test.true c.index-tables-relation.is))
    (c.in_ok-is_content.ensures.0 c.if-not-branch.false))

pub returns-clause-are : goal.returns-clause-are
returns-clause-are c = (
  λ yes relation l. c.loop-relation.invariant relation (let past = c.loop-relation-test.false
      in omega (arith, l, past, length-map c.args.tables.now (λ t. t.entries))),
  λ all. refl,
)
