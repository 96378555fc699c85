use Rattle.std.proofs.Common.{◌≡◌, Bool, false, length, [], sym, ◌∙◌, subst, IsTrue, true≢false}
use Rattle.std.specs.List.{AllByRecursion}
use Rattle.mls_scheme.specs.Scheme.{Scheme, scheme_of}
use Rattle.mls_certcheck.specs.Kinds.{RowKinds}
use Rattle.mls_certcheck.proofs.KindLemmas.{rows_kinds}
use Rattle.mls_trusted.proofs.fitting.rows_at.Goals as goal

-- a test that holds does not fail
not_both : (b : Bool) → IsTrue b → b ≡ false → ⊥
not_both b h e = true≢false (sym h ∙ e)

pub view-requires-clause-see : goal.view-requires-clause-see
view-requires-clause-see g c = record {
  label = c.requires.label;
  stored = λ clean. (
    length (scheme_of c.args.call.now.schemes.now c.args.relation).others,
    (c.requires.content clean c.args.relation).stored,
  );
}

-- over a clean store the rows are of the kinds of the relation
pub returns-else-are_of_kinds-clause-rows : goal.returns-else-are_of_kinds-clause-rows
returns-else-are_of_kinds-clause-rows g c = λ clean.
    let call = c.args.call.now in
    let T = (g.B.Base.seen c.args.base.now).state.now.db c.args.relation in
    let found = rows_kinds call.policy.now call.schemes.now 0 c.use_invariant.ensures.distinct [] c.args.relation c.args.label T (c.requires.content (c.in_ok-rows.ensures.read.call.clean clean) c.args.relation) in
    let here = subst (AllByRecursion (RowKinds (scheme_of call.schemes.now c.args.relation)))
    (sym (c.as_slice.ensures ∙ c.in_ok-rows.ensures.rows clean)) found in
    absurd (not_both c.are_of_kinds.result (c.are_of_kinds.ensures.1
    (subst (λ (scheme : Scheme). AllByRecursion (RowKinds scheme) c.as_slice.result.now)
    (sym c.scheme.ensures.row) here)) c.if-are_of_kinds.false)
