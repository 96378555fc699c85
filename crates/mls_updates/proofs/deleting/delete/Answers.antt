use Rattle.std.proofs.Common.{◌≡◌, length, IfOk, sym, ap, subst}
use Rattle.std.proofs.lemmas.Result.{IfOk-weaker}
use Rattle.mls_lattice.specs.Policy.{labels_of}
use Rattle.mls_scheme.specs.Scheme.{Scheme, IsScheme, scheme_of}
use Rattle.mls_filterview.specs.Stored.{IsStored}
use Rattle.mls_updates.specs.Writes.{Delete, place}
use Rattle.mls_updates.specs.Calls.{IsDeleted}
use Rattle.mls_updates.proofs.CallLemmas.{null_written, step_written}
use Rattle.mls_updates.proofs.LeftLemmas.{write_left}
use Rattle.mls_updates.proofs.SpellingLemmas.{key_spelled}
use Rattle.mls_updates.specs.Steps.{IsBegunAt}
use Rattle.mls_filterview.specs.Calls.{NoWriteDown}
use Rattle.mls_updates.proofs.deleting.delete.Goals as goal

pub returns-then-has_null : goal.returns-then-has_null
returns-then-has_null g c =
    null_written g.B.Base.seen c.args.policy.now c.args.schemes.now c.args.relation c.args.w
    (Delete c.args.key.now c.args.key_class) c.args.base.now
    (sym c.if-not-is_begun.ensures) c.requires.stored (sym c.if-has_null.ensures)

pub delete_at-requires-clause-stored : goal.delete_at-requires-clause-stored
delete_at-requires-clause-stored g c = λ clean.
    let scheme = scheme_of c.args.schemes.now c.args.relation in
    let same : (g.B.Base.seen c.settle.new.base).state ≡ (g.B.Base.seen c.args.base.now).state =
    ap (λ b. (g.B.Base.seen b).state) c.in_ok-place.ensures.same in (
      length scheme.others,
      subst (λ x. IsStored (labels_of c.args.policy.now) (length scheme.others)
          (x.now.db c.args.relation)) (sym same) (c.requires.stored (c.in_ok-place.ensures.call.clean clean)).stored,
    )

pub returns : goal.returns
returns g c =
    let ls = labels_of c.args.policy.now in
    let scheme = scheme_of c.args.schemes.now c.args.relation in
    let wr = Delete c.args.key.now c.args.key_class in
    let s = (g.B.Base.seen c.args.base.now).state in
    let u = (g.B.Base.seen c.delete_at.new.base).state in
    let p = place c.args.key.now c.args.key_class c.args.w in
    let here : c.in_ok-place.place ≡ p = subst (λ r. IfOk r (λ q. q ≡ p)) c.in_ok-place.ensures.value c.place_of.ensures
    in
    let same : (g.B.Base.seen c.settle.new.base).state ≡ s =
    ap (λ b. (g.B.Base.seen b).state) c.in_ok-place.ensures.same in
    step_written g.B.Base.seen c.args.policy.now c.args.schemes.now c.args.relation c.args.w wr c.args.base.now
    (sym c.if-not-is_begun.ensures) c.requires.stored
    c.use_invariant.ensures.distinct tt tt c.settle.new.base c.delete_at.new.base c.delete_at.result c.in_ok-place.ensures.same c.delete_at.ensures.step
    (subst (λ q. NoWriteDown g.B.Base.seen ls q.class q.class c.settle.new.base c.delete_at.new.base) here c.delete_at.ensures.access)
    (λ clean. IfOk-weaker c.delete_at.result (λ o. (x : Scheme) → IsDeleted ls x c.args.relation c.in_ok-place.place
    (g.B.Base.seen c.settle.new.base).state u o) _
    (λ o done. write_left ls scheme c.args.relation c.args.w s wr u o (sym c.if-has_null.ensures)
    (subst (λ x. IsDeleted ls scheme c.args.relation p x u o) same
    (subst (λ x. IsDeleted ls scheme c.args.relation x (g.B.Base.seen c.settle.new.base).state u o) here
    (done scheme))))
    (c.delete_at.ensures.done clean))

pub delete_at-requires-clause-at : goal.delete_at-requires-clause-at
delete_at-requires-clause-at g c =
    let count = length c.args.policy.now.labels in
    let p = place c.args.key.now c.args.key_class c.args.w in
    let here : c.in_ok-place.place ≡ p = subst (λ r. IfOk r (λ q. q ≡ p)) c.in_ok-place.ensures.value c.place_of.ensures
    in
    subst (λ b. IsBegunAt g.B.Base.seen b count c.in_ok-place.place) (sym c.in_ok-place.ensures.same)
    (subst (IsBegunAt g.B.Base.seen c.args.base.now count) (sym here) (record {
      begun = sym c.if-not-is_begun.ensures;
      class = c.requires.label;
      key_class = c.requires.key_class;
      key = key_spelled (scheme_of c.args.schemes.now c.args.relation)
          (subst IsScheme c.scheme-scheme.ensures.row c.scheme-scheme.ensures.valid) c.args.key.now
          (sym c.if-has_null.ensures) c.requires.key;
    }))
