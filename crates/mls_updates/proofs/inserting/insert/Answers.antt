use Rattle.std.proofs.Common.{◌≡◌, ◌<◌, length, IfOk, sym, ap, subst}
use Rattle.std.proofs.lemmas.List.{length-map}
use Rattle.std.proofs.lemmas.Slice.Zip.{AllZip-long}
use Rattle.std.proofs.lemmas.Result.{IfOk-weaker}
use Rattle.mls_lattice.specs.Policy.{labels_of}
use Rattle.mls_scheme.specs.Scheme.{Scheme, IsScheme, IsUnder, scheme_of}
use Rattle.mls_updates.specs.Writes.{Insert, place}
use Rattle.mls_updates.specs.Calls.{IsInserted}
use Rattle.mls_updates.proofs.CallLemmas.{under_scheme, null_written, step_written}
use Rattle.mls_updates.proofs.LeftLemmas.{write_left}
use Rattle.mls_updates.proofs.SpellingLemmas.{values_spelled, key_spelled}
use Rattle.mls_updates.specs.Steps.{IsBegunAt}
use Rattle.mls_filterview.specs.Calls.{NoWriteDown}
use Rattle.mls_updates.proofs.inserting.insert.Goals as goal

pub returns-then-has_null : goal.returns-then-has_null
returns-then-has_null g c =
    null_written g.B.Base.seen c.args.policy.now c.args.schemes.now c.args.relation c.args.w
    (Insert c.args.key.now c.args.values.now) c.args.base.now
    (sym c.if-not-is_begun.ensures) c.requires.stored (sym c.if-has_null.ensures)

pub insert_at-requires-clause-values : goal.insert_at-requires-clause-values
insert_at-requires-clause-values g c = values_spelled
    (scheme_of c.args.schemes.now c.args.relation).others c.args.values.now c.requires.kinds.1

pub returns : goal.returns
returns g c =
    let policy = c.args.policy.now in
    let ls = labels_of policy in
    let scheme = scheme_of c.args.schemes.now c.args.relation in
    let w = c.args.w in
    let values = c.args.values.now in
    let wr = Insert c.args.key.now values in
    let s = (g.B.Base.seen c.args.base.now).state in
    let u = (g.B.Base.seen c.insert_at.new.base).state in
    let p = place c.args.key.now w w in
    let here : c.in_ok-place.place ≡ p = subst (λ r. IfOk r (λ q. q ≡ p)) c.in_ok-place.ensures.value c.place_of.ensures
    in
    let same : (g.B.Base.seen c.settle.new.base).state ≡ s =
    ap (λ b. (g.B.Base.seen b).state) c.in_ok-place.ensures.same in
    let declared = subst (λ n. w < n) (sym (length-map policy.labels (λ l. l.value))) c.requires.label in
    step_written g.B.Base.seen policy c.args.schemes.now c.args.relation w wr c.args.base.now
    (sym c.if-not-is_begun.ensures) c.requires.stored
    c.use_invariant.ensures.distinct (
      declared,
      AllZip-long _ scheme.others values c.requires.kinds.1,
    ) c.requires.kinds c.settle.new.base c.insert_at.new.base c.insert_at.result
    c.in_ok-place.ensures.same c.insert_at.ensures.step
    (subst (λ q. NoWriteDown g.B.Base.seen ls q.class q.class c.settle.new.base c.insert_at.new.base) here c.insert_at.ensures.access)
    (λ clean. IfOk-weaker c.insert_at.result (IsInserted ls c.scheme-scheme.result.now c.args.relation c.in_ok-place.place values (g.B.Base.seen c.settle.new.base).state u) _
    (λ o done. write_left ls scheme c.args.relation w s wr u o (sym c.if-has_null.ensures)
    (subst (λ (x : Scheme). IsInserted ls x c.args.relation p values s u o) c.scheme-scheme.ensures.row
    (subst (λ x. IsInserted ls c.scheme-scheme.result.now c.args.relation p values x u o) same
    (subst (λ x. IsInserted ls c.scheme-scheme.result.now c.args.relation x values
    (g.B.Base.seen c.settle.new.base).state u o) here done))))
    (c.insert_at.ensures.done clean))

pub insert_at-requires-clause-under : goal.insert_at-requires-clause-under
insert_at-requires-clause-under g c =
    let count = length c.args.policy.now.labels in
    subst (IsUnder count) (sym c.scheme-scheme.ensures.row)
    (under_scheme count c.args.schemes.now c.args.relation c.requires.under c.requires.declared)

pub insert_at-requires-clause-at : goal.insert_at-requires-clause-at
insert_at-requires-clause-at g c =
    let count = length c.args.policy.now.labels in
    let p = place c.args.key.now c.args.w c.args.w in
    let here : c.in_ok-place.place ≡ p = subst (λ r. IfOk r (λ q. q ≡ p)) c.in_ok-place.ensures.value c.place_of.ensures
    in
    subst (λ b. IsBegunAt g.B.Base.seen b count c.in_ok-place.place) (sym c.in_ok-place.ensures.same)
    (subst (IsBegunAt g.B.Base.seen c.args.base.now count) (sym here) (record {
      begun = sym c.if-not-is_begun.ensures;
      class = c.requires.label;
      key_class = c.requires.label;
      key = key_spelled (scheme_of c.args.schemes.now c.args.relation)
          (subst IsScheme c.scheme-scheme.ensures.row c.scheme-scheme.ensures.valid) c.args.key.now
          (sym c.if-has_null.ensures) c.requires.kinds.0;
    }))
