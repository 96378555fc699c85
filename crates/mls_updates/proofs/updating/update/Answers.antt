use Rattle.std.proofs.Common.{◌≡◌, ◌<◌, length, Some, IfOk, sym, ap, ◌∙◌, subst, eqb-true, eq-eqb, true≢false}
use Rattle.std.specs.List.{AllByRecursion}
use Rattle.std.specs.FinMap.{get}
use Rattle.std.proofs.lemmas.List.{length-map}
use Rattle.std.proofs.lemmas.Result.{IfOk-weaker}
use Rattle.mls_lattice.specs.Policy.{labels_of}
use Rattle.mls_scheme.specs.Scheme.{Scheme, IsScheme, scheme_of}
use Rattle.mls_filterview.specs.Stored.{with_class}
use Rattle.mls_updates.specs.Writes.{Update, place}
use Rattle.mls_updates.specs.Calls.{IsChanged, IsDerived}
use Rattle.mls_updates.proofs.CallLemmas.{under_scheme, null_written, step_written}
use Rattle.mls_updates.proofs.LeftLemmas.{own_left, below_left}
use Rattle.mls_updates.proofs.SpellingLemmas.{key_spelled, sets_spelled, sets_values}
use Rattle.mls_updates.specs.Steps.{IsBegunAt, CanDerive}
use Rattle.mls_filterview.specs.Calls.{NoWriteDown}
use Rattle.mls_updates.proofs.updating.update.Goals as goal

pub returns-then-has_null : goal.returns-then-has_null
returns-then-has_null g c =
    null_written g.B.Base.seen c.args.policy.now c.args.schemes.now c.args.relation c.args.w
    (Update c.args.key.now c.args.key_class c.args.from c.args.sets.now) c.args.base.now
    (sym c.if-not-is_begun.ensures) c.requires.stored (sym c.if-has_null.ensures)

pub update_own-requires-clause-sets : goal.update_own-requires-clause-sets
update_own-requires-clause-sets g c = sets_spelled (scheme_of c.args.schemes.now c.args.relation)
    (subst IsScheme c.scheme-scheme.ensures.row c.scheme-scheme.ensures.valid) c.args.sets.now c.requires.fits c.requires.kinds

pub update_own-requires-clause-fits : goal.update_own-requires-clause-fits
update_own-requires-clause-fits g c = λ clean es found.
    let same : (g.B.Base.seen c.settle.new.base).state ≡ (g.B.Base.seen c.args.base.now).state =
    ap (λ b. (g.B.Base.seen b).state) c.in_ok-place.ensures.same in
    let stored = (c.requires.stored (c.in_ok-place.ensures.call.clean clean)).stored in
    subst (λ n. AllByRecursion (λ s. s.0 < n) c.args.sets.now)
    (sym (stored c.in_ok-place.place es (subst (λ x. get (x.now.db c.args.relation) c.in_ok-place.place
    ≡ Some es) same found)).count) c.requires.fits

pub returns-then-eq : goal.returns-then-eq
returns-then-eq g c =
    let policy = c.args.policy.now in
    let ls = labels_of policy in
    let scheme = scheme_of c.args.schemes.now c.args.relation in
    let key = c.args.key.now in
    let kc = c.args.key_class in
    let sets = c.args.sets.now in
    let wr = Update key kc c.args.from sets in
    let s = (g.B.Base.seen c.args.base.now).state in
    let u = (g.B.Base.seen c.update_own.new.base).state in
    let e = eqb-true c.args.from c.args.w (sym c.if-eq.ensures) in
    let q = place key kc c.args.from in
    let here : c.in_ok-place.place ≡ q = subst (λ r. IfOk r (λ x. x ≡ q)) c.in_ok-place.ensures.value c.place_of.ensures
    in
    let there : c.in_ok-place.place ≡ place key kc c.args.w = here ∙ ap (place key kc) e in
    let same : (g.B.Base.seen c.settle.new.base).state ≡ s =
    ap (λ b. (g.B.Base.seen b).state) c.in_ok-place.ensures.same in
    let declared = subst (λ n. c.args.w < n) (sym (length-map policy.labels (λ l. l.value))) c.requires.label in
    step_written g.B.Base.seen policy c.args.schemes.now c.args.relation c.args.w wr c.args.base.now
    (sym c.if-not-is_begun.ensures) c.requires.stored
    c.use_invariant.ensures.distinct (
      declared,
      c.requires.named,
      c.requires.fits,
    ) c.requires.kinds c.settle.new.base c.update_own.new.base c.update_own.result
    c.in_ok-place.ensures.same c.update_own.ensures.step
    (subst (λ q. NoWriteDown g.B.Base.seen ls q.class q.class c.settle.new.base c.update_own.new.base) there c.update_own.ensures.access)
    (λ clean. IfOk-weaker c.update_own.result (λ o. (x : Scheme)
    → IsChanged ls x c.args.relation c.in_ok-place.place sets (g.B.Base.seen c.settle.new.base).state u o) _
    (λ o done. own_left ls scheme c.args.relation c.args.w s key kc c.args.from sets u o (sym c.if-has_null.ensures) e
    (subst (λ x. IsChanged ls scheme c.args.relation (place key kc c.args.w) sets x u o) same
    (subst (λ x. IsChanged ls scheme c.args.relation x sets (g.B.Base.seen c.settle.new.base).state u o) there
    (done scheme))))
    (c.update_own.ensures.done clean))

pub returns : goal.returns
returns g c =
    let policy = c.args.policy.now in
    let ls = labels_of policy in
    let scheme = scheme_of c.args.schemes.now c.args.relation in
    let key = c.args.key.now in
    let kc = c.args.key_class in
    let w = c.args.w in
    let sets = c.args.sets.now in
    let wr = Update key kc c.args.from sets in
    let s = (g.B.Base.seen c.args.base.now).state in
    let u = (g.B.Base.seen c.update_below.new.base).state in
    let q = place key kc c.args.from in
    let here : c.in_ok-place.place ≡ q = subst (λ r. IfOk r (λ x. x ≡ q)) c.in_ok-place.ensures.value c.place_of.ensures
    in
    let same : (g.B.Base.seen c.settle.new.base).state ≡ s =
    ap (λ b. (g.B.Base.seen b).state) c.in_ok-place.ensures.same in
    let declared = subst (λ n. w < n) (sym (length-map policy.labels (λ l. l.value))) c.requires.label in
    step_written g.B.Base.seen policy c.args.schemes.now c.args.relation w wr c.args.base.now
    (sym c.if-not-is_begun.ensures) c.requires.stored
    c.use_invariant.ensures.distinct (
      declared,
      c.requires.named,
      c.requires.fits,
    ) c.requires.kinds c.settle.new.base c.update_below.new.base c.update_below.result
    c.in_ok-place.ensures.same c.update_below.ensures.step c.update_below.ensures.access
    (λ clean. IfOk-weaker c.update_below.result (IsDerived ls c.scheme-scheme.result.now c.args.relation
    (with_class c.in_ok-place.place w) c.in_ok-place.place.class sets (g.B.Base.seen c.settle.new.base).state u) _
    (λ o done. below_left ls scheme c.args.relation w s key kc c.args.from sets u o (sym c.if-has_null.ensures)
    (λ e. true≢false (sym (eq-eqb c.args.from w e) ∙ sym c.if-eq.ensures))
    (subst (λ (x : Scheme). IsDerived ls x c.args.relation
    (with_class q w) c.args.from sets s u o) c.scheme-scheme.ensures.row
    (subst (λ x. IsDerived ls c.scheme-scheme.result.now c.args.relation (with_class q w) c.args.from sets x u o) same
    (subst (λ x. IsDerived ls c.scheme-scheme.result.now c.args.relation (with_class x w) x.class sets
    (g.B.Base.seen c.settle.new.base).state u o) here done))))
    (c.update_below.ensures.done clean))

pub update_own-requires-clause-at : goal.update_own-requires-clause-at
update_own-requires-clause-at g c =
    let count = length c.args.policy.now.labels in
    let p = place c.args.key.now c.args.key_class c.args.from in
    let here : c.in_ok-place.place ≡ p = subst (λ r. IfOk r (λ q. q ≡ p)) c.in_ok-place.ensures.value c.place_of.ensures
    in
    subst (λ b. IsBegunAt g.B.Base.seen b count c.in_ok-place.place) (sym c.in_ok-place.ensures.same)
    (subst (IsBegunAt g.B.Base.seen c.args.base.now count) (sym here) (record {
      begun = sym c.if-not-is_begun.ensures;
      class = c.requires.from;
      key_class = c.requires.key_class;
      key = key_spelled (scheme_of c.args.schemes.now c.args.relation)
          (subst IsScheme c.scheme-scheme.ensures.row c.scheme-scheme.ensures.valid) c.args.key.now
          (sym c.if-has_null.ensures) c.requires.key;
    }))

pub update_below-requires : goal.update_below-requires
update_below-requires g c =
    let count = length c.args.policy.now.labels in
    let relation = c.args.relation in
    let w = c.args.w in
    let policy = c.args.policy.now in
    let sets = c.args.sets.now in
    let scheme = scheme_of c.args.schemes.now relation in
    let valid = subst IsScheme c.scheme-scheme.ensures.row c.scheme-scheme.ensures.valid in
    let p = place c.args.key.now c.args.key_class c.args.from in
    let here : c.in_ok-place.place ≡ p = subst (λ r. IfOk r (λ q. q ≡ p)) c.in_ok-place.ensures.value c.place_of.ensures
    in
    subst (λ b. CanDerive g.B.Base.seen b relation
    (with_class c.in_ok-place.place w) policy c.scheme-scheme.result.now c.in_ok-place.place.class sets)
    (sym c.in_ok-place.ensures.same)
    (subst (λ q. CanDerive g.B.Base.seen c.args.base.now relation
    (with_class q w) policy c.scheme-scheme.result.now q.class sets) (sym here)
    (subst (λ (x : Scheme). CanDerive g.B.Base.seen c.args.base.now relation (with_class p w) policy x p.class sets)
    (sym c.scheme-scheme.ensures.row) (record {
      at = record {
        begun = sym c.if-not-is_begun.ensures;
        class = c.requires.label;
        key_class = c.requires.key_class;
        key = key_spelled scheme valid c.args.key.now (sym c.if-has_null.ensures) c.requires.key;
      };
      from = c.requires.from;
      other = λ e. true≢false (sym (eq-eqb c.args.from w e) ∙ sym c.if-eq.ensures);
      under = under_scheme count c.args.schemes.now relation c.requires.under c.requires.declared;
      fits = c.requires.fits;
      values = sets_values sets (sets_spelled scheme valid sets c.requires.fits c.requires.kinds);
      stored = λ clean. (c.requires.stored clean).stored;
    })))
