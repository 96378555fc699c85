use Rattle.std.proofs.Common.{◌≡◌, ℕ, zero, suc, ◌+◌, List, [], ◌∷◌, ◌++◌, sym, ap, ◌∙◌, subst, length, length-append, slice_index_or}
use Rattle.mls_labeller.specs.declared.range.Range.{Range}
use Rattle.mls_labeller.specs.Ranges.{Admits, Includes, any_value, Wider}
use Rattle.mls_labeller.proofs.ranges.Ranges.joined.Goals as goal

-- one more range
wider_push : (f : ℕ → Range) (rs : List Range) (r : Range) → ((x : ℕ) → Includes (slice_index_or rs x any_value) (f x))
    → Includes r (f (length rs))
    → (x : ℕ) → Includes (slice_index_or (rs ++ r ∷ []) x any_value) (f x)
wider_push f [] r h k zero = k
wider_push f [] r h k (suc x) = h (suc x)
wider_push f (q ∷ rs) r h k zero = h 0
wider_push f (q ∷ rs) r h k (suc x) = wider_push (λ y. f (suc y)) rs r (λ y. h (suc y)) k x

wider_next : (rs old new : List Range) (r this : Range) (i : ℕ) → length old ≡ i → new ≡ old ++ r ∷ []
    → this ≡ slice_index_or rs i any_value → Includes r this → Wider rs old → Wider rs new
wider_next rs old new r this i count is at h k =
    let here : slice_index_or rs (length old) any_value ≡ this = ap (λ n. slice_index_or rs n any_value) count ∙ sym at
    in
    subst (Wider rs) (sym is) (wider_push (λ x. slice_index_or rs x any_value) old r k
    (λ v e. h v (subst (λ (q : Range). Admits q v) here e)))

pub loop-place-preserved : goal.loop-place-preserved
loop-place-preserved c =
    let old = c.loop-place.vars.items in
    let r = c.in_ok-join.field-0 in
    let i = c.loop-place.place in
    let is = c.in_ok-push.ensures.items in
    let count = c.loop-place.invariant.count in record {
      count = ap length is ∙ length-append old (r ∷ []) ∙ ap (λ n. n + 1) count;
      these = wider_next c.args.self.now.vars.items old c.push.new.self.items r c.in_ok-this.this i count is c.in_ok-this.ensures c.in_ok-join.ensures.these c.loop-place.invariant.these;
      those = wider_next c.args.others.now.vars.items old c.push.new.self.items r c.in_ok-that.that i count is c.in_ok-that.ensures c.in_ok-join.ensures.those c.loop-place.invariant.those;
    }
