use Rattle.std.proofs.Common.{◌≡◌, Bool, List, Option, None, Some, refl, ap, rules, ◌&&◌, Decides}
use Rattle.std.specs.Bool.{beq}
use Rattle.std.specs.Option.{option_eq}
use Rattle.std.specs.Cmp.{booleans_Decides}
use Rattle.std.proofs.lemmas.Bool.Decides.{Decides-and}
use Rattle.std.proofs.lemmas.Slice.Eq.{slice_eq-Decides}
use Rattle.mls_scheme.specs.declared.value.Value.{Value}
use Rattle.mls_labeller.specs.declared.bounds.Bounds.{Bounds}
use Rattle.mls_labeller.specs.declared.range.Range.{Range}
use Rattle.mls_labeller.proofs.ranges.Ranges.same.Goals as goal

option_decides : {A : Type 0} (E : A → A → Bool) → ((a b : A) → Decides (E a b) (a ≡ b)) → (x y : Option A)
    → Decides (option_eq E x y) (x ≡ y)
option_decides E d None None = (λ t. refl, λ e. refl)
option_decides E d None (Some y) = (λ t. cc, λ e. cc)
option_decides E d (Some x) None = (λ t. cc, λ e. cc)
option_decides E d (Some x) (Some y) = (λ t. ap Some ((d x y).0 t), λ e. (d x y).1 (cc))

range_decides : (V : List Value → List Value → Bool) → ((a b : List Value) → Decides (V a b) (a ≡ b))
    → (B : Bounds → Bounds → Bool) → ((a b : Bounds) → Decides (B a b) (a ≡ b))
    → (r q : Range) → Decides (beq r.null q.null && (option_eq V r.listed q.listed && option_eq B r.bounds q.bounds))
    (r ≡ q)
range_decides V v B b r q =
    let inner = Decides-and (option_eq V r.listed q.listed) (option_eq B r.bounds q.bounds)
    (option_decides V v r.listed q.listed) (option_decides B b r.bounds q.bounds) in
    let all = Decides-and (beq r.null q.null) (option_eq V r.listed q.listed && option_eq B r.bounds q.bounds)
    (booleans_Decides r.null q.null) inner in (
      λ t i. record { null = (all.0 t).0 i; listed = (all.0 t).1.0 i; bounds = (all.0 t).1.1 i },
      λ e. all.1 (ap (λ (x : Range). x.null) e, (ap (λ (x : Range). x.listed) e, ap (λ (x : Range). x.bounds) e)),
    )

pub returns : goal.returns
returns c t = (slice_eq-Decides (λ (a b : Range). range_decides _
    (λ x y. slice_eq-Decides (λ v w. search rules) x y _ refl) _ (λ x y. search rules) a b) _ _ _ c.eq.ensures).0 t
