-- Arguments of calls: their kinds, and what a level sees of them.
use Rattle.std.proofs.Common.{◌≡◌, ℕ, zero, suc, ◌<◌, true, false, cond, not, ◌&&◌, ◌||◌, List, [], ◌∷◌, length, map, Option, None, refl, sym, ap, ◌∙◌, arith, nat_eq, slice_index_or, eqb-true}
use Rattle.std.specs.List.{AllZip}
use Rattle.mls_lattice.specs.Labels.{Labels, below}
use Rattle.mls_lattice.specs.Policy.{Name}
use Rattle.mls_scheme.specs.declared.value.Kind.{Kind}
use Rattle.mls_scheme.specs.declared.value.Value.{Value}
use Rattle.mls_scheme.specs.Value.{fits_kind}
use Rattle.mls_translang.specs.declared.tx.Parameter.{Parameter}
use Rattle.mls_translang.specs.Tx.{Tx}
use Rattle.mls_certcheck.specs.MeaningLaws.{ArgsFit}
use Rattle.mls_machine.specs.Denying.{are_wrong_at, fitted}
use Rattle.mls_machine.specs.Observation.{blanked}

abbrev Params : Type 0
Params = List (Name × Parameter)

abbrev Args : Type 0
Args = List (Option Value)

head_same : (x y : Option Value) (xs ys : Args) → x ∷ xs ≡ y ∷ ys → x ≡ y
head_same x y xs ys e = cc

tail_same : (x y : Option Value) (xs ys : Args) → x ∷ xs ≡ y ∷ ys → xs ≡ ys
tail_same x y xs ys e = cc

-- ---- kinds

made_fit : (v : Option Value) (k : Kind) → fits_kind (cond (fits_kind v k) v None) k ≡ true
made_fit v k = elim (fits_kind v k) as (λ b. fits_kind v k ≡ b → fits_kind (cond b v None) k
    ≡ true) [ true ↦ λ e. e | false ↦ λ e. refl ] refl

pub fitted_fit : (tx : Tx) (args : Args) → length args ≡ length tx.params → ArgsFit tx (fitted tx.params args)
fitted_fit tx args count = each tx.params args count
  where
    each : (ps : Params) (vs : Args) → length vs ≡ length ps → AllZip (λ p v. fits_kind v p.1.kind ≡ true) ps
        (fitted ps vs)
    each [] vs c = tt
    each (p ∷ ps) [] c = absurd (omega (arith, c))
    each (p ∷ ps) (v ∷ vs) c = (made_fit v p.1.kind, each ps vs (omega (arith, c)))

pub fitted_count : (ps : Params) (vs : Args) → length vs ≡ length ps → length (fitted ps vs) ≡ length ps
fitted_count [] vs c = refl
fitted_count (p ∷ ps) [] c = absurd (omega (arith, c))
fitted_count (p ∷ ps) (v ∷ vs) c = ap suc (fitted_count ps vs (omega (arith, c)))

-- ---- arguments of which c sees the same

module _ (ls : Labels) (c : ℕ) where
  abbrev Same : Params → Args → Args → Type 0
  Same ps vs ws = blanked ls c ps vs ≡ blanked ls c ps ws

  blanked_count : (ps : Params) (vs : Args) → length (blanked ls c ps vs) ≡ length vs
  blanked_count [] vs = refl
  blanked_count (p ∷ ps) [] = refl
  blanked_count (p ∷ ps) (v ∷ vs) = ap suc (blanked_count ps vs)

  pub same_count : (ps : Params) (vs ws : Args) → Same ps vs ws → length vs ≡ length ws
  same_count ps vs ws e = sym (blanked_count ps vs) ∙ ap length e ∙ blanked_count ps ws

  same_head : (p : Name × Parameter) (ps : Params) (v w : Option Value) (vs ws : Args) → Same (p ∷ ps) (v ∷ vs) (w ∷ ws)
      → below ls p.1.label c ≡ true → v ≡ w
  same_head p ps v w vs ws e h = sym (ap (λ b. cond b v None) h) ∙ head_same _ _ _ _ e ∙ ap (λ b. cond b w None) h

  pub same_wrong : (lo : ℕ) → below ls lo c ≡ true → (ps : Params) (vs ws : Args) → Same ps vs ws
      → are_wrong_at lo ps vs ≡ are_wrong_at lo ps ws
  same_wrong lo h [] vs ws e = refl
  same_wrong lo h (p ∷ ps) [] [] e = refl
  same_wrong lo h (p ∷ ps) [] (w ∷ ws) e = absurd (omega (arith, same_count (p ∷ ps) [] (w ∷ ws) e))
  same_wrong lo h (p ∷ ps) (v ∷ vs) [] e = absurd (omega (arith, same_count (p ∷ ps) (v ∷ vs) [] e))
  same_wrong lo h (p ∷ ps) (v ∷ vs) (w ∷ ws) e =
      elim (nat_eq p.1.label lo) as (λ b. nat_eq p.1.label lo ≡ b
      → ((b && not (fits_kind v p.1.kind)) || are_wrong_at lo ps vs) ≡ ((b && not (fits_kind w p.1.kind))
      || are_wrong_at lo ps ws)) [
        | true ↦ λ q.
            let x = same_head p ps v w vs ws e (ap (λ l. below ls l c) (eqb-true p.1.label lo q) ∙ h) in
            let rest = same_wrong lo h ps vs ws (tail_same _ _ _ _ e) in
            λ i. not (fits_kind (x i) p.1.kind) || rest i
        | false ↦ λ q. same_wrong lo h ps vs ws (tail_same _ _ _ _ e)
      ] refl

  pub same_fitted : (ps : Params) (vs ws : Args) → Same ps vs ws → (i : ℕ) → i < length (map (λ p. p.1.label) ps)
      → below ls (slice_index_or (map (λ p. p.1.label) ps) i 0) c ≡ true
      → slice_index_or (fitted ps vs) i None ≡ slice_index_or (fitted ps ws) i None
  same_fitted [] vs ws e i l h = refl
  same_fitted (p ∷ ps) [] [] e i l h = refl
  same_fitted (p ∷ ps) [] (w ∷ ws) e i l h = absurd (omega (arith, same_count (p ∷ ps) [] (w ∷ ws) e))
  same_fitted (p ∷ ps) (v ∷ vs) [] e i l h = absurd (omega (arith, same_count (p ∷ ps) (v ∷ vs) [] e))
  same_fitted (p ∷ ps) (v ∷ vs) (w ∷ ws) e zero l h = ap (λ x. cond (fits_kind x p.1.kind) x None)
      (same_head p ps v w vs ws e h)
  same_fitted (p ∷ ps) (v ∷ vs) (w ∷ ws) e (suc i) l h = same_fitted ps vs ws (tail_same _ _ _ _ e) i
      (omega (arith, l)) h
