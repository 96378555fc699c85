-- Arguments with their parameters, one after another.
use Rattle.std.proofs.Common.{◌≡◌, ℕ, ◌+◌, ◌<◌, Bool, true, false, cond, not, ◌&&◌, ◌||◌, List, [], ◌∷◌, ◌++◌, length, drop, get_or, Option, Some, None, refl, sym, ap, ◌∙◌, subst, add-one, drop-cons, append_assoc, nat_eq, option_map, slice_get}
use Rattle.std.proofs.lemmas.Option.{slice_get-get_or}
use Rattle.mls_lattice.specs.Policy.{Name}
use Rattle.mls_scheme.specs.declared.value.Value.{Value}
use Rattle.mls_scheme.specs.Value.{fits_kind}
use Rattle.mls_translang.specs.declared.tx.Parameter.{Parameter}
use Rattle.mls_machine.specs.Denying.{are_wrong_at, fitted}

abbrev pub Params : Type 0
Params = List (Name × Parameter)

some_is : (a b : Parameter) → Some a ≡ Some b → a ≡ b
some_is a b e = cc

-- an argument as its parameter takes it
abbrev taken : Parameter → Option Value → Option Value
taken p v = cond (fits_kind v p.kind) v None

abbrev is_misfit : ℕ → Parameter → Option Value → Bool
is_misfit label p v = nat_eq p.label label && not (fits_kind v p.kind)

module _ (params : Params) (args : List (Option Value)) (count : length args ≡ length params) (i : ℕ) (p : Parameter)
    (v : Option Value)
    (within : i < length args) (is-p : option_map (λ x. x.1) (slice_get params i) ≡ Some p) (is-v : v
    ≡ get_or args i v) where
  abbrev named : Name × Parameter
  named = get_or params i ([], p)

  within_params : i < length params
  within_params = subst (λ n. i < n) count within

  named_is : named.1 ≡ p
  named_is = some_is named.1 p (sym (ap (option_map (λ (x : Name × Parameter). x.1)) (slice_get-get_or params i (
    [],
    p,
  ) within_params)) ∙ is-p)

  params_next : drop i params ≡ named ∷ drop (i + 1) params
  params_next = rw (add-one i, drop-cons params i ([], p) within_params) refl

  args_next : drop i args ≡ v ∷ drop (i + 1) args
  args_next = let split : drop i args ≡ get_or args i v ∷ drop (i + 1) args =
      rw (add-one i, drop-cons args i v within) refl in split ∙ ap (λ x. x ∷ drop (i + 1) args) (sym is-v)

  wrong_next : (label : ℕ) → are_wrong_at label (drop i params) (drop i args)
      ≡ (is_misfit label p v || are_wrong_at label (drop (i + 1) params) (drop (i + 1) args))
  wrong_next label = (λ k. are_wrong_at label (params_next k) (args_next k)) ∙ ap (λ q. is_misfit label q v
      || are_wrong_at label (drop (i + 1) params) (drop (i + 1) args)) named_is

  fitted_next : fitted (drop i params) (drop i args) ≡ taken p v ∷ fitted (drop (i + 1) params) (drop (i + 1) args)
  fitted_next = (λ k. fitted (params_next k) (args_next k)) ∙ ap (λ q. taken q v ∷ fitted (drop (i + 1) params)
      (drop (i + 1) args)) named_is

  -- ---- a test of each

  module _ (label : ℕ) (b : Bool) (start : are_wrong_at label (drop i params) (drop i args) ≡ b) where
    pub wrong_here : is_misfit label p v ≡ true → true ≡ b
    wrong_here h = sym (ap (λ x. x || are_wrong_at label (drop (i + 1) params) (drop (i + 1) args)) h)
        ∙ sym (wrong_next label) ∙ start

    pub wrong_more : is_misfit label p v ≡ false → are_wrong_at label (drop (i + 1) params) (drop (i + 1) args) ≡ b
    wrong_more h = sym (ap (λ x. x || are_wrong_at label (drop (i + 1) params) (drop (i + 1) args)) h)
        ∙ sym (wrong_next label) ∙ start

  -- ---- each, as it is taken

  pub fitted_more : (front all : List (Option Value)) (w : Option Value) → front ++ fitted (drop i params) (drop i args)
      ≡ all → w ≡ taken p v
      → (front ++ w ∷ []) ++ fitted (drop (i + 1) params) (drop (i + 1) args) ≡ all
  fitted_more front all w start is =
      append_assoc front (w ∷ []) (fitted (drop (i + 1) params) (drop (i + 1) args))
      ∙ ap (λ x. front ++ x ∷ fitted (drop (i + 1) params) (drop (i + 1) args)) is
      ∙ ap (λ xs. front ++ xs) (sym fitted_next) ∙ start
