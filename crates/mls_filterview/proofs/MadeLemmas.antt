-- A tuple put together from its node, its own cells and the entity's tuples.
use Rattle.std.proofs.Common.{◌≡◌, ℕ, zero, suc, ◌<◌, ◌+◌, Bool, true, false, cond, List, [], ◌∷◌, length, Option, Some, refl, sym, ap, ◌∙◌, subst, arith, nat_eq, find, option_and_then, unwrap_or, true≢false, eqb-true, eq-eqb, ne_eqb}
use Rattle.std.specs.FinMap.{get}
use Rattle.mls_scheme.specs.declared.value.Value.{Value}
use Rattle.mls_scheme.specs.declared.tuple.Element.{Element}
use Rattle.mls_scheme.specs.declared.place.Place.{Place}
use Rattle.mls_scheme.specs.Tuple.{at}
use Rattle.mls_scheme.specs.Table.{Table}
use Rattle.mls_filterview.specs.declared.fragment.Node.{Node}
use Rattle.mls_filterview.specs.declared.fragment.Cell.{Cell}
use Rattle.mls_filterview.specs.Stored.{with_class}
use Rattle.mls_filterview.specs.Fragment.{IsMadeOf, place_of_node, cell_at, cells_from}
use Rattle.mls_filterview.specs.Assembly.{value_in, value_held, elements_from, made_of}
use Rattle.mls_filterview.proofs.AssemblyLemmas.{same_elements}

-- the cells of a tuple's own class have its values
own_value : (p : Place) (k i : ℕ) (es : List Element) → i < length es → (at es i).class ≡ p.class
    → value_in (k + i) (cells_from k p es) ≡ (at es i).value
own_value p k i [] l own = absurd (omega arith)
own_value p k zero (e ∷ es) l own =
    ap (λ b. value_in (k + 0) (cond b (cell_at p k e ∷ cells_from (suc k) p es) (cells_from (suc k) p es)))
    (eq-eqb e.class p.class own)
    ∙ ap (λ b. option_and_then (λ c. c.value) (cond b (Some (cell_at p k e)) (find (λ c. nat_eq c.attr (k + 0))
    (cells_from (suc k) p es)))) (eq-eqb k (k + 0) (omega arith))
own_value p k (suc i) (e ∷ es) l own =
    let later : suc k + i ≡ k + suc i = omega arith in
    let rest : value_in (k + suc i) (cells_from (suc k) p es) ≡ (at es i).value =
    subst (λ n. value_in n (cells_from (suc k) p es) ≡ (at es i).value) later (own_value p (suc k) i es
    (omega arith) own) in
    elim (nat_eq e.class p.class) as (λ b. value_in (k + suc i) (cond b (cell_at p k e ∷ cells_from (suc k) p es)
    (cells_from (suc k) p es)) ≡ (at es i).value) [
      | true ↦ ap (λ b. option_and_then (λ c. c.value) (cond b (Some (cell_at p k e))
          (find (λ c. nat_eq c.attr (k + suc i)) (cells_from (suc k) p es)))) (ne_eqb k (k + suc i) (λ e. omega arith))
          ∙ rest
      | false ↦ rest
    ]

-- where the tuples found are those of the table
pub elements_made : (T : Table) (found : Place → Option (List Element)) → ((q : Place) → get T q ≡ found q)
    → (n : Node) (cells : List Cell) (es : List Element) → IsMadeOf T n cells es
    → made_of found n cells ≡ es
elements_made T found is n cells es h =
    ap (elements_from (value_held found n.label cells) p 0) h.pattern
    ∙ same_elements (value_held found n.label cells) p 0 es (λ i j l e. subst (λ k. value i k ≡ (at es i).value)
    (first i j e) (each i l (nat_eq (at es i).class n.label) refl))
  where
    p : Place
    p = place_of_node n

    first : (i j : ℕ) → j ≡ 0 + i → i ≡ j
    first i j e = omega arith

    value : (i k : ℕ) → Option Value
    value i k = cond (nat_eq (at es i).class n.label) (value_in k cells)
        (at (unwrap_or (found (with_class p (at es i).class)) []) k).value

    each : (i : ℕ) → i < length es → (b : Bool) → nat_eq (at es i).class n.label ≡ b
        → cond b (value_in i cells) (at (unwrap_or (found (with_class p (at es i).class)) []) i).value ≡ (at es i).value
    each i l true e =
        let own : value_in (0 + i) (cells_from 0 p es) ≡ (at es i).value = own_value p 0 i es l (eqb-true _ _ e) in
        ap (value_in i) h.own ∙ subst (λ k. value_in k (cells_from 0 p es) ≡ (at es i).value) (omega arith) own
    each i l false e =
        let other = h.others i l (λ s. true≢false (sym (eq-eqb _ _ s) ∙ e)) in
        ap (λ o. (at (unwrap_or o []) i).value) (sym (is (with_class p (at es i).class)) ∙ other.1)
        ∙ ap (λ e. e.value) other.2
