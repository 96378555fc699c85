-- The class of a tuple is the least label that dominates all its classes.
use Rattle.std.proofs.Common.{◌≡◌, ℕ, zero, suc, ◌<◌, true, false, cond, ap, List, [], ◌∷◌, length, arith, subst, sym, ◌∙◌, refl, inl, inr, ◌⊎◌}
use Rattle.mls_lattice.specs.Lattice.{Pair, join, Dominates}
use Rattle.mls_lattice.specs.Labels.{Labels, label_of, below}
use Rattle.mls_lattice.proofs.LatticeLemmas.{below-refl, below-trans, ⊑-Dominates, Dominates-refl, Dominates-trans, Dominates-antisym, join-left, join-right, join-least}
use Rattle.mls_scheme.specs.declared.tuple.Element.{Element}
use Rattle.mls_scheme.specs.declared.tuple.Tuple.{Tuple}
use Rattle.mls_scheme.specs.Tuple.{at, join_of, tuple_class}
use Rattle.mls_scheme.specs.Table.{Table, Has, place_of}
use Rattle.mls_filterview.specs.Stored.{IsStored}
use Rattle.mls_filterview.specs.Rules.{OccursIn}
use Rattle.mls_filterview.specs.Filtering.{greatest_from, class_number}

pub join_of-first : (ls : Labels) (p : Pair) (es : List Element) → Dominates (join_of ls p es) p
join_of-first ls p [] = Dominates-refl p
join_of-first ls p (e ∷ es) =
    let q = join p (label_of ls e.class) in
    Dominates-trans (join_of ls q es) q p (join_of-first ls q es) (join-left p (label_of ls e.class))

pub join_of-each : (ls : Labels) (p : Pair) (es : List Element) (i : ℕ) → i < length es
    → Dominates (join_of ls p es) (label_of ls (at es i).class)
join_of-each ls p [] i h = absurd (omega arith)
join_of-each ls p (e ∷ es) zero h =
    let q = join p (label_of ls e.class) in
    Dominates-trans (join_of ls q es) q (label_of ls e.class) (join_of-first ls q es)
    (join-right p (label_of ls e.class))
join_of-each ls p (e ∷ es) (suc i) h = join_of-each ls (join p (label_of ls e.class)) es i (omega arith)

pub join_of-least : (ls : Labels) (p q : Pair) (es : List Element) → Dominates q p → ((i : ℕ) → i < length es
    → Dominates q (label_of ls (at es i).class)) → Dominates q (join_of ls p es)
join_of-least ls p q [] h k = h
join_of-least ls p q (e ∷ es) h k = join_of-least ls (join p (label_of ls e.class)) q es
    (join-least p (label_of ls e.class) q h (k 0 (omega arith))) (λ i l. k (suc i) (omega arith))

pub below-Dominates : (ls : Labels) (a b : ℕ) → below ls a b ≡ true → Dominates (label_of ls b) (label_of ls a)
unfolding below
below-Dominates ls a b h = ⊑-Dominates (label_of ls a) (label_of ls b) h

-- a stored tuple stands at its class
pub class_of_stored : (ls : Labels) (n : ℕ) (T : Table) → IsStored ls n T → (m : ℕ) (t : Tuple) → Has T m t
    → tuple_class ls t ≡ label_of ls m
class_of_stored ls n T stored m t h =
    let st = stored (place_of m t) t.elements h in
    Dominates-antisym (tuple_class ls t) (label_of ls m)
    (elim st.own [
      | inl e ↦ subst (λ k. Dominates (tuple_class ls t) (label_of ls k)) (sym e)
          (join_of-first ls (label_of ls t.key_class) t.elements)
      | inr e ↦ subst (λ k. Dominates (tuple_class ls t) (label_of ls k)) (sym e.2)
          (join_of-each ls (label_of ls t.key_class) t.elements e.0 e.1)
    ])
    (join_of-least ls (label_of ls t.key_class) (label_of ls m) t.elements (below-Dominates ls t.key_class m
    (st.greatest t.key_class (inl refl))) (λ i l. below-Dominates ls (at t.elements i).class m
    (st.greatest (at t.elements i).class (inr (i, l, refl)))))

-- ---- the class of a tuple whose classes are comparable

-- m is k or one of the classes of the elements
abbrev pub IsClassFrom : ℕ → List Element → ℕ → Type 0
IsClassFrom k es m = (m ≡ k) ⊎ ((i : ℕ) × (i < length es) × (m ≡ (at es i).class))

pub record IsTop (ls : Labels) (k : ℕ) (es : List Element) (m : ℕ) : Type 0 where
  pub own : IsClassFrom k es m
  pub greatest : (a : ℕ) → IsClassFrom k es a → below ls a m ≡ true

greatest_from_top : (ls : Labels) (k : ℕ) (es : List Element) → ((a b : ℕ) → IsClassFrom k es a → IsClassFrom k es b
    → (below ls a b ≡ true) ⊎ (below ls b a ≡ true)) → IsTop ls k es (greatest_from ls k es)
greatest_from_top ls k [] c = record { own = inl refl; greatest = greatest }
  where
    greatest : (a : ℕ) → IsClassFrom k [] a → below ls a k ≡ true
    greatest a (inl e) = ap (λ x. below ls x k) e ∙ below-refl ls k
    greatest a (inr o) = absurd (let l = o.1 in omega arith)
greatest_from_top ls k (e ∷ es) c =
    elim (below ls k e.class) as (λ b. below ls k e.class ≡ b
    → IsTop ls k (e ∷ es) (greatest_from ls (cond b e.class k) es)) [
      | true ↦ λ t. up t (greatest_from_top ls e.class es (λ a b o q. c a b (from_head a o) (from_head b q)))
      | false ↦ λ t. stays t (greatest_from_top ls k es (λ a b o q. c a b (from_key a o) (from_key b q)))
    ] refl
  where
    from_head : (a : ℕ) → IsClassFrom e.class es a → IsClassFrom k (e ∷ es) a
    from_head a (inl q) = inr (0, omega arith, q)
    from_head a (inr o) = inr (suc o.0, (let l = o.1 in omega arith), o.2)

    from_key : (a : ℕ) → IsClassFrom k es a → IsClassFrom k (e ∷ es) a
    from_key a (inl q) = inl q
    from_key a (inr o) = inr (suc o.0, (let l = o.1 in omega arith), o.2)

    up : below ls k e.class ≡ true → IsTop ls e.class es (greatest_from ls e.class es)
        → IsTop ls k (e ∷ es) (greatest_from ls e.class es)
    up t top = record { own = from_head (greatest_from ls e.class es) top.own; greatest = greatest }
      where
        greatest : (a : ℕ) → IsClassFrom k (e ∷ es) a → below ls a (greatest_from ls e.class es) ≡ true
        greatest a (inl q) = below-trans ls a e.class (greatest_from ls e.class es) (ap (λ x. below ls x e.class) q ∙ t)
            (top.greatest e.class (inl refl))
        greatest a (inr (zero, l, q)) = top.greatest a (inl q)
        greatest a (inr (suc i, l, q)) = top.greatest a (inr (i, omega arith, q))

    under : below ls k e.class ≡ false → below ls e.class k ≡ true
    under t = elim (c k e.class (inl refl) (inr (0, omega arith, refl))) [
      | inl h ↦ absurd
          (true_false (sym h ∙ t))
      | inr h ↦ h
    ]
      where
        true_false : true ≡ false → ⊥
        true_false h = cc

    stays : below ls k e.class ≡ false → IsTop ls k es (greatest_from ls k es)
        → IsTop ls k (e ∷ es) (greatest_from ls k es)
    stays t top = record { own = from_key (greatest_from ls k es) top.own; greatest = greatest }
      where
        greatest : (a : ℕ) → IsClassFrom k (e ∷ es) a → below ls a (greatest_from ls k es) ≡ true
        greatest a (inl q) = top.greatest a (inl q)
        greatest a (inr (zero, l, q)) = below-trans ls a k (greatest_from ls k es) (ap (λ x. below ls x k) q ∙ under t)
            (top.greatest k (inl refl))
        greatest a (inr (suc i, l, q)) = top.greatest a (inr (i, omega arith, q))

pub class_top : (ls : Labels) (t : Tuple) → ((a b : ℕ) → OccursIn t a → OccursIn t b → (below ls a b ≡ true)
    ⊎ (below ls b a ≡ true)) → IsTop ls t.key_class t.elements (class_number ls t)
unfolding class_number
class_top ls t c = greatest_from_top ls t.key_class t.elements c
