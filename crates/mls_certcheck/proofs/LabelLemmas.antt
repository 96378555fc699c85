-- Labels, by place and by number.
use Rattle.std.proofs.Common.{◌≡◌, ℕ, zero, suc, ◌-◌, ◌<◌, ◌≤◌, Bool, true, false, ◌&&◌, List, [], ◌∷◌, ◌++◌, length, map, take, get_or, ◌+◌, refl, sym, ap, ◌∙◌, subst, arith, nat_cmp, flat_map, true≢false, append-nil}
use Rattle.std.specs.FinSet as set
use Rattle.std.specs.List.{list_all}
use Rattle.std.specs.Cmp.{both_ways}
use Rattle.std.proofs.lemmas.Bool.{and_from, and_parts}
use Rattle.std.proofs.lemmas.Grind.{take_at_read, flat_map-append}
use Rattle.std.proofs.lemmas.List.{get_or_default, get_or-map, get_or_past, length-map, map-append}
use Rattle.std.proofs.lemmas.List.Folds.{list_all-append}
use Rattle.mls_lattice.specs.declared.label.Label.{Label}
use Rattle.mls_certcheck.specs.declared.cert.Cert2.{Cert2}
use Rattle.mls_certcheck.specs.declared.cert.Certificate.TheVariants.{Two}
use Rattle.mls_certcheck.specs.Lines.{variables}
use Rattle.mls_certcheck.specs.Rules.{Claim, after, row_after, slot_label, source_label}
use Rattle.mls_certcheck.specs.Checks.{is_over}
use Rattle.mls_certcheck.specs.Walk.{IsJoin}
use Rattle.mls_certcheck.specs.declared.flow.Slot.{Slot}
use Rattle.mls_certcheck.specs.declared.flow.Slot.TheVariants.{Variable, Statement}
use Rattle.mls_certcheck.specs.declared.flow.Source.{Source}
use Rattle.mls_certcheck.specs.declared.flow.Source.TheVariants.{Held}
use Rattle.mls_lattice.specs.Lattice.{Pair, Dominates, ◌⊑◌, join, bottom, pair_of}
use Rattle.mls_lattice.proofs.LatticeLemmas.{⊑-Dominates, Dominates-⊑, Dominates-trans, join-left, join-right, join-least}

pub label_here : (labels : List Label) (place : ℕ) (d : Label) → place < length labels
    → get_or (map pair_of labels) place bottom ≡ pair_of (get_or labels place d)
label_here labels place d lt = get_or-map pair_of labels place d bottom lt

pub label_past : (labels : List Label) (place : ℕ) → length labels ≤ place → get_or (map pair_of labels) place bottom
    ≡ bottom
label_past labels place past = get_or_past (map pair_of labels) place bottom (omega (arith, length-map labels pair_of))

pub ruleset label_places = (label_here, label_past)

-- ---- rows of certificates of version 2

pub row_here : (cert : Cert2) (number : ℕ) (d : List Label) → 0 < number → number ≤ length cert.rows
    → row_after (Two cert) number ≡ get_or cert.rows (number - 1) d
row_here cert zero d some within = absurd (omega (arith, some))
row_here cert (suc n) d some within =
    let lt : n < length cert.rows = omega (arith, within) in
    let same : suc n - 1 ≡ n = omega arith in
    get_or_default cert.rows n [] d lt ∙ ap (λ (k : ℕ). get_or cert.rows k d) (sym same)

pub row_none : (cert : Cert2) (number : ℕ) → length cert.rows < number → row_after (Two cert) number ≡ []
row_none cert zero past = absurd (omega (arith, past))
row_none cert (suc n) past = get_or_past cert.rows n [] (omega (arith, past))

pub row_first : (cert : Cert2) (number : ℕ) → number ≤ 0 → row_after (Two cert) number ≡ []
row_first cert zero first = refl
row_first cert (suc n) first = absurd (omega (arith, first))

pub ruleset row_places = (row_here, row_none, row_first)

-- ---- joins

-- every label dominates the lowest
pub above_bottom : (p : Pair) → Dominates p bottom
above_bottom p = record { rank = omega arith; cats = λ j h. absurd (true≢false (sym h ∙ set.contains-empty nat_cmp j)) }

-- a join flows where both do
join_flows : (p q r : Pair) → (join p q ⊑ r) ≡ (p ⊑ r && q ⊑ r)
join_flows p q r =
    both_ways (join p q ⊑ r) (p ⊑ r && q ⊑ r)
    (λ h. let d = ⊑-Dominates (join p q) r h in
    and_from _ _ (Dominates-⊑ p r (Dominates-trans r (join p q) p d (join-left p q)))
    (Dominates-⊑ q r (Dominates-trans r (join p q) q d (join-right p q))))
    (λ h. let k = and_parts _ _ h in Dominates-⊑ (join p q) r (join-least p q r (⊑-Dominates p r k.0)
    (⊑-Dominates q r k.1)))

module _ (c : Claim) where
  pub over_both : (q : Pair) (ss ts : List Source) → is_over c q (ss ++ ts) ≡ (is_over c q ss && is_over c q ts)
  over_both q ss ts = list_all-append (λ s. source_label c s ⊑ q) ss ts

  pub join_none : (p : Pair) → p ≡ bottom → IsJoin c [] p
  join_none p e = record { flows = λ q. Dominates-⊑ p q (subst (Dominates q) (sym e) (above_bottom q)) }

  pub join_one : (s : Source) (p : Pair) → p ≡ source_label c s → IsJoin c (s ∷ []) p
  join_one s p e = record { flows = λ q. ap (λ x. x ⊑ q) e ∙ and_true (source_label c s ⊑ q) }
    where
      and_true : (b : Bool) → b ≡ (b && true)
      and_true true = refl
      and_true false = refl

  pub join_both : (ss ts : List Source) (p q r : Pair) → IsJoin c ss p → IsJoin c ts q → r ≡ join p q
      → IsJoin c (ss ++ ts) r
  join_both ss ts p q r h k e = record {
    flows = λ x. ap (λ y. y ⊑ x) e ∙ join_flows p q x
        ∙ (λ i. h.flows x i && k.flows x i) ∙ sym (over_both x ss ts);
  }

  pub join_first : (s : Source) (ss : List Source) (p q r : Pair) → p ≡ source_label c s → IsJoin c ss q → r ≡ join p q
      → IsJoin c (s ∷ ss) r
  join_first s ss p q r e h k = join_both (s ∷ []) ss p q r (join_one s p e) h k

  module _ {A : Type 0} (f : A → List Source) where
    pub join_lists : (xs ys : List A) (p q r : Pair) → IsJoin c (flat_map f xs) p → IsJoin c (flat_map f ys) q
        → r ≡ join p q → IsJoin c (flat_map f (xs ++ ys)) r
    join_lists xs ys p q r h k e = subst (λ (ss : List Source). IsJoin c ss r) (sym (flat_map-append f xs ys))
        (join_both (flat_map f xs) (flat_map f ys) p q r h k e)

    -- one more of a list
    pub join_next : (xs : List A) (i : ℕ) (x : A) (p q r : Pair) → i < length xs → x ≡ get_or xs i x
        → IsJoin c (flat_map f (take i xs)) p → IsJoin c (f x) q → r ≡ join p q
        → IsJoin c (flat_map f (take (i + 1) xs)) r
    join_next xs i x p q r within is h k e =
        let all : flat_map f (take i xs) ++ f x ≡ flat_map f (take (i + 1) xs) =
        ap (λ (l : List Source). flat_map f (take i xs) ++ l) (sym (append-nil (f x)))
        ∙ sym (flat_map-append f (take i xs) (x ∷ [])) ∙ ap (flat_map f)
        (sym ((take_at_read xs i x within).1 ∙ ap (λ (y : A). take i xs ++ y ∷ []) (sym is))) in
        subst (λ (ss : List Source). IsJoin c ss r) all (join_both (flat_map f (take i xs)) (f x) p q r h k e)

  -- one more variable
  pub join_variable : (n x : ℕ) (p q r : Pair) → p ≡ after c n x → IsJoin c (variables n x) q → r ≡ join p q
      → IsJoin c (variables n (x + 1)) r
  join_variable n x p q r e h k =
      let next : suc x ≡ x + 1 = omega arith in
      subst (λ (y : ℕ). IsJoin c (variables n y) r) next (join_first (Held (Variable n x)) (variables n x) p q r e h k)

  -- a join flows to slots
  pub join_into : (ss : List Source) (p : Pair) → IsJoin c ss p → (ts : List Slot)
      → list_all (λ t. p ⊑ slot_label c t) ts ≡ list_all (λ t. is_over c (slot_label c t) ss) ts
  join_into ss p h ts = λ i. list_all (λ t. h.flows (slot_label c t) i) ts

  -- slots of two lists
  pub on_both : (p : Pair) (one other : List ℕ) → list_all (λ t. p ⊑ slot_label c t)
      (map (λ m. Statement m) (one ++ other)) ≡ (list_all (λ t. p ⊑ slot_label c t) (map (λ m. Statement m) one)
      && list_all (λ t. p ⊑ slot_label c t) (map (λ m. Statement m) other))
  on_both p one other = ap (list_all (λ t. p ⊑ slot_label c t)) (map-append (λ m. Statement m) one other)
      ∙ list_all-append (λ t. p ⊑ slot_label c t) (map (λ m. Statement m) one) (map (λ m. Statement m) other)

pub ruleset joins = (join_none, join_one, join_both, join_first, join_lists, join_variable)
