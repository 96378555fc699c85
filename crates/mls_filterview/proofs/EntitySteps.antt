-- The tests of elements, as they are computed.
use Rattle.std.proofs.Common.{◌≡◌, ℕ, zero, suc, ◌<◌, ◌≤◌, ◌+◌, Bool, true, false, not, ◌&&◌, ◌||◌, List, [], ◌∷◌, length, get_or, drop, refl, sym, ap, ◌∙◌, arith, ◌↔◌}
use Rattle.std.proofs.lemmas.Bool.{false_from_ne_true, false≢true, or_right}
use Rattle.mls_lattice.specs.Labels.{Labels, below}
use Rattle.mls_scheme.specs.declared.tuple.Element.{Element}
use Rattle.mls_filterview.specs.Subsumption.{same_element}
use Rattle.mls_filterview.specs.Checking.{has_element_at, has_below}
use Rattle.mls_filterview.proofs.SubsumptionLemmas.{same_element-true, same_element-from}

-- ---- elements

pub same_element-is : (e f : Element) (b : Bool) → (b ≡ true) ↔ (e ≡ f) → b ≡ same_element e f
same_element-is e f true h = sym (same_element-from e f (h.0 refl))
same_element-is e f false h = sym (false_from_ne_true (same_element e f)
    (λ t. false≢true (h.1 (same_element-true e f t))))

pub has_element_at-here : (e f : Element) (fs : List Element) (i : ℕ) → i < length fs → f ≡ get_or fs i f
    → has_element_at e (drop i fs) ≡ same_element e f
has_element_at-here e f [] i l q = absurd (omega arith)
has_element_at-here e f (g ∷ fs) zero l q = ap (same_element e) (sym q)
has_element_at-here e f (g ∷ fs) (suc i) l q = has_element_at-here e f fs i (omega arith) q

pub has_element_at-none : (e : Element) (fs : List Element) (i : ℕ) → length fs ≤ i → has_element_at e (drop i fs)
    ≡ false
has_element_at-none e [] zero l = refl
has_element_at-none e [] (suc i) l = refl
has_element_at-none e (g ∷ fs) zero l = absurd (omega arith)
has_element_at-none e (g ∷ fs) (suc i) l = has_element_at-none e fs i (omega arith)

-- ---- lists of elements

drop_one : (i : ℕ) (fs : List Element) → drop 1 (drop i fs) ≡ drop (suc i) fs
drop_one zero fs = refl
drop_one (suc i) [] = refl
drop_one (suc i) (f ∷ fs) = drop_one i fs

module _ (ls : Labels) (m : ℕ) where
  step : (es fs : List Element) (i : ℕ) (e : Element) → i < length es → e ≡ get_or es i e
      → has_below ls m (drop i es) (drop i fs) ≡ ((not (below ls e.class m) || has_element_at e (drop i fs))
      && has_below ls m (drop (suc i) es) (drop (suc i) fs))
  step es fs i e l q = go es i l q (drop i fs) ∙ ap (λ gs. (not (below ls e.class m) || has_element_at e (drop i fs))
      && has_below ls m (drop (suc i) es) gs) (drop_one i fs)
    where
      go : (xs : List Element) (k : ℕ) → k < length xs → e ≡ get_or xs k e → (gs : List Element)
          → has_below ls m (drop k xs) gs ≡ ((not (below ls e.class m) || has_element_at e gs) && has_below ls m
          (drop (suc k) xs) (drop 1 gs))
      go [] k l q gs = absurd (omega arith)
      go (x ∷ xs) zero l q gs = ap (λ (y : Element). (not (below ls y.class m) || has_element_at y gs)
          && has_below ls m xs (drop 1 gs)) (sym q)
      go (x ∷ xs) (suc k) l q gs = go xs k (omega arith) q gs

  pub lacks : (es fs : List Element) (i : ℕ) (e : Element) → i < length es → e ≡ get_or es i e → below ls e.class m
      ≡ true → has_element_at e (drop i fs) ≡ false
      → has_below ls m (drop i es) (drop i fs) ≡ has_below ls m es fs → false ≡ has_below ls m es fs
  lacks es fs i e l q b h all = sym (λ k. (not (b k) || h k) && has_below ls m (drop (suc i) es) (drop (suc i) fs))
      ∙ sym (step es fs i e l q) ∙ all

  next : (es fs : List Element) (i : ℕ) (e : Element) → i < length es → e ≡ get_or es i e
      → (not (below ls e.class m) || has_element_at e (drop i fs)) ≡ true
      → has_below ls m (drop i es) (drop i fs) ≡ has_below ls m es fs → has_below ls m (drop (i + 1) es)
      (drop (i + 1) fs) ≡ has_below ls m es fs
  next es fs i e l q b all =
      let n : i + 1 ≡ suc i = omega arith in
      ap (λ k. has_below ls m (drop k es) (drop k fs)) n
      ∙ sym (ap (λ x. x && has_below ls m (drop (suc i) es) (drop (suc i) fs)) b) ∙ sym (step es fs i e l q) ∙ all

  pub hidden : (es fs : List Element) (i : ℕ) (e : Element) → i < length es → e ≡ get_or es i e → below ls e.class m
      ≡ false
      → has_below ls m (drop i es) (drop i fs) ≡ has_below ls m es fs → has_below ls m (drop (i + 1) es)
      (drop (i + 1) fs) ≡ has_below ls m es fs
  hidden es fs i e l q b all = next es fs i e l q (ap (λ x. not x || has_element_at e (drop i fs)) b) all

  pub has : (es fs : List Element) (i : ℕ) (e : Element) → i < length es → e ≡ get_or es i e
      → has_element_at e (drop i fs) ≡ true
      → has_below ls m (drop i es) (drop i fs) ≡ has_below ls m es fs → has_below ls m (drop (i + 1) es)
      (drop (i + 1) fs) ≡ has_below ls m es fs
  has es fs i e l q h all = next es fs i e l q (or_right (not (below ls e.class m)) _ h) all

pub ruleset element_steps = (has_element_at-none)

pub ruleset below_steps = (lacks, hidden, has)
