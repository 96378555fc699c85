-- What the rules say of a block, statement by statement.
use Rattle.std.proofs.Common.{◌≡◌, ℕ, zero, suc, ◌+◌, ◌<◌, ◌≤◌, Bool, true, false, List, [], ◌∷◌, length, map, refl, sym, ◌∙◌, subst, inl, inr, arith, nat_lt, slice_index_or, true≢false, ltb-true, ltb-false}
use Rattle.std.proofs.Recursive.{every_back}
use Rattle.std.specs.List.{AllByRecursion}
use Rattle.std.proofs.lemmas.Bool.{false_from_ne_true, cases_Bool}
use Rattle.std.proofs.lemmas.List.{get_or_past, length-map}
use Rattle.mls_lattice.specs.declared.label.Label.{Label}
use Rattle.mls_lattice.specs.Lattice.{Pair, Dominates, ◌⊑◌, bottom, pair_of}
use Rattle.mls_lattice.specs.Labels.{Labels, label_of, below}
use Rattle.mls_lattice.proofs.LatticeLemmas.{⊑-Dominates, Dominates-⊑, Dominates-trans}
use Rattle.mls_translang.specs.Tree.{Block, End, Do, If, For, statements}
use Rattle.mls_certcheck.specs.declared.cert.Certificate.{Certificate}
use Rattle.mls_certcheck.specs.declared.cert.Certificate.TheVariants.{One, Two}
use Rattle.mls_certcheck.specs.Points.{Plain, directs, branching, looping, points}
use Rattle.mls_certcheck.specs.Rules.{Claim, pc, after, var_rows, row_after}
use Rattle.mls_certcheck.proofs.LabelLemmas.{above_bottom}
use Rattle.mls_certcheck.proofs.LineLemmas.{Obeys, runs_in}

-- ---- labels that c does not dominate

pub unseen_above : (c a b : Pair) → Dominates b a → a ⊑ c ≡ false → b ⊑ c ≡ false
unseen_above c a b d h = false_from_ne_true _
    (λ t. true≢false (sym (Dominates-⊑ a c (Dominates-trans c b a (⊑-Dominates b c t) d)) ∙ h))

pub seen_under : (c a b : Pair) → Dominates b a → b ⊑ c ≡ true → a ⊑ c ≡ true
seen_under c a b d h = Dominates-⊑ a c (Dominates-trans c b a (⊑-Dominates b c h) d)

pub below-⊑ : (ls : Labels) (a c : ℕ) (b : Bool) → label_of ls a ⊑ label_of ls c ≡ b → below ls a c ≡ b
unfolding below
below-⊑ ls a c b h = h

pub ⊑-below : (ls : Labels) (a c : ℕ) (b : Bool) → below ls a c ≡ b → label_of ls a ⊑ label_of ls c ≡ b
unfolding below
⊑-below ls a c b h = h

-- ---- statements

module _ (k : Claim) where
  -- the rules hold at each statement of a block, the first of which is n, in the statement a, after the statement b,
  -- and in these loops
  abbrev pub BlockObeys : ℕ → ℕ → ℕ → List ℕ → Block → Type 0
  BlockObeys n a b rows block = AllByRecursion (Obeys k) (points n a b rows block)

  -- the label of each of its own statements dominates l
  abbrev pub AreAbove : Pair → ℕ → Block → Type 0
  AreAbove l n block = AllByRecursion (λ m. Dominates (pc k m) l) (directs n block)

  -- its own statements run only where what is around it runs
  pub around_above : (block : Block) (n a b : ℕ) (rows : List ℕ) → BlockObeys n a b rows block
      → AreAbove (pc k a) n block
  around_above End n a b rows h = tt
  around_above (Do stmt rest) n a b rows h = (
    runs_in k n a b rows (Plain stmt) h.0,
    around_above rest (n + 1) a n rows h.1,
  )
  around_above (If guard one other rest) n a b rows h = (
    runs_in k n a b rows (branching n b guard one other) h.0,
    around_above rest (n + (1 + statements one + statements other)) a n rows
        (every_back (Obeys k) _ (points (n + 1 + statements one) n b rows other) _
        (every_back (Obeys k) _ (points (n + 1) n b rows one) _ h.1 refl) refl),
  )
  around_above (For row relation label body rest) n a b rows h = (
    runs_in k n a b rows (looping n b label body) h.0,
    around_above rest (n + (1 + statements body)) a n rows
        (every_back (Obeys k) _ (points (n + 1) n n (label ∷ rows) body) _ h.1 refl),
  )

-- ---- variables

-- there are no labels past the variables
abbrev pub HasNoMore : Claim → Type 0
HasNoMore k = (n x : ℕ) → length k.tx.vars ≤ x → after k n x ≡ bottom

past_row : (row : List Label) (count x : ℕ) → length row ≡ count → count ≤ x → slice_index_or (map pair_of row) x bottom
    ≡ bottom
past_row row count x e past = get_or_past (map pair_of row) x bottom (omega (arith, length-map row pair_of, e, past))

past_rows : (rows : List (List Label)) (n count x : ℕ) → AllByRecursion (λ row. length row ≡ count) rows → count ≤ x
    → slice_index_or (map pair_of (slice_index_or rows n [])) x bottom ≡ bottom
past_rows [] n count x h past = refl
past_rows (row ∷ rows) zero count x h past = past_row row count x h.0 past
past_rows (row ∷ rows) (suc n) count x h past = past_rows rows n count x h.1 past

pub has_no_more : (k : Claim) → AllByRecursion (λ row. length row ≡ length k.tx.vars) (var_rows k.cert) → HasNoMore k
has_no_more k h n x past = in_row k.cert n h
  where
    in_row : (cert : Certificate) (n : ℕ) → AllByRecursion (λ row. length row ≡ length k.tx.vars) (var_rows cert)
        → slice_index_or (map pair_of (row_after cert n)) x bottom ≡ bottom
    in_row (One cert) n h = past_row cert.var_labels (length k.tx.vars) x h.0 past
    in_row (Two cert) zero h = refl
    in_row (Two cert) (suc n) h = past_rows cert.rows n (length k.tx.vars) x h past

module _ (k : Claim) (none : HasNoMore k) (m n : ℕ) where
  -- what holds of each variable holds of all numbers
  pub keeps_all : (x : ℕ) → (x < length k.tx.vars → Dominates (after k n x) (after k m x))
      → Dominates (after k n x) (after k m x)
  keeps_all x h =
      elim (cases_Bool (nat_lt x (length k.tx.vars))) [
        | inl t ↦ h (ltb-true x (length k.tx.vars) t)
        | inr f ↦ subst (λ l. Dominates (after k n x) l) (sym (none m x (ltb-false x (length k.tx.vars) f)))
            (above_bottom (after k n x))
      ]
