-- Rows of labels, one of which gets another label.
use Rattle.std.proofs.Common.{◌≡◌, ℕ, zero, suc, ◌-◌, ◌<◌, ◌≤◌, ◌^◌, List, [], ◌∷◌, length, map, set, get_or, drop, replicate, refl, sym, ap, ◌∙◌, subst, inl, inr, ◌⊎◌, arith, length-set, get_or-set_same, get_or-set_other}
use Rattle.std.specs.List.{AllByRecursion}
use Rattle.std.proofs.Math.Seq.{map-set_same}
use Rattle.std.proofs.lemmas.Bool.{cases_eq}
use Rattle.std.proofs.lemmas.List.{map-set, length-map, length-replicate, drop-map, get_or-replicate}
use Rattle.mls_lattice.specs.declared.label.Label.{Label}
use Rattle.mls_lattice.specs.Lattice.{Pair, Dominates, join, bottom, pair_of}
use Rattle.mls_lattice.specs.Policy.{Policy}
use Rattle.mls_translang.specs.Tree.{statements}
use Rattle.mls_translang.specs.Tx.{Tx}
use Rattle.mls_certcheck.specs.declared.cert.Certificate.{Certificate}
use Rattle.mls_certcheck.specs.declared.cert.Certificate.TheVariants.{One, Two}
use Rattle.mls_certcheck.specs.declared.cert.Version.{Version}
use Rattle.mls_certcheck.specs.declared.cert.Version.TheVariants as version
use Rattle.mls_certcheck.specs.declared.flow.Slot.{Slot}
use Rattle.mls_certcheck.specs.declared.flow.Slot.TheVariants.{Variable, Statement}
use Rattle.mls_certcheck.specs.Rules.{Claim, Counts, claim, pc_labels, row_after, var_rows, slot_label}
use Rattle.mls_certcheck.proofs.LabelLemmas.{above_bottom, label_here}
use Rattle.mls_lattice.proofs.LatticeLemmas.{Dominates-refl}
use Rattle.mls_labeller.specs.Least.{IsOf, Below}
use Rattle.mls_labeller.specs.Rising.{certificate, row_count, counts_of, cell, room, HasSlot}
use Rattle.mls_labeller.proofs.RoomLemmas.{room_less, sum_less}

-- ---- the rows of a certificate

pub pc_row : (v : Version) (rows : List (List Label)) → pc_labels (certificate v rows) ≡ get_or rows 0 []
pc_row version.First rows = refl
pc_row version.Second rows = refl

later_row : (rows : List (List Label)) (n : ℕ) → get_or (drop 1 rows) n [] ≡ get_or rows (suc n) []
later_row [] n = refl
later_row (row ∷ rows) n = refl

pub one_row : (rows : List (List Label)) (n : ℕ) → row_after (certificate version.First rows) n ≡ get_or rows 1 []
one_row rows n = refl

pub no_row : (rows : List (List Label)) (n : ℕ) → n ≤ 0 → row_after (certificate version.Second rows) n ≡ []
no_row rows zero none = refl
no_row rows (suc n) none = absurd (omega (arith, none))

pub own_row : (rows : List (List Label)) (n : ℕ) → 0 < n → row_after (certificate version.Second rows) n
    ≡ get_or rows n []
own_row rows zero some = absurd (omega (arith, some))
own_row rows (suc n) some = later_row rows n

pub ruleset var_row = (one_row, no_row, own_row)

pub is_of : (v : Version) (rows : List (List Label)) → IsOf v (certificate v rows)
is_of version.First rows = tt
is_of version.Second rows = tt

-- every certificate of the version has rows
pub has_rows : (v : Version) (x : Certificate) → IsOf v x → (rows : List (List Label)) × (certificate v rows ≡ x)
has_rows version.First (One c) h = (c.pc_labels ∷ c.var_labels ∷ [], refl)
has_rows version.First (Two c) h = absurd h
has_rows version.Second (One c) h = absurd h
has_rows version.Second (Two c) h = (c.pc_labels ∷ c.rows, refl)

-- ---- how many labels there are

length_at : (rows : List (List Label)) (r : ℕ) → length (get_or rows r []) ≡ get_or (map length rows) r 0
length_at [] r = refl
length_at (row ∷ rows) zero = refl
length_at (row ∷ rows) (suc r) = length_at rows r

all_lengths : (rows : List (List Label)) (count n : ℕ) → map length rows ≡ replicate count n
    → AllByRecursion (λ row. length row ≡ n) rows
all_lengths [] count n e = tt
all_lengths (row ∷ rows) zero n e = absurd cc
all_lengths (row ∷ rows) (suc count) n e = (ap (λ l. get_or l 0 0) e, all_lengths rows count n (ap (drop 1) e))

pub var_counts : (v : Version) (tx : Tx) (rows : List (List Label)) → map length rows ≡ counts_of v tx
    → AllByRecursion (λ row. length row ≡ length tx.vars) (var_rows (certificate v rows))
var_counts version.First tx rows e = (length_at rows 1 ∙ (λ t. get_or (e t) 1 0), tt)
var_counts version.Second tx rows e = all_lengths (drop 1 rows) (statements tx.body) (length tx.vars)
    (sym (drop-map length 1 rows) ∙ ap (drop 1) e)

pub stmt_counts : (v : Version) (tx : Tx) (rows : List (List Label)) → map length rows ≡ counts_of v tx
    → Counts (statements tx.body) (certificate v rows)
stmt_counts version.First tx rows e = length_at rows 0 ∙ (λ t. get_or (e t) 0 0)
stmt_counts version.Second tx rows e = (
  sym (length-map (drop 1 rows) length) ∙ ap length (sym (drop-map length 1 rows) ∙ ap (drop 1) e) ∙ length-replicate
      (statements tx.body) (length tx.vars),
  length_at rows 0 ∙ (λ t. get_or (e t) 0 0),
)

-- ---- a label and its place

abbrev pub label_at : List (List Label) → ℕ → ℕ → Pair
label_at rows r i = get_or (map pair_of (get_or rows r [])) i bottom

-- another label at a place of a row
abbrev pub put : List (List Label) → ℕ → ℕ → Label → List (List Label)
put rows r i l = set rows r (set (get_or rows r []) i l)

pub row_there : (rows : List (List Label)) (r i : ℕ) → i < length (get_or rows r []) → r < length rows
row_there [] r i lt = absurd (omega (arith, lt))
row_there (row ∷ rows) zero i lt = omega arith
row_there (row ∷ rows) (suc r) i lt = omega (arith, row_there rows r i lt)

module _ (rows : List (List Label)) (r i : ℕ) (new : Label) (lt : i < length (get_or rows r [])) where
  abbrev row : List Label
  row = get_or rows r []

  row_put : map pair_of (get_or (put rows r i new) r []) ≡ set (map pair_of row) i (pair_of new)
  row_put = ap (map pair_of) (get_or-set_same rows r (set row i new) [] (row_there rows r i lt))
      ∙ map-set pair_of row i new

  pub put_here : label_at (put rows r i new) r i ≡ pair_of new
  put_here = (λ t. get_or (row_put t) i bottom) ∙ get_or-set_same (map pair_of row) i (pair_of new) bottom
      (omega (arith, lt, length-map row pair_of))

  put_beside : (j : ℕ) → (j ≡ i → ⊥) → label_at (put rows r i new) r j ≡ label_at rows r j
  put_beside j other = (λ t. get_or (row_put t) j bottom) ∙ get_or-set_other (map pair_of row) i j
      (pair_of new) bottom other

  -- it is the place, or its label is as it was
  put_cases : (m j : ℕ) → ((m ≡ r) × (j ≡ i)) ⊎ (label_at (put rows r i new) m j ≡ label_at rows m j)
  put_cases m j =
      elim (cases_eq m r) [
        | inl same ↦
            elim (cases_eq j i) [
              | inl equal ↦ inl (same, equal)
              | inr other ↦ inr (ap (λ (k : ℕ). label_at (put rows r i new) k j) same ∙ put_beside j other
                  ∙ ap (λ (k : ℕ). label_at rows k j) (sym same))
            ]
        | inr other ↦ inr (ap (λ (l : List Label). get_or (map pair_of l) j bottom) (get_or-set_other rows r m
            (set row i new) [] other))
      ]

  pub put_counts : map length (put rows r i new) ≡ map length rows
  put_counts = map-set_same length rows r (set row i new) [] (length-set row i new)

  pub put_room : (p : Pair) → new.rank < 256 → new.cats < 2 ^ 32 → pair_of new ≡ join (label_at rows r i) p
      → (Dominates (label_at rows r i) p → ⊥) → room (put rows r i new) < room rows
  put_room p rank cats is above =
      let no_label : Label = record { rank = 0; cats = 0 } in
      let here = label_here row i no_label lt in
      sum_less _ rows r (set row i new) [] (row_there rows r i lt)
      (sum_less _ row i new no_label lt
      (room_less (get_or row i no_label) new p rank cats (is ∙ ap (λ q. join q p) here)
      (λ h. above (subst (λ q. Dominates q p) (sym here) h))))

-- ---- the label of a slot

pub there : (tx : Tx) (v : Version) (t : Slot) → HasSlot tx t → (rows : List (List Label)) → map length rows
    ≡ counts_of v tx → (cell v t).1 < length (get_or rows (cell v t).0 [])
there tx version.First (Variable n i) has rows counts = let long = length_at rows 1 ∙ (λ t. get_or (counts t) 1 0)
    in omega (arith, has.1, long)
there tx version.Second (Variable zero i) has rows counts = absurd (omega (arith, has.0.0))
there tx version.Second (Variable (suc n) i) has rows counts =
    let long = length_at rows (suc n) ∙ (λ t. get_or (counts t) (suc n) 0) ∙ get_or-replicate (statements tx.body) n
    (length tx.vars) 0 (omega (arith, has.0.1)) in
    omega (arith, has.1, long)
there tx v (Statement n) has rows counts = let long = length_at rows 0 ∙ (λ t. get_or (counts t) 0 0)
    in omega (arith, has.0, has.1, long)

module _ (p : Policy) (tx : Tx) where
  abbrev at : Version → List (List Label) → Claim
  at v rows = claim p tx (certificate v rows)

  -- it is that at the slot's place
  abbrev IsOwn : Version → Slot → Type 0
  IsOwn v t = (rows : List (List Label)) → slot_label (at v rows) t ≡ label_at rows (cell v t).0 (cell v t).1

  stmt_own : (v : Version) (n : ℕ) → IsOwn v (Statement (suc n))
  stmt_own v n rows =
      let place : n ≡ suc n - 1 = omega arith in
      ap (λ (row : List Label). get_or (map pair_of row) n bottom) (pc_row v rows)
      ∙ ap (λ (k : ℕ). label_at rows 0 k) place

  var_own : (n i : ℕ) → IsOwn version.Second (Variable (suc n) i)
  var_own n i rows = ap (λ (row : List Label). get_or (map pair_of row) i bottom) (later_row rows n)

  pub slot_own : (v : Version) (t : Slot) → HasSlot tx t → IsOwn v t
  slot_own version.First (Variable n i) has rows = refl
  slot_own version.Second (Variable zero i) has rows = absurd (omega (arith, has.0.0))
  slot_own version.Second (Variable (suc n) i) has rows = var_own n i rows
  slot_own v (Statement zero) has rows = absurd (omega (arith, has.0))
  slot_own v (Statement (suc n)) has rows = stmt_own v n rows

  -- or else it is always the same
  own_or_same : (v : Version) (t : Slot) → IsOwn v t ⊎ ((x y : List (List Label)) → slot_label (at v x) t
      ≡ slot_label (at v y) t)
  own_or_same version.First (Variable n i) = inl (λ rows. refl)
  own_or_same version.Second (Variable zero i) = inr (λ x y. refl)
  own_or_same version.Second (Variable (suc n) i) = inl (var_own n i)
  own_or_same v (Statement zero) = inr (λ x y. refl)
  own_or_same v (Statement (suc n)) = inl (stmt_own v n)

  -- one label that rises stays below, and so do they all
  pub stays_below : (v : Version) (x other : List (List Label)) (t : Slot) (new : Label) → HasSlot tx t → map length x
      ≡ counts_of v tx → Dominates (slot_label (at v other) t) (pair_of new) → Below (at v x) (at v other)
      → Below (at v (put x (cell v t).0 (cell v t).1 new)) (at v other)
  stays_below v x other t new has counts over below u =
      let r = (cell v t).0 in
      let i = (cell v t).1 in
      let lt = there tx v t has x counts in
      let y = put x r i new in
      let q = slot_label (at v other) u in
      elim (own_or_same v u) [
        | inl own ↦
            elim (put_cases x r i new lt (cell v u).0 (cell v u).1) [
              | inl same ↦
                  let here : slot_label (at v y) u ≡ pair_of new = own y ∙ (λ s. label_at y (same.0 s) (same.1 s))
                  ∙ put_here x r i new lt in
                  let that : q ≡ slot_label (at v other) t = own other ∙ (λ s. label_at other (same.0 s) (same.1 s))
                  ∙ sym (slot_own v t has other) in
                  subst (λ p. Dominates p (slot_label (at v y) u)) (sym that)
                  (subst (Dominates (slot_label (at v other) t)) (sym here) over)
              | inr kept ↦ subst (Dominates q) (own x ∙ sym kept ∙ sym (own y)) (below u)
            ]
        | inr fixed ↦ subst (Dominates q) (fixed x y) (below u)
      ]

  -- ---- the lowest labels

  pub lowest_below : (v : Version) (x other : List (List Label)) → ((r i : ℕ) → label_at x r i ≡ bottom)
      → Below (at v x) (at v other)
  lowest_below v x other low t =
      let q = slot_label (at v other) t in
      elim (own_or_same v t) [
        | inl own ↦ subst (Dominates q) (sym (own x ∙ low (cell v t).0 (cell v t).1)) (above_bottom q)
        | inr fixed ↦ subst (Dominates q) (fixed other x) (Dominates-refl q)
      ]

map_times : {A B : Type 0} (f : A → B) (n : ℕ) (a : A) → map f (replicate n a) ≡ replicate n (f a)
map_times f zero a = refl
map_times f (suc n) a = ap (λ l. f a ∷ l) (map_times f n a)

times_at : {A : Type 0} (P : A → Type 0) (n i : ℕ) (a d : A) → P a → P d → P (get_or (replicate n a) i d)
times_at P zero i a d h k = k
times_at P (suc n) zero a d h k = h
times_at P (suc n) (suc i) a d h k = times_at P n i a d h k

-- one label, for all variables and statements
abbrev pub rows_with : Label → Version → Tx → List (List Label)
rows_with l v tx = replicate (statements tx.body) l ∷ replicate (row_count v (statements tx.body))
    (replicate (length tx.vars) l)

pub with_counts : (l : Label) (v : Version) (tx : Tx) → map length (rows_with l v tx) ≡ counts_of v tx
with_counts l v tx =
    (λ t. length-replicate (statements tx.body) l t ∷ map_times length (row_count v (statements tx.body))
    (replicate (length tx.vars) l) t)
    ∙ (λ t. statements tx.body ∷ replicate (row_count v (statements tx.body)) (length-replicate (length tx.vars) l t))

module _ (l : Label) (low : pair_of l ≡ bottom) where
  low_row : (n i : ℕ) → get_or (map pair_of (replicate n l)) i bottom ≡ bottom
  low_row n i = (λ t. get_or (map_times pair_of n l t) i bottom) ∙ times_at (λ p. p ≡ bottom) n i
      (pair_of l) bottom low refl

  pub low_labels : (v : Version) (tx : Tx) (r i : ℕ) → label_at (rows_with l v tx) r i ≡ bottom
  low_labels v tx zero i = low_row (statements tx.body) i
  low_labels v tx (suc r) i = times_at (λ row. get_or (map pair_of row) i bottom ≡ bottom)
      (row_count v (statements tx.body)) r (replicate (length tx.vars) l) [] (low_row (length tx.vars) i) refl
