-- A certificate of version 1 as one of version 2.
use Rattle.std.proofs.Common.{◌≡◌, ℕ, zero, suc, ◌+◌, ◌<◌, ◌≤◌, List, [], ◌∷◌, length, map, Option, Some, None, refl, sym, ap, ◌∙◌, subst, inl, inr, arith, nat_lt, slice_index_or, flat_map, ltb-true, ltb-false}
use Rattle.std.specs.List.{AllByRecursion}
use Rattle.std.proofs.lemmas.Bool.{cases_Bool}
use Rattle.std.proofs.lemmas.List.{get_or_past}
use Rattle.mls_lattice.specs.declared.label.Label.{Label}
use Rattle.mls_lattice.specs.Lattice.{Pair, Dominates, bottom, pair_of}
use Rattle.mls_lattice.specs.Labels.{label_of}
use Rattle.mls_lattice.specs.Policy.{Name, Policy}
use Rattle.mls_lattice.proofs.LatticeLemmas.{Dominates-refl, Dominates-trans}
use Rattle.mls_translang.specs.Tree.{Writing, Insert, Update, Delete, Stmt, Assign, Write_at, Release, Emit, Block, End, Do, If, For, statements}
use Rattle.mls_translang.specs.declared.tx.Parameter.{Parameter as Given}
use Rattle.mls_translang.specs.Tx.{Tx}
use Rattle.mls_certcheck.specs.declared.cert.Cert.{Cert}
use Rattle.mls_certcheck.specs.declared.cert.Cert2.{Cert2}
use Rattle.mls_certcheck.specs.declared.cert.Certificate.TheVariants.{One, Two}
use Rattle.mls_certcheck.specs.Points.{Shape, Plain, Branching, Looping, Point, points}
use Rattle.mls_certcheck.specs.Lines.{Line, by, outcome_flows, write, order, rest, within_ends, stmt_lines, own_lines, lines_at, tx_lines, all_points, lines}
use Rattle.mls_certcheck.specs.Rules.{Claim, claim, hi, after, pc, slot_label, source_label, IsAbove, IsObeyed}
use Rattle.mls_certcheck.specs.Laws.{IsLift, FlatCertificatesLift}
use Rattle.mls_certcheck.specs.declared.flow.Slot.{Slot}
use Rattle.mls_certcheck.specs.declared.flow.Slot.TheVariants.{Variable, Statement}
use Rattle.mls_certcheck.specs.declared.flow.Source.{Source}
use Rattle.mls_certcheck.specs.declared.flow.Source.TheVariants.{Held, Parameter, Declared}
use Rattle.mls_certcheck.specs.declared.flow.Flow.{Flow}
use Rattle.mls_certcheck.specs.declared.flow.Flow.TheVariants.{Into, Kept, Within, Under}
use Rattle.mls_certcheck.specs.declared.refusal.Rule.{Rule}
use Rattle.mls_lattice.proofs.EachLemmas.{all_append, all_if, all_zip, each_flat}
use Rattle.mls_certcheck.proofs.LabelLemmas.{above_bottom}

-- rows that are all one
same_row : (row : List Label) (rows : List (List Label)) (n : ℕ) → AllByRecursion (λ r. r ≡ row) rows → n < length rows
    → slice_index_or rows n [] ≡ row
same_row row [] n h lt = absurd (omega (arith, lt))
same_row row (r ∷ rows) zero h lt = h.0
same_row row (r ∷ rows) (suc n) h lt = same_row row rows n h.1 (omega (arith, lt))

-- ---- each line bounds what holds after a statement that there is

-- one of so many statements
record IsNumber (count n : ℕ) : Type 0 where
  pub least : 1 ≤ n
  pub most : n ≤ count

abbrev IsAfter : ℕ → Slot → Type 0
IsAfter count (Variable n x) = IsNumber count n
IsAfter count (Statement n) = Unit {0}

abbrev Bounds : ℕ → Flow → Type 0
Bounds count (Into targets sources) = AllByRecursion (IsAfter count) targets
Bounds count (Kept m n but) = IsNumber count n
Bounds count (Within limit sources) = Unit {0}
Bounds count (Under sources) = Unit {0}

module _ (count : ℕ) where
  abbrev BoundsOf : Line → Type 0
  BoundsOf l = Bounds count l.flow

  by_each : (n : ℕ) (r : Rule) (fs : List Flow) → AllByRecursion (Bounds count) fs → AllByRecursion BoundsOf (by n r fs)
  by_each n r [] h = tt
  by_each n r (f ∷ fs) h = (h.0, by_each n r fs h.1)

  statements_after : (ms : List ℕ) → AllByRecursion (IsAfter count) (map (λ m. Statement m) ms)
  statements_after [] = tt
  statements_after (m ∷ ms) = (tt, statements_after ms)

  module _ (n : ℕ) (is : IsNumber count n) where
    ends_bound : (ms : List ℕ) → AllByRecursion (Bounds count) (map (λ m. Kept m n None) ms)
    ends_bound [] = tt
    ends_bound (m ∷ ms) = (is, ends_bound ms)

    outcome_bounds : (w : ℕ) (o : Option ℕ) → AllByRecursion (Bounds count) (outcome_flows n w o)
    outcome_bounds w None = tt
    outcome_bounds w (Some x) = ((is, tt), tt)

    order_bounds : (w : ℕ) (writing : Writing) → AllByRecursion BoundsOf (order n w writing)
    order_bounds w (Insert key values) = tt
    order_bounds w (Update key key_class from sets) = (tt, (tt, tt))
    order_bounds w (Delete key key_class) = (tt, tt)

    stmt_bounds : (b : ℕ) (rows : List ℕ) (stmt : Stmt) → AllByRecursion BoundsOf (stmt_lines n b rows stmt)
    stmt_bounds b rows (Assign x e) = ((is, tt), tt)
    stmt_bounds b rows (Write_at relation w writing outcome) =
        all_append BoundsOf (write n b rows w writing outcome) (order n w writing) (
          tt,
          (tt, by_each n _ (outcome_flows n w outcome) (outcome_bounds w outcome)),
        ) (order_bounds w writing)
    stmt_bounds b rows (Release e to into) = (tt, (tt, ((is, tt), tt)))
    stmt_bounds b rows (Emit e label) = (tt, (tt, tt))

    own_bounds : (b : ℕ) (rows : List ℕ) (shape : Shape) → AllByRecursion BoundsOf (own_lines n b rows shape)
    own_bounds b rows (Plain stmt) = all_append BoundsOf (stmt_lines n b rows stmt) (rest n b stmt)
        (stmt_bounds b rows stmt) (is, tt)
    own_bounds b rows (Branching guard inner ends) = (
      statements_after inner,
      by_each n _ (map (λ m. Kept m n None) ends) (ends_bound ends),
    )
    own_bounds b rows (Looping label inner ends) =
        (tt, (statements_after inner, by_each n _ (map (λ m. Kept m n None) ends) (ends_bound ends)))

  abbrev IsNumbered : Point → Type 0
  IsNumbered p = IsNumber count p.number

  are_numbered : (block : Block) (n a b : ℕ) (rows : List ℕ) → 1 ≤ n → n + statements block ≤ count + 1
      → AllByRecursion IsNumbered (points n a b rows block)
  are_numbered End n a b rows least most = tt
  are_numbered (Do stmt rest) n a b rows least most = (
    record { least = least; most = omega (arith, most) },
    are_numbered rest (n + 1) a n rows (omega (arith, least)) (omega (arith, most)),
  )
  are_numbered (If guard one other rest) n a b rows least most = (
    record { least = least; most = omega (arith, most) },
    all_append IsNumbered (points (n + 1) n b rows one) _ (are_numbered one (n + 1) n b rows (omega (arith, least))
        (omega (arith, most)))
        (all_append IsNumbered (points (n + 1 + statements one) n b rows other) _
        (are_numbered other (n + 1 + statements one) n b rows (omega (arith, least)) (omega (arith, most)))
        (are_numbered rest (n + (1 + statements one + statements other)) a n rows (omega (arith, least))
        (omega (arith, most)))),
  )
  are_numbered (For row relation label body rest) n a b rows least most = (
    record { least = least; most = omega (arith, most) },
    all_append IsNumbered (points (n + 1) n n (label ∷ rows) body) _ (are_numbered body (n + 1) n n (label ∷ rows)
        (omega (arith, least)) (omega (arith, most)))
        (are_numbered rest (n + (1 + statements body)) a n rows (omega (arith, least)) (omega (arith, most))),
  )

  lines_bound : (tx : Tx) → statements tx.body ≡ count → AllByRecursion BoundsOf (lines tx)
  lines_bound tx all =
      all_append BoundsOf (tx_lines tx) (flat_map (lines_at (length tx.vars)) (all_points tx)) (
        tt,
        by_each 0 _ (flat_map (λ p. within_ends p.1.label) tx.params) (each_flat (Bounds count)
            (λ p. within_ends p.1.label) tx.params (ends tx.params)),
      )
      (each_flat BoundsOf (lines_at (length tx.vars)) (all_points tx)
      (all_if IsNumbered (λ p. AllByRecursion BoundsOf (lines_at (length tx.vars) p))
      (λ p is. (tt, ((tt, tt), own_bounds p.number is p.before p.rows p.shape)))
      (all_points tx) (are_numbered tx.body 1 0 0 [] (omega arith) (omega (arith, all)))))
    where
      ends : (ps : List (Name × Given)) → AllByRecursion (λ p. AllByRecursion (Bounds count) (within_ends p.1.label)) ps
      ends [] = tt
      ends (p ∷ ps) = ((tt, (tt, tt)), ends ps)

-- ---- the labels of both

module _ (policy : Policy) (tx : Tx) (one : Cert) (two : Cert2) (lift : IsLift one two) where
  abbrev k : Claim
  k = claim policy tx (One one)

  abbrev j : Claim
  j = claim policy tx (Two two)

  after_same : (n x : ℕ) → IsNumber (length two.rows) n → after j n x ≡ after k n x
  after_same zero x h = absurd (omega (arith, h.least))
  after_same (suc n) x h = ap (λ row. slice_index_or (map pair_of row) x bottom)
      (same_row one.var_labels two.rows n lift.rows (omega (arith, h.most)))

  after_under : (n x : ℕ) → Dominates (after k n x) (after j n x)
  after_under zero x = above_bottom (after k zero x)
  after_under (suc n) x =
      elim (cases_Bool (nat_lt n (length two.rows))) [
        | inl t ↦
            (let within = ltb-true n (length two.rows) t in
            let is : IsNumber (length two.rows) (suc n) = record { least = omega arith; most = omega (arith, within) }
            in
            subst (λ p. Dominates (after k (suc n) x) p) (sym (after_same (suc n) x is))
            (Dominates-refl (after k (suc n) x)))
        | inr f ↦
            (let past : slice_index_or two.rows n [] ≡ [] = get_or_past two.rows n [] (ltb-false n (length two.rows) f)
            in
            subst (λ row. Dominates (after k (suc n) x) (slice_index_or (map pair_of row) x bottom)) (sym past)
            (above_bottom (after k (suc n) x)))
      ]

  pc_same : (n : ℕ) → pc j n ≡ pc k n
  pc_same zero = refl
  pc_same (suc n) = ap (λ labels. slice_index_or (map pair_of labels) n bottom) lift.pcs

  slot_same : (t : Slot) → IsAfter (length two.rows) t → slot_label j t ≡ slot_label k t
  slot_same (Variable n x) is = after_same n x is
  slot_same (Statement n) is = pc_same n

  source_under : (s : Source) → Dominates (source_label k s) (source_label j s)
  source_under (Held (Variable n x)) = after_under n x
  source_under (Held (Statement n)) = subst (λ p. Dominates (pc k n) p) (sym (pc_same n)) (Dominates-refl (pc k n))
  source_under (Parameter i) = Dominates-refl _
  source_under (Declared label) = Dominates-refl _

  over_lifts : (p q : Pair) (ss : List Source) → q ≡ p → IsAbove k p ss → IsAbove j q ss
  over_lifts p q ss e h =
      subst (λ r. IsAbove j r ss) (sym e) (all_if (λ s. Dominates p (source_label k s))
      (λ s. Dominates p (source_label j s)) (λ s d. Dominates-trans p (source_label k s) (source_label j s) d
      (source_under s)) ss h)

  flow_lifts : (f : Flow) → Bounds (length two.rows) f → IsObeyed k f → IsObeyed j f
  flow_lifts (Into ts ss) is h =
      all_zip (IsAfter (length two.rows)) (λ t. IsAbove k (slot_label k t) ss) (λ t. IsAbove j (slot_label j t) ss)
      (λ t at g. over_lifts (slot_label k t) (slot_label j t) ss (slot_same t at) g) ts is h
  flow_lifts (Kept m n but) is h = λ x lt other. subst (λ p. Dominates p (after j m x)) (sym (after_same n x is))
      (Dominates-trans _ _ _ (h x lt other) (after_under m x))
  flow_lifts (Within limit ss) is h = over_lifts (label_of k.labels limit) (label_of k.labels limit) ss refl h
  flow_lifts (Under ss) is h = over_lifts (hi k) (hi k) ss refl h

pub lift_rules : FlatCertificatesLift
lift_rules policy tx one two lift rules =
    let k = claim policy tx (One one) in
    let j = claim policy tx (Two two) in
    let pcs : length two.pc_labels ≡ statements tx.body = ap length lift.pcs ∙ rules.stmt_count in
    let rows : length two.rows ≡ statements tx.body = lift.count ∙ pcs in
    record {
      var_count = all_if (λ row. row ≡ one.var_labels) (λ row. length row ≡ length tx.vars) (λ row e. ap length e
          ∙ rules.var_count.0) two.rows lift.rows;
      stmt_count = (rows, pcs);
      lines = all_zip (BoundsOf (length two.rows)) (λ l. IsObeyed k l.flow) (λ l. IsObeyed j l.flow)
          (λ l. flow_lifts policy tx one two lift l.flow) (lines tx) (lines_bound (length two.rows) tx
          (sym rows)) rules.lines;
    }
