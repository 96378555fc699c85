-- What SQL's tests on the columns of a row say of the row as plain data.
use Rattle.std.proofs.Common.{◌≡◌, ℕ, ◌<◌, ◌≤◌, ◌*◌, ◌^◌, ◌%◌, zero, suc, not, cond, pos, negsuc, List, [], ◌∷◌, Bool, true, false, ◌&&◌, nat_eq, refl, sym, ap, ◌∙◌, true≢false, arith, bit_and, int_lt, nat_lt, w64, bytes_eq, is_eq, int_cmp, int_eq, ltb-true, ltb-false}
use Rattle.std.specs.Int.{bit_at, cast_signed, cast_unsigned, int_bit_and, int_shl}
use Rattle.std.specs.Int.Bits.{and_zero_r}
use Rattle.std.proofs.Math.Pow.{pow-lt, pow_pos}
use Rattle.std.proofs.Math.Nat.{mod-eq_of_lt}
use Rattle.std.proofs.lemmas.Int.{of_z-to_z, ints}
use Rattle.std.proofs.lemmas.Nat.Bits.{and_pow, bit_at-lt, bit_at_above}
use Rattle.std.proofs.lemmas.Bool.{and_parts, false_from_ne_true}
use Rattle.std.proofs.lemmas.Bool.Decides.{nat_tests}
use Rattle.std.proofs.lemmas.Map.Text.{is_eq-slice_cmp}
use Rattle.sqlite_value.specs.declared.value.Value.{Value}
use Rattle.sqlite_value.specs.declared.value.Value.TheVariants.{Null, Int, Real, Text, Blob}
use Rattle.sqlite_value.specs.Order.{Row, column, value_cmp}
use Rattle.sqlite_value.proofs.OrderLemmas.{value_cmp-Int, value_cmp-Blob}
use Rattle.sqlite_trees.specs.Tree.{rowid}
use Rattle.sqlite_trees.specs.View.{is_int}
use Rattle.sqlite_rules.proofs.TableLemmas.{int_is}
use Rattle.sqlite.specs.Term.{eval_all}
use Rattle.sqlite.specs.Ops.{binary, is_true}
use Rattle.sqlite_sql.specs.declared.ops.BinaryOp.TheVariants.{Compare, Bits}
use Rattle.sqlite_sql.specs.declared.ops.BitOp.TheVariants as bit
use Rattle.sqlite_sql.specs.Ops.{shifted}
use Rattle.sqlite_sql.specs.declared.ops.CompareOp.TheVariants.{Eq}
use Rattle.sqlite.specs.Collation.TheVariants.{Binary}
use Rattle.mls_tables.specs.declared.rows.TupleKey.{TupleKey}
use Rattle.mls_tables.specs.Rows.{nat_in, blob_in, is_nat, is_blob, node_of, is_node_row, cell_of, is_cell_row, audit_of, is_audit_row, is_node_at, is_node_among, has_bit, is_node, is_cell_at, is_cell_among, is_cell_in, is_cell, class_values}
use Rattle.mls_tables.specs.declared.rows.CellRow.{CellRow}
use Rattle.mls_tables.proofs.RowValues.{node_values, cell_values, audit_values}
use Rattle.mls_tables.proofs.NumberedLemmas.{equal_ints}
use Rattle.mls_tables.proofs.QueryAnswers.{passes, equals_int, equals_blob}
use Rattle.mls_tables.proofs.Texts.{by_class, by_cell, by_label, by_labels, node_shown, cell_shown, audit_shown}

pub nat_is : (v : Value) → is_nat v ≡ true → v ≡ Int (pos (nat_in v))
nat_is Null h = absurd (true≢false (sym h))
nat_is (Int (pos n)) h = refl
nat_is (Int (negsuc n)) h = absurd (true≢false (sym h))
nat_is (Real x) h = absurd (true≢false (sym h))
nat_is (Text t) h = absurd (true≢false (sym h))
nat_is (Blob b) h = absurd (true≢false (sym h))

pub blob_is : (v : Value) → is_blob v ≡ true → v ≡ Blob (blob_in v)
blob_is Null h = absurd (true≢false (sym h))
blob_is (Int n) h = absurd (true≢false (sym h))
blob_is (Real x) h = absurd (true≢false (sym h))
blob_is (Text t) h = absurd (true≢false (sym h))
blob_is (Blob b) h = refl

equal_numbers : (m n : ℕ) → is_eq (int_cmp (pos m) (pos n)) ≡ nat_eq m n
equal_numbers m n = grind (arith, ints, nat_tests)

same_nat : (v : Value) (n : ℕ) → is_nat v ≡ true → is_true (binary (Compare Eq Binary) v (Int (pos n)))
    ≡ nat_eq (nat_in v) n
same_nat v n h =
    equals_int v (pos n) ∙ (ap (λ w. is_eq (value_cmp w (Int (pos n)))) (nat_is v h)
    ∙ (ap is_eq (value_cmp-Int (pos (nat_in v)) (pos n)) ∙ equal_numbers (nat_in v) n))

same_blob : (v : Value) (b : List ℕ) → is_blob v ≡ true → is_true (binary (Compare Eq Binary) v (Blob b))
    ≡ bytes_eq (blob_in v) b
same_blob v b h =
    equals_blob v b ∙ (ap (λ w. is_eq (value_cmp w (Blob b))) (blob_is v h) ∙ (ap is_eq (value_cmp-Blob (blob_in v) b)
    ∙ is_eq-slice_cmp (blob_in v) b))

pub and_true : (b : Bool) → (b && true) ≡ b
and_true true = refl
and_true false = refl

-- ---- the columns of the tables' rows

pub record NodeColumns (r : Row) : Type 0 where
  pub id : is_int (rowid r) ≡ true
  pub rel : is_nat (column r 1) ≡ true
  pub ent : is_blob (column r 2) ≡ true
  pub kclass : is_nat (column r 3) ≡ true
  pub label : is_nat (column r 4) ≡ true
  pub pattern : is_blob (column r 5) ≡ true

pub node_parts : (r : Row) → is_node_row r ≡ true → NodeColumns r
node_parts r h =
    let a = and_parts _ _ h in
    let b = and_parts _ _ a.1 in
    let c = and_parts _ _ b.1 in
    let d = and_parts _ _ c.1 in
    let e = and_parts _ _ d.1 in
    record { id = a.0; rel = b.0; ent = c.0; kclass = d.0; label = e.0; pattern = e.1 }

pub record CellColumns (r : Row) : Type 0 where
  pub id : is_int (rowid r) ≡ true
  pub rel : is_nat (column r 1) ≡ true
  pub ent : is_blob (column r 2) ≡ true
  pub kclass : is_nat (column r 3) ≡ true
  pub label : is_nat (column r 4) ≡ true
  pub attr : is_nat (column r 5) ≡ true
  pub value : is_blob (column r 6) ≡ true

pub cell_parts : (r : Row) → is_cell_row r ≡ true → CellColumns r
cell_parts r h =
    let a = and_parts _ _ h in
    let b = and_parts _ _ a.1 in
    let c = and_parts _ _ b.1 in
    let d = and_parts _ _ c.1 in
    let e = and_parts _ _ d.1 in
    let f = and_parts _ _ e.1 in
    record { id = a.0; rel = b.0; ent = c.0; kclass = d.0; label = e.0; attr = f.0; value = f.1 }

-- ---- bits

not_below : (n : ℕ) → int_lt (pos n) (pos 0) ≡ false
not_below n = grind (arith, ints)

module _ (mask n : ℕ) (within : mask < 2 ^ 64) where
  -- a bit that a number of 64 bits can have
  low_bit : n < 64 → int_bit_and w64 (cast_signed w64 mask) (int_shl w64 (pos 1) n)
      ≡ cast_signed w64 (bit_at mask n * 2 ^ n)
  low_bit l =
      let small : 2 ^ n < 2 ^ 64 = pow-lt l in
      let one : 1 * 2 ^ n ≡ 2 ^ n = omega arith in
      (λ i. cast_signed w64 (bit_and (of_z-to_z w64 mask within i)
      (cast_unsigned w64 (cast_signed w64 (one i % 2 ^ 64)))))
      ∙ (λ i. cast_signed w64 (bit_and mask (cast_unsigned w64 (cast_signed w64 (mod-eq_of_lt small i)))))
      ∙ (λ i. cast_signed w64 (bit_and mask (of_z-to_z w64 (2 ^ n) small i)))
      ∙ ap (cast_signed w64) (and_pow mask n)

  -- no other number has a bit
  high_bit : 64 ≤ n → int_bit_and w64 (cast_signed w64 mask) (pos 0) ≡ pos 0
  high_bit l = ap (cast_signed w64) (and_zero_r (cast_unsigned w64 (cast_signed w64 mask)))

  not_zero : n < 64 → int_eq (cast_signed w64 (2 ^ n)) (pos 0) ≡ false
  not_zero l = false_from_ne_true _ (λ t.
      let same : 2 ^ n ≡ 0 = sym (of_z-to_z w64 (2 ^ n) (pow-lt l)) ∙ ap (cast_unsigned w64)
      (equal_ints (cast_signed w64 (2 ^ n)) (pos 0) t) in
      let some = pow_pos n in
      absurd (omega (arith, same, some)))

  is_set : (b : ℕ) → b < 2 → bit_at mask n ≡ b → n < 64 → is_true (Int (cast_signed w64 (bit_at mask n * 2 ^ n)))
      ≡ nat_eq (bit_at mask n) 1
  is_set zero few is l =
      let none : 0 * 2 ^ n ≡ 0 = omega arith in
      (λ i. is_true (Int (cast_signed w64 (is i * 2 ^ n)))) ∙ (λ i. is_true (Int (cast_signed w64 (none i))))
      ∙ sym (ap (λ b. nat_eq b 1) is)
  is_set (suc zero) few is l =
      let one : 1 * 2 ^ n ≡ 2 ^ n = omega arith in
      (λ i. is_true (Int (cast_signed w64 (is i * 2 ^ n)))) ∙ (λ i. is_true (Int (cast_signed w64 (one i))))
      ∙ ap not (not_zero l) ∙ sym (ap (λ b. nat_eq b 1) is)
  is_set (suc (suc b)) few is l = absurd (omega (arith, few))

  tested : (b : Bool) → nat_lt n 64 ≡ b → is_true
      (Int (int_bit_and w64 (cast_signed w64 mask) (cond b (int_shl w64 (pos 1) n) (pos 0)))) ≡ nat_eq (bit_at mask n) 1
  tested true t = let l = ltb-true n 64 t in ap (λ z. is_true (Int z)) (low_bit l) ∙ is_set (bit_at mask n)
      (bit_at-lt mask n) refl l
  tested false f = let l = ltb-false n 64 f in ap (λ z. is_true (Int z)) (high_bit l)
      ∙ sym (ap (λ b. nat_eq b 1) (bit_at_above mask 64 n within l))

set_bit : (v : Value) (mask : ℕ) → mask < 2 ^ 64 → is_nat v ≡ true
    → is_true (binary (Bits bit.And) (Int (cast_signed w64 mask)) (binary (Bits bit.Shl) (Int (pos 1)) v))
    ≡ has_bit mask (nat_in v)
unfolding binary
set_bit v mask within h =
    ap (λ x. is_true (binary (Bits bit.And) (Int (cast_signed w64 mask)) (binary (Bits bit.Shl) (Int (pos 1)) x)))
    (nat_is v h)
    ∙ ap (λ b. is_true (Int (int_bit_and w64 (cast_signed w64 mask) (shifted (cond b false true) (pos 1) (nat_in v)))))
    (not_below (nat_in v))
    ∙ tested mask (nat_in v) within (nat_lt (nat_in v) 64) refl

-- ---- the tests of the statements

pub node_in_class : (k : TupleKey) (r : Row) → is_node_row r ≡ true
    → passes by_class (class_values k) r ≡ is_node k (node_of r)
node_in_class k r h =
    let c = node_parts r h in
    rw (
      same_nat (column r 1) k.rel c.rel,
      same_blob (column r 2) k.ent c.ent,
      same_nat (column r 3) k.kclass c.kclass,
      same_nat (column r 4) k.label c.label,
      and_true (nat_eq (nat_in (column r 4)) k.label),
    )

pub cell_in_class : (k : TupleKey) (r : Row) → is_cell_row r ≡ true
    → passes by_class (class_values k) r ≡ is_cell_in k (cell_of r)
cell_in_class k r h =
    let c = cell_parts r h in
    rw (
      same_nat (column r 1) k.rel c.rel,
      same_blob (column r 2) k.ent c.ent,
      same_nat (column r 3) k.kclass c.kclass,
      same_nat (column r 4) k.label c.label,
      and_true (nat_eq (nat_in (column r 4)) k.label),
    )

pub cell_at_key : (cell : CellRow) (r : Row) → is_cell_row r ≡ true → passes by_cell (cell_values cell) r
    ≡ is_cell cell.rel cell.ent cell.kclass cell.label cell.attr (cell_of r)
cell_at_key cell r h =
    let c = cell_parts r h in
    rw (
      same_nat (column r 1) cell.rel c.rel,
      same_blob (column r 2) cell.ent c.ent,
      same_nat (column r 3) cell.kclass c.kclass,
      same_nat (column r 4) cell.label c.label,
      same_nat (column r 5) cell.attr c.attr,
      and_true (nat_eq (nat_in (column r 5)) cell.attr),
    )

-- ---- what the queries show, of the rows that they show it of

pub node_at_label : (rel label : ℕ) (r : Row) → is_node_row r ≡ true
    → (passes by_label (Int (pos rel) ∷ Int (pos label) ∷ []) r ≡ is_node_at rel label (node_of r))
node_at_label rel label r h =
    let c = node_parts r h in rw (
      same_nat (column r 1) rel c.rel,
      same_nat (column r 4) label c.label,
      and_true (nat_eq (nat_in (column r 4)) label),
    )

pub node_among_labels : (rel labels : ℕ) → labels < 2 ^ 64 → (r : Row) → is_node_row r ≡ true
    → (passes by_labels (Int (pos rel) ∷ Int (cast_signed w64 labels) ∷ []) r ≡ is_node_among rel labels (node_of r))
node_among_labels rel labels within r h =
    let c = node_parts r h in rw (
      same_nat (column r 1) rel c.rel,
      set_bit (column r 4) labels within c.label,
      and_true (has_bit labels (nat_in (column r 4))),
    )

pub node_shows : (params r : Row) → is_node_row r ≡ true → eval_all node_shown (params ∷ r ∷ [])
    ≡ node_values (node_of r)
node_shows params r h =
    let c = node_parts r h in
    rw (
      ← nat_is (column r 1) c.rel,
      ← blob_is (column r 2) c.ent,
      ← nat_is (column r 3) c.kclass,
      ← nat_is (column r 4) c.label,
      ← blob_is (column r 5) c.pattern,
    )

pub cell_at_label : (rel label : ℕ) (r : Row) → is_cell_row r ≡ true
    → (passes by_label (Int (pos rel) ∷ Int (pos label) ∷ []) r ≡ is_cell_at rel label (cell_of r))
cell_at_label rel label r h =
    let c = cell_parts r h in rw (
      same_nat (column r 1) rel c.rel,
      same_nat (column r 4) label c.label,
      and_true (nat_eq (nat_in (column r 4)) label),
    )

pub cell_among_labels : (rel labels : ℕ) → labels < 2 ^ 64 → (r : Row) → is_cell_row r ≡ true
    → (passes by_labels (Int (pos rel) ∷ Int (cast_signed w64 labels) ∷ []) r ≡ is_cell_among rel labels (cell_of r))
cell_among_labels rel labels within r h =
    let c = cell_parts r h in rw (
      same_nat (column r 1) rel c.rel,
      set_bit (column r 4) labels within c.label,
      and_true (has_bit labels (nat_in (column r 4))),
    )

pub cell_shows : (params r : Row) → is_cell_row r ≡ true → eval_all cell_shown (params ∷ r ∷ [])
    ≡ cell_values (cell_of r)
cell_shows params r h =
    let c = cell_parts r h in
    rw (
      ← nat_is (column r 1) c.rel,
      ← blob_is (column r 2) c.ent,
      ← nat_is (column r 3) c.kclass,
      ← nat_is (column r 4) c.label,
      ← nat_is (column r 5) c.attr,
      ← blob_is (column r 6) c.value,
    )

pub entry_shows : (params r : Row) → is_audit_row r ≡ true → eval_all audit_shown (params ∷ r ∷ [])
    ≡ audit_values (audit_of r)
entry_shows params r h = let c = and_parts _ _ h in rw (← int_is (rowid r) c.0, ← blob_is (column r 2) c.1)
