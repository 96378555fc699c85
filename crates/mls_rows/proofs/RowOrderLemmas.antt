-- The orders of rows, field by field, are total, and only equal rows tie.
use Rattle.std.proofs.Common.{◌≡◌, ℕ, zero, suc, ◌+◌, ◌<◌, pos, true, false, List, [], ◌∷◌, map, length, get_or, Greater, IsPermutation, sym, ap, subst, arith, IsSorted, int_cmp, is_lt}
use Rattle.std.specs.List.{AllByRecursion}
use Rattle.std.specs.Ordering.{ordering_then}
use Rattle.std.specs.Cmp.{IsTotalOrder, int_cmp_is}
use Rattle.std.specs.FinMap.{IsAntisymmetric, slice_cmp-IsAntisymmetric, nat_cmp-IsAntisymmetric, int_cmp-IsAntisymmetric}
use Rattle.std.proofs.lemmas.Cmp.{on_total, then_total, nat_cmp_total, int_cmp_total, nat_list_cmp_total}
use Rattle.std.proofs.lemmas.Int.{ints}
use Rattle.std.proofs.lemmas.List.Sorted.{IsPermutation-trans, IsPermutation-sym}
use Rattle.mls_scheme.proofs.OrderLemmas.{then_ties}
use Rattle.mls_tables.specs.declared.rows.NodeRow.{NodeRow}
use Rattle.mls_tables.specs.declared.rows.CellRow.{CellRow}
use Rattle.mls_tables.specs.declared.rows.AuditRow.{AuditRow}
use Rattle.mls_tables.specs.Rows.{numbered, are_numbered}
use Rattle.mls_tables.proofs.NumberedLemmas.{spelled}
use Rattle.mls_rows.proofs.SortedLemmas.{one_sorted}
pub use Rattle.mls_rows.specs.Condemning.{bytes_cmp, node_cmp, cell_cmp, entry_cmp}

bytes_exact : IsAntisymmetric bytes_cmp
bytes_exact = slice_cmp-IsAntisymmetric nat_cmp-IsAntisymmetric

-- ---- nodes

pub node_total : IsTotalOrder node_cmp
node_total = then_total (on_total (λ (r : NodeRow). r.rel) nat_cmp_total)
    (then_total (on_total (λ r. r.ent) nat_list_cmp_total)
    (then_total (on_total (λ r. r.kclass) nat_cmp_total) (then_total (on_total (λ r. r.label) nat_cmp_total)
    (on_total (λ r. r.pattern) nat_list_cmp_total))))

pub node_exact : IsAntisymmetric node_cmp
node_exact a b h =
    let s = then_ties _ _ h in
    let t = then_ties _ _ s.1 in
    let u = then_ties _ _ t.1 in
    let v = then_ties _ _ u.1 in
    let rel = nat_cmp-IsAntisymmetric a.rel b.rel s.0 in
    let ent = bytes_exact a.ent b.ent t.0 in
    let kclass = nat_cmp-IsAntisymmetric a.kclass b.kclass u.0 in
    let label = nat_cmp-IsAntisymmetric a.label b.label v.0 in
    let pattern = bytes_exact a.pattern b.pattern v.1 in
    λ i. record { rel = rel i; ent = ent i; kclass = kclass i; label = label i; pattern = pattern i }

-- ---- cells

pub cell_total : IsTotalOrder cell_cmp
cell_total = then_total (on_total (λ (r : CellRow). r.rel) nat_cmp_total)
    (then_total (on_total (λ r. r.ent) nat_list_cmp_total)
    (then_total (on_total (λ r. r.kclass) nat_cmp_total)
    (then_total (on_total (λ r. r.label) nat_cmp_total) (then_total (on_total (λ r. r.attr) nat_cmp_total)
    (on_total (λ r. r.value) nat_list_cmp_total)))))

pub cell_exact : IsAntisymmetric cell_cmp
cell_exact a b h =
    let s = then_ties _ _ h in
    let t = then_ties _ _ s.1 in
    let u = then_ties _ _ t.1 in
    let v = then_ties _ _ u.1 in
    let w = then_ties _ _ v.1 in
    let rel = nat_cmp-IsAntisymmetric a.rel b.rel s.0 in
    let ent = bytes_exact a.ent b.ent t.0 in
    let kclass = nat_cmp-IsAntisymmetric a.kclass b.kclass u.0 in
    let label = nat_cmp-IsAntisymmetric a.label b.label v.0 in
    let attr = nat_cmp-IsAntisymmetric a.attr b.attr w.0 in
    let value = bytes_exact a.value b.value w.1 in
    λ i. record { rel = rel i; ent = ent i; kclass = kclass i; label = label i; attr = attr i; value = value i }

-- ---- entries of the audit list

pub entry_total : IsTotalOrder entry_cmp
entry_total = then_total (on_total (λ (r : AuditRow). r.number) int_cmp_total)
    (on_total (λ r. r.bytes) nat_list_cmp_total)

pub entry_exact : IsAntisymmetric entry_cmp
entry_exact a b h =
    let s = then_ties _ _ h in
    let number = int_cmp-IsAntisymmetric a.number b.number s.0 in
    let bytes = bytes_exact a.bytes b.bytes s.1 in
    λ i. record { number = number i; bytes = bytes i }

-- ---- entries whose numbers rise are sorted

above : (k : ℕ) → int_cmp (pos (k + 1)) (pos k) ≡ Greater
above k = sym (int_cmp_is (pos (k + 1)) (pos k) Greater (omega (arith, ints)))

numbered_rises : (k : ℕ) (list : List (List ℕ)) (i : ℕ) (d : AuditRow) → i + 1 < length (numbered k list)
    → is_lt (entry_cmp (get_or (numbered k list) (i + 1) d) (get_or (numbered k list) i d)) ≡ false
numbered_rises k [] i d l = absurd (omega (arith, l))
numbered_rises k (b ∷ []) i d l = absurd (omega (arith, l))
numbered_rises k (b ∷ c ∷ list) zero d l = ap (λ o. is_lt (ordering_then o (bytes_cmp c b))) (above k)
numbered_rises k (b ∷ c ∷ list) (suc i) d l =
    let rows = numbered k (b ∷ c ∷ list) in
    subst (λ n. is_lt (entry_cmp (get_or rows n d) (get_or rows (suc i) d)) ≡ false) {x = suc (i + 1)} {y = suc i + 1}
    (omega arith) (numbered_rises (k + 1) (c ∷ list) i d (omega (arith, l)))

-- sorted rows that are those of a list are numbered as it is
pub sorted_entries : (list : List (List ℕ)) (rows sorted : List AuditRow) → IsPermutation (numbered 1 list) rows
    → IsPermutation rows sorted → IsSorted entry_cmp sorted → sorted ≡ numbered 1 list
sorted_entries list rows sorted are same s =
    sym (one_sorted entry_cmp entry_total entry_exact (numbered 1 list) sorted
    (λ i d low l. numbered_rises 1 list i d l) s (IsPermutation-trans _ _ _ are same))

-- and the other way round
pub numbered_texts : (rows sorted : List AuditRow) → IsPermutation rows sorted → are_numbered (pos 1) sorted ≡ true
    → IsPermutation (numbered 1 (map (λ r. r.bytes) sorted)) rows
numbered_texts rows sorted same up = subst (λ l. IsPermutation l rows) (spelled 1 sorted up)
    (IsPermutation-sym _ _ same)

-- what holds of the texts holds of the rows
pub each_text : (P : List ℕ → Type 0) (k : ℕ) (list : List (List ℕ)) → AllByRecursion P list
    → AllByRecursion (λ r. P r.bytes) (numbered k list)
each_text P k [] h = tt
each_text P k (b ∷ list) h = (h.0, each_text P (k + 1) list h.1)

pub each_row : (P : List ℕ → Type 0) (rows : List AuditRow) → AllByRecursion (λ r. P r.bytes) rows
    → AllByRecursion P (map (λ r. r.bytes) rows)
each_row P [] h = tt
each_row P (r ∷ rows) h = (h.0, each_row P rows h.1)
