-- A certificate is read exactly where the text is its own.
use Rattle.std.proofs.Common.{◌≡◌, ℕ, zero, suc, ◌+◌, List, [], ◌∷◌, ◌++◌, length, get_or, codes, Result, Ok, Err, refl, sym, ap, subst, ◌∙◌, append_assoc, arith, IsErrAnd, flat_map, append-nil}
use Rattle.std.specs.List.{AllByRecursion}
use Rattle.std.proofs.lemmas.List.Splits.{join_with_byte-slice_split}
use Rattle.mls_lattice.specs.declared.failed.Failed.{Failed}
use Rattle.mls_lattice.specs.declared.failed.Failed.TheVariants as failed
use Rattle.mls_lattice.specs.declared.label.Label.{Label}
use Rattle.mls_lattice.specs.Reading.{◌>>=◌, Gives}
use Rattle.mls_lattice.proofs.ReadingLemmas.{bind_ok, ok_is}
use Rattle.mls_certcheck.proofs.AgainLemmas.{done, Above}
use Rattle.mls_certcheck.proofs.LinesLemmas.{left_at, Stands, labels_found_at, labels_again_at, ended_found, ended_again}
use Rattle.mls_certcheck.specs.declared.cert.Cert.{Cert}
use Rattle.mls_certcheck.specs.declared.cert.Cert2.{Cert2}
use Rattle.mls_certcheck.specs.declared.cert.Certificate.TheVariants.{One, Two}
use Rattle.mls_certcheck.specs.declared.fault.CertFault.{CertFault}
use Rattle.mls_certcheck.specs.Fault.{failed_fault_of}
use Rattle.mls_certcheck.specs.Reading.{GivesCert, pieces, line_at, cert_at, rows_at, cert2_at, ended_at, lines_in, lines2_in, text_in, text2_in}
use Rattle.mls_certcheck.specs.Spelling.{labels_line, row_line, cert_text, cert2_text, AreLabels, IsCert, IsCert2, AreUnambiguous}

vars_above : Above 32 (codes "vars")
vars_above = (omega arith, (omega arith, (omega arith, (omega arith, tt))))

pcs_above : Above 32 (codes "pcs")
pcs_above = (omega arith, (omega arith, (omega arith, tt)))

row_above : Above 32 (codes "row")
row_above = (omega arith, (omega arith, (omega arith, tt)))

-- ---- version 1

pub cert_found_at : (lines : List (List ℕ)) (i : ℕ) (c : Cert) → cert_at lines i ≡ Ok c → IsCert c
    × (left_at lines i ≡ cert_text c ++ left_at lines (i + 2))
unfolding cert_at
cert_found_at lines i c e =
    let v = bind_ok (line_at (codes "vars") lines i) _ c e in
    let p = bind_ok (line_at (codes "pcs") lines (i + 1)) _ c v.2 in
    let vf = labels_found_at (codes "vars") lines i v.0 v.1 in
    let pf = labels_found_at (codes "pcs") lines (i + 1) p.0 p.1 in
    let two : i + 1 + 1 ≡ i + 2 = omega arith in
    let vars = labels_line (codes "vars") v.0 in
    let pcs = labels_line (codes "pcs") p.0 in
    subst (λ (d : Cert). IsCert d × (left_at lines i ≡ cert_text d ++ left_at lines (i + 2)))
    (ok_is (record { var_labels = v.0; pc_labels = p.0 }) c p.2) (
      (vf.0, pf.0),
      vf.1
          ∙ ap (λ (x : List ℕ). vars ++ x) (pf.1 ∙ ap (λ (n : ℕ). pcs ++ left_at lines n) two)
          ∙ sym (append_assoc vars pcs (left_at lines (i + 2))),
    )

pub cert_again_at : (lines : List (List ℕ)) (i : ℕ) (c : Cert) (rest : List ℕ) → IsCert c
    → Stands lines i (cert_text c ++ rest) → (cert_at lines i ≡ Ok c) × Stands lines (i + 2) rest
unfolding cert_at
cert_again_at lines i c rest is stands =
    let pcs = labels_line (codes "pcs") c.pc_labels in
    let v = labels_again_at (codes "vars") lines i c.var_labels (pcs ++ rest) vars_above is.0
    (stands ∙ ap (pieces 10) (append_assoc (labels_line (codes "vars") c.var_labels) pcs rest)) in
    let p = labels_again_at (codes "pcs") lines (i + 1) c.pc_labels rest pcs_above is.1 v.1 in
    let two : i + 1 + 1 ≡ i + 2 = omega arith in
    (rw (v.0, p.0) refl, subst (λ (n : ℕ). Stands lines n rest) two p.1)

-- ---- rows

record RowsFound (front rows : List (List Label)) (n : ℕ) (lines : List (List ℕ)) (i : ℕ) : Type 0 where
  more : List (List Label)
  whole : rows ≡ front ++ more
  count : length more ≡ n
  fits : AllByRecursion AreLabels more
  text : left_at lines i ≡ flat_map row_line more ++ left_at lines (i + n)

rows_found : (n : ℕ) (front rows : List (List Label)) (lines : List (List ℕ)) (i : ℕ) → rows_at front n lines i
    ≡ Ok rows → RowsFound front rows n lines i
unfolding rows_at
rows_found zero front rows lines i e =
    let here : i ≡ i + 0 = omega arith in
    record {
      more = [];
      whole = sym (ok_is front rows e) ∙ sym (append-nil front);
      count = refl;
      fits = tt;
      text =
          ap (left_at lines) here;
    }
rows_found (suc n) front rows lines i e =
    let r = bind_ok (line_at (codes "row") lines i) _ rows e in
    let f = labels_found_at (codes "row") lines i r.0 r.1 in
    let m = rows_found n (front ++ r.0 ∷ []) rows lines (i + 1) r.2 in
    let next : i + 1 + n ≡ i + suc n = omega arith in
    record {
      more = r.0 ∷ m.more;
      whole = m.whole ∙ append_assoc front (r.0 ∷ []) m.more;
      count = ap (λ (k : ℕ). suc k) m.count;
      fits = (f.0, m.fits);
      text = f.1
          ∙ ap (λ (x : List ℕ). row_line r.0 ++ x) (m.text ∙ ap (λ (k : ℕ). flat_map row_line m.more
          ++ left_at lines k) next)
          ∙ sym (append_assoc (row_line r.0) (flat_map row_line m.more) (left_at lines (i + suc n)));
    }

rows_again : (front rows : List (List Label)) (lines : List (List ℕ)) (i : ℕ) (rest : List ℕ)
    → AllByRecursion AreLabels rows → Stands lines i (flat_map row_line rows ++ rest)
    → (rows_at front (length rows) lines i ≡ Ok (front ++ rows)) × Stands lines (i + length rows) rest
unfolding rows_at
rows_again front [] lines i rest is stands =
    let here : i ≡ i + 0 = omega arith in (
      ap (λ (xs : List (List Label)). done xs) (sym (append-nil front)),
      subst (λ (n : ℕ). Stands lines n rest) here stands,
    )
rows_again front (r ∷ rows) lines i rest is stands =
    let texts = flat_map row_line rows in
    let l = labels_again_at (codes "row") lines i r (texts ++ rest) row_above is.0
    (stands ∙ ap (pieces 10) (append_assoc (row_line r) texts rest)) in
    let m = rows_again (front ++ r ∷ []) rows lines (i + 1) rest is.1 l.1 in
    let next : i + 1 + length rows ≡ i + suc (length rows) = omega arith in (
      ap (λ (x : Result (List Label) CertFault). x >>= λ y. rows_at (front ++ y ∷ []) (length rows) lines (i + 1)) l.0
          ∙ m.0
          ∙ ap (λ (xs : List (List Label)). done xs) (append_assoc front (r ∷ []) rows),
      subst (λ (n : ℕ). Stands lines n rest) next m.1,
    )

-- ---- version 2

pub cert2_found_at : (lines : List (List ℕ)) (i : ℕ) (c : Cert2) → cert2_at lines i ≡ Ok c → IsCert2 c
    × (left_at lines i ≡ cert2_text c ++ left_at lines (i + (1 + length c.pc_labels)))
unfolding cert2_at
cert2_found_at lines i c e =
    let p = bind_ok (line_at (codes "pcs") lines i) _ c e in
    let r = bind_ok (rows_at [] (length p.0) lines (i + 1)) _ c p.2 in
    let pf = labels_found_at (codes "pcs") lines i p.0 p.1 in
    let rf = rows_found (length p.0) [] r.0 lines (i + 1) r.1 in
    let next : i + 1 + length p.0 ≡ i + (1 + length p.0) = omega arith in
    let pcs = labels_line (codes "pcs") p.0 in
    subst (λ (d : Cert2). IsCert2 d × (left_at lines i ≡ cert2_text d ++ left_at lines (i + (1 + length d.pc_labels))))
    (ok_is (record { rows = r.0; pc_labels = p.0 }) c r.2) (
      record {
        pcs = pf.0;
        rows = subst (AllByRecursion AreLabels) (sym rf.whole) rf.fits;
        each = ap length rf.whole
            ∙ rf.count;
      },
      pf.1
          ∙ ap (λ (x : List ℕ). pcs ++ x) (rf.text ∙ (λ j. flat_map row_line (sym rf.whole j) ++ left_at lines
          (next j)))
          ∙ sym (append_assoc pcs (flat_map row_line r.0) (left_at lines (i + (1 + length p.0)))),
    )

pub cert2_again_at : (lines : List (List ℕ)) (i : ℕ) (c : Cert2) (rest : List ℕ) → IsCert2 c
    → Stands lines i (cert2_text c ++ rest) → (cert2_at lines i ≡ Ok c)
    × Stands lines (i + (1 + length c.pc_labels)) rest
unfolding cert2_at
cert2_again_at lines i c rest is stands =
    let texts = flat_map row_line c.rows in
    let p = labels_again_at (codes "pcs") lines i c.pc_labels (texts ++ rest) pcs_above is.pcs
    (stands ∙ ap (pieces 10) (append_assoc (labels_line (codes "pcs") c.pc_labels) texts rest)) in
    let r = rows_again [] c.rows lines (i + 1) rest is.rows p.1 in
    let rows : rows_at [] (length c.pc_labels) lines (i + 1) ≡ Ok c.rows = subst (λ (n : ℕ). rows_at [] n lines (i + 1)
    ≡ Ok c.rows) is.each r.0 in
    let next : i + 1 + length c.rows ≡ i + (1 + length c.pc_labels) = omega (arith, is.each) in
    (rw (p.0, rows) refl, subst (λ (n : ℕ). Stands lines n rest) next r.1)

-- ---- whole texts

pub cert_found : (bytes : List ℕ) (c : Cert) → text_in bytes ≡ Ok c → IsCert c × (bytes ≡ cert_text c)
unfolding lines_in
cert_found bytes c e =
    let lines = pieces 10 bytes in
    let b = bind_ok (cert_at lines 0) _ c e in
    let over = ended_found lines 2 b.0 c b.2 in
    let f = cert_found_at lines 0 b.0 b.1 in
    subst (λ (d : Cert). IsCert d × (bytes ≡ cert_text d)) over.0 (
      f.0,
      sym (join_with_byte-slice_split 10 bytes) ∙ f.1 ∙ ap (λ (x : List ℕ). cert_text b.0 ++ x) over.1 ∙ append-nil
          (cert_text b.0),
    )

pub cert_again : (c : Cert) → IsCert c → text_in (cert_text c) ≡ Ok c
unfolding lines_in
cert_again c is =
    let lines = pieces 10 (cert_text c) in
    let s = cert_again_at lines 0 c [] is (ap (pieces 10) (sym (append-nil (cert_text c)))) in
    ap (λ (r : Result Cert CertFault). r >>= λ x. ended_at lines 2 x) s.0 ∙ ended_again lines 2 c s.1

pub cert2_found : (bytes : List ℕ) (c : Cert2) → text2_in bytes ≡ Ok c → IsCert2 c × (bytes ≡ cert2_text c)
unfolding lines2_in
cert2_found bytes c e =
    let lines = pieces 10 bytes in
    let b = bind_ok (cert2_at lines 0) _ c e in
    let over = ended_found lines (1 + length b.0.pc_labels) b.0 c b.2 in
    let f = cert2_found_at lines 0 b.0 b.1 in
    let start : 0 + (1 + length b.0.pc_labels) ≡ 1 + length b.0.pc_labels = omega arith in
    subst (λ (d : Cert2). IsCert2 d × (bytes ≡ cert2_text d)) over.0 (
      f.0,
      sym (join_with_byte-slice_split 10 bytes) ∙ f.1 ∙ ap (λ (x : List ℕ). cert2_text b.0 ++ x)
          (ap (left_at lines) start ∙ over.1) ∙ append-nil (cert2_text b.0),
    )

pub cert2_again : (c : Cert2) → IsCert2 c → text2_in (cert2_text c) ≡ Ok c
unfolding lines2_in
cert2_again c is =
    let lines = pieces 10 (cert2_text c) in
    let s = cert2_again_at lines 0 c [] is (ap (pieces 10) (sym (append-nil (cert2_text c)))) in
    let start : 0 + (1 + length c.pc_labels) ≡ 1 + length c.pc_labels = omega arith in
    ap (λ (r : Result Cert2 CertFault). r >>= λ x. ended_at lines (1 + length x.pc_labels) x) s.0
    ∙ ended_again lines (1 + length c.pc_labels) c (subst (λ (n : ℕ). Stands lines n []) start s.1)

-- no two certificates have one text
pub unambiguous : AreUnambiguous
unambiguous (One c) (One d) p q same = ap (λ x. One x) (ok_is c d (sym (cert_again c p) ∙ ap text_in same
    ∙ cert_again d q))
unambiguous (Two c) (Two d) p q same = ap (λ x. Two x) (ok_is c d (sym (cert2_again c p) ∙ ap text2_in same
    ∙ cert2_again d q))
unambiguous (One c) (Two d) p q same = let e : 118 ≡ 112 = ap (λ (xs : List ℕ). get_or xs 0 0) same
    in absurd (omega (arith, e))
unambiguous (Two c) (One d) p q same = let e : 112 ≡ 118 = ap (λ (xs : List ℕ). get_or xs 0 0) same
    in absurd (omega (arith, e))

-- a fault is told as it is, and want of memory as one that says nothing of what is read
pub is_told : {V C : Type 0} (view : V → C) (read : Result C CertFault) (r : Result V CertFault)
    (failed : Failed CertFault) → IsErrAnd r (λ e. e ≡ failed_fault_of failed) → Gives view (Err failed) read
    → GivesCert view r read
is_told view read (Ok v) failed is given = absurd is
is_told view read (Err e) failed.Memory is given = λ other. absurd (other (ap (λ f. f.cause) is))
is_told view read (Err e) (failed.Fault fault) is given = λ other. given fault refl ∙ ap Err (sym is)
