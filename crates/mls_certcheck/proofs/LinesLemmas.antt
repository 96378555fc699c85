-- A text and its lines, each by its place.
use Rattle.std.proofs.Common.{◌≡◌, ℕ, ◌+◌, ◌<◌, true, ◌==◌, List, [], ◌∷◌, ◌++◌, length, drop, codes, Result, Ok, refl, sym, ap, ◌∙◌, append_assoc, arith, eqb-true, flat_map, drop-drop}
use Rattle.std.specs.List.{join_with_byte}
use Rattle.std.proofs.lemmas.List.{nil_from_length}
use Rattle.std.proofs.lemmas.List.Splits.{length-slice_split, slice_split_at}
use Rattle.mls_lattice.specs.declared.label.Label.{Label}
use Rattle.mls_lattice.specs.Reading.{◌>>=◌}
use Rattle.mls_lattice.proofs.ReadingLemmas.{bind_ok, pass_ok, ok_is}
use Rattle.mls_certcheck.proofs.AgainLemmas.{Above, Above-append, Above-lower, labels_above, no_mark, words_read}
use Rattle.mls_certcheck.proofs.FoundLemmas.{line_found}
use Rattle.mls_certcheck.specs.declared.fault.CertFault.{CertFault}
use Rattle.mls_certcheck.specs.Reading.{pieces, line_in, whole_in, text_at, line_at, is_past_end, ended_at}
use Rattle.mls_certcheck.specs.Spelling.{spaced_label, labels_line, AreLabels}

-- the text from a place on
abbrev pub left_at : List (List ℕ) → ℕ → List ℕ
left_at lines i = join_with_byte 10 (drop i lines)

-- from a place on the lines are those of a text
abbrev pub Stands : List (List ℕ) → ℕ → List ℕ → Type 0
Stands lines i text = drop i lines ≡ pieces 10 text

-- ---- lines

whole_found : (line : ℕ) (lines : List (List ℕ)) (x : List ℕ) → whole_in line lines ≡ Ok x → join_with_byte 10 lines
    ≡ x ++ 10 ∷ join_with_byte 10 (drop 1 lines)
unfolding whole_in
whole_found line [] x e = absurd cc
whole_found line (t ∷ []) x e = absurd cc
whole_found line (t ∷ u ∷ rest) x e = ap (λ (y : List ℕ). y ++ 10 ∷ join_with_byte 10 (u ∷ rest)) (ok_is t x e)

pub text_found : (lines : List (List ℕ)) (i : ℕ) (x : List ℕ) → text_at lines i ≡ Ok x → left_at lines i ≡ x ++ 10
    ∷ left_at lines (i + 1)
text_found lines i x e =
    whole_found (i + 1) (drop i lines) x e
    ∙ ap (λ (ls : List (List ℕ)). x ++ 10 ∷ join_with_byte 10 ls) (drop-drop 1 i lines)

whole_again : (line : ℕ) (x : List ℕ) (lines : List (List ℕ)) → 0 < length lines → whole_in line (x ∷ lines) ≡ Ok x
unfolding whole_in
whole_again line x [] some = absurd (omega arith)
whole_again line x (y ∷ lines) some = refl

some_pieces : (text : List ℕ) → 0 < length (pieces 10 text)
some_pieces text = omega (arith, length-slice_split (λ x. x == 10) text)

pub text_again : (lines : List (List ℕ)) (i : ℕ) (x rest : List ℕ) → Above 10 x → Stands lines i (x ++ 10 ∷ rest)
    → (text_at lines i ≡ Ok x) × Stands lines (i + 1) rest
text_again lines i x rest above stands =
    let cut : drop i lines ≡ x ∷ pieces 10 rest = stands ∙ slice_split_at (λ b. b == 10) x 10 rest
    (no_mark 10 x above) refl in (
      ap (whole_in (i + 1)) cut ∙ whole_again (i + 1) x (pieces 10 rest) (some_pieces rest),
      sym (drop-drop 1 i lines) ∙ ap (λ (ls : List (List ℕ)). drop 1 ls) cut,
    )

-- ---- lines of labels

pub labels_found_at : (word : List ℕ) (lines : List (List ℕ)) (i : ℕ) (ls : List Label) → line_at word lines i ≡ Ok ls
    → AreLabels ls × (left_at lines i ≡ labels_line word ls ++ left_at lines (i + 1))
unfolding line_at
labels_found_at word lines i ls e =
    let t = bind_ok (text_at lines i) _ ls e in
    let f = line_found word (i + 1) t.0 ls t.2 in (
      f.0,
      text_found lines i t.0 t.1
          ∙ ap (λ (x : List ℕ). x ++ 10 ∷ left_at lines (i + 1)) f.1
          ∙ sym (append_assoc (word ++ flat_map spaced_label ls) (codes "\n") (left_at lines (i + 1))),
    )

pub labels_again_at : (word : List ℕ) (lines : List (List ℕ)) (i : ℕ) (ls : List Label) (rest : List ℕ) → Above 32 word
    → AreLabels ls → Stands lines i (labels_line word ls ++ rest) → (line_at word lines i ≡ Ok ls)
    × Stands lines (i + 1) rest
unfolding line_at
labels_again_at word lines i ls rest above is stands =
    let text = word ++ flat_map spaced_label ls in
    let above_line : Above 10 (word ++ flat_map spaced_label ls) = Above-append 10 word (flat_map spaced_label ls)
    (Above-lower 10 32 word (omega arith) above) (labels_above ls is) in
    let t = text_again lines i text rest above_line (stands ∙ ap (pieces 10) (append_assoc text (codes "\n") rest)) in (
      ap (λ (r : Result (List ℕ) CertFault). r >>= λ x. line_in word (i + 1) x) t.0 ∙ words_read word
          (i + 1) ls above is,
      t.1,
    )

-- ---- the end

pub over_found : (lines : List (List ℕ)) → is_past_end lines ≡ true → join_with_byte 10 lines ≡ []
over_found [] e = refl
over_found (t ∷ []) e = nil_from_length t (eqb-true _ 0 e)
over_found (t ∷ u ∷ rest) e = absurd cc

pub ended_found : {A : Type 0} (lines : List (List ℕ)) (i : ℕ) (x y : A) → ended_at lines i x ≡ Ok y → (x ≡ y)
    × (left_at lines i ≡ [])
unfolding ended_at
ended_found lines i x y e = let p = pass_ok (is_past_end (drop i lines)) _ (Ok x) y e
    in (ok_is x y p.1, over_found (drop i lines) p.0)

pub over_again : (lines : List (List ℕ)) (i : ℕ) → Stands lines i [] → is_past_end (drop i lines) ≡ true
over_again lines i stands = ap is_past_end stands

pub ended_again : {A : Type 0} (lines : List (List ℕ)) (i : ℕ) (x : A) → Stands lines i [] → ended_at lines i x ≡ Ok x
unfolding ended_at
ended_again lines i x stands = rw (over_again lines i stands) refl
