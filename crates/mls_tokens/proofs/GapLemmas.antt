-- What stands between tokens.
use Rattle.std.proofs.Common.{◌≡◌, ℕ, ◌-◌, Bool, true, false, ◌||◌, ◌==◌, List, [], ◌∷◌, ◌++◌, length, slice_index, Option, Some, None, Ok, ◌⊎◌, inl, inr, refl, sym, ap, ◌∙◌, subst, arith, one-add, append_assoc, Result, IsUtf8, flat_map, eqb-true, take_at}
use Rattle.std.specs.List.{prefix_len, AllByRecursion}
use Rattle.std.specs.Str.{is_utf8}
use Rattle.std.specs.Str.Lossy.{utf8_valid_len}
use Rattle.std.proofs.lemmas.Bool.{cases_Bool, false_from_ne_true, or_parts}
use Rattle.std.proofs.lemmas.Bool.Decides.{nat_tests}
use Rattle.std.proofs.lemmas.Str.{is_utf8-from_IsUtf8, IsUtf8-from_is_utf8}
use Rattle.mls_lattice.proofs.ReadingLemmas.{ok_is}
use Rattle.mls_tokens.proofs.RunLemmas.{AllAre, run_all, run_len}
use Rattle.mls_tokens.specs.Text.{is_blank, is_no_feed, IsComment, IsPiece, IsGap, IsLast, IsOver}
use Rattle.mls_tokens.specs.Scanning.{unless, after_comment, comment_fault, after_gap}

pub no_fault : (bytes : List ℕ) → IsUtf8 (after_comment bytes) → comment_fault bytes ≡ None
unfolding comment_fault
no_fault bytes h = rw (is_utf8-from_IsUtf8 (after_comment bytes) h) refl

pub some_fault : (bytes : List ℕ) → (IsUtf8 (after_comment bytes) → ⊥) → comment_fault bytes
    ≡ Some (length bytes - utf8_valid_len (after_comment bytes))
unfolding comment_fault
some_fault bytes h = rw (false_from_ne_true (is_utf8 (after_comment bytes))
    (λ e. h (IsUtf8-from_is_utf8 (after_comment bytes) e))) refl

pub ruleset comment_steps = (no_fault, some_fault)

-- ---- what is passed is a gap

-- a gap, and what follows it
record Reaches (bytes rest : List ℕ) : Type 0 where
  gap : List ℕ
  parts : bytes ≡ gap ++ rest
  is_gap : IsGap gap

abbrev Passes : List ℕ → List ℕ → Type 0
Passes bytes rest = Reaches bytes rest ⊎ ((rest ≡ []) × IsOver bytes)

gap_none : IsGap []
gap_none = record { pieces = []; whole = refl; each = tt }

gap_more : (piece gap : List ℕ) → IsPiece piece → IsGap gap → IsGap (piece ++ gap)
gap_more piece gap is h = record {
  pieces = piece ∷ h.pieces;
  whole = ap (λ (x : List ℕ). piece ++ x) h.whole;
  each =
      (is, h.each);
}

passes_more : (piece bytes rest : List ℕ) → IsPiece piece → Passes bytes rest → Passes (piece ++ bytes) rest
passes_more piece bytes rest is (inl h) =
    inl (record {
      gap = piece ++ h.gap;
      parts = ap (λ (x : List ℕ). piece ++ x) h.parts
          ∙ sym (append_assoc piece h.gap rest);
      is_gap = gap_more piece h.gap is h.is_gap;
    })
passes_more piece bytes rest is (inr (none, h)) =
    inr (
      none,
      record {
        gap = piece ++ h.gap;
        last = h.last;
        parts = ap (λ (x : List ℕ). piece ++ x) h.parts
            ∙ sym (append_assoc piece h.gap h.last);
        is_gap = gap_more piece h.gap is h.is_gap;
        is_last = h.is_last;
      },
    )

-- from inside a comment: what is left of it, then what is passed; or it is the last
abbrev PassesComment : List ℕ → List ℕ → Type 0
PassesComment bytes rest =
    ((after : List ℕ) × (bytes ≡ after_comment bytes ++ 10 ∷ after) × Passes after rest)
    ⊎ ((rest ≡ []) × (bytes ≡ after_comment bytes))

abbrev PassesFrom : Bool → List ℕ → List ℕ → Type 0
PassesFrom true bytes rest = PassesComment bytes rest
PassesFrom false bytes rest = Passes bytes rest

comment_more : (b : ℕ) (bytes rest : List ℕ) → is_no_feed b ≡ true → PassesComment bytes rest
    → PassesComment (b ∷ bytes) rest
comment_more b bytes rest h (inl (after, parts, more)) =
    inl (after, rw (h, one-add (prefix_len is_no_feed bytes)) (ap (λ (x : List ℕ). b ∷ x) parts), more)
comment_more b bytes rest h (inr (none, parts)) =
    inr (none, rw (h, one-add (prefix_len is_no_feed bytes)) (ap (λ (x : List ℕ). b ∷ x) parts))

comment_is : (bytes : List ℕ) → IsUtf8 (after_comment bytes) → IsComment (after_comment bytes)
comment_is bytes h = record { one_line = run_all is_no_feed bytes; utf8 = h }

comment_whole : (b : ℕ) (bytes rest : List ℕ) → (b == 35) ≡ true → IsUtf8 (after_comment bytes)
    → PassesComment bytes rest → Passes (b ∷ bytes) rest
comment_whole b bytes rest h utf8 (inl (after, parts, more)) =
    let piece = 35 ∷ (after_comment bytes ++ 10 ∷ []) in
    let whole : b ∷ bytes ≡ piece ++ after = λ i. eqb-true b 35 h i
    ∷ (parts ∙ sym (append_assoc (after_comment bytes) (10 ∷ []) after)) i in
    subst (λ (x : List ℕ). Passes x rest) (sym whole) (passes_more piece after rest (inr (
      after_comment bytes,
      refl,
      comment_is bytes utf8,
    )) more)
comment_whole b bytes rest h utf8 (inr (none, parts)) =
    inr (
      none,
      record {
        gap = [];
        last = b ∷ bytes;
        parts = refl;
        is_gap = gap_none;
        is_last = inr (
          after_comment bytes,
          (λ i. eqb-true b 35 h i ∷ parts i),
          comment_is bytes utf8,
        );
      },
    )

unless_ok : (o : Option ℕ) (next : Result (List ℕ) ℕ) (rest : List ℕ) → unless o next ≡ Ok rest → (o ≡ None)
    × (next ≡ Ok rest)
unless_ok None next rest e = (refl, e)
unless_ok (Some left) next rest e = absurd cc

utf8_comment : (bytes : List ℕ) → comment_fault bytes ≡ None → IsUtf8 (after_comment bytes)
unfolding comment_fault
utf8_comment bytes h =
    elim (cases_Bool (is_utf8 (after_comment bytes))) [
      | inl text ↦ IsUtf8-from_is_utf8 (after_comment bytes) text
      | inr other ↦ absurd (let e = rw other at h in cc)
    ]

front_found : (inside : Bool) (bytes rest : List ℕ) → after_gap inside bytes ≡ Ok rest → PassesFrom inside bytes rest
front_found true [] rest e = inr (sym (ok_is [] rest e), refl)
front_found false [] rest e = inl (record { gap = []; parts = ok_is [] rest e; is_gap = gap_none })
front_found true (b ∷ bs) rest e =
    elim (cases_Bool (b == 10)) [
      | inl feed ↦
          let more : after_gap false bs ≡ Ok rest = rw feed at e in
          inl (bs, rw feed (λ i. eqb-true b 10 feed i ∷ bs), front_found false bs rest more)
      | inr other ↦
          let more : after_gap true bs ≡ Ok rest = rw other at e in
          comment_more b bs rest (rw other refl) (front_found true bs rest more)
    ]
front_found false (b ∷ bs) rest e =
    elim (cases_Bool (b == 35)) [
      | inl mark ↦
          let h = unless_ok (comment_fault bs) (after_gap true bs) rest (rw mark at e) in
          comment_whole b bs rest mark (utf8_comment bs h.0) (front_found true bs rest h.1)
      | inr other ↦ elim (cases_Bool (is_blank b)) [
        | inl blank ↦ passes_more (b ∷ []) bs rest (inl (b, refl, blank)) (front_found false bs rest
            (rw (other, blank) at e))
        | inr token ↦ inl (record { gap = []; parts = ok_is (b ∷ bs) rest (rw (other, token) at e); is_gap = gap_none })
      ]
    ]

-- ---- a gap is passed

abbrev pub begins_gap : ℕ → Bool
begins_gap b = b == 35 || is_blank b

comment_again : (text rest : List ℕ) → AllAre is_no_feed text → after_comment (text ++ 10 ∷ rest) ≡ text
comment_again text rest h = rw (run_len is_no_feed text (10 ∷ rest) h refl) (take_at text (10 ∷ rest)
    (length text) refl)

past_comment : (text rest : List ℕ) → AllAre is_no_feed text → after_gap true (text ++ 10 ∷ rest) ≡ after_gap false rest
past_comment [] rest h = refl
past_comment (b ∷ bs) rest h = rw h.0 (past_comment bs rest h.1)

blank_no_mark : (b : ℕ) → is_blank b ≡ true → (b == 35) ≡ false
blank_no_mark b h = grind (arith, nat_tests)

past_piece : (piece rest : List ℕ) → IsPiece piece → after_gap false (piece ++ rest) ≡ after_gap false rest
past_piece piece rest (inl (b, is, blank)) = rw is (rw (blank_no_mark b blank, blank) refl)
past_piece piece rest (inr (text, is, h)) =
    ap (λ (x : List ℕ). after_gap false (x ++ rest)) is
    ∙ ap (λ (x : List ℕ). unless (comment_fault x) (after_gap true x)) (append_assoc text (10 ∷ []) rest)
    ∙ ap (λ (o : Option ℕ). unless o (after_gap true (text ++ 10 ∷ rest))) (no_fault (text ++ 10 ∷ rest)
    (subst (λ (x : List ℕ). IsUtf8 x) (sym (comment_again text rest h.one_line)) h.utf8))
    ∙ past_comment text rest h.one_line

past_pieces : (pieces : List (List ℕ)) (rest : List ℕ) → AllByRecursion IsPiece pieces
    → after_gap false (flat_map (λ p. p) pieces ++ rest) ≡ after_gap false rest
past_pieces [] rest h = refl
past_pieces (p ∷ ps) rest h = ap (after_gap false) (append_assoc p (flat_map (λ p. p) ps) rest) ∙ past_piece p
    (flat_map (λ p. p) ps ++ rest) h.0 ∙ past_pieces ps rest h.1

past_gap : (gap rest : List ℕ) → IsGap gap → after_gap false (gap ++ rest) ≡ after_gap false rest
past_gap gap rest h = ap (λ (x : List ℕ). after_gap false (x ++ rest)) h.whole ∙ past_pieces h.pieces rest h.each

past_end : (text : List ℕ) → AllAre is_no_feed text → after_gap true text ≡ Ok []
past_end [] h = refl
past_end (b ∷ bs) h = rw h.0 (past_end bs h.1)

comment_all : (text : List ℕ) → AllAre is_no_feed text → after_comment text ≡ text
comment_all [] h = refl
comment_all (b ∷ bs) h = rw (h.0, one-add (prefix_len is_no_feed bs)) (ap (λ (x : List ℕ). b ∷ x) (comment_all bs h.1))

past_last : (last : List ℕ) → IsLast last → after_gap false last ≡ Ok []
past_last last (inl none) = ap (after_gap false) none
past_last last (inr (text, is, h)) =
    ap (after_gap false) is
    ∙ ap (λ (o : Option ℕ). unless o (after_gap true text))
    (no_fault text (subst (λ (x : List ℕ). IsUtf8 x) (sym (comment_all text h.one_line)) h.utf8))
    ∙ past_end text h.one_line

front_stays : (bytes : List ℕ) → begins_gap (slice_index bytes 0) ≡ false → after_gap false bytes ≡ Ok bytes
front_stays [] h = refl
front_stays (b ∷ bs) h = let off = or_parts (b == 35) (is_blank b) h in rw (off.0, off.1) refl

-- a gap before a token, and one that is the end
pub front_again : (gap rest : List ℕ) → IsGap gap → begins_gap (slice_index rest 0) ≡ false
    → after_gap false (gap ++ rest) ≡ Ok rest
front_again gap rest h stays = past_gap gap rest h ∙ front_stays rest stays

pub front_over : (bytes : List ℕ) → IsOver bytes → after_gap false bytes ≡ Ok []
front_over bytes h = ap (after_gap false) h.parts ∙ past_gap h.gap h.last h.is_gap ∙ past_last h.last h.is_last

-- nothing is left: the bytes are over
pub over_found : (bytes : List ℕ) → after_gap false bytes ≡ Ok [] → IsOver bytes
over_found bytes e = over (front_found false bytes [] e)
  where
    over : Passes bytes [] → IsOver bytes
    over (inl h) = record { gap = h.gap; last = []; parts = h.parts; is_gap = h.is_gap; is_last = inl refl }
    over (inr (none, h)) = h

-- something is left: it stands behind a gap
pub gap_found : (bytes : List ℕ) (b : ℕ) (rest : List ℕ) → after_gap false bytes ≡ Ok (b ∷ rest) → (gap : List ℕ)
    × (bytes ≡ gap ++ (b ∷ rest)) × IsGap gap
gap_found bytes b rest e = reached (front_found false bytes (b ∷ rest) e)
  where
    reached : Passes bytes (b ∷ rest) → (gap : List ℕ) × (bytes ≡ gap ++ (b ∷ rest)) × IsGap gap
    reached (inl h) = (h.gap, h.parts, h.is_gap)
    reached (inr (none, h)) = absurd (let f = none in cc)
