-- A row, cell by cell.
use Rattle.std.proofs.Common.{◌≡◌, ℕ, ◌+◌, ◌<◌, ◌≤◌, List, [], ◌∷◌, ◌++◌, length, get_or, drop, sym, ap, ◌∙◌, append_assoc, append-nil, max, slice_index, codes}
use Rattle.std.proofs.lemmas.List.{drop_more, drop_all}
use Rattle.mls_tokens.specs.Table.{columns, wider, padding, padded}

module _ (widths : List ℕ) (cells : List (List ℕ)) (i : ℕ) (text whole : List ℕ) where
  pub wider_more : (cell : List ℕ) (next : List ℕ) → text ++ wider widths i (drop i cells) ≡ whole → i < length cells
      → cell ≡ get_or cells i cell
      → next ≡ text ++ max (slice_index widths i) (columns cell) ∷ [] → next ++ wider widths (i + 1)
      (drop (i + 1) cells) ≡ whole
  wider_more cell next so_far within is pushed =
      ap (λ t. t ++ wider widths (i + 1) (drop (i + 1) cells)) pushed ∙ append_assoc text (max (slice_index widths i)
      (columns cell) ∷ []) (wider widths (i + 1) (drop (i + 1) cells))
      ∙ ap (λ x. text ++ wider widths i (x ∷ drop (i + 1) cells)) is
      ∙ ap (λ l. text ++ wider widths i l) (sym (drop_more cells i cell within)) ∙ so_far

  pub wider_all : text ++ wider widths i (drop i cells) ≡ whole → length cells ≤ i → text ≡ whole
  wider_all so_far over = sym (append-nil text) ∙ ap (λ l. text ++ wider widths i l) (sym (drop_all i cells over))
      ∙ so_far

  pub padded_more : (cell : List ℕ) (next : List ℕ) → text ++ padded widths i (drop i cells) ≡ whole → i < length cells
      → cell ≡ get_or cells i cell
      → next ≡ text ++ (cell ++ padding (slice_index widths i) cell ++ codes " | ") → next ++ padded widths (i + 1)
      (drop (i + 1) cells) ≡ whole
  padded_more cell next so_far within is pushed =
      let mark = cell ++ padding (slice_index widths i) cell ++ codes " | " in
      ap (λ t. t ++ padded widths (i + 1) (drop (i + 1) cells)) pushed ∙ append_assoc text mark
      (padded widths (i + 1) (drop (i + 1) cells))
      ∙ ap (λ x. text ++ padded widths i (x ∷ drop (i + 1) cells)) is
      ∙ ap (λ l. text ++ padded widths i l) (sym (drop_more cells i cell within)) ∙ so_far

  pub padded_all : text ++ padded widths i (drop i cells) ≡ whole → length cells ≤ i → text ≡ whole
  padded_all so_far over = sym (append-nil text) ∙ ap (λ l. text ++ padded widths i l) (sym (drop_all i cells over))
      ∙ so_far

pub ruleset row_steps = (wider_more, wider_all, padded_more, padded_all)
