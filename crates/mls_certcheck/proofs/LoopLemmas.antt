-- The labels of the loops around a statement.
use Rattle.std.proofs.Common.{◌≡◌, ℕ, suc, ◌+◌, ◌-◌, ◌<◌, ◌≤◌, List, [], ◌∷◌, length, take, set, get_or, ap, ◌∙◌, arith, reverse, get_or-take, length-take}
use Rattle.std.proofs.Math.Seq.{take-suc-set}
use Rattle.std.proofs.lemmas.List.{get_or-reverse, get_or_past, length-reverse, reverse-append}

-- one loop more
pub one_more : (labels : List ℕ) (count label : ℕ) → count < length labels
    → reverse (take (count + 1) (set labels count label)) ≡ label ∷ reverse (take count labels)
one_more labels count label lt =
    let next : count + 1 ≡ suc count = omega arith in
    ap (λ (k : ℕ). reverse (take k (set labels count label))) next ∙ ap reverse (take-suc-set labels count label lt)
    ∙ reverse-append (take count labels) (label ∷ [])

pub row_at : (labels : List ℕ) (count depth : ℕ) → count ≤ length labels → depth < count
    → get_or (reverse (take count labels)) depth 0 ≡ get_or labels (count - 1 - depth) 0
row_at labels count depth within lt =
    let len : length (take count labels) ≡ count = omega (arith, length-take count labels) in
    get_or-reverse (take count labels) depth 0 (omega arith) ∙ ap (λ (k : ℕ). get_or (take count labels)
    (k - 1 - depth) 0) len ∙ get_or-take count labels (count - 1 - depth) 0 (omega arith)

pub no_row : (labels : List ℕ) (count depth : ℕ) → count ≤ depth → get_or (reverse (take count labels)) depth 0 ≡ 0
no_row labels count depth past = get_or_past (reverse (take count labels)) depth 0
    (omega (arith, length-reverse (take count labels), length-take count labels))

pub ruleset at_depth = (row_at, no_row)
