-- Indents, and lists of tokens put one after another.
use Rattle.std.proofs.Common.{◌≡◌, ℕ, ◌+◌, List, [], ◌∷◌, ◌++◌, codes, refl, ap, ◌∙◌, append_assoc, add-one}
use Rattle.mls_tokens.specs.declared.token.Token.{Token}
use Rattle.mls_translang.specs.Layout.{indent, spelled, side_of, gap, before_of, depth_after, laid, Laid, put, puts}

pub indent-more : (n : ℕ) → indent (n + 1) ≡ indent n ++ codes "  "
unfolding indent
indent-more n = ap indent (add-one n)

pub puts-append : (l : Laid) (ts us : List Token) → puts l (ts ++ us) ≡ puts (puts l ts) us
puts-append l [] us = refl
puts-append l (t ∷ ts) us = puts-append (put l t) ts us

pub ruleset lists = (puts-append)

-- what is written, and its last line, is the layout
pub puts-laid : (l : Laid) (ts : List Token) → (puts l ts).text ++ codes "\n" ≡ l.text ++ laid l.depth l.before ts
puts-laid l [] = refl
puts-laid l (t ∷ ts) =
    let space = gap l.depth l.before (side_of t) in
    let rest = laid (depth_after l.depth t) (before_of t) ts in
    puts-laid (put l t) ts
    ∙ append_assoc l.text (space ++ spelled t) rest
    ∙ ap (λ b. l.text ++ b) (append_assoc space (spelled t) rest)
