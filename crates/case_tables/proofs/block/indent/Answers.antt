use Rattle.std.proofs.Common.{◌≡◌, ℕ, List, [], ◌∷◌, ◌++◌, refl, ap, ◌∙◌, map, string_bytes, flat_map, Bor}
use Rattle.std.proofs.lemmas.Iterator.Consumers.{YieldsList-end}
use Rattle.std.proofs.lemmas.Iterator.Splits.{YieldsList-from_lines}
use Rattle.case_tables.specs.Lines.{indented_line}
use Rattle.case_tables.proofs.block.indent.Goals as goal

flat_map-now : (xs : List (Bor (List ℕ))) → flat_map (λ line. indented_line line.now) xs ≡ flat_map indented_line
    (map (λ line. line.now) xs)
flat_map-now [] = refl
flat_map-now (x ∷ xs) = ap (λ ys. indented_line x.now ++ ys) (flat_map-now xs)

pub returns : goal.returns
returns c =
    let told = YieldsList-end (YieldsList-from_lines c.args.text.now
    (ap (λ lines. lines.rest.now) c.into_iter-line-iterator.ensures.into_iter_gives
    ∙ c.lines-line-items.ensures.rest)) c.loop-line.yielded _ c.loop-line.yielded_by _ _ c.in-None.is c.next.ensures.steps in
    c.loop-line.invariant ∙ ap (λ ys. string_bytes c.args.out.now ++ ys) (flat_map-now c.loop-line.yielded
    ∙ ap (flat_map indented_line) told.0)
