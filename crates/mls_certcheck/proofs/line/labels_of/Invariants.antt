use Rattle.std.proofs.Common.{◌≡◌, [], map, drop}
use Rattle.mls_certcheck.specs.Reading.{labels_in}
use Rattle.mls_certcheck.proofs.line.labels_of.Given as goal

-- what is left, read after what was read, is the whole
abbrev pub invariant-loop-word : goal.invariant-loop-word
invariant-loop-word l = labels_in l.line l.labels.items (map (λ x. x.now) (drop l.word-index l.words))
    ≡ labels_in l.line [] (map (λ x. x.now) l.words)
