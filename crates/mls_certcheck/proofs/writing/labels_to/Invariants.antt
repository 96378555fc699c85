use Rattle.std.proofs.Common.{◌≡◌, ◌++◌, take, string_bytes, flat_map}
use Rattle.std.specs.List.{AllByRecursion}
use Rattle.mls_certcheck.specs.Spelling.{spaced_label, IsLabel}
use Rattle.mls_certcheck.proofs.writing.labels_to.Given as goal

-- what is written of the labels so far, each of which has a text
abbrev pub invariant-loop-label : goal.invariant-loop-label
invariant-loop-label l = record {
  written : string_bytes l.text ≡ (string_bytes l.fn.text ++ l.word) ++ flat_map spaced_label
      (take l.label-index l.labels);
  fits : AllByRecursion IsLabel (take l.label-index l.labels);
}
