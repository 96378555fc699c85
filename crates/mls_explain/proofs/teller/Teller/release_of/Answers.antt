use Rattle.std.proofs.Common.{◌++◌, ◌∙◌, ap, string_bytes}
use Rattle.mls_explain.specs.Telling.{release_line}
use Rattle.mls_explain.proofs.teller.Teller.release_of.Goals as goal

pub returns : goal.returns
returns c =
    let label = c.label.result.now in
    let loops = c.deref-2.result.now in
    record {
      number = c.args.number;
      label = label;
      words = string_bytes c.in_ok-words.words;
      loops = loops;
      line_is = c.in_ok-release_to.ensures
          ∙ ap (λ t. t ++ release_line c.args.number label c.deref.result.now loops) c.new-text.ensures.bytes
          ∙ ap (λ w. release_line c.args.number label w loops) c.deref.ensures;
      says = c.in_ok-words.ensures;
    }
