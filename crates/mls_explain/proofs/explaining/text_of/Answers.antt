use Rattle.std.proofs.Common.{◌≡◌, ◌++◌, ◌∙◌, ap, subst, sym, string_bytes}
use Rattle.std.specs.Str.Lossy.{utf8_lossy}
use Rattle.std.specs.Str.Lines.{lines}
use Rattle.mls_translang.specs.Tokens.{printed}
use Rattle.mls_explain.specs.Telling.{IsListing, Advises}
use Rattle.mls_explain.proofs.explaining.text_of.Goals as goal

pub returns : goal.returns
returns c =
    let text = printed c.args.policy.now c.args.schemes.now c.args.tx.now in
    let is : c.deref-2.result.now ≡ utf8_lossy text = c.deref-2.ensures ∙ c.in_ok-printed-2.ensures.lossy
    ∙ ap utf8_lossy (c.deref.ensures.value ∙ c.in_ok-printed.ensures) in
    record {
      listing = string_bytes c.in_ok-text.text;
      lists = subst (λ t. IsListing (lines t) (string_bytes c.in_ok-text.text)) is c.in_ok-text.ensures;
      advice = c.deref-5.result.now;
      advises = subst (Advises c.args.tx.now c.args.labelling.now) (sym c.deref-5.ensures) c.in_ok-advice.ensures;
      text_is = c.in_ok-push_str.ensures.bytes ∙ ap (λ t. t ++ c.deref-5.result.now) c.in_ok-head_to.ensures;
    }
