use Rattle.std.proofs.Common.{sym, ap, ◌∙◌, ◌++◌, append_assoc, refl, arith, get_or, ◌+◌}
use Rattle.std.proofs.lemmas.List.{take_rest}
use Rattle.mls_tokens.specs.Screen.{byte_at}
use Rattle.mls_tokens.proofs.EscapingSteps.{byte_passed, byte_shown}
use Rattle.mls_tokens.proofs.escaping.escape.Goals.{then-over-gt0, else-over-gt0+in_ok-push_shown}
use Rattle.mls_tokens.proofs.escaping.escape.Goals as goal

pub loop-i-preserved : goal.loop-i-preserved
loop-i-preserved c =
    elim c.if-over-gt0.branch [
      | then-over-gt0 w ↦
          rw (w.text-is, w.over-is) (ap (λ l. c.loop-i.text.items ++ l)
          (sym (byte_passed _ _ c.loop-i-test.true _ w.if-over-gt0.true)) ∙ c.loop-i.invariant)
      | else-over-gt0+in_ok-push_shown w ↦
          let second = w.byte_at-second.ensures ∙ ap (λ l. byte_at l 0) (take_rest c.args.bytes.now (c.loop-i.i + 1)) in
          let third = w.byte_at-third.ensures ∙ ap (λ l. byte_at l 1) (take_rest c.args.bytes.now (c.loop-i.i + 1)) in
          let read = byte_shown _ _ c.loop-i-test.true
          (get_or c.args.bytes.now c.loop-i.i 0) w.byte_at-second.result w.byte_at-third.result c.loop-i.over
          (omega (arith, w.if-over-gt0.false)) refl second third in
          rw (w.text-is, w.over-is, w.passed-over.ensures, w.in_ok-push_shown.ensures)
          (append_assoc c.loop-i.text.items _ _ ∙ ap (λ l. c.loop-i.text.items ++ l) (sym read)
          ∙ c.loop-i.invariant)
    ]
