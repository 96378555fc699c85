use Rattle.std.proofs.Common.{◌≡◌, ◌++◌, List, ℕ, None, sym, subst, ap, ◌∙◌}
use Rattle.mls_command.specs.Looking.{found_text}
use Rattle.mls_command.proofs.looking.found_text.Goals as goal

pub returns-in_ok-extend_from_slice-in-None : goal.returns-in_ok-extend_from_slice-in-None
returns-in_ok-extend_from_slice-in-None c =
    let bytes : List ℕ = c.as_bytes.result.now in (
      bytes,
      subst (λ f. c.extend_from_slice.new.self.items ≡ found_text f ++ bytes) (sym c.in-None.is)
          (c.in_ok-extend_from_slice-in-None.ensures.items ∙ ap (λ t. t ++ bytes) (c.in_ok-push_accepted-in-None.ensures
          ∙ ap (λ t. t ++ found_text None) c.new-text.ensures.items)),
    )
