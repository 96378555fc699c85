use Rattle.std.proofs.Common.{◌≡◌, false, if◌then◌else◌, ap, ◌∙◌}
use Rattle.sqlite.specs.Files.{file_state}
use Rattle.mls_filterview.specs.Content.{no_content}
use Rattle.mls_fragments.specs.Based.{BaseState, state_of}
use Rattle.mls_rows.specs.Changes.{content_of}
use Rattle.mls_fragments.proofs.HoldingsLemmas.{new_base_has}
use Rattle.mls_fragments.proofs.memory_base.InMemory+SqlBase+FileStore+MemoryFile.open.Goals as goal

-- outside a change nothing else is kept
new_state : (b : BaseState) → (state_of b).begun ≡ false → (state_of b).now ≡ no_content → state_of b
    ≡ record { now = no_content; kept = no_content; begun = false }
new_state b mode is =
    ap (λ begun. record (state_of b) {
      kept = if begun then content_of b.kept else content_of b.now;
      begun =
          begun;
    }) mode ∙ ap (λ c. record { now = c; kept = c; begun = false }) is

pub returns-in-Ok-clause-content : goal.returns-in-Ok-clause-content
returns-in-Ok-clause-content c = new_state c.in-Ok.base c.in-Ok.ensures.mode
    (c.in-Ok.ensures.new c.in_ok-conn.ensures.empty)

pub returns-in-Ok-clause-described : goal.returns-in-Ok-clause-described
returns-in-Ok-clause-described c clean =
    new_base_has c.args.policy.now c.args.file.now
    (file_state c.in_ok-conn.conn).now c.in-Ok.base c.in_ok-conn.ensures.empty (c.in-Ok.ensures.over clean).1
