use Rattle.std.proofs.Common.{◌≡◌, ◌+◌, Ok, sym, ap, ◌∙◌}
use Rattle.toml.specs.View.{view}
use Rattle.mls_lattice.specs.Policy.{Name}
use Rattle.mls_lattice.specs.Reading.{name_at}
use Rattle.mls_lattice.proofs.KnownLemmas.{names-more, names_longer}
use Rattle.mls_lattice.proofs.names.names_of.Goals as goal

pub loop-value-preserved : goal.loop-value-preserved
loop-value-preserved c =
    let front = c.loop-value.names.items in
    let more = c.add_name.new.names.items in
    let name = c.in_ok-name.name in
    let added = c.in_ok-add_name.ensures.adds in
    let named : name_at (view c.value-item.result) ≡ Ok name =
    c.in_ok-name_of.ensures ∙ ap (λ (x : Name). Ok x) (sym c.in_ok-name.ensures) in (
      names-more c.args.items.now c.loop-value.value-index c.value-item.result c.loop-value-test.true c.value-item.is front more name named added
          ∙ c.loop-value.invariant.0,
      names_longer front more name added ∙ ap (λ n. n + 1) c.loop-value.invariant.1,
      c.in_ok-add_name.ensures.known,
    )
