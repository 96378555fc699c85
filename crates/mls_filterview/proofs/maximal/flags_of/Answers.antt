use Rattle.std.proofs.Common.{◌++◌, length, sym, ap, ◌∙◌, arith}
use Rattle.std.specs.List.{prefix_len}
use Rattle.mls_filterview.proofs.EntityLemmas.{same, flags, flags_more, front_some, not_empty}
use Rattle.mls_filterview.proofs.maximal.flags_of.Goals as goal

pub loop-rest-smaller : goal.loop-rest-smaller
loop-rest-smaller c =
    let xs = c.loop-rest.rest.now in
    let h = c.index-rest-0.result in
    let some = not_empty (length xs) (sym c.is_empty.ensures ∙ c.loop-rest-test.true) in
    let n = c.entity_len-count.ensures.run ∙ ap (λ p. prefix_len (λ e. same e.0 p) xs) (ap (λ e. e.0) c.first.view_is)
    in
    let front = front_some xs h some c.index-rest-0.is in
    let back = c.split_at.ensures.back_len in
    omega (arith, n, front, back)

pub loop-rest-preserved : goal.loop-rest-preserved
loop-rest-preserved c =
    let xs = c.loop-rest.rest.now in
    let h = c.index-rest-0.result in
    let some = not_empty (length xs) (sym c.is_empty.ensures ∙ c.loop-rest-test.true) in
    let n = c.entity_len-count.ensures.run ∙ ap (λ p. prefix_len (λ e. same e.0 p) xs) (ap (λ e. e.0) c.first.view_is)
    in
    let added = c.in_ok-add_flags.ensures ∙ ap (λ ys. c.loop-rest.flags.items ++ flags ys) c.split_at.ensures.front in
    let more = flags_more xs h some c.index-rest-0.is c.loop-rest.invariant.sorted c.entity_len-count.result n c.loop-rest.flags.items c.add_flags.new.flags.items _ added c.loop-rest.invariant.way in
    rw c.split_at.ensures.back (record { sorted = more.0; way = more.1 })
