use Rattle.std.proofs.Common.{◌≡◌, ◌-◌, ◌<◌, length, take, drop, sym, ap, ◌∙◌, arith, length-drop, take_all}
use Rattle.std.specs.List.{prefix_len}
use Rattle.mls_scheme.specs.declared.tuple.Tuple.{Tuple}
use Rattle.mls_queries.specs.Query.{is_key}
use Rattle.mls_lattice.specs.Policy.{labels_of}
use Rattle.mls_queries.proofs.TopLemmas.{tops_more}
use Rattle.mls_queries.proofs.highest.tops.Goals as goal

pub loop-start-smaller : goal.loop-start-smaller
loop-start-smaller c =
    let rows = c.args.rows.now in
    let start = c.loop-start.start in
    let l = c.loop-start-test.true in
    let rest = take (length rows - start) (drop start rows) in
    let r : rest ≡ drop start rows = take_all (length rows - start) (drop start rows)
    (omega (arith, length-drop start rows)) in
    let run = c.key_len-count.ensures.run ∙ ap (λ (t : Tuple). prefix_len (λ s. is_key s.key t.key) rest)
    (sym c.index-rest-0.is) in
    let some : 0 < length rest = omega (arith, l, length-drop start rows, ap length r) in
    let more = (tops_more (labels_of c.args.policy.now) rows start c.key_len-count.result l c.loop-start.places.items c.add_tops.new.places.items c.loop-start.invariant
    rest r c.index-rest-0.result some c.index-rest-0.is run c.in_ok-add_tops.ensures).1 in
    omega (arith, l, more)

pub loop-start-preserved : goal.loop-start-preserved
loop-start-preserved c =
    let rows = c.args.rows.now in
    let start = c.loop-start.start in
    let l = c.loop-start-test.true in
    let rest = take (length rows - start) (drop start rows) in
    let r : rest ≡ drop start rows = take_all (length rows - start) (drop start rows)
    (omega (arith, length-drop start rows)) in
    let run = c.key_len-count.ensures.run ∙ ap (λ (t : Tuple). prefix_len (λ s. is_key s.key t.key) rest)
    (sym c.index-rest-0.is) in
    let some : 0 < length rest = omega (arith, l, length-drop start rows, ap length r) in
    (tops_more (labels_of c.args.policy.now) rows start c.key_len-count.result l c.loop-start.places.items c.add_tops.new.places.items c.loop-start.invariant
    rest r c.index-rest-0.result some c.index-rest-0.is run c.in_ok-add_tops.ensures).0
