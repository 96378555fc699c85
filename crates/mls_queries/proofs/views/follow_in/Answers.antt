use Rattle.std.proofs.Common.{◌≤◌, ◌<◌, length, arith, unwrap_or}
use Rattle.mls_lattice.specs.Policy.{labels_of}
use Rattle.mls_queries.specs.Views.{no_place}
use Rattle.mls_queries.proofs.ViewsLemmas.{turned_none, turned_more, turned_all, turned_labels}
use Rattle.mls_queries.proofs.views.follow_in.Goals as goal

pub turn-requires-clause-labels : goal.turn-requires-clause-labels
turn-requires-clause-labels c =
    turned_labels (labels_of c.args.policy.now) c.args.relation c.args.low
    (unwrap_or c.args.written.now no_place) c.args.cache.now
    (length c.args.policy.now.labels) c.loop-done._done c.loop-done.cache c.loop-done.invariant c.requires.labels

pub loop-done-init : goal.loop-done-init
loop-done-init c = turned_none (labels_of c.args.policy.now) c.args.relation c.args.low
    (unwrap_or c.args.written.now no_place) c.args.cache.now

pub loop-done-preserved : goal.loop-done-preserved
loop-done-preserved c =
    let within : c.loop-done._done < length c.args.cache.now.entries = (let a = c.loop-done-test.true
    in let b = c.len-done-end.ensures.len in omega (arith, a, b)) in
    turned_more (labels_of c.args.policy.now) c.args.relation c.args.low
    (unwrap_or c.args.written.now no_place) c.args.cache.now c.loop-done._done c.loop-done.cache c.turn.new.cache c.loop-done.invariant within c.turn.ensures

pub returns-clause-cap : goal.returns-clause-cap
returns-clause-cap c =
    let done : length c.args.cache.now.entries ≤ c.loop-done._done = (let a = c.loop-done-test.false
    in let b = c.len-done-end.ensures.len in omega (arith, a, b)) in
    (turned_all (labels_of c.args.policy.now) c.args.relation c.args.low
    (unwrap_or c.args.written.now no_place) c.args.cache.now c.loop-done._done c.loop-done.cache c.loop-done.invariant done).0

pub returns-clause-followed : goal.returns-clause-followed
returns-clause-followed c =
    let done : length c.args.cache.now.entries ≤ c.loop-done._done = (let a = c.loop-done-test.false
    in let b = c.len-done-end.ensures.len in omega (arith, a, b)) in
    (turned_all (labels_of c.args.policy.now) c.args.relation c.args.low
    (unwrap_or c.args.written.now no_place) c.args.cache.now c.loop-done._done c.loop-done.cache c.loop-done.invariant done).1
