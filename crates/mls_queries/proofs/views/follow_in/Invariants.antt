use Rattle.std.proofs.Common.{unwrap_or}
use Rattle.mls_lattice.specs.Policy.{labels_of}
use Rattle.mls_queries.specs.Views.{no_place}
use Rattle.mls_queries.proofs.ViewsLemmas.{Turned}
use Rattle.mls_queries.proofs.views.follow_in.Given as goal

abbrev pub invariant-loop-done : goal.invariant-loop-done
invariant-loop-done l = Turned (labels_of l.policy) l.relation l.low
    (unwrap_or l.written no_place) l.fn.cache l._done l.cache
