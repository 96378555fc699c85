use Rattle.std.proofs.Common.{◌≡◌, List, ℕ, length, IfOk, subst, ap, ◌∙◌, filter}
use Rattle.std.proofs.lemmas.Result.{IfOk-weaker}
use Rattle.mls_lattice.specs.Labels.{below}
use Rattle.mls_lattice.specs.Policy.{labels_of}
use Rattle.mls_filterview.specs.Calls.{ReadsAmong}
use Rattle.mls_filterview.specs.Content.{State}
use Rattle.mls_filterview.specs.Fragment.{AreFragments}
use Rattle.mls_filterview.specs.Reach.{numbers}
use Rattle.mls_filterview.proofs.AccessLemmas.{avoids_then, avoids_some, among_reads_low}
use Rattle.mls_filterview.proofs.FragmentLemmas.{low_fragments}
use Rattle.mls_filterview.proofs.viewing.low_fragment.Goals as goal

pub returns-clause-low : goal.returns-clause-low
returns-clause-low g c = λ clean.
    let B = g.B.Base in
    let ls = labels_of c.args.policy.now in
    let n = length c.args.policy.now.labels in
    let T = (B.seen c.args.base.now).state.now.db c.args.relation in
    let low : List ℕ = filter (λ m. below ls m c.args.label) (numbers n) in
    let labels : c.deref.result.now ≡ low =
    c.deref.ensures.value ∙ subst (λ r. IfOk r (λ v. v.items
    ≡ low)) c.in_ok-labels.ensures.value c.low_labels.ensures.labels in
    let here = ap (λ b. (B.seen b).state) c.in_ok-labels.ensures.same in
    IfOk-weaker c.fragments.result _ _
    (λ f found. low_fragments ls T c.args.label n f
    (subst (λ ms. AreFragments T ms f) labels
    (subst (λ (s : State). AreFragments (s.now.db c.args.relation) c.deref.result.now f) here found)))
    (c.fragments.ensures.found clean)

pub returns-clause-access : goal.returns-clause-access
returns-clause-access g c =
    let ls = labels_of c.args.policy.now in
    let all = numbers (length c.args.policy.now.labels) in
    let low : List ℕ = filter (λ m. below ls m c.args.label) all in
    let labels : c.deref.result.now ≡ low =
    c.deref.ensures.value ∙ subst (λ r. IfOk r (λ v. v.items
    ≡ low)) c.in_ok-labels.ensures.value c.low_labels.ensures.labels in
    avoids_then (avoids_some c.in_ok-labels.ensures.access)
    (among_reads_low ls c.args.label all (subst
    (λ ms. ReadsAmong g.B.Base.seen ms c.settle.new.base c.fragments.new.self) labels c.fragments.ensures.access))
