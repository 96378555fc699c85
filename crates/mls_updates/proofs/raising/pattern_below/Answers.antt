use Rattle.std.proofs.Common.{◌≡◌, cond, None, ◌&&◌, sym, ap, ◌∙◌, option_map}
use Rattle.std.specs.FinMap.{get}
use Rattle.std.proofs.lemmas.Result.{IfOk-weaker}
use Rattle.mls_lattice.specs.Labels.{below}
use Rattle.mls_lattice.specs.Policy.{labels_of}
use Rattle.mls_filterview.specs.Fragment.{classes}
use Rattle.mls_filterview.proofs.AccessLemmas.{at_reads_low}
use Rattle.mls_updates.proofs.raising.pattern_below.Goals as goal

pub returns-then-not-dominates-clause-found : goal.returns-then-not-dominates-clause-found
returns-then-not-dominates-clause-found g c = λ clean.
    let ls = labels_of c.args.policy.now in
    let p = c.args.place.now in
    let o = option_map classes (get ((g.B.Base.seen c.args.base.now).state.now.db c.args.relation) p) in
    let low = sym c.if-not-dominates.ensures.order in
    sym (ap (λ b. cond (b && below ls p.class c.args.w) o None) low)

pub returns-then-not-dominates-2-clause-found : goal.returns-then-not-dominates-2-clause-found
returns-then-not-dominates-2-clause-found g c = λ clean.
    let ls = labels_of c.args.policy.now in
    let p = c.args.place.now in
    let o = option_map classes (get ((g.B.Base.seen c.args.base.now).state.now.db c.args.relation) p) in
    let low = sym c.if-not-dominates.ensures.order in
    let up = sym c.if-not-dominates-2.ensures.order in
    sym (λ i. cond (low i && up i) o None)

pub returns-clause-found : goal.returns-clause-found
returns-clause-found g c = λ clean.
    let ls = labels_of c.args.policy.now in
    let p = c.args.place.now in
    let o = option_map classes (get ((g.B.Base.seen c.args.base.now).state.now.db c.args.relation) p) in
    let low = sym c.if-not-dominates.ensures.order in
    let up = sym c.if-not-dominates-2.ensures.order in
    IfOk-weaker c.pattern.result (λ pattern. pattern ≡ o) _ (λ pattern e. e ∙ sym (λ i. cond (low i && up i) o None))
    (c.pattern.ensures.found clean)

pub returns-clause-access : goal.returns-clause-access
returns-clause-access g c =
    at_reads_low (labels_of c.args.policy.now) c.args.w c.args.place.now.class
    (sym c.if-not-dominates-2.ensures.order) c.pattern.ensures.access
