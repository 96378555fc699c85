use Rattle.std.proofs.Common.{◌≡◌, cond, not, true, nat_cmp, sym, subst, rules}
use Rattle.std.specs.BTreeMap.{is_at}
use Rattle.std.specs.BTreeSet.{contains}
use Rattle.std.specs.Cmp.Lexicographic.{slice_cmp}
use Rattle.mls_lattice.specs.declared.fault.FieldFault.TheVariants.{Repeated}
use Rattle.mls_lattice.specs.Policy.{Name}
use Rattle.mls_lattice.specs.Known.{KnowsNames}
use Rattle.mls_lattice.specs.PolicyReading.{with_name}
use Rattle.mls_lattice.proofs.KnownLemmas.{name_met, name_known, told}
use Rattle.mls_lattice.proofs.names.add_name.Goals as goal

pub returns-then-not-branch-clause-adds : goal.returns-then-not-branch-clause-adds
returns-then-not-branch-clause-adds c =
    let known = c.args.known.now in
    let same : c.in_ok-clone.field-0 ≡ c.args.name = search rules in
    let is = subst (λ (n : Name). c.in_ok-insert.field-0 ≡ not (contains (slice_cmp nat_cmp) known n)) same
    c.in_ok-insert.ensures.added in
    told (with_name c.args.names.now.items c.args.name) Repeated
    (name_met known c.args.names.now.items c.args.name c.in_ok-insert.field-0 c.requires.known is c.if-not-branch.true)

pub returns-clause-known : goal.returns-clause-known
returns-clause-known c =
    let known = c.args.known.now in
    let more = c.insert.new.self in
    let same : c.in_ok-clone.field-0 ≡ c.args.name = search rules in
    let updates = subst (λ (n : Name). (k : Name) → contains (slice_cmp nat_cmp) more k
    ≡ cond (is_at (slice_cmp nat_cmp n) k) true (contains (slice_cmp nat_cmp) known k)) same
    c.in_ok-insert.ensures.updates.0 in
    subst (KnowsNames more) (sym c.in_ok-push.ensures.items)
    (name_known known more c.args.names.now.items c.args.name c.requires.known updates)
