use Rattle.std.proofs.Common.{◌≡◌, ℕ, cond, not, true, List, [], ◌∷◌, Ok, arith, sym, ap, ◌∙◌, subst, rules}
use Rattle.std.specs.BTreeMap.{is_at}
use Rattle.std.specs.BTreeSet.{contains}
use Rattle.mls_lattice.specs.declared.fault.FieldFault.TheVariants.{Repeated, TooMany}
use Rattle.mls_lattice.specs.declared.tables.Right.{Right}
use Rattle.mls_lattice.specs.Policy.{Name, right_of}
use Rattle.mls_lattice.specs.Known.{KnowsRights, pair_cmp}
use Rattle.mls_lattice.specs.PolicyReading.{more_rights}
use Rattle.mls_lattice.proofs.KnownLemmas.{right_met, right_full, right_new, right_known, told}
use Rattle.mls_lattice.proofs.matrix.right_to.Goals as goal

pub returns-then-not-branch-clause-adds : goal.returns-then-not-branch-clause-adds
returns-then-not-branch-clause-adds c =
    let known = c.args.known.now in
    let rights = c.args.matrix.now.items in
    let r = right_of c.args.user c.args.modes c.args.object in
    let same : c.in_ok-clone.field-0 ≡ c.args.object = search rules in
    let is = subst (λ (o : Name). c.in_ok-insert.field-0 ≡ not (contains pair_cmp known (c.args.user, o))) same
    c.in_ok-insert.ensures.added in
    told (more_rights rights (r ∷ [])) Repeated
    (right_met known rights r c.in_ok-insert.field-0 c.requires.known is c.if-not-branch.true)

pub returns-then-len-ge-MAX_RIGHTS-clause-adds : goal.returns-then-len-ge-MAX_RIGHTS-clause-adds
returns-then-len-ge-MAX_RIGHTS-clause-adds c =
    let known = c.args.known.now in
    let rights = c.args.matrix.now.items in
    let r = right_of c.args.user c.args.modes c.args.object in
    let same : c.in_ok-clone.field-0 ≡ c.args.object = search rules in
    let is = subst (λ (o : Name). c.in_ok-insert.field-0 ≡ not (contains pair_cmp known (c.args.user, o))) same
    c.in_ok-insert.ensures.added in
    let count = c.len.ensures in
    let most = c.if-len-ge-MAX_RIGHTS.true in
    told (more_rights rights (r ∷ [])) TooMany
    (right_full known rights r c.in_ok-insert.field-0 c.requires.known is c.if-not-branch.false (omega (arith, count, most)))

pub returns-clause-adds : goal.returns-clause-adds
returns-clause-adds c =
    let known = c.args.known.now in
    let rights = c.args.matrix.now.items in
    let r = right_of c.args.user c.args.modes c.args.object in
    let same : c.in_ok-clone.field-0 ≡ c.args.object = search rules in
    let is = subst (λ (o : Name). c.in_ok-insert.field-0 ≡ not (contains pair_cmp known (c.args.user, o))) same
    c.in_ok-insert.ensures.added in
    let count = c.len.ensures in
    let less = c.if-len-ge-MAX_RIGHTS.false in
    right_new known rights r c.in_ok-insert.field-0 c.requires.known is c.if-not-branch.false (omega (arith, count, less))
    ∙ ap (λ (x : List Right). Ok x) (sym c.in_ok-push.ensures.items)

pub returns-clause-known : goal.returns-clause-known
returns-clause-known c =
    let known = c.args.known.now in
    let more = c.insert.new.self in
    let same : c.in_ok-clone.field-0 ≡ c.args.object = search rules in
    let updates = subst (λ (o : Name). (k : ℕ × Name) → contains pair_cmp more k
    ≡ cond (is_at (pair_cmp (c.args.user, o)) k) true (contains pair_cmp known k)) same
    c.in_ok-insert.ensures.updates.0 in
    subst (KnowsRights more) (sym c.in_ok-push.ensures.items)
    (right_known known more c.args.matrix.now.items (right_of c.args.user c.args.modes c.args.object) c.requires.known updates)
