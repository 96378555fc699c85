-- Users by number, and conditions that do not hold.
use Rattle.std.proofs.Common.{◌≡◌, ℕ, ◌<◌, Bool, true, false, cond, List, [], ◌∷◌, ◌++◌, length, Option, Some, None, refl, sym, ap, ◌∙◌, option_map, slice_get, bytes_eq, eqb-true}
use Rattle.std.specs.List.{AllByRecursion}
use Rattle.std.proofs.lemmas.Bool.{not-false, or_parts}
use Rattle.std.proofs.lemmas.List.Quantifiers.{position-Some}
use Rattle.std.proofs.lemmas.Option.{slice_get-get_or, none-some}
use Rattle.mls_lattice.specs.declared.tables.User.{User}
use Rattle.mls_lattice.specs.Labels.{below}
use Rattle.mls_lattice.specs.Policy.{Name, Policy}
use Rattle.mls_scheme.specs.declared.value.Value.{Value}
use Rattle.mls_translang.specs.Tx.{Tx}
use Rattle.mls_translang.specs.declared.event.One.{One}
use Rattle.mls_translang.specs.declared.event.One.TheVariants as ones
use Rattle.mls_machine.specs.declared.reply.Denial.{Denial}
use Rattle.mls_certcheck.specs.Site.{Site, site_labels}
use Rattle.mls_machine.specs.Denying.{first_denial, no_user, user_named, clearance_of, view_denials, one_denials, LooksBelow, batch_denials, call_denials}

-- ---- users

pub user_below : (policy : Policy) (name : Name) (user : ℕ) → user_named policy name ≡ Some user
    → user < length policy.users
user_below policy name user h = (position-Some (λ u. bytes_eq u.name name) policy.users user no_user h).0

some_is : (a b : ℕ) → Some a ≡ Some b → a ≡ b
some_is a b e = cc

pub clearance_found : (policy : Policy) (user label : ℕ) → user < length policy.users → option_map (λ u. u.clearance)
    (slice_get policy.users user) ≡ Some label
    → label ≡ clearance_of policy user
clearance_found policy user label within row =
    some_is label (clearance_of policy user) (sym row ∙ ap (option_map (λ (u : User). u.clearance))
    (slice_get-get_or policy.users user no_user within))

-- ---- where there is no denial no condition holds

abbrev NoneHolds : List (Bool × Denial) → Type 0
NoneHolds [] = Unit {0}
NoneHolds (d ∷ ds) = (d.0 ≡ false) × NoneHolds ds

not_denied : (ds : List (Bool × Denial)) → first_denial ds ≡ None → NoneHolds ds
unfolding first_denial
not_denied [] h = tt
not_denied (d ∷ ds) h =
    elim d.0 as (λ b. d.0 ≡ b → cond b (Some d.1) (first_denial ds) ≡ None → (d.0 ≡ false) × NoneHolds ds) [
      | true ↦ λ e k. absurd (none-some d.1 (sym k))
      | false ↦ λ e k. (e, not_denied ds k)
    ] refl h

-- the level of the session dominates the label of a view that is not denied
pub view_below : (site : Site) (level user relation label : ℕ)
    → first_denial (view_denials site level user relation label) ≡ None → below (site_labels site) label level ≡ true
view_below site level user relation label h =
    not-false _ (or_parts _ _ (not_denied (view_denials site level user relation label) h).1.1.0).0

-- ---- batches

-- denials, and others behind them
pub past_none : (ds es : List (Bool × Denial)) → first_denial ds ≡ None → first_denial (ds ++ es) ≡ first_denial es
unfolding first_denial
past_none [] es h = refl
past_none (d ∷ ds) es h =
    elim d.0 as (λ b. cond b (Some d.1) (first_denial ds) ≡ None → cond b (Some d.1) (first_denial (ds ++ es))
    ≡ first_denial es) [
      | true ↦ λ k. absurd (none-some d.1 (sym k))
      | false ↦ λ k. past_none ds es k
    ] h

pub at_some : (ds es : List (Bool × Denial)) (x : Denial) → first_denial ds ≡ Some x → first_denial (ds ++ es) ≡ Some x
unfolding first_denial
at_some [] es x h = absurd cc
at_some (d ∷ ds) es x h =
    elim d.0 as (λ b. cond b (Some d.1) (first_denial ds) ≡ Some x → cond b (Some d.1) (first_denial (ds ++ es))
    ≡ Some x) [
      | true ↦ λ k. k
      | false ↦ λ k. at_some ds es x k
    ] h

none_apart : (ds es : List (Bool × Denial)) → NoneHolds (ds ++ es) → NoneHolds ds × NoneHolds es
none_apart [] es h = (tt, h)
none_apart (d ∷ ds) es h = let r = none_apart ds es h.1 in ((h.0, r.0), r.1)

one_below : (site : Site) (level user : ℕ) (one : One) → NoneHolds (one_denials site level user one)
    → LooksBelow (site_labels site) level one
one_below site level user (ones.View relation label query counts) h = not-false _ (or_parts _ _ h.1.1.0).0
one_below site level user (ones.Expect rows relation label query) h = not-false _ (or_parts _ _ h.1.1.0).0
one_below site level user (ones.Write relation wr) h = tt

each_below : (site : Site) (level user : ℕ) (batch : List One) → NoneHolds (batch_denials site level user batch)
    → AllByRecursion (LooksBelow (site_labels site) level) batch
each_below site level user [] h = tt
each_below site level user (one ∷ batch) h =
    let r = none_apart (one_denials site level user one) (batch_denials site level user batch) h in
    (one_below site level user one r.0, each_below site level user batch r.1)

-- the level of the session dominates what the commands of a batch look at that is not denied
pub batch_below : (site : Site) (level user : ℕ) (batch : List One) → first_denial (batch_denials site level user batch)
    ≡ None → AllByRecursion (LooksBelow (site_labels site) level) batch
batch_below site level user batch h = each_below site level user batch
    (not_denied (batch_denials site level user batch) h)

-- the level of the session is the lowest label of a call that is not denied, and there is an argument for each
-- parameter
pub record MayRun (level : ℕ) (tx : Tx) (args : List (Option Value)) : Type 0 where
  pub lo : tx.lo ≡ level
  pub count : length args ≡ length tx.params

pub may_run : (site : Site) (level user : ℕ) (tx : Tx) (args : List (Option Value))
    → first_denial (call_denials site level user tx args) ≡ None → MayRun level tx args
may_run site level user tx args h =
    let n = not_denied (call_denials site level user tx args) h in
    record { lo = eqb-true _ _ (not-false _ n.1.1.0); count = eqb-true _ _ (not-false _ (or_parts _ _ n.1.1.1.1.0).0) }
