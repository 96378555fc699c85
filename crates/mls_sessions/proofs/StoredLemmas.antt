-- What calls find: the users' intervals, and what is stored.
use Rattle.std.proofs.Common.{◌≡◌, ℕ, ◌<◌, length, Option, Some, sym, ap, ◌∙◌, subst, option_map, slice_get, IfSome}
use Rattle.std.proofs.lemmas.Option.{slice_get-get_or}
use Rattle.mls_lattice.specs.declared.tables.User.{User}
use Rattle.mls_lattice.specs.Policy.{Name, Policy}
use Rattle.mls_translang.specs.Fits.{IsReadUnder}
use Rattle.mls_certcheck.specs.declared.stored.Stored.{Stored}
use Rattle.mls_certcheck.specs.Stored.{tx_of}
use Rattle.mls_certcheck.specs.Site.{Site, AreRead}
use Rattle.mls_machine.specs.Denying.{no_user, trusted_of, stored_named}
use Rattle.mls_machine.proofs.CalledLemmas.{found_holds}

trusted_is : (a b : Option (ℕ × ℕ)) → Some a ≡ Some b → a ≡ b
trusted_is a b e = cc

pub trusted_found : (policy : Policy) (user : ℕ) (interval : Option (ℕ × ℕ)) → user < length policy.users
    → option_map (λ u. u.trusted) (slice_get policy.users user) ≡ Some interval
    → interval ≡ trusted_of policy user
trusted_found policy user interval within row =
    trusted_is interval (trusted_of policy user) (sym row ∙ ap (option_map (λ (u : User). u.trusted))
    (slice_get-get_or policy.users user no_user within))

pub found_read : (site : Site) (name : Name) (s : Stored) → AreRead site → stored_named site.stored name ≡ Some s
    → IsReadUnder site.policy site.schemes (tx_of s)
found_read site name s read is = subst (λ o. IfSome o (λ x. IsReadUnder site.policy site.schemes (tx_of x))) is
    (found_holds _ _ site.stored read)
