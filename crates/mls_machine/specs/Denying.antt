-- Why commands are denied (after Bell and LaPadula 1976): conditions and their denials, in the order of their numbers.
-- Which of them a command can have is said by its own step.
use Rattle.std.specs.Prelude.{◌≡◌, ℕ, ◌==◌, Bool, true, not, ◌&&◌, ◌||◌, bit_and, nat_eq, slice_index_or, List, [], ◌∷◌}
use Rattle.std.specs.Prelude.{length, map, zip, Option, Some, None, Result, Ok, Err, if◌then◌else◌, position, find}
use Rattle.std.specs.Prelude.{bytes_eq, flat_map, ⊤}
use Rattle.std.specs.List.{list_any}
use Rattle.mls_lattice.specs.declared.tables.User.{User}
use Rattle.mls_lattice.specs.Labels.{Labels, below}
use Rattle.mls_lattice.specs.Policy.{Name, Policy, granted_modes}
use Rattle.mls_scheme.specs.declared.value.Value.{Value}
use Rattle.mls_scheme.specs.Value.{fits_kind}
use Rattle.mls_updates.specs.Writes.{Write, Insert, Update, Delete}
use Rattle.mls_translang.specs.declared.event.One.{One}
use Rattle.mls_translang.specs.declared.event.One.TheVariants as ones
use Rattle.mls_translang.specs.declared.tx.Parameter.{Parameter}
use Rattle.mls_translang.specs.Tx.{Tx}
use Rattle.mls_machine.specs.declared.reply.Denial.{Denial}
use Rattle.mls_machine.specs.declared.reply.Denial.TheVariants.{UnknownUser, UnknownTransaction, NotCertified, Ds, Ss}
use Rattle.mls_machine.specs.declared.reply.Denial.TheVariants.{Star, Trust, Arguments}
use Rattle.mls_certcheck.specs.declared.stored.Stored.{Stored}
use Rattle.mls_certcheck.specs.declared.stored.Stored.TheVariants.{Certified, Plain}
use Rattle.mls_certcheck.specs.Stored.{tx_of}
use Rattle.mls_certcheck.specs.Site.{Site, site_labels, site_scheme}

-- the denial whose condition holds first, if one does
unfoldable pub first_denial : List (Bool × Denial) → Option Denial
first_denial [] = None
first_denial (d ∷ ds) = if d.0 then Some d.1 else first_denial ds

-- ---- users

abbrev pub user_named : Policy → Name → Option ℕ
user_named policy name = position (λ u. bytes_eq u.name name) policy.users

abbrev pub no_user : User
no_user = record { name = []; clearance = 0; trusted = None }

abbrev pub clearance_of : Policy → ℕ → ℕ
clearance_of policy user = (slice_index_or policy.users user no_user).clearance

-- the interval in which a user is trusted, if there is one
abbrev pub trusted_of : Policy → ℕ → Option (ℕ × ℕ)
trusted_of policy user = (slice_index_or policy.users user no_user).trusted

-- ---- labels and modes

-- one of the labels is not dominated by the limit
abbrev pub exceed : Site → ℕ → List ℕ → Bool
exceed site limit = list_any (λ label. not (below (site_labels site) label limit))

-- one of the labels does not lie between the ends of the interval, or there is no interval
abbrev pub lie_outside : Labels → Option (ℕ × ℕ) → List ℕ → Bool
lie_outside ls None labels = true
lie_outside ls (Some i) labels = list_any (λ label. not (below ls i.0 label && below ls label i.1)) labels

-- modes of the matrix, by their numbers
abbrev pub execute_mode : ℕ
execute_mode = 1

abbrev pub read_mode : ℕ
read_mode = 2

abbrev pub append_mode : ℕ
append_mode = 4

abbrev pub write_mode : ℕ
write_mode = 8

-- the matrix grants the user none of the modes on what has the name
abbrev pub lacks_rights_on : Site → ℕ → Name → List ℕ → Bool
lacks_rights_on site user object modes =
    not (list_any (λ mode. bit_and (granted_modes site.policy.matrix user object) mode == mode) modes)

-- on the relation
abbrev pub lacks : Site → ℕ → ℕ → List ℕ → Bool
lacks site user relation modes = lacks_rights_on site user (site_scheme site relation).name modes

-- the modes of which a write needs one
abbrev pub modes_for : Write → List ℕ
modes_for (Insert key values) = append_mode ∷ write_mode ∷ []
modes_for (Update key key_class from sets) = write_mode ∷ []
modes_for (Delete key key_class) = write_mode ∷ []

-- the labels that it names beside the level of its session
abbrev pub labels_named : Write → List ℕ
labels_named (Insert key values) = []
labels_named (Update key key_class from sets) = key_class ∷ from ∷ []
labels_named (Delete key key_class) = key_class ∷ []

-- ---- calls

-- the first stored transaction of a name, which a call runs: several of one name are no error
abbrev pub stored_named : List Stored → Name → Option Stored
stored_named stored name = find (λ s. bytes_eq (tx_of s).name name) stored

-- an argument at a parameter of the label has the wrong kind
abbrev pub are_wrong_at : ℕ → List (Name × Parameter) → List (Option Value) → Bool
are_wrong_at label params args =
    list_any (λ x. nat_eq x.0.1.label label && not (fits_kind x.1 x.0.1.kind)) (zip params args)

-- the arguments, with null in place of each that has the wrong kind
abbrev pub fitted : List (Name × Parameter) → List (Option Value) → List (Option Value)
fitted params args = map (λ x. if fits_kind x.1 x.0.1.kind then x.1 else None) (zip params args)

-- ---- the denials

-- the user that opens a session at a level, or why none does
abbrev pub cleared : Site → ℕ → Option ℕ → Result ℕ Denial
cleared site level None = Err UnknownUser
cleared site level (Some user) = if exceed site (clearance_of site.policy user) (level ∷ []) then Err Ss else Ok user

-- where a user's session at a level is open: what needs one of the modes on a relation, and names labels
abbrev pub access_denials : Site → ℕ → ℕ → ℕ → List ℕ → List ℕ → List (Bool × Denial)
access_denials site level user relation modes labels =
    (lacks site user relation modes, Ds)
    ∷ (exceed site (clearance_of site.policy user) labels, Ss)
    ∷ (exceed site level labels, Star) ∷ []

abbrev pub view_denials : Site → ℕ → ℕ → ℕ → ℕ → List (Bool × Denial)
view_denials site level user relation label = access_denials site level user relation (read_mode ∷ write_mode ∷ [])
    (label ∷ [])

abbrev pub write_denials : Site → ℕ → ℕ → ℕ → Write → List (Bool × Denial)
write_denials site level user relation wr = access_denials site level user relation (modes_for wr) (labels_named wr)

-- of a command of a batch, as of the command alone: what is expected is looked at
abbrev pub one_denials : Site → ℕ → ℕ → One → List (Bool × Denial)
one_denials site level user (ones.View relation label query counts) = view_denials site level user relation label
one_denials site level user (ones.Expect rows relation label query) = view_denials site level user relation label
one_denials site level user (ones.Write relation wr) = write_denials site level user relation wr

-- what a command of a batch looks at lies below a label
abbrev pub LooksBelow : Labels → ℕ → One → Type 0
LooksBelow ls level (ones.View relation label query counts) = below ls label level ≡ true
LooksBelow ls level (ones.Expect rows relation label query) = below ls label level ≡ true
LooksBelow ls level (ones.Write relation wr) = ⊤

-- of a batch: those of its commands, in their order
abbrev pub batch_denials : Site → ℕ → ℕ → List One → List (Bool × Denial)
batch_denials site level user = flat_map (one_denials site level user)

-- of a transaction with a certificate
abbrev pub call_denials : Site → ℕ → ℕ → Tx → List (Option Value) → List (Bool × Denial)
call_denials site level user tx args =
    (lacks_rights_on site user tx.name (execute_mode ∷ []), Ds)
    ∷ (exceed site (clearance_of site.policy user) (tx.hi ∷ []), Ss)
    ∷ (not (nat_eq tx.lo level), Star)
    ∷ (
      not (nat_eq tx.hi tx.lo) && lie_outside (site_labels site) (trusted_of site.policy user) (tx.lo ∷ tx.hi ∷ []),
      Trust,
    )
    ∷ (not (nat_eq (length args) (length tx.params)) || are_wrong_at tx.lo tx.params args, Arguments) ∷ []

-- of what is stored by the name that is called, if anything is
abbrev pub call_denial : Site → ℕ → ℕ → List (Option Value) → Option Stored → Option Denial
call_denial site level user args None = Some UnknownTransaction
call_denial site level user args (Some (Plain tx)) = Some NotCertified
call_denial site level user args (Some (Certified k)) = first_denial (call_denials site level user k.tx args)
