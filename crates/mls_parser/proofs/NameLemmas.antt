-- What stands behind numbers of names.
use Rattle.std.proofs.Common.{◌≡◌, ℕ, zero, suc, ◌<◌, List, [], ◌∷◌, length, get_or, Option, Some, None, sym, ap, arith, IfSome, position, bytes_eq}
use Rattle.std.specs.List.{AllByRecursion}
use Rattle.mls_lattice.specs.Policy.{Name, Policy}
use Rattle.mls_lattice.proofs.NamedLemmas.{label_found}
use Rattle.mls_translang.specs.declared.row.LoopRow.{LoopRow}

-- ---- labels

pub label_place : (policy : Policy) (name : Name) (o : Option ℕ)
    → o ≡ position (λ l. bytes_eq l.name name) policy.labels → IfSome o (λ n. n < length policy.labels)
label_place policy name None e = tt
label_place policy name (Some i) e = (label_found policy.labels name i (sym e)).0

pub ruleset place_steps = (label_place)

-- ---- rows

pub row_known : (n : ℕ) (rows : List LoopRow) (i : ℕ) (r : LoopRow) → AllByRecursion (λ x. x.relation < n) rows
    → i < length rows → r ≡ get_or rows i r → r.relation < n
row_known n [] i r h within is = absurd (omega arith)
row_known n (x ∷ xs) zero r h within is = let e : r.relation ≡ x.relation = ap (λ (y : LoopRow). y.relation) is
    in omega (arith, e, h.0)
row_known n (x ∷ xs) (suc i) r h within is = row_known n xs i r h.1 (omega arith) is

pub ruleset row_steps = (row_known)
