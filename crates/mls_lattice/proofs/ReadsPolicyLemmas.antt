-- Reading is exact, so a document says one policy, and no reader refuses it.
use Rattle.std.proofs.Common.{◌≡◌, ◌≢◌, ℕ, List, codes, Some, Result, Ok, Err, refl, sym, ap, ◌∙◌, subst, is_some, IfOk}
use Rattle.toml.specs.Data.{Members, as_str, as_table}
use Rattle.mls_lattice.specs.declared.failed.Failed.{Failed}
use Rattle.mls_lattice.specs.declared.failed.Failed.TheVariants as failed
use Rattle.mls_lattice.specs.declared.fault.FieldFault.{FieldFault}
use Rattle.mls_lattice.specs.declared.fault.PolicyFault.TheVariants.{Memory}
use Rattle.mls_lattice.specs.Fault.{failed_fault_of}
use Rattle.mls_lattice.specs.Policy.{Policy}
use Rattle.mls_lattice.specs.Reading.{Gives, version_at}
use Rattle.mls_lattice.specs.PolicyReading.{new_name_at, levels_at, categories_at, label_at, labels_at, user_at, users_at, matrix_at, policy_at}
use Rattle.mls_lattice.specs.Says.{SaysName, SaysLabel, SaysUser, Says}
use Rattle.mls_lattice.specs.ReadsPolicy.{IsDocument, ReadsPolicy, SaysOne, ReadingIsExact}
use Rattle.mls_lattice.proofs.ReadingLemmas.{ok_is, same_ok, bind_ok}
use Rattle.mls_lattice.proofs.SaysLemmas.{required_found, required_again, optional_rows_found, optional_rows_again}
use Rattle.mls_lattice.proofs.MatrixLemmas.{matrix_found, matrix_again}
use Rattle.mls_lattice.proofs.SaysTablesLemmas.{new_name_found, new_name_again, name_kind, label_found, label_again, label_kind, user_found, user_again, user_kind, version_found, version_again}

pub says_found : (document : Members) (p : Policy) → policy_at document ≡ Ok p → Says document p
unfolding policy_at levels_at categories_at labels_at users_at
says_found document p e =
    let v = bind_ok (version_at document) _ p e in
    let l = bind_ok (levels_at document) _ p v.2 in
    let c = bind_ok (categories_at document) _ p l.2 in
    let b = bind_ok (labels_at l.0 c.0 document) _ p c.2 in
    let u = bind_ok (users_at b.0 document) _ p b.2 in
    let m = bind_ok (matrix_at u.0 document) _ p u.2 in
    let made : Policy = record {
      version = v.0;
      levels = l.0;
      categories = c.0;
      labels = b.0;
      users = u.0;
      matrix =
          m.0;
    } in
    let levels = required_found new_name_at SaysName (λ x. is_some (as_str x))
    (codes "levels") document 16 new_name_found l.0 l.1 in
    let categories = optional_rows_found new_name_at SaysName (λ x. is_some (as_str x))
    (codes "categories") document 32 new_name_found c.0 c.1 in
    let labels = required_found (label_at l.0 c.0) (SaysLabel l.0 c.0) (λ x. is_some (as_table x))
    (codes "label") document 64 (label_found l.0 c.0) b.0 b.1 in
    let users = optional_rows_found (user_at b.0) (SaysUser b.0) (λ x. is_some (as_table x))
    (codes "user") document 1024 (user_found b.0) u.0 u.1 in
    subst (λ (x : Policy). Says document x) (ok_is made p m.2)
    (record {
      version = version_found document v.0 v.1;
      levels = levels.has;
      some_level = levels.some;
      few_levels = levels.few;
      categories = categories.has;
      few_categories = categories.few;
      labels = labels.has;
      some_label = labels.some;
      few_labels = labels.few;
      users = users.has;
      few_users = users.few;
      matrix = matrix_found u.0 document m.0 m.1;
    })

levels_again : (document : Members) (p : Policy) → Says document p → levels_at document ≡ Ok p.levels
unfolding levels_at
levels_again document p h = required_again new_name_at SaysName (λ x. is_some (as_str x))
    (codes "levels") document 16 new_name_again name_kind p.levels h.levels h.some_level h.few_levels

categories_again : (document : Members) (p : Policy) → Says document p → categories_at document ≡ Ok p.categories
unfolding categories_at
categories_again document p h = optional_rows_again new_name_at SaysName (λ x. is_some (as_str x))
    (codes "categories") document 32 new_name_again name_kind p.categories h.categories h.few_categories

labels_again : (document : Members) (p : Policy) → Says document p → labels_at p.levels p.categories document
    ≡ Ok p.labels
unfolding labels_at
labels_again document p h = required_again (label_at p.levels p.categories) (SaysLabel p.levels p.categories)
    (λ x. is_some (as_table x)) (codes "label") document 64 (label_again p.levels p.categories)
    (label_kind p.levels p.categories) p.labels h.labels h.some_label h.few_labels

users_again : (document : Members) (p : Policy) → Says document p → users_at p.labels document ≡ Ok p.users
unfolding users_at
users_again document p h = optional_rows_again (user_at p.labels) (SaysUser p.labels) (λ x. is_some (as_table x))
    (codes "user") document 1024 (user_again p.labels) (user_kind p.labels) p.users h.users h.few_users

pub says_again : (document : Members) (p : Policy) → Says document p → policy_at document ≡ Ok p
unfolding policy_at
says_again document p h =
    rw (
      version_again document p.version h.version,
      levels_again document p h,
      categories_again document p h,
      labels_again document p h,
      users_again document p h,
      matrix_again p.users document p.matrix h.matrix,
    ) refl

pub exact : ReadingIsExact
exact document p = (says_found document p, says_again document p)

pub one : SaysOne
one document p q a b = same_ok (policy_at document) p q (says_again document p a) (says_again document q b)

-- ---- the clauses of the reader

pub one_document : (bytes : List ℕ) (d e : Members) → IsDocument bytes d → IsDocument bytes e → d ≡ e
one_document bytes d e a b = let h : Some d ≡ Some e = sym a.1 ∙ b.1 in cc

pub read_found : (bytes : List ℕ) (document : Members) (r : Result Policy (Failed FieldFault))
    → IsDocument bytes document → Gives (λ p. p) r (policy_at document) → IfOk r (ReadsPolicy bytes)
read_found bytes document (Ok p) is given = (document, is, says_found document p given)
read_found bytes document (Err failed) is given = tt

pub read_refused : (bytes : List ℕ) (document : Members) (failed : Failed FieldFault) → IsDocument bytes document
    → Gives (λ (p : Policy). p) (Err failed) (policy_at document)
    → failed_fault_of failed ≢ Memory → (p : Policy) → ReadsPolicy bytes p → ⊥
read_refused bytes document failed.Memory is given other p reads = absurd (other refl)
read_refused bytes document (failed.Fault fault) is given other p (read, is_read, says) =
    let same = one_document bytes read document is_read is in
    let ok : policy_at document ≡ Ok p = ap policy_at (sym same) ∙ says_again read p says in
    let err : policy_at document ≡ Err fault = given fault refl in
    absurd cc
