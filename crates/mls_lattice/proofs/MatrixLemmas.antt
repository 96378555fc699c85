-- The matrix of a document: the entries that its grants stand for.
use Rattle.std.proofs.Common.{◌≡◌, ℕ, ◌+◌, ◌<◌, ◌≤◌, Bool, true, false, List, [], ◌∷◌, ◌++◌, length, map, flat_map, Ok, refl, sym, ap, ◌∙◌, subst, arith, append_assoc, append-nil, codes, is_some, nat_le, nat_eq, bytes_eq}
use Rattle.std.specs.List.{list_any, IsDistinct}
use Rattle.std.specs.Cmp.{IsEquivalence, nat_eq_equiv}
use Rattle.std.specs.Cmp.Lexicographic.{nat_list_eq_equiv}
use Rattle.std.proofs.lemmas.Bool.{and_parts, and_from, leb-false, lt-leb}
use Rattle.std.proofs.lemmas.List.{length-append}
use Rattle.std.proofs.lemmas.Map.Keys.{IsDistinct-push, IsDistinct-head, IsDistinct-tail}
use Rattle.toml.specs.Data.{Data, Items, no_items, item, Members, get_member, as_table}
use Rattle.mls_lattice.specs.declared.fault.FieldFault.TheVariants.{Repeated, TooMany}
use Rattle.mls_lattice.specs.declared.tables.User.{User}
use Rattle.mls_lattice.specs.declared.tables.Right.{Right}
use Rattle.mls_lattice.specs.declared.tables.Grant.{Grant}
use Rattle.mls_lattice.specs.Policy.{Name, same_entry, right_of, rights_of}
use Rattle.mls_lattice.specs.Reading.{◌>>=◌, tables_at, optional, bounded}
use Rattle.mls_lattice.specs.PolicyReading.{grant_at, more_rights, rights_at, matrix_at}
use Rattle.mls_lattice.specs.Says.{Rows, MayHaveItems, SaysGrant, SaysMatrix}
use Rattle.mls_lattice.proofs.EachLemmas.{all_front, all_back}
use Rattle.mls_lattice.proofs.ReadingLemmas.{ok_is, bind_ok, guard_ok}
use Rattle.mls_lattice.proofs.SaysLemmas.{rows_all, rows_len, most_found, most_again, optional_found, optional_again}
use Rattle.mls_lattice.proofs.SaysTablesLemmas.{grant_found, grant_again, grant_kind}

-- ---- entries that are apart

pub entry-equiv : IsEquivalence same_entry
entry-equiv = record {
  refl = λ r. and_from _ _ (nat_eq_equiv.refl r.user) (nat_list_eq_equiv.refl r.object);
  symm = λ r s. rw (nat_eq_equiv.symm s.user r.user, nat_list_eq_equiv.symm s.object r.object) refl;
  congr = congr;
}
  where
    congr : (r s t : Right) → same_entry r s ≡ true → same_entry r t ≡ same_entry s t
    congr r s t e =
        let p = and_parts (nat_eq s.user r.user) (bytes_eq s.object r.object) e in
        let user : nat_eq t.user r.user ≡ nat_eq t.user s.user =
        nat_eq_equiv.symm t.user r.user ∙ sym (nat_eq_equiv.congr s.user r.user t.user p.0)
        ∙ nat_eq_equiv.symm s.user t.user in
        let object : bytes_eq t.object r.object ≡ bytes_eq t.object s.object =
        nat_list_eq_equiv.symm t.object r.object ∙ sym (nat_list_eq_equiv.congr s.object r.object t.object p.1)
        ∙ nat_list_eq_equiv.symm s.object t.object in
        rw (user, object) refl

new_before : (front : List Right) (r : Right) (rs : List Right) → IsDistinct same_entry (front ++ r ∷ rs)
    → list_any (same_entry r) front ≡ false
new_before [] r rs d = refl
new_before (x ∷ front) r rs d =
    let here = IsDistinct-head same_entry x (front ++ r ∷ rs) d in
    let at : same_entry x r ≡ false = (all_back (λ y. same_entry x y ≡ false) front (r ∷ rs) here).0 in
    let other : same_entry r x ≡ false = entry-equiv.symm r x ∙ at in
    rw other (new_before front r rs (IsDistinct-tail same_entry x (front ++ r ∷ rs) d))

-- ---- adding entries

pub record AreRights (all : List Right) : Type 0 where
  pub apart : IsDistinct same_entry all
  pub few : length all ≤ 16384

pub none : AreRights []
unfolding IsDistinct
none = record { apart = tt; few = omega arith }

front_distinct : (xs ys : List Right) → IsDistinct same_entry (xs ++ ys) → IsDistinct same_entry xs
unfolding IsDistinct
front_distinct [] ys d = tt
front_distinct (x ∷ xs) ys d = (all_front (λ y. same_entry x y ≡ false) xs ys d.0, front_distinct xs ys d.1)

front_are : (xs ys : List Right) → AreRights (xs ++ ys) → AreRights xs
front_are xs ys h = let len = length-append xs ys in let few = h.few in record {
  apart = front_distinct xs ys h.apart;
  few = omega (arith, len, few);
}

more_found : (front rs all : List Right) → AreRights front → more_rights front rs ≡ Ok all → (all ≡ front ++ rs)
    × AreRights all
more_found front [] all h e = let same = ok_is front all e in (
  sym same ∙ sym (append-nil front),
  subst AreRights same h,
)
more_found front (r ∷ rs) all h e =
    let a = guard_ok (list_any (same_entry r) front) Repeated _ all e in
    let b = guard_ok (nat_le 16384 (length front)) TooMany _ all a.1 in
    let less : length front < 16384 = leb-false 16384 (length front) b.0 in
    let grown : length (front ++ r ∷ []) ≡ length front + 1 = length-append front (r ∷ []) in
    let here : AreRights (front ++ r ∷ []) = record {
      apart = IsDistinct-push entry-equiv front r h.apart a.0;
      few = omega (arith, less, grown);
    } in
    let more = more_found (front ++ r ∷ []) rs all here b.1 in
    (more.0 ∙ append_assoc front (r ∷ []) rs, more.1)

more_again : (front rs : List Right) → AreRights (front ++ rs) → more_rights front rs ≡ Ok (front ++ rs)
more_again front [] h = ap (λ (x : List Right). Ok x) (sym (append-nil front))
more_again front (r ∷ rs) h =
    let new = new_before front r rs h.apart in
    let grown = length-append front (r ∷ rs) in
    let few = h.few in
    let room : nat_le 16384 (length front) ≡ false = lt-leb 16384 (length front) (omega (arith, grown, few)) in
    rw (new, room) (more_again (front ++ r ∷ []) rs (subst AreRights (sym (append_assoc front (r ∷ []) rs)) h)
    ∙ ap (λ (x : List Right). Ok x) (append_assoc front (r ∷ []) rs))

-- the entries of one list and of another
pub more_both : (front rs ss : List Right) → more_rights front (rs ++ ss) ≡ (more_rights front rs >>=
    λ more. more_rights more ss)
more_both front [] ss = refl
more_both front (r ∷ rs) ss = go (list_any (same_entry r) front) (nat_le 16384 (length front)) refl refl
    (more_both (front ++ r ∷ []) rs ss)
  where
    go : (b c : Bool) → list_any (same_entry r) front ≡ b → nat_le 16384 (length front) ≡ c
        → more_rights (front ++ r ∷ []) (rs ++ ss) ≡ (more_rights (front ++ r ∷ []) rs >>= λ more. more_rights more ss)
        → more_rights front (r ∷ rs ++ ss) ≡ (more_rights front (r ∷ rs) >>= λ more. more_rights more ss)
    go true c is are more = rw is refl
    go false true is are more = rw (is, are) refl
    go false false is are more = rw (is, are) more

-- ---- the tables

module _ (users : List User) where
  rights_found : (front : List Right) (before : List Grant) (ds : Items) (all : List Right) → AreRights front
      → rights_at users front ds ≡ Ok all
      → (grants : List Grant) × Rows (λ before. SaysGrant users) before ds grants
      × (all ≡ front ++ flat_map rights_of grants) × AreRights all
  rights_found front before no_items all h e = let same = ok_is front all e
      in ([], tt, sym same ∙ sym (append-nil front), subst AreRights same h)
  rights_found front before (item d ds) all h e =
      let a = bind_ok (grant_at users d) _ all e in
      let b = bind_ok (more_rights front (rights_of a.0)) _ all a.2 in
      let here = more_found front (rights_of a.0) b.0 h b.1 in
      let more = rights_found b.0 (before ++ a.0 ∷ []) ds all here.1 b.2 in (
        a.0 ∷ more.0,
        (grant_found users d a.0 a.1, more.1),
        more.2 ∙ ap (λ (x : List Right). x ++ flat_map rights_of more.0) here.0 ∙ append_assoc front (rights_of a.0)
            (flat_map rights_of more.0),
        more.3,
      )

  rights_again : (front : List Right) (before : List Grant) (ds : Items) (grants : List Grant)
      → Rows (λ before. SaysGrant users) before ds grants
      → AreRights (front ++ flat_map rights_of grants) → rights_at users front ds
      ≡ Ok (front ++ flat_map rights_of grants)
  rights_again front before no_items [] h are = ap (λ (x : List Right). Ok x) (sym (append-nil front))
  rights_again front before no_items (g ∷ grants) h are = absurd h
  rights_again front before (item d ds) [] h are = absurd h
  rights_again front before (item d ds) (g ∷ grants) h are =
      let rest = flat_map rights_of grants in
      let joined = append_assoc front (rights_of g) rest in
      let both : AreRights ((front ++ rights_of g) ++ rest) = subst AreRights (sym joined) are in
      rw (grant_again users d g h.0, more_again front (rights_of g) (front_are (front ++ rights_of g) rest both))
      (rights_again (front ++ rights_of g) (before ++ g ∷ []) ds grants h.1 both ∙ ap (λ (x : List Right). Ok x) joined)

  -- each grant has an entry
  some_right : (d : Data) (g : Grant) → SaysGrant users d g → 0 < length (rights_of g)
  some_right d g h = some_pair g.users g.objects h.some_user h.some_object
    where
      some_pair : (us : List ℕ) (os : List Name) → 0 < length us → 0 < length os
          → 0 < length (flat_map (λ user. map (right_of user g.modes) os) us)
      some_pair [] os some thing = absurd (omega arith)
      some_pair (u ∷ us) [] some thing = absurd (omega arith)
      some_pair (u ∷ us) (o ∷ os) some thing = omega arith

  few_grants : (before : List Grant) (ds : Items) (grants : List Grant)
      → Rows (λ before. SaysGrant users) before ds grants → length grants ≤ length (flat_map rights_of grants)
  few_grants before no_items [] h = omega arith
  few_grants before no_items (g ∷ grants) h = absurd h
  few_grants before (item d ds) [] h = absurd h
  few_grants before (item d ds) (g ∷ grants) h =
      let some = some_right d g h.0 in
      let more = few_grants (before ++ g ∷ []) ds grants h.1 in
      let len = length-append (rights_of g) (flat_map rights_of grants) in
      omega (arith, some, more, len)

  pub matrix_found : (document : Members) (all : List Right) → matrix_at users document ≡ Ok all
      → SaysMatrix users document all
  unfolding matrix_at
  matrix_found document all e =
      let a = bind_ok (optional tables_at (get_member (codes "matrix") document)) _ all e in
      let b = bind_ok (bounded 16384 a.0) _ all a.2 in
      let s = most_found 16384 a.0 b.0 b.1 in
      let r = rights_found [] [] b.0 all none b.2 in
      record {
        grants = r.0;
        has = (
          b.0,
          subst (λ (x : Items). MayHaveItems (codes "matrix") document x) s.0
              (optional_found (λ x. is_some (as_table x)) (codes "matrix") document a.0 a.1),
          r.1,
        );
        entries = r.2;
        apart = r.3.apart;
        few = r.3.few;
      }

  pub matrix_again : (document : Members) (all : List Right) → SaysMatrix users document all → matrix_at users document
      ≡ Ok all
  unfolding matrix_at
  matrix_again document all h =
      let ds = h.has.0 in
      let rows = h.has.2 in
      let kinds = rows_all (λ before. SaysGrant users) (λ x. is_some (as_table x))
      (λ before. grant_kind users) [] ds h.grants rows in
      let len = rows_len (λ before. SaysGrant users) [] ds h.grants rows in
      let grants = few_grants [] ds h.grants rows in
      let count : length all ≡ length (flat_map rights_of h.grants) = ap length h.entries in
      let few = h.few in
      let are : AreRights (flat_map rights_of h.grants) = subst AreRights h.entries (record {
        apart = h.apart;
        few = h.few;
      }) in
      rw (
        optional_again (λ x. is_some (as_table x)) (codes "matrix") document ds h.has.1 kinds,
        most_again 16384 ds (omega (arith, len, grants, count, few)),
      )
      (rights_again [] [] ds h.grants rows are ∙ ap (λ (x : List Right). Ok x) (sym h.entries))
