-- Sets of what a reader has met, and the loop over an array of names.
use Rattle.std.proofs.Common.{◌≡◌, ℕ, ◌+◌, ◌<◌, Bool, true, false, cond, not, ◌&&◌, ◌||◌, List, [], ◌∷◌, ◌++◌, length, get_or, drop, Result, Ok, Err, refl, sym, ap, ap₂, ◌∙◌, nat_cmp, bytes_eq, if◌then◌else◌, nat_le, le-leb, ◌≤◌, is_eq, Ordering, Less, Equal, Greater, BTreeSet}
use Rattle.std.specs.Ordering.{ordering_then}
use Rattle.std.specs.List.{list_any}
use Rattle.std.specs.BTreeSet.{contains}
use Rattle.std.specs.BTreeMap.{is_at}
use Rattle.std.specs.Cmp.{eq_by_cmp_equiv, unsigned_ties}
use Rattle.std.specs.Cmp.Lexicographic.{slice_cmp, nat_list_cmp_total, texts_ties}
use Rattle.std.proofs.lemmas.Bool.{lt-leb}
use Rattle.std.proofs.lemmas.List.{length_push}
use Rattle.std.proofs.lemmas.List.Folds.{list_any-append}
use Rattle.toml.specs.declared.value.Value.{Value}
use Rattle.toml.specs.View.{view, items_view}
use Rattle.mls_lattice.specs.declared.failed.Failed.{Failed}
use Rattle.mls_lattice.specs.declared.failed.Failed.TheVariants.{Fault}
use Rattle.mls_lattice.specs.declared.fault.FieldFault.{FieldFault}
use Rattle.mls_lattice.specs.declared.fault.FieldFault.TheVariants.{Repeated, TooMany}
use Rattle.mls_lattice.specs.declared.tables.Right.{Right}
use Rattle.mls_lattice.specs.Policy.{Name, is_entry, same_entry}
use Rattle.mls_lattice.specs.Known.{Knows, KnowsNames, KnowsRights, pair_cmp}
use Rattle.mls_lattice.specs.Reading.{◌>>=◌, name_at}
use Rattle.mls_lattice.specs.PolicyReading.{once, with_name, new_name_at, rows_at, more_rights}
use Rattle.mls_lattice.proofs.ReadingLemmas.{here, ok_is}

-- ---- one row more

or_last : (b c : Bool) → cond b true c ≡ (c || (b || false))
or_last true true = refl
or_last true false = refl
or_last false true = refl
or_last false false = refl

module _ {K X : Type 0} (cmp : K → K → Ordering) (has : K → X → Bool) (key : X → K)
    (ties : (k : K) (x : X) → has k x ≡ is_at (cmp (key x)) k) where
  knows_more : (known more : BTreeSet K) (rows : List X) (x : X) → Knows cmp has known rows
      → ((k : K) → contains cmp more k ≡ cond (is_at (cmp (key x)) k) true (contains cmp known k))
      → Knows cmp has more (rows ++ x ∷ [])
  knows_more known more rows x knows updates k =
      updates k ∙ ap₂ (λ (b c : Bool). cond b true c) (sym (ties k x)) (knows k) ∙ or_last (has k x) (list_any (has k) rows)
      ∙ sym (list_any-append (has k) rows (x ∷ []))

name_ties : (k x : Name) → bytes_eq k x ≡ is_at (slice_cmp nat_cmp x) k
name_ties k x = texts_ties k x ∙ (eq_by_cmp_equiv nat_list_cmp_total).symm k x

then_tied : (r s : Ordering) → (is_eq r && is_eq s) ≡ is_eq (ordering_then r s)
then_tied Less s = refl
then_tied Equal s = refl
then_tied Greater s = refl

right_ties : (k : ℕ × Name) (r : Right) → is_entry k.0 k.1 r ≡ is_at (pair_cmp (r.user, r.object)) k
right_ties k r =
    ap₂ (λ (b c : Bool). b && c) (unsigned_ties r.user k.0) (texts_ties r.object k.1)
    ∙ then_tied (nat_cmp r.user k.0) (slice_cmp nat_cmp r.object k.1)

pub name_known : (known more : BTreeSet Name) (names : List Name) (name : Name) → KnowsNames known names
    → ((k : Name) → contains (slice_cmp nat_cmp) more k
    ≡ cond (is_at (slice_cmp nat_cmp name) k) true (contains (slice_cmp nat_cmp) known k))
    → KnowsNames more (names ++ name ∷ [])
name_known = knows_more (slice_cmp nat_cmp) bytes_eq (λ x. x) name_ties

pub right_known : (known more : BTreeSet (ℕ × Name)) (rights : List Right) (r : Right) → KnowsRights known rights
    → ((k : ℕ × Name) → contains pair_cmp more k
    ≡ cond (is_at (pair_cmp (r.user, r.object)) k) true (contains pair_cmp known k))
    → KnowsRights more (rights ++ r ∷ [])
right_known = knows_more pair_cmp (λ p. is_entry p.0 p.1) (λ r. (r.user, r.object)) right_ties

-- ---- whether a row is new

fault_is : (x y : FieldFault) → Path (Failed FieldFault) (Fault x) (Fault y) → x ≡ y
fault_is x y e = cc

module _ (known : BTreeSet Name) (names : List Name) (name : Name) (new : Bool) (knows : KnowsNames known names)
    (is : new ≡ not (contains (slice_cmp nat_cmp) known name)) where
  name_is : new ≡ not (list_any (bytes_eq name) names)
  name_is = is ∙ ap not (knows name)

  pub name_met : new ≡ false → with_name names name ≡ Err Repeated
  name_met met = go (list_any (bytes_eq name) names) (sym name_is ∙ met)
    where
      go : (b : Bool) → not b ≡ false → (once b >>= λ new. Ok (names ++ name ∷ [])) ≡ Err Repeated
      go true h = refl
      go false h = absurd cc

  pub name_new : new ≡ true → with_name names name ≡ Ok (names ++ name ∷ [])
  name_new unmet = go (list_any (bytes_eq name) names) (sym name_is ∙ unmet)
    where
      go : (b : Bool) → not b ≡ true → (once b >>= λ new. Ok (names ++ name ∷ [])) ≡ Ok (names ++ name ∷ [])
      go true h = absurd cc
      go false h = refl

module _ (known : BTreeSet (ℕ × Name)) (rights : List Right) (r : Right) (new : Bool) (knows : KnowsRights known rights)
    (is : new ≡ not (contains pair_cmp known (r.user, r.object))) where
  right_is : new ≡ not (list_any (same_entry r) rights)
  right_is = is ∙ ap not (knows (r.user, r.object))

  pub right_met : new ≡ false → more_rights rights (r ∷ []) ≡ Err Repeated
  right_met met = go (list_any (same_entry r) rights) (sym right_is ∙ met)
    where
      go : (b : Bool) → not b ≡ false → (if b then Err Repeated else if nat_le 16384 (length rights) then Err TooMany else
          Ok (rights ++ r ∷ [])) ≡ Err Repeated
      go true h = refl
      go false h = absurd cc

  is_unmet : new ≡ true → list_any (same_entry r) rights ≡ false
  is_unmet fresh = go (list_any (same_entry r) rights) (sym right_is ∙ fresh)
    where
      go : (b : Bool) → not b ≡ true → b ≡ false
      go true h = absurd cc
      go false h = refl

  pub right_full : new ≡ true → 16384 ≤ length rights → more_rights rights (r ∷ []) ≡ Err TooMany
  right_full fresh full = rw (is_unmet fresh, le-leb 16384 (length rights) full) refl

  pub right_new : new ≡ true → length rights < 16384 → more_rights rights (r ∷ []) ≡ Ok (rights ++ r ∷ [])
  right_new fresh room = rw (is_unmet fresh, lt-leb 16384 (length rights) room) refl

pub told : {A : Type 0} (r : Result A FieldFault) (x : FieldFault) → r ≡ Err x → (fault : FieldFault)
    → Path (Failed FieldFault) (Fault x) (Fault fault) → r ≡ Err fault
told r x e fault is = e ∙ ap (λ (f : FieldFault). Err f) (fault_is x fault is)

pub ruleset add_steps = (name_met, name_new, name_known, right_met, right_full, right_new, right_known)

-- ---- an array of names

err_is : {A : Type 0} (x y : FieldFault) → Path (Result A FieldFault) (Err x) (Err y) → x ≡ y
err_is x y e = cc

again_by : {A B C : Type 0} (b : Bool) (x : A) (y : B) (f : B → Result C FieldFault) (e : FieldFault)
    → (once b >>= λ new. Ok x) ≡ Err e → ((once b >>= λ new. Ok y) >>= f) ≡ Err e
again_by true x y f e bad = ap (λ (q : FieldFault). Err q) (err_is Repeated e bad)
again_by false x y f e bad = absurd cc

pub names_longer : (front more : List Name) (name : Name) → with_name front name ≡ Ok more → length more
    ≡ length front + 1
names_longer front more name e = go (list_any (bytes_eq name) front) e
  where
    go : (b : Bool) → (once b >>= λ new. Ok (front ++ name ∷ [])) ≡ Ok more → length more ≡ length front + 1
    go true h = absurd cc
    go false h = ap length (sym (ok_is (front ++ name ∷ []) more h)) ∙ length_push front name

module _ (items : List Value) (i : ℕ) (v : Value) (within : i < length items) (is : v ≡ get_or items i v) where
  pub names-bad : (front : List Name) (e : FieldFault) → name_at (view v) ≡ Err e
      → rows_at new_name_at front (items_view (drop i items)) ≡ Err e
  unfolding new_name_at
  names-bad front e bad = here items i v within is (rows_at new_name_at front) ∙ rw bad refl

  pub names-again : (front : List Name) (name : Name) (e : FieldFault) → name_at (view v) ≡ Ok name
      → with_name front name ≡ Err e → rows_at new_name_at front (items_view (drop i items)) ≡ Err e
  unfolding new_name_at
  names-again front name e named again =
      here items i v within is (rows_at new_name_at front) ∙ rw named (again_by (list_any (bytes_eq name) front)
      (front ++ name ∷ []) name (λ row. rows_at new_name_at (front ++ row ∷ []) (items_view (drop (i + 1) items))) e again)

  pub names-more : (front more : List Name) (name : Name) → name_at (view v) ≡ Ok name → with_name front name ≡ Ok more
      → rows_at new_name_at more (items_view (drop (i + 1) items))
      ≡ rows_at new_name_at front (items_view (drop i items))
  unfolding new_name_at
  names-more front more name named new =
      sym (here items i v within is (rows_at new_name_at front) ∙ rw named (go (list_any (bytes_eq name) front) new))
    where
      rest : List Name → Result (List Name) FieldFault
      rest names = rows_at new_name_at names (items_view (drop (i + 1) items))

      go : (b : Bool) → (once b >>= λ new. Ok (front ++ name ∷ [])) ≡ Ok more
          → ((once b >>= λ new. Ok name) >>= λ row. rest (front ++ row ∷ [])) ≡ rest more
      go true h = absurd cc
      go false h = ap rest (ok_is (front ++ name ∷ []) more h)

pub ruleset name_steps = (names-bad, names-again, names-more)
