-- The tables of maps, and the states that they are.
use Rattle.std.proofs.Common.{◌≡◌, ℕ, Bool, true, false, cond, ◌||◌, List, [], ◌∷◌, Option, Some, None, refl, sym, ap, ◌∙◌, subst, nat_eq, is_some, BTreeMap, nat_cmp, true≢false, eqb-true, eq-eqb}
use Rattle.std.specs.List.{AllZip}
use Rattle.std.specs.Map.{lookup}
use Rattle.std.specs.BTreeMap.{get, is_at, IsEmpty}
use Rattle.std.specs.Option.{option_map_or}
use Rattle.std.specs.FinMap.{empty, entries}
use Rattle.std.proofs.lemmas.Bool.{false_from_ne_true}
use Rattle.std.proofs.lemmas.Cmp.{tied_itself, nat_cmp_total}
use Rattle.std.proofs.lemmas.Map.Lookups.{exact_unsigned}
use Rattle.mls_scheme.specs.declared.tuple.Element.{Element}
use Rattle.mls_scheme.specs.declared.place.Place.{Place}
use Rattle.mls_scheme.specs.Table.{Table, Database}
use Rattle.mls_scheme.proofs.OrderLemmas.{is_eq-true}
use Rattle.mls_filterview.specs.declared.fragment.Fragment.{Fragment}
use Rattle.mls_filterview.specs.Assembly.{table_of}
use Rattle.mls_filterview.specs.Content.{no_content, with_table, with_relation}
use Rattle.mls_filterview.specs.Fragment.{IsFragment, AreFragments, ArePartsOf}
use Rattle.mls_filterview.proofs.FilteredLemmas.{filter_same}
use Rattle.mls_filterview.proofs.MapLemmas.{no_table}
use Rattle.mls_updates.specs.declared.held.Held.{Held}
use Rattle.mls_updates.specs.States.{tables_of, content_of, state_of}

abbrev pub Maps : Type 0
Maps = BTreeMap ℕ (BTreeMap Place (List Element))

abbrev table_at : Option (BTreeMap Place (List Element)) → Table
table_at o = table_of (option_map_or (λ m. m.entries) o [])

-- ---- no map

pub no_tables : (maps : Maps) → IsEmpty maps → tables_of maps ≡ (λ relation. empty)
no_tables maps h = λ i relation. (ap (λ es. table_at (lookup (is_at (nat_cmp relation)) es)) h ∙ no_table) i

-- ---- the map of one relation

at_number : (relation r : ℕ) → is_at (nat_cmp relation) r ≡ nat_eq r relation
at_number relation r = by (nat_eq r relation) refl
  where
    by : (b : Bool) → nat_eq r relation ≡ b → is_at (nat_cmp relation) r ≡ b
    by true e = ap (λ n. is_at (nat_cmp relation) n) (eqb-true r relation e) ∙ ap (λ o. is_at (λ k. o) relation)
        (tied_itself nat_cmp_total relation)
    by false e = false_from_ne_true (is_at (nat_cmp relation) r)
        (λ t. true≢false (sym (eq-eqb r relation (sym (exact_unsigned relation r (is_eq-true _ t)))) ∙ e))

module _ (old new : Maps) (relation : ℕ) (w : Option (BTreeMap Place (List Element))) (h : (r : ℕ) → get nat_cmp new r
    ≡ cond (is_at (nat_cmp relation) r) w (get nat_cmp old r)) where
  pub others_stay : (r : ℕ) → nat_eq r relation ≡ false → tables_of new r ≡ tables_of old r
  others_stay r e = ap table_at (h r ∙ ap (λ b. cond b w (get nat_cmp old r)) (at_number relation r ∙ e))

  pub one_put : tables_of new ≡ with_table (tables_of old) relation (table_of (option_map_or (λ m. m.entries) w []))
  one_put = λ i r. (ap table_at (h r ∙ ap (λ b. cond b w (get nat_cmp old r)) (at_number relation r))
      ∙ each (nat_eq r relation) (get nat_cmp old r)) i
    where
      each : (b : Bool) (o : Option (BTreeMap Place (List Element))) → table_at (cond b w o) ≡ cond b (table_at w)
          (table_at o)
      each true o = refl
      each false o = refl

-- a table put back where one was taken out
pub put_back : (old taken : Database) (relation : ℕ) (S T : Table) → ((r : ℕ) → nat_eq r relation ≡ false
    → taken r ≡ old r) → S ≡ T → with_table taken relation S ≡ with_table old relation T
put_back old taken relation S T others same = λ i r. by r (nat_eq r relation) refl i
  where
    by : (r : ℕ) (b : Bool) → nat_eq r relation ≡ b → cond b S (taken r) ≡ cond b T (old r)
    by r true e = same
    by r false e = others r e

-- ---- the same maps

module _ (R : ℕ × BTreeMap Place (List Element) → ℕ × BTreeMap Place (List Element) → Type 0)
    (same : (p q : ℕ × BTreeMap Place (List Element)) → R p q → (q.0 ≡ p.0) × (q.1.entries ≡ p.1.entries)) (r : ℕ) where
  found_alike : (xs ys : List (ℕ × BTreeMap Place (List Element))) → AllZip R xs ys
      → table_at (lookup (is_at (nat_cmp r)) ys) ≡ table_at (lookup (is_at (nat_cmp r)) xs)
  found_alike [] [] h = refl
  found_alike [] (y ∷ ys) h = absurd h
  found_alike (x ∷ xs) [] h = absurd h
  found_alike (x ∷ xs) (y ∷ ys) h =
      let s = same x y h.0 in
      (λ i. table_at (cond (is_at (nat_cmp r) (s.0 i)) (Some y.1) (lookup (is_at (nat_cmp r)) ys)))
      ∙ elim (is_at (nat_cmp r) x.0) as (λ b. table_at (cond b (Some y.1) (lookup (is_at (nat_cmp r)) ys))
      ≡ table_at (cond b (Some x.1) (lookup (is_at (nat_cmp r)) xs))) [
        | true ↦ ap table_of s.1
        | false ↦ found_alike xs ys h.1
      ]

pub copied : (R : ℕ × BTreeMap Place (List Element) → ℕ × BTreeMap Place (List Element) → Type 0)
    → ((p q : ℕ × BTreeMap Place (List Element)) → R p q → (q.0 ≡ p.0) × (q.1.entries ≡ p.1.entries)) → (m n : Maps)
    → AllZip R m.entries n.entries → tables_of n ≡ tables_of m
copied R same m n h = λ i r. found_alike R same r m.entries n.entries h i

-- ---- states

pub state-nil : (h : Held) → IsEmpty h.tables → h.audit.items ≡ [] → state_of h None ≡ record {
  now = no_content;
  kept =
      no_content;
  begun = false;
}
state-nil h e f = λ i. record { now = nothing i; kept = nothing i; begun = false }
  where
    nothing : content_of h ≡ no_content
    nothing = λ i. record { db = no_tables h.tables e i; audit = f i }

-- a relation changed inside a change
pub state-changed : (h new : Held) (saved : Option Held) → is_some saved ≡ true → (relation : ℕ) (T : Table)
    → tables_of new.tables ≡ with_table (tables_of h.tables) relation T → new.audit ≡ h.audit
    → state_of new saved ≡ with_relation (state_of h saved) relation T
state-changed h new None begun relation T e same = absurd (true≢false (sym begun))
state-changed h new (Some old) begun relation T e same =
    λ i. record { now = record { db = e i; audit = (same i).items }; kept = content_of old; begun = true }

-- ---- one label

-- the fragments of one label are its fragment
pub one_label : (T : Table) (label : ℕ) (f : Fragment) → AreFragments T (label ∷ []) f → IsFragment T label f
one_label T label f is = subst (λ es. ArePartsOf es f) (filter_same _ _ (λ e. or_false (nat_eq e.0.class label))
    (entries T)) is
  where
    or_false : (b : Bool) → (b || false) ≡ b
    or_false true = refl
    or_false false = refl
