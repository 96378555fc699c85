-- The rows of a map are content where each passes the tests of a row.
use Rattle.std.proofs.Common.{◌≡◌, ℕ, suc, ◌<◌, Bool, true, List, [], ◌∷◌, length, Option, Some, refl, sym, ap, ◌∙◌, subst, arith, ltb-true, lt-ltb, inl, inr, ◌↔◌, IsTrue, eqb-true, eq-eqb}
use Rattle.std.specs.List.{list_all, AllByRecursion}
use Rattle.std.specs.List.Sorted.{IsStrictlySortedBy}
use Rattle.std.specs.Map.{lookup, keys_of}
use Rattle.std.specs.BTreeMap.{is_at}
use Rattle.std.specs.FinMap.{get, get-from_sorted}
use Rattle.std.proofs.lemmas.Bool.{and_parts, and_from}
use Rattle.std.proofs.lemmas.Slice.Zip.{AllZip-long}
use Rattle.mls_lattice.specs.Labels.{Labels, below, AreDistinct}
use Rattle.mls_lattice.proofs.LatticeLemmas.{below-refl}
use Rattle.mls_scheme.specs.declared.tuple.Element.{Element}
use Rattle.mls_scheme.specs.declared.place.Place.{Place}
use Rattle.mls_scheme.specs.Tuple.{at, HasClassesBelow}
use Rattle.mls_scheme.specs.Table.{place_cmp, Table, tuple_at}
use Rattle.mls_scheme.specs.Scheme.{Scheme}
use Rattle.mls_filterview.specs.View.{IsAmong}
use Rattle.mls_filterview.specs.Stored.{Occurs, with_class, IsStoredTuple, IsContent}
use Rattle.mls_filterview.specs.Filtering.{class_number}
use Rattle.mls_filterview.specs.Checking.{are_declared, is_placed, is_right_alone, agrees_with_found, is_closed, is_stored_row}
use Rattle.mls_filterview.specs.Assembly.{table_of}
use Rattle.mls_filterview.proofs.ClassLemmas.{class_top}
use Rattle.mls_filterview.proofs.CheckingLemmas.{occurs_bound}
use Rattle.mls_filterview.proofs.EntryLemmas.{Entry, so_from}
use Rattle.mls_filterview.proofs.FilterLemmas.{class_number-stored}
use Rattle.mls_filterview.proofs.ListedLemmas.{sorted_keys, find-lookup}
use Rattle.mls_filterview.proofs.RecoveringLemmas.{in_table_of}
use Rattle.mls_filterview.proofs.RuleLemmas.{classes-each, each-classes}
use Rattle.mls_filterview.proofs.RowRuleLemmas.{IsRightAlone, alone-true, alone-from, found-true, found-from}

-- ---- tests of a list

pub all-among : {A : Type 0} (p : A → Bool) (xs : List A) → list_all p xs ≡ true → (x : A) → IsAmong x xs → p x ≡ true
all-among p [] h x i = absurd i
all-among p (y ∷ ys) h x (inl e) = ap p e ∙ (and_parts _ _ h).0
all-among p (y ∷ ys) h x (inr i) = all-among p ys (and_parts _ _ h).1 x i

pub among-all : {A : Type 0} (p : A → Bool) (xs : List A) → ((x : A) → IsAmong x xs → p x ≡ true) → list_all p xs ≡ true
among-all p [] h = refl
among-all p (x ∷ xs) h = and_from _ _ (h x (inl refl)) (among-all p xs (λ y i. h y (inr i)))

-- ---- classes that are numbers of labels

pub declared-true : (n : ℕ) (es : List Element) → are_declared n es ≡ true → AllByRecursion (λ e. e.class < n) es
declared-true n [] h = tt
declared-true n (e ∷ es) h = let p = and_parts _ _ h in (ltb-true e.class n p.0, declared-true n es p.1)

pub declared-from : (n : ℕ) (es : List Element) → ((i : ℕ) → i < length es → (at es i).class < n) → are_declared n es
    ≡ true
declared-from n [] h = refl
declared-from n (e ∷ es) h = and_from _ _ (lt-ltb e.class n (h 0 (omega arith)))
    (declared-from n es (λ i l. h (suc i) (omega arith)))

-- what the test of a row says
pub record IsPlaced (n : ℕ) (ls : Labels) (e : Entry) : Type 0 where
  pub declared : HasClassesBelow n (tuple_at e.0 e.1)
  pub class : e.0.class ≡ class_number ls (tuple_at e.0 e.1)

pub placed-true : (n : ℕ) (ls : Labels) (e : Entry) → is_placed n ls e ≡ true → IsPlaced n ls e
placed-true n ls e h =
    let p = and_parts _ _ h in
    let q = and_parts _ _ p.0 in record {
      declared = record { key_class = ltb-true e.0.key_class n q.0; elements = declared-true n e.1 q.1 };
      class = eqb-true e.0.class (class_number ls (tuple_at e.0 e.1)) p.1;
    }

-- ---- the rows of a map

module _ (ls : Labels) (distinct : AreDistinct ls) (scheme : Scheme) (es : List Entry)
    (sorted : IsStrictlySortedBy place_cmp (keys_of es)) where
  abbrev T : Table
  T = table_of es

  abbrev found : Place → Option (List Element)
  found p = lookup (is_at (place_cmp p)) es

  abbrev passes : Entry → Bool
  passes = is_stored_row (length ls) ls scheme found

  found-get : (p : Place) → found p ≡ get T p
  found-get p = sym (find-lookup p es) ∙ sym (get-from_sorted place_cmp es p (so_from _ (sorted_keys es sorted)))

  -- where each passes the tests they are content
  module _ (pass : (e : Entry) → IsAmong e es → passes e ≡ true) where
    -- what the tests of a row say
    record Parts (p : Place) (xs : List Element) : Type 0 where
      placed : IsPlaced (length ls) ls (p, xs)
      alone : IsRightAlone ls scheme (tuple_at p xs)
      closed : (m : ℕ) → Occurs p xs m → agrees_with_found ls m xs (found (with_class p m)) ≡ true

    parts : (p : Place) (xs : List Element) → get T p ≡ Some xs → Parts p xs
    parts p xs g =
        let h = and_parts _ _ (pass (p, xs) ((in_table_of es sorted (p, xs)).1 g)) in
        let k = and_parts _ _ h.0 in record {
          placed = placed-true (length ls) ls (p, xs) k.0;
          alone = alone-true ls scheme (tuple_at p xs) k.1;
          closed = classes-each (λ m. agrees_with_found ls m xs (found (with_class p m))) (tuple_at p xs) h.1;
        }

    stored_row : (p : Place) (xs : List Element) → get T p ≡ Some xs → IsStoredTuple ls (length scheme.others) T p xs
    stored_row p xs g =
        let r = parts p xs g in
        let top = class_top ls (tuple_at p xs) r.alone.comparable in record {
          count = AllZip-long _ scheme.others xs r.alone.fits.others;
          declared = occurs_bound (length ls) (tuple_at p xs) r.placed.declared;
          above_key = λ m o.
              elim o [
                | inl e ↦ ap (below ls p.key_class) e ∙ below-refl ls p.key_class
                | inr e ↦ ap
                    (below ls p.key_class) e.2 ∙ r.alone.above e.0 e.1
              ];
          null_at_key = r.alone.nulls;
          comparable = r.alone.comparable;
          greatest = λ m o. subst (λ c. below ls m c ≡ true) (sym r.placed.class) (top.greatest m o);
          own = subst (Occurs p xs) (sym r.placed.class) top.own;
          closed = λ m o.
              let f = found-true ls m xs (found (with_class p m)) (r.closed m o) in
              (f.0, sym (found-get (with_class p m)) ∙ f.1, λ i l b. (f.2 i l b).1);
        }

    content_found : IsContent ls scheme T
    content_found = record {
      stored = stored_row;
      fits = λ p xs g. let f = (parts p xs g).alone.fits in record { key = f.key; others = f.others };
    }

  -- where they are content each passes the tests
  module _ (content : IsContent ls scheme T) (e : Entry) (i : IsAmong e es) where
    abbrev here : get T e.0 ≡ Some e.1
    here = (in_table_of es sorted e).0 i

    abbrev st : IsStoredTuple ls (length scheme.others) T e.0 e.1
    st = content.stored e.0 e.1 here

    placed_at : is_placed (length ls) ls e ≡ true
    placed_at =
        and_from _ _
        (and_from _ _ (lt-ltb e.0.key_class (length ls) (st.declared e.0.key_class (inl refl)))
        (declared-from (length ls) e.1 (λ k l. st.declared (at e.1 k).class (inr (k, l, refl)))))
        (eq-eqb e.0.class (class_number ls (tuple_at e.0 e.1))
        (sym (class_number-stored ls distinct (length scheme.others) T content.stored e.0.class
        (tuple_at e.0 e.1) here)))

    right_alone : is_right_alone ls scheme (tuple_at e.0 e.1) ≡ true
    right_alone =
        let f = content.fits e.0 e.1 here in
        alone-from ls scheme (tuple_at e.0 e.1) (record {
          above = λ k l. st.above_key (at e.1 k).class (inr (k, l, refl));
          nulls = st.null_at_key;
          fits = record { key = f.key; others = f.others };
          comparable = st.comparable;
        })

    closed_at : is_closed ls found e ≡ true
    closed_at = each-classes (λ m. agrees_with_found ls m e.1 (found (with_class e.0 m))) (tuple_at e.0 e.1) (λ m o.
        let cl = st.closed m o in
        let count : length e.1 ≡ length cl.0 = st.count ∙ sym (content.stored (with_class e.0 m) cl.0 cl.1).count in
        found-from ls m e.1 cl.0 (found (with_class e.0 m)) (found-get (with_class e.0 m) ∙ cl.1)
        (λ k l b. (subst (λ n. k < n) count l, cl.2 k l b)))

    passes_at : passes e ≡ true
    passes_at = and_from _ _ (and_from _ _ placed_at right_alone) closed_at

  -- so the tests tell
  pub content_told : (b : Bool) → b ≡ list_all passes es → IsTrue b ↔ IsContent ls scheme T
  content_told b h = (
    (λ t. content_found (λ e i. all-among passes es (sym h ∙ t) e i)),
    (λ c. h ∙ among-all passes es (passes_at c)),
  )
