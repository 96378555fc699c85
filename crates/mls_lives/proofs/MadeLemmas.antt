-- The event that a dump prints of a tuple makes it again, where what it is derived from is there and it is not.
use Rattle.std.proofs.Common.{◌≡◌, ℕ, zero, suc, ◌+◌, ◌<◌, Bool, true, false, cond, not, ◌&&◌, ◌||◌, List, [], ◌∷◌, length, map, Option, Some, None, is_some, is_none, unwrap_or, refl, sym, ap, ◌∙◌, subst, inl, inr, arith, nat_eq, nat_lt, eqb-true, eq-eqb, ne_eqb, lt-ltb, filter, filter_map, true≢false}
use Rattle.std.specs.List.{AllByRecursion, AllZip, list_any, list_all}
use Rattle.std.specs.FinMap.{get, insert}
use Rattle.std.proofs.lemmas.Bool.{cases_Bool}
use Rattle.mls_lattice.specs.Labels.{Labels, below, AreDistinct}
use Rattle.mls_lattice.proofs.LatticeLemmas.{below-antisym}
use Rattle.mls_scheme.specs.declared.value.Value.{Value}
use Rattle.mls_scheme.specs.declared.tuple.Element.{Element}
use Rattle.mls_scheme.specs.declared.tuple.Tuple.{Tuple}
use Rattle.mls_scheme.specs.declared.place.Place.{Place}
use Rattle.mls_scheme.specs.Tuple.{at, null_element}
use Rattle.mls_scheme.specs.Table.{Table, change, tuple_at}
use Rattle.mls_scheme.specs.Scheme.{Scheme, Attribute, no_attribute, other_of}
use Rattle.mls_scheme.specs.Value.{fits_kind}
use Rattle.mls_scheme.specs.Fits.{Fits, in_interval}
use Rattle.mls_filterview.specs.View.{IsAmong}
use Rattle.mls_filterview.specs.Stored.{IsContent, IsStoredTuple, Occurs, with_class}
use Rattle.mls_filterview.specs.Filtering.{class_number}
use Rattle.mls_filterview.proofs.AmongLemmas.{among_filter, filter_among, among_here}
use Rattle.mls_filterview.proofs.ClassLemmas.{IsTop, class_top}
use Rattle.mls_filterview.proofs.FilterLemmas.{class_number-stored}
use Rattle.mls_updates.specs.declared.outcome.Outcome.{Outcome}
use Rattle.mls_updates.specs.declared.outcome.Outcome.TheVariants.{Done}
use Rattle.mls_updates.specs.Writes.{Sets, Insert, Update, first_refusal, written, has_null, place, root, set_element, derived, root_refusals, below_refusals, own_refusals, update_in, outcome_of}
use Rattle.mls_updates.proofs.FittingLemmas.{zip_at}
use Rattle.mls_updates.proofs.SetLemmas.{length-derived, at-derived}
use Rattle.mls_translang.specs.declared.event.Command.{Command}
use Rattle.mls_translang.specs.declared.event.Command.TheVariants as commands
use Rattle.mls_certcheck.specs.Site.{Site, site_labels, site_scheme}
use Rattle.mls_machine.specs.Dumping.{own_sets, class_below, dump_command}
use Rattle.mls_lives.specs.Loading.{made_by}

-- ---- elements

-- the place of one
index_of : (es : List Element) (e : Element) → IsAmong e es → (i : ℕ) × (i < length es) × (at es i ≡ e)
index_of [] e h = absurd h
index_of (d ∷ es) e (inl q) = (zero, omega arith, sym q)
index_of (d ∷ es) e (inr h) = let r = index_of es e h in (suc r.0, (let l = r.1 in omega (arith, l)), r.2)

-- lists that are the same, place by place
same_at : (es fs : List Element) → length es ≡ length fs → ((i : ℕ) → i < length fs → at es i ≡ at fs i) → es ≡ fs
same_at [] [] n h = refl
same_at [] (f ∷ fs) n h = absurd (omega (arith, n))
same_at (e ∷ es) [] n h = absurd (omega (arith, n))
same_at (e ∷ es) (f ∷ fs) n h =
    let first = h zero (omega arith) in
    let rest = same_at es fs (omega (arith, n)) (λ i l. h (suc i) (omega (arith, l))) in
    λ k. first k ∷ rest k

each_at : (P : Element → Type 0) (es : List Element) → ((i : ℕ) → i < length es → P (at es i)) → AllByRecursion P es
each_at P [] h = tt
each_at P (e ∷ es) h = (h zero (omega arith), each_at P es (λ i l. h (suc i) (omega (arith, l))))

-- elements of one class are those of a root
root_same : (w : ℕ) (es : List Element) → AllByRecursion (λ e. e.class ≡ w) es → root w (map (λ e. e.value) es) ≡ es
root_same w [] h = refl
root_same w (e ∷ es) h =
    let rest = root_same w es h.1 in
    λ i. record { value = e.value; class = sym h.0 i } ∷ rest i

-- ---- keys

some_key : (key : List Value) → filter_map (λ (v : Option Value). v) (map Some key) ≡ key
some_key [] = refl
some_key (v ∷ key) = ap (λ l. v ∷ l) (some_key key)

no_null : (key : List Value) → has_null (map Some key) ≡ false
no_null [] = refl
no_null (v ∷ key) = no_null key

-- ---- intervals

all_zip : {A B : Type 0} (R : A → B → Type 0) (p : A → Bool) → ((a : A) (b : B) → R a b → p a ≡ true)
    → (xs : List A) (ys : List B) → AllZip R xs ys → list_all p xs ≡ true
all_zip R p k [] [] h = refl
all_zip R p k [] (y ∷ ys) h = absurd h
all_zip R p k (x ∷ xs) [] h = absurd h
all_zip R p k (x ∷ xs) (y ∷ ys) h = ap (λ b. b && list_all p xs) (k x y h.0) ∙ all_zip R p k xs ys h.1

-- ---- sets

-- the own values of elements, by their numbers from k on
sets_each : (Q : ℕ × Option Value → Type 0) (m n k : ℕ) (es : List Element) → ((j : ℕ) → j < length es → (at es j).class
    ≡ m → Q (j + k, (at es j).value)) → AllByRecursion Q (own_sets m n k es)
sets_each Q m n k [] h = tt
sets_each Q m n k (e ∷ es) h =
    let rest = sets_each Q m n (suc k) es (λ j l c. subst (λ i. Q (i, (at es j).value)) (further j)
    (h (suc j) (omega (arith, l)) c)) in
    elim (cases_Bool (nat_eq e.class m && nat_lt k n)) [
      | inl b ↦ subst (λ x. AllByRecursion Q (cond x ((k, e.value) ∷ own_sets m n (suc k) es)
          (own_sets m n (suc k) es))) (sym b) (
            subst (λ i. Q (i, e.value)) none_more (h zero (omega arith)
                (eqb-true e.class m (first_true (nat_eq e.class m) (nat_lt k n) b))),
            rest,
          )
      | inr b ↦ subst (λ x. AllByRecursion Q (cond x ((k, e.value) ∷ own_sets m n (suc k) es)
          (own_sets m n (suc k) es))) (sym b) rest
    ]
  where
    further : (j : ℕ) → suc j + k ≡ j + suc k
    further j = omega arith

    none_more : zero + k ≡ k
    none_more = omega arith

    first_true : (a b : Bool) → (a && b) ≡ true → a ≡ true
    first_true true b h = refl
    first_true false b h = h

-- what they set
module _ (m n : ℕ) where
  -- none of them has a lower number
  set_past : (k : ℕ) (es : List Element) (i : ℕ) (x : Element) → i < k → set_element m (own_sets m n k es) i x ≡ x
  set_past k [] i x l = refl
  set_past k (e ∷ es) i x l =
      let rest = set_past (suc k) es i x (omega (arith, l)) in
      elim (nat_eq e.class m && nat_lt k n) as (λ b. set_element m (cond b ((k, e.value) ∷ own_sets m n (suc k) es)
      (own_sets m n (suc k) es)) i x ≡ x) [
        | true ↦ ap (λ b. cond b (record { value = e.value; class = m }) (set_element m (own_sets m n (suc k) es) i x))
            (ne_eqb k i (λ q. omega (arith, l, q))) ∙ rest
        | false ↦ rest
      ]

  set_own : (k : ℕ) (es : List Element) (i : ℕ) (x : Element) → i < length es → i + k < n
      → set_element m (own_sets m n k es) (i + k) x ≡ cond (nat_eq (at es i).class m) (record {
        value = (at es i).value;
        class = m;
      }) x
  set_own k [] i x l h = absurd (omega (arith, l))
  set_own k (e ∷ es) zero x l h =
      let none_more : zero + k ≡ k = omega arith in
      let within : nat_lt k n ≡ true = lt-ltb k n (omega (arith, h)) in
      ap (λ j. set_element m (own_sets m n k (e ∷ es)) j x) none_more
      ∙ elim (cases_Bool (nat_eq e.class m)) [
        | inl b ↦
            ap (λ c. set_element m (cond c ((k, e.value) ∷ own_sets m n (suc k) es) (own_sets m n (suc k) es)) k x)
            (λ i. b i && within i)
            ∙ ap (λ c. cond c (record { value = e.value; class = m }) (set_element m (own_sets m n (suc k) es) k x))
            (eq-eqb k k refl)
            ∙ sym (ap (λ c. cond c (record { value = e.value; class = m }) x) b)
        | inr b ↦
            ap (λ c. set_element m (cond (c && nat_lt k n) ((k, e.value) ∷ own_sets m n (suc k) es)
            (own_sets m n (suc k) es)) k x) b
            ∙ set_past (suc k) es k x (omega arith)
            ∙ sym (ap (λ c. cond c (record { value = e.value; class = m }) x) b)
      ]
  set_own k (e ∷ es) (suc i) x l h =
      let further : i + suc k ≡ suc i + k = omega arith in
      let rest = subst (λ j. set_element m (own_sets m n (suc k) es) j x ≡ cond (nat_eq (at es i).class m)
      (record { value = (at es i).value; class = m }) x) further
      (set_own (suc k) es i x (omega (arith, l)) (omega (arith, h))) in
      elim (nat_eq e.class m && nat_lt k n)
      as (λ b. set_element m (cond b ((k, e.value) ∷ own_sets m n (suc k) es) (own_sets m n (suc k) es)) (suc i + k) x
      ≡ cond (nat_eq (at es i).class m) (record { value = (at es i).value; class = m }) x) [
        | true ↦ ap (λ b. cond b (record { value = e.value; class = m }) (set_element m (own_sets m n (suc k) es)
            (suc i + k) x)) (ne_eqb k (suc i + k) (λ q. omega (arith, q))) ∙ rest
        | false ↦ rest
      ]

-- ---- refusals

first_done : (rs : List (Bool × Outcome)) → AllByRecursion (λ r. r.0 ≡ false) rs → first_refusal rs ≡ Done
unfolding first_refusal
first_done [] h = refl
first_done (r ∷ rs) h = ap (λ b. cond b r.1 (first_refusal rs)) h.0 ∙ first_done rs h.1

none_so : {A : Type 0} (p : A → Bool) (xs : List A) → AllByRecursion (λ x. p x ≡ false) xs → list_any p xs ≡ false
none_so p [] h = refl
none_so p (x ∷ xs) h = ap (λ b. b || list_any p xs) h.0 ∙ none_so p xs h.1

-- ---- one tuple

module _ (site : Site) (distinct : AreDistinct (site_labels site)) (relation : ℕ) (T : Table)
    (content : IsContent (site_labels site) (site_scheme site relation) T)
    (p : Place) (es : List Element) (held : get T p ≡ Some es) where
  abbrev ls : Labels
  ls = site_labels site

  abbrev scheme : Scheme
  scheme = site_scheme site relation

  abbrev n : ℕ
  n = length scheme.others

  st : IsStoredTuple ls n T p es
  st = content.stored p es held

  fits : Fits ls scheme p es
  fits = content.fits p es held

  pub number : class_number ls (tuple_at p es) ≡ p.class
  number = class_number-stored ls distinct n T content.stored p.class (tuple_at p es) held

  abbrev Made : Table → ℕ → Command → Type 0
  Made U w command = made_by site w command U ≡ record { table = insert U p es; outcome = Done }

  key_place : (k m : ℕ) → place (map Some p.key) k m ≡ record { key = p.key; key_class = k; class = m }
  key_place k m = λ i. record { key = some_key p.key i; key_class = k; class = m }

  done_as : (U V : Table) (o : Outcome) (W : Table) → o ≡ Done → V ≡ W → written o V U ≡ record {
    table = W;
    outcome =
        Done;
  }
  done_as U V o W done same = ap (λ x. written x V U) done ∙ (λ i. record { table = same i; outcome = Done })

  -- ---- a root

  module _ (root_is : p.class ≡ p.key_class) where
    all_own : (i : ℕ) → i < length es → (at es i).class ≡ p.class
    all_own i l =
        let o : Occurs p es (at es i).class = inr (i, l, refl) in
        below-antisym ls distinct (at es i).class p.class (st.declared _ o) (st.declared _ st.own) (st.greatest _ o)
        (subst (λ k. below ls k (at es i).class ≡ true) (sym root_is) (st.above_key _ o))

    keys_inside : list_all (in_interval ls p.class) scheme.keys ≡ true
    keys_inside = all_zip _ (in_interval ls p.class) (λ a v h. ap (λ k. in_interval ls k a) root_is
        ∙ h.1) scheme.keys p.key fits.key

    others_inside : list_all (in_interval ls p.class) scheme.others ≡ true
    others_inside = by_element scheme.others es fits.others (each_at (λ e. e.class ≡ p.class) es all_own)
      where
        by_element : (columns : List Attribute) (xs : List Element) → AllZip (λ a e. (fits_kind e.value a.1.kind ≡ true)
            × (in_interval ls e.class a ≡ true)) columns xs → AllByRecursion (λ e. e.class ≡ p.class) xs
            → list_all (in_interval ls p.class) columns ≡ true
        by_element [] [] h k = refl
        by_element [] (x ∷ xs) h k = absurd h
        by_element (a ∷ columns) [] h k = absurd h
        by_element (a ∷ columns) (x ∷ xs) h k = ap (λ b. b && list_all (in_interval ls p.class) columns)
            (ap (λ c. in_interval ls c a) (sym k.0) ∙ h.0.1) ∙ by_element columns xs h.1 k.1

    here : place (map Some p.key) p.class p.class ≡ p
    here = key_place p.class p.class ∙ (λ i. record { key = p.key; key_class = root_is i; class = p.class })

    made_root : (U : Table) → get U p ≡ None → Made U p.class
        (commands.Write relation (Insert (map Some p.key) (map (λ e. e.value) es)))
    made_root U free =
        let inside : not (list_all (in_interval ls p.class) scheme.keys
        && list_all (in_interval ls p.class) scheme.others) ≡ false = λ i. not (keys_inside i && others_inside i) in
        done_as U (insert U (place (map Some p.key) p.class p.class) (root p.class (map (λ e. e.value) es)))
        (outcome_of (map Some p.key) (root_refusals ls scheme p.class (get U (place (map Some p.key) p.class p.class))))
        (insert U p es)
        (first_done _ (no_null p.key, (ap (λ q. is_some (get U q)) here ∙ ap is_some free, (inside, tt))))
        (λ i. insert U (here i) (root_same p.class es (each_at (λ e. e.class ≡ p.class) es all_own) i))

  -- ---- a tuple that is derived

  module _ (ne : p.class ≡ p.key_class → ⊥) where
    abbrev is_other : Element → Bool
    is_other e = not (nat_eq e.class p.class)

    abbrev others : List Element
    others = filter is_other es

    abbrev lower : Tuple
    lower = record { key = p.key; key_class = p.key_class; elements = others }

    abbrev pub from : ℕ
    from = class_below ls p.class (tuple_at p es)

    other_occurs : (i : ℕ) → i < length others → Occurs p es (at others i).class × ((at others i).class ≡ p.class → ⊥)
    other_occurs i l =
        let r = among_filter is_other es (at others i) (among_here others i null_element l) in
        let x = index_of es (at others i) r.0 in (
          inr (x.0, x.1, ap (λ e. e.class) (sym x.2)),
          λ q. true≢false (sym r.1 ∙ ap not (eq-eqb (at others i).class p.class q)),
        )

    occurs_other : (a : ℕ) → Occurs p others a → Occurs p es a × (a ≡ p.class → ⊥)
    occurs_other a (inl q) = (inl q, λ e. ne (sym e ∙ q))
    occurs_other a (inr o) = let r = other_occurs o.0 o.1 in (subst (Occurs p es) (sym o.2) r.0, λ e. r.1 (sym o.2 ∙ e))

    top : IsTop ls p.key_class others from
    unfolding class_number
    top = class_top ls lower (λ a b x y. st.comparable a b (occurs_other a x).0 (occurs_other b y).0)

    pub from_occurs : Occurs p es from
    from_occurs = (occurs_other from top.own).0

    pub from_other : from ≡ p.class → ⊥
    from_other = (occurs_other from top.own).1

    other_below : (i : ℕ) → i < length es → ((at es i).class ≡ p.class → ⊥) → below ls (at es i).class from ≡ true
    other_below i l q =
        let x = index_of others (at es i) (filter_among is_other es (at es i) (among_here es i null_element l)
        (ap not (ne_eqb (at es i).class p.class q))) in
        top.greatest (at es i).class (inr (x.0, x.1, ap (λ e. e.class) (sym x.2)))

    abbrev sets : Sets
    sets = own_sets p.class n 0 es

    there : (k : ℕ) → place (map Some p.key) p.key_class k ≡ with_class p k
    there k = key_place p.key_class k

    module _ (U : Table) (free : get U p ≡ None) (fs : List Element) (found : get U (with_class p from) ≡ Some fs)
        (long : length fs ≡ n)
        (agrees : (i : ℕ) → i < length es → below ls (at es i).class from ≡ true → at fs i ≡ at es i) where
      set_at : (i : ℕ) → i < length es → at (derived p.class sets fs) i ≡ at es i
      set_at i l =
          let zero_more : i + 0 ≡ i = omega arith in
          let count = st.count in
          let inside : i < length fs = omega (arith, l, count, long) in
          at-derived p.class sets fs i inside
          ∙ ap (λ j. set_element p.class sets j (at fs i)) (sym zero_more)
          ∙ set_own p.class n 0 es i (at fs i) l (omega (arith, l, count))
          ∙ elim (cases_Bool (nat_eq (at es i).class p.class)) [
            | inl b ↦ ap (λ c. cond c (record { value = (at es i).value; class = p.class }) (at fs i)) b
                ∙ (λ k. record { value = (at es i).value; class = sym (eqb-true (at es i).class p.class b) k })
            | inr b ↦ ap (λ c. cond c (record { value = (at es i).value; class = p.class }) (at fs i)) b ∙ agrees i l
                (other_below i l (λ q. true≢false (sym (eq-eqb (at es i).class p.class q) ∙ b)))
          ]

      same_elements : derived p.class sets fs ≡ es
      same_elements = same_at (derived p.class sets fs) es (length-derived p.class sets fs ∙ long ∙ sym st.count) set_at

      no_nulls : list_any (λ (s : ℕ × Option Value). is_none s.1) sets ≡ false
      no_nulls =
          none_so (λ (s : ℕ × Option Value). is_none s.1) sets
          (sets_each (λ s. is_none s.1 ≡ false) p.class n 0 es (λ j l own. not_null (at es j).value
          (λ null. ne (sym own ∙ st.null_at_key j l null))))
        where
          not_null : (v : Option Value) → (v ≡ None → ⊥) → is_none v ≡ false
          not_null None h = absurd (h refl)
          not_null (Some v) h = refl

      all_inside : list_any (λ (s : ℕ × Option Value). not (in_interval ls p.class (other_of scheme s.0))) sets ≡ false
      all_inside =
          none_so (λ (s : ℕ × Option Value). not (in_interval ls p.class (other_of scheme s.0))) sets
          (sets_each (λ s. not (in_interval ls p.class (other_of scheme s.0)) ≡ false) p.class n 0 es (λ j l own.
          let zero_more : j + 0 ≡ j = omega arith in
          let count = st.count in
          let fit = zip_at _ no_attribute null_element scheme.others es fits.others j (omega (arith, l, count)) in
          ap (λ i. not (in_interval ls p.class (other_of scheme i))) zero_more
          ∙ ap (λ k. not (in_interval ls k (other_of scheme j))) (sym own) ∙ ap not fit.1))

      missing : not (is_some (get U (place (map Some p.key) p.key_class from)) && (below ls p.key_class from
          && below ls from p.class)) ≡ false
      missing =
          let there_is : is_some (get U (place (map Some p.key) p.key_class from)) ≡ true = ap (λ q. is_some (get U q))
          (there from) ∙ ap is_some found in
          λ i. not (there_is i && (st.above_key from from_occurs i && st.greatest from from_occurs i))

      refuses_none : outcome_of (map Some p.key)
          (cond (nat_eq from p.class) (own_refusals ls scheme p.class p.key_class sets
          (get U (place (map Some p.key) p.key_class p.class)))
          (below_refusals ls scheme p.class p.key_class from sets (get U (place (map Some p.key) p.key_class from))
          (get U (place (map Some p.key) p.key_class p.class)))) ≡ Done
      refuses_none =
          ap (λ b. outcome_of (map Some p.key)
          (cond b (own_refusals ls scheme p.class p.key_class sets (get U (place (map Some p.key) p.key_class p.class)))
          (below_refusals ls scheme p.class p.key_class from sets (get U (place (map Some p.key) p.key_class from))
          (get U (place (map Some p.key) p.key_class p.class)))))
          (ne_eqb from p.class from_other)
          ∙ first_done _ (
            no_null p.key,
            (
              missing,
              (
                ap (λ q. is_some (get U q)) (there p.class) ∙ ap is_some free,
                (no_nulls, (all_inside, tt)),
              ),
            ),
          )

      made_derived : Made U p.class (commands.Write relation (Update (map Some p.key) p.key_class from sets))
      made_derived =
          let lower_is : unwrap_or (get U (place (map Some p.key) p.key_class from)) [] ≡ fs =
          ap (λ q. unwrap_or (get U q) []) (there from) ∙ ap (λ o. unwrap_or o []) found in
          done_as U
          (cond (nat_eq from p.class) (change (update_in (place (map Some p.key) p.key_class p.class) sets) U)
          (insert U (place (map Some p.key) p.key_class p.class)
          (derived p.class sets (unwrap_or (get U (place (map Some p.key) p.key_class from)) []))))
          (outcome_of (map Some p.key)
          (cond (nat_eq from p.class) (own_refusals ls scheme p.class p.key_class sets
          (get U (place (map Some p.key) p.key_class p.class)))
          (below_refusals ls scheme p.class p.key_class from sets (get U (place (map Some p.key) p.key_class from))
          (get U (place (map Some p.key) p.key_class p.class)))))
          (insert U p es) refuses_none
          (ap (λ b. cond b (change (update_in (place (map Some p.key) p.key_class p.class) sets) U)
          (insert U (place (map Some p.key) p.key_class p.class)
          (derived p.class sets (unwrap_or (get U (place (map Some p.key) p.key_class from)) []))))
          (ne_eqb from p.class from_other)
          ∙ (λ i. insert U (there p.class i) (derived p.class sets (lower_is i)))
          ∙ ap (insert U p) same_elements)

  -- ---- either

  -- what it is derived from is there as it is in T
  abbrev pub HasLower : Table → Type 0
  HasLower U = (k : ℕ) → Occurs p es k → (k ≡ p.class → ⊥) → get U (with_class p k) ≡ get T (with_class p k)

  pub made : (U : Table) → get U p ≡ None → HasLower U
      → Made U p.class (dump_command site relation p.class (tuple_at p es))
  made U free lower_there =
      elim (cases_Bool (nat_eq p.class p.key_class)) [
        | inl b ↦ subst (λ x. Made U p.class (cond x
            (commands.Write relation (Insert (map Some p.key) (map (λ e. e.value) es)))
            (commands.Write relation (Update (map Some p.key) p.key_class (class_below ls p.class (tuple_at p es))
            (own_sets p.class n 0 es))))) (sym b)
            (made_root (eqb-true p.class p.key_class b) U free)
        | inr b ↦
            let ne : p.class ≡ p.key_class → ⊥ = λ q. true≢false (sym (eq-eqb p.class p.key_class q) ∙ b) in
            let lower_is = st.closed (from ne) (from_occurs ne) in
            subst (λ x. Made U p.class (cond x (commands.Write relation
            (Insert (map Some p.key) (map (λ e. e.value) es)))
            (commands.Write relation (Update (map Some p.key) p.key_class (class_below ls p.class (tuple_at p es))
            (own_sets p.class n 0 es))))) (sym b)
            (made_derived ne U free lower_is.0 (lower_there (from ne) (from_occurs ne) (from_other ne) ∙ lower_is.1)
            (content.stored (with_class p (from ne)) lower_is.0 lower_is.1).count lower_is.2)
      ]
