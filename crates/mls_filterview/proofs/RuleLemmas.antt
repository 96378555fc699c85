-- The tests of a row tell whether it keeps the rules.
use Rattle.std.proofs.Common.{◌≡◌, ℕ, zero, suc, ◌<◌, Bool, true, false, not, ◌&&◌, ◌||◌, cond, List, [], ◌∷◌, length, take, Option, Some, None, refl, sym, ap, ◌∙◌, subst, arith, inl, inr, ◌⊎◌, is_some, nat_eq, slice_index_or, true≢false, eqb-true, eq-eqb}
use Rattle.std.specs.List.{list_all, list_any, AllZip}
use Rattle.std.proofs.lemmas.Bool.{false≢true, and_parts, and_from, or_cases, cases_Bool, not-true, not_from_false, false_from_ne_true, or_right}
use Rattle.std.proofs.lemmas.Option.{same_Some, none-some}
use Rattle.mls_lattice.specs.Lattice.{same_pair}
use Rattle.mls_lattice.specs.Labels.{Labels, label_of, below}
use Rattle.mls_lattice.proofs.LatticeLemmas.{same_pair-refl, same_pair-same}
use Rattle.mls_scheme.specs.declared.value.Value.{Value}
use Rattle.mls_scheme.specs.declared.tuple.Element.{Element}
use Rattle.mls_scheme.specs.declared.tuple.Tuple.{Tuple}
use Rattle.mls_scheme.specs.Tuple.{at, null_element, tuple_class}
use Rattle.mls_scheme.specs.Value.{is_kind, fits_kind}
use Rattle.mls_scheme.specs.Table.{place_of}
use Rattle.mls_scheme.specs.Scheme.{Scheme}
use Rattle.mls_scheme.specs.Fits.{Fits, in_interval}
use Rattle.mls_filterview.specs.declared.rule.Rule.{Rule}
use Rattle.mls_filterview.specs.declared.rule.Rule.TheVariants.{Entity, Null, Interval, Poly, Closure}
use Rattle.mls_filterview.specs.Subsumption.{same_element}
use Rattle.mls_filterview.specs.View.{IsAmong}
use Rattle.mls_filterview.specs.Rules.{row_at, OccursIn, AreOfOneEntity, IsOfClass, IsFirstOfClass, HasBelow, IsDetermined, IsClosed, Keeps, rank}
use Rattle.mls_filterview.specs.Checking.{all_classes, is_above_key, has_nulls_at_key, fits_value, fits_element, all_zip, fits_scheme, has_same_class, is_of_class, has_below, agrees_with_first, is_determined, is_comparable, is_chain, has_each_class, broken_rule}
use Rattle.mls_filterview.proofs.AmongLemmas.{none_of, all_none}
use Rattle.mls_filterview.proofs.SubsumptionLemmas.{same_element-true, same_element-from}
use Rattle.mls_filterview.proofs.EntityTests.{entity_decides}

-- ---- lists

pub all-each : {A : Type 0} (p : A → Bool) (d : A) (xs : List A) → list_all p xs ≡ true → (k : ℕ) → k < length xs
    → p (slice_index_or xs k d) ≡ true
all-each p d [] h k l = absurd (omega arith)
all-each p d (x ∷ xs) h zero l = (and_parts _ _ h).0
all-each p d (x ∷ xs) h (suc k) l = all-each p d xs (and_parts _ _ h).1 k (omega arith)

pub each-all : {A : Type 0} (p : A → Bool) (d : A) (xs : List A) → ((k : ℕ) → k < length xs → p (slice_index_or xs k d)
    ≡ true) → list_all p xs ≡ true
each-all p d [] h = refl
each-all p d (x ∷ xs) h = and_from _ _ (h 0 (omega arith)) (each-all p d xs (λ k l. h (suc k) (omega arith)))

any-among : {A : Type 0} (p : A → Bool) (xs : List A) → list_any p xs ≡ true → (x : A) × IsAmong x xs × (p x ≡ true)
any-among p [] h = absurd (false≢true h)
any-among p (x ∷ xs) h = elim (or_cases _ _ h) [
  | inl e ↦ (x, inl refl, e)
  | inr e ↦ (let r = any-among p xs e
      in (r.0, inr r.1, r.2))
]

among-any : {A : Type 0} (p : A → Bool) (xs : List A) (x : A) → IsAmong x xs → p x ≡ true → list_any p xs ≡ true
among-any p xs x i h =
    elim (cases_Bool (list_any p xs)) [ inl e ↦ e | inr e ↦ absurd (true≢false (sym h ∙ none_of p xs e x i)) ]

-- ---- rows by number

pub row-among : (ts : List Tuple) (i : ℕ) → i < length ts → IsAmong (row_at ts i) ts
row-among [] i l = absurd (omega arith)
row-among (t ∷ ts) zero l = inl refl
row-among (t ∷ ts) (suc i) l = inr (row-among ts i (omega arith))

pub among-row : (ts : List Tuple) (t : Tuple) → IsAmong t ts → (i : ℕ) × (i < length ts) × (t ≡ row_at ts i)
among-row [] t h = absurd h
among-row (s ∷ ts) t (inl e) = (0, omega arith, e)
among-row (s ∷ ts) t (inr h) = let r = among-row ts t h in (suc r.0, (let l = r.1 in omega arith), r.2)

before-among : (ts : List Tuple) (i j : ℕ) → j < i → i < length ts → IsAmong (row_at ts j) (take i ts)
before-among [] i j l k = absurd (omega arith)
before-among (t ∷ ts) zero j l k = absurd (omega arith)
before-among (t ∷ ts) (suc i) zero l k = inl refl
before-among (t ∷ ts) (suc i) (suc j) l k = inr (before-among ts i j (omega arith) (omega arith))

among-before : (ts : List Tuple) (i : ℕ) (t : Tuple) → IsAmong t (take i ts) → (j : ℕ) × (j < i) × (t ≡ row_at ts j)
among-before [] zero t h = absurd h
among-before [] (suc i) t h = absurd h
among-before (s ∷ ts) zero t h = absurd h
among-before (s ∷ ts) (suc i) t (inl e) = (0, omega arith, e)
among-before (s ∷ ts) (suc i) t (inr h) = let r = among-before ts i t h in (suc r.0, (let l = r.1 in omega arith), r.2)

-- ---- the classes of a tuple

pub classes-each : (p : ℕ → Bool) (t : Tuple) → all_classes p t ≡ true → (m : ℕ) → OccursIn t m → p m ≡ true
classes-each p t h m (inl e) = ap p e ∙ (and_parts _ _ h).0
classes-each p t h m (inr o) = ap p o.2 ∙ all-each (λ e. p e.class) null_element t.elements (and_parts _ _ h).1 o.0 o.1

pub each-classes : (p : ℕ → Bool) (t : Tuple) → ((m : ℕ) → OccursIn t m → p m ≡ true) → all_classes p t ≡ true
each-classes p t h = and_from _ _ (h t.key_class (inl refl)) (each-all (λ e. p e.class) null_element t.elements
    (λ k l. h (at t.elements k).class (inr (k, l, refl))))

-- ---- nulls

pub null-true : (v : Option Value) (c k : ℕ) → (is_some v || nat_eq c k) ≡ true → v ≡ None → c ≡ k
null-true v c k h e = elim (or_cases _ _ h) [
  | inl s ↦ absurd
      (false≢true (sym (ap is_some e) ∙ s))
  | inr s ↦ eqb-true c k s
]

pub null-from : (v : Option Value) (c k : ℕ) → (v ≡ None → c ≡ k) → (is_some v || nat_eq c k) ≡ true
null-from (Some v) c k h = refl
null-from None c k h = eq-eqb c k (h refl)

-- ---- intervals

zip-true : {A B : Type 0} (p : A → B → Bool) (P : A → B → Type 0) → ((a : A) (b : B) → p a b ≡ true → P a b)
    → (xs : List A) (ys : List B) → all_zip p xs ys ≡ true → AllZip P xs ys
zip-true p P f [] [] h = tt
zip-true p P f [] (y ∷ ys) h = absurd (false≢true h)
zip-true p P f (x ∷ xs) [] h = absurd (false≢true h)
zip-true p P f (x ∷ xs) (y ∷ ys) h = let r = and_parts _ _ h in (f x y r.0, zip-true p P f xs ys r.1)

zip-from : {A B : Type 0} (p : A → B → Bool) (P : A → B → Type 0) → ((a : A) (b : B) → P a b → p a b ≡ true)
    → (xs : List A) (ys : List B) → AllZip P xs ys → all_zip p xs ys ≡ true
zip-from p P f [] [] h = refl
zip-from p P f [] (y ∷ ys) h = absurd h
zip-from p P f (x ∷ xs) [] h = absurd h
zip-from p P f (x ∷ xs) (y ∷ ys) h = and_from _ _ (f x y h.0) (zip-from p P f xs ys h.1)

module _ (ls : Labels) (scheme : Scheme) (t : Tuple) where
  pub fits-true : fits_scheme ls scheme t ≡ true → Fits ls scheme (place_of 0 t) t.elements
  fits-true h = record {
    key = zip-true (fits_value ls t.key_class) (λ a v. (is_kind v a.1.kind ≡ true) × (in_interval ls t.key_class a
        ≡ true)) (λ a v b. and_parts _ _ b) scheme.keys t.key (and_parts _ _ h).0;
    others = zip-true (fits_element ls) (λ a e. (fits_kind e.value a.1.kind ≡ true) × (in_interval ls e.class a ≡ true))
        (λ a e b. and_parts _ _ b) scheme.others t.elements (and_parts _ _ h).1;
  }

  pub fits-from : Fits ls scheme (place_of 0 t) t.elements → fits_scheme ls scheme t ≡ true
  fits-from f =
      and_from _ _ (zip-from (fits_value ls t.key_class) (λ a v. (is_kind v a.1.kind ≡ true)
      × (in_interval ls t.key_class a ≡ true)) (λ a v b. and_from _ _ b.0 b.1) scheme.keys t.key f.key)
      (zip-from (fits_element ls) (λ a e. (fits_kind e.value a.1.kind ≡ true) × (in_interval ls e.class a ≡ true))
      (λ a e b. and_from _ _ b.0 b.1) scheme.others t.elements f.others)

-- ---- agreement with the first tuple of a class

module _ (ls : Labels) where
  of_class-true : (s t : Tuple) (m : ℕ) → is_of_class ls t m s ≡ true → IsOfClass ls s t m
  of_class-true s t m h = let r = and_parts _ _ h in (
    (entity_decides (place_of 0 s) (place_of 0 t)).0 r.0,
    same_pair-same (tuple_class ls s) (label_of ls m) r.1,
  )

  of_class-from : (s t : Tuple) (m : ℕ) → IsOfClass ls s t m → is_of_class ls t m s ≡ true
  of_class-from s t m h =
      and_from _ _ ((entity_decides (place_of 0 s) (place_of 0 t)).1 h.0) (ap (same_pair (tuple_class ls s)) (sym h.1)
      ∙ same_pair-refl (tuple_class ls s))

  same_class-true : (s t : Tuple) → has_same_class ls t s ≡ true → AreOfOneEntity s t
      × (tuple_class ls s ≡ tuple_class ls t)
  same_class-true s t h = let r = and_parts _ _ h in (
    (entity_decides (place_of 0 s) (place_of 0 t)).0 r.0,
    same_pair-same (tuple_class ls s) (tuple_class ls t) r.1,
  )

  same_class-from : (s t : Tuple) → AreOfOneEntity s t → tuple_class ls s ≡ tuple_class ls t → has_same_class ls t s
      ≡ true
  same_class-from s t h e = and_from _ _ ((entity_decides (place_of 0 s) (place_of 0 t)).1 h)
      (ap (same_pair (tuple_class ls s)) (sym e) ∙ same_pair-refl (tuple_class ls s))

  not-below : (a m : ℕ) (b : Bool) → below ls a m ≡ true → (not (below ls a m) || b) ≡ true → b ≡ true
  not-below a m b h k = ap (λ x. not x || b) (sym h) ∙ k

  no_room : {i : ℕ} → i < 0 → ⊥
  no_room h = omega arith

  one_up : (i n : ℕ) → i < n → suc i < suc n
  one_up i n h = omega arith

  one_down : (i n : ℕ) → suc i < suc n → i < n
  one_down i n h = omega arith

  pub below-true : (m : ℕ) (es fs : List Element) → has_below ls m es fs ≡ true → HasBelow ls m es fs
  below-true m [] fs h i l b = absurd (omega arith)
  below-true m (e ∷ es) [] h zero l b = absurd (false≢true (not-below e.class m false b (and_parts _ _ h).0))
  below-true m (e ∷ es) [] h (suc i) l b = absurd (no_room (below-true m es [] (and_parts _ _ h).1 i (omega arith) b).0)
  below-true m (e ∷ es) (f ∷ fs) h zero l b =
      (omega arith, sym (same_element-true e f (not-below e.class m (same_element e f) b (and_parts _ _ h).0)))
  below-true m (e ∷ es) (f ∷ fs) h (suc i) l b = let r = below-true m es fs (and_parts _ _ h).1 i (omega arith) b
      in (one_up i (length fs) r.0, r.1)

  implied : (a b : Bool) → (a ≡ true → b ≡ true) → (not a || b) ≡ true
  implied true b h = h refl
  implied false b h = refl

  pub below-from : (m : ℕ) (es fs : List Element) → HasBelow ls m es fs → has_below ls m es fs ≡ true
  below-from m [] fs h = refl
  below-from m (e ∷ es) [] h =
      and_from _ _ (implied (below ls e.class m) false (λ b. absurd (no_room (h 0 (omega arith) b).0)))
      (below-from m es [] (λ i l b. absurd (no_room (h (suc i) (omega arith) b).0)))
  below-from m (e ∷ es) (f ∷ fs) h =
      and_from _ _ (implied (below ls e.class m) (same_element e f) (λ b. same_element-from e f
      (sym (h 0 (omega arith) b).1)))
      (below-from m es fs (λ i l b. let r = h (suc i) (omega arith) b in (one_down i (length fs) r.0, r.1)))

  module _ (t : Tuple) (m : ℕ) where
    -- the first one behind a row that is not of the class
    behind : (s : Tuple) (ss : List Tuple) (j : ℕ) → IsFirstOfClass ls (s ∷ ss) t m (suc j) → IsFirstOfClass ls ss t m j
    behind s ss j f = record {
      within = (let l = f.within in omega arith);
      here = f.here;
      none_before = λ k l h. f.none_before (suc k) (omega arith) h;
    }

    further : (s : Tuple) (ss : List Tuple) (j : ℕ) → is_of_class ls t m s ≡ false → IsFirstOfClass ls ss t m j
        → IsFirstOfClass ls (s ∷ ss) t m (suc j)
    further s ss j n f = record { within = (let l = f.within in omega arith); here = f.here; none_before = none }
      where
        none : (k : ℕ) → k < suc j → IsOfClass ls (row_at (s ∷ ss) k) t m → ⊥
        none zero l h = true≢false (sym (of_class-from s t m h) ∙ n)
        none (suc k) l h = f.none_before k (omega arith) h

    first-true : (ts : List Tuple) → agrees_with_first ls t m ts ≡ true → (j : ℕ) → IsFirstOfClass ls ts t m j
        → HasBelow ls m t.elements (row_at ts j).elements
    first-true [] h j f = absurd (let l = f.within in omega arith)
    first-true (s ∷ ss) h j f =
        elim (is_of_class ls t m s) as (λ b. is_of_class ls t m s ≡ b → cond b (has_below ls m t.elements s.elements)
        (agrees_with_first ls t m ss) ≡ true → HasBelow ls m t.elements (row_at (s ∷ ss) j).elements) [
          | true ↦ λ e k. at_head j f e k
          | false ↦ λ e k. in_tail j f e (λ i g. first-true ss k i g)
        ] refl h
      where
        at_head : (j : ℕ) → IsFirstOfClass ls (s ∷ ss) t m j → is_of_class ls t m s ≡ true
            → has_below ls m t.elements s.elements ≡ true → HasBelow ls m t.elements (row_at (s ∷ ss) j).elements
        at_head zero f e k = below-true m t.elements s.elements k
        at_head (suc j) f e k = absurd (f.none_before 0 (omega arith) (of_class-true s t m e))

        in_tail : (j : ℕ) → IsFirstOfClass ls (s ∷ ss) t m j → is_of_class ls t m s ≡ false
            → ((i : ℕ) → IsFirstOfClass ls ss t m i → HasBelow ls m t.elements (row_at ss i).elements)
            → HasBelow ls m t.elements (row_at (s ∷ ss) j).elements
        in_tail zero f e k = absurd (true≢false (sym (of_class-from s t m f.here) ∙ e))
        in_tail (suc j) f e k = k j (behind s ss j f)

    first-from : (ts : List Tuple) → ((j : ℕ) → IsFirstOfClass ls ts t m j
        → HasBelow ls m t.elements (row_at ts j).elements) → agrees_with_first ls t m ts ≡ true
    first-from [] h = refl
    first-from (s ∷ ss) h =
        elim (is_of_class ls t m s) as (λ b. is_of_class ls t m s ≡ b → cond b (has_below ls m t.elements s.elements)
        (agrees_with_first ls t m ss) ≡ true) [
          | true ↦ λ e. below-from m t.elements s.elements
              (h 0 (record {
                within = omega arith;
                here = of_class-true s t m e;
                none_before =
                    λ k l n. absurd (omega arith);
              }))
          | false ↦ λ e. first-from ss (λ j f. h (suc j) (further s ss j e f))
        ] refl

  -- ---- the rules on other rows

  module _ (ts : List Tuple) (i : ℕ) (l : i < length ts) where
    abbrev t : Tuple
    t = row_at ts i

    determined-true : is_determined ls ts i ≡ true → IsDetermined ls ts i
    determined-true h =
        let r = and_parts _ _ h in record {
          alone = λ j k e c. true≢false (sym (same_class-from (row_at ts j) t e c) ∙ none_of (has_same_class ls t)
              (take i ts) (not-true _ r.0) (row_at ts j) (before-among ts i j k l));
          agrees = λ m j o f. first-true t m ts (classes-each (λ m. agrees_with_first ls t m ts) t r.1 m o) j f;
        }

    determined-from : IsDetermined ls ts i → is_determined ls ts i ≡ true
    determined-from d =
        and_from _ _ (not_from_false _ (all_none (has_same_class ls t) (take i ts) (λ s a. false_from_ne_true _ (λ e.
        let r = among-before ts i s a in
        let w = same_class-true s t e in
        d.alone r.0 r.1 (subst (λ x. AreOfOneEntity x t) r.2 w.0) (ap (tuple_class ls) (sym r.2) ∙ w.1)))))
        (each-classes (λ m. agrees_with_first ls t m ts) t (λ m o. first-from t m ts (λ j f. d.agrees m j o f)))

    closed-true : (is_chain ls t && has_each_class ls ts t) ≡ true → IsClosed ls ts t
    closed-true h =
        let r = and_parts _ _ h in record {
          comparable = λ a b o q. or_cases _ _ (classes-each (is_comparable ls a) t
              (classes-each (λ a. all_classes (is_comparable ls a) t) t r.0 a o) b q);
          each = λ m o.
              let s = any-among (is_of_class ls t m) ts (classes-each (λ m. list_any (is_of_class ls t m) ts) t r.1 m o)
              in
              (s.0, s.1, of_class-true s.0 t m s.2);
        }

    comparable-from : (a b : ℕ) → ((below ls a b ≡ true) ⊎ (below ls b a ≡ true)) → is_comparable ls a b ≡ true
    comparable-from a b (inl h) = ap (λ x. x || below ls b a) h
    comparable-from a b (inr h) = or_right (below ls a b) _ h

    closed-from : IsClosed ls ts t → (is_chain ls t && has_each_class ls ts t) ≡ true
    closed-from c =
        and_from _ _ (each-classes (λ a. all_classes (is_comparable ls a) t) t
        (λ a o. each-classes (is_comparable ls a) t (λ b q. comparable-from a b (c.comparable a b o q))))
        (each-classes (λ m. list_any (is_of_class ls t m) ts) t (λ m o. let s = c.each m o
        in among-any (is_of_class ls t m) ts s.0 s.1 (of_class-from s.0 t m s.2)))

-- ---- the first rule that a row breaks

abbrev chosen : Bool → Bool → Bool → Bool → Bool → Option Rule
chosen a b c d e =
    cond (not a) (Some Entity) (cond (not b) (Some Null) (cond (not c) (Some Interval) (cond (not d) (Some Poly)
    (cond (not e) (Some Closure) None))))

abbrev test : Bool → Bool → Bool → Bool → Bool → Rule → Bool
test a b c d e Entity = a
test a b c d e Null = b
test a b c d e Interval = c
test a b c d e Poly = d
test a b c d e Closure = e

chosen-none : (a b c d e : Bool) → chosen a b c d e ≡ None → (r : Rule) → test a b c d e r ≡ true
chosen-none false b c d e h r = absurd (none-some Entity (sym h))
chosen-none true false c d e h r = absurd (none-some Null (sym h))
chosen-none true true false d e h r = absurd (none-some Interval (sym h))
chosen-none true true true false e h r = absurd (none-some Poly (sym h))
chosen-none true true true true false h r = absurd (none-some Closure (sym h))
chosen-none true true true true true h Entity = refl
chosen-none true true true true true h _ = refl

abbrev IsFirst : Bool → Bool → Bool → Bool → Bool → Rule → Type 0
IsFirst a b c d e r = (test a b c d e r ≡ false) × ((q : Rule) → rank q < rank r → test a b c d e q ≡ true)

chosen-some : (a b c d e : Bool) (r : Rule) → chosen a b c d e ≡ Some r → IsFirst a b c d e r
chosen-some false b c d e r h = subst (IsFirst false b c d e) (same_Some Entity r h) (refl, λ q l. absurd (omega arith))
chosen-some true false c d e r h = subst (IsFirst true false c d e) (same_Some Null r h) (refl, before)
  where
    before : (q : Rule) → rank q < 1 → test true false c d e q ≡ true
    before Entity l = refl
    before Null l = absurd (omega arith)
    before Interval l = absurd (omega arith)
    before Poly l = absurd (omega arith)
    before Closure l = absurd (omega arith)
chosen-some true true false d e r h = subst (IsFirst true true false d e) (same_Some Interval r h) (refl, before)
  where
    before : (q : Rule) → rank q < 2 → test true true false d e q ≡ true
    before Entity l = refl
    before Null l = refl
    before Interval l = absurd (omega arith)
    before Poly l = absurd (omega arith)
    before Closure l = absurd (omega arith)
chosen-some true true true false e r h = subst (IsFirst true true true false e) (same_Some Poly r h) (refl, before)
  where
    before : (q : Rule) → rank q < 3 → test true true true false e q ≡ true
    before Entity l = refl
    before Null l = refl
    before Interval l = refl
    before Poly l = absurd (omega arith)
    before Closure l = absurd (omega arith)
chosen-some true true true true false r h = subst (IsFirst true true true true false) (same_Some Closure r h) (
  refl,
  before,
)
  where
    before : (q : Rule) → rank q < 4 → test true true true true false q ≡ true
    before Entity l = refl
    before Null l = refl
    before Interval l = refl
    before Poly l = refl
    before Closure l = absurd (omega arith)
chosen-some true true true true true r h = absurd (none-some r h)

module _ (ls : Labels) (scheme : Scheme) (ts : List Tuple) (i : ℕ) (l : i < length ts) where
  abbrev u : Tuple
  u = row_at ts i

  abbrev keeps : Rule → Bool
  keeps = test (is_above_key ls u) (has_nulls_at_key u) (fits_scheme ls scheme u) (is_determined ls ts i) (is_chain ls u
      && has_each_class ls ts u)

  keeps-true : (r : Rule) → keeps r ≡ true → Keeps ls scheme ts i r
  keeps-true Entity h = all-each (λ e. below ls u.key_class e.class) null_element u.elements h
  keeps-true Null h = λ k b e. null-true (at u.elements k).value (at u.elements k).class u.key_class
      (all-each (λ e. is_some e.value || nat_eq e.class u.key_class) null_element u.elements h k b) e
  keeps-true Interval h = fits-true ls scheme u h
  keeps-true Poly h = determined-true ls ts i l h
  keeps-true Closure h = closed-true ls ts i l h

  keeps-from : (r : Rule) → Keeps ls scheme ts i r → keeps r ≡ true
  keeps-from Entity h = each-all (λ e. below ls u.key_class e.class) null_element u.elements h
  keeps-from Null h = each-all (λ e. is_some e.value || nat_eq e.class u.key_class) null_element u.elements
      (λ k b. null-from (at u.elements k).value (at u.elements k).class u.key_class (h k b))
  keeps-from Interval h = fits-from ls scheme u h
  keeps-from Poly h = determined-from ls ts i l h
  keeps-from Closure h = closed-from ls ts i l h

  pub none_broken : broken_rule ls scheme ts i ≡ None → (r : Rule) → Keeps ls scheme ts i r
  none_broken h r = keeps-true r (chosen-none (is_above_key ls u) (has_nulls_at_key u) (fits_scheme ls scheme u)
      (is_determined ls ts i) (is_chain ls u && has_each_class ls ts u) h r)

  pub one_broken : (r : Rule) → broken_rule ls scheme ts i ≡ Some r → (Keeps ls scheme ts i r → ⊥)
      × ((q : Rule) → rank q < rank r → Keeps ls scheme ts i q)
  one_broken r h =
      let f = chosen-some (is_above_key ls u) (has_nulls_at_key u) (fits_scheme ls scheme u) (is_determined ls ts i)
      (is_chain ls u && has_each_class ls ts u) r h in
      ((λ k. true≢false (sym (keeps-from r k) ∙ f.0)), (λ q b. keeps-true q (f.1 q b)))
