-- Widening keeps the stored form, also where labels are added behind those that it speaks of.
use Rattle.std.proofs.Common.{◌≡◌, ℕ, zero, suc, ◌+◌, ◌<◌, ◌≤◌, true, ◌&&◌, List, [], ◌∷◌, ◌++◌, length, take, Some, refl, sym, ap, ◌∙◌, subst, arith, inl, inr, slice_index_or, length-append, length-take, get_or-take}
use Rattle.std.specs.List.{AllByRecursion, AllZip}
use Rattle.std.specs.FinMap.{get}
use Rattle.std.proofs.lemmas.Bool.{cases_lt, and_parts, and_from}
use Rattle.mls_lattice.specs.Lattice.{bottom, ◌⊑◌}
use Rattle.mls_lattice.specs.Labels.{Labels, label_of, below}
use Rattle.mls_lattice.proofs.LatticeLemmas.{below-trans}
use Rattle.mls_scheme.specs.declared.value.Value.{Value}
use Rattle.mls_scheme.specs.declared.tuple.Element.{Element}
use Rattle.mls_scheme.specs.declared.place.Place.{Place}
use Rattle.mls_scheme.specs.Value.{is_kind, fits_kind}
use Rattle.mls_scheme.specs.Tuple.{at}
use Rattle.mls_scheme.specs.Table.{Table}
use Rattle.mls_scheme.specs.Scheme.{Attribute, Scheme, IsUnder, IsAmongLabels, first_key, no_attribute}
use Rattle.mls_scheme.specs.Fits.{Fits, in_interval}
use Rattle.mls_filterview.specs.View.{IsAmong}
use Rattle.mls_filterview.specs.Stored.{Occurs, with_class, AgreesBelow, IsStoredTuple, IsContent}
use Rattle.mls_filterview.specs.Widen.{nulls, IsWidened, AreClassesBelow, ContainsKeys, IsWiderScheme, WideningKeepsContent, WidenedWasContent, ContentNeedsItsLabels}
use Rattle.mls_filterview.proofs.AmongLemmas.{all_at}
use Rattle.mls_filterview.proofs.WidenLemmas.{length-widened, at_first, at_null, widened_at, was_at}

-- ---- the first k labels

pub label_of-take : (k : ℕ) (ls : Labels) (a : ℕ) → a < k → label_of (take k ls) a ≡ label_of ls a
label_of-take k ls a l = get_or-take k ls a bottom l

pub below-take : (k : ℕ) (ls : Labels) (a b : ℕ) → a < k → b < k → below (take k ls) a b ≡ below ls a b
unfolding below
below-take k ls a b la lb = λ i. label_of-take k ls a la i ⊑ label_of-take k ls b lb i

-- ---- lists side by side

zip_map : {A B : Type 0} (R S : A → B → Type 0) (xs : List A) (ys : List B) → ((x : A) (y : B) → IsAmong x xs
    → IsAmong y ys → R x y → S x y) → AllZip R xs ys → AllZip S xs ys
zip_map R S [] [] f h = tt
zip_map R S [] (y ∷ ys) f h = h
zip_map R S (x ∷ xs) [] f h = h
zip_map R S (x ∷ xs) (y ∷ ys) f h = (
  f x y (inl refl) (inl refl) h.0,
  zip_map R S xs ys (λ a b i j. f a b (inr i) (inr j)) h.1,
)

zip_append : {A B : Type 0} (R : A → B → Type 0) (xs more : List A) (ys ns : List B) → AllZip R xs ys → AllZip R more ns
    → AllZip R (xs ++ more) (ys ++ ns)
zip_append R [] more [] ns h k = k
zip_append R [] more (y ∷ ys) ns h k = absurd h
zip_append R (x ∷ xs) more [] ns h k = absurd h
zip_append R (x ∷ xs) more (y ∷ ys) ns h k = (h.0, zip_append R xs more ys ns h.1 k)

zip_first : {A B : Type 0} (R : A → B → Type 0) (xs more : List A) (ys ns : List B) → length xs ≡ length ys
    → AllZip R (xs ++ more) (ys ++ ns) → AllZip R xs ys
zip_first R [] more [] ns l h = tt
zip_first R [] more (y ∷ ys) ns l h = absurd (omega arith)
zip_first R (x ∷ xs) more [] ns l h = absurd (omega arith)
zip_first R (x ∷ xs) more (y ∷ ys) ns l h = (h.0, zip_first R xs more ys ns (omega arith) h.1)

class_among : (es : List Element) (e : Element) → IsAmong e es → (i : ℕ) × (i < length es) × (e.class ≡ (at es i).class)
class_among [] e h = absurd h
class_among (d ∷ es) e (inl h) = (0, omega arith, ap (λ (x : Element). x.class) h)
class_among (d ∷ es) e (inr h) = let r = class_among es e h in (suc r.0, omega (arith, r.1), r.2)

-- ---- labels that agree on the classes of a table

abbrev FitsKey : Labels → ℕ → Attribute → Value → Type 0
FitsKey ls class a v = (is_kind v a.1.kind ≡ true) × (in_interval ls class a ≡ true)

abbrev FitsElement : Labels → Attribute → Element → Type 0
FitsElement ls a e = (fits_kind e.value a.1.kind ≡ true) × (in_interval ls e.class a ≡ true)

module _ (ls ms : Labels) (k : ℕ) (same : (a b : ℕ) → a < k → b < k → below ls a b ≡ below ms a b) (counted : (m : ℕ)
    → m < k → m < length ls → m < length ms) where
  same_interval : (class : ℕ) (a : Attribute) → class < k → IsAmongLabels k a → in_interval ls class a ≡ true
      → in_interval ms class a ≡ true
  same_interval class a l among h = sym (λ i. same a.1.low class among.low l i && same class a.1.high l among.high i)
      ∙ h

  module _ (scheme : Scheme) (under : IsUnder k scheme) (T : Table) (classes : AreClassesBelow k T)
      (content : IsContent ls scheme T) where
    same_stored : (p : Place) (es : List Element) → get T p ≡ Some es → IsStoredTuple ms (length scheme.others) T p es
    same_stored p es e =
        let st = content.stored p es e in
        let at_place : p.class < k = (classes p es e).0 in
        let each : (m : ℕ) → Occurs p es m → m < k = (classes p es e).1 in
        record {
          count = st.count;
          declared = λ m o. counted m (each m o) (st.declared m o);
          above_key = λ m o. sym (same p.key_class m (each p.key_class (inl refl)) (each m o)) ∙ st.above_key m o;
          null_at_key = st.null_at_key;
          comparable = λ a b oa ob.
              elim (st.comparable a b oa ob) [
                | inl h ↦ inl (sym (same a b (each a oa) (each b ob)) ∙ h)
                | inr h ↦ inr
                    (sym (same b a (each b ob) (each a oa)) ∙ h)
              ];
          greatest = λ m o. sym (same m p.class (each m o) at_place) ∙ st.greatest m o;
          own = st.own;
          closed = λ m o.
              let cl = st.closed m o in (
                cl.0,
                cl.1,
                λ i l b. cl.2 i l (same (at es i).class m (each (at es i).class (inr (i, l, refl)))
                    (each m o) ∙ b),
              );
        }

    same_fits : (p : Place) (es : List Element) → get T p ≡ Some es → Fits ms scheme p es
    same_fits p es e =
        let f = content.fits p es e in
        let each : (m : ℕ) → Occurs p es m → m < k = (classes p es e).1 in
        record {
          key = zip_map (FitsKey ls p.key_class) (FitsKey ms p.key_class) scheme.keys p.key (λ a v i j h. (
            h.0,
            same_interval p.key_class a (each p.key_class (inl refl))
                (all_at (IsAmongLabels k) scheme.keys under.keys a i) h.1,
          )) f.key;
          others = zip_map (FitsElement ls) (FitsElement ms) scheme.others es (λ a x i j h. (
            h.0,
            same_interval x.class a (each x.class (inr (class_among es x j)))
                (all_at (IsAmongLabels k) scheme.others under.others a i) h.1,
          )) f.others;
        }

    same_content : IsContent ms scheme T
    same_content = record { stored = same_stored; fits = same_fits }

-- content whose classes are among the first k labels is content under these alone
pub content_needs_its_labels : ContentNeedsItsLabels
content_needs_its_labels ls k scheme T under classes content =
    same_content ls (take k ls) k (λ a b la lb. sym (below-take k ls a b la lb))
    (λ m l d. omega (arith, length-take k ls)) scheme under T classes content

-- and under more labels
pub content_under_more : (ls : Labels) (k : ℕ) (scheme : Scheme) (T : Table) → IsUnder k scheme
    → IsContent (take k ls) scheme T → IsContent ls scheme T
content_under_more ls k scheme T under content =
    same_content (take k ls) ls k (below-take k ls) (λ m l d. omega (arith, length-take k ls)) scheme under T (λ p es e.
    let st = content.stored p es e in
    let each : (m : ℕ) → Occurs p es m → m < k = λ m o. let d = st.declared m o in omega (arith, length-take k ls) in
    (each p.class st.own, each)) content

-- ---- the classes of a widened tuple

-- they are those of the tuple
module _ (n : ℕ) (p : Place) (es : List Element) where
  occurred : (m : ℕ) → Occurs p (es ++ nulls n p.key_class) m → Occurs p es m
  occurred m (inl h) = inl h
  occurred m (inr h) =
      elim (cases_lt h.0 (length es)) [
        | inl a ↦ inr (h.0, a, h.2 ∙ ap (λ (x : Element). x.class) (at_first n p.key_class es h.0 a))
        | inr b ↦ inl (h.2 ∙ ap (λ (x : Element). x.class) (at_null n p.key_class es h.0 b h.1))
      ]

  within : (i : ℕ) → i < length es → i < length (es ++ nulls n p.key_class)
  within i l = omega (arith, length-widened n p.key_class es)

  occurs_still : (m : ℕ) → Occurs p es m → Occurs p (es ++ nulls n p.key_class) m
  occurs_still m (inl h) = inl h
  occurs_still m (inr h) = inr (
    h.0,
    within h.0 h.1,
    h.2 ∙ ap (λ (x : Element). x.class)
        (sym (at_first n p.key_class es h.0 h.1)),
  )

agree_widened : (ls : Labels) (n m kc : ℕ) (es fs : List Element) → length es ≡ length fs → AgreesBelow ls m es fs
    → AgreesBelow ls m (es ++ nulls n kc) (fs ++ nulls n kc)
agree_widened ls n m kc es fs count agrees i l b =
    elim (cases_lt i (length es)) [
      | inl a ↦
          at_first n kc fs i (subst (λ j. i < j) count a)
          ∙ agrees i a (subst (λ (x : Element). below ls x.class m ≡ true) (at_first n kc es i a) b)
          ∙ sym (at_first n kc es i a)
      | inr a ↦
          at_null n kc fs i (subst (λ j. j ≤ i) count a) (omega (arith, length-widened n kc es, length-widened n kc fs))
          ∙ sym (at_null n kc es i a l)
    ]

-- ---- the intervals of the attributes that are added

key_interval : (ls : Labels) (class : ℕ) (ats : List Attribute) (vs : List Value) → 0 < length ats
    → AllZip (FitsKey ls class) ats vs → in_interval ls class (slice_index_or ats 0 no_attribute) ≡ true
key_interval ls class [] vs l h = absurd (omega arith)
key_interval ls class (a ∷ ats) [] l h = absurd h
key_interval ls class (a ∷ ats) (v ∷ vs) l h = h.0.1

nulls_fit : (ls : Labels) (scheme : Scheme) (class : ℕ) → in_interval ls class (first_key scheme) ≡ true
    → (more : List Attribute) (n : ℕ) → length more ≡ n → AllByRecursion (ContainsKeys ls scheme) more
    → AllZip (FitsElement ls) more (nulls n class)
nulls_fit ls scheme class h [] zero l around = tt
nulls_fit ls scheme class h [] (suc n) l around = absurd (omega arith)
nulls_fit ls scheme class h (a ∷ more) zero l around = absurd (omega arith)
nulls_fit ls scheme class h (a ∷ more) (suc n) l around =
    let b = and_parts _ _ h in (
      (
        refl,
        and_from _ _ (below-trans ls a.1.low (first_key scheme).1.low class around.0.0 b.0)
            (below-trans ls class (first_key scheme).1.high a.1.high b.1 around.0.1),
      ),
      nulls_fit ls scheme class h more n (omega arith) around.1,
    )

-- ---- widened content

module _ (ls : Labels) (n : ℕ) (old new : Scheme) (T W : Table) (wider : IsWiderScheme ls n old new)
    (wide : IsWidened n T W) where
  count_new : length new.others ≡ length old.others + n
  count_new = ap length wider.others ∙ length-append old.others wider.more ∙ ap (λ k. length old.others + k) wider.count

  module _ (some : 0 < length old.keys) (content : IsContent ls old T) where
    wide_tuple : (p : Place) (es : List Element) → get T p ≡ Some es → IsStoredTuple ls (length new.others) W p
        (es ++ nulls n p.key_class)
    wide_tuple p es e =
        let st = content.stored p es e in
        let was = occurred n p es in
        record {
          count = length-widened n p.key_class es ∙ ap (λ k. k + n) st.count ∙ sym count_new;
          declared = λ m o. st.declared m (was m o);
          above_key = λ m o. st.above_key m (was m o);
          null_at_key = λ i l h.
              elim (cases_lt i (length es)) [
                | inl a ↦
                    (let same = at_first n p.key_class es i a in
                    ap (λ (x : Element). x.class) same ∙ st.null_at_key i a (ap (λ (x : Element). x.value) (sym same)
                    ∙ h))
                | inr b ↦ ap (λ (x : Element). x.class) (at_null n p.key_class es i b l)
              ];
          comparable = λ a b oa ob. st.comparable a b (was a oa) (was b ob);
          greatest = λ m o. st.greatest m (was m o);
          own = occurs_still n p es p.class st.own;
          closed = λ m o.
              let cl = st.closed m (was m o) in
              let su = content.stored (with_class p m) cl.0 cl.1 in (
                cl.0 ++ nulls n p.key_class,
                widened_at n T W wide (with_class p m) cl.0 cl.1,
                agree_widened ls n m p.key_class es cl.0 (st.count ∙ sym su.count) cl.2,
              );
        }

    wide_fits : (p : Place) (es : List Element) → get T p ≡ Some es → Fits ls new p (es ++ nulls n p.key_class)
    wide_fits p es e =
        let f = content.fits p es e in
        let key : AllZip (FitsKey ls p.key_class) new.keys p.key =
        subst (λ ks. AllZip (FitsKey ls p.key_class) ks p.key) (sym wider.keys) f.key in
        let inside : in_interval ls p.key_class (first_key new) ≡ true = key_interval ls p.key_class new.keys p.key
        (subst (λ ks. 0 < length ks) (sym wider.keys) some) key in
        record {
          key = key;
          others = subst (λ ats. AllZip (FitsElement ls) ats (es ++ nulls n p.key_class)) (sym wider.others)
              (zip_append (FitsElement ls) old.others wider.more es (nulls n p.key_class) f.others
              (nulls_fit ls new p.key_class inside wider.more n wider.count wider.around));
        }

    wide_content : IsContent ls new W
    wide_content = record {
      stored = λ p ws e. let w = was_at n T W wide p ws e in subst (IsStoredTuple ls (length new.others) W p) (sym w.2)
          (wide_tuple p w.0 w.1);
      fits = λ p ws e. let w = was_at n T W wide p ws e in subst (Fits ls new p) (sym w.2) (wide_fits p w.0 w.1);
    }

  module _ (counted : (p : Place) (es : List Element) → get T p ≡ Some es → length es ≡ length old.others)
      (content : IsContent ls new W) where
    narrow_tuple : (p : Place) (es : List Element) → get T p ≡ Some es → IsStoredTuple ls (length old.others) T p es
    narrow_tuple p es e =
        let st = content.stored p (es ++ nulls n p.key_class) (widened_at n T W wide p es e) in
        let still = occurs_still n p es in
        record {
          count = counted p es e;
          declared = λ m o. st.declared m (still m o);
          above_key = λ m o. st.above_key m (still m o);
          null_at_key = λ i l h.
              let same = at_first n p.key_class es i l in
              ap (λ (x : Element). x.class) (sym same) ∙ st.null_at_key i (within n p es i l)
              (ap (λ (x : Element). x.value) same ∙ h);
          comparable = λ a b oa ob. st.comparable a b (still a oa) (still b ob);
          greatest = λ m o. st.greatest m (still m o);
          own = occurred n p es p.class st.own;
          closed = λ m o.
              let cl = st.closed m (still m o) in
              let w = was_at n T W wide (with_class p m) cl.0 cl.1 in (
                w.0,
                w.1,
                λ i l b.
                    let first = at_first n p.key_class es i l in
                    sym (at_first n p.key_class w.0 i (subst (λ j. i < j) (counted p es e
                    ∙ sym (counted (with_class p m) w.0 w.1)) l))
                    ∙ ap (λ fs. at fs i) (sym w.2)
                    ∙ cl.2 i (within n p es i l) (subst (λ (x : Element). below ls x.class m ≡ true) (sym first) b)
                    ∙ first,
              );
        }

    narrow_content : IsContent ls old T
    narrow_content = record {
      stored = narrow_tuple;
      fits = λ p es e.
          let f = content.fits p (es ++ nulls n p.key_class) (widened_at n T W wide p es e) in
          record {
            key = subst (λ ks. AllZip (FitsKey ls p.key_class) ks p.key) wider.keys f.key;
            others = zip_first (FitsElement ls) old.others wider.more es (nulls n p.key_class) (sym (counted p es e))
                (subst (λ ats. AllZip (FitsElement ls) ats (es ++ nulls n p.key_class)) wider.others f.others);
          };
    }

pub widening_keeps_content : WideningKeepsContent
widening_keeps_content ls k n old new T W some under wider wide content = wide_content ls n old new T W wider wide some
    (content_under_more ls k old T under content)

pub widened_was_content : WidenedWasContent
widened_was_content ls k n old new T W under wider wide classes counted content =
    content_needs_its_labels ls k old T under classes (narrow_content ls n old new T W wider wide counted content)
