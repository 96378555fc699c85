-- What a list is that was gathered item by item.
use Rattle.std.proofs.Common.{◌≡◌, suc, Bool, false, List, [], ◌∷◌, ◌++◌, length, map, Result, Ok, refl, sym, ap, ◌∙◌, append_assoc, bytes_eq, append-nil}
use Rattle.std.specs.Prelude.{⊤}
use Rattle.std.specs.List.{list_any, AllByRecursion, AllZip, IsDistinct}
use Rattle.std.specs.Cmp.Lexicographic.{nat_list_eq_equiv}
use Rattle.std.proofs.lemmas.Map.Keys.{IsDistinct-push, IsDistinct-head, IsDistinct-tail}
use Rattle.std.proofs.lemmas.List.{map_push}
use Rattle.toml.specs.Data.{Data, table, Items, no_items, item, Members}
use Rattle.mls_lattice.specs.Policy.{Name}
use Rattle.mls_lattice.specs.Reading.{items_len}
use Rattle.mls_lattice.proofs.ReadingLemmas.{bind_ok}
use Rattle.mls_scheme.specs.declared.fault.FileFault.{FileFault}
use Rattle.mls_scheme.specs.Reading.{gather}
use Rattle.mls_scheme.specs.Document.{tables_of}

-- each new item stands in the relation to those before it
abbrev pub Each : {A : Type 0} → (List A → A → Type 0) → List A → List A → Type 0
Each Follows before [] = ⊤
Each Follows before (a ∷ new) = Follows before a × Each Follows (before ++ a ∷ []) new

pub record Step {A : Type 0} (Says : Members → A → Type 0) (Follows : List A → A → Type 0) (before : List A) (d : Data)
    (a : A) : Type 0 where
  pub fields : Members
  pub text : d ≡ table fields
  pub says : Says fields a
  pub follows : Follows before a

pub record Gathered {A : Type 0} (Says : Members → A → Type 0) (Follows : List A → A → Type 0) (before : List A)
    (ds : Items) (all : List A) : Type 0 where
  pub new : List A
  pub tables : List Members
  pub parts : all ≡ before ++ new
  pub text : ds ≡ tables_of tables
  pub says : AllZip Says tables new
  pub follow : Each Follows before new

module _ {A : Type 0} (step : List A → Data → Result A FileFault) (Says : Members → A → Type 0) (Follows : List A → A
    → Type 0) where
  pub gather_found : ((before : List A) (d : Data) (a : A) → step before d ≡ Ok a → Step Says Follows before d a)
      → (before : List A) (ds : Items) (all : List A) → gather step before ds ≡ Ok all
      → Gathered Says Follows before ds all
  gather_found one before no_items all e =
      let same : before ≡ all = cc in
      record { new = []; tables = []; parts = sym same ∙ sym (append-nil before); text = refl; says = tt; follow = tt }
  gather_found one before (item d ds) all e =
      let a = bind_ok (step before d) _ all e in
      let b = one before d a.0 a.1 in
      let more = gather_found one (before ++ a.0 ∷ []) ds all a.2 in
      record {
        new = a.0 ∷ more.new;
        tables = b.fields ∷ more.tables;
        parts = more.parts ∙ append_assoc before (a.0 ∷ []) more.new;
        text = λ i. item (b.text i) (more.text i);
        says = (b.says, more.says);
        follow = (b.follows, more.follow);
      }

  pub gather_again : ((before : List A) (t : Members) (a : A) → Says t a → Follows before a → step before (table t)
      ≡ Ok a)
      → (before : List A) (ts : List Members) (new : List A) → AllZip Says ts new → Each Follows before new
      → gather step before (tables_of ts) ≡ Ok (before ++ new)
  gather_again one before [] [] says follow = ap (λ (xs : List A). Ok xs) (sym (append-nil before))
  gather_again one before [] (a ∷ new) says follow = absurd says
  gather_again one before (t ∷ ts) [] says follow = absurd says
  gather_again one before (t ∷ ts) (a ∷ new) says follow =
      rw (one before t a says.0 follow.0) (gather_again one (before ++ a ∷ []) ts new says.1 follow.1
      ∙ ap (λ (xs : List A). Ok xs) (append_assoc before (a ∷ []) new))

-- as many items as tables
pub items_len-tables_of : {A : Type 0} (Says : Members → A → Type 0) (ts : List Members) (xs : List A)
    → AllZip Says ts xs → items_len (tables_of ts) ≡ length xs
items_len-tables_of Says [] [] says = refl
items_len-tables_of Says [] (x ∷ xs) says = absurd says
items_len-tables_of Says (t ∷ ts) [] says = absurd says
items_len-tables_of Says (t ∷ ts) (x ∷ xs) says = ap suc (items_len-tables_of Says ts xs says.1)

-- of two demands, each
pub Each-left : {A : Type 0} (E F : List A → A → Type 0) (before new : List A) → Each (λ b a. E b a × F b a) before new
    → Each E before new
Each-left E F before [] h = tt
Each-left E F before (a ∷ new) h = (h.0.0, Each-left E F (before ++ a ∷ []) new h.1)

pub Each-right : {A : Type 0} (E F : List A → A → Type 0) (before new : List A) → Each (λ b a. E b a × F b a) before new
    → Each F before new
Each-right E F before [] h = tt
Each-right E F before (a ∷ new) h = (h.0.1, Each-right E F (before ++ a ∷ []) new h.1)

pub Each-both : {A : Type 0} (E F : List A → A → Type 0) (before new : List A) → Each E before new → Each F before new
    → Each (λ b a. E b a × F b a) before new
Each-both E F before [] h k = tt
Each-both E F before (a ∷ new) h k = ((h.0, k.0), Each-both E F (before ++ a ∷ []) new h.1 k.1)

-- ---- distinct names

module _ {A : Type 0} (name_of : A → Name) where
  abbrev pub has : List A → Name → Bool
  has xs n = list_any (λ x. bytes_eq (name_of x) n) xs

  has-names : (xs : List A) (n : Name) → has xs n ≡ list_any (bytes_eq n) (map name_of xs)
  has-names [] n = refl
  has-names (x ∷ xs) n = rw (nat_list_eq_equiv.symm (name_of x) n, has-names xs n) refl

  -- no name is one of those before it
  pub distinct_found : (base before new : List A) → IsDistinct bytes_eq (map name_of (base ++ before))
      → Each (λ b a. has (base ++ b) (name_of a) ≡ false) before new
      → IsDistinct bytes_eq (map name_of (base ++ (before ++ new)))
  distinct_found base before [] apart each = rw (append-nil before) apart
  distinct_found base before (a ∷ new) apart each =
      let fresh : list_any (bytes_eq (name_of a)) (map name_of (base ++ before)) ≡ false =
      sym (has-names (base ++ before) (name_of a)) ∙ each.0 in
      let pushed : IsDistinct bytes_eq (map name_of (base ++ before) ++ name_of a ∷ []) =
      IsDistinct-push nat_list_eq_equiv (map name_of (base ++ before)) (name_of a) apart fresh in
      let here : map name_of (base ++ (before ++ a ∷ [])) ≡ map name_of (base ++ before) ++ name_of a ∷ [] =
      ap (map name_of) (sym (append_assoc base before (a ∷ []))) ∙ map_push name_of (base ++ before) a in
      rw (← append_assoc before (a ∷ []) new) (distinct_found base (before ++ a ∷ []) new (rw here pushed) each.1)

  past : (s : Name) (a : A) (xs new : List A) → AllByRecursion (λ y. bytes_eq s y ≡ false) (map name_of (xs ++ a ∷ new))
      → bytes_eq s (name_of a) ≡ false
  past s a [] new p = p.0
  past s a (x ∷ xs) new p = past s a xs new p.1

  pub fresh : (xs : List A) (a : A) (new : List A) → IsDistinct bytes_eq (map name_of (xs ++ a ∷ new))
      → has xs (name_of a) ≡ false
  fresh [] a new h = refl
  fresh (x ∷ xs) a new h =
      let head = IsDistinct-head bytes_eq (name_of x) (map name_of (xs ++ a ∷ new)) h in
      rw (
        past (name_of x) a xs new head,
        fresh xs a new (IsDistinct-tail bytes_eq (name_of x)
            (map name_of (xs ++ a ∷ new)) h),
      ) refl

  pub distinct_again : (base before new : List A) → IsDistinct bytes_eq (map name_of (base ++ (before ++ new)))
      → Each (λ b a. has (base ++ b) (name_of a) ≡ false) before new
  distinct_again base before [] apart = tt
  distinct_again base before (a ∷ new) apart = (
    fresh (base ++ before) a new (rw (append_assoc base before (a ∷ new)) apart),
    distinct_again base (before ++ a ∷ []) new (rw (append_assoc before (a ∷ []) new) apart),
  )
