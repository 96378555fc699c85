-- Which older policies a policy extends: the lines of each kind come off the front of a text in one way.
use Rattle.std.proofs.Common.{◌≡◌, ◌≢◌, ℕ, zero, suc, arith, ◌+◌, ◌<◌, ◌≤◌, List, [], ◌∷◌, ◌++◌, append_assoc, length, get_or, take, drop, map, Bool, true, false, ◌==◌, is_some, Option, Some, None, refl, sym, ap, subst, ◌∙◌, IfSome, IsTrue, ◌↔◌, flat_map, append-nil}
use Rattle.std.proofs.lemmas.Bool.Decides.{Decides-eqb}
use Rattle.std.proofs.lemmas.List.{length-map, append_cancel_left, drop_more, take-map, drop-map}
use Rattle.std.proofs.lemmas.List.Folds.{flat_map-map}
use Rattle.mls_lattice.specs.declared.tables.NamedLabel.{NamedLabel}
use Rattle.mls_lattice.specs.Policy.{Name, Named, named, Policy}
use Rattle.mls_lattice.specs.Canon.{level_line, category_line, label_line}
use Rattle.mls_lattice.specs.Extending.{Extends, OldLabelsAreOne, BeginWith}

heads : {A : Type 0} (x y : A) (xs ys : List A) → Path (List A) (x ∷ xs) (y ∷ ys) → x ≡ y
heads {A = A} x y xs ys e = ap (λ (s : List A). get_or s 0 x) e

-- ---- a loop over lines

module _ {A : Type 0} (line : A → List ℕ) where
  -- the next line does not begin the rest
  pub begin-stopped : (xs : List A) (i : ℕ) (x : A) (text rest : List ℕ) → i < length xs → x ≡ get_or xs i x
      → text ≡ flat_map line (take i xs) ++ rest → ((more : List ℕ) → rest ≢ line x ++ more)
      → BeginWith line xs text i rest
  begin-stopped xs i x text rest within is so_far stop = record {
    few = omega (arith, within);
    split = so_far;
    most = λ y after more at.
        let next : y ∷ after ≡ x ∷ drop (i + 1) xs = sym at ∙ drop_more xs i x within
        ∙ ap (λ (z : A). z ∷ drop (i + 1) xs) (sym is) in
        let same : y ≡ x = heads y x after (drop (i + 1) xs) next in
        subst (λ (z : A). rest ≢ line z ++ more) (sym same) (stop more);
  }

  -- A text begins with so many lines in one way, where no such line begins what is to come after them.
  pub begin-one : (xs : List A) (text : List ℕ) (i j : ℕ) (rest other : List ℕ) → BeginWith line xs text i rest
      → j ≤ length xs → text ≡ flat_map line (take j xs) ++ other → ((x : A) (more : List ℕ) → other ≢ line x ++ more)
      → (i ≡ j) × (rest ≡ other)
  begin-one [] text i j rest other h few split last =
      let i_few = h.few in
      let i_zero : i ≡ 0 = omega (arith, i_few) in
      let j_zero : j ≡ 0 = omega (arith, few) in
      let first : text ≡ rest = subst (λ n. text ≡ flat_map line (take n []) ++ rest) i_zero h.split in
      let second : text ≡ other = subst (λ n. text ≡ flat_map line (take n []) ++ other) j_zero split in
      (i_zero ∙ sym j_zero, sym first ∙ second)
  begin-one (x ∷ xs) text zero zero rest other h few split last = (refl, sym h.split ∙ split)
  begin-one (x ∷ xs) text zero (suc j) rest other h few split last =
      absurd (h.most x xs (flat_map line (take j xs) ++ other) refl (sym h.split ∙ split ∙ append_assoc (line x)
      (flat_map line (take j xs)) other))
  begin-one (x ∷ xs) text (suc i) zero rest other h few split last =
      absurd (last x (flat_map line (take i xs) ++ rest) (sym split ∙ h.split ∙ append_assoc (line x)
      (flat_map line (take i xs)) rest))
  begin-one (x ∷ xs) text (suc i) (suc j) rest other h few split last =
      let front = flat_map line (take i xs) ++ rest in
      let back = flat_map line (take j xs) ++ other in
      let cut : front ≡ back = append_cancel_left (line x) front back
      (sym (append_assoc (line x) (flat_map line (take i xs)) rest) ∙ sym h.split ∙ split ∙ append_assoc (line x)
      (flat_map line (take j xs)) other) in
      let i_few = h.few in
      let tail : BeginWith line xs front i rest = record { few = omega (arith, i_few); split = refl; most = h.most } in
      let both = begin-one xs front i j rest other tail (omega (arith, few)) cut last in
      (ap suc both.0, both.1)

-- lines of labels by their names and values
pub begin-named : (line : Named → List ℕ) (ls : List NamedLabel) (text : List ℕ) (i : ℕ) (rest : List ℕ)
    → BeginWith (λ l. line (named l)) ls text i rest → BeginWith line (map named ls) text i rest
begin-named line ls text i rest h = record {
  few = let few = h.few in rw (length-map ls named) few;
  split = h.split ∙ ap (λ (s : List ℕ). s ++ rest) (sym (ap (flat_map line) (take-map named i ls)
      ∙ flat_map-map line named (take i ls)));
  most = λ x after more at. found (drop i ls) (h.most) x after more (sym (drop-map named i ls) ∙ at);
}
  where
    found : (left : List NamedLabel) → ((l : NamedLabel) (after : List NamedLabel) (more : List ℕ) → left ≡ l ∷ after
        → rest ≢ line (named l) ++ more)
        → (x : Named) (after : List Named) (more : List ℕ) → map named left ≡ x ∷ after → rest ≢ line x ++ more
    found [] most x after more at = absurd cc
    found (l ∷ left) most x after more at =
        subst (λ (y : Named). rest ≢ line y ++ more) (heads (named l) x (map named left) after at)
        (most l left more refl)

-- ---- what comes after lines of each kind

label-not_category : (levels categories : List Name) (ls : List Named) (k : ℕ) → 0 < k → k ≤ length ls
    → (name : Name) (more : List ℕ) → flat_map (label_line levels categories) (take k ls) ≢ category_line name ++ more
label-not_category levels categories ls zero some few name more e = absurd (omega (arith, some))
label-not_category levels categories [] (suc k) some few name more e = absurd (omega (arith, few))
label-not_category levels categories (l ∷ ls) (suc k) some few name more e = let bad : 108 ≡ 99 =
    ap (λ (s : List ℕ). get_or s 0 0) e in absurd (omega (arith, bad))

label-not_level : (levels categories : List Name) (ls : List Named) (k : ℕ) → 0 < k → k ≤ length ls
    → (name : Name) (more : List ℕ) → flat_map (label_line levels categories) (take k ls) ≢ level_line name ++ more
label-not_level levels categories ls zero some few name more e = absurd (omega (arith, some))
label-not_level levels categories [] (suc k) some few name more e = absurd (omega (arith, few))
label-not_level levels categories (l ∷ ls) (suc k) some few name more e = let bad : 97 ≡ 101 =
    ap (λ (s : List ℕ). get_or s 1 0) e in absurd (omega (arith, bad))

category-not_level : (names : List Name) (j : ℕ) (rest : List ℕ) → ((name : Name) (more : List ℕ)
    → rest ≢ level_line name ++ more)
    → (name : Name) (more : List ℕ) → flat_map category_line (take j names) ++ rest ≢ level_line name ++ more
category-not_level names zero rest other name more e = other name more e
category-not_level [] (suc j) rest other name more e = other name more e
category-not_level (n ∷ names) (suc j) rest other name more e = let bad : 99 ≡ 108 = ap (λ (s : List ℕ). get_or s 0 0) e
    in absurd (omega (arith, bad))

-- ---- the old lattice

module _ (p : Policy) (old : List ℕ) where
  -- What three loops took off the front of a text.
  pub record Taken (i j k : ℕ) (after_levels after_categories rest : List ℕ) : Type 0 where
    pub levels : BeginWith level_line p.levels old i after_levels
    pub categories : BeginWith category_line p.categories after_levels j after_categories
    pub labels : BeginWith (label_line p.levels p.categories) p.labels after_categories k rest

  pub extends-taken : (i j k : ℕ) (a b : List ℕ) → Taken i j k a b [] → 0 < i → 0 < k → Extends p old k
  extends-taken i j k a b t some_level some_label =
      let front = flat_map level_line (take i p.levels) in
      let middle = flat_map category_line (take j p.categories) in
      let back = flat_map (label_line p.levels p.categories) (take k p.labels) in
      record {
        levels = i;
        categories = j;
        some_level = some_level;
        few_levels = t.levels.few;
        few_categories = t.categories.few;
        some_label = some_label;
        few_labels = t.labels.few;
        text = t.levels.split ∙ ap (λ (s : List ℕ). front ++ s) (t.categories.split ∙ ap (λ (s : List ℕ). middle ++ s)
            (t.labels.split ∙ append-nil back)) ∙ sym (append_assoc front middle back);
      }

  -- Loops take the lines of an extension whole.
  pub taken-whole : (i j k l : ℕ) (a b c : List ℕ) → Taken i j k a b c → (e : Extends p old l) → (i ≡ e.levels)
      × (k ≡ l) × (c ≡ [])
  taken-whole i j k l a b c t e =
      let front = flat_map level_line (take e.levels p.levels) in
      let middle = flat_map category_line (take e.categories p.categories) in
      let back = flat_map (label_line p.levels p.categories) (take l p.labels) in
      let text : old ≡ front ++ (middle ++ back) = e.text ∙ append_assoc front middle back in
      let first = begin-one level_line p.levels old i e.levels a (middle ++ back) t.levels e.few_levels text
      (category-not_level p.categories e.categories back
      (label-not_level p.levels p.categories p.labels l e.some_label e.few_labels)) in
      let second = begin-one category_line p.categories a j e.categories b back t.categories e.few_categories first.1
      (label-not_category p.levels p.categories p.labels l e.some_label e.few_labels) in
      let third = begin-one (label_line p.levels p.categories) p.labels b k l c [] t.labels e.few_labels
      (second.1 ∙ sym (append-nil back)) (λ x more bad. absurd cc) in
      (first.0, third.0, third.1)

  -- The lines of an extension are what loops take.
  extension-taken : (l : ℕ) (e : Extends p old l)
      → Taken e.levels e.categories l (flat_map category_line (take e.categories p.categories)
      ++ flat_map (label_line p.levels p.categories) (take l p.labels))
      (flat_map (label_line p.levels p.categories) (take l p.labels)) []
  extension-taken l e =
      let front = flat_map level_line (take e.levels p.levels) in
      let middle = flat_map category_line (take e.categories p.categories) in
      let back = flat_map (label_line p.levels p.categories) (take l p.labels) in
      record {
        levels = record {
          few = e.few_levels;
          split = e.text ∙ append_assoc front middle back;
          most = λ x after more _. category-not_level p.categories e.categories back
              (label-not_level p.levels p.categories p.labels l e.some_label e.few_labels) x more;
        };
        categories = record {
          few = e.few_categories;
          split = refl;
          most =
              λ x after more _. label-not_category p.levels p.categories p.labels l e.some_label e.few_labels x more;
        };
        labels = record { few = e.few_labels; split = sym (append-nil back); most = λ x after more _ bad. absurd cc };
      }

pub one : OldLabelsAreOne
one p old k l a b = (taken-whole p old a.levels a.categories k l _ _ [] (extension-taken p old k a) b).1

-- What is left shows that there is no extension.
pub none-taken : (p : Policy) (old : List ℕ) (i j k : ℕ) (a b c : List ℕ) → Taken p old i j k a b c
    → (0 < i → 0 < k → c ≡ [] → ⊥) → (l : ℕ) → Extends p old l → ⊥
none-taken p old i j k a b c t other l e =
    let same = taken-whole p old i j k l a b c t e in
    let some_level = e.some_level in
    let some_label = e.some_label in
    let levels = same.0 in
    let labels = same.1 in
    other (omega (arith, some_level, levels)) (omega (arith, some_label, labels)) same.2

-- whether there is an extension
pub some-iff : (P : ℕ → Type 0) (o : Option ℕ) (b : Bool) → b ≡ is_some o → IfSome o P → (o ≡ None → (k : ℕ) → P k → ⊥)
    → IsTrue b ↔ ((k : ℕ) × P k)
some-iff P None b is found none = (λ t. absurd cc, λ some. absurd (none refl some.0 some.1))
some-iff P (Some k) b is found none = (λ t. (k, found), λ some. is)

-- what the loops of a policy took
pub taken-by : (p : Policy) (ls : List NamedLabel) (old : List ℕ) (i j k : ℕ) (a b c : List ℕ) → map named ls ≡ p.labels
    → BeginWith level_line p.levels old i a
    → BeginWith category_line p.categories a j b → BeginWith (λ l. label_line p.levels p.categories (named l)) ls b k c
    → Taken p old i j k a b c
taken-by p ls old i j k a b c is levels categories labels =
    let line = label_line p.levels p.categories in
    record {
      levels = levels;
      categories = categories;
      labels =
          subst (λ (all : List Named). BeginWith line all b k c) is (begin-named line ls b k c labels);
    }

pub empty-is : (b : Bool) (xs : List ℕ) → b ≡ (length xs == 0) → b ≡ true → xs ≡ []
empty-is b [] e is = refl
empty-is b (x ∷ xs) e is =
    let none = (Decides-eqb (length (x ∷ xs)) 0).0 (sym e ∙ is) in
    absurd (omega (arith, none))

pub empty-not : (b : Bool) (xs : List ℕ) → b ≡ (length xs == 0) → b ≡ false → xs ≢ []
empty-not b [] e off same = absurd cc
empty-not b (x ∷ xs) e off same = absurd cc
