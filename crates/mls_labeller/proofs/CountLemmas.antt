-- How many lists of items a block can release.
use Rattle.std.proofs.Common.{◌≡◌, ◌⊎◌, inl, inr, ℕ, zero, suc, ◌+◌, ◌*◌, ◌<◌, ◌≤◌, Bool, true, false, if◌then◌else◌, List, [], ◌∷◌, ◌++◌, length, map, flat_map, refl, sym, ap, subst, subst₂, ◌∙◌, append_assoc, append-nil, arith, min}
use Rattle.std.specs.Prelude.{Contains, Option}
use Rattle.std.proofs.lemmas.Bool.{cases_Bool}
use Rattle.std.proofs.lemmas.List.Elements.{Contains-append_left, Contains-append_right}
use Rattle.mls_scheme.specs.declared.value.Value.{Value}
use Rattle.mls_translang.specs.Tree.{Expr, Assign, Write_at, Release, Emit, Block, End, Do, If, For}
use Rattle.mls_lattice.specs.Policy.{Policy, labels_of}
use Rattle.mls_scheme.specs.Scheme.{Schemes}
use Rattle.mls_translang.specs.Tx.{Tx}
use Rattle.mls_certcheck.specs.Meaning.{Item}
use Rattle.mls_certcheck.specs.Secure.{seen_items}
use Rattle.mls_labeller.specs.Ranges.{Admits, HasValues}
use Rattle.mls_labeller.specs.declared.told.Told.{Told}
use Rattle.mls_labeller.specs.Releases.{Repeats, CanRelease, releases, uncounted, HasLists, HasAll, Multiplies}

-- ---- lists

pub here : {X : Type 0} (x : X) (xs : List X) → Contains (x ∷ xs) x
here x xs = (0, omega arith, refl)

pub there : {X : Type 0} (y x : X) (xs : List X) → Contains xs x → Contains (y ∷ xs) x
there y x xs has = (suc has.0, omega (arith, has.1), has.2)

cons_first : {X : Type 0} (x y : X) (xs ys : List X) → x ∷ xs ≡ y ∷ ys → x ≡ y
cons_first x y xs ys e = cc

cons_rest : {X : Type 0} (x y : X) (xs ys : List X) → x ∷ xs ≡ y ∷ ys → xs ≡ ys
cons_rest x y xs ys e = cc

nil_cons : {X : Type 0} (x : X) (xs : List X) → ¬ ([] ≡ x ∷ xs)
nil_cons x xs e = cc

same_front : {X : Type 0} (a b x y : List X) → length a ≡ length b → a ++ x ≡ b ++ y → (a ≡ b) × (x ≡ y)
same_front [] [] x y long e = (refl, e)
same_front [] (b ∷ ys) x y long e = absurd (omega (arith, long))
same_front (a ∷ xs) [] x y long e = absurd (omega (arith, long))
same_front (a ∷ xs) (b ∷ ys) x y long e =
    let more = same_front xs ys x y (omega (arith, long)) (cons_rest a b (xs ++ x) (ys ++ y) e) in
    ((λ i. cons_first a b (xs ++ x) (ys ++ y) e i ∷ more.0 i), more.1)

both_nil : {X : Type 0} (a b : List X) → [] ≡ a ++ b → (a ≡ []) × (b ≡ [])
both_nil [] b e = (refl, sym e)
both_nil (x ∷ a) b e = absurd (nil_cons x (a ++ b) e)

pub has_map : {X Y : Type 0} (f : X → Y) (xs : List X) (x : X) → Contains xs x → Contains (map f xs) (f x)
has_map f [] x (k, within, is) = absurd (omega (arith, within))
has_map f (y ∷ xs) x (zero, within, is) = subst (λ z. Contains (map f (y ∷ xs)) (f z)) is (here (f y) (map f xs))
has_map f (y ∷ xs) x (suc k, within, is) = there (f y) (f x) (map f xs) (has_map f xs x (k, omega (arith, within), is))

has_flat : {X Y : Type 0} (f : X → List Y) (xs : List X) (x : X) (y : Y) → Contains xs x → Contains (f x) y
    → Contains (flat_map f xs) y
has_flat f [] x y (k, within, is) has = absurd (omega (arith, within))
has_flat f (z ∷ xs) x y (zero, within, is) has = Contains-append_left (f z) (flat_map f xs) y
    (subst (λ w. Contains (f w) y) (sym is) has)
has_flat f (z ∷ xs) x y (suc k, within, is) has = Contains-append_right (f z) (flat_map f xs) y
    (has_flat f xs x y (k, omega (arith, within), is) has)

pub long_map : {X Y : Type 0} (f : X → Y) (xs : List X) → length (map f xs) ≡ length xs
long_map f [] = refl
long_map f (x ∷ xs) = ap suc (long_map f xs)

pub long_append : {X : Type 0} (xs ys : List X) → length (xs ++ ys) ≡ length xs + length ys
long_append [] ys = omega arith
long_append (x ∷ xs) ys = let more = long_append xs ys in omega (arith, more)

-- each of these, and each of those behind it
abbrev joined : List (List Item) → List (List Item) → List (List Item)
joined heads tails = flat_map (λ h. map (λ t. h ++ t) tails) heads

long_joined : (heads tails : List (List Item)) → length (joined heads tails) ≡ length heads * length tails
long_joined [] tails = omega arith
long_joined (h ∷ heads) tails =
    let whole = long_append (map (λ t. h ++ t) tails) (joined heads tails) in
    let first = long_map (λ t. h ++ t) tails in
    let more = long_joined heads tails in
    omega (arith, whole, first, more)

has_joined : (heads tails : List (List Item)) (h t : List Item) → Contains heads h → Contains tails t
    → Contains (joined heads tails) (h ++ t)
has_joined heads tails h t one two = has_flat (λ h. map (λ t. h ++ t) tails) heads h (h ++ t) one
    (has_map (λ t. h ++ t) tails t two)

-- products, one by one
times_more : (a b c : ℕ) → a ≤ b → a * c ≤ b * c
times_more zero b c le = omega arith
times_more (suc a) zero c le = absurd (omega (arith, le))
times_more (suc a) (suc b) c le = let more = times_more a b c (omega (arith, le)) in omega (arith, more)

more_times : (a b c : ℕ) → b ≤ c → a * b ≤ a * c
more_times zero b c le = omega arith
more_times (suc a) b c le = let more = more_times a b c le in omega (arith, more, le)

plus_times : (a b c : ℕ) → (a + b) * c ≡ a * c + b * c
plus_times zero b c = omega arith
plus_times (suc a) b c = let more = plus_times a b c in omega (arith, more)

times_times : (a b c : ℕ) → (a * b) * c ≡ a * (b * c)
times_times zero b c = omega arith
times_times (suc a) b c =
    let step : suc a * b ≡ b + a * b = omega arith in
    let more = times_times a b c in
    let split = plus_times b (a * b) c in
    ap (λ n. n * c) step ∙ omega (arith, split, more)

one_times : (a : ℕ) → 1 * a ≡ a
one_times a = omega arith

times_one : (a : ℕ) → a * 1 ≡ a
times_one zero = omega arith
times_one (suc a) = let more = times_one a in omega (arith, more)

-- ---- releases of a block

-- as many are told as there are
long_told : (looped : Bool) (block : Block) (told : List Told) (xs zs : List Item) → CanRelease looped block told xs zs
    → length told ≡ releases block
long_told looped End told xs zs h = ap length h.0
long_told looped (Do (Assign x e) rest) told xs zs h = long_told looped rest told xs zs h
long_told looped (Do (Write_at relation w writing outcome) rest) told xs zs h = long_told looped rest told xs zs h
long_told looped (Do (Emit e label) rest) told xs zs h = long_told looped rest told xs zs h
long_told looped (Do (Release e to into) rest) told xs zs (range, more, is, v, value, h) =
    let all = ap length is in
    let rest_is = long_told looped rest more (xs ++ (to, v) ∷ []) zs h in
    omega (arith, all, rest_is)
long_told looped (If guard one other rest) told xs zs (a, b, more, is, taken, x, y, h, k, l) =
    ap length is ∙ long_append (a ++ b) more ∙
    (λ i. (long_append a b ∙ (λ j. long_told looped one a xs x h j + long_told looped other b xs y k j)) i + long_told looped rest more (if taken then x else y) zs l i)
long_told looped (For row relation label body rest) told xs zs (a, more, is, x, y, h, turns, ys, repeats, l) =
    ap length is ∙ long_append a more ∙ (λ i. long_told true body a x y h i + long_told looped rest more ys zs l i)

repeats_none : (Goes : List Item → List Item → Type 0) → ((xs zs : List Item) → Goes xs zs → zs ≡ xs)
    → (n : ℕ) (xs zs : List Item) → Repeats Goes n xs zs → zs ≡ xs
repeats_none Goes none zero xs zs h = h
repeats_none Goes none (suc n) xs zs (ys, first, rest) = repeats_none Goes none n ys zs rest ∙ none xs ys first

-- where nothing is told nothing is released
none_released : (looped : Bool) (block : Block) (told : List Told) → told ≡ [] → (xs zs : List Item)
    → CanRelease looped block told xs zs → zs ≡ xs
none_released looped End told none xs zs h = h.1
none_released looped (Do (Assign x e) rest) told none xs zs h = none_released looped rest told none xs zs h
none_released looped (Do (Write_at relation w writing outcome) rest) told none xs zs h =
    none_released looped rest told none xs zs h
none_released looped (Do (Emit e label) rest) told none xs zs h = none_released looped rest told none xs zs h
none_released looped (Do (Release e to into) rest) told none xs zs (range, more, is, v, value, h) =
    absurd (nil_cons _ more (sym none ∙ is))
none_released looped (If guard one other rest) told none xs zs (a, b, more, is, taken, x, y, h, k, l) =
    let outer = both_nil (a ++ b) more (sym none ∙ is) in
    let inner = both_nil a b (sym outer.0) in
    none_released looped rest more outer.1 (if taken then x else y) zs l ∙ either taken
    (none_released looped one a inner.0 xs x h) (none_released looped other b inner.1 xs y k)
  where
    either : (taken : Bool) → x ≡ xs → y ≡ xs → (if taken then x else y) ≡ xs
    either true one two = one
    either false one two = two
none_released looped (For row relation label body rest) told none xs zs (a, more, is, x, y, h, turns, ys, repeats, l) =
    let both = both_nil a more (sym none ∙ is) in
    none_released looped rest more both.1 ys zs l ∙ repeats_none (CanRelease true body a)
    (none_released true body a both.0) turns xs ys repeats

-- ---- from a block to a rest of it

over : (looped : Bool) → HasLists looped End [] ([] ∷ [])
over looped xs zs h = ([], here [] [], h.1 ∙ sym (append-nil xs))

is_nil : {X : Type 0} (xs : List X) → (xs ≡ []) ⊎ (¬ (xs ≡ []))
is_nil [] = inl refl
is_nil (x ∷ xs) = inr (λ e. nil_cons x xs (sym e))

-- the lists of a block alone
lists_alone : {looped : Bool} {block : Block} {told : List Told} {count : ℕ} → Multiplies looped block End told count
    → count < uncounted
    → (all : List (List Item)) × (length all ≤ count) × HasLists looped block told all
lists_alone {looped} {block} {told} {count} m counted =
    let it = m.lists counted [] ([] ∷ []) (over looped) in
    let one = times_one count in
    (it.0, omega (arith, it.1, one), subst (λ t. HasLists looped block t it.0) (append-nil told) it.2)

pub multiplies_none : {looped : Bool} {block rest : Block} → ((told : List Told) (xs zs : List Item)
    → CanRelease looped block told xs zs → CanRelease looped rest told xs zs) → releases block ≡ releases rest
    → Multiplies looped block rest [] 1
multiplies_none same long = record {
  some = omega arith;
  long = omega (arith, long);
  nothing = λ e. refl;
  loops = λ e. inl refl;
  lists = λ counted more lists has. (lists, omega arith, λ xs zs h. has xs zs (same more xs zs h));
}

pub multiplies_then : {looped : Bool} {block mid rest : Block} {one two : List Told} {m n count : ℕ}
    → Multiplies looped block mid one m → Multiplies looped mid rest two n → count ≡ min (m * n) uncounted
    → Multiplies looped block rest (one ++ two) count
multiplies_then {looped} {block} {mid} {rest} {one} {two} {m} {n} {count} first next is =
    let m_some = first.some in
    let n_some = next.some in
    let m_within : m * 1 ≤ m * n = more_times m 1 n n_some in
    let m_one = times_one m in
    let n_within : 1 * n ≤ m * n = times_more 1 m n m_some in
    let n_one = one_times n in record {
      some = omega (arith, is, m_some, n_within, n_one, n_some);
      long = let lengths = long_append one two in omega (arith, lengths, first.long, next.long);
      nothing = λ e.
          let both = both_nil one two (sym e) in
          let product : m * n ≡ 1 = λ i. first.nothing both.0 i * next.nothing both.1 i in
          omega (arith, is, product);
      loops = λ e. elim (first.loops e) [
        | inl none ↦ elim (next.loops e) [
          | inl empty ↦ inl (λ i. none i ++ empty i)
          | inr big ↦ inr (omega (arith, is, big, n_within, n_one))
        ]
        | inr big ↦ inr (omega (arith, is, big, m_within, m_one))
      ];
      lists = λ counted more lists has.
          let a = next.lists (omega (arith, is, counted, n_within, n_one)) more lists has in
          let b = first.lists (omega (arith, is, counted, m_within, m_one)) (two ++ more) a.0 a.2 in
          let whole : count ≡ m * n = omega (arith, is, counted) in
          let wider = more_times m (length a.0) (n * length lists) a.1 in
          let product : m * (n * length lists) ≡ count * length lists = sym (times_times m n (length lists))
          ∙ ap (λ k. k * length lists) (sym whole) in (
            b.0,
            omega (arith, b.1, wider, product),
            subst (λ t. HasLists looped block t b.0)
                (sym (append_assoc one two more)) b.2,
          );
    }

module _ (this : Told) (count : ℕ) (some : 1 ≤ count) (many : this.looped ≡ true → count ≡ uncounted)
    (few : this.looped ≡ false → count < uncounted → (values : List (Option Value)) × (length values ≤ count)
    × HasValues this.range values) where
  -- each value, and each list of the rest behind it
  released : (looped : Bool) (e : Expr) (rest : Block) → this.looped ≡ looped → (values : List (Option Value))
      → HasValues this.range values → (more : List Told) (lists : List (List Item)) → HasLists looped rest more lists
      → HasLists looped (Do (Release e this.to this.into) rest) (this ∷ more)
      (joined (map (λ v. (this.to, v) ∷ []) values) lists)
  released looped e rest at values has more lists all xs zs (range, behind, is, v, value, h) =
      let same : this.range ≡ range = ap (λ (t : Told). t.range) (cons_first this _ more behind is) in
      let rest_is : more ≡ behind = cons_rest this _ more behind is in
      let l = all (xs ++ (this.to, v) ∷ []) zs (subst (λ t. CanRelease looped rest t (xs ++ (this.to, v) ∷ []) zs)
      (sym rest_is) h) in
      let item = has_map (λ v. (this.to, v) ∷ []) values v (has v (subst (λ r. Admits r v) (sym same) value)) in (
        (this.to, v) ∷ l.0,
        has_joined (map (λ v. (this.to, v) ∷ []) values) lists ((this.to, v) ∷ []) l.0 item l.1,
        l.2 ∙ append_assoc xs ((this.to, v) ∷ []) l.0,
      )

  pub multiplies_release : (e : Expr) (rest : Block)
      → Multiplies this.looped (Do (Release e this.to this.into) rest) rest (this ∷ []) count
  multiplies_release e rest = record {
    some = some;
    long = refl;
    nothing = λ e. absurd (nil_cons this [] (sym e));
    loops = λ e. inr (many e);
    lists = λ counted more lists has. elim (cases_Bool this.looped) [
      | inl in_loop ↦ absurd (omega (arith, many in_loop, counted))
      | inr once ↦
          let values = few once counted in
          let long = long_joined (map (λ v. (this.to, v) ∷ []) values.0) lists ∙ ap (λ k. k * length lists)
          (long_map (λ v. (this.to, v) ∷ []) values.0) in
          let wider = times_more (length values.0) count (length lists) values.1 in (
            joined (map (λ v. (this.to, v) ∷ []) values.0) lists,
            omega (arith, long, wider),
            released this.looped e rest refl values.0 values.2 more lists has,
          )
    ];
  }

module _ {looped : Bool} {one other : Block} {a b : List Told} {m n count : ℕ} (first : Multiplies looped one End a m)
    (second : Multiplies looped other End b n)
    (none : a ++ b ≡ [] → count ≡ m) (many : ¬ (a ++ b ≡ []) → count ≡ min (m + n) uncounted) where
  -- what is told of the blocks is told of each in its place
  split : (a' b' more behind : List Told) (xs x y : List Item) → CanRelease looped one a' xs x
      → CanRelease looped other b' xs y → (a ++ b) ++ more ≡ (a' ++ b') ++ behind → (a ≡ a')
      × ((b ≡ b') × (more ≡ behind))
  split a' b' more behind xs x y h k is =
      let long_a = long_told looped one a' xs x h in
      let long_b = long_told looped other b' xs y k in
      let whole = long_append a b in
      let whole' = long_append a' b' in
      let outer = same_front (a ++ b) (a' ++ b') more behind (omega (
        arith,
        whole,
        whole',
        long_a,
        long_b,
        first.long,
        second.long,
      )) is in
      let inner = same_front a a' b b' (omega (arith, long_a, first.long)) outer.0 in
      (inner.0, (inner.1, outer.1))

  module _ (guard : Expr) (rest : Block) (more : List Told) (lists : List (List Item))
      (has : HasLists looped rest more lists) where
    silent : a ++ b ≡ [] → HasLists looped (If guard one other rest) ((a ++ b) ++ more) lists
    silent empty xs zs (a', b', behind, is, taken, x, y, h, k, l) =
        let same = split a' b' more behind xs x y h k is in
        let nil = both_nil a b (sym empty) in
        let stay_x = none_released looped one a' (sym same.0 ∙ nil.0) xs x h in
        let stay_y = none_released looped other b' (sym same.1.0 ∙ nil.1) xs y k in
        let stays : (taken : Bool) → (if taken then x else y) ≡ xs = λ t. elim t as (λ t. (if t then x else y)
        ≡ xs) [ true ↦ stay_x | false ↦ stay_y ] in
        has xs zs (subst₂ (λ t from. CanRelease looped rest t from zs) (sym same.1.1) (stays taken) l)

    either : (A B : List (List Item)) → HasLists looped one a A → HasLists looped other b B
        → HasLists looped (If guard one other rest) ((a ++ b) ++ more) (joined (A ++ B) lists)
    either A B has_a has_b xs zs (a', b', behind, is, taken, x, y, h, k, l) =
        let same = split a' b' more behind xs x y h k is in
        let one_is = has_a xs x (subst (λ t. CanRelease looped one t xs x) (sym same.0) h) in
        let other_is = has_b xs y (subst (λ t. CanRelease looped other t xs y) (sym same.1.0) k) in
        let branch : (taken : Bool) → (ys : List Item) × Contains (A ++ B) ys × ((if taken then x else y) ≡ xs ++ ys) =
        λ t. elim t as (λ t. (ys : List Item) × Contains (A ++ B) ys × ((if t then x else y) ≡ xs ++ ys)) [
          | true ↦ (one_is.0, Contains-append_left A B one_is.0 one_is.1, one_is.2)
          | false ↦ (other_is.0, Contains-append_right A B other_is.0 other_is.1, other_is.2)
        ] in
        let here_is = branch taken in
        let rest_is = has (if taken then x else y) zs (subst (λ t. CanRelease looped rest t (if taken then x else y) zs)
        (sym same.1.1) l) in (
          here_is.0 ++ rest_is.0,
          has_joined (A ++ B) lists here_is.0 rest_is.0 here_is.1 rest_is.1,
          rest_is.2 ∙ ap (λ from. from ++ rest_is.0) here_is.2 ∙ append_assoc xs here_is.0 rest_is.0,
        )

  pub multiplies_if : (guard : Expr) (rest : Block) → Multiplies looped (If guard one other rest) rest (a ++ b) count
  multiplies_if guard rest =
      let m_some = first.some in
      let n_some = second.some in record {
        some = elim (is_nil (a ++ b)) [
          | inl empty ↦ omega (arith, none empty, m_some)
          | inr full ↦ omega (
            arith,
            many full,
            m_some,
          )
        ];
        long = let lengths = long_append a b in omega (arith, lengths, first.long, second.long);
        nothing = λ empty. none empty ∙ first.nothing (both_nil a b (sym empty)).0;
        loops = λ e. elim (is_nil (a ++ b)) [
          | inl empty ↦ inl empty
          | inr full ↦ elim (first.loops e) [
            | inl nil ↦ elim (second.loops e) [
              | inl empty ↦ inl (λ i. nil i ++ empty i)
              | inr big ↦ inr (omega (arith, many full, big))
            ]
            | inr big ↦ inr (omega (arith, many full, big))
          ]
        ];
        lists = λ counted more lists has. elim (is_nil (a ++ b)) [
          | inl empty ↦
              let count_is : count ≡ 1 = none empty ∙ first.nothing (both_nil a b (sym empty)).0 in
              let size : count * length lists ≡ 1 * length lists = ap (λ k. k * length lists) count_is in
              (lists, omega (arith, size), silent guard rest more lists has empty)
          | inr full ↦
              let count_is : count ≡ m + n = omega (arith, many full, counted) in
              let A = lists_alone first (omega (arith, count_is, counted)) in
              let B = lists_alone second (omega (arith, count_is, counted)) in
              let long = long_joined (A.0 ++ B.0) lists in
              let size = long_append A.0 B.0 in
              let wider = times_more (length (A.0 ++ B.0)) count (length lists) (omega (
                arith,
                size,
                A.1,
                B.1,
                count_is,
              )) in
              (joined (A.0 ++ B.0) lists, omega (arith, long, wider), either guard rest more lists has A.0 B.0 A.2 B.2)
        ];
      }

module _ {body : Block} {a : List Told} {count : ℕ} (inside : Multiplies true body End a count) (row : List ℕ)
    (relation label : ℕ) (rest : Block) where
  turns : (looped : Bool) (more : List Told) (lists : List (List Item)) → HasLists looped rest more lists → a ≡ []
      → HasLists looped (For row relation label body rest) (a ++ more) lists
  turns looped more lists has empty xs zs (a', behind, is, x, y, h, times, ys, repeats, l) =
      let long = long_told true body a' x y h in
      let same = same_front a a' more behind (omega (arith, long, inside.long)) is in
      let stays = repeats_none (CanRelease true body a') (none_released true body a'
      (sym same.0 ∙ empty)) times xs ys repeats in
      has xs zs (subst₂ (λ t from. CanRelease looped rest t from zs) (sym same.1) stays l)

  pub multiplies_for : {looped : Bool} → Multiplies looped (For row relation label body rest) rest a count
  multiplies_for {looped} = record {
    some = inside.some;
    long = omega (arith, inside.long);
    nothing = inside.nothing;
    loops = λ e. inside.loops refl;
    lists = λ counted more lists has. elim (inside.loops refl) [
      | inl empty ↦
          let size : count * length lists ≡ 1 * length lists = ap (λ k. k * length lists) (inside.nothing empty) in
          (lists, omega (arith, size), turns looped more lists has empty)
      | inr big ↦ absurd (omega (arith, big, counted))
    ];
  }

-- ---- a whole transaction

-- so many lists at most, as a reader sees them
pub all_lists : (tx : Tx) {told : List Told} {count : ℕ} → Multiplies false tx.body End told count → count < uncounted
    → (policy : Policy) (schemes : Schemes) (c : ℕ)
    → (lists : List (List Item)) × (length lists ≤ count) × HasAll policy schemes tx c told lists
all_lists tx {told} {count} m counted policy schemes c =
    let it = lists_alone m counted in
    let seen = seen_items (labels_of policy) c in
    let long = long_map seen it.0 in (
      map seen it.0,
      omega (arith, long, it.1),
      λ items can.
          let one = it.2 [] items can in
          subst (λ (xs : List Item). Contains (map seen it.0) (seen xs)) (sym one.2) (has_map seen it.0 one.0 one.1),
    )
