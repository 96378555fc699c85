-- From which releases of the text the items of a run come.
use Rattle.std.proofs.Common.{◌≡◌, ◌⊎◌, ℕ, zero, suc, ◌+◌, ◌<◌, Bool, true, false, cond, List, [], ◌∷◌, ◌++◌, length, map, Option, refl, sym, ap, ap₂, subst, ◌∙◌, inl, inr, arith, append-nil, append_assoc, true≢false}
use Rattle.std.specs.List.{AllByRecursion}
use Rattle.std.specs.FinMap.{empty}
use Rattle.std.proofs.lemmas.List.{map-append}
use Rattle.mls_lattice.proofs.EachLemmas.{all, all_if, all_append, all_map, all_back}
use Rattle.mls_scheme.specs.declared.value.Value.{Value}
use Rattle.mls_translang.specs.Tree.{Block, End, Do, If, For, Release, Assign, Write_at, Emit}
use Rattle.mls_certcheck.specs.Meaning.{Item, run_tx}
use Rattle.mls_labeller.specs.declared.told.Told.{Told}
use Rattle.mls_labeller.specs.Releases.{Repeats, CanRelease}
use Rattle.mls_lives.specs.Releasing.{Spot, spot_of, spots_in, ToldAreInOrder, Step, IsAt, IsStep, ComesBefore, AreInOrder, ReleasesComeInOrder}

-- ---- what is told

-- as many as there are in the text, one for one
spots : (looped : Bool) (block : Block) (told : List Told) (xs zs : List Item) → CanRelease looped block told xs zs
    → map spot_of told ≡ spots_in looped block
spots looped End told xs zs h = ap (map spot_of) h.0
spots looped (Do (Assign x e) rest) told xs zs h = spots looped rest told xs zs h
spots looped (Do (Write_at relation w writing outcome) rest) told xs zs h = spots looped rest told xs zs h
spots looped (Do (Emit e label) rest) told xs zs h = spots looped rest told xs zs h
spots looped (Do (Release e to into) rest) told xs zs (range, more, is, v, value, h) =
    let first : Spot = record { to = to; into = into; looped = looped } in
    ap (map spot_of) is ∙ ap (λ ss. first ∷ ss) (spots looped rest more (xs ++ (to, v) ∷ []) zs h)
spots looped (If guard one other rest) told xs zs (a, b, more, is, taken, x, y, h, k, l) =
    let in_one = spots_in looped one in
    let in_other = spots_in looped other in
    ap (map spot_of) is ∙ map-append spot_of (a ++ b) more
    ∙ ap (λ ss. ss ++ map spot_of more) (map-append spot_of a b
    ∙ ap₂ (λ ss ts. ss ++ ts) (spots looped one a xs x h) (spots looped other b xs y k))
    ∙ ap (λ ss. (in_one ++ in_other) ++ ss) (spots looped rest more (cond taken x y) zs l)
spots looped (For row relation label body rest) told xs zs (a, more, is, x, y, h, turns, ys, repeats, l) =
    ap (map spot_of) is ∙ map-append spot_of a more
    ∙ ap₂ (λ ss ts. ss ++ ts) (spots true body a x y h) (spots looped rest more ys zs l)

pub told_in_order : ToldAreInOrder
told_in_order tx told are = spots false tx.body told [] (run_tx [] [] tx [] (λ relation. empty)).released
    (are [] [] [] (λ relation. empty))

-- what is told of the body of a loop is in one
looped_spots : (block : Block) → AllByRecursion (λ (s : Spot). s.looped ≡ true) (spots_in true block)
looped_spots End = tt
looped_spots (Do (Assign x e) rest) = looped_spots rest
looped_spots (Do (Write_at relation w writing outcome) rest) = looped_spots rest
looped_spots (Do (Emit e label) rest) = looped_spots rest
looped_spots (Do (Release e to into) rest) = (refl, looped_spots rest)
looped_spots (If guard one other rest) =
    let Looped : Spot → Type 0 = λ s. s.looped ≡ true in
    all_append Looped (spots_in true one ++ spots_in true other) (spots_in true rest)
    (all_append Looped (spots_in true one) (spots_in true other) (looped_spots one) (looped_spots other))
    (looped_spots rest)
looped_spots (For row relation label body rest) =
    all_append (λ (s : Spot). s.looped ≡ true) (spots_in true body) (spots_in true rest) (looped_spots body)
    (looped_spots rest)

each_unmapped : (P : Spot → Type 0) (told : List Told) → AllByRecursion P (map spot_of told)
    → AllByRecursion (λ t. P (spot_of t)) told
each_unmapped P [] h = tt
each_unmapped P (t ∷ told) h = (h.0, each_unmapped P told h.1)

looped_told : (block : Block) (told : List Told) (xs zs : List Item) → CanRelease true block told xs zs
    → AllByRecursion (λ t. t.looped ≡ true) told
looped_told block told xs zs h =
    each_unmapped (λ s. s.looped ≡ true) told
    (subst (AllByRecursion (λ (s : Spot). s.looped ≡ true)) (sym (spots true block told xs zs h)) (looped_spots block))

at_all : (P : Told → Type 0) (told : List Told) (k : ℕ) (t : Told) → AllByRecursion P told → IsAt told k t → P t
at_all P told k t h (before, after, is, long) =
    (all_back P before (t ∷ after) (subst (AllByRecursion P) is h)).0

-- ---- places

at_within : (told : List Told) (k : ℕ) (t : Told) → IsAt told k t → k < length told
at_within told k t (before, after, is, long) =
    let all = ap length is ∙ long_append before (t ∷ after) in
    omega (arith, all, long)
  where
    long_append : (xs ys : List Told) → length (xs ++ ys) ≡ length xs + length ys
    long_append [] ys = omega arith
    long_append (x ∷ xs) ys = let more = long_append xs ys in omega (arith, more)

-- with others behind, and before
at_front : (told more : List Told) (k : ℕ) (t : Told) → IsAt told k t → IsAt (told ++ more) k t
at_front told more k t (before, after, is, long) = (
  before,
  after ++ more,
  ap (λ ts. ts ++ more) is ∙ append_assoc before (t ∷ after) more,
  long,
)

at_back : (more told : List Told) (k : ℕ) (t : Told) → IsAt told k t → IsAt (more ++ told) (length more + k) t
at_back more told k t (before, after, is, long) = (
  more ++ before,
  after,
  ap (λ ts. more ++ ts) is ∙ sym (append_assoc more before (t ∷ after)),
  long_append more before ∙ ap (λ n. length more + n) long,
)
  where
    long_append : (xs ys : List Told) → length (xs ++ ys) ≡ length xs + length ys
    long_append [] ys = omega arith
    long_append (x ∷ xs) ys = let m = long_append xs ys in omega (arith, m)

-- ---- steps

-- steps with so many releases more before them
abbrev moved : ℕ → List Step → List Step
moved n [] = []
moved n (s ∷ ss) = record { place = n + s.place; told = s.told; item = s.item } ∷ moved n ss

abbrev items : List Step → List Item
items = map (λ (s : Step). s.item)

moved_items : (n : ℕ) (ss : List Step) → items (moved n ss) ≡ items ss
moved_items n [] = refl
moved_items n (s ∷ ss) = ap (λ is. s.item ∷ is) (moved_items n ss)

moved_each : (P Q : Step → Type 0) (n : ℕ)
    → ((s : Step) → P s → Q (record { place = n + s.place; told = s.told; item = s.item }))
    → (ss : List Step) → AllByRecursion P ss → AllByRecursion Q (moved n ss)
moved_each P Q n f [] h = tt
moved_each P Q n f (s ∷ ss) h = (f s h.0, moved_each P Q n f ss h.1)

moved_order : (n : ℕ) (ss : List Step) → AreInOrder ss → AreInOrder (moved n ss)
moved_order n [] h = tt
moved_order n (s ∷ ss) h = (
  moved_each (ComesBefore s) (ComesBefore (record { place = n + s.place; told = s.told; item = s.item })) n
      (λ t before one. let less = before one in omega (arith, less)) ss h.0,
  moved_order n ss h.1,
)

-- steps by one part of what is told, and then by the next
order_append : (n : ℕ) (ss ts : List Step) → AllByRecursion (λ (s : Step). s.place < n) ss
    → AllByRecursion (λ (t : Step). t.place < n → ⊥) ts → AreInOrder ss → AreInOrder ts → AreInOrder (ss ++ ts)
order_append n [] ts low high a b = b
order_append n (s ∷ ss) ts low high a b = (
  all_append (ComesBefore s) ss ts a.0
      (all_if _ (ComesBefore s) (λ t not_low one. later s.place t.place low.0 not_low) ts high),
  order_append n ss ts low.1 high a.1 b,
)
  where
    later : (p q : ℕ) → p < n → (q < n → ⊥) → p < q
    later p q l h = omega (arith, l, h)

-- a list of items comes by steps of what is told behind others
pub record Comes (told : List Told) (xs zs : List Item) : Type 0 where
  pub steps : List Step
  pub are : zs ≡ xs ++ items steps
  pub each : AllByRecursion (IsStep told) steps
  pub order : AreInOrder steps

comes_none : (told : List Told) (xs zs : List Item) → zs ≡ xs → Comes told xs zs
comes_none told xs zs is = record { steps = []; are = is ∙ sym (append-nil xs); each = tt; order = tt }

abbrev comes_front : (told more : List Told) (xs zs : List Item) → Comes told xs zs → Comes (told ++ more) xs zs
comes_front told more xs zs h = record {
  steps = h.steps;
  are = h.are;
  each =
      all_if (IsStep told) (IsStep (told ++ more)) (λ s i. (at_front told more s.place s.told i.0, i.1, i.2)) h.steps h.each;
  order = h.order;
}

abbrev comes_back : (more told : List Told) (xs zs : List Item) → Comes told xs zs → Comes (more ++ told) xs zs
comes_back more told xs zs h = record {
  steps = moved (length more) h.steps;
  are = h.are ∙ ap (λ is. xs ++ is) (sym (moved_items (length more) h.steps));
  each = moved_each (IsStep told) (IsStep (more ++ told)) (length more)
      (λ s i. (at_back more told s.place s.told i.0, i.1, i.2)) h.steps h.each;
  order = moved_order (length more) h.steps h.order;
}

-- by a part of what is told, and then by the rest
comes_both : (told more : List Told) (xs ys zs : List Item) → Comes told xs ys → Comes more ys zs
    → Comes (told ++ more) xs zs
comes_both told more xs ys zs h k =
    let n = length told in
    let wide = comes_front told more xs ys h in
    let late = comes_back told more ys zs k in
    record {
      steps = h.steps ++ late.steps;
      are = late.are ∙ ap (λ is. is ++ items late.steps) h.are
          ∙ append_assoc xs (items h.steps) (items late.steps)
          ∙ ap (λ is. xs ++ is) (sym (map-append (λ (s : Step). s.item) h.steps late.steps));
      each = all_append (IsStep (told ++ more)) h.steps late.steps wide.each late.each;
      order = order_append n h.steps late.steps
          (all_if (IsStep told) (λ (s : Step). s.place < n) (λ s i. at_within told s.place s.told i.0) h.steps h.each)
          (moved_each (IsStep more) (λ (t : Step). t.place < n → ⊥) n (λ s i l. omega (arith, l)) k.steps k.each)
          h.order late.order;
    }

-- ---- runs

-- steps that are all in loops need no order
looped_order : (told : List Told) → AllByRecursion (λ (t : Told). t.looped ≡ true) told
    → (ss : List Step) → AllByRecursion (IsStep told) ss → AreInOrder ss
looped_order told loops [] h = tt
looped_order told loops (s ∷ ss) h = (
  all_if (IsStep told) (ComesBefore s) (λ t i. never s t (at_all _ told s.place s.told loops h.0.0)
      (at_all _ told t.place t.told loops i.0)) ss h.1,
  looped_order told loops ss h.1,
)
  where
    never : (s t : Step) → s.told.looped ≡ true → t.told.looped ≡ true → ComesBefore s t
    never s t a b (inl e) = absurd (true≢false (sym a ∙ e))
    never s t a b (inr e) = absurd (true≢false (sym b ∙ e))

comes_again : (told : List Told) → AllByRecursion (λ (t : Told). t.looped ≡ true) told
    → (Goes : List Item → List Item → Type 0) → ((xs zs : List Item) → Goes xs zs → Comes told xs zs)
    → (turns : ℕ) (xs zs : List Item) → Repeats Goes turns xs zs → Comes told xs zs
comes_again told loops Goes one zero xs zs h = comes_none told xs zs h
comes_again told loops Goes one (suc turns) xs zs (ys, first, rest) =
    let h = one xs ys first in
    let k = comes_again told loops Goes one turns ys zs rest in
    let each = all_append (IsStep told) h.steps k.steps h.each k.each in
    record {
      steps = h.steps ++ k.steps;
      are = k.are ∙ ap (λ is. is ++ items k.steps) h.are ∙ append_assoc xs (items h.steps) (items k.steps)
          ∙ ap (λ is. xs ++ is) (sym (map-append (λ (s : Step). s.item) h.steps k.steps));
      each = each;
      order = looped_order told loops (h.steps ++ k.steps) each;
    }

comes_either : (told : List Told) (xs x y : List Item) (taken : Bool) → Comes told xs x → Comes told xs y
    → Comes told xs (cond taken x y)
comes_either told xs x y true h k = h
comes_either told xs x y false h k = k

comes : (looped : Bool) (block : Block) (told : List Told) (xs zs : List Item) → CanRelease looped block told xs zs
    → Comes told xs zs
comes looped End told xs zs h = comes_none told xs zs h.1
comes looped (Do (Assign x e) rest) told xs zs h = comes looped rest told xs zs h
comes looped (Do (Write_at relation w writing outcome) rest) told xs zs h = comes looped rest told xs zs h
comes looped (Do (Emit e label) rest) told xs zs h = comes looped rest told xs zs h
comes looped (Do (Release e to into) rest) told xs zs (range, more, is, v, value, h) =
    let this : Told = record { to = to; into = into; range = range; looped = looped } in
    let first : Comes (this ∷ []) xs (xs ++ (to, v) ∷ []) = record {
      steps = record { place = 0; told = this; item = (to, v) } ∷ [];
      are = refl;
      each = ((([], [], refl, refl), refl, value), tt);
      order = (tt, tt);
    } in
    subst (λ t. Comes t xs zs) (sym is) (comes_both (this ∷ []) more xs (xs ++ (to, v) ∷ []) zs first
    (comes looped rest more (xs ++ (to, v) ∷ []) zs h))
comes looped (If guard one other rest) told xs zs (a, b, more, is, taken, x, y, h, k, l) =
    subst (λ t. Comes t xs zs) (sym is) (comes_both (a ++ b) more xs (cond taken x y) zs
    (comes_either (a ++ b) xs x y taken (comes_front a b xs x (comes looped one a xs x h))
    (comes_back a b xs y (comes looped other b xs y k))) (comes looped rest more (cond taken x y) zs l))
comes looped (For row relation label body rest) told xs zs (a, more, is, x, y, h, turns, ys, repeats, l) =
    subst (λ t. Comes t xs zs) (sym is) (comes_both a more xs ys zs
    (comes_again a (looped_told body a x y h) (CanRelease true body a) (comes true body a) turns xs ys repeats)
    (comes looped rest more ys zs l))

pub releases_come : ReleasesComeInOrder
releases_come tx told are ls schemes args db =
    let h = comes false tx.body told [] (run_tx ls schemes tx args db).released (are ls schemes args db) in
    (h.steps, h.are, h.each, h.order)
