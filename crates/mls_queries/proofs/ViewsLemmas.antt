-- Lists of kept views: what a turn of a cache, and all its turns, leave.
use Rattle.std.proofs.Common.{◌≡◌, ℕ, suc, ◌-◌, ◌+◌, ◌<◌, ◌≤◌, Bool, true, false, cond, not, [], ◌∷◌, ◌++◌, length, take, Option, Some, None, refl, sym, ap, ◌∙◌, subst, subst₂, inl, inr, arith, append-nil, append_assoc, length-append, ◌&&◌, nat_eq, ◌⊎◌, IfSome, true≢false, take_all, unwrap_or}
use Rattle.std.specs.List.{AllByRecursion, IsDistinct}
use Rattle.std.specs.Option.{option_map_or}
use Rattle.std.specs.Map.{keys_of, lookup_entry, remove_entry}
use Rattle.std.specs.Cmp.{nat_eq_equiv}
use Rattle.mls_lattice.specs.Labels.{Labels, below}
use Rattle.mls_scheme.specs.declared.place.Place.{Place}
use Rattle.mls_scheme.specs.Spelling.{IsSpelledKey}
use Rattle.lru.specs.LruCache.{LruCache, lru_cache, last_entry, promoted, put_entries}
use Rattle.lru.proofs.Pairs.{last_of_push, cut_end}
use Rattle.mls_queries.specs.declared.views.ViewKey.{ViewKey}
use Rattle.mls_queries.specs.Views.{Kept, KeptView, same_key, outlives, noted, no_place, IsFollowedBy, AreFollowed}

abbrev pub Entry : Type 0
Entry = ViewKey × KeptView

abbrev pub Cache : Type 0
Cache = LruCache ViewKey KeptView

-- ---- keys

pub key_refl : (a : ViewKey) → same_key a a ≡ true
key_refl a = λ i. nat_eq_equiv.refl a.relation i && nat_eq_equiv.refl a.label i

key_symm : (a b : ViewKey) → same_key a b ≡ same_key b a
key_symm a b = λ i. nat_eq_equiv.symm a.relation b.relation i && nat_eq_equiv.symm a.label b.label i

-- ---- the last view, where keys are distinct

apart_from_last : (k : ViewKey) (es : Kept) (e : Entry) → AllByRecursion (λ j. same_key k j ≡ false)
    (keys_of (es ++ e ∷ [])) → same_key k e.0 ≡ false
apart_from_last k [] e h = h.0
apart_from_last k (x ∷ es) e h = apart_from_last k es e h.1

last_found : (es : Kept) (e : Entry) → IsDistinct same_key (keys_of (es ++ e ∷ []))
    → lookup_entry (same_key e.0) (es ++ e ∷ []) ≡ Some e
unfolding IsDistinct
last_found [] e d = ap (λ b. cond b (Some e) None) (key_refl e.0)
last_found (x ∷ es) e d =
    ap (λ b. cond b (Some x) (lookup_entry (same_key e.0) (es ++ e ∷ []))) (key_symm e.0 x.0
    ∙ apart_from_last x.0 es e d.0) ∙ last_found es e d.1

last_removed : (es : Kept) (e : Entry) → IsDistinct same_key (keys_of (es ++ e ∷ []))
    → remove_entry (same_key e.0) (es ++ e ∷ []) ≡ es
unfolding IsDistinct
last_removed [] e d = ap (λ b. cond b [] (e ∷ [])) (key_refl e.0)
last_removed (x ∷ es) e d =
    ap (λ b. cond b (es ++ e ∷ []) (x ∷ remove_entry (same_key e.0) (es ++ e ∷ []))) (key_symm e.0 x.0
    ∙ apart_from_last x.0 es e d.0)
    ∙ ap (λ l. x ∷ l) (last_removed es e d.1)

last_promoted : (es : Kept) (e : Entry) → IsDistinct same_key (keys_of (es ++ e ∷ []))
    → promoted (same_key e.0) (es ++ e ∷ []) ≡ e ∷ es
last_promoted es e d =
    ap (λ o. option_map_or (λ f. f ∷ remove_entry (same_key e.0) (es ++ e ∷ [])) o (es ++ e ∷ [])) (last_found es e d)
    ∙ ap (λ l. e ∷ l) (last_removed es e d)

-- no other one has its key
last_apart : (es : Kept) (e : Entry) → IsDistinct same_key (keys_of (es ++ e ∷ [])) → lookup_entry (same_key e.0) es
    ≡ None
unfolding IsDistinct
last_apart [] e d = refl
last_apart (x ∷ es) e d =
    ap (λ b. cond b (Some x) (lookup_entry (same_key e.0) es)) (key_symm e.0 x.0 ∙ apart_from_last x.0 es e d.0)
    ∙ last_apart es e d.1

-- ---- one turn

some_entry : (a b : Entry) → Some a ≡ Some b → a ≡ b
some_entry a b e = cc

module _ (c : Cache) (es : Kept) (e : Entry) (is : c.entries ≡ es ++ e ∷ []) where
  last_is : last_entry c.entries ≡ Some e
  last_is = ap last_entry is ∙ (last_of_push es e).0

  pub the_last : (k : ViewKey) (v : KeptView) → Some (k, v) ≡ last_entry c.entries → (k, v) ≡ e
  the_last k v last = some_entry (k, v) e (last ∙ last_is)

  -- without the last one
  pub popped : lru_cache (take (length c.entries - 1) c.entries) c.cap ≡ lru_cache es c.cap
  popped = ap (λ l. lru_cache l c.cap) (ap (λ l. take (length l - 1) l) is ∙ (last_of_push es e).1)

  -- with another one of its key, as the first
  pub put_again : IsDistinct same_key (keys_of c.entries) → length c.entries ≤ c.cap → (v : KeptView)
      → put_entries same_key (lru_cache es c.cap) e.0 v ≡ (e.0, v) ∷ es
  put_again distinct room v =
      ap (λ o. option_map_or (λ (f : Entry). (f.0, v) ∷ remove_entry (same_key e.0) es) o
      ((e.0, v) ∷ take (c.cap - 1) es)) (last_apart es e (subst (λ l. IsDistinct same_key (keys_of l)) is distinct))
      ∙ ap (λ l. (e.0, v) ∷ l) (take_all (c.cap - 1) es (let a : length c.entries ≡ length es + 1 = ap length is
      ∙ length-append es (e ∷ []) in omega (arith, a, room)))

module _ (ls : Labels) (relation w : ℕ) (p : Place) (c : Cache) (k : ViewKey) (v : KeptView) (last : Some (k, v)
    ≡ last_entry c.entries) (es : Kept) (e : Entry) (is : c.entries ≡ es ++ e ∷ []) where
  abbrev Next : Cache → Type 0
  Next d = (new : Kept) × (d ≡ lru_cache new c.cap) × IsFollowedBy ls relation w p e es new

  outlived : (b : Bool) → (nat_eq relation k.relation && below ls w k.label) ≡ b → outlives ls relation w e ≡ not b
  outlived b h = ap not (ap (λ (q : Entry). nat_eq relation q.0.relation && below ls w q.0.label)
      (sym (the_last c es e is k v last)) ∙ h)

  pub turned_over : (nat_eq relation k.relation && below ls w k.label) ≡ false → IsDistinct same_key (keys_of c.entries)
      → (d : Cache) → d ≡ lru_cache (promoted (same_key k) c.entries) c.cap → Next d
  turned_over h distinct d are = (
    e ∷ es,
    are ∙ ap (λ l. lru_cache l c.cap)
        (ap (λ (q : Entry). promoted (same_key q.0) c.entries) (the_last c es e is k v last)
        ∙ ap (promoted (same_key e.0)) is ∙ last_promoted es e
        (subst (λ l. IsDistinct same_key (keys_of l)) is distinct)),
    record { stays = λ t. refl; noted = λ f. absurd (true≢false (sym (outlived false h) ∙ f)) },
  )

  pub turned_out : (nat_eq relation k.relation && below ls w k.label) ≡ true → (d : Cache)
      → (IsSpelledKey p.key × (d ≡ lru_cache ((e.0, noted p e.1) ∷ es) c.cap)) ⊎ (d ≡ lru_cache es c.cap) → Next d
  turned_out h d (inl are) = (
    (e.0, noted p e.1) ∷ es,
    are.1,
    record { stays = λ t. absurd (true≢false (sym t ∙ outlived true h)); noted = λ f. inl (are.0, refl) },
  )
  turned_out h d (inr are) = (
    es,
    are,
    record {
      stays = λ t. absurd (true≢false (sym t ∙ outlived true h));
      noted =
          λ f. inr refl;
    },
  )

-- ---- all turns

all_front : (P : Entry → Type 0) (xs ys : Kept) → AllByRecursion P (xs ++ ys) → AllByRecursion P xs
all_front P [] ys h = tt
all_front P (x ∷ xs) ys h = (h.0, all_front P xs ys h.1)

all_back : (P : Entry → Type 0) (xs ys : Kept) → AllByRecursion P (xs ++ ys) → AllByRecursion P ys
all_back P [] ys h = h
all_back P (x ∷ xs) ys h = all_back P xs ys h.1

all_joined : (P : Entry → Type 0) (xs ys : Kept) → AllByRecursion P xs → AllByRecursion P ys
    → AllByRecursion P (xs ++ ys)
all_joined P [] ys h k = k
all_joined P (x ∷ xs) ys h k = (h.0, all_joined P xs ys h.1 k)

none_of : (es : Kept) → length es ≤ 0 → es ≡ []
none_of [] h = refl
none_of (e ∷ es) h = absurd (omega arith)

module _ (ls : Labels) (relation w : ℕ) (p : Place) where
  -- what is true of each view, of those that stay and of those in which a write is noted
  module _ (P Q : Entry → Type 0) (stays : (e : Entry) → outlives ls relation w e ≡ true → P e → Q e)
      (more : (e : Entry) → outlives ls relation w e ≡ false → IsSpelledKey p.key → P e → Q (e.0, noted p e.1)) where
    one_followed : (e : Entry) (left new : Kept) → IsFollowedBy ls relation w p e left new → P e → AllByRecursion Q left
        → AllByRecursion Q new
    one_followed e left new f h rest = elim (outlives ls relation w e) as (λ b. outlives ls relation w e ≡ b
        → AllByRecursion Q new) [
          | true ↦ λ t. subst (AllByRecursion Q) (sym (f.stays t)) (stays e t h, rest)
          | false ↦ λ t. elim (f.noted t) [
            | inl n ↦ subst (AllByRecursion Q) (sym n.1) (more e t n.0 h, rest)
            | inr n ↦ subst (AllByRecursion Q) (sym n) rest
          ]
        ] refl

    pub all_followed : (es new : Kept) → AreFollowed ls relation w p es new → AllByRecursion P es → AllByRecursion Q new
    all_followed [] new f h = subst (AllByRecursion Q) (sym f) tt
    all_followed (e ∷ es) new f h = one_followed e f.0 new f.2 h.0 (all_followed es f.0 f.1 h.1)

  one_fewer : (e : Entry) (left new : Kept) → IsFollowedBy ls relation w p e left new → length new ≤ length left + 1
  one_fewer e left new f = elim (outlives ls relation w e) as (λ b. outlives ls relation w e ≡ b → length new
      ≤ length left + 1) [
        | true ↦ λ t. (let a : length new ≡ suc (length left) = ap length (f.stays t) in omega (arith, a))
        | false ↦ λ t. elim (f.noted t) [
          | inl n ↦ (let a : length new ≡ suc (length left) = ap length n.1 in omega (arith, a))
          | inr n ↦ (let a : length new ≡ length left = ap length n in omega (arith, a))
        ]
      ] refl

  pub followed_fewer : (es new : Kept) → AreFollowed ls relation w p es new → length new ≤ length es
  followed_fewer [] new f = let a : length new ≡ 0 = ap length f in omega (arith, a)
  followed_fewer (e ∷ es) new f = let a = followed_fewer es f.0 f.1 in let b = one_fewer e f.0 new f.2
      in omega (arith, a, b)

-- a place without a key is not noted, so that nothing is said of it
one_unnamed : (ls : Labels) (relation w : ℕ) (p : Place) (e : Entry) (left new : Kept)
    → IsFollowedBy ls relation w no_place e left new → IsFollowedBy ls relation w p e left new
one_unnamed ls relation w p e left new f = record {
  stays = f.stays;
  noted = λ t. elim (f.noted t) [ inl n ↦ (let some = n.0.count.some in absurd (omega (arith, some))) | inr n ↦ inr n ];
}

unnamed : (ls : Labels) (relation w : ℕ) (p : Place) (es new : Kept) → AreFollowed ls relation w no_place es new
    → AreFollowed ls relation w p es new
unnamed ls relation w p [] new f = f
unnamed ls relation w p (e ∷ es) new f = (
  f.0,
  unnamed ls relation w p es f.0 f.1,
  one_unnamed ls relation w p e f.0 new f.2,
)

-- the place of an entity, where it was named
pub named_followed : (ls : Labels) (relation w : ℕ) (p : Place) (o : Option Place) → IfSome o (λ q. q ≡ p)
    → (es new : Kept) → AreFollowed ls relation w (unwrap_or o no_place) es new → AreFollowed ls relation w p es new
named_followed ls relation w p None is es new f = unnamed ls relation w p es new f
named_followed ls relation w p (Some q) is es new f = subst (λ x. AreFollowed ls relation w x es new) is f

module _ (ls : Labels) (relation w : ℕ) (p : Place) (start : Cache) where
  -- after i turns: the views at the front of the list are where they were, and what is left of those behind stands
  -- before them
  pub record Turned (i : ℕ) (now : Cache) : Type 0 where
    pub front : Kept
    pub back : Kept
    pub left : Kept
    pub whole : start.entries ≡ front ++ back
    pub count : length front + i ≡ length start.entries
    pub followed : AreFollowed ls relation w p back left
    pub are : now ≡ lru_cache (left ++ front) start.cap

  pub turned_none : Turned 0 start
  turned_none = record {
    front = start.entries;
    back = [];
    left = [];
    whole = sym (append-nil start.entries);
    count =
        omega arith;
    followed = refl;
    are = refl;
  }

  next_left : (x : Entry) (left us new : Kept) → IsFollowedBy ls relation w p x (left ++ us) new → (more : Kept)
      × IsFollowedBy ls relation w p x left more × (new ≡ more ++ us)
  next_left x left us new f = elim (outlives ls relation w x) as (λ b. outlives ls relation w x ≡ b → (more : Kept)
      × IsFollowedBy ls relation w p x left more × (new ≡ more ++ us)) [
        | true ↦ λ t. (x ∷ left, record { stays = λ s. refl; noted = λ n. absurd (true≢false (sym t ∙ n)) }, f.stays t)
        | false ↦ λ t. elim (f.noted t) [
          | inl n ↦ (
            (x.0, noted p x.1) ∷ left,
            record {
              stays = λ s. absurd (true≢false (sym s ∙ t));
              noted =
                  λ k. inl (n.0, refl);
            },
            n.1,
          )
          | inr n ↦ (left, record { stays = λ s. absurd (true≢false (sym s ∙ t)); noted = λ k. inr refl }, n)
        ]
      ] refl

  pub turned_more : (i : ℕ) (now new : Cache) → Turned i now → i < length start.entries
      → ((es : Kept) (e : Entry) → now.entries ≡ es ++ e ∷ [] → (left : Kept) × (new ≡ lru_cache left now.cap)
      × IsFollowedBy ls relation w p e es left)
      → Turned (i + 1) new
  turned_more i now new t within turn =
      let cut = cut_end t.front (let a = t.count in omega (arith, a)) in
      let us = cut.0 in
      let x = cut.1 in
      let turned = turn (t.left ++ us) x (ap (λ (c : Cache). c.entries) t.are ∙ ap (λ l. t.left ++ l) cut.2
      ∙ sym (append_assoc t.left us (x ∷ []))) in
      let next = next_left x t.left us turned.0 turned.2 in
      record {
        front = us;
        back = x ∷ t.back;
        left = next.0;
        whole = t.whole ∙ ap (λ l. l ++ t.back) cut.2 ∙ append_assoc us (x ∷ []) t.back;
        count = (let a = t.count in let b : length t.front ≡ length us + 1 = ap length cut.2 ∙ length-append us (x ∷ [])
            in omega (arith, a, b));
        followed = (t.left, t.followed, next.1);
        are = turned.1 ∙ (λ j. lru_cache (next.2 j) ((t.are j).cap));
      }

  pub turned_all : (i : ℕ) (now : Cache) → Turned i now → length start.entries ≤ i → (now.cap ≡ start.cap)
      × AreFollowed ls relation w p start.entries now.entries
  turned_all i now t l =
      let none = none_of t.front (let a = t.count in omega (arith, a)) in
      let all : start.entries ≡ t.back = t.whole ∙ ap (λ l. l ++ t.back) none in
      let are : now.entries ≡ t.left = ap (λ (c : Cache). c.entries) t.are ∙ ap (λ l. t.left ++ l) none
      ∙ append-nil t.left in
      (ap (λ (c : Cache). c.cap) t.are, subst₂ (AreFollowed ls relation w p) (sym all) (sym are) t.followed)

  pub turned_labels : (count i : ℕ) (now : Cache) → Turned i now → AllByRecursion (λ e. e.0.label < count) start.entries
      → AllByRecursion (λ e. e.0.label < count) now.entries
  turned_labels count i now t h =
      let P : Entry → Type 0 = λ e. e.0.label < count in
      let all = subst (AllByRecursion P) t.whole h in
      subst (λ (c : Cache). AllByRecursion P c.entries) (sym t.are)
      (all_joined P t.left t.front (all_followed ls relation w p P P (λ e b k. k)
      (λ e b s k. k) t.back t.left t.followed (all_back P t.front t.back all)) (all_front P t.front t.back all))
