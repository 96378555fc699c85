-- The search back from the ends of chains finds a shortest one.
use Rattle.std.proofs.Common.{◌≡◌, ℕ, zero, suc, ◌+◌, ◌<◌, true, false, List, [], ◌∷◌, ◌++◌, length, map, get_or, take, refl, sym, ap, ◌∙◌, subst, arith, length-append, inl, inr, Option, Some, None, ◌⊎◌, Contains, true≢false}
use Rattle.std.specs.List.{AllByRecursion}
use Rattle.std.proofs.Math.ListN.{get_or-map}
use Rattle.std.proofs.lemmas.List.{take_more, length-map}
use Rattle.std.proofs.lemmas.List.Elements.{Contains-append_left, Contains-append_right, Contains-append_cases, Contains-push, Contains-push_cases}
use Rattle.mls_lattice.specs.Policy.{Policy}
use Rattle.mls_lattice.proofs.EachLemmas.{all_at}
use Rattle.mls_translang.specs.Tx.{Tx}
use Rattle.mls_certcheck.specs.declared.flow.Slot.{Slot}
use Rattle.mls_certcheck.specs.declared.flow.Source.{Source}
use Rattle.mls_certcheck.specs.declared.flow.Source.TheVariants.{Held}
use Rattle.mls_certcheck.specs.declared.flow.Line.{Line}
use Rattle.mls_certcheck.specs.declared.refusal.Refusal.{Refusal}
use Rattle.mls_explain.specs.declared.chain.Chain.{Chain}
use Rattle.mls_explain.specs.declared.search.Tail.{Tail}
use Rattle.mls_explain.specs.declared.step.Step.{Step}
use Rattle.mls_explain.specs.Steps.{step}
use Rattle.mls_explain.specs.Chains.{is_root, Leads, end_of, Sink, sink, IsBroken, IsChain, IsShortestChain}
use Rattle.mls_explain.specs.Search.{chain_of, tails_out, steps_out, IsAt, IsTaken, IsRound, IsAhead, IsBack, IsUnderway}

-- ---- what lists contain

pub up_to : {A : Type 0} (P : List A → Type 0) (xs : List A) (i : ℕ) (x : A) → i < length xs → x ≡ get_or xs i x
    → P (take i xs ++ x ∷ []) → P (take (i + 1) xs)
up_to P xs i x within is h = subst P (sym (take_more xs i x within ∙ ap (λ y. take i xs ++ y ∷ []) (sym is))) h

none_in : {A : Type 0} (x : A) → Contains [] x → ⊥
none_in x h = let lt = h.1 in absurd (omega (arith, lt))

contained_at : {A : Type 0} (P : A → Type 0) (xs : List A) (x : A) → AllByRecursion P xs → Contains xs x → P x
contained_at P xs x h k = subst P k.2 (all_at P xs k.0 x k.1 h)

first_or_later : {A : Type 0} (x : A) (xs : List A) (y : A) → Contains (x ∷ xs) y → (x ≡ y) ⊎ Contains xs y
first_or_later x xs y h = at h.0 h.1 h.2
  where
    at : (k : ℕ) → k < length (x ∷ xs) → get_or (x ∷ xs) k y ≡ y → (x ≡ y) ⊎ Contains xs y
    at zero lt e = inl e
    at (suc k) lt e = inr (k, omega (arith, lt), e)

in_map : {A B : Type 0} (f : A → B) (xs : List A) (x : A) → Contains xs x → Contains (map f xs) (f x)
in_map f xs x h = (h.0, rw (length-map xs f) h.1, get_or-map f xs h.0 x ∙ ap f h.2)

from_map : {A B : Type 0} (f : A → B) (xs : List A) (y : B) → Contains (map f xs) y → (x : A) × Contains xs x
    × (f x ≡ y)
from_map f [] y h = absurd (none_in y h)
from_map f (x ∷ xs) y h =
    elim (first_or_later (f x) (map f xs) y h) [
      | inl e ↦ (x, (0, omega arith, refl), e)
      | inr k ↦ let m = from_map f xs y k in (m.0, Contains-append_right (x ∷ []) xs m.0 m.1, m.2)
    ]

leads_on : (P Q : Step → Type 0) → ((s : Step) → P s → Q s) → (s : Source) (ts : List Slot) → Leads P s ts
    → Leads Q s ts
leads_on P Q f s [] h = tt
leads_on P Q f s (t ∷ ts) h = (f (step s t) h.0, leads_on P Q f (Held t) ts h.1)

-- ---- a round

pub round_none : (tails : List Tail) → IsRound tails [] [] []
round_none tails = record {
  each = λ l k. absurd (none_in l k);
  stays = λ l k. absurd (none_in l k);
  taken = λ b k. absurd (none_in b k);
  count = refl;
}

module _ (tails : List Tail) (left : List (ℕ × Step)) (l : ℕ × Step) (more : List Tail) (rest : List (ℕ × Step))
    (round : IsRound tails left more rest) where
  pub round_taken : (b : Tail) → IsTaken tails l b → IsRound tails (left ++ l ∷ []) (more ++ b ∷ []) rest
  round_taken b is = record {
    each = λ m k.
        elim (Contains-push_cases left l m k) [
          | inl old ↦ elim (round.each m old) [
            | inl stays ↦ inl stays
            | inr t ↦ inr (
              t.0,
              Contains-append_left more
                  (b ∷ []) t.0 t.1,
              t.2,
            )
          ]
          | inr e ↦ inr (b, Contains-push more b, subst (λ (n : ℕ × Step). IsTaken tails n b) e is)
        ];
    stays = λ m k. let h = round.stays m k in (Contains-append_left left (l ∷ []) m h.0, h.1);
    taken = λ c k.
        elim (Contains-push_cases more b c k) [
          | inl old ↦ let h = round.taken c old in (h.0, Contains-append_left left (l ∷ []) h.0 h.1, h.2)
          | inr e ↦ (l, Contains-push left l, subst (IsTaken tails l) e is)
        ];
    count = omega (arith, round.count, length-append more (b ∷ []), length-append left (l ∷ []));
  }

  pub round_left : AllByRecursion (λ a. IsAt l.0 l.1.target a → ⊥) tails → IsRound tails (left ++ l ∷ []) more
      (rest ++ l ∷ [])
  round_left none = record {
    each = λ m k.
        elim (Contains-push_cases left l m k) [
          | inl old ↦ elim (round.each m old) [
            | inl stays ↦ inl (Contains-append_left rest
                (l ∷ []) m stays)
            | inr t ↦ inr t
          ]
          | inr e ↦ inl (subst (Contains (rest ++ l ∷ [])) e (Contains-push rest l))
        ];
    stays = λ m k.
        elim (Contains-push_cases rest l m k) [
          | inl old ↦ let h = round.stays m old in (Contains-append_left left (l ∷ []) m h.0, h.1)
          | inr e ↦ (
            subst (Contains (left ++ l ∷ [])) e (Contains-push left l),
            λ a among. subst (λ (n : ℕ × Step). IsAt n.0 n.1.target a → ⊥) e (contained_at (λ a. IsAt l.0 l.1.target a
                → ⊥) tails a none among),
          )
        ];
    taken = λ c k. let h = round.taken c k in (h.0, Contains-append_left left (l ∷ []) h.0 h.1, h.2);
    count = omega (arith, round.count, length-append rest (l ∷ []), length-append left (l ∷ []));
  }

-- what was ahead of a tail that is no root is ahead of those of the next round
module _ (tails more : List Tail) (left rest : List (ℕ × Step)) (round : IsRound tails left more rest) (size : ℕ)
    (even : (a : Tail) → Contains tails a → length a.slots ≡ size) (limit : ℕ) (a : Tail) (among : Contains tails a)
    (same : a.limit ≡ limit) where
  ahead_on : (s : Source) (ts : List Slot) → (a.root ≡ s → ⊥) → Leads (λ step. Contains left (limit, step)) s ts
      → end_of s ts ≡ a.root → IsAhead more rest limit s (length ts + size)
  ahead_on s [] differs leads ends = absurd (differs (sym ends))
  ahead_on s (t ∷ ts) differs leads ends =
      elim (round.each (limit, step s t) leads.0) [
        | inl stays ↦
            let later = ahead_on (Held t) ts (λ e. (round.stays (limit, step s t) stays).1 a among (
              same,
              e,
            )) leads.1 ends in
            record {
              tail = later.tail;
              among = later.among;
              same = later.same;
              slots = t ∷ later.slots;
              leads = (stays, later.leads);
              ends = later.ends;
              within = let w = later.within in omega (arith, w);
            }
        | inr taken ↦
            let k = taken.2 in
            record {
              tail = taken.0;
              among = taken.1;
              same = ap (λ (b : Tail). b.limit) k.is ∙ k.at.0;
              slots = [];
              leads = tt;
              ends = ap (λ (b : Tail). b.root) (sym k.is);
              within = let e = ap (λ (b : Tail). length b.slots) k.is in let z = even k.tail k.among
                  in omega (arith, e, z);
            }
      ]

-- ---- the search

module _ (p : Policy) (tx : Tx) (steps : List Step) where
  module _ (Ends : Sink → Type 0) (size : ℕ) (tails : List Tail) (left : List (ℕ × Step))
      (h : IsUnderway p tx steps Ends size tails left) where
    even : (a : Tail) → Contains tails a → length a.slots ≡ size
    even a among = (h.back a among).2.size

    pub round_done : (more : List Tail) (rest : List (ℕ × Step)) → IsRound tails left more rest
        → AllByRecursion (λ a. is_root p tx a.limit a.root ≡ false) tails
        → IsUnderway p tx steps Ends (suc size) more rest
    round_done more rest round none = record {
      back = λ b k.
          let m = round.taken b k in
          let t = m.2 in
          let old = h.back t.tail t.among in
          let w = old.2 in (
            old.0,
            old.1,
            subst (λ (b : Tail). IsBack steps (suc size) b old.0) (sym t.is) (record {
              limit = w.limit;
              leads = (h.own m.0 m.1, subst (λ (s : Source). Leads (Contains steps) s t.tail.slots) t.at.1 w.leads);
              ends = subst (λ (s : Source). Contains old.0.sources (end_of s t.tail.slots)) t.at.1 w.ends;
              size = ap suc w.size;
            }),
          );
      own = λ l k. h.own l (round.stays l k).0;
      ahead = λ c o end w.
          let x = h.ahead c o end w in
          let no_root = contained_at (λ a. is_root p tx a.limit a.root ≡ false) tails x.tail none x.among in
          let differs : x.tail.root ≡ c.root → ⊥ = λ e. true≢false
          (sym w.root ∙ (λ i. is_root p tx (sym x.same i) (sym e i)) ∙ no_root) in
          let y = ahead_on tails more left rest round size even o.limit x.tail x.among x.same c.root x.slots differs x.leads x.ends in
          record {
            tail = y.tail;
            among = y.among;
            same = y.same;
            slots = y.slots;
            leads = y.leads;
            ends = y.ends;
            within = let m = y.within in let n = x.within in let z = even x.tail x.among in omega (arith, m, n, z);
          };
    }

    pub root_found : (a : Tail) → Contains tails a → is_root p tx a.limit a.root ≡ true
        → IsShortestChain p tx steps Ends (chain_of a)
    root_found a among is =
        let t = h.back a among in
        let w = t.2 in
        record {
          chain = (
            t.0,
            t.1,
            record {
              root = ap (λ (n : ℕ). is_root p tx n a.root) (sym w.limit) ∙ is;
              leads = w.leads;
              ends = w.ends;
            },
          );
          least = λ c d.
              let x = h.ahead c d.0 d.1 d.2 in
              let m = x.within in
              let z = even x.tail x.among in
              let y = w.size in
              omega (arith, m, y, z);
        }

  pub none_found : (Ends : Sink → Type 0) (size : ℕ) (tails : List Tail) (left : List (ℕ × Step))
      → IsUnderway p tx steps Ends size tails left → length tails ≡ 0 → (c : Chain) → IsChain p tx steps Ends c → ⊥
  none_found Ends size tails left h none c d = let x = h.ahead c d.0 d.1 d.2 in let lt = x.among.1
      in absurd (omega (arith, lt, none))

-- ---- where it begins

module _ (steps : List Step) where
  -- what a sink adds are ends of chains
  tails_back : (out : Option Sink) (a : Tail) → Contains (tails_out out) a → (o : Sink) × (out ≡ Some o)
      × IsBack steps 0 a o
  tails_back None a k = absurd (none_in a k)
  tails_back (Some o) a k =
      let m = from_map _ o.sources a k in (
        o,
        refl,
        subst (λ (a : Tail). IsBack steps 0 a o) m.2 (record {
          limit = refl;
          leads = tt;
          ends = m.1;
          size =
              refl;
        }),
      )

  steps_back : (out : Option Sink) (l : ℕ × Step) → Contains (steps_out steps out) l → Contains steps l.1
  steps_back None l k = absurd (none_in l k)
  steps_back (Some o) l k = let m = from_map _ steps l k in subst (λ (l : ℕ × Step). Contains steps l.1) m.2 m.1

module _ (p : Policy) (tx : Tx) (steps : List Step) (hi : ℕ) (broken : Refusal) where
  abbrev IsBegunBy : List Line → List Tail → List (ℕ × Step) → Type 0
  IsBegunBy lines tails left = IsUnderway p tx steps (IsBroken hi lines broken) 0 tails left

  pub start_none : IsBegunBy [] [] []
  start_none = record {
    back = λ a k. absurd (none_in a k);
    own = λ l k. absurd (none_in l k);
    ahead = λ c o end w. absurd (none_in end.0 end.1);
  }

  module _ (seen : List Line) (l : Line) (tails : List Tail) (left : List (ℕ × Step))
      (h : IsBegunBy seen tails left) where
    earlier : (a : Tail) → Contains tails a → (o : Sink) × IsBroken hi (seen ++ l ∷ []) broken o × IsBack steps 0 a o
    earlier a k = let t = h.back a k in (
      t.0,
      (t.1.0, Contains-append_left seen (l ∷ []) t.1.0 t.1.1, t.1.2, t.1.3),
      t.2,
    )

    pub start_other : (l.refusal ≡ broken → ⊥) → IsBegunBy (seen ++ l ∷ []) tails left
    start_other differs = record {
      back = earlier;
      own = h.own;
      ahead = λ c o end w.
          elim (Contains-push_cases seen l end.0 end.1) [
            | inl among ↦ h.ahead c o (end.0, among, end.2, end.3) w
            | inr e ↦ absurd (differs (ap (λ (m : Line). m.refusal) e ∙ end.2))
          ];
    }

    abbrev more : List Tail
    more = tails_out (sink hi l.flow)

    abbrev all : List (ℕ × Step)
    all = steps_out steps (sink hi l.flow)

    start_same : l.refusal ≡ broken → IsBegunBy (seen ++ l ∷ []) (tails ++ more) (left ++ all)
    start_same same = record {
      back = λ a k.
          elim (Contains-append_cases tails more a k) [
            | inl old ↦ earlier a old
            | inr new ↦ let t = tails_back steps (sink hi l.flow) a new in (
              t.0,
              (l, Contains-push seen l, same, t.1),
              t.2,
            )
          ];
      own = λ m k. elim (Contains-append_cases left all m k) [
        | inl old ↦ h.own m old
        | inr new ↦ steps_back steps
            (sink hi l.flow) m new
      ];
      ahead = λ c o end w.
          elim (Contains-push_cases seen l end.0 end.1) [
            | inl among ↦
                let x = h.ahead c o (end.0, among, end.2, end.3) w in
                record {
                  tail = x.tail;
                  among = Contains-append_left tails more x.tail x.among;
                  same = x.same;
                  slots = x.slots;
                  leads = leads_on _ _ (λ s k. Contains-append_left left all (o.limit, s) k) c.root x.slots x.leads;
                  ends = x.ends;
                  within = x.within;
                }
            | inr e ↦
                let is = sym (ap (λ (m : Line). sink hi m.flow) e ∙ end.3) in
                let tail = subst (λ out. (s : Source) → Contains o.sources s
                → Contains (tails_out out) (record { limit = o.limit; root = s; slots = [] })) is
                (in_map _ o.sources) in
                let step = subst (λ out. (s : Step) → Contains steps s → Contains (steps_out steps out) (o.limit, s)) is
                (in_map _ steps) in
                record {
                  tail = record { limit = o.limit; root = end_of c.root c.slots; slots = [] };
                  among = Contains-append_right tails more _ (tail (end_of c.root c.slots) w.ends);
                  same = refl;
                  slots = c.slots;
                  leads = leads_on _ _ (λ s k. Contains-append_right left all (o.limit, s)
                      (step s k)) c.root c.slots w.leads;
                  ends = refl;
                  within = omega arith;
                }
          ];
    }

    pub start_more : (ts : List Tail) (ss : List (ℕ × Step)) → ts ≡ tails ++ more → ss ≡ left ++ all
        → l.refusal ≡ broken → IsBegunBy (seen ++ l ∷ []) ts ss
    start_more ts ss e f same = subst (λ x. IsBegunBy (seen ++ l ∷ []) x ss) (sym e)
        (subst (IsBegunBy (seen ++ l ∷ []) (tails ++ more)) (sym f) (start_same same))
