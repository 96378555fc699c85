-- What is read of two lists of tokens that begin alike, up to the first place where they may differ.
use Rattle.std.proofs.Common.{◌≡◌, ℕ, ◌≤◌, true, List, ◌++◌, length, Ok, Err, sym, ap, subst, arith, ◌⊎◌, inl, inr}
use Rattle.std.specs.Prelude.{⊤}
use Rattle.std.specs.List.{AllByRecursion}
use Rattle.mls_lattice.specs.Reading.{◌>>=◌}
use Rattle.mls_tokens.specs.declared.fault.TokenFault.{TokenFault}
use Rattle.mls_tokens.specs.declared.token.Placed.{Placed}
use Rattle.mls_tokens.specs.Scanning.{Left}
use Rattle.mls_tokens.specs.Passing.{left}
use Rattle.mls_parser.specs.declared.fault.PlacedFault.{PlacedFault}
use Rattle.mls_parser.specs.Noted.{State, Read}
use Rattle.mls_faults.specs.Faults.{is_of_names}

-- ---- types that have no name here

abbrev pub DomainOf : {A B : Type 0} → (A → B) → Type 0
DomainOf {A = A} f = A

abbrev pub GivenBy : {A B C : Type 0} → (A → B → C) → Type 0
GivenBy {C = C} f = C

abbrev pub ReadBy : {X : Type 0} → (State → Read X) → Type 0
ReadBy {X = X} read = X

-- ---- places

-- what is left stands at a place or behind it
pub record IsFrom (b : ℕ) (l : Left) : Type 0 where
  pub placed : AllByRecursion (λ p. b ≤ p.at) l.placed
  pub stop : b ≤ l.stop.at

module _ {X : Type 0} where
  -- what is read ends there, or has its fault there
  abbrev pub EndsFrom : ℕ → Read X → Type 0
  EndsFrom b (Ok x) = IsFrom b x.1.1
  EndsFrom b (Err e) = b ≤ e.at

-- ---- faults of names

abbrev pub AreOfNames : List PlacedFault → Type 0
AreOfNames = AllByRecursion (λ f. is_of_names f.cause ≡ true)

module _ {X : Type 0} where
  abbrev pub NotesNames : Read X → Type 0
  NotesNames (Ok x) = AreOfNames x.1.0
  NotesNames (Err e) = ⊤

-- ---- two lists

-- what stands behind the tokens that both begin with, and where that of the first begins
pub record Two : Type 0 where
  pub first : List Placed
  pub second : List Placed
  pub stop : TokenFault
  pub other : TokenFault
  pub bound : ℕ
  pub from : IsFrom bound (left first stop)

abbrev pub one : Two → List PlacedFault → List Placed → State
one k fs us = (fs, left (us ++ k.first) k.stop)

abbrev pub two : Two → List PlacedFault → List Placed → State
two k fs us = (fs, left (us ++ k.second) k.other)

-- both read the same, and leave the same of what they begin with
pub record GoOn {X : Type 0} (k : Two) (us : List Placed) (r q : Read X) : Type 0 where
  pub value : X
  pub faults : List PlacedFault
  pub rest : List Placed
  pub fewer : length rest ≤ length us
  pub first : r ≡ Ok (value, one k faults rest)
  pub second : q ≡ Ok (value, two k faults rest)

-- both have the same fault
pub record Stop {X : Type 0} (r q : Read X) : Type 0 where
  pub fault : PlacedFault
  pub first : r ≡ Err fault
  pub second : q ≡ Err fault

module _ (k : Two) {X : Type 0} where
  -- or the first ends behind that
  abbrev pub Agree : List Placed → Read X → Read X → Type 0
  Agree us r q = Stop r q ⊎ (GoOn k us r q ⊎ EndsFrom k.bound r)

-- a reader behind a token at a place
pub record ReadsFrom {X : Type 0} (k : Two) (at : ℕ) (r : State → Read X) : Type 0 where
  pub later : k.bound ≤ at → (s : State) → IsFrom k.bound s.1 → EndsFrom k.bound (r s)
  pub local : (fs : List PlacedFault) (us : List Placed) → Agree k us (r (one k fs us)) (r (two k fs us))
  pub names : (s : State) → AreOfNames s.0 → NotesNames (r s)

-- one that has no faults at tokens before
pub record Reads {X : Type 0} (k : Two) (r : State → Read X) : Type 0 where
  pub later : (s : State) → IsFrom k.bound s.1 → EndsFrom k.bound (r s)
  pub local : (fs : List PlacedFault) (us : List Placed) → Agree k us (r (one k fs us)) (r (two k fs us))
  pub names : (s : State) → AreOfNames s.0 → NotesNames (r s)

pub reads_behind : {X : Type 0} (k : Two) (at : ℕ) (r : State → Read X) → Reads k r → ReadsFrom k at r
reads_behind k at r h = record { later = λ _. h.later; local = h.local; names = h.names }

-- ---- one behind another

module _ {A B : Type 0} where
  pub later_then : (b : ℕ) (r : Read A) (f : A × State → Read B) → EndsFrom b r → ((x : A) (s : State) → IsFrom b s.1
      → EndsFrom b (f (x, s))) → EndsFrom b (r >>= f)
  later_then b (Ok x) f h more = more x.0 x.1 h
  later_then b (Err e) f h more = h

  pub names_then : (r : Read A) (f : A × State → Read B) → NotesNames r → ((x : A) (s : State) → AreOfNames s.0
      → NotesNames (f (x, s))) → NotesNames (r >>= f)
  names_then (Ok x) f h more = more x.0 x.1 h
  names_then (Err e) f h more = tt

module _ (k : Two) where
  pub wider : {X : Type 0} (us vs : List Placed) (r q : Read X) → length vs ≤ length us → Agree k vs r q
      → Agree k us r q
  wider us vs r q few (inl same) = inl same
  wider us vs r q few (inr (inl g)) = inr (inl (record {
    value = g.value;
    faults = g.faults;
    rest = g.rest;
    fewer = omega (arith, few, g.fewer);
    first = g.first;
    second = g.second;
  }))
  wider us vs r q few (inr (inr late)) = inr (inr late)

  pub agree_at : {X : Type 0} (us : List Placed) (r s q t : Read X) → r ≡ s → q ≡ t → Agree k us s t → Agree k us r q
  agree_at {X = X} us r s q t e d h = subst (λ (z : Read X × Read X). Agree k us z.0 z.1) (λ i. (sym e i, sym d i)) h

  pub agree_then : {A B : Type 0} (us : List Placed) (r q : Read A) (f g : A × State → Read B) → Agree k us r q
      → ((x : A) (s : State) → IsFrom k.bound s.1 → EndsFrom k.bound (f (x, s)))
      → ((x : A) (fs : List PlacedFault) (vs : List Placed) → length vs ≤ length us
      → Agree k vs (f (x, one k fs vs)) (g (x, two k fs vs))) → Agree k us (r >>= f) (q >>= g)
  agree_then {A = A} us r q f g (inl same) later local = inl (record {
    fault = same.fault;
    first = ap (λ (z : Read A). z >>= f) same.first;
    second = ap (λ (z : Read A). z >>= g) same.second;
  })
  agree_then {A = A} us r q f g (inr (inl h)) later local =
      agree_at us (r >>= f) (f (h.value, one k h.faults h.rest)) (q >>= g) (g (h.value, two k h.faults h.rest))
      (ap (λ (z : Read A). z >>= f) h.first) (ap (λ (z : Read A). z >>= g) h.second) (wider us h.rest
      (f (h.value, one k h.faults h.rest)) (g (h.value, two k h.faults h.rest)) h.fewer
      (local h.value h.faults h.rest h.fewer))
  agree_then us r q f g (inr (inr late)) later local = inr (inr (later_then k.bound r f late later))

  pub reads_then : {A B : Type 0} {r : State → Read A} → Reads k r → (f : A × State → Read B) → ((x : A)
      → Reads k (λ t. f (x, t))) → Reads k (λ s. r s >>= f)
  reads_then {r = r} h f more = record {
    later = λ s l. later_then k.bound (r s) f (h.later s l) (λ x t m. (more x).later t m);
    local = λ fs us. agree_then us (r (one k fs us)) (r (two k fs us)) f f (h.local fs us)
        (λ x s m. (more x).later s m) (λ x gs vs few. (more x).local gs vs);
    names = λ s n. names_then (r s) f (h.names s n) (λ x t m. (more x).names t m);
  }
