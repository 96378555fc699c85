-- The steps of readers read no further than the next token: tokens, and what may be left out.
use Rattle.std.proofs.Common.{◌≡◌, ℕ, ◌<◌, ◌≤◌, Bool, true, false, if◌then◌else◌, List, [], ◌∷◌, ◌++◌, length, Option, Some, None, option_map, Result, Ok, Err, refl, sym, ap, subst, arith, inl, inr}
use Rattle.std.specs.Prelude.{⊤}
use Rattle.std.specs.List.{AllByRecursion}
use Rattle.mls_lattice.specs.Reading.{◌>>=◌}
use Rattle.mls_tokens.specs.declared.fault.TokenCause.{TokenCause}
use Rattle.mls_tokens.specs.declared.fault.TokenCause.TheVariants as tokens
use Rattle.mls_tokens.specs.declared.fault.TokenFault.{TokenFault}
use Rattle.mls_tokens.specs.declared.token.Token.{Token}
use Rattle.mls_tokens.specs.declared.token.Placed.{Placed}
use Rattle.mls_tokens.specs.declared.sign.Sign.{Sign}
use Rattle.mls_tokens.specs.Scanning.{Left}
use Rattle.mls_tokens.specs.Passing.{left, refused, stop_as_token, is_sign, is_word, taken, pass, or_refused, pass_name, name_of_token, named_first, has_ended}
use Rattle.mls_parser.specs.declared.fault.TextCause.{TextCause}
use Rattle.mls_parser.specs.declared.fault.TextCause.TheVariants as cause
use Rattle.mls_parser.specs.declared.fault.PlacedFault.{PlacedFault}
use Rattle.mls_parser.specs.Fault.{fault, unless, lifted, lifted_cause}
use Rattle.mls_parser.specs.Noted.{State, Read, note, in_state, token, behind, takes_sign, takes_word, sign_at, word_at, name_at, name_behind}
use Rattle.mls_parser.specs.Words.{known, pass_known, pass_any}
use Rattle.mls_faults.specs.Faults.{is_of_names}
use Rattle.mls_faults.proofs.ReadsLemmas.{IsFrom, EndsFrom, AreOfNames, NotesNames, Two, one, two, Agree, ReadsFrom, Reads, reads_behind, wider, agree_at, reads_then}

-- ---- what is noted

pub of_unless : (b : Bool) (at : ℕ) (c : TextCause) → is_of_names c ≡ true → AreOfNames (unless b at c)
of_unless true at c h = tt
of_unless false at c h = (h, tt)

pub of_both : (fs gs : List PlacedFault) → AreOfNames fs → AreOfNames gs → AreOfNames (fs ++ gs)
of_both [] gs h m = m
of_both (f ∷ fs) gs h m = (h.0, of_both fs gs h.1 m)

module _ (k : Two) {X : Type 0} where
  pub reads_noted : (x : X) (gs : List PlacedFault) → AreOfNames gs → Reads k (λ s. Ok (x, note gs s))
  reads_noted x gs h = record {
    later = λ s l. record { placed = l.placed; stop = l.stop };
    local = λ fs us. inr (inl (record {
      value = x;
      faults = fs ++ gs;
      rest = us;
      fewer = omega arith;
      first = refl;
      second = refl;
    }));
    names = λ s n. of_both s.0 gs n h;
  }

  pub reads_done : (x : X) → Reads k (λ s. Ok (x, s))
  reads_done x = record {
    later = λ s l. l;
    local = λ fs us. inr (inl (record {
      value = x;
      faults = fs;
      rest = us;
      fewer = omega arith;
      first = refl;
      second = refl;
    }));
    names = λ s n. n;
  }

  -- a reading with more that was noted before it
  pub reads_after : {r : State → Read X} (gs : List PlacedFault) → AreOfNames gs → Reads k r
      → Reads k (λ s. r (note gs s))
  reads_after gs h m = record {
    later = λ s l. m.later (note gs s) (record { placed = l.placed; stop = l.stop });
    local = λ fs us. m.local (fs ++ gs) us;
    names = λ s n. m.names (note gs s) (of_both s.0 gs n h);
  }

-- ---- faults

pub stop_later : (b at : ℕ) (c : TokenCause) → b ≤ at → b ≤ (lifted (stop_as_token at c)).at
stop_later b at tokens.Token late = late
stop_later b at tokens.Expected late = late
stop_later b at tokens.TooLong late = late
stop_later b at tokens.Memory late = late

refuse_later : (b : ℕ) (ps : List Placed) (stop : TokenFault) → AllByRecursion (λ p. b ≤ p.at) ps → b ≤ stop.at
    → b ≤ (lifted (refused (left ps stop))).at
refuse_later b [] stop h late = stop_later b stop.at stop.cause late
refuse_later b (p ∷ ps) stop h late = h.0

module _ (k : Two) {X : Type 0} where
  -- at the token before
  pub reads_fault : (at : ℕ) (c : TextCause) → ReadsFrom {X = X} k at (λ s. Err (fault at c))
  reads_fault at c = record {
    later = λ late s l. late;
    local = λ fs us. inl (record { fault = fault at c; first = refl; second = refl });
    names = λ s n. tt;
  }

  refused_local : (fs : List PlacedFault) (us : List Placed) → Agree k {X = X} us
      (Err (lifted (refused (one k fs us).1))) (Err (lifted (refused (two k fs us).1)))
  refused_local fs [] = inr (inr (refuse_later k.bound k.first k.stop k.from.placed k.from.stop))
  refused_local fs (p ∷ us) = inl (record { fault = fault p.at cause.Expected; first = refl; second = refl })

  -- at the next token
  pub reads_refused : Reads {X = X} k (λ s. Err (lifted (refused s.1)))
  reads_refused = record {
    later = λ s l. refuse_later k.bound s.1.placed s.1.stop l.placed l.stop;
    local = refused_local;
    names = λ s n. tt;
  }

-- ---- tokens

-- what a token reader makes of the next token
abbrev pub taken_or : {X : Type 0} → ℕ → Option X → List PlacedFault → Left → Read X
taken_or at (Some x) fs l = Ok (x, (fs, l))
taken_or at None fs l = Err (fault at cause.Expected)

pub record IsToken {X : Type 0} (read : Left → Result (X × Left) TokenFault) (place : X → ℕ) : Type 0 where
  pub what : Placed → Option X
  pub at : (p : Placed) (x : X) → what p ≡ Some x → place x ≡ p.at
  pub why : TokenFault → TextCause
  pub none : (fs : List PlacedFault) (stop : TokenFault) → token read (fs, left [] stop)
      ≡ Err (fault stop.at (why stop))
  pub some : (fs : List PlacedFault) (p : Placed) (ps : List Placed) (stop : TokenFault)
      → token read (fs, left (p ∷ ps) stop) ≡ taken_or p.at (what p) fs (left ps stop)

module _ (k : Two) {X : Type 0} (read : Left → Result (X × Left) TokenFault) (place : X → ℕ)
    (h : IsToken read place) where
  module _ {Y : Type 0} (f : X × State → Read Y)
      (more : (p : Placed) (x : X) → h.what p ≡ Some x → ReadsFrom k (place x) (λ t. f (x, t))) where
    then_later : (p : Placed) (o : Option X) → h.what p ≡ o → (fs : List PlacedFault) (l : Left) → k.bound ≤ p.at
        → IsFrom k.bound l → EndsFrom k.bound (taken_or p.at o fs l >>= f)
    then_later p None is fs l late from = late
    then_later p (Some x) is fs l late from =
        (more p x is).later (subst (λ n. k.bound ≤ n) (sym (h.at p x is)) late) (fs, l) from

    token_later : (fs : List PlacedFault) (ps : List Placed) (stop : TokenFault)
        → AllByRecursion (λ p. k.bound ≤ p.at) ps
        → k.bound ≤ stop.at → EndsFrom k.bound (token read (fs, left ps stop) >>= f)
    token_later fs [] stop late last =
        subst (λ (z : Read X). EndsFrom k.bound (z >>= f)) (sym (h.none fs stop)) last
    token_later fs (p ∷ ps) stop late last =
        subst (λ (z : Read X). EndsFrom k.bound (z >>= f)) (sym (h.some fs p ps stop))
        (then_later p (h.what p) refl fs (left ps stop) late.0 (record { placed = late.1; stop = last }))

    then_local : (p : Placed) (o : Option X) → h.what p ≡ o → (fs : List PlacedFault) (us : List Placed)
        → Agree k (p ∷ us) (taken_or p.at o fs (left (us ++ k.first) k.stop) >>= f)
        (taken_or p.at o fs (left (us ++ k.second) k.other) >>= f)
    then_local p None is fs us = inl (record { fault = fault p.at cause.Expected; first = refl; second = refl })
    then_local p (Some x) is fs us = wider k (p ∷ us) us (f (x, one k fs us)) (f (x, two k fs us)) (omega arith)
        ((more p x is).local fs us)

    token_local : (fs : List PlacedFault) (us : List Placed) → Agree k us (token read (one k fs us) >>= f)
        (token read (two k fs us) >>= f)
    token_local fs [] = inr (inr (token_later fs k.first k.stop k.from.placed k.from.stop))
    token_local fs (p ∷ us) =
        agree_at k (p ∷ us) (token read (one k fs (p ∷ us)) >>= f)
        (taken_or p.at (h.what p) fs (left (us ++ k.first) k.stop) >>= f)
        (token read (two k fs (p ∷ us)) >>= f)
        (taken_or p.at (h.what p) fs (left (us ++ k.second) k.other) >>= f)
        (ap (λ (z : Read X). z >>= f) (h.some fs p (us ++ k.first) k.stop))
        (ap (λ (z : Read X). z >>= f) (h.some fs p (us ++ k.second) k.other))
        (then_local p (h.what p) refl fs us)

    then_names : (p : Placed) (o : Option X) → h.what p ≡ o → (fs : List PlacedFault) (l : Left) → AreOfNames fs
        → NotesNames (taken_or p.at o fs l >>= f)
    then_names p None is fs l n = tt
    then_names p (Some x) is fs l n = (more p x is).names (fs, l) n

    token_names : (fs : List PlacedFault) (ps : List Placed) (stop : TokenFault) → AreOfNames fs
        → NotesNames (token read (fs, left ps stop) >>= f)
    token_names fs [] stop n = subst (λ (z : Read X). NotesNames (z >>= f)) (sym (h.none fs stop)) tt
    token_names fs (p ∷ ps) stop n = subst (λ (z : Read X). NotesNames (z >>= f)) (sym (h.some fs p ps stop))
        (then_names p (h.what p) refl fs (left ps stop) n)

    -- a token, and what is read behind it
    pub token_then : Reads k (λ s. token read s >>= f)
    token_then = record {
      later = λ s l. token_later s.0 s.1.placed s.1.stop l.placed l.stop;
      local = token_local;
      names = λ s n. token_names s.0 s.1.placed s.1.stop n;
    }

gives_itself : {X : Type 0} (r : Read X) → (r >>= λ x. Ok x) ≡ r
gives_itself (Ok x) = refl
gives_itself (Err e) = refl

module _ (k : Two) {X : Type 0} (read : Left → Result (X × Left) TokenFault) (place : X → ℕ)
    (h : IsToken read place) where
  pub reads_token : Reads k (token read)
  reads_token = subst (λ (r : State → Read X). Reads k r) (λ i s. gives_itself (token read s) i)
      (token_then k read place h (λ x. Ok x) (λ p x is. reads_behind k (place x) (λ t. Ok (x, t)) (reads_done k x)))

-- ---- the tokens of transactions

stop_lifted : (at : ℕ) (c : TokenCause) → lifted (stop_as_token at c)
    ≡ fault at (lifted_cause (stop_as_token at c).cause)
stop_lifted at tokens.Token = refl
stop_lifted at tokens.Expected = refl
stop_lifted at tokens.TooLong = refl
stop_lifted at tokens.Memory = refl

abbrev why_refused : TokenFault → TextCause
why_refused stop = lifted_cause (stop_as_token stop.at stop.cause).cause

if_place : (b : Bool) (n x : ℕ) → (if b then Some n else None) ≡ Some x → x ≡ n
if_place true n x e = cc
if_place false n x e = absurd cc

pass_some : (b : Bool) (fs : List PlacedFault) (p : Placed) (ps : List Placed) (stop : TokenFault)
    → in_state fs (or_refused (if b then Some (p.at, left ps stop) else None) (left (p ∷ ps) stop))
    ≡ taken_or p.at (if b then Some p.at else None) fs (left ps stop)
pass_some true fs p ps stop = refl
pass_some false fs p ps stop = refl

pub is_pass : (test : Token → Bool) → IsToken (pass test) (λ n. n)
is_pass test = record {
  what = λ p. if test p.token then Some p.at else None;
  at = λ p x is. if_place (test p.token) p.at x is;
  why = why_refused;
  none = λ fs stop. ap (λ f. Err f) (stop_lifted stop.at stop.cause);
  some = λ fs p ps stop. pass_some (test p.token) fs p ps stop;
}

pub map_place : {X : Type 0} (o : Option X) (n : ℕ) (x : X × ℕ) → option_map (λ y. (y, n)) o ≡ Some x → x.1 ≡ n
map_place {X = X} None n x e = absurd cc
map_place {X = X} (Some y) n x e = let is : (y, n) ≡ x = cc in sym (ap (λ (z : X × ℕ). z.1) is)

name_some : (o : Option (List ℕ)) (fs : List PlacedFault) (n : ℕ) (l : Left) → in_state fs (named_first n l o)
    ≡ taken_or n (option_map (λ s. (s, n)) o) fs l
name_some None fs n l = refl
name_some (Some s) fs n l = refl

pub is_name_token : IsToken pass_name (λ x. x.1)
is_name_token = record {
  what = λ p. option_map (λ s. (s, p.at)) (name_of_token p.token);
  at = λ p x is. map_place (name_of_token p.token) p.at x is;
  why = why_refused;
  none = λ fs stop. ap (λ f. Err f) (stop_lifted stop.at stop.cause);
  some = λ fs p ps stop. name_some (name_of_token p.token) fs p.at (left ps stop);
}

module _ {X : Type 0} where
  known_some : (o : Option X) (fs : List PlacedFault) (n : ℕ) (l : Left) → in_state fs (known n l o)
      ≡ taken_or n (option_map (λ x. (x, n)) o) fs l
  known_some None fs n l = refl
  known_some (Some x) fs n l = refl

  pub is_known : (what : Token → Option X) → IsToken (pass_known what) (λ x. x.1)
  is_known what = record {
    what = λ p. option_map (λ x. (x, p.at)) (what p.token);
    at = λ p x is. map_place (what p.token) p.at x is;
    why = why_refused;
    none = λ fs stop. ap (λ f. Err f) (stop_lifted stop.at stop.cause);
    some = λ fs p ps stop. known_some (what p.token) fs p.at (left ps stop);
  }

  pub is_any : (what : Token → Option X) → IsToken (pass_any what) (λ x. x.1)
  is_any what = record {
    what = λ p. option_map (λ x. (x, p.at)) (what p.token);
    at = λ p x is. map_place (what p.token) p.at x is;
    why = λ stop. lifted_cause stop.cause;
    none = λ fs stop. refl;
    some = λ fs p ps stop. known_some (what p.token) fs p.at (left ps stop);
  }

module _ (k : Two) where
  pub reads_sign : (m : Sign) → Reads k (sign_at m)
  reads_sign m = reads_token k (pass (is_sign m)) (λ n. n) (is_pass (is_sign m))

  pub reads_word : (w : List ℕ) → Reads k (word_at w)
  reads_word w = reads_token k (pass (is_word w)) (λ n. n) (is_pass (is_word w))

  pub reads_name : Reads k name_at
  reads_name = reads_token k pass_name (λ x. x.1) is_name_token

  pub reads_behind_word : (w : List ℕ) → Reads k (name_behind w)
  reads_behind_word w = reads_then k (reads_word w) (λ x. name_at x.1) (λ x. reads_name)

  pub reads_known : {X : Type 0} (what : Token → Option X) → Reads k (token (pass_known what))
  reads_known what = reads_token k (pass_known what) (λ x. x.1) (is_known what)

  -- a sign, and what was read before it
  pub reads_end : {X : Type 0} (m : Sign) (x : X) → Reads k (λ s. sign_at m s >>= λ e. Ok (x, e.1))
  reads_end m x = reads_then k (reads_sign m) (λ e. Ok (x, e.1)) (λ e. reads_done k x)

-- ---- tokens of some kinds

abbrev pub AllSome : {Y : Type 0} → (Y → Type 0) → Option Y → Type 0
AllSome P None = ⊤
AllSome P (Some y) = P y

pub all_if : {Y : Type 0} (P : Y → Type 0) (b : Bool) (o q : Option Y) → AllSome P o → AllSome P q
    → AllSome P (if b then o else q)
all_if P true o q h m = h
all_if P false o q h m = m

pub all_mapped : {Y Z : Type 0} (P : Z → Type 0) (g : Y → Z) (o : Option Y) → AllSome (λ y. P (g y)) o
    → AllSome P (option_map g o)
all_mapped P g None h = tt
all_mapped P g (Some y) h = h

at_some : {Y : Type 0} (P : Y → Type 0) (o : Option Y) (y : Y) → o ≡ Some y → AllSome P o → P y
at_some P None y is h = absurd cc
at_some P (Some z) y is h = subst P (let same : z ≡ y = cc in same) h

module _ (k : Two) {Y Z : Type 0} (what : Token → Option Y) (f : (Y × ℕ) × State → Read Z)
    (each : (t : Token) (at : ℕ) → AllSome (λ y. ReadsFrom k at (λ s. f ((y, at), s))) (what t)) where
  each_known : (p : Placed) (x : Y × ℕ) → option_map (λ y. (y, p.at)) (what p.token) ≡ Some x
      → ReadsFrom k x.1 (λ t. f (x, t))
  each_known p x is = at_some (λ (z : Y × ℕ). ReadsFrom k z.1 (λ t. f (z, t)))
      (option_map (λ y. (y, p.at)) (what p.token)) x is
      (all_mapped (λ (z : Y × ℕ). ReadsFrom k z.1 (λ t. f (z, t))) (λ y. (y, p.at)) (what p.token)
      (each p.token p.at))

  pub known_then : Reads k (λ s. token (pass_known what) s >>= f)
  unfolding is_known
  known_then = token_then k (pass_known what) (λ x. x.1) (is_known what) f (λ p x is. each_known p x is)

  pub any_then : Reads k (λ s. token (pass_any what) s >>= f)
  unfolding is_any
  any_then = token_then k (pass_any what) (λ x. x.1) (is_any what) f (λ p x is. each_known p x is)

-- ---- what may be left out

abbrev pub taken_if : {Y : Type 0} → Option Y → List PlacedFault → Left → Option (Y × State)
taken_if (Some y) fs l = Some (y, (fs, l))
taken_if None fs l = None

pub record IsTaking {Y : Type 0} (take : State → Option (Y × State)) (place : Y → ℕ) : Type 0 where
  pub what : Placed → Option Y
  pub at : (p : Placed) (y : Y) → what p ≡ Some y → place y ≡ p.at
  pub none : (fs : List PlacedFault) (stop : TokenFault) → take (fs, left [] stop) ≡ None
  pub some : (fs : List PlacedFault) (p : Placed) (ps : List Placed) (stop : TokenFault) → take (fs, left (p ∷ ps) stop)
      ≡ taken_if (what p) fs (left ps stop)

module _ (k : Two) {X Y : Type 0} (take : State → Option (Y × State)) (place : Y → ℕ) (h : IsTaking take place) where
  module _ (f : State → Option (Y × State) → Read X) where
    module _ (nothing : (s : State) → IsFrom k.bound s.1 → EndsFrom k.bound (f s None))
        (more : (s : State) (y : Y) (t : State) → k.bound ≤ place y → IsFrom k.bound t.1
        → EndsFrom k.bound (f s (Some (y, t)))) where
      taking_later : (p : Placed) (o : Option Y) → h.what p ≡ o → (s : State) (fs : List PlacedFault) (l : Left)
          → IsFrom k.bound s.1 → k.bound ≤ p.at → IsFrom k.bound l → EndsFrom k.bound (f s (taken_if o fs l))
      taking_later p None is s fs l here late from = nothing s here
      taking_later p (Some y) is s fs l here late from =
          more s y (fs, l) (subst (λ n. k.bound ≤ n) (sym (h.at p y is)) late) from

      placed_later : (fs : List PlacedFault) (ps : List Placed) (stop : TokenFault)
          → AllByRecursion (λ p. k.bound ≤ p.at) ps → k.bound ≤ stop.at
          → EndsFrom k.bound (f (fs, left ps stop) (take (fs, left ps stop)))
      placed_later fs [] stop late last =
          subst (λ (z : Option (Y × State)). EndsFrom k.bound (f (fs, left [] stop) z)) (sym (h.none fs stop))
          (nothing (fs, left [] stop) (record { placed = late; stop = last }))
      placed_later fs (p ∷ ps) stop late last =
          subst (λ (z : Option (Y × State)). EndsFrom k.bound (f (fs, left (p ∷ ps) stop) z))
          (sym (h.some fs p ps stop))
          (taking_later p (h.what p) refl (fs, left (p ∷ ps) stop) fs (left ps stop)
          (record { placed = late; stop = last }) late.0 (record { placed = late.1; stop = last }))

      pub takes_later : (s : State) → IsFrom k.bound s.1 → EndsFrom k.bound (f s (take s))
      takes_later s l = placed_later s.0 s.1.placed s.1.stop l.placed l.stop

    module _ (nothing : (s : State) → AreOfNames s.0 → NotesNames (f s None)) (more : (s : State) (y : Y) (t : State)
        → AreOfNames t.0 → NotesNames (f s (Some (y, t)))) where
      taking_names : (o : Option Y) (s : State) (fs : List PlacedFault) (l : Left) → AreOfNames s.0 → AreOfNames fs
          → NotesNames (f s (taken_if o fs l))
      taking_names None s fs l here n = nothing s here
      taking_names (Some y) s fs l here n = more s y (fs, l) n

      placed_names : (fs : List PlacedFault) (ps : List Placed) (stop : TokenFault) → AreOfNames fs
          → NotesNames (f (fs, left ps stop) (take (fs, left ps stop)))
      placed_names fs [] stop n =
          subst (λ (z : Option (Y × State)). NotesNames (f (fs, left [] stop) z)) (sym (h.none fs stop))
          (nothing (fs, left [] stop) n)
      placed_names fs (p ∷ ps) stop n =
          subst (λ (z : Option (Y × State)). NotesNames (f (fs, left (p ∷ ps) stop) z)) (sym (h.some fs p ps stop))
          (taking_names (h.what p) (fs, left (p ∷ ps) stop) fs (left ps stop) n n)

      pub takes_names : (s : State) → AreOfNames s.0 → NotesNames (f s (take s))
      takes_names s n = placed_names s.0 s.1.placed s.1.stop n

  module _ (f g : State → Option (Y × State) → Read X)
      (late : (s : State) → IsFrom k.bound s.1 → EndsFrom k.bound (f s (take s)))
      (nothing : (fs : List PlacedFault) (us : List Placed) → Agree k us (f (one k fs us) None) (g (two k fs us) None))
      (n : ℕ) (more : (s t : State) (y : Y) (fs : List PlacedFault) (vs : List Placed) → length vs < n
      → Agree k vs (f s (Some (y, one k fs vs))) (g t (Some (y, two k fs vs)))) where
    taking_local : (o : Option Y) (p : Placed) (fs : List PlacedFault) (us : List Placed) → length us < n
        → Agree k (p ∷ us) (f (one k fs (p ∷ us)) (taken_if o fs (left (us ++ k.first) k.stop)))
        (g (two k fs (p ∷ us)) (taken_if o fs (left (us ++ k.second) k.other)))
    taking_local None p fs us few = nothing fs (p ∷ us)
    taking_local (Some y) p fs us few =
        wider k (p ∷ us) us (f (one k fs (p ∷ us)) (Some (y, one k fs us)))
        (g (two k fs (p ∷ us)) (Some (y, two k fs us))) (omega arith)
        (more (one k fs (p ∷ us)) (two k fs (p ∷ us)) y fs us few)

    pub takes_local : (fs : List PlacedFault) (us : List Placed) → length us ≤ n
        → Agree k us (f (one k fs us) (take (one k fs us))) (g (two k fs us) (take (two k fs us)))
    takes_local fs [] few = inr (inr (late (fs, left k.first k.stop) k.from))
    takes_local fs (p ∷ us) few =
        agree_at k (p ∷ us) (f (one k fs (p ∷ us)) (take (one k fs (p ∷ us))))
        (f (one k fs (p ∷ us)) (taken_if (h.what p) fs (left (us ++ k.first) k.stop)))
        (g (two k fs (p ∷ us)) (take (two k fs (p ∷ us))))
        (g (two k fs (p ∷ us)) (taken_if (h.what p) fs (left (us ++ k.second) k.other)))
        (ap (f (one k fs (p ∷ us))) (h.some fs p (us ++ k.first) k.stop))
        (ap (g (two k fs (p ∷ us))) (h.some fs p (us ++ k.second) k.other))
        (taking_local (h.what p) p fs us (omega (arith, few)))

  -- what is read behind what may be left out
  pub reads_taking : (f : State → Option (Y × State) → Read X) (m : Y → State → Read X) → ((s : State) (y : Y)
      (t : State) → f s (Some (y, t)) ≡ m y t) → Reads k (λ s. f s None) → ((y : Y) → ReadsFrom k (place y) (m y))
      → Reads k (λ s. f s (take s))
  reads_taking f m is nothing more =
      let late = takes_later f nothing.later
      (λ s y t b l. subst (λ (r : Read X). EndsFrom k.bound r) (sym (is s y t)) ((more y).later b t l)) in
      record {
        later = late;
        local = λ gs us. takes_local f f late nothing.local (length us) (λ s t y fs vs fewer.
            agree_at k vs (f s (Some (y, one k fs vs))) (m y (one k fs vs)) (f t (Some (y, two k fs vs)))
            (m y (two k fs vs)) (is s y (one k fs vs)) (is t y (two k fs vs)) ((more y).local fs vs)) gs us
            (omega arith);
        names = takes_names f nothing.names
            (λ s y t n. subst (λ (r : Read X). NotesNames r) (sym (is s y t)) ((more y).names t n));
      }

if_taken : (b : Bool) (fs : List PlacedFault) (n : ℕ) (l : Left)
    → option_map (behind fs) (if b then Some (n, l) else None) ≡ taken_if (if b then Some n else None) fs l
if_taken true fs n l = refl
if_taken false fs n l = refl

is_taken : (test : Token → Bool) → IsTaking (λ s. option_map (behind s.0) (taken test s.1)) (λ n. n)
is_taken test = record {
  what = λ p. if test p.token then Some p.at else None;
  at = λ p x is. if_place (test p.token) p.at x is;
  none = λ fs stop. refl;
  some = λ fs p ps stop. if_taken (test p.token) fs p.at (left ps stop);
}

pub is_sign_taken : (m : Sign) → IsTaking (takes_sign m) (λ n. n)
is_sign_taken m = is_taken (is_sign m)

module _ (k : Two) {X : Type 0} where
  -- behind a sign, or a word, that may be left out
  pub reads_if_sign : (m : Sign) (f : State → Option (ℕ × State) → Read X) (g : ℕ → State → Read X)
      → ((s : State) (at : ℕ) (t : State) → f s (Some (at, t)) ≡ g at t) → Reads k (λ s. f s None)
      → ((at : ℕ) → ReadsFrom k at (g at)) → Reads k (λ s. f s (takes_sign m s))
  reads_if_sign m f g is nothing more =
      reads_taking k (takes_sign m) (λ n. n) (is_taken (is_sign m)) f g is nothing more

  pub reads_if_word : (w : List ℕ) (f : State → Option (ℕ × State) → Read X) (g : ℕ → State → Read X)
      → ((s : State) (at : ℕ) (t : State) → f s (Some (at, t)) ≡ g at t) → Reads k (λ s. f s None)
      → ((at : ℕ) → ReadsFrom k at (g at)) → Reads k (λ s. f s (takes_word w s))
  reads_if_word w f g is nothing more =
      reads_taking k (takes_word w) (λ n. n) (is_taken (is_word w)) f g is nothing more

  -- one of two
  pub from_either : (b : Bool) (at : ℕ) (r q : State → Read X) → ReadsFrom k at r → ReadsFrom k at q
      → ReadsFrom k at (λ s. if b then r s else q s)
  from_either true at r q h m = h
  from_either false at r q h m = m

  pub reads_either : (b : Bool) (r q : State → Read X) → Reads k r → Reads k q → Reads k (λ s. if b then r s else q s)
  reads_either true r q h m = h
  reads_either false r q h m = m

  -- nothing more at the end
  module _ (x : X) (r : State → Read X) (h : Reads k r) where
    over_later : (b : Bool) (s : State) → IsFrom k.bound s.1 → EndsFrom k.bound (if b then Ok (x, s) else r s)
    over_later true s l = l
    over_later false s l = h.later s l

    over_names : (b : Bool) (s : State) → AreOfNames s.0 → NotesNames (if b then Ok (x, s) else r s)
    over_names true s n = n
    over_names false s n = h.names s n

    over_local : (fs : List PlacedFault) (us : List Placed)
        → Agree k us (if has_ended (one k fs us).1 then Ok (x, one k fs us) else r (one k fs us))
        (if has_ended (two k fs us).1 then Ok (x, two k fs us) else r (two k fs us))
    over_local fs [] = inr (inr (over_later (has_ended (left k.first k.stop)) (fs, left k.first k.stop) k.from))
    over_local fs (p ∷ us) = h.local fs (p ∷ us)

    pub reads_unless_over : Reads k (λ s. if has_ended s.1 then Ok (x, s) else r s)
    reads_unless_over = record {
      later = λ s l. over_later (has_ended s.1) s l;
      local = over_local;
      names = λ s n. over_names (has_ended s.1) s n;
    }
