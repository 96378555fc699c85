-- What stands there is passed, and nothing is noted.
use Rattle.std.proofs.Common.{◌≡◌, ℕ, Bool, true, List, [], ◌∷◌, ◌++◌, Option, Some, None, option_map, Result, Ok, refl, ap, ◌∙◌, append-nil}
use Rattle.std.specs.Prelude.{⊤}
use Rattle.mls_lattice.specs.Name.{is_name}
use Rattle.mls_lattice.specs.Policy.{Name}
use Rattle.mls_lattice.specs.Reading.{◌>>=◌}
use Rattle.mls_tokens.specs.declared.fault.TokenFault.{TokenFault}
use Rattle.mls_tokens.specs.declared.token.Token.{Token}
use Rattle.mls_tokens.specs.declared.token.Token.TheVariants.{Word, Sign}
use Rattle.mls_tokens.specs.declared.token.Placed.{Placed}
use Rattle.mls_tokens.specs.declared.sign.Sign.{Sign as Mark}
use Rattle.mls_tokens.specs.Scanning.{Left, without_places}
use Rattle.mls_tokens.specs.Passing.{left, is_sign, is_word}
use Rattle.mls_tokens.proofs.NextLemmas.{next_is, NotNext, not_taken}
use Rattle.mls_tokens.proofs.NextLemmas as tokens
use Rattle.mls_parser.specs.declared.fault.PlacedFault.{PlacedFault}
use Rattle.mls_parser.specs.declared.fault.TextCause.{TextCause}
use Rattle.mls_parser.specs.Fault.{unless}
use Rattle.mls_parser.specs.Noted.{State, Read, note, in_state, token, behind, takes_sign, takes_word, sign_at, word_at, name_at, name_behind, known as is_known}
use Rattle.mls_parser.specs.Words.{known, pass_known_of, pass_known, pass_any_of, pass_any}

-- ---- steps

-- a reading that gives such a value, before these tokens, and notes no fault
pub record Gets {X : Type 0} (r : Read X) (s : State) (P : X → Type 0) (us : List Token) : Type 0 where
  pub value : X
  pub rest : Left
  pub is : r ≡ Ok (value, (s.0, rest))
  pub holds : P value
  pub tokens : without_places rest.placed ≡ us
  pub stop : rest.stop ≡ s.1.stop

pub gets_more : {X Y : Type 0} {r : Read X} (g : X × State → Read Y) {s : State} {P : X
    → Type 0} {us : List Token} {Q : Y → Type 0} {vs : List Token}
    → Gets r s P us → ((x : X) (m : Left) → P x → without_places m.placed ≡ us → Gets (g (x, (s.0, m))) (s.0, m) Q vs)
    → Gets (r >>= g) s Q vs
gets_more g a next =
    let b = next a.value a.rest a.holds a.tokens in
    record {
      value = b.value;
      rest = b.rest;
      is = ap (λ z. z >>= g) a.is ∙ b.is;
      holds = b.holds;
      tokens = b.tokens;
      stop = b.stop ∙ a.stop;
    }

pub quiet : (more fs : List PlacedFault) (m : Left) → more ≡ [] → note more (fs, m) ≡ (fs, m)
quiet more fs m none = ap (λ z. (fs ++ z, m)) none ∙ ap (λ z. (z, m)) (append-nil fs)

pub gets_noted : {X : Type 0} (x : X) (more fs : List PlacedFault) (m : Left) (P : X → Type 0) (us : List Token)
    → more ≡ [] → P x → without_places m.placed ≡ us → Gets (Ok (x, note more (fs, m))) (fs, m) P us
gets_noted x more fs m P us none h t = record {
  value = x;
  rest = m;
  is = ap (λ z. Ok (x, z)) (quiet more fs m none);
  holds = h;
  tokens = t;
  stop = refl;
}

pub gets_done : {X : Type 0} (x : X) (fs : List PlacedFault) (m : Left) (P : X → Type 0) (us : List Token) → P x
    → without_places m.placed ≡ us → Gets (Ok (x, (fs, m))) (fs, m) P us
gets_done x fs m P us h t = record { value = x; rest = m; is = refl; holds = h; tokens = t; stop = refl }

-- the same reading
pub gets_is : {X : Type 0} (r q : Read X) (s : State) (P : X → Type 0) (us : List Token) → r ≡ q → Gets q s P us
    → Gets r s P us
gets_is r q s P us e h = record {
  value = h.value;
  rest = h.rest;
  is = e ∙ h.is;
  holds = h.holds;
  tokens = h.tokens;
  stop = h.stop;
}

abbrev pub Same : {X : Type 0} → X → X → Type 0
Same v x = x ≡ v

abbrev pub Is : {X : Type 0} → X → X × ℕ → Type 0
Is v x = x.0 ≡ v

-- behind a value that is known, and behind one at some place
module _ {X Y : Type 0} {s : State} {us vs : List Token} {Q : Y → Type 0} {v : X} where
  pub gets_then : {r : Read X} (g : X × State → Read Y) → Gets r s (Same v) us → ((m : Left) → without_places m.placed
      ≡ us → Gets (g (v, (s.0, m))) (s.0, m) Q vs) → Gets (r >>= g) s Q vs
  gets_then g a next =
      let b = next a.rest a.tokens in
      record {
        value = b.value;
        rest = b.rest;
        is = ap (λ z. z >>= g) a.is ∙ ap (λ x. g (x, (s.0, a.rest))) a.holds
            ∙ b.is;
        holds = b.holds;
        tokens = b.tokens;
        stop = b.stop ∙ a.stop;
      }

  pub placed_then : {r : Read (X × ℕ)} (g : (X × ℕ) × State → Read Y) → Gets r s (Is v) us
      → ((at : ℕ) (m : Left) → without_places m.placed ≡ us → Gets (g ((v, at), (s.0, m))) (s.0, m) Q vs)
      → Gets (r >>= g) s Q vs
  placed_then g a next =
      let b = next a.value.1 a.rest a.tokens in
      record {
        value = b.value;
        rest = b.rest;
        is = ap (λ z. z >>= g) a.is
            ∙ ap (λ x. g ((x, a.value.1), (s.0, a.rest))) a.holds ∙ b.is;
        holds = b.holds;
        tokens = b.tokens;
        stop =
            b.stop ∙ a.stop;
      }

-- the same value
pub gets_same : {X : Type 0} {r : Read X} {s : State} {us : List Token} {v w : X} → v ≡ w → Gets r s (Same v) us
    → Gets r s (Same w) us
gets_same e h = record {
  value = h.value;
  rest = h.rest;
  is = h.is;
  holds = h.holds ∙ e;
  tokens = h.tokens;
  stop =
      h.stop;
}

-- ---- no fault

pub none : {b : Bool} (at : ℕ) (c : TextCause) → b ≡ true → unless b at c ≡ []
none at c e = ap (λ b. unless b at c) e

pub none_two : {X : Type 0} {xs ys : List X} → xs ≡ [] → ys ≡ [] → xs ++ ys ≡ []
none_two a b = λ i. a i ++ b i

pub none_known : {X : Type 0} {o : Option X} (x : X) (at : ℕ) → o ≡ Some x → is_known o at ≡ []
none_known x at e = ap (λ o. is_known o at) e

-- ---- tokens

state_gets : {X : Type 0} {r : Result (X × Left) TokenFault} (fs : List PlacedFault) {l : Left} {P : X
    → Type 0} {us : List Token} → tokens.Gets r l P us → Gets (in_state fs r) (fs, l) P us
state_gets fs h = record {
  value = h.value;
  rest = h.rest;
  is = ap (in_state fs) h.is;
  holds = h.holds;
  tokens =
      h.tokens;
  stop = h.stop;
}

pub sign_gets : (m : Mark) (us : List Token) (s : State) → without_places s.1.placed ≡ Sign m ∷ us
    → Gets (sign_at m s) s (λ _. ⊤) us
sign_gets m us s e = state_gets s.0 (tokens.sign_gets m us s.1 e)

pub word_gets : (w : Name) (us : List Token) (s : State) → without_places s.1.placed ≡ Word w ∷ us
    → Gets (word_at w s) s (λ _. ⊤) us
word_gets w us s e = state_gets s.0 (tokens.word_gets w us s.1 e)

pub name_gets : (name : Name) (us : List Token) (s : State) → is_name name ≡ true → without_places s.1.placed
    ≡ Word name ∷ us → Gets (name_at s) s (Is name) us
name_gets name us s named e = state_gets s.0 (tokens.name_gets name us s.1 named e)

-- a word, and a name behind it
pub behind_gets : (w name : Name) (us : List Token) (s : State) → is_name name ≡ true → without_places s.1.placed
    ≡ Word w ∷ Word name ∷ us → Gets (name_behind w s) s (Is name) us
behind_gets w name us s named e = gets_more (λ x. name_at x.1) (word_gets w (Word name ∷ us) s e)
    (λ at m is t. name_gets name us (s.0, m) named t)

-- the next token, where it is taken
pub record Took (o : Option (ℕ × State)) (s : State) (us : List Token) : Type 0 where
  pub at : ℕ
  pub rest : Left
  pub is : o ≡ Some (at, (s.0, rest))
  pub tokens : without_places rest.placed ≡ us
  pub stop : rest.stop ≡ s.1.stop

pub took_sign : (m : Mark) (us : List Token) (s : State) → without_places s.1.placed ≡ Sign m ∷ us
    → Took (takes_sign m s) s us
took_sign m us s e =
    let h = tokens.took_sign m us s.1 e in
    record { at = h.at; rest = h.rest; is = ap (option_map (behind s.0)) h.is; tokens = h.tokens; stop = h.stop }

pub took_word : (w : Name) (us : List Token) (s : State) → without_places s.1.placed ≡ Word w ∷ us
    → Took (takes_word w s) s us
took_word w us s e =
    let h = tokens.took_word w us s.1 e in
    record { at = h.at; rest = h.rest; is = ap (option_map (behind s.0)) h.is; tokens = h.tokens; stop = h.stop }

-- what is read behind it
pub after_took : {X : Type 0} {r : Read X} {o : Option (ℕ × State)} {s : State} {us vs : List Token} {P : X → Type 0}
    (t : Took o s us) → Gets r (s.0, t.rest) P vs → Gets r s P vs
after_took t h = record {
  value = h.value;
  rest = h.rest;
  is = h.is;
  holds = h.holds;
  tokens = h.tokens;
  stop = h.stop
      ∙ t.stop;
}

pub no_sign : (m : Mark) (ts : List Token) (s : State) → NotNext (is_sign m) ts → without_places s.1.placed ≡ ts
    → takes_sign m s ≡ None
no_sign m ts s off e = ap (option_map (behind s.0)) (not_taken (is_sign m) ts s.1 off e)

pub no_word : (w : Name) (ts : List Token) (s : State) → NotNext (is_word w) ts → without_places s.1.placed ≡ ts
    → takes_word w s ≡ None
no_word w ts s off e = ap (option_map (behind s.0)) (not_taken (is_word w) ts s.1 off e)

-- ---- other tokens

module _ {X : Type 0} (what : Token → Option X) (v : X) (t : Token) (us : List Token) (found : what t ≡ Some v) where
  first_gets : (fs : List PlacedFault) (p : Placed) (ps : List Placed) (stop : TokenFault) → without_places (p ∷ ps)
      ≡ t ∷ us → Gets (in_state fs (known p.at (left ps stop) (what p.token))) (fs, left (p ∷ ps) stop) (Is v) us
  first_gets fs p ps stop e =
      let h = next_is p ps t us e in
      record {
        value = (v, p.at);
        rest = left ps stop;
        is = ap (λ o. in_state fs (known p.at (left ps stop) o))
            (ap what h.0 ∙ found);
        holds = refl;
        tokens = h.1;
        stop = refl;
      }

  known_first : (fs : List PlacedFault) (ps : List Placed) (stop : TokenFault) → without_places ps ≡ t ∷ us
      → Gets (in_state fs (pass_known_of what ps stop)) (fs, left ps stop) (Is v) us
  known_first fs [] stop e = absurd cc
  known_first fs (p ∷ ps) stop e = first_gets fs p ps stop e

  pub known_gets : (s : State) → without_places s.1.placed ≡ t ∷ us → Gets (token (pass_known what) s) s (Is v) us
  known_gets s e = known_first s.0 s.1.placed s.1.stop e

  any_first : (fs : List PlacedFault) (ps : List Placed) (stop : TokenFault) → without_places ps ≡ t ∷ us
      → Gets (in_state fs (pass_any_of what ps stop)) (fs, left ps stop) (Is v) us
  any_first fs [] stop e = absurd cc
  any_first fs (p ∷ ps) stop e = first_gets fs p ps stop e

  pub any_gets : (s : State) → without_places s.1.placed ≡ t ∷ us → Gets (token (pass_any what) s) s (Is v) us
  any_gets s e = any_first s.0 s.1.placed s.1.stop e
