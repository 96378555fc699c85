-- What stands there is passed: readings of the tokens that are left, whatever fault they may answer.
use Rattle.std.proofs.Common.{◌≡◌, ℕ, Bool, true, false, List, [], ◌∷◌, Some, None, Result, Ok, refl, ap, ◌∙◌, bytes_eq}
use Rattle.std.specs.Prelude.{⊤}
use Rattle.std.proofs.lemmas.Slice.Eq.{bytes_eq-Decides}
use Rattle.mls_lattice.specs.Name.{is_name}
use Rattle.mls_tokens.specs.declared.fault.TokenCause.TheVariants as causes
use Rattle.mls_tokens.specs.declared.fault.TokenFault.{TokenFault}
use Rattle.mls_tokens.specs.declared.token.Token.{Token}
use Rattle.mls_tokens.specs.declared.token.Token.TheVariants.{Word, Sign as Sign_token}
use Rattle.mls_tokens.specs.declared.token.Placed.{Placed}
use Rattle.mls_tokens.specs.declared.sign.Sign.{Sign}
use Rattle.mls_tokens.specs.Sign.{sign_text}
use Rattle.mls_tokens.specs.Scanning.{Left, without_places}
use Rattle.mls_tokens.specs.Passing.{left, is_word, is_sign, take_first, taken, or_refused, pass, name_of_token, named_first, pass_name, is_expected, over_with}

-- a reading that gives such a value, before these tokens
pub record Gets {X E : Type 0} (r : Result (X × Left) E) (l : Left) (P : X → Type 0) (us : List Token) : Type 0 where
  pub value : X
  pub rest : Left
  pub is : r ≡ Ok (value, rest)
  pub holds : P value
  pub tokens : without_places rest.placed ≡ us
  pub stop : rest.stop ≡ l.stop

-- ---- the next token

abbrev first_of : Token → List Token → Token
first_of d [] = d
first_of d (t ∷ ts) = t

abbrev behind_first : List Token → List Token
behind_first [] = []
behind_first (t ∷ ts) = ts

-- which token is the first, and which are behind it
pub next_is : (p : Placed) (ps : List Placed) (t : Token) (us : List Token) → without_places (p ∷ ps) ≡ t ∷ us
    → (p.token ≡ t) × (without_places ps ≡ us)
next_is p ps t us e = (ap (first_of t) e, ap behind_first e)

pub record Took (test : Token → Bool) (l : Left) (us : List Token) : Type 0 where
  pub at : ℕ
  pub rest : Left
  pub is : taken test l ≡ Some (at, rest)
  pub tokens : without_places rest.placed ≡ us
  pub stop : rest.stop ≡ l.stop

took_first : (test : Token → Bool) (t : Token) (us : List Token) (ps : List Placed) (stop : TokenFault) → test t ≡ true
    → without_places ps ≡ t ∷ us → Took test (left ps stop) us
took_first test t us [] stop on e = absurd cc
took_first test t us (p ∷ ps) stop on e =
    let h = next_is p ps t us e in
    record { at = p.at; rest = left ps stop; is = rw (ap test h.0 ∙ on) refl; tokens = h.1; stop = refl }

pub took : (test : Token → Bool) (t : Token) (us : List Token) (l : Left) → test t ≡ true → without_places l.placed
    ≡ t ∷ us → Took test l us
took test t us l on e = took_first test t us l.placed l.stop on e

-- the first of some tokens fails a test
abbrev pub NotNext : (Token → Bool) → List Token → Type 0
NotNext test [] = ⊤
NotNext test (t ∷ ts) = test t ≡ false

not_first : (test : Token → Bool) (ts : List Token) (ps : List Placed) (stop : TokenFault) → NotNext test ts
    → without_places ps ≡ ts → take_first test ps stop ≡ None
not_first test ts [] stop off e = refl
not_first test [] (p ∷ ps) stop off e = absurd cc
not_first test (t ∷ ts) (p ∷ ps) stop off e = rw (ap test (next_is p ps t ts e).0 ∙ off) refl

pub not_taken : (test : Token → Bool) (ts : List Token) (l : Left) → NotNext test ts → without_places l.placed ≡ ts
    → taken test l ≡ None
not_taken test ts l off e = not_first test ts l.placed l.stop off e

pass_gets : (test : Token → Bool) (t : Token) (us : List Token) (l : Left) → test t ≡ true → without_places l.placed
    ≡ t ∷ us → Gets (pass test l) l (λ _. ⊤) us
pass_gets test t us l on e =
    let h = took test t us l on e in
    record {
      value = h.at;
      rest = h.rest;
      is = ap (λ o. or_refused o l) h.is;
      holds = tt;
      tokens = h.tokens;
      stop =
          h.stop;
    }

-- ---- words and signs

same_bytes : (s : List ℕ) → bytes_eq s s ≡ true
same_bytes s = (bytes_eq-Decides s s).1 refl

pub took_word : (w : List ℕ) (us : List Token) (l : Left) → without_places l.placed ≡ Word w ∷ us
    → Took (is_word w) l us
took_word w us l e = took (is_word w) (Word w) us l (same_bytes w) e

pub took_sign : (s : Sign) (us : List Token) (l : Left) → without_places l.placed ≡ Sign_token s ∷ us
    → Took (is_sign s) l us
took_sign s us l e = took (is_sign s) (Sign_token s) us l (same_bytes (sign_text s)) e

pub word_gets : (w : List ℕ) (us : List Token) (l : Left) → without_places l.placed ≡ Word w ∷ us
    → Gets (pass (is_word w) l) l (λ _. ⊤) us
word_gets w us l e = pass_gets (is_word w) (Word w) us l (same_bytes w) e

pub sign_gets : (s : Sign) (us : List Token) (l : Left) → without_places l.placed ≡ Sign_token s ∷ us
    → Gets (pass (is_sign s) l) l (λ _. ⊤) us
sign_gets s us l e = pass_gets (is_sign s) (Sign_token s) us l (same_bytes (sign_text s)) e

-- ---- names

name_first : (s : List ℕ) (us : List Token) (ps : List Placed) (stop : TokenFault) → is_name s ≡ true
    → without_places ps ≡ Word s ∷ us → Gets (pass_name (left ps stop)) (left ps stop) (λ x. x.0 ≡ s) us
name_first s us [] stop named e = absurd cc
name_first s us (p ∷ ps) stop named e =
    let h = next_is p ps (Word s) us e in
    record {
      value = (s, p.at);
      rest = left ps stop;
      is = ap (λ t. named_first p.at (left ps stop) (name_of_token t)) h.0 ∙ rw named refl;
      holds = refl;
      tokens =
          h.1;
      stop = refl;
    }

pub name_gets : (s : List ℕ) (us : List Token) (l : Left) → is_name s ≡ true → without_places l.placed ≡ Word s ∷ us
    → Gets (pass_name l) l (λ x. x.0 ≡ s) us
name_gets s us l named e = name_first s us l.placed l.stop named e

-- ---- the end

pub over_again : (ps : List Placed) (stop : TokenFault) → without_places ps ≡ [] → stop.cause ≡ causes.Expected
    → over_with ps stop ≡ true
over_again [] stop e h = ap is_expected h
over_again (p ∷ ps) stop e h = absurd cc

pub not_over : (ps : List Placed) (stop : TokenFault) (t : Token) (ts : List Token) → without_places ps ≡ t ∷ ts
    → over_with ps stop ≡ false
not_over [] stop t ts e = absurd cc
not_over (p ∷ ps) stop t ts e = refl
