-- The tokens that were passed, and the faults that were noted before.
use Rattle.std.proofs.Common.{◌≡◌, ℕ, ◌<◌, true, List, [], ◌∷◌, ◌++◌, length, Option, Some, None, option_map, Result, Ok, Err, refl, sym, ap, ◌∙◌, subst}
use Rattle.std.specs.List.{AllByRecursion}
use Rattle.mls_lattice.specs.Name.{is_name}
use Rattle.mls_lattice.specs.Policy.{Name}
use Rattle.mls_lattice.proofs.ReadingLemmas.{ok_is, bind_ok, same_ok}
use Rattle.mls_tokens.specs.declared.fault.TokenFault.{TokenFault}
use Rattle.mls_tokens.specs.declared.token.Token.{Token}
use Rattle.mls_tokens.specs.declared.token.Token.TheVariants.{Word, Sign}
use Rattle.mls_tokens.specs.declared.token.Placed.{Placed}
use Rattle.mls_tokens.specs.declared.sign.Sign.{Sign as Mark}
use Rattle.mls_tokens.specs.Scanning.{Left}
use Rattle.mls_tokens.specs.Text.{Spells, AreTokens}
use Rattle.mls_tokens.specs.Passing.{left, is_word, is_sign, taken, pass, PlacedName, pass_name}
use Rattle.mls_tokens.proofs.PassedLemmas.{Passed, passed_more, word_taken as word_passes, word_found as word_passed, sign_taken as sign_passes, sign_found as sign_passed, taken_shorter, NameFound, alone, name_found as name_passed}
use Rattle.mls_parser.specs.declared.fault.PlacedFault.{PlacedFault}
use Rattle.mls_parser.specs.Noted.{State, in_state, token, behind, takes_sign, takes_word, sign_at, word_at, name_at, name_behind}
use Rattle.mls_parser.specs.Words.{known, pass_known_of, pass_known, pass_any_of, pass_any}

-- ---- states

-- these tokens were passed, and nothing was noted
pub record Quiet (ts : List Token) (s t : State) : Type 0 where
  pub passed : Passed ts s.1 t.1
  pub faults : t.0 ≡ s.0

state_ok : {A : Type 0} (fs : List PlacedFault) (r : Result (A × Left) TokenFault) (x : A × State) → in_state fs r
    ≡ Ok x → (r ≡ Ok (x.0, x.1.1)) × (x.1.0 ≡ fs)
state_ok fs (Ok y) x e =
    let same = ok_is (y.0, (fs, y.1)) x e in
    (ap (λ z. Ok (z.0, z.1.1)) same, sym (ap (λ z. z.1.0) same))
state_ok fs (Err d) x e = absurd cc

pub token_ok : {A : Type 0} (read : Left → Result (A × Left) TokenFault) (s : State) (x : A × State) → token read s
    ≡ Ok x → (read s.1 ≡ Ok (x.0, x.1.1)) × (x.1.0 ≡ s.0)
token_ok read s x e = state_ok s.0 (read s.1) x e

-- ---- tokens

pub sign_found : (m : Mark) (s : State) (x : ℕ × State) → sign_at m s ≡ Ok x → Quiet (Sign m ∷ []) s x.1
sign_found m s x e = let h = token_ok (pass (is_sign m)) s x e in record {
  passed = sign_passed m s.1 (x.0, x.1.1) h.0;
  faults = h.1;
}

pub word_found : (w : Name) (s : State) (x : ℕ × State) → word_at w s ≡ Ok x → Quiet (Word w ∷ []) s x.1
word_found w s x e = let h = token_ok (pass (is_word w)) s x e in record {
  passed = word_passed w s.1 (x.0, x.1.1) h.0;
  faults = h.1;
}

behind_ok : (fs : List PlacedFault) (o : Option (ℕ × Left)) (x : ℕ × State) → option_map (behind fs) o ≡ Some x
    → (o ≡ Some (x.0, x.1.1)) × (x.1.0 ≡ fs)
behind_ok fs None x e = absurd cc
behind_ok fs (Some y) x e =
    let same : (y.0, (fs, y.1)) ≡ x = cc in
    (ap (λ z. Some (z.0, z.1.1)) same, sym (ap (λ z. z.1.0) same))

pub sign_taken : (m : Mark) (s : State) (x : ℕ × State) → takes_sign m s ≡ Some x → Quiet (Sign m ∷ []) s x.1
sign_taken m s x e = let h = behind_ok s.0 (taken (is_sign m) s.1) x e
    in record { passed = sign_passes m s.1 (x.0, x.1.1) h.0; faults = h.1 }

pub takes_shorter : (m : Mark) (s : State) (at : ℕ) (t : State) → takes_sign m s ≡ Some (at, t) → length t.1.placed
    < length s.1.placed
takes_shorter m s at t e = taken_shorter (is_sign m) s.1 at t.1 (behind_ok s.0 (taken (is_sign m) s.1) (at, t) e).0

pub word_taken : (w : Name) (s : State) (x : ℕ × State) → takes_word w s ≡ Some x → Quiet (Word w ∷ []) s x.1
word_taken w s x e = let h = behind_ok s.0 (taken (is_word w) s.1) x e
    in record { passed = word_passes w s.1 (x.0, x.1.1) h.0; faults = h.1 }

-- a name was passed
pub record NameRead (s : State) (x : PlacedName × State) : Type 0 where
  pub name : NameFound alone s.1 (x.0, x.1.1)
  pub faults : x.1.0 ≡ s.0

pub name_found : (s : State) (x : PlacedName × State) → name_at s ≡ Ok x → NameRead s x
name_found s x e = let h = token_ok pass_name s x e in record { name = name_passed s.1 (x.0, x.1.1) h.0; faults = h.1 }

-- a word, and a name behind it
pub record BehindRead (w : Name) (s : State) (x : PlacedName × State) : Type 0 where
  pub name : is_name x.0.0 ≡ true
  pub passed : Passed (Word w ∷ Word x.0.0 ∷ []) s.1 x.1.1
  pub faults : x.1.0 ≡ s.0

pub behind_found : (w : Name) (s : State) (x : PlacedName × State) → name_behind w s ≡ Ok x → BehindRead w s x
behind_found w s x e =
    let b = bind_ok (word_at w s) (λ y. name_at y.1) x e in
    let word = word_found w s b.0 b.1 in
    let name = name_found b.0.1 x b.2 in
    record {
      name = name.name.name;
      passed = passed_more (Word w ∷ [])
          (Word x.0.0 ∷ []) s.1 b.0.1.1 x.1.1 word.passed name.name.passed;
      faults = name.faults ∙ word.faults;
    }

-- ---- other tokens

abbrev TokenFound : {X : Type 0} → (Token → Option X) → Left → (X × ℕ) × Left → Type 0
TokenFound what l x = (t : Token) × (what t ≡ Some x.0.0) × Passed (t ∷ []) l x.1

module _ {X : Type 0} (what : Token → Option X) where
  known_first : (p : Placed) (ps : List Placed) (stop : TokenFault) (o : Option X) (x : (X × ℕ) × Left) → what p.token
      ≡ o → known p.at (left ps stop) o ≡ Ok x → TokenFound what (left (p ∷ ps) stop) x
  known_first p ps stop None x is e = absurd cc
  known_first p ps stop (Some v) x is e =
      subst (λ y. TokenFound what (left (p ∷ ps) stop) y) (same_ok (known p.at (left ps stop) (Some v)) (
        (v, p.at),
        left ps stop,
      ) x refl e)
      (p.token, is, record { tokens = refl; stop = refl })

  known_of_found : (ps : List Placed) (stop : TokenFault) (x : (X × ℕ) × Left) → pass_known_of what ps stop ≡ Ok x
      → TokenFound what (left ps stop) x
  known_of_found [] stop x e = absurd cc
  known_of_found (p ∷ ps) stop x e = known_first p ps stop (what p.token) x refl e

  pub known_found : (s : State) (x : (X × ℕ) × State) → token (pass_known what) s ≡ Ok x → (t : Token)
      × (what t ≡ Some x.0.0) × Quiet (t ∷ []) s x.1
  known_found s x e =
      let h = token_ok (pass_known what) s x e in
      let f = known_of_found s.1.placed s.1.stop (x.0, x.1.1) h.0 in
      (f.0, f.1, record { passed = f.2; faults = h.1 })

  any_of_found : (ps : List Placed) (stop : TokenFault) (x : (X × ℕ) × Left) → pass_any_of what ps stop ≡ Ok x
      → TokenFound what (left ps stop) x
  any_of_found [] stop x e = absurd cc
  any_of_found (p ∷ ps) stop x e = known_first p ps stop (what p.token) x refl e

  pub any_found : (s : State) (x : (X × ℕ) × State) → token (pass_any what) s ≡ Ok x → (t : Token)
      × (what t ≡ Some x.0.0) × Quiet (t ∷ []) s x.1
  any_found s x e =
      let h = token_ok (pass_any what) s x e in
      let f = any_of_found s.1.placed s.1.stop (x.0, x.1.1) h.0 in
      (f.0, f.1, record { passed = f.2; faults = h.1 })

-- ---- tokens that have a spelling

abbrev pub IsSpelled : Token → Type 0
IsSpelled t = (text : List ℕ) × Spells t text

abbrev pub AreSpelled : List Token → Type 0
AreSpelled = AllByRecursion IsSpelled

pub all_spelled : (ts : List Token) (bytes : List ℕ) → AreTokens ts bytes → AreSpelled ts
all_spelled [] bytes h = tt
all_spelled (t ∷ ts) bytes h = ((h.1.text, h.1.spells), all_spelled ts h.0 h.2)

pub split : (xs ys : List Token) → AreSpelled (xs ++ ys) → AreSpelled xs × AreSpelled ys
split [] ys h = (tt, h)
split (x ∷ xs) ys h = let rest = split xs ys h.1 in ((h.0, rest.0), rest.1)
