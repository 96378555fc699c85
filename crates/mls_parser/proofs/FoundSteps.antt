-- What is read is what stands there, one step after another.
use Rattle.std.proofs.Common.{◌≡◌, ℕ, true, List, [], ◌∷◌, ◌++◌, Option, Some, Ok, refl, sym, ◌∙◌, subst}
use Rattle.mls_lattice.specs.Name.{is_name}
use Rattle.mls_lattice.specs.Policy.{Name}
use Rattle.mls_lattice.specs.Reading.{◌>>=◌}
use Rattle.mls_lattice.proofs.ReadingLemmas.{ok_is, bind_ok}
use Rattle.mls_tokens.specs.declared.token.Token.{Token}
use Rattle.mls_tokens.specs.declared.token.Token.TheVariants.{Word, Sign}
use Rattle.mls_tokens.specs.declared.sign.Sign.{Sign as Mark}
use Rattle.mls_tokens.specs.Passing.{PlacedName}
use Rattle.mls_tokens.proofs.PassedLemmas.{Passed, passed_none, passed_more}
use Rattle.mls_parser.specs.declared.fault.PlacedFault.{PlacedFault}
use Rattle.mls_parser.specs.Noted.{State, Read, note, token, sign_at, word_at, name_at, name_behind}
use Rattle.mls_parser.specs.Words.{pass_known, pass_any}
use Rattle.mls_parser.proofs.FaultLemmas.{neither}
use Rattle.mls_parser.proofs.PassedLemmas.{Quiet, sign_found, word_found, name_found, behind_found, known_found, any_found, IsSpelled, AreSpelled, split}

-- tokens were passed; and where no fault was noted there was none before, and they are right
pub record Found {X : Type 0} (R : List Token → X → Type 0) (s : State) (x : X × State) : Type 0 where
  pub tokens : List Token
  pub passed : Passed tokens s.1 x.1.1
  pub right : x.1.0 ≡ [] → AreSpelled tokens → (s.0 ≡ []) × R tokens x.0

pub found_none : {X : Type 0} (R : List Token → X → Type 0) (x : X) (s : State) → R [] x → Found R s (x, s)
found_none R x s h = record { tokens = []; passed = passed_none s.1; right = λ none a. (none, h) }

-- one reading behind another
pub found_next : {A B : Type 0} {R : List Token → A → Type 0} (S : List Token → B → Type 0) (Q : A → List Token → B
    → Type 0) (s : State) (r : Read A) (f : A × State → Read B)
    → ((x : A × State) → r ≡ Ok x → Found R s x) → ((x : A × State) (y : B × State) → f x ≡ Ok y → Found (Q x.0) x.1 y)
    → ((x : A) (y : B) (ts us : List Token) → R ts x → Q x us y → S (ts ++ us) y) → (y : B × State) → (r >>= f) ≡ Ok y
    → Found S s y
found_next S Q s r f one other both y e =
    let x = bind_ok r f y e in
    let a = one x.0 x.1 in
    let b = other x.0 y x.2 in
    record {
      tokens = a.tokens ++ b.tokens;
      passed = passed_more a.tokens b.tokens s.1 x.0.1.1 y.1.1 a.passed b.passed;
      right = λ none t.
          let parts = split a.tokens b.tokens t in
          let second = b.right none parts.1 in
          let first = a.right second.0 parts.0 in
          (first.0, both x.0.0 y.0 a.tokens b.tokens first.1 second.1);
    }

-- what is made of a reading, with faults that are noted
pub found_noted : {A B : Type 0} {R : List Token → A → Type 0} (S : List Token → B → Type 0) (s : State) (r : Read A)
    (g : A → B) (faults : A → List PlacedFault)
    → ((x : A × State) → r ≡ Ok x → Found R s x) → ((x : A) (ts : List Token) → faults x ≡ [] → R ts x → S ts (g x))
    → (y : B × State) → (r >>= λ x. Ok (g x.0, note (faults x.0) x.1)) ≡ Ok y → Found S s y
found_noted S s r g faults one made y e =
    let x = bind_ok r (λ x. Ok (g x.0, note (faults x.0) x.1)) y e in
    let a = one x.0 x.1 in
    subst (Found S s) (ok_is (g x.0.0, note (faults x.0.0) x.0.1) y x.2)
    (record {
      tokens = a.tokens;
      passed = a.passed;
      right = λ none t.
          let n = neither x.0.1.0 (faults x.0.0) none in
          let first = a.right n.0 t in
          (first.0, made x.0.0 a.tokens n.1 first.1);
    })

pub found_made : {A B : Type 0} {R : List Token → A → Type 0} (S : List Token → B → Type 0) (s : State) (r : Read A)
    (g : A → B)
    → ((x : A × State) → r ≡ Ok x → Found R s x) → ((x : A) (ts : List Token) → R ts x → S ts (g x)) → (y : B × State)
    → (r >>= λ x. Ok (g x.0, x.1)) ≡ Ok y → Found S s y
found_made S s r g one made y e =
    let x = bind_ok r (λ x. Ok (g x.0, x.1)) y e in
    let a = one x.0 x.1 in
    subst (Found S s) (ok_is (g x.0.0, x.0.1) y x.2)
    (record {
      tokens = a.tokens;
      passed = a.passed;
      right = λ none t. let first = a.right none t
          in (first.0, made x.0.0 a.tokens first.1);
    })

-- behind tokens that were passed, with nothing noted
pub found_after : {X : Type 0} (R : List Token → X → Type 0) (ts : List Token) (s m : State) (x : X × State)
    → Quiet ts s m → Found (λ us y. R (ts ++ us) y) m x → Found R s x
found_after R ts s m x q rest = record {
  tokens = ts ++ rest.tokens;
  passed = passed_more ts rest.tokens s.1 m.1 x.1.1 q.passed rest.passed;
  right = λ none a. let r = rest.right none (split ts rest.tokens a).1 in (sym q.faults ∙ r.0, r.1);
}

-- ---- tokens

abbrev pub Are : {X : Type 0} → List Token → List Token → X → Type 0
Are ts us x = us ≡ ts

quiet : {X : Type 0} (ts : List Token) (s : State) (x : X × State) → Quiet ts s x.1 → Found (Are ts) s x
quiet ts s x q = record { tokens = ts; passed = q.passed; right = λ none a. (sym q.faults ∙ none, refl) }

pub sign_read : (m : Mark) (s : State) (x : ℕ × State) → sign_at m s ≡ Ok x → Found (Are (Sign m ∷ [])) s x
sign_read m s x e = quiet (Sign m ∷ []) s x (sign_found m s x e)

pub word_read : (w : Name) (s : State) (x : ℕ × State) → word_at w s ≡ Ok x → Found (Are (Word w ∷ [])) s x
word_read w s x e = quiet (Word w ∷ []) s x (word_found w s x e)

abbrev pub IsNamed : (Name → List Token) → List Token → PlacedName → Type 0
IsNamed front ts n = (ts ≡ front n.0) × (is_name n.0 ≡ true)

pub name_read : (s : State) (x : PlacedName × State) → name_at s ≡ Ok x → Found (IsNamed (λ n. Word n ∷ [])) s x
name_read s x e = let h = name_found s x e in record {
  tokens = Word x.0.0 ∷ [];
  passed = h.name.passed;
  right =
      λ none a. (sym h.faults ∙ none, (refl, h.name.name));
}

pub behind_read : (w : Name) (s : State) (x : PlacedName × State) → name_behind w s ≡ Ok x
    → Found (IsNamed (λ n. Word w ∷ Word n ∷ [])) s x
behind_read w s x e = let h = behind_found w s x e in record {
  tokens = Word w ∷ Word x.0.0 ∷ [];
  passed = h.passed;
  right = λ none a. (sym h.faults ∙ none, (refl, h.name));
}

-- the next token as one of them, and the spelling of it
module _ {X : Type 0} (what : Token → Option X) where
  abbrev pub IsKnown : List Token → X × ℕ → Type 0
  IsKnown ts x = (t : Token) × (what t ≡ Some x.0) × (ts ≡ t ∷ []) × IsSpelled t

  one_read : (s : State) (x : (X × ℕ) × State) → (t : Token) × (what t ≡ Some x.0.0) × Quiet (t ∷ []) s x.1
      → Found IsKnown s x
  one_read s x (t, is, q) = record {
    tokens = t ∷ [];
    passed = q.passed;
    right = λ none a. (
      sym q.faults ∙ none,
      (t, is, refl, a.0),
    );
  }

  pub known_read : (s : State) (x : (X × ℕ) × State) → token (pass_known what) s ≡ Ok x → Found IsKnown s x
  known_read s x e = one_read s x (known_found what s x e)

  pub any_read : (s : State) (x : (X × ℕ) × State) → token (pass_any what) s ≡ Ok x → Found IsKnown s x
  any_read s x e = one_read s x (any_found what s x e)
