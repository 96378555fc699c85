-- The tokens that were passed.
use Rattle.std.proofs.Common.{◌≡◌, ℕ, ◌<◌, ◌+◌, Bool, true, false, List, [], ◌∷◌, ◌++◌, length, Option, Some, None, Ok, inl, inr, refl, sym, ap, ◌∙◌, subst, append_assoc, arith, length-append}
use Rattle.std.proofs.lemmas.Bool.{cases_Bool}
use Rattle.std.proofs.lemmas.List.{length-map}
use Rattle.std.proofs.lemmas.Slice.Eq.{bytes_eq-Decides}
use Rattle.mls_lattice.specs.Name.{is_name}
use Rattle.mls_lattice.proofs.ReadingLemmas.{ok_is}
use Rattle.mls_tokens.specs.declared.fault.TokenCause.{TokenCause}
use Rattle.mls_tokens.specs.declared.fault.TokenCause.TheVariants as causes
use Rattle.mls_tokens.specs.declared.fault.TokenFault.{TokenFault}
use Rattle.mls_tokens.specs.declared.token.Token.{Token}
use Rattle.mls_tokens.specs.declared.token.Token.TheVariants.{Word, Sign as Sign_token}
use Rattle.mls_tokens.specs.declared.token.Placed.{Placed}
use Rattle.mls_tokens.specs.declared.sign.Sign.{Sign}
use Rattle.mls_tokens.specs.declared.sign.Sign.TheVariants.{Becomes}
use Rattle.mls_tokens.specs.Sign.{sign_text, sign_goes_on, leading_sign}
use Rattle.mls_tokens.specs.Scanning.{Left, without_places}
use Rattle.mls_tokens.specs.Passing.{left, is_word, is_sign, take_first, taken, or_refused, pass, PlacedName, name_of_token, named_first, pass_name_of, pass_name, is_expected, over_with}
use Rattle.mls_tokens.proofs.SignLemmas.{sign_again}

-- ---- tokens

pub record Passed (ts : List Token) (l r : Left) : Type 0 where
  pub tokens : without_places l.placed ≡ ts ++ without_places r.placed
  pub stop : r.stop ≡ l.stop

pub passed_none : (l : Left) → Passed [] l l
passed_none l = record { tokens = refl; stop = refl }

pub passed_more : (ts us : List Token) (l m r : Left) → Passed ts l m → Passed us m r → Passed (ts ++ us) l r
passed_more ts us l m r a b = record {
  tokens = a.tokens ∙ ap (λ x. ts ++ x) b.tokens
      ∙ sym (append_assoc ts us (without_places r.placed));
  stop = b.stop ∙ a.stop;
}

-- some tokens more are left before than behind
pub passed_shorter : (ts : List Token) (l r : Left) → Passed ts l r → length l.placed ≡ length ts + length r.placed
passed_shorter ts l r h =
    sym (length-map l.placed (λ p. p.token)) ∙ ap length h.tokens ∙ length-append ts (without_places r.placed)
    ∙ ap (λ n. length ts + n) (length-map r.placed (λ p. p.token))

-- ---- signs are written apart

ends_at_end : (s : Sign) → sign_goes_on s 0 ≡ false
ends_at_end Becomes = refl
ends_at_end _ = refl

signs_is : (x y : Sign × List ℕ) (o : Option (Sign × List ℕ)) → o ≡ Some x → o ≡ Some y → x ≡ y
signs_is x y o p q = cc

sign_once : (s t : Sign) → sign_text s ≡ sign_text t → s ≡ t
sign_once s t same =
    ap (λ (x : Sign × List ℕ). x.0) (signs_is (s, []) (t, []) (leading_sign (sign_text s ++ []))
    (sign_again s [] (ends_at_end s)) (ap (λ (x : List ℕ). leading_sign (x ++ [])) same ∙ sign_again t []
    (ends_at_end t)))

-- ---- words and signs

-- a token that a test takes was passed
abbrev pub TokenTaken : (Token → Bool) → Left → Left → Type 0
TokenTaken test l r = (t : Token) × (test t ≡ true) × Passed (t ∷ []) l r

abbrev gives : ℕ × Left → Option (ℕ × Left)
gives x = Some x

gives_is : (x y : ℕ × Left) → gives x ≡ gives y → x ≡ y
gives_is x y e = cc

first_found : (test : Token → Bool) (ps : List Placed) (stop : TokenFault) (at : ℕ) (r : Left) → take_first test ps stop
    ≡ Some (at, r) → TokenTaken test (left ps stop) r
first_found test [] stop at r e = absurd cc
first_found test (p ∷ ps) stop at r e =
    elim (cases_Bool (test p.token)) [
      | inl on ↦
          let same = gives_is (p.at, left ps stop) (at, r) (rw on at e) in
          subst (λ (x : ℕ × Left). TokenTaken test (left (p ∷ ps) stop) x.1) same (
            p.token,
            on,
            record { tokens = refl; stop = refl },
          )
      | inr off ↦ absurd (let h = rw off at e in cc)
    ]

pub taken_found : (test : Token → Bool) (l : Left) (at : ℕ) (r : Left) → taken test l ≡ Some (at, r)
    → TokenTaken test l r
taken_found test l at r e = first_found test l.placed l.stop at r e

pub taken_shorter : (test : Token → Bool) (l : Left) (at : ℕ) (r : Left) → taken test l ≡ Some (at, r) → length r.placed
    < length l.placed
taken_shorter test l at r e = let h = taken_found test l at r e in omega (arith, passed_shorter (h.0 ∷ []) l r h.2)

or_found : {X : Type 0} (o : Option X) (l : Left) (x : X) → or_refused o l ≡ Ok x → o ≡ Some x
or_found None l x e = absurd cc
or_found (Some y) l x e = ap (λ z. Some z) (ok_is y x e)

word_is : (w : List ℕ) (t : Token) → is_word w t ≡ true → t ≡ Word w
word_is w (Word s) h = ap (λ (x : List ℕ). Word x) ((bytes_eq-Decides s w).0 h)
word_is w _ h = absurd cc

pub word_taken : (w : List ℕ) (l : Left) (x : ℕ × Left) → taken (is_word w) l ≡ Some x → Passed (Word w ∷ []) l x.1
word_taken w l x e = let h = taken_found (is_word w) l x.0 x.1 e in subst (λ t. Passed (t ∷ []) l x.1)
    (word_is w h.0 h.1) h.2

pub word_found : (w : List ℕ) (l : Left) (x : ℕ × Left) → pass (is_word w) l ≡ Ok x → Passed (Word w ∷ []) l x.1
word_found w l x e = word_taken w l x (or_found (taken (is_word w) l) l x e)

sign_is : (s : Sign) (t : Token) → is_sign s t ≡ true → t ≡ Sign_token s
sign_is s (Sign_token t) h = ap (λ (x : Sign). Sign_token x)
    (sign_once t s ((bytes_eq-Decides (sign_text t) (sign_text s)).0 h))
sign_is s _ h = absurd cc

pub sign_taken : (s : Sign) (l : Left) (x : ℕ × Left) → taken (is_sign s) l ≡ Some x → Passed (Sign_token s ∷ []) l x.1
sign_taken s l x e = let h = taken_found (is_sign s) l x.0 x.1 e in subst (λ t. Passed (t ∷ []) l x.1)
    (sign_is s h.0 h.1) h.2

pub sign_found : (s : Sign) (l : Left) (x : ℕ × Left) → pass (is_sign s) l ≡ Ok x → Passed (Sign_token s ∷ []) l x.1
sign_found s l x e = sign_taken s l x (or_found (taken (is_sign s) l) l x e)

-- ---- names

named_is : (t : Token) (s : List ℕ) → name_of_token t ≡ Some s → (t ≡ Word s) × (is_name s ≡ true)
named_is (Word w) s e =
    elim (cases_Bool (is_name w)) [
      | inl named ↦ let same : w ≡ s = let h = rw named at e in cc in (
        ap (λ (x : List ℕ). Word x) same,
        ap is_name (sym same) ∙ named,
      )
      | inr other ↦ absurd (let h = rw other at e in cc)
    ]
named_is _ s e = absurd cc

-- a name was passed, in these tokens
pub record NameFound (ts : List ℕ → List Token) (l : Left) (x : PlacedName × Left) : Type 0 where
  pub name : is_name x.0.0 ≡ true
  pub passed : Passed (ts x.0.0) l x.1

abbrev pub alone : List ℕ → List Token
alone s = Word s ∷ []

name_first : (t : Token) (ps : List Placed) (stop : TokenFault) (at : ℕ) (o : Option (List ℕ)) (x : PlacedName × Left)
    → name_of_token t ≡ o → named_first at (left ps stop) o ≡ Ok x
    → NameFound alone (left (record { token = t; at = at } ∷ ps) stop) x
name_first t ps stop at None x is e = absurd cc
name_first t ps stop at (Some s) x is e =
    let h = named_is t s is in
    subst (λ y. NameFound alone (left (record { token = t; at = at } ∷ ps) stop) y) (ok_is ((s, at), left ps stop) x e)
    (record { name = h.1; passed = record { tokens = ap (λ y. y ∷ without_places ps) h.0; stop = refl } })

name_of_found : (ps : List Placed) (stop : TokenFault) (x : PlacedName × Left) → pass_name_of ps stop ≡ Ok x
    → NameFound alone (left ps stop) x
name_of_found [] stop x e = absurd cc
name_of_found (p ∷ ps) stop x e = name_first p.token ps stop p.at (name_of_token p.token) x refl e

pub name_found : (l : Left) (x : PlacedName × Left) → pass_name l ≡ Ok x → NameFound alone l x
name_found l x e = name_of_found l.placed l.stop x e

-- ---- the end

expected_is : (c : TokenCause) → is_expected c ≡ true → c ≡ causes.Expected
expected_is causes.Expected e = refl
expected_is _ e = absurd cc

pub over_is : (ps : List Placed) (stop : TokenFault) → over_with ps stop ≡ true → (without_places ps ≡ [])
    × (stop.cause ≡ causes.Expected)
over_is [] stop e = (refl, expected_is stop.cause e)
over_is (p ∷ ps) stop e = absurd cc
