-- What is escaped has no control character but line feeds, and none that is invisible or turns a line round.
use Rattle.std.proofs.Common.{◌≡◌, ℕ, zero, suc, ◌+◌, ◌*◌, ◌≤◌, ◌<◌, ◌/◌, ◌%◌, true, false, cond, List, [], ◌∷◌, ◌++◌, sym, ap, subst, inl, inr, arith, ◌==◌, nat_lt}
use Rattle.std.specs.List.{AllByRecursion}
use Rattle.std.specs.Bool.{⊤}
use Rattle.std.proofs.lemmas.Bool.{cases_Bool}
use Rattle.std.proofs.lemmas.Bool.Decides.{nat_tests}
use Rattle.mls_tokens.specs.Writing.{hex_digit}
use Rattle.mls_tokens.specs.Screen.{is_hidden, is_hidden_pair, is_hidden_triple, hex_escape, unicode_escape, pair_escape, byte_at, shown, passed, escaped_from, escaped, EscapedTextsAreHarmless}
use Rattle.mls_tokens.proofs.EscapingLemmas.{pair_short, triple_short, triple_cut}

-- no hidden character begins anywhere
abbrev Calm : List ℕ → Type 0
Calm [] = ⊤
Calm (a ∷ bs) = (is_hidden a ≡ false) × (is_hidden_pair a (byte_at bs 0) ≡ false)
    × (is_hidden_triple a (byte_at bs 0) (byte_at bs 1) ≡ false) × Calm bs

-- ---- escapes

-- a byte that stands anywhere
record IsPlain (b : ℕ) : Type 0 where
  pub shown : 32 ≤ b
  pub ascii : b ≤ 126

pair_plain : (a b : ℕ) → a ≤ 126 → is_hidden_pair a b ≡ false
pair_plain a b h = grind (arith, nat_tests)

triple_plain : (a b c : ℕ) → a ≤ 126 → is_hidden_triple a b c ≡ false
triple_plain a b c h = grind (arith, nat_tests)

hidden_plain : (a : ℕ) → 32 ≤ a → a ≤ 126 → is_hidden a ≡ false
hidden_plain a low high = grind (arith, nat_tests)

calm_plain : (a : ℕ) (bs : List ℕ) → IsPlain a → Calm bs → Calm (a ∷ bs)
calm_plain a bs h k = (
  hidden_plain a h.shown h.ascii,
  pair_plain a (byte_at bs 0) h.ascii,
  triple_plain a (byte_at bs 0) (byte_at bs 1) h.ascii,
  k,
)

plain_between : (b : ℕ) → 32 ≤ b → b ≤ 126 → IsPlain b
plain_between b low high = record { shown = low; ascii = high }

plain_digit : (n : ℕ) → n < 16 → IsPlain (hex_digit n)
plain_digit n h =
    elim (cases_Bool (nat_lt n 10)) [
      | inl e ↦ subst IsPlain (sym (ap (λ t. cond t (48 + n) (87 + n)) e)) (plain_between (48 + n) (omega arith)
          (omega arith))
      | inr e ↦ subst IsPlain (sym (ap (λ t. cond t (48 + n) (87 + n)) e)) (plain_between (87 + n) (omega arith)
          (omega arith))
    ]

calm_digit : (n : ℕ) (bs : List ℕ) → n < 16 → Calm bs → Calm (hex_digit n ∷ bs)
calm_digit n bs h k = calm_plain (hex_digit n) bs (plain_digit n h) k

calm_escape : (b : ℕ) (rest : List ℕ) → b < 256 → Calm rest → Calm (hex_escape b ++ rest)
calm_escape b rest small k =
    calm_plain 92 (120 ∷ hex_digit (b / 16) ∷ hex_digit (b % 16) ∷ rest) (plain_between 92 (omega arith) (omega arith))
    (calm_plain 120 (hex_digit (b / 16) ∷ hex_digit (b % 16) ∷ rest) (plain_between 120 (omega arith) (omega arith))
    (calm_digit (b / 16) (hex_digit (b % 16) ∷ rest) (omega arith) (calm_digit (b % 16) rest (omega arith) k)))

calm_number : (a b c : ℕ) (rest : List ℕ) → Calm rest → Calm (unicode_escape a b c ++ rest)
calm_number a b c rest k =
    let d3 = hex_digit (c % 16) ∷ rest in
    let d2 = hex_digit (b % 4 * 4 + c % 64 / 16) ∷ d3 in
    let d1 = hex_digit (b % 64 / 4) ∷ d2 in
    let d0 = hex_digit (a % 16) ∷ d1 in
    calm_plain 92 (117 ∷ d0) (plain_between 92 (omega arith) (omega arith))
    (calm_plain 117 d0 (plain_between 117 (omega arith) (omega arith))
    (calm_digit (a % 16) d1 (omega arith) (calm_digit (b % 64 / 4) d2 (omega arith)
    (calm_digit (b % 4 * 4 + c % 64 / 16) d3 (omega arith) (calm_digit (c % 16) rest (omega arith) k)))))

hidden_small : (b : ℕ) → is_hidden b ≡ true → b < 256
hidden_small b h = grind (arith, nat_tests)

pair_small : (a b : ℕ) → is_hidden_pair a b ≡ true → b < 256
pair_small a b h = grind (arith, nat_tests)

calm_pair : (a b : ℕ) (rest : List ℕ) → b < 256 → Calm rest → Calm (pair_escape a b ++ rest)
calm_pair a b rest small k =
    elim (a == 194) as (λ t. Calm (cond t (hex_escape b) (unicode_escape 0 a b) ++ rest)) [
      | true ↦ calm_escape b rest small k
      | false ↦ calm_number 0 a b rest k
    ]

-- ---- what is written first

-- an escape, or the byte itself
shown_elim : (Q : List ℕ → Type 0) (a b c : ℕ) (out : ℕ → List ℕ) → ((tail : List ℕ) → Q (92 ∷ tail)) → Q (a ∷ out 0)
    → Q (shown a b c ++ out (passed a b c))
shown_elim Q a b c out escape same =
    elim (is_hidden a) as (λ t. Q (cond t (hex_escape a) (cond (is_hidden_pair a b) (pair_escape a b)
    (cond (is_hidden_triple a b c) (unicode_escape a b c) (a ∷ []))) ++ out (passed a b c))) [
      | true ↦ escape _
      | false ↦ elim (is_hidden_pair a b) as (λ t. Q (cond t (pair_escape a b) (cond (is_hidden_triple a b c)
          (unicode_escape a b c) (a ∷ [])) ++ out (cond t 1 (cond (is_hidden_triple a b c) 2 0)))) [
            | true ↦ elim (a == 194) as (λ t. Q (cond t (hex_escape b) (unicode_escape 0 a b) ++ out 1)) [
              | true ↦ escape _
              | false ↦ escape _
            ]
            | false ↦ elim (is_hidden_triple a b c) as (λ t. Q (cond t (unicode_escape a b c) (a ∷ [])
                ++ out (cond t 2 0))) [
                  | true ↦ escape _
                  | false ↦ same
                ]
          ]
    ]

first_kept : (P : ℕ → Type 0) (bs : List ℕ) → P 92 → P (byte_at bs 0) → P (byte_at (escaped bs) 0)
first_kept P [] escape same = same
first_kept P (b ∷ bs) escape same =
    shown_elim (λ l. P (byte_at l 0)) b (byte_at bs 0) (byte_at bs 1) (λ n. escaped_from n bs) (λ tail. escape) same

two_kept : (P : ℕ → ℕ → Type 0) (bs : List ℕ) → ((c : ℕ) → P 92 c) → ((b : ℕ) → P b 92)
    → P (byte_at bs 0) (byte_at bs 1) → P (byte_at (escaped bs) 0) (byte_at (escaped bs) 1)
two_kept P [] first second same = same
two_kept P (b ∷ bs) first second same =
    shown_elim (λ l. P (byte_at l 0) (byte_at l 1)) b (byte_at bs 0) (byte_at bs 1) (λ n. escaped_from n bs)
    (λ tail. first _)
    (first_kept (P b) bs (second b) same)

-- ---- a whole text

calm_shown : (a b c : ℕ) (out : ℕ → List ℕ) → ((n : ℕ) → Calm (out n)) → (is_hidden a ≡ false → is_hidden_pair a b
    ≡ false → is_hidden_triple a b c ≡ false → Calm (a ∷ out 0)) → Calm (shown a b c ++ out (passed a b c))
calm_shown a b c out every same =
    elim (cases_Bool (is_hidden a)) [
      | inl e ↦ subst (λ t. Calm (cond t (hex_escape a) (cond (is_hidden_pair a b) (pair_escape a b)
          (cond (is_hidden_triple a b c) (unicode_escape a b c) (a ∷ []))) ++ out (passed a b c))) (sym e)
          (calm_escape a (out (passed a b c)) (hidden_small a e) (every (passed a b c)))
      | inr e ↦ subst (λ t. Calm (cond t (hex_escape a) (cond (is_hidden_pair a b) (pair_escape a b)
          (cond (is_hidden_triple a b c) (unicode_escape a b c) (a ∷ []))) ++ out (passed a b c))) (sym e)
          (elim (cases_Bool (is_hidden_pair a b)) [
            | inl p ↦ subst (λ t. Calm (cond t (pair_escape a b) (cond (is_hidden_triple a b c) (unicode_escape a b c)
                (a ∷ [])) ++ out (cond t 1 (cond (is_hidden_triple a b c) 2 0)))) (sym p)
                (calm_pair a b (out 1) (pair_small a b p) (every 1))
            | inr p ↦ subst (λ t. Calm (cond t (pair_escape a b) (cond (is_hidden_triple a b c) (unicode_escape a b c)
                (a ∷ [])) ++ out (cond t 1 (cond (is_hidden_triple a b c) 2 0)))) (sym p)
                (elim (cases_Bool (is_hidden_triple a b c)) [
                  | inl q ↦ subst (λ t. Calm (cond t (unicode_escape a b c) (a ∷ []) ++ out (cond t 2 0))) (sym q)
                      (calm_number a b c (out 2) (every 2))
                  | inr q ↦ subst (λ t. Calm (cond t (unicode_escape a b c) (a ∷ []) ++ out (cond t 2 0))) (sym q)
                      (same e p q)
                ])
          ])
    ]

calm : (bs : List ℕ) (n : ℕ) → Calm (escaped_from n bs)
calm [] n = tt
calm (a ∷ bs) (suc n) = calm bs n
calm (a ∷ bs) zero =
    calm_shown a (byte_at bs 0) (byte_at bs 1) (λ n. escaped_from n bs) (calm bs)
    (λ e p q. (
      e,
      first_kept (λ b. is_hidden_pair a b ≡ false) bs (pair_short a 92 (omega arith)) p,
      two_kept (λ b c. is_hidden_triple a b c ≡ false) bs (λ c. triple_short a 92 c (omega arith))
          (λ b. triple_cut a b 92 (omega arith)) q,
      calm bs 0,
    ))

all_single : (bs : List ℕ) → Calm bs → AllByRecursion (λ b. is_hidden b ≡ false) bs
all_single [] h = tt
all_single (b ∷ bs) h = (h.0, all_single bs h.3)

no_double : (front rest : List ℕ) (a b : ℕ) → Calm (front ++ a ∷ b ∷ rest) → is_hidden_pair a b ≡ false
no_double [] rest a b h = h.1
no_double (x ∷ front) rest a b h = no_double front rest a b h.3

no_triple : (front rest : List ℕ) (a b c : ℕ) → Calm (front ++ a ∷ b ∷ c ∷ rest) → is_hidden_triple a b c ≡ false
no_triple [] rest a b c h = h.2
no_triple (x ∷ front) rest a b c h = no_triple front rest a b c h.3

pub escaped_harmless : EscapedTextsAreHarmless
escaped_harmless bytes = record {
  single = all_single (escaped bytes) (calm bytes 0);
  double = λ front rest a b is. no_double front rest a b (subst Calm is (calm bytes 0));
  triple = λ front rest a b c is. no_triple front rest a b c (subst Calm is (calm bytes 0));
}
