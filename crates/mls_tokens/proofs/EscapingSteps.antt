-- A text for a screen, read a byte further.
use Rattle.std.proofs.Common.{◌≡◌, ℕ, zero, suc, ◌+◌, ◌-◌, ◌<◌, List, ◌++◌, length, get_or, drop, ap, ◌∙◌, arith}
use Rattle.std.proofs.lemmas.List.{at_drop_more}
use Rattle.mls_tokens.specs.Screen.{byte_at, shown, passed, escaped_from}

module _ (xs : List ℕ) (i : ℕ) (more : i < length xs) where
  -- a byte that is shown already
  pub byte_passed : (n : ℕ) → 0 < n → escaped_from n (drop i xs) ≡ escaped_from (n - 1) (drop (i + 1) xs)
  byte_passed zero h = absurd (omega arith)
  byte_passed (suc n) h = at_drop_more (escaped_from (suc n)) xs i 0 more ∙ ap (λ k. escaped_from k (drop (i + 1) xs))
      (omega arith)

  -- one that begins a character
  pub byte_shown : (a b c n : ℕ) → n ≡ 0 → a ≡ get_or xs i 0 → b ≡ byte_at (drop (i + 1) xs) 0
      → c ≡ byte_at (drop (i + 1) xs) 1 → escaped_from n (drop i xs) ≡ shown a b c ++ escaped_from (passed a b c)
      (drop (i + 1) xs)
  byte_shown a b c n e p q r = rw (e, p, q, r) (at_drop_more (escaped_from 0) xs i 0 more)
