-- A text between quotes, read a byte further.
use Rattle.std.proofs.Common.{◌≡◌, ℕ, ◌+◌, ◌<◌, ◌≤◌, List, [], ◌∷◌, ◌++◌, length, get_or, drop, Ok, Err, refl, ◌∙◌}
use Rattle.std.proofs.lemmas.List.{at_drop_more, at_drop_all}
use Rattle.mls_tokens.specs.declared.fault.ScanFault.TheVariants.{Token as BadToken}
use Rattle.mls_tokens.specs.declared.quoted.Mode.{Mode}
use Rattle.mls_tokens.specs.declared.quoted.Mode.TheVariants.{Plain}
use Rattle.mls_tokens.specs.declared.quoted.Part.TheVariants.{End, Bad, Goes, Byte}
use Rattle.mls_tokens.specs.Scanning.{step, text_at}

module _ (mode : Mode) (xs front : List ℕ) (i : ℕ) where
  pub text_over : length xs ≤ i → text_at mode front (drop i xs) ≡ Err BadToken
  text_over over = at_drop_all (text_at mode front) xs i over

  module _ (more : i < length xs) where
    pub text_ends : step mode (get_or xs i 0) ≡ End → text_at mode front (drop i xs) ≡ Ok (front, drop (i + 1) xs)
    text_ends e = at_drop_more (text_at mode front) xs i 0 more ∙ rw e refl

    pub text_bad : step mode (get_or xs i 0) ≡ Bad → text_at mode front (drop i xs) ≡ Err BadToken
    text_bad e = at_drop_more (text_at mode front) xs i 0 more ∙ rw e refl

    pub text_goes : (next : Mode) → step mode (get_or xs i 0) ≡ Goes next → text_at mode front (drop i xs)
        ≡ text_at next front (drop (i + 1) xs)
    text_goes next e = at_drop_more (text_at mode front) xs i 0 more ∙ rw e refl

    pub text_byte : (own : ℕ) → step mode (get_or xs i 0) ≡ Byte own → text_at mode front (drop i xs)
        ≡ text_at Plain (front ++ own ∷ []) (drop (i + 1) xs)
    text_byte own e = at_drop_more (text_at mode front) xs i 0 more ∙ rw e refl
