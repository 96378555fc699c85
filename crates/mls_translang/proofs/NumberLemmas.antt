-- A number is spelled as it is written.
use Rattle.std.proofs.Common.{◌≡◌, ℕ, suc, ◌<◌, ◌^◌, ℤ, pos, negsuc, neg_ℤ, true, refl, sym, ap, inl, inr, arith, FitsSigned, w64, decimal}
use Rattle.std.specs.Str.{all_ascii_digits}
use Rattle.std.specs.Str.Parse.{digits_value}
use Rattle.std.proofs.lemmas.Fmt.{decimal_is_IsNumeral}
use Rattle.std.proofs.lemmas.Str.Parse.{tells_all_ascii_digits, numerals_by_value}
use Rattle.mls_tokens.specs.declared.token.Token.TheVariants.{Int}
use Rattle.mls_tokens.specs.Text.{IsDigits}
use Rattle.mls_translang.specs.ReadsBack.{IsSpelled}

digits : (n : ℕ) → n < 2 ^ 64 → IsDigits (decimal n) × (digits_value 10 (decimal n) ≡ n)
digits n h =
    let e = decimal_is_IsNumeral n h in (
      record {
        some = e.0.0;
        digits = (numerals_by_value (λ ds. all_ascii_digits ds ≡ true) tells_all_ascii_digits).from
            (decimal n) e.0.1;
      },
      e.1,
    )

pub int_spelled : (n : ℤ) → FitsSigned w64 n → IsSpelled (Int n)
int_spelled (pos n) fits =
    let e = digits n (let f = fits.sfits in omega arith) in
    (fits, inl (e.0, ap pos (sym e.1)))
int_spelled (negsuc n) fits =
    let e = digits (suc n) (let f = fits.sfits in omega arith) in
    (fits, inr (decimal (suc n), refl, e.0, ap (λ k. neg_ℤ (pos k)) (sym e.1)))
