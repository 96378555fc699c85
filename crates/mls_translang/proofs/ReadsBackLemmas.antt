-- Tokens that are laid out are read back.
use Rattle.std.proofs.Common.{◌≡◌, ℕ, suc, zero, ◌-◌, nat_eq, Bool, true, false, cond, List, [], ◌∷◌, ◌++◌, map, codes, slice_index, refl, ap, inl, flat_map, bytes_eq}
use Rattle.std.specs.List.{AllByRecursion}
use Rattle.std.specs.Char.{is_ascii_digit}
use Rattle.mls_lattice.specs.Name.{is_name_byte}
use Rattle.mls_tokens.specs.declared.token.Token.{Token}
use Rattle.mls_tokens.specs.declared.token.Token.TheVariants.{Word, Int, Sign}
use Rattle.mls_tokens.specs.declared.sign.Sign.TheVariants as sign
use Rattle.mls_tokens.specs.Text.{goes_on, is_blank, IsPiece, IsGap, AreTokens}
use Rattle.mls_translang.specs.declared.layout.Before.{Before}
use Rattle.mls_translang.specs.declared.layout.Before.TheVariants.{Nothing, Opening, LineEnd, Brace, Other}
use Rattle.mls_translang.specs.declared.layout.Side.{Side}
use Rattle.mls_translang.specs.declared.layout.Side.TheVariants as side
use Rattle.mls_translang.specs.Layout.{spelled, side_of, before_of, depth_after, indent, new_line, gap, laid}
use Rattle.mls_translang.specs.ReadsBack.{IsSpelled, LayoutsAreTokens}

-- ---- a token ends where the next or its gap begins

-- a byte that goes on with no word, number or sign
abbrev Quiet : ℕ → Type 0
Quiet b = (is_name_byte b ≡ false) × (is_ascii_digit b ≡ false) × (nat_eq 61 b ≡ false) × (nat_eq 62 b ≡ false)

quiet : (t : Token) (b : ℕ) → Quiet b → goes_on t b ≡ false
quiet (Word s) b q = q.0
quiet (Int n) b q = q.1
quiet (Sign sign.Colon) b q = q.2
quiet (Sign sign.Less) b q = rw q.3 q.2
quiet (Sign sign.Greater) b q = q.2
quiet (Sign sign.Minus) b q = q.1
quiet _ b q = refl

spaced : (t : Token) → goes_on t 32 ≡ false
spaced t = quiet t 32 (refl, refl, refl, refl)

-- behind another token than an opening or the end of a line
behind : (t u : Token) (d : ℕ) (rest : List ℕ)
    → goes_on t (slice_index (gap d Other (side_of u) ++ (spelled u ++ rest)) 0) ≡ false
behind t (Word s) d rest = choice (bytes_eq s (codes "else"))
  where
    choice : (b : Bool) → goes_on t (slice_index (gap d Other (cond b side.Else side.Apart) ++ (s ++ rest)) 0) ≡ false
    choice true = spaced t
    choice false = spaced t
behind t (Sign sign.RightParen) d rest = quiet t 41 (refl, refl, refl, refl)
behind t (Sign sign.Comma) d rest = quiet t 44 (refl, refl, refl, refl)
behind t (Sign sign.Semicolon) d rest = quiet t 59 (refl, refl, refl, refl)
behind t (Sign sign.Colon) d rest = quiet t 58 (refl, refl, refl, refl)
behind t (Sign sign.Dot) d rest = quiet t 46 (refl, refl, refl, refl)
behind t _ d rest = spaced t

behind_all : (t : Token) (d : ℕ) (ts : List Token) → goes_on t (slice_index (laid d Other ts) 0) ≡ false
behind_all t d [] = quiet t 10 (refl, refl, refl, refl)
behind_all t d (u ∷ ts) = behind t u d (laid (depth_after d u) (before_of u) ts)

ends : (t : Token) (d : ℕ) (ts : List Token) → goes_on t (slice_index (laid d (before_of t) ts) 0) ≡ false
ends (Word s) d ts = behind_all (Word s) d ts
ends (Int n) d ts = behind_all (Int n) d ts
ends (Sign sign.Colon) d ts = behind_all (Sign sign.Colon) d ts
ends (Sign sign.Less) d ts = behind_all (Sign sign.Less) d ts
ends (Sign sign.Greater) d ts = behind_all (Sign sign.Greater) d ts
ends (Sign sign.Minus) d ts = behind_all (Sign sign.Minus) d ts
ends _ d ts = refl

-- ---- gaps are blank

abbrev AreBlank : List ℕ → Type 0
AreBlank = AllByRecursion (λ b. is_blank b ≡ true)

joined : (xs ys : List ℕ) → AreBlank xs → AreBlank ys → AreBlank (xs ++ ys)
joined [] ys h k = k
joined (x ∷ xs) ys h k = (h.0, joined xs ys h.1 k)

indent_blank : (n : ℕ) → AreBlank (indent n)
unfolding indent
indent_blank zero = tt
indent_blank (suc n) = joined (indent n) (codes "  ") (indent_blank n) (refl, (refl, tt))

line_blank : (d : ℕ) (s : Side) → AreBlank (new_line d s)
line_blank d side.Closing = (refl, indent_blank (d - 1))
line_blank d _ = (refl, indent_blank d)

gap_blank : (d : ℕ) (b : Before) (s : Side) → AreBlank (gap d b s)
gap_blank d Nothing s = tt
gap_blank d Opening s = tt
gap_blank d LineEnd s = line_blank d s
gap_blank d Brace side.Tight = line_blank d side.Tight
gap_blank d Brace side.Closing = line_blank d side.Closing
gap_blank d Brace side.Apart = line_blank d side.Apart
gap_blank d Other side.Tight = tt
gap_blank d _ _ = (refl, tt)

abbrev one : ℕ → List ℕ
one b = b ∷ []

whole : (bs : List ℕ) → bs ≡ flat_map (λ p. p) (map one bs)
whole [] = refl
whole (b ∷ bs) = ap (λ l. b ∷ l) (whole bs)

pieces : (bs : List ℕ) → AreBlank bs → AllByRecursion IsPiece (map one bs)
pieces [] h = tt
pieces (b ∷ bs) h = (inl (b, refl, h.0), pieces bs h.1)

blank_gap : (bs : List ℕ) → AreBlank bs → IsGap bs
blank_gap bs h = record { pieces = map one bs; whole = whole bs; each = pieces bs h }

-- ---- texts

pub laid_tokens : (d : ℕ) (b : Before) (ts : List Token) → AllByRecursion IsSpelled ts → AreTokens ts (laid d b ts)
laid_tokens d b [] h =
    record { gap = codes "\n"; last = []; parts = refl; is_gap = blank_gap (codes "\n") (refl, tt); is_last = inl refl }
laid_tokens d b (t ∷ ts) h =
    let rest = laid (depth_after d t) (before_of t) ts in (
      rest,
      record {
        gap = gap d b (side_of t);
        text = spelled t;
        parts = refl;
        is_gap = blank_gap _ (gap_blank d b (side_of t));
        spells = h.0;
        ends = ends t (depth_after d t) ts;
      },
      laid_tokens (depth_after d t) (before_of t) ts h.1,
    )

pub layouts_are_tokens : LayoutsAreTokens
layouts_are_tokens ts h = laid_tokens 0 Nothing ts h
