-- A key that is read is spelled so, and what is spelled so is read again.
use Rattle.std.proofs.Common.{◌≡◌, ℕ, zero, suc, ◌+◌, ◌-◌, ◌^◌, ◌<◌, ◌≤◌, false, cond, nat_lt, nat_le, ◌&&◌, ◌==◌, List, [], ◌∷◌, ◌++◌, length, get_or, take, drop, ℤ, pos, negsuc, Result, Ok, Err, refl, sym, ap, subst, ◌∙◌, append_assoc, arith, inl, inr, IfOk, FitsSigned, IsUtf8, flat_map, w32, w64, ltb-false, le-ltb, leb-true, le-leb, eqb-true, take_at, drop_at, take-append-drop, length-append, length-take, get_or-drop, get_or-take, append-nil}
use Rattle.std.specs.Global.{Vec}
use Rattle.std.specs.Str.{is_utf8}
use Rattle.std.specs.List.{AllByRecursion}
use Rattle.std.specs.Int.{Width, byte_len, from_be_bytes, to_be_bytes, cast_unsigned, cast_signed}
use Rattle.std.proofs.Math.Facts.{sfits_to_z, Fits-of_lt}
use Rattle.std.proofs.lemmas.Int.{of_z-to_z, to_z-of_z}
use Rattle.std.proofs.lemmas.Bool.{cases_lt, and_parts}
use Rattle.std.proofs.lemmas.List.{get_or_past, nil_from_length}
use Rattle.std.proofs.lemmas.Nat.{be_bytes_4, be_bytes_8, from_be_bytes-to_be_bytes_4, from_be_bytes-to_be_bytes_8}
use Rattle.std.proofs.lemmas.Str.{IsUtf8-from_is_utf8}
use Rattle.mls_lattice.specs.Reading.{◌>>=◌}
use Rattle.mls_lattice.proofs.ReadingLemmas.{ok_is, bind_ok, guard_ok, pass_ok}
use Rattle.mls_scheme.specs.declared.value.Value.{Value}
use Rattle.mls_scheme.specs.declared.value.Value.TheVariants.{Int, Text}
use Rattle.mls_scheme.specs.declared.key_fault.KeyFault.{KeyFault}
use Rattle.mls_scheme.specs.declared.key_fault.KeyFault.TheVariants.{Short, BadTag, BadText, Trailing}
use Rattle.mls_scheme.specs.Spelling.{value_spelling, key_spelling, HasSpelling, IsSpelledKey, AreUnambiguous}
use Rattle.mls_scheme.specs.KeyReading.{GivesKey, number_at, int_at, utf8_at, text_at, value_at, values_at, key_at}
use Rattle.mls_scheme.proofs.KeySteps.{utf8_at-ok}

abbrev pub IsBytes : List ℕ → Type 0
IsBytes bytes = (i : ℕ) → get_or bytes i 0 < 256

IsBytes-drop : (n : ℕ) (bytes : List ℕ) → IsBytes bytes → IsBytes (drop n bytes)
IsBytes-drop n bytes h i = rw get_or-drop (h (n + i))

IsBytes-take : (n : ℕ) (bytes : List ℕ) → IsBytes bytes → IsBytes (take n bytes)
IsBytes-take n bytes h i =
    elim (cases_lt i n) [
      | inl lt ↦ rw (get_or-take n bytes i 0 lt) (h i)
      | inr le ↦ rw (get_or_past (take n bytes) i 0 (omega (arith, length-take n bytes))) (omega arith)
    ]

IsBytes-rest : (b : ℕ) (bytes : List ℕ) → IsBytes (b ∷ bytes) → IsBytes bytes
IsBytes-rest b bytes h i = h (suc i)

-- what a reader took from the front
pub record Takes (bytes text rest : List ℕ) : Type 0 where
  pub parts : bytes ≡ text ++ rest
  pub rest_fits : IsBytes rest

pub Takes-then : (a x b y c : List ℕ) → Takes a x b → Takes b y c → Takes a (x ++ y) c
Takes-then a x b y c p q = record {
  parts = p.parts ∙ ap (λ (t : List ℕ). x ++ t) q.parts ∙ sym (append_assoc x y c);
  rest_fits = q.rest_fits;
}

-- ---- numbers

record IsWide (w : Width) (limit : ℕ) : Type 0 where
  len : (n : ℕ) → length (to_be_bytes w n) ≡ byte_len w
  back : (bytes : List ℕ) → length bytes ≡ byte_len w → IsBytes bytes → to_be_bytes w (from_be_bytes w bytes) ≡ bytes
  again : (n : ℕ) → n < limit → from_be_bytes w (to_be_bytes w n) ≡ n
  below : (bytes : List ℕ) → IsBytes bytes → from_be_bytes w bytes < limit

wide32 : IsWide w32 (2 ^ 32)
wide32 = record {
  len = λ n. refl;
  back = λ bytes len fits. be_bytes_4 bytes _ len fits refl;
  again = λ n lt. from_be_bytes-to_be_bytes_4 n lt;
  below = λ bytes fits. omega (arith, fits 0, fits 1, fits 2, fits 3);
}

wide64 : IsWide w64 (2 ^ 64)
wide64 = record {
  len = λ n. refl;
  back = λ bytes len fits. be_bytes_8 bytes _ len fits refl;
  again = λ n lt. from_be_bytes-to_be_bytes_8 n lt;
  below = λ bytes fits. omega (arith, fits 0, fits 1, fits 2, fits 3, fits 4, fits 5, fits 6, fits 7);
}

number_takes : (w : Width) (limit : ℕ) (wide : IsWide w limit) (bytes : List ℕ) (n : ℕ) (rest : List ℕ) → IsBytes bytes
    → number_at w bytes ≡ Ok (n, rest) → Takes bytes (to_be_bytes w n) rest × (n < limit)
number_takes w limit wide bytes n rest fits e =
    let g = guard_ok (nat_lt (length bytes) (byte_len w)) Short (Ok (
      from_be_bytes w (take (byte_len w) bytes),
      drop (byte_len w) bytes,
    )) (n, rest) e in
    let pair : (from_be_bytes w (take (byte_len w) bytes), drop (byte_len w) bytes) ≡ (n, rest) = ok_is _ _ g.1 in
    let long : byte_len w ≤ length bytes = ltb-false _ _ g.0 in
    let n-is : from_be_bytes w (take (byte_len w) bytes) ≡ n = ap (λ (p : ℕ × List ℕ). p.0) pair in
    let rest-is : drop (byte_len w) bytes ≡ rest = ap (λ (p : ℕ × List ℕ). p.1) pair in
    let front : to_be_bytes w n ≡ take (byte_len w) bytes = rw (← n-is) (wide.back (take (byte_len w) bytes)
    (omega (arith, length-take (byte_len w) bytes)) (IsBytes-take (byte_len w) bytes fits)) in (
      record {
        parts = rw (front, ← rest-is) (sym (take-append-drop (byte_len w) bytes));
        rest_fits =
            rw (← rest-is) (IsBytes-drop (byte_len w) bytes fits);
      },
      rw (← n-is) (wide.below (take (byte_len w) bytes)
          (IsBytes-take (byte_len w) bytes fits)),
    )

number_again : (w : Width) (limit : ℕ) (wide : IsWide w limit) (n : ℕ) (rest : List ℕ) → n < limit
    → number_at w (to_be_bytes w n ++ rest) ≡ Ok (n, rest)
number_again w limit wide n rest lt =
    let len = wide.len n in
    let long : nat_lt (length (to_be_bytes w n ++ rest)) (byte_len w) ≡ false =
    le-ltb _ _ (omega (arith, length-append (to_be_bytes w n) rest)) in
    rw (
      long,
      take_at (to_be_bytes w n) rest (byte_len w) len,
      drop_at (to_be_bytes w n) rest (byte_len w) len,
      wide.again n lt,
    ) refl

-- ---- a number with its sign

cast_unsigned-lt : (z : ℤ) → FitsSigned w64 z → cast_unsigned w64 z < 2 ^ 64
cast_unsigned-lt (pos n) f = let h = f.sfits in omega arith
cast_unsigned-lt (negsuc n) f = omega arith

int_takes : (bytes : List ℕ) (z : ℤ) (rest : List ℕ) → IsBytes bytes → int_at bytes ≡ Ok (z, rest)
    → Takes bytes (to_be_bytes w64 (cast_unsigned w64 z)) rest × FitsSigned w64 z
unfolding int_at
int_takes bytes z rest fits e =
    let b = bind_ok (number_at w64 bytes) (λ n. Ok (cast_signed w64 n.0, n.1)) (z, rest) e in
    let n = b.0 in
    let t = number_takes w64 (2 ^ 64) wide64 bytes n.0 n.1 fits b.1 in
    let pair : (cast_signed w64 n.0, n.1) ≡ (z, rest) = ok_is _ _ b.2 in
    let back : cast_unsigned w64 (cast_signed w64 n.0) ≡ n.0 = of_z-to_z w64 n.0 t.1 in
    let here : Takes bytes (to_be_bytes w64 (cast_unsigned w64 (cast_signed w64 n.0))) n.1
    × FitsSigned w64 (cast_signed w64 n.0) =
    (subst (λ (k : ℕ). Takes bytes (to_be_bytes w64 k) n.1) (sym back) t.0, sfits_to_z (Fits-of_lt t.1)) in
    subst (λ (p : ℤ × List ℕ). Takes bytes (to_be_bytes w64 (cast_unsigned w64 p.0)) p.1 × FitsSigned w64 p.0) pair here

int_again : (z : ℤ) (rest : List ℕ) → FitsSigned w64 z → int_at (to_be_bytes w64 (cast_unsigned w64 z) ++ rest)
    ≡ Ok (z, rest)
unfolding int_at
int_again z rest fits = rw (
  number_again w64 (2 ^ 64) wide64 (cast_unsigned w64 z) rest (cast_unsigned-lt z fits),
  to_z-of_z w64 z fits,
) refl

-- ---- texts

record TakesText (bytes text rest : List ℕ) : Type 0 where
  takes : Takes bytes (to_be_bytes w32 (length text) ++ text) rest
  utf8 : IsUtf8 text
  short : length text < 2 ^ 32

text_cut : (bytes : List ℕ) (n : ℕ) (after : List ℕ) → Takes bytes (to_be_bytes w32 n) after → n < 2 ^ 32
    → n ≤ length after → IsUtf8 (take n after) → TakesText bytes (take n after) (drop n after)
text_cut bytes n after t lt long utf8 =
    let len : length (take n after) ≡ n = omega (arith, length-take n after) in
    let second : Takes after (take n after) (drop n after) = record {
      parts = sym (take-append-drop n after);
      rest_fits = IsBytes-drop n after t.rest_fits;
    } in
    let both = Takes-then bytes (to_be_bytes w32 n) after (take n after) (drop n after) t second in
    record {
      takes = subst (λ (k : ℕ). Takes bytes (to_be_bytes w32 k ++ take n after) (drop n after)) (sym len) both;
      utf8 = utf8;
      short = rw len lt;
    }

-- the text of a length, where reading it did not fail
abbrev text_of_length : ℕ → List ℕ → Result (List ℕ × List ℕ) KeyFault
text_of_length n after = cond (nat_lt (length after) n) (Err Short) (utf8_at (take n after) >>=
    (λ s. Ok (s, drop n after)))

text_rest : (bytes : List ℕ) (n : ℕ) (after : List ℕ) (x : List ℕ × List ℕ) → Takes bytes (to_be_bytes w32 n) after
    → n < 2 ^ 32 → text_of_length n after ≡ Ok x → TakesText bytes x.0 x.1
unfolding utf8_at
text_rest bytes n after x t lt e =
    let g = guard_ok (nat_lt (length after) n) Short (utf8_at (take n after) >>= (λ s. Ok (s, drop n after))) x e in
    let u = bind_ok (utf8_at (take n after)) (λ s. Ok (s, drop n after)) x g.1 in
    let v = pass_ok (is_utf8 (take n after)) BadText (Ok (take n after)) u.0 u.1 in
    let same : (take n after, drop n after) ≡ x = ap (λ (s : List ℕ). (s, drop n after)) (ok_is (take n after) u.0 v.1)
    ∙ ok_is (u.0, drop n after) x u.2 in
    subst (λ (p : List ℕ × List ℕ). TakesText bytes p.0 p.1) {x = (take n after, drop n after)} same
    (text_cut bytes n after t lt (ltb-false _ _ g.0) (IsUtf8-from_is_utf8 (take n after) v.0))

text_takes : (bytes : List ℕ) (x : List ℕ × List ℕ) → IsBytes bytes → text_at bytes ≡ Ok x → TakesText bytes x.0 x.1
unfolding text_at
text_takes bytes x fits e =
    let b = bind_ok (number_at w32 bytes) (λ n. text_of_length n.0 n.1) x e in
    let t = number_takes w32 (2 ^ 32) wide32 bytes b.0.0 b.0.1 fits b.1 in
    text_rest bytes b.0.0 b.0.1 x t.0 t.1 b.2

text_again : (text rest : List ℕ) → length text < 2 ^ 32 → IsUtf8 text
    → text_at ((to_be_bytes w32 (length text) ++ text) ++ rest) ≡ Ok (text, rest)
unfolding text_at
text_again text rest lt utf8 =
    let long : nat_lt (length (text ++ rest)) (length text) ≡ false =
    le-ltb _ _ (omega (arith, length-append text rest)) in
    ap text_at (append_assoc (to_be_bytes w32 (length text)) text rest)
    ∙ rw (
      number_again w32 (2 ^ 32) wide32 (length text) (text ++ rest) lt,
      long,
      take_at text rest (length text) refl,
      drop_at text rest (length text) refl,
      utf8_at-ok text utf8,
    ) refl

-- ---- values

pub value_takes : (bytes : List ℕ) (v : Value) (rest : List ℕ) → IsBytes bytes → value_at bytes ≡ Ok (v, rest)
    → Takes bytes (value_spelling v) rest × HasSpelling v
unfolding value_at
value_takes [] v rest fits e = absurd cc
value_takes (zero ∷ bytes) v rest fits e = absurd cc
value_takes (suc zero ∷ bytes) v rest fits e =
    let b = bind_ok (int_at bytes) (λ n. Ok (Int n.0, n.1)) (v, rest) e in
    let t = int_takes bytes b.0.0 b.0.1 (IsBytes-rest 1 bytes fits) b.1 in
    subst (λ (p : Value × List ℕ). Takes (1 ∷ bytes) (value_spelling p.0) p.1 × HasSpelling p.0)
    (ok_is (Int b.0.0, b.0.1) (v, rest) b.2) (
      record {
        parts = ap (λ (x : List ℕ). 1 ∷ x) t.0.parts;
        rest_fits =
            t.0.rest_fits;
      },
      (t.1, tt),
    )
value_takes (suc (suc zero) ∷ bytes) v rest fits e =
    let b = bind_ok (text_at bytes) (λ s. Ok (Text s.0, s.1)) (v, rest) e in
    let t = text_takes bytes b.0 (IsBytes-rest 2 bytes fits) b.1 in
    subst (λ (p : Value × List ℕ). Takes (2 ∷ bytes) (value_spelling p.0) p.1 × HasSpelling p.0)
    (ok_is (Text b.0.0, b.0.1) (v, rest) b.2) (
      record {
        parts = ap (λ (x : List ℕ). 2 ∷ x) t.takes.parts;
        rest_fits = t.takes.rest_fits;
      },
      (t.utf8, t.short),
    )
value_takes (suc (suc (suc b)) ∷ bytes) v rest fits e = absurd cc

pub value_again : (v : Value) (rest : List ℕ) → HasSpelling v → value_at (value_spelling v ++ rest) ≡ Ok (v, rest)
unfolding value_at
value_again (Int n) rest h = rw (int_again n rest h.0) refl
value_again (Text s) rest h = rw (text_again s rest h.1 h.0) refl

-- the values after those before
record Reads (front : List Value) (n : ℕ) (bytes : List ℕ) (all : List Value) (rest : List ℕ) : Type 0 where
  new : List Value
  parts : all ≡ front ++ new
  count : length new ≡ n
  takes : Takes bytes (flat_map value_spelling new) rest
  fit : AllByRecursion HasSpelling new

values_take : (n : ℕ) (front : List Value) (bytes : List ℕ) (x : List Value × List ℕ) → IsBytes bytes
    → values_at front n bytes ≡ Ok x → Reads front n bytes x.0 x.1
unfolding values_at
values_take zero front bytes x fits e =
    let same : (front, bytes) ≡ x = ok_is _ _ e in
    subst (λ (y : List Value × List ℕ). Reads front 0 bytes y.0 y.1) same
    (record {
      new = [];
      parts = sym (append-nil front);
      count = refl;
      takes = record {
        parts = refl;
        rest_fits =
            fits;
      };
      fit = tt;
    })
values_take (suc n) front bytes x fits e =
    let b = bind_ok (value_at bytes) _ x e in
    let v = b.0.0 in
    let t = value_takes bytes v b.0.1 fits b.1 in
    let more = values_take n (front ++ v ∷ []) b.0.1 x t.0.rest_fits b.2 in
    record {
      new = v ∷ more.new;
      parts = more.parts ∙ append_assoc front (v ∷ []) more.new;
      count = ap suc more.count;
      takes = Takes-then bytes (value_spelling v) b.0.1 (flat_map value_spelling more.new) x.1 t.0 more.takes;
      fit = (t.1, more.fit);
    }

values_again : (front new : List Value) (rest : List ℕ) → AllByRecursion HasSpelling new → values_at front (length new)
    (flat_map value_spelling new ++ rest) ≡ Ok (front ++ new, rest)
unfolding values_at
values_again front [] rest fit = ap (λ (vs : List Value). Ok (vs, rest)) (sym (append-nil front))
values_again front (v ∷ new) rest fit =
    let group : (value_spelling v ++ flat_map value_spelling new) ++ rest ≡ value_spelling v
    ++ (flat_map value_spelling new ++ rest) = append_assoc (value_spelling v) (flat_map value_spelling new) rest in
    ap (λ (bs : List ℕ). values_at front (suc (length new)) bs) group
    ∙ rw (value_again v (flat_map value_spelling new ++ rest) fit.0) (values_again (front ++ v ∷ []) new rest fit.1
    ∙ ap (λ (vs : List Value). Ok (vs, rest)) (append_assoc front (v ∷ []) new))

-- ---- keys

key_found : (bytes : List ℕ) (key : List Value) → IsBytes bytes → key_at bytes ≡ Ok key → IsSpelledKey key
    × (bytes ≡ key_spelling key)
unfolding key_at
key_found [] key fits e = absurd cc
key_found (count ∷ bytes) key fits e =
    let a = pass_ok (nat_le 1 count && nat_le count 4) BadTag _ key e in
    let between = and_parts (nat_le 1 count) (nat_le count 4) a.0 in
    let b = bind_ok (values_at [] count bytes) _ key a.1 in
    let c = pass_ok (length b.0.1 == 0) Trailing (Ok b.0.0) key b.2 in
    let r = values_take count [] bytes b.0 (IsBytes-rest count bytes fits) b.1 in
    let same : b.0.0 ≡ key = ok_is _ _ c.1 in
    let key-is : r.new ≡ key = sym r.parts ∙ same in
    let none : b.0.1 ≡ [] = nil_from_length b.0.1 (eqb-true _ 0 c.0) in
    let low : 1 ≤ count = leb-true _ _ between.0 in
    let high : count ≤ 4 = leb-true _ _ between.1 in
    let n = r.count in
    let text : bytes ≡ flat_map value_spelling r.new = r.takes.parts ∙ ap (λ (t : List ℕ). flat_map value_spelling r.new
    ++ t) none ∙ append-nil (flat_map value_spelling r.new) in
    let K : List Value → Type 0 = λ k. IsSpelledKey k × (count ∷ bytes ≡ key_spelling k) in
    subst K key-is (
      record { count = record { some = omega arith; few = omega arith }; each = r.fit },
      ap (λ (t : List ℕ). count ∷ t) text ∙ ap (λ (k : ℕ). k ∷ flat_map value_spelling r.new) (sym n),
    )

pub key_again : (key : List Value) → IsSpelledKey key → key_at (key_spelling key) ≡ Ok key
unfolding key_at
key_again key h =
    let some = h.count.some in
    let few = h.count.few in
    rw (le-leb 1 (length key) (omega arith), le-leb (length key) 4 few)
    (ap (λ (bs : List ℕ). values_at [] (length key) bs >>= (λ vs. cond (length vs.1 == 0) (Ok vs.0) (Err Trailing)))
    (sym (append-nil (flat_map value_spelling key)))
    ∙ rw (values_again [] key [] h.each) refl)

pub is_found : (bytes : List ℕ) (r : Result (Vec Value) KeyFault) → IsBytes bytes
    → GivesKey (λ v. v.items) r (key_at bytes) → IfOk r (λ v. IsSpelledKey v.items × (bytes ≡ key_spelling v.items))
is_found bytes (Ok v) fits given = key_found bytes v.items fits given
is_found bytes (Err e) fits given = tt

-- ---- the value at the front

-- what a value and the bytes after it say of the whole
pub record Front (bytes : List ℕ) (v : Value) (rest : List ℕ) : Type 0 where
  pub within : length rest ≤ length bytes
  pub taken : length bytes - length rest ≡ length (value_spelling v)
  pub after : drop (length bytes - length rest) bytes ≡ rest

pub front : (bytes : List ℕ) (v : Value) (rest : List ℕ) → IsBytes bytes → value_at bytes ≡ Ok (v, rest)
    → Front bytes v rest
front bytes v rest fits e =
    let parts : bytes ≡ value_spelling v ++ rest = (value_takes bytes v rest fits e).0.parts in
    let len : length bytes ≡ length (value_spelling v) + length rest = ap length parts ∙ length-append
    (value_spelling v) rest in
    let taken : length bytes - length rest ≡ length (value_spelling v) = omega arith in
    record {
      within = omega arith;
      taken = taken;
      after = ap (λ (n : ℕ). drop n bytes) taken ∙ ap (λ (bs : List ℕ). drop (length (value_spelling v)) bs) parts
          ∙ drop_at (value_spelling v) rest (length (value_spelling v)) refl;
    }

pub is_value_found : (bytes : List ℕ) (r : Result (Value × ℕ) KeyFault) → IsBytes bytes
    → GivesKey (λ x. (x.0, drop x.1 bytes)) r (value_at bytes)
    → IfOk r (λ x. HasSpelling x.0 × (bytes ≡ value_spelling x.0 ++ drop x.1 bytes))
is_value_found bytes (Ok x) fits given = let t = value_takes bytes x.0 (drop x.1 bytes) fits given in (t.1, t.0.parts)
is_value_found bytes (Err e) fits given = tt

pub is_value_only : (bytes : List ℕ) (r : Result (Value × ℕ) KeyFault) → GivesKey (λ x. (x.0, drop x.1 bytes)) r
    (value_at bytes) → IfOk r (λ x. x.1 ≡ length (value_spelling x.0)) → (v : Value) (rest : List ℕ) → HasSpelling v
    → bytes ≡ value_spelling v ++ rest → GivesKey (λ x. x) r (Ok (v, length (value_spelling v)))
is_value_only bytes (Ok x) given taken v rest h e =
    let same : v ≡ x.0 = ap (λ (p : Value × List ℕ). p.0) (ok_is (v, rest) (x.0, drop x.1 bytes)
    (sym (ap value_at e ∙ value_again v rest h) ∙ given)) in
    ap Ok (λ i. (same i, (ap (λ (w : Value). length (value_spelling w)) same ∙ sym taken) i))
is_value_only bytes (Err d) given taken v rest h e = λ other. absurd (let f : Ok (v, rest) ≡ Err d =
    sym (ap value_at e ∙ value_again v rest h) ∙ given other in cc)

-- ---- one spelling

same_parts : {A B : Type 0} (x y : A × B) → x ≡ y → (x.0 ≡ y.0) × (x.1 ≡ y.1)
same_parts x y e = (ap (λ p. p.0) e, ap (λ p. p.1) e)

pub unambiguous : AreUnambiguous
unambiguous = record {
  keys = λ k l a b e. ok_is k l (sym (key_again k a) ∙ ap key_at e ∙ key_again l b);
  values = λ v w r s a b e. same_parts (v, r) (w, s) (ok_is (v, r) (w, s) (sym (value_again v r a) ∙ ap value_at e
      ∙ value_again w s b));
}
