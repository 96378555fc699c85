-- Lines of events are read back.
use Rattle.std.proofs.Common.{◌≡◌, ◌≢◌, ℕ, ◌+◌, ◌<◌, ◌/◌, ◌%◌, Bool, true, false, cond, nat_lt, List, [], ◌∷◌, ◌++◌, length, map, codes, slice_index, Option, Some, None, ℤ, refl, sym, ap, ◌∙◌, subst, append_assoc, append-nil, inl, inr, arith, FitsSigned, not, w64, flat_map, filter_map, leb-true, is_none}
use Rattle.std.specs.List.{list_all, AllByRecursion}
use Rattle.std.specs.Char.{is_ascii_digit}
use Rattle.std.specs.Fmt.{signed_decimal}
use Rattle.std.specs.Str.{all_ascii_digits}
use Rattle.std.proofs.lemmas.Bool.{and_parts, cases_Bool}
use Rattle.mls_lattice.specs.Name.{is_name, is_name_byte}
use Rattle.mls_lattice.specs.Policy.{Name, Policy, IsPolicy}
use Rattle.mls_lattice.specs.Canon.{label_name}
use Rattle.mls_lattice.proofs.NamedLemmas.{label_is_name}
use Rattle.mls_scheme.specs.declared.value.Value.{Value}
use Rattle.mls_scheme.specs.declared.value.Value.TheVariants as values
use Rattle.mls_scheme.specs.Value.{fits_kind}
use Rattle.mls_scheme.specs.declared.write.Write.TheVariants.{Insert, Update}
use Rattle.mls_scheme.specs.Scheme.{Attribute, Scheme, Schemes, IsScheme, AreSchemes, scheme_of, other_of}
use Rattle.mls_scheme.specs.Fits.{HaveKinds}
use Rattle.mls_scheme.proofs.KindLemmas.{kind-spelled}
use Rattle.mls_scheme.proofs.SchemeNameLemmas.{scheme_is, other_is_name}
use Rattle.mls_tokens.specs.declared.token.Token.{Token}
use Rattle.mls_tokens.specs.declared.token.Token.TheVariants.{Word, Int, Text, Sign as Sign_token}
use Rattle.mls_tokens.specs.declared.sign.Sign.{Sign}
use Rattle.mls_tokens.specs.declared.sign.Sign.TheVariants as sign
use Rattle.mls_tokens.specs.Sign.{sign_text, sign_goes_on}
use Rattle.mls_tokens.specs.Writing.{is_control, is_escaped, hex_digit, quoted_byte, quoted, IsText}
use Rattle.mls_tokens.specs.Text.{Spells, goes_on, IsGap, AreTokens, comma_tokens, separated}
use Rattle.mls_translang.specs.ReadsBack.{IsSpelled}
use Rattle.mls_translang.proofs.NumberLemmas.{int_spelled}
use Rattle.mls_translang.proofs.SpelledLemmas.{named, word_spelled}
use Rattle.mls_translang.specs.declared.event.Event.{Event}
use Rattle.mls_translang.specs.declared.event.Command.{Command}
use Rattle.mls_translang.specs.declared.event.Command.TheVariants.{View, Write, All}
use Rattle.mls_translang.specs.Event.{Sets, SetsFit, HasSomeKind, CommandFits, EventFits}
use Rattle.mls_script.specs.Tokens.{value_token, list_tokens, set_tokens, time_tokens, event_tokens}
use Rattle.mls_translang.specs.Writing.{relation_name}
use Rattle.mls_script.specs.BatchTokens.{TellsTail}
use Rattle.mls_script.specs.Script.{Line, IsLineOf, ReadsScript}
use Rattle.mls_translang.specs.Writing.{cell_text, behind_comma, listed, list_text, set_text, keyed, command_text, line_text, lines_text, is_writable_value, are_writable, is_writable_command, is_writable}

-- ---- texts in one line

abbrev NoFeed : List ℕ → Type 0
NoFeed = AllByRecursion (λ b. b ≢ 10)

feeds_none : (a b : List ℕ) → NoFeed a → NoFeed b → NoFeed (a ++ b)
feeds_none [] b h k = k
feeds_none (x ∷ xs) b h k = (h.0, feeds_none xs b h.1 k)

-- bytes that pass a test that a line feed does not pass
module _ (p : ℕ → Bool) (none : p 10 ≡ false) where
  passes : (b : ℕ) → p b ≡ true → b ≢ 10
  passes b h e = absurd (let k : p 10 ≡ true = subst (λ x. p x ≡ true) e h in cc)

  all_pass : (bs : List ℕ) → AllByRecursion (λ b. p b ≡ true) bs → NoFeed bs
  all_pass [] h = tt
  all_pass (b ∷ bs) h = (passes b h.0, all_pass bs h.1)

-- ---- texts of tokens

-- a byte that goes on with no word and no number
abbrev Quiet : ℕ → Type 0
Quiet b = (is_name_byte b ≡ false) × (is_ascii_digit b ≡ false)

-- a text in one line that is tokens, where no byte behind it goes on with them
record IsWritten (ts : List Token) (text : List ℕ) : Type 0 where
  one : NoFeed text
  told : (us : List Token) (rest : List ℕ) → Quiet (slice_index rest 0) → AreTokens us rest
      → AreTokens (ts ++ us) (text ++ rest)

none_written : IsWritten [] []
none_written = record { one = tt; told = λ us rest q h. h }

no_gap : IsGap []
no_gap = record { pieces = []; whole = refl; each = tt }

first_told : (t : Token) (text : List ℕ) (us : List Token) (rest : List ℕ) → Spells t text
    → goes_on t (slice_index rest 0) ≡ false → AreTokens us rest → AreTokens (t ∷ us) (text ++ rest)
first_told t text us rest spells ends h = (
  rest,
  record {
    gap = [];
    text = text;
    parts = refl;
    is_gap = no_gap;
    spells =
        spells;
    ends = ends;
  },
  h,
)

-- whether nothing goes on with what stands before a text and its rest
abbrev Starts : List ℕ → Type 0
Starts text = (rest : List ℕ) → Quiet (slice_index rest 0) → Quiet (slice_index (text ++ rest) 0)

both : (ts us : List Token) (a b : List ℕ) → IsWritten ts a → IsWritten us b → Starts b → IsWritten (ts ++ us) (a ++ b)
both ts us a b f g starts = record {
  one = feeds_none a b f.one g.one;
  told = λ vs rest q h.
      subst (λ x. AreTokens x ((a ++ b) ++ rest)) (sym (append_assoc ts us vs))
      (subst (AreTokens (ts ++ (us ++ vs))) (sym (append_assoc a b rest)) (f.told (us ++ vs) (b ++ rest) (starts rest q)
      (g.told vs rest q h)));
}

-- ---- blanks

gap_more : (gap : List ℕ) → IsGap gap → IsGap (32 ∷ gap)
gap_more gap h = record {
  pieces = (32 ∷ []) ∷ h.pieces;
  whole = ap (λ g. 32 ∷ g) h.whole;
  each = (
    inl (32, refl, refl),
    h.each,
  );
}

blank_told : (ts : List Token) (bytes : List ℕ) → AreTokens ts bytes → AreTokens ts (32 ∷ bytes)
blank_told [] bytes h = record {
  gap = 32 ∷ h.gap;
  last = h.last;
  parts = ap (λ b. 32 ∷ b) h.parts;
  is_gap =
      gap_more h.gap h.is_gap;
  is_last = h.is_last;
}
blank_told (t ∷ ts) bytes h = (
  h.0,
  record {
    gap = 32 ∷ h.1.gap;
    text = h.1.text;
    parts = ap (λ b. 32 ∷ b) h.1.parts;
    is_gap =
        gap_more h.1.gap h.1.is_gap;
    spells = h.1.spells;
    ends = h.1.ends;
  },
  h.2,
)

spaced : (ts : List Token) (a : List ℕ) → IsWritten ts a → IsWritten ts (32 ∷ a)
spaced ts a h = record {
  one = (λ e. absurd (omega (arith, e)), h.one);
  told = λ us rest q k. blank_told (ts ++ us)
      (a ++ rest) (h.told us rest q k);
}

-- tokens, a blank and tokens
next : (ts us : List Token) (a b : List ℕ) → IsWritten ts a → IsWritten us b → IsWritten (ts ++ us) (a ++ 32 ∷ b)
next ts us a b f g = both ts us a (32 ∷ b) f (spaced us b g) (λ rest q. (refl, refl))

-- ---- one token

word_written : (s : Name) → IsSpelled (Word s) → IsWritten (Word s ∷ []) s
word_written s h = record {
  one = all_pass is_name_byte refl s h.1.bytes;
  told = λ us rest q k. first_told
      (Word s) s us rest h q.0 k;
}

name_written : (s : Name) → is_name s ≡ true → IsWritten (Word s ∷ []) s
name_written s h = word_written s (named s h)

digits_pass : (ds : List ℕ) → all_ascii_digits ds ≡ true → NoFeed ds
digits_pass [] h = tt
digits_pass (d ∷ ds) h = let p = and_parts (is_ascii_digit d) (all_ascii_digits ds) h
    in (passes is_ascii_digit refl d p.0, digits_pass ds p.1)

int_one : (text : List ℕ) (n : ℤ) → Spells (Int n) text → NoFeed text
int_one text n (fits, inl h) = digits_pass text h.0.digits
int_one text n (fits, inr h) = subst NoFeed (sym h.1) (λ e. absurd (omega (arith, e)), digits_pass h.0 h.2.digits)

int_written : (n : ℤ) → FitsSigned w64 n → IsWritten (Int n ∷ []) (signed_decimal n)
int_written n fits =
    let h = int_spelled n fits in
    record {
      one = int_one (signed_decimal n) n h;
      told = λ us rest q k. first_told (Int n)
          (signed_decimal n) us rest h q.1 k;
    }

hex_no_feed : (n : ℕ) → hex_digit n ≢ 10
hex_no_feed n e =
    elim (cases_Bool (nat_lt n 10)) [
      | inl low ↦ omega (arith, sym (ap (λ c. cond c (48 + n) (87 + n)) low) ∙ e)
      | inr high ↦ omega (arith, sym (ap (λ c. cond c (48 + n) (87 + n)) high) ∙ e)
    ]

byte_one : (b : ℕ) → NoFeed (quoted_byte b)
byte_one b = go (is_escaped b) (is_control b) refl refl
  where
    go : (p q : Bool) → is_escaped b ≡ p → is_control b ≡ q → NoFeed (quoted_byte b)
    go true q on control = rw on (
      λ e. absurd (omega (arith, e)),
      (
        λ e. absurd (let k : is_escaped 10 ≡ true =
            subst (λ x. is_escaped x ≡ true) e on in cc),
        tt,
      ),
    )
    go false true off control = rw (off, control) (
      λ e. absurd (omega (arith, e)),
      (λ e. absurd (omega (arith, e)), (hex_no_feed (b / 16), (hex_no_feed (b % 16), tt))),
    )
    go false false off control = rw (off, control) (
      λ e. absurd (let k : is_control 10 ≡ false =
          subst (λ x. is_control x ≡ false) e control in cc),
      tt,
    )

bytes_one : (s : List ℕ) → NoFeed (flat_map quoted_byte s)
bytes_one [] = tt
bytes_one (b ∷ bs) = feeds_none (quoted_byte b) (flat_map quoted_byte bs) (byte_one b) (bytes_one bs)

text_written : (s : List ℕ) → IsText s → IsWritten (Text s ∷ []) (quoted s)
text_written s h = record {
  one = (
    λ e. absurd (omega (arith, e)),
    feeds_none (flat_map quoted_byte s) (34 ∷ []) (bytes_one s)
        (λ e. absurd (omega (arith, e)), tt),
  );
  told = λ us rest q k. first_told (Text s) (quoted s) us rest (refl, h) refl k;
}

-- a sign, and what stands right behind it
sign_written : (s : Sign) (ts : List Token) (a : List ℕ) → NoFeed (sign_text s) → ((b : ℕ) → sign_goes_on s b ≡ false)
    → IsWritten ts a → IsWritten (Sign_token s ∷ ts) (sign_text s ++ a)
sign_written s ts a one ends h = record {
  one = feeds_none (sign_text s) a one h.one;
  told = λ us rest q k.
      subst (AreTokens (Sign_token s ∷ (ts ++ us))) (sym (append_assoc (sign_text s) a rest))
      (first_told (Sign_token s) (sign_text s) (ts ++ us) (a ++ rest) refl (ends (slice_index (a ++ rest) 0))
      (h.told us rest q k));
}

-- ---- values

value_written : (v : Option Value) → HasSomeKind v → is_writable_value v ≡ true → IsWritten (value_token v ∷ [])
    (cell_text v)
value_written None kind h = word_written (codes "null") (word_spelled (codes "null") refl refl refl)
value_written (Some (values.Int n)) kind h = int_written n (kind-spelled (values.Int n) kind.0 kind.1).0
value_written (Some (values.Text s)) kind h =
    text_written s (record {
      utf8 = (kind-spelled (values.Text s) kind.0 kind.1).0;
      short =
          leb-true (length s) 8192 h;
    })

-- ---- lists

module _ {X : Type 0} (tokens : X → List Token) (text : X → List ℕ) (P : X → Type 0) (one : (x : X) → P x
    → IsWritten (tokens x) (text x)) where
  more_starts : (xs : List X) → Starts (flat_map (behind_comma text) xs)
  more_starts [] rest q = q
  more_starts (x ∷ xs) rest q = (refl, refl)

  more_written : (xs : List X) → AllByRecursion P xs → IsWritten (flat_map (comma_tokens tokens) xs)
      (flat_map (behind_comma text) xs)
  more_written [] h = none_written
  more_written (x ∷ xs) h =
      both (comma_tokens tokens x) (flat_map (comma_tokens tokens) xs) (behind_comma text x)
      (flat_map (behind_comma text) xs)
      (sign_written sign.Comma (tokens x) (32 ∷ text x) (λ e. absurd (omega (arith, e)), tt) (λ b. refl)
      (spaced (tokens x) (text x) (one x h.0)))
      (more_written xs h.1) (more_starts xs)

  listed_written : (xs : List X) → AllByRecursion P xs → IsWritten (separated tokens xs) (listed text xs)
  listed_written [] h = none_written
  listed_written (x ∷ xs) h = both (tokens x) (flat_map (comma_tokens tokens) xs) (text x)
      (flat_map (behind_comma text) xs) (one x h.0) (more_written xs h.1) (more_starts xs)

abbrev Holds : Option Value → Type 0
Holds v = HasSomeKind v × (is_writable_value v ≡ true)

list_written : (vs : List (Option Value)) → AllByRecursion Holds vs → IsWritten (list_tokens vs) (list_text vs)
list_written vs h =
    let end = sign_written sign.RightParen [] [] (λ e. absurd (omega (arith, e)), tt) (λ b. refl) none_written in
    let inside = listed_written (λ v. value_token v ∷ []) cell_text Holds (λ v h. value_written v h.0 h.1) vs h in
    sign_written sign.LeftParen (separated (λ v. value_token v ∷ []) vs ++ Sign_token sign.RightParen ∷ [])
    (listed cell_text vs ++ codes ")") (λ e. absurd (omega (arith, e)), tt) (λ b. refl)
    (both (separated (λ v. value_token v ∷ []) vs) (Sign_token sign.RightParen ∷ []) (listed cell_text vs)
    (codes ")") inside end (λ rest q. (refl, refl)))

arguments_hold : (vs : List (Option Value)) → AllByRecursion HasSomeKind vs → are_writable vs ≡ true
    → AllByRecursion Holds vs
arguments_hold [] kinds h = tt
arguments_hold (v ∷ vs) kinds h = let p = and_parts (is_writable_value v) (are_writable vs) h
    in ((kinds.0, p.0), arguments_hold vs kinds.1 p.1)

some_kinds : (ats : List Attribute) (vs : List (Option Value)) → HaveKinds ats vs → AllByRecursion HasSomeKind vs
some_kinds [] [] h = tt
some_kinds [] (v ∷ vs) h = absurd h
some_kinds (a ∷ ats) [] h = absurd h
some_kinds (a ∷ ats) (v ∷ vs) h = ((a.1.kind, h.0), some_kinds ats vs h.1)

values_written : (ats : List Attribute) (vs : List (Option Value)) → HaveKinds ats vs → are_writable vs ≡ true
    → IsWritten (list_tokens vs) (list_text vs)
values_written ats vs kinds h = list_written vs (arguments_hold vs (some_kinds ats vs kinds) h)

-- ---- new values

module _ (scheme : Scheme) (valid : IsScheme scheme) where
  abbrev SetHolds : ℕ × Option Value → Type 0
  SetHolds s = (s.0 < length scheme.others) × Holds s.1

  set_written : (s : ℕ × Option Value) → SetHolds s → IsWritten (set_tokens scheme s) (set_text scheme s)
  set_written s h =
      let value = spaced (value_token s.1 ∷ []) (cell_text s.1) (value_written s.1 h.1.0 h.1.1) in
      subst (IsWritten (set_tokens scheme s)) (sym (append_assoc (other_of scheme s.0).0 (codes " = ") (cell_text s.1)))
      (next (Word (other_of scheme s.0).0 ∷ []) (Sign_token sign.Equals ∷ value_token s.1 ∷ []) (other_of scheme s.0).0
      (61 ∷ 32 ∷ cell_text s.1)
      (name_written (other_of scheme s.0).0 (other_is_name scheme valid s.0 h.0))
      (sign_written sign.Equals (value_token s.1 ∷ []) (32 ∷ cell_text s.1) (λ e. absurd (omega (arith, e)), tt)
      (λ b. refl) value))

  sets_hold : (sets : Sets) → AllByRecursion (λ s. s.0 < length scheme.others) sets
      → AllByRecursion (λ s. fits_kind s.1 (other_of scheme s.0).1.kind ≡ true) sets
      → list_all (λ s. is_writable_value s.1) sets ≡ true → AllByRecursion SetHolds sets
  sets_hold [] known kinds h = tt
  sets_hold (s ∷ sets) known kinds h =
      let p = and_parts (is_writable_value s.1) (list_all (λ s. is_writable_value s.1) sets) h in
      ((known.0, (((other_of scheme s.0).1.kind, kinds.0), p.0)), sets_hold sets known.1 kinds.1 p.1)

  sets_written : (sets : Sets) → SetsFit scheme sets → list_all (λ s. is_writable_value s.1) sets ≡ true
      → IsWritten (separated (set_tokens scheme) sets) (listed (set_text scheme) sets)
  sets_written sets fits h = listed_written (set_tokens scheme) (set_text scheme) SetHolds set_written sets
      (sets_hold sets fits.known fits.kinds h)

-- ---- lines

update_text : (k c f s : List ℕ) → k ++ 32
    ∷ (codes "class " ++ (c ++ 32 ∷ (codes "from " ++ (f ++ 32 ∷ (codes "set " ++ s))))) ≡ k ++ codes " class " ++ c
    ++ codes " from " ++ f ++ codes " set " ++ s
update_text k c f s =
    sym (append_assoc k (codes " class ") (c ++ 32 ∷ (codes "from " ++ (f ++ 32 ∷ (codes "set " ++ s)))))
    ∙ sym (append_assoc (k ++ codes " class ") c (codes " from " ++ (f ++ 32 ∷ (codes "set " ++ s))))
    ∙ sym (append_assoc (k ++ codes " class " ++ c) (codes " from ") (f ++ 32 ∷ (codes "set " ++ s)))
    ∙ sym (append_assoc (k ++ codes " class " ++ c ++ codes " from ") f (codes " set " ++ s))
    ∙ sym (append_assoc (k ++ codes " class " ++ c ++ codes " from " ++ f) (codes " set ") s)

module _ (policy : Policy) (schemes : Schemes) (is_policy : IsPolicy policy) (are_schemes : AreSchemes schemes) where
  label_written : (n : ℕ) → n < length policy.labels → IsWritten (Word (label_name policy.labels n) ∷ [])
      (label_name policy.labels n)
  label_written n within = name_written (label_name policy.labels n) (label_is_name policy is_policy n within)

  relation_written : (relation : ℕ) → relation < length schemes → IsWritten (Word (relation_name schemes relation) ∷ [])
      (relation_name schemes relation)
  relation_written relation within = name_written (relation_name schemes relation)
      ((scheme_is schemes are_schemes relation within).named)

  -- a word of commands, a blank and what follows
  behind_word : (w : Name) (us : List Token) (b : List ℕ) → IsSpelled (Word w) → IsWritten us b
      → IsWritten (Word w ∷ us) (w ++ 32 ∷ b)
  behind_word w us b h g = next (Word w ∷ []) us w b (word_written w h) g

  keyed_written : (verb : Name) (relation : ℕ) (key : List (Option Value)) → IsSpelled (Word verb)
      → relation < length schemes → HaveKinds (scheme_of schemes relation).keys key → are_writable key ≡ true
      → IsWritten (Word verb ∷ Word (relation_name schemes relation) ∷ Word (codes "key") ∷ list_tokens key)
      (keyed schemes (verb ++ codes " ") relation key)
  keyed_written verb relation key word within kinds h =
      let name = relation_name schemes relation in
      let is : verb ++ 32 ∷ (name ++ 32 ∷ (codes "key " ++ list_text key))
      ≡ keyed schemes (verb ++ codes " ") relation key = simp append_assoc in
      subst (IsWritten (Word verb ∷ Word name ∷ Word (codes "key") ∷ list_tokens key)) is
      (behind_word verb (Word name ∷ Word (codes "key") ∷ list_tokens key)
      (name ++ 32 ∷ (codes "key " ++ list_text key)) word
      (next (Word name ∷ []) (Word (codes "key") ∷ list_tokens key) name (codes "key " ++ list_text key)
      (relation_written relation within)
      (behind_word (codes "key") (list_tokens key) (list_text key) (word_spelled (codes "key") refl refl refl)
      (values_written (scheme_of schemes relation).keys key kinds h))))

  -- a word and a label
  labelled : (w : Name) (n : ℕ) (us : List Token) (b : List ℕ) → IsSpelled (Word w) → n < length policy.labels
      → IsWritten us b
      → IsWritten (Word w ∷ Word (label_name policy.labels n) ∷ us) (w ++ 32 ∷ (label_name policy.labels n ++ 32 ∷ b))
  labelled w n us b word within h =
      behind_word w (Word (label_name policy.labels n) ∷ us) (label_name policy.labels n ++ 32 ∷ b) word
      (next (Word (label_name policy.labels n) ∷ []) us (label_name policy.labels n) b (label_written n within) h)

  sets_behind : (relation : ℕ) (sets : Sets) → relation < length schemes → SetsFit (scheme_of schemes relation) sets
      → list_all (λ s. is_writable_value s.1) sets ≡ true
      → IsWritten (Word (codes "set") ∷ separated (set_tokens (scheme_of schemes relation)) sets) (codes "set "
      ++ listed (set_text (scheme_of schemes relation)) sets)
  sets_behind relation sets within fits h =
      let scheme = scheme_of schemes relation in
      behind_word (codes "set") (separated (set_tokens scheme) sets) (listed (set_text scheme) sets)
      (word_spelled (codes "set") refl refl refl)
      (sets_written scheme (scheme_is schemes are_schemes relation within) sets fits h)

  -- a level, a session and what follows
  begun : (level : ℕ) (session : Name) (us : List Token) (b : List ℕ) → level < length policy.labels → is_name session
      ≡ true → IsWritten us b
      → IsWritten (Word (label_name policy.labels level) ∷ Word session ∷ us) (label_name policy.labels level
      ++ codes " " ++ session ++ codes " " ++ b)
  begun level session us b within is h =
      let name = label_name policy.labels level in
      let text : name ++ 32 ∷ (session ++ 32 ∷ b) ≡ name ++ codes " " ++ session ++ codes " " ++ b = simp append_assoc
      in
      subst (IsWritten (Word name ∷ Word session ∷ us)) text
      (next (Word name ∷ []) (Word session ∷ us) name (session ++ 32 ∷ b) (label_written level within)
      (next (Word session ∷ []) us session b (name_written session is) h))

  abbrev event : ℕ → Name → Command → Event
  event level session c = record { level = level; session = session; time = None; command = c }

  module _ (level : ℕ) (session : Name) (within : level < length policy.labels) (is : is_name session ≡ true) where
    line_written : (c : Command) → CommandFits policy schemes c → is_writable_command c ≡ true
        → IsWritten (event_tokens policy schemes (event level session c)) (line_text policy schemes
        (event level session c))
    line_written (Write relation (Insert key values)) fits h =
        let p = and_parts (are_writable key) (are_writable values) h in
        let head = Word (codes "insert") ∷ Word (relation_name schemes relation) ∷ Word (codes "key") ∷ list_tokens key
        in
        begun level session (head ++ Word (codes "values") ∷ list_tokens values) (command_text policy schemes
        (Write relation (Insert key values))) within is
        (subst (IsWritten (head ++ Word (codes "values") ∷ list_tokens values))
        (sym (append_assoc (keyed schemes (codes "insert ") relation key) (codes " values ") (list_text values)))
        (next head (Word (codes "values") ∷ list_tokens values) (keyed schemes (codes "insert ") relation key)
        (codes "values " ++ list_text values)
        (keyed_written (codes "insert") relation key (word_spelled (codes "insert") refl refl refl) fits.0 fits.1.0 p.0)
        (behind_word (codes "values") (list_tokens values) (list_text values)
        (word_spelled (codes "values") refl refl refl)
        (values_written (scheme_of schemes relation).others values fits.1.1 p.1))))
    line_written (Write relation (Update key key_class from sets)) fits h =
        let p = and_parts (are_writable key) (list_all (λ s. is_writable_value s.1) sets) h in
        let head = Word (codes "update") ∷ Word (relation_name schemes relation) ∷ Word (codes "key") ∷ list_tokens key
        in
        let changes = Word (codes "set") ∷ separated (set_tokens (scheme_of schemes relation)) sets in
        let tail = Word (codes "class") ∷ Word (label_name policy.labels key_class) ∷ Word (codes "from")
        ∷ Word (label_name policy.labels from) ∷ changes in
        let set_end = codes "set " ++ listed (set_text (scheme_of schemes relation)) sets in
        let from_end = codes "from " ++ (label_name policy.labels from ++ 32 ∷ set_end) in
        let whole = codes "class " ++ (label_name policy.labels key_class ++ 32 ∷ from_end) in
        begun level session (head ++ tail) (command_text policy schemes
        (Write relation (Update key key_class from sets))) within is
        (subst (IsWritten (head ++ tail)) (update_text (keyed schemes (codes "update ") relation key)
        (label_name policy.labels key_class) (label_name policy.labels from)
        (listed (set_text (scheme_of schemes relation)) sets))
        (next head tail (keyed schemes (codes "update ") relation key) whole
        (keyed_written (codes "update") relation key (word_spelled (codes "update") refl refl refl) fits.0 fits.1.0 p.0)
        (labelled (codes "class") key_class (Word (codes "from") ∷ Word (label_name policy.labels from)
        ∷ changes) from_end (word_spelled (codes "class") refl refl refl) fits.1.1
        (labelled (codes "from") from changes set_end (word_spelled (codes "from") refl refl refl) fits.1.2
        (sets_behind relation sets fits.0 fits.1.3 p.1)))))
    line_written _ fits h = absurd cc

  none_behind : (c : Command) → is_writable_command c ≡ true → TellsTail policy schemes c []
  none_behind (View relation label query counts) h = absurd cc
  none_behind (All batch) h = absurd cc
  none_behind _ h = refl

  none_is : {X : Type 0} (o : Option X) → is_none o ≡ true → o ≡ None
  none_is None h = refl
  none_is (Some x) h = absurd cc

  -- ---- all lines

  abbrev line_of : Event → Line
  line_of e = record { text = line_text policy schemes e; event = Some e }

  over : AreTokens [] []
  over = record { gap = []; last = []; parts = refl; is_gap = no_gap; is_last = inl refl }

  line_told : (e : Event) → EventFits policy schemes e → is_writable e ≡ true → IsLineOf policy schemes (line_of e)
  line_told e fits h =
      let p = and_parts (is_none e.time) (is_writable_command e.command) h in
      let written = line_written e.level e.session fits.level fits.session e.command fits.command p.1 in
      let tokens = subst (AreTokens (event_tokens policy schemes e ++ [])) (append-nil (line_text policy schemes e))
      (written.told [] [] (refl, refl) over) in
      let timed = subst (λ t. AreTokens (time_tokens t ++ (event_tokens policy schemes e ++ []))
      (line_text policy schemes e)) (sym (none_is e.time p.0)) tokens in
      record {
        one = written.one;
        tells = record {
          fits = fits;
          tail = [];
          tokens = timed;
          query =
              none_behind e.command p.1;
        };
      }

  lines_told : (es : List Event) → AllByRecursion (EventFits policy schemes) es
      → AllByRecursion (λ e. is_writable e ≡ true) es → AllByRecursion (IsLineOf policy schemes) (map line_of es)
  lines_told [] fits h = tt
  lines_told (e ∷ es) fits h = (line_told e fits.0 h.0, lines_told es fits.1 h.1)

  lines_whole : (es : List Event) → lines_text policy schemes es ≡ flat_map (λ line. line.text ++ 10 ∷ [])
      (map line_of es)
  lines_whole [] = refl
  lines_whole (e ∷ es) = ap (λ x. (line_text policy schemes e ++ 10 ∷ []) ++ x) (lines_whole es)

  lines_events : (es : List Event) → es ≡ filter_map (λ line. line.event) (map line_of es)
  lines_events [] = refl
  lines_events (e ∷ es) = ap (λ x. e ∷ x) (lines_events es)

pub lines_read : (policy : Policy) (schemes : Schemes) → IsPolicy policy → AreSchemes schemes → (es : List Event)
    → AllByRecursion (EventFits policy schemes) es
    → AllByRecursion (λ e. is_writable e ≡ true) es → ReadsScript policy schemes (lines_text policy schemes es) es
lines_read policy schemes is_policy are_schemes es fits h = record {
  lines = map (line_of policy schemes is_policy are_schemes) es;
  text = lines_whole policy schemes is_policy are_schemes es;
  told = lines_events policy schemes is_policy are_schemes es;
  each = lines_told policy schemes is_policy are_schemes es fits h;
}
