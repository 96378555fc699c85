-- What is read is what stands there: the commands of a batch.
use Rattle.std.proofs.Common.{◌≡◌, ℕ, zero, suc, ◌<◌, ◌≤◌, Bool, true, false, cond, List, [], ◌∷◌, ◌++◌, length, Option, Some, None, Ok, Err, inl, inr, refl, sym, ap, ◌∙◌, subst, codes, bytes_eq, append_assoc, append-nil, arith}
use Rattle.std.specs.List.{AllByRecursion}
use Rattle.std.proofs.lemmas.Bool.{cases_Bool}
use Rattle.std.proofs.lemmas.Slice.Eq.{bytes_eq-Decides}
use Rattle.mls_lattice.specs.Policy.{Name, Policy}
use Rattle.mls_lattice.specs.Reading.{◌>>=◌}
use Rattle.mls_lattice.proofs.ReadingLemmas.{ok_is, bind_ok}
use Rattle.mls_scheme.specs.Scheme.{Schemes}
use Rattle.mls_tokens.specs.declared.token.Token.{Token}
use Rattle.mls_tokens.specs.declared.token.Token.TheVariants.{Word, Sign}
use Rattle.mls_tokens.specs.declared.sign.Sign.TheVariants.{LeftBrace, RightBrace, Semicolon}
use Rattle.mls_parser.specs.declared.fault.PlacedFault.{PlacedFault}
use Rattle.mls_parser.specs.declared.fault.TextCause.TheVariants.{TooLong}
use Rattle.mls_parser.specs.Fault.{fault}
use Rattle.mls_parser.specs.Noted.{State, Read, takes_sign, sign_at, word_at}
use Rattle.mls_parser.proofs.FoundSteps.{Found, found_none, found_next, found_made, found_after, sign_read, word_read, known_read}
use Rattle.mls_parser.proofs.PassedLemmas.{sign_taken}
use Rattle.mls_translang.specs.declared.event.One.{One}
use Rattle.mls_translang.specs.declared.event.One.TheVariants as ones
use Rattle.mls_translang.specs.Event.{OneFits, most_ones, BatchFits}
use Rattle.mls_script.specs.declared.grammar.Verb.{Verb}
use Rattle.mls_script.specs.declared.grammar.Verb.TheVariants as verb
use Rattle.mls_script.specs.declared.grammar.OneVerb.{OneVerb}
use Rattle.mls_script.specs.declared.grammar.OneVerb.TheVariants as of_one
use Rattle.mls_script.specs.declared.parts.Look.{Look}
use Rattle.mls_script.specs.BatchTokens.{IsEnd, TellsOneTail, TellsOne, TellsMore, TellsBatch}
use Rattle.mls_script.specs.Grammar.{one_verbs, one_word, one_among, verb_of_one}
use Rattle.mls_script.specs.ReadBatch.{one_of_token, one_verb_at, behind_semicolon, ends_behind, ends_at, excess_at, expect_at, behind_verb, one_at, ones_from, batch_at}
use Rattle.mls_script.specs.ReadParts.{Written, look_at, insert_at, update_at, delete_at}
use Rattle.mls_script.specs.ReadQuery.{rows_at}
use Rattle.mls_script.specs.Tokens.{one_tokens}
use Rattle.mls_script.proofs.PartsFound.{IsLooked, look_read, IsWritten, insert_read, update_read, delete_read}
use Rattle.mls_script.proofs.QueryFound.{rows_read}

-- ---- verbs

among_is : (vs : List OneVerb) (word : Name) (v : OneVerb) → one_among vs word ≡ Some v → word ≡ one_word v
among_is [] word v e = absurd cc
among_is (x ∷ xs) word v e =
    elim (cases_Bool (bytes_eq word (one_word x))) [
      | inl on ↦
          let same : x ≡ v = let h : Some x ≡ Some v = rw on at e in cc in
          (bytes_eq-Decides word (one_word x)).0 on ∙ ap one_word same
      | inr off ↦ among_is xs word v (rw off at e)
    ]

one_is : (t : Token) (v : OneVerb) → one_of_token t ≡ Some v → t ≡ Word (one_word v)
one_is (Word s) v e = ap (λ (x : Name). Word x) (among_is one_verbs s v e)
one_is _ v e = absurd cc

-- ---- behind a command

-- the end of the batch, or a semicolon
abbrev pub AreBehind : List Token → Bool → Type 0
AreBehind ts true = IsEnd ts
AreBehind ts false = ts ≡ Sign Semicolon ∷ []

abbrev AreBehindSemicolon : List Token → Bool → Type 0
AreBehindSemicolon us b = AreBehind (Sign Semicolon ∷ us) b

brace_found : (s : State) (o : Option (ℕ × State)) (x : Bool × State) → takes_sign RightBrace s ≡ o
    → Path (Read Bool) (Ok (behind_semicolon s o)) (Ok x) → Found AreBehindSemicolon s x
brace_found s None x is e = subst (Found AreBehindSemicolon s) (ok_is {E = PlacedFault} (false, s) x e)
    (found_none AreBehindSemicolon false s refl)
brace_found s (Some end) x is e =
    let q = sign_taken RightBrace s end is in
    subst (Found AreBehindSemicolon s) (ok_is {E = PlacedFault} (true, end.1) x e)
    (record { tokens = Sign RightBrace ∷ []; passed = q.passed; right = λ none a. (sym q.faults ∙ none, inr refl) })

ends_found : (s : State) (o : Option (ℕ × State)) (x : Bool × State) → takes_sign Semicolon s ≡ o → ends_behind s o
    ≡ Ok x → Found AreBehind s x
ends_found s None x is e = found_made AreBehind s (sign_at RightBrace s) (λ end. true) (sign_read RightBrace s)
    (λ end ts h. inl h) x e
ends_found s (Some c) x is e = found_after AreBehind (Sign Semicolon ∷ []) s c.1 x (sign_taken Semicolon s c is)
    (brace_found c.1 (takes_sign RightBrace c.1) x refl e)

ends_read : (s : State) (x : Bool × State) → ends_at s ≡ Ok x → Found AreBehind s x
unfolding ends_at
ends_read s x e = ends_found s (takes_sign Semicolon s) x refl e

-- a command more than there may be is none
no_excess : {X : Type 0} (s : State) (x : X × State) → excess_at s ≡ Ok x → ⊥
unfolding excess_at
no_excess s x e = let v = bind_ok (one_verb_at s) (λ v. Err (fault v.0.1 TooLong)) x e in let h = v.2 in absurd cc

module _ (policy : Policy) (schemes : Schemes) where
  -- ---- a command

  -- behind its verb
  record IsBehindVerb (v : OneVerb) (ts : List Token) (one : One) : Type 0 where
    tail : List Token
    verb : verb_of_one one ≡ v
    tokens : ts ≡ one_tokens policy schemes one ++ tail
    query : TellsOneTail policy schemes one tail
    fits : OneFits policy schemes one

  look_made : (v : OneVerb) (counts : Bool) (s : State)
      → ((l : Look) → verb_of_one (ones.View l.relation l.label l.query counts) ≡ v) → (x : One × State)
      → (look_at policy schemes counts s >>= λ l. Ok (ones.View l.0.relation l.0.label l.0.query counts, l.1)) ≡ Ok x
      → Found (IsBehindVerb v) s x
  look_made v counts s is =
      found_made (IsBehindVerb v) s (look_at policy schemes counts s) (λ l. ones.View l.relation l.label l.query counts)
      (look_read policy schemes counts s)
      (λ l ts h. record { tail = h.tail; verb = is l; tokens = h.tokens; query = h.tells; fits = h.fits })

  write_made : (v : Verb) (o : OneVerb) (s : State) (r : Read Written) → ((y : Written × State) → r ≡ Ok y
      → Found (IsWritten policy schemes v o) s y) → (x : One × State) → (r >>= λ w. Ok (ones.Write w.0.0 w.0.1, w.1))
      ≡ Ok x → Found (IsBehindVerb o) s x
  write_made v o s r one =
      found_made (IsBehindVerb o) s r (λ w. ones.Write w.0 w.1) one
      (λ w ts h. record {
        tail = [];
        verb = h.one;
        tokens = h.tokens
            ∙ sym (append-nil (one_tokens policy schemes (ones.Write w.0 w.1)));
        query = refl;
        fits = h.fits;
      })

  -- behind the number, and behind the word
  abbrev IsCounted : ℕ → List Token → One → Type 0
  IsCounted n ts one = (l : Look) × (one ≡ ones.Expect n l.relation l.label l.query) × IsLooked policy schemes true ts l

  abbrev IsExpected : ℕ → List Token → One → Type 0
  IsExpected n ts one = (us : List Token) × (ts ≡ Word (codes "count") ∷ us) × IsCounted n us one

  expect_read : (s : State) (x : One × State) → expect_at policy schemes s ≡ Ok x
      → Found (IsBehindVerb of_one.Expect) s x
  unfolding expect_at
  expect_read s =
      found_next (IsBehindVerb of_one.Expect) IsExpected s (rows_at s) (λ n. word_at (codes "count") n.1 >>=
      λ word. look_at policy schemes true word.1 >>= λ l. Ok (
        ones.Expect n.0 l.0.relation l.0.label l.0.query,
        l.1,
      )) (rows_read policy schemes s)
      (λ n. found_next (IsExpected n.0) (λ at. IsCounted n.0) n.1 (word_at (codes "count") n.1)
      (λ word. look_at policy schemes true word.1 >>= λ l. Ok (
        ones.Expect n.0 l.0.relation l.0.label l.0.query,
        l.1,
      )) (word_read (codes "count") n.1)
      (λ word. found_made (IsCounted n.0) word.1 (look_at policy schemes true word.1)
      (λ l. ones.Expect n.0 l.relation l.label l.query) (look_read policy schemes true word.1)
      (λ l ts h. (l, refl, h)))
      (λ at one ts us word h. (us, (λ i. word i ++ us), h)))
      (λ n one ts us rows (vs, is, (l, same, h)). subst (IsBehindVerb of_one.Expect (ts ++ us)) (sym same) (record {
        tail = h.tail;
        verb = refl;
        tokens = λ i. rows i ++ (is ∙ (λ j. Word (codes "count") ∷ h.tokens j)) i;
        query = h.tells;
        fits = h.fits;
      }))

  behind_read : (v : OneVerb) (s : State) (x : One × State) → behind_verb policy schemes v s ≡ Ok x
      → Found (IsBehindVerb v) s x
  behind_read of_one.View s x e = look_made of_one.View false s (λ l. refl) x e
  behind_read of_one.Count s x e = look_made of_one.Count true s (λ l. refl) x e
  behind_read of_one.Expect s x e = expect_read s x e
  behind_read of_one.Insert s x e = write_made verb.Insert of_one.Insert s (insert_at schemes s)
      (insert_read policy schemes s) x e
  behind_read of_one.Update s x e = write_made verb.Update of_one.Update s (update_at policy schemes s)
      (update_read policy schemes s) x e
  behind_read of_one.Delete s x e = write_made verb.Delete of_one.Delete s (delete_at policy schemes s)
      (delete_read policy schemes s) x e

  abbrev IsOne : List Token → One → Type 0
  IsOne ts one = TellsOne policy schemes one ts × OneFits policy schemes one

  one_read : (s : State) (x : One × State) → one_at policy schemes s ≡ Ok x → Found IsOne s x
  unfolding one_at
  one_read s =
      found_next IsOne (λ v. IsBehindVerb v.0) s (one_verb_at s) (λ v. behind_verb policy schemes v.0.0 v.1)
      (known_read one_of_token s) (λ v. behind_read v.0.0 v.1)
      (λ v one ts us known h. (
        record {
          tail = h.tail;
          tokens = ap (λ (zs : List Token). zs ++ us) (known.2 ∙ ap (λ t. t ∷ []) (one_is known.0 v.0 known.1))
              ∙ (λ i. Word (one_word (sym h.verb i)) ∷ h.tokens i);
          query = h.query;
        },
        h.fits,
      ))

  -- ---- all of them

  -- behind those before
  abbrev IsBatchBehind : ℕ → List One → List Token → List One → Type 0
  IsBatchBehind n front ts all =
      (batch : List One) × (all ≡ front ++ batch) × (0 < length batch) × (length batch ≤ n)
      × AllByRecursion (OneFits policy schemes) batch × TellsBatch policy schemes batch ts

  -- behind a command
  abbrev AreMore : ℕ → List One → List Token → List One → Type 0
  AreMore n front ts all =
      (batch : List One) × (all ≡ front ++ batch) × (length batch ≤ n) × AllByRecursion (OneFits policy schemes) batch
      × TellsMore policy schemes batch ts

  -- behind the end, or behind a semicolon
  abbrev IsRest : ℕ → List One → Bool → List Token → List One → Type 0
  IsRest n front true ts all = (ts ≡ []) × (all ≡ front)
  IsRest n front false ts all = IsBatchBehind n front ts all

  tells_more : (batch : List One) (ts us : List Token) → ts ≡ Sign Semicolon ∷ [] → TellsBatch policy schemes batch us
      → TellsMore policy schemes batch (ts ++ us)
  tells_more [] ts us is h = absurd h
  tells_more (one ∷ batch) ts us is (vs, rest, split, first, more) = (vs, rest, (λ i. is i ++ split i), first, more)

  more_of : (n : ℕ) (front : List One) (b : Bool) (all : List One) (ts us : List Token) → AreBehind ts b
      → IsRest n front b us all → AreMore n front (ts ++ us) all
  more_of n front true all ts us are (none, same) = (
    [],
    same ∙ sym (append-nil front),
    omega arith,
    tt,
    subst IsEnd (sym (ap (λ (x : List Token). ts ++ x) none ∙ append-nil ts)) are,
  )
  more_of n front false all ts us are (batch, same, some, most, fits, tells) = (
    batch,
    same,
    most,
    fits,
    tells_more batch ts us are tells,
  )

  -- behind the end, or behind a semicolon, whatever is behind that
  rest_read : (n : ℕ) (now : List One) → ((s : State) (x : List One × State) → ones_from policy schemes n now s ≡ Ok x
      → Found (IsBatchBehind n now) s x) → (b : Bool) (m : State) (y : List One × State)
      → Path (Read (List One)) (cond b (Ok (now, m)) (ones_from policy schemes n now m)) (Ok y)
      → Found (IsRest n now b) m y
  rest_read n now more true m y h = subst (Found (IsRest n now true) m) (ok_is {E = PlacedFault} (now, m) y h)
      (found_none (IsRest n now true) now m (refl, refl))
  rest_read n now more false m y h = more m y h

  ones_read : (n : ℕ) (front : List One) (s : State) (x : List One × State) → ones_from policy schemes n front s ≡ Ok x
      → Found (IsBatchBehind n front) s x
  unfolding ones_from
  ones_read zero front s x e = absurd (no_excess s x e)
  ones_read (suc n) front s x e =
      found_next (IsBatchBehind (suc n) front) (λ one. AreMore n (front ++ one ∷ [])) s (one_at policy schemes s)
      (λ one. ends_at one.1 >>= λ ends. cond ends.0 (Ok (front ++ one.0 ∷ [], ends.1)) (ones_from policy schemes n
      (front ++ one.0 ∷ []) ends.1)) (one_read s)
      (λ one. found_next (AreMore n (front ++ one.0 ∷ [])) (λ b. IsRest n (front ++ one.0 ∷ []) b) one.1 (ends_at one.1)
      (λ ends. cond ends.0 (Ok (front ++ one.0 ∷ [], ends.1)) (ones_from policy schemes n (front ++ one.0 ∷ []) ends.1))
      (ends_read one.1)
      (λ ends. rest_read n (front ++ one.0 ∷ []) (λ t y h. ones_read n (front ++ one.0 ∷ []) t y h) ends.0 ends.1)
      (λ b all ts us are h. more_of n (front ++ one.0 ∷ []) b all ts us are h))
      (λ one all ts us this (batch, same, most, fits, more). (
        one ∷ batch,
        same ∙ append_assoc front (one ∷ []) batch,
        omega arith,
        omega (arith, most),
        (this.1, fits),
        (ts, us, refl, this.0, more),
      )) x e

  -- with its braces
  abbrev pub IsBatch : List Token → List One → Type 0
  IsBatch ts batch = (tail : List Token) × (ts ≡ Sign LeftBrace ∷ tail) × BatchFits policy schemes batch
      × TellsBatch policy schemes batch tail

  pub batch_read : (s : State) (x : List One × State) → batch_at policy schemes s ≡ Ok x → Found IsBatch s x
  unfolding batch_at
  batch_read s =
      found_next IsBatch (λ at. IsBatchBehind most_ones []) s (sign_at LeftBrace s)
      (λ x. ones_from policy schemes most_ones [] x.1) (sign_read LeftBrace s) (λ x. ones_read most_ones [] x.1)
      (λ at all ts us brace (batch, same, some, most, fits, tells).
      subst (IsBatch (ts ++ us)) (sym same) (
        us,
        (λ i. brace i ++ us),
        record { some = some; most = most; each = fits },
        tells,
      ))
