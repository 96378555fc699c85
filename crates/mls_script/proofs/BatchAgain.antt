-- What stands there is read: the commands of a batch.
use Rattle.std.proofs.Common.{◌≡◌, ℕ, zero, suc, pos, ◌≤◌, Bool, true, false, cond, List, [], ◌∷◌, ◌++◌, length, Option, Some, None, Ok, inl, inr, refl, sym, ap, ◌∙◌, subst, codes, append_assoc, append-nil, arith}
use Rattle.std.specs.List.{AllByRecursion}
use Rattle.mls_lattice.specs.Policy.{Policy, IsPolicy}
use Rattle.mls_lattice.specs.Reading.{◌>>=◌}
use Rattle.mls_scheme.specs.declared.value.Value.{Value}
use Rattle.mls_scheme.specs.declared.write.Write.{Write as WriteOf}
use Rattle.mls_scheme.specs.declared.write.Write.TheVariants as writes
use Rattle.mls_scheme.specs.Scheme.{Schemes, AreSchemes}
use Rattle.mls_tokens.specs.declared.token.Token.{Token}
use Rattle.mls_tokens.specs.declared.token.Token.TheVariants.{Word, Int, Sign}
use Rattle.mls_tokens.specs.declared.sign.Sign.TheVariants.{LeftBrace, RightBrace, Semicolon, Comma}
use Rattle.mls_tokens.specs.Scanning.{without_places}
use Rattle.mls_tokens.specs.Passing.{is_sign}
use Rattle.mls_tokens.proofs.NextLemmas.{NotNext}
use Rattle.mls_translang.specs.declared.event.One.{One}
use Rattle.mls_translang.specs.declared.event.One.TheVariants as ones
use Rattle.mls_translang.specs.declared.query.Query.{Query}
use Rattle.mls_translang.specs.Event.{LookFits, OneFits, most_ones, BatchFits}
use Rattle.mls_parser.specs.Noted.{State, Read, takes_sign, word_at}
use Rattle.mls_parser.proofs.NextLemmas.{Gets, Same, gets_more, gets_then, placed_then, gets_done, gets_is, gets_same, sign_gets, word_gets, known_gets, took_sign, after_took, no_sign}
use Rattle.mls_script.specs.declared.grammar.OneVerb.{OneVerb}
use Rattle.mls_script.specs.declared.grammar.OneVerb.TheVariants as of_one
use Rattle.mls_script.specs.BatchTokens.{TellsOneTail, TellsOne, TellsMore, TellsBatch}
use Rattle.mls_script.specs.Grammar.{one_word, verb_of_one}
use Rattle.mls_script.specs.QueryTokens.{TellsQuery}
use Rattle.mls_script.specs.ReadBatch.{one_of_token, behind_semicolon, ends_behind, ends_at, looked_at, expect_at, behind_verb, one_at, ones_from, batch_at}
use Rattle.mls_script.specs.ReadParts.{Written, look_at, insert_at, update_at, delete_at}
use Rattle.mls_script.specs.Tokens.{look_tokens, one_tokens}
use Rattle.mls_script.proofs.PartsAgain.{look_gets, insert_gets, update_gets, delete_gets}
use Rattle.mls_script.proofs.QueryAgain.{EndsQuery, rows_gets}

-- ---- verbs

known_one : (v : OneVerb) → one_of_token (Word (one_word v)) ≡ Some v
known_one of_one.View = refl
known_one _ = refl

-- ---- behind a command

-- no command goes on with these
record EndsOne (us : List Token) : Type 0 where
  query : EndsQuery us
  comma : NotNext (is_sign Comma) us

ends_brace : (us : List Token) → EndsOne (Sign RightBrace ∷ us)
ends_brace us = record { query = record { condition = refl; word = λ w. refl }; comma = refl }

ends_semicolon : (us : List Token) → EndsOne (Sign Semicolon ∷ us)
ends_semicolon us = record { query = record { condition = refl; word = λ w. refl }; comma = refl }

-- the end, where the brace is the next
brace_gets : (us : List Token) (s : State) → without_places s.1.placed ≡ Sign RightBrace ∷ us
    → Gets (ends_at s) s (Same true) us
unfolding ends_at
brace_gets us s k =
    gets_is (ends_behind s (takes_sign Semicolon s)) (ends_behind s None) s (Same true) us
    (ap (ends_behind s) (no_sign Semicolon (Sign RightBrace ∷ us) s refl k))
    (gets_more (λ end. Ok (true, end.1)) (sign_gets RightBrace us s k) (λ at m is t. gets_done true s.0 m
    (Same true) us refl t))

-- the same behind a semicolon
last_gets : (us : List Token) (s : State) → without_places s.1.placed ≡ Sign Semicolon ∷ Sign RightBrace ∷ us
    → Gets (ends_at s) s (Same true) us
unfolding ends_at
last_gets us s k =
    let semicolon = took_sign Semicolon (Sign RightBrace ∷ us) s k in
    let m : State = (s.0, semicolon.rest) in
    let brace = took_sign RightBrace us m semicolon.tokens in
    gets_is (ends_behind s (takes_sign Semicolon s)) (Ok (behind_semicolon m (takes_sign RightBrace m))) s
    (Same true) us (ap (ends_behind s) semicolon.is)
    (after_took semicolon (gets_is (Ok (behind_semicolon m (takes_sign RightBrace m))) (Ok (true, (s.0, brace.rest))) m
    (Same true) us (ap (λ o. Ok (behind_semicolon m o)) brace.is)
    (after_took brace (gets_done true s.0 brace.rest (Same true) us refl brace.tokens))))

-- a semicolon before another command
more_gets : (us : List Token) (s : State) → NotNext (is_sign RightBrace) us → without_places s.1.placed ≡ Sign Semicolon
    ∷ us → Gets (ends_at s) s (Same false) us
unfolding ends_at
more_gets us s off k =
    let semicolon = took_sign Semicolon us s k in
    let m : State = (s.0, semicolon.rest) in
    gets_is (ends_behind s (takes_sign Semicolon s)) (Ok (behind_semicolon m (takes_sign RightBrace m))) s
    (Same false) us (ap (ends_behind s) semicolon.is)
    (after_took semicolon (gets_is (Ok (behind_semicolon m (takes_sign RightBrace m))) (Ok (false, m)) m (Same false) us
    (ap (λ o. Ok (behind_semicolon m o)) (no_sign RightBrace us m off semicolon.tokens))
    (gets_done false s.0 semicolon.rest (Same false) us refl semicolon.tokens)))

module _ (policy : Policy) (schemes : Schemes) (is_policy : IsPolicy policy) (are_schemes : AreSchemes schemes) where
  -- ---- a command

  looked_gets : (relation label : ℕ) (query : Query) (counts : Bool) (ts us : List Token) (s : State)
      → LookFits policy schemes relation label query counts → TellsQuery policy schemes relation query ts → EndsOne us
      → without_places s.1.placed ≡ look_tokens policy schemes relation label ++ (ts ++ us)
      → Gets (looked_at policy schemes counts s) s (Same (ones.View relation label query counts)) us
  looked_gets relation label query counts ts us s fits tells ends k =
      let whole : One = ones.View relation label query counts in
      gets_then (λ l. Ok (ones.View l.0.relation l.0.label l.0.query counts, l.1))
      (look_gets policy schemes is_policy are_schemes relation label query counts ts us s fits tells ends.query k)
      (λ m t. gets_done whole s.0 m (Same whole) us refl t)

  expect_gets : (rows relation label : ℕ) (query : Query) (ts us : List Token) (s : State)
      → LookFits policy schemes relation label query true → TellsQuery policy schemes relation query ts → EndsOne us
      → without_places s.1.placed ≡ Int (pos rows) ∷ Word (codes "count") ∷ (look_tokens policy schemes relation label
      ++ (ts ++ us)) → Gets (expect_at policy schemes s) s (Same (ones.Expect rows relation label query)) us
  unfolding expect_at
  expect_gets rows relation label query ts us s fits tells ends k =
      let whole : One = ones.Expect rows relation label query in
      let behind : List Token = look_tokens policy schemes relation label ++ (ts ++ us) in
      gets_then (λ n. word_at (codes "count") n.1 >>= λ word. look_at policy schemes true word.1 >>=
      λ l. Ok (ones.Expect n.0 l.0.relation l.0.label l.0.query, l.1))
      (rows_gets rows (Word (codes "count") ∷ behind) s k)
      (λ m t. gets_more (λ word. look_at policy schemes true word.1 >>=
      λ l. Ok (ones.Expect rows l.0.relation l.0.label l.0.query, l.1)) (word_gets (codes "count") behind (
        s.0,
        m,
      ) t)
      (λ at m2 is t2. gets_then (λ l. Ok (ones.Expect rows l.0.relation l.0.label l.0.query, l.1))
      (look_gets policy schemes is_policy are_schemes relation label query true ts us (
        s.0,
        m2,
      ) fits tells ends.query t2)
      (λ m3 t3. gets_done whole s.0 m3 (Same whole) us refl t3)))

  written_gets : (relation : ℕ) (wr : WriteOf (Option Value)) (us : List Token) (s : State) (r : Read Written)
      → Gets r s (Same (relation, wr)) us → Gets (r >>= λ w. Ok (ones.Write w.0.0 w.0.1, w.1)) s
      (Same (ones.Write relation wr)) us
  written_gets relation wr us s r h = gets_then (λ w. Ok (ones.Write w.0.0 w.0.1, w.1)) h
      (λ m t. gets_done (ones.Write relation wr) s.0 m (Same (ones.Write relation wr)) us refl t)

  -- with nothing between a write and what follows it
  bare : (one : One) (ts us : List Token) (s : State) → ts ≡ [] → without_places s.1.placed
      ≡ one_tokens policy schemes one ++ (ts ++ us) → without_places s.1.placed ≡ one_tokens policy schemes one ++ us
  bare one ts us s none k = k ∙ ap (λ (x : List Token). one_tokens policy schemes one ++ (x ++ us)) none

  behind_gets : (one : One) (ts us : List Token) (s : State) → OneFits policy schemes one
      → TellsOneTail policy schemes one ts → EndsOne us → without_places s.1.placed ≡ one_tokens policy schemes one
      ++ (ts ++ us)
      → Gets (behind_verb policy schemes (verb_of_one one) s) s (Same one) us
  behind_gets (ones.View relation label query false) ts us s fits tells ends k =
      looked_gets relation label query false ts us s fits tells ends k
  behind_gets (ones.View relation label query true) ts us s fits tells ends k =
      looked_gets relation label query true ts us s fits tells ends k
  behind_gets (ones.Expect rows relation label query) ts us s fits tells ends k =
      expect_gets rows relation label query ts us s fits tells ends k
  behind_gets (ones.Write relation (writes.Insert key values)) ts us s fits tells ends k =
      written_gets relation (writes.Insert key values) us s (insert_at schemes s)
      (insert_gets policy schemes is_policy are_schemes relation key values us s fits
      (bare (ones.Write relation (writes.Insert key values)) ts us s tells k))
  behind_gets (ones.Write relation (writes.Update key class from sets)) ts us s fits tells ends k =
      written_gets relation (writes.Update key class from sets) us s (update_at policy schemes s)
      (update_gets policy schemes is_policy are_schemes relation key class from sets us s fits ends.comma
      (bare (ones.Write relation (writes.Update key class from sets)) ts us s tells k))
  behind_gets (ones.Write relation (writes.Delete key class)) ts us s fits tells ends k =
      written_gets relation (writes.Delete key class) us s (delete_at policy schemes s)
      (delete_gets policy schemes is_policy are_schemes relation key class us s fits
      (bare (ones.Write relation (writes.Delete key class)) ts us s tells k))

  one_gets : (one : One) (ts us : List Token) (s : State) → OneFits policy schemes one → TellsOne policy schemes one ts
      → EndsOne us → without_places s.1.placed ≡ ts ++ us → Gets (one_at policy schemes s) s (Same one) us
  unfolding one_at
  one_gets one ts us s fits tells ends k =
      let v = verb_of_one one in
      let behind : List Token = one_tokens policy schemes one ++ (tells.tail ++ us) in
      placed_then (λ v. behind_verb policy schemes v.0.0 v.1)
      (known_gets one_of_token v (Word (one_word v)) behind (known_one v) s
      (k ∙ ap (λ (x : List Token). x ++ us) tells.tokens ∙ ap (λ (x : List Token). Word (one_word v) ∷ x)
      (append_assoc (one_tokens policy schemes one) tells.tail us)))
      (λ at m t. behind_gets one tells.tail us (s.0, m) fits tells.query ends t)

  -- ---- all of them

  abbrev AllFit : List One → Type 0
  AllFit = AllByRecursion (OneFits policy schemes)

  -- behind the next command
  abbrev behind : ℕ → List One → State → Read (List One)
  behind n front s = ends_at s >>= λ ends. cond ends.0 (Ok (front, ends.1)) (ones_from policy schemes n front ends.1)

  tells_begins : (one : One) (ts rest : List Token) → TellsOne policy schemes one ts → NotNext (is_sign RightBrace)
      (ts ++ rest)
  tells_begins one ts rest tells = subst (λ (x : List Token). NotNext (is_sign RightBrace) (x ++ rest))
      (sym tells.tokens) refl

  more_end : (batch : List One) (ts : List Token) → TellsMore policy schemes batch ts → EndsOne ts
  more_end [] ts (inl is) = subst EndsOne (sym is) (ends_brace [])
  more_end [] ts (inr is) = subst EndsOne (sym is) (ends_semicolon (Sign RightBrace ∷ []))
  more_end (one ∷ batch) ts (us, rest, is, first, more) = subst EndsOne (sym is) (ends_semicolon (us ++ rest))

  rest_gets : (n : ℕ) (front batch : List One) (ts : List Token) (s : State) → AllFit batch → length batch ≤ n
      → TellsMore policy schemes batch ts → without_places s.1.placed ≡ ts
      → Gets (behind n front s) s (Same (front ++ batch)) []
  unfolding ones_from
  rest_gets n front [] ts s fits most (inl is) k =
      gets_then (λ ends. cond ends.0 (Ok (front, ends.1)) (ones_from policy schemes n front ends.1))
      (brace_gets [] s (k ∙ is)) (λ m t. gets_done front s.0 m (Same (front ++ [])) [] (sym (append-nil front)) t)
  rest_gets n front [] ts s fits most (inr is) k =
      gets_then (λ ends. cond ends.0 (Ok (front, ends.1)) (ones_from policy schemes n front ends.1))
      (last_gets [] s (k ∙ is)) (λ m t. gets_done front s.0 m (Same (front ++ [])) [] (sym (append-nil front)) t)
  rest_gets zero front (one ∷ batch) ts s fits most tells k = absurd (omega (arith, most))
  rest_gets (suc n) front (one ∷ batch) ts s fits most (us, rest, is, first, more) k =
      gets_then (λ ends. cond ends.0 (Ok (front, ends.1)) (ones_from policy schemes (suc n) front ends.1))
      (more_gets (us ++ rest) s (tells_begins one us rest first) (k ∙ is))
      (λ m t. gets_then (λ o. behind n (front ++ o.0 ∷ []) o.1) (one_gets one us rest (s.0, m) fits.0 first
      (more_end batch rest more) t)
      (λ m2 t2. gets_same (append_assoc front (one ∷ []) batch) (rest_gets n (front ++ one ∷ []) batch rest (
        s.0,
        m2,
      ) fits.1 (omega (arith, most)) more t2)))

  pub batch_gets : (batch : List One) (ts : List Token) (s : State) → BatchFits policy schemes batch
      → TellsBatch policy schemes batch ts → without_places s.1.placed ≡ Sign LeftBrace ∷ ts
      → Gets (batch_at policy schemes s) s (Same batch) []
  unfolding batch_at ones_from
  batch_gets [] ts s fits tells k = absurd tells
  batch_gets (one ∷ batch) ts s fits (us, rest, is, first, more) k =
      gets_more (λ x. ones_from policy schemes most_ones [] x.1) (sign_gets LeftBrace ts s k)
      (λ at m any t. gets_then (λ o. behind 999 (o.0 ∷ []) o.1) (one_gets one us rest (s.0, m) fits.each.0 first
      (more_end batch rest more) (t ∙ is))
      (λ m2 t2. rest_gets 999 (one ∷ []) batch rest (s.0, m2) fits.each.1 (omega (arith, fits.most)) more t2))
