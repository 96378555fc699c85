-- A script that is read tells its events.
use Rattle.std.proofs.Common.{◌≡◌, ◌≢◌, ℕ, ◌+◌, Bool, true, false, List, [], ◌∷◌, ◌++◌, length, Option, Some, None, Result, Ok, Err, inl, inr, refl, sym, ap, ◌∙◌, subst, append_assoc, cond, ◌==◌, IfOk, option_to_list, flat_map, filter_map, eqb-true, append-nil}
use Rattle.std.specs.List.{AllByRecursion}
use Rattle.std.proofs.lemmas.Bool.{cases_Bool}
use Rattle.std.proofs.lemmas.List.Elements.{filter_map-append}
use Rattle.mls_lattice.specs.Policy.{Policy}
use Rattle.mls_lattice.specs.Reading.{◌>>=◌}
use Rattle.mls_lattice.proofs.ReadingLemmas.{ok_is, bind_ok, same_ok}
use Rattle.mls_scheme.specs.Scheme.{Schemes}
use Rattle.mls_tokens.specs.declared.fault.TokenCause.TheVariants as causes
use Rattle.mls_tokens.specs.declared.fault.TokenFault.{TokenFault}
use Rattle.mls_tokens.specs.Scanning.{Left, tokens_at}
use Rattle.mls_tokens.specs.Text.{AreTokens}
use Rattle.mls_tokens.specs.Passing.{has_ended, pass_end}
use Rattle.mls_tokens.proofs.TokensLemmas.{tokens_exact}
use Rattle.mls_tokens.proofs.PassedLemmas.{over_is}
use Rattle.mls_parser.specs.declared.fault.PlacedFault.{PlacedFault}
use Rattle.mls_parser.specs.Fault.{least}
use Rattle.mls_parser.specs.Noted.{State}
use Rattle.mls_parser.specs.Parsing.{answer}
use Rattle.mls_parser.proofs.LeastLemmas.{answered_right, answered_least}
use Rattle.mls_parser.proofs.PassedLemmas.{token_ok, all_spelled}
use Rattle.mls_translang.specs.declared.event.Event.{Event}
use Rattle.mls_script.specs.declared.fault.ScriptCause.TheVariants.{Unterminated}
use Rattle.mls_script.specs.declared.fault.LineFault.{LineFault}
use Rattle.mls_script.specs.declared.fault.ScriptFault.{ScriptFault}
use Rattle.mls_translang.specs.Event.{EventFits}
use Rattle.mls_script.specs.Reading.{end_at, timed_at, told_at, placed_on, line_at, in_script, lines_at, split_lines, script_at, IsJudged, LinesAreJudged, GivesScript}
use Rattle.mls_script.specs.Script.{Line, Tells, IsLineOf, ReadsScript}
use Rattle.mls_script.proofs.CommandFound.{timed_read}

-- ---- a line

end_found : (l : Left) (u : Unit {0}) → pass_end l ≡ Ok u → has_ended l ≡ true
end_found l u e =
    elim (cases_Bool (has_ended l)) [
      | inl over ↦ over
      | inr more ↦ absurd (let h = rw more at e in cc)
    ]

-- nothing is passed and nothing is noted where a line has its end
record EndFound (s t : State) : Type 0 where
  over : has_ended s.1 ≡ true
  same : t ≡ s

at_end : (s : State) (x : Unit {0} × State) → end_at s ≡ Ok x → EndFound s x.1
at_end s x e =
    let h = token_ok (λ l. pass_end l >>= λ u. Ok (u, l)) s x e in
    let u = bind_ok (pass_end s.1) (λ u. Ok (u, s.1)) (x.0, x.1.1) h.0 in
    let rest : s.1 ≡ x.1.1 = ap (λ (y : Unit {0} × Left). y.1) (ok_is (u.0, s.1) (x.0, x.1.1) u.2) in
    record { over = end_found s.1 u.0 u.1; same = λ i. (h.1 i, sym rest i) }

module _ (policy : Policy) (schemes : Schemes) where
  -- a line that was read with no fault
  told_event : (line : List ℕ) (e : Event) (r : State) → timed_at policy schemes ([], tokens_at line) ≡ Ok (e, r)
      → has_ended r.1 ≡ true → r.0 ≡ [] → Tells policy schemes line (Some e)
  told_event line e r read over none =
      let found = timed_read policy schemes ([], tokens_at line) (e, r) read in
      let end = over_is r.1.placed r.1.stop over in
      let passed = found.passed.tokens ∙ ap (λ ts. found.tokens ++ ts) end.0 ∙ append-nil found.tokens in
      let tokens = (tokens_exact line found.tokens).0 (
        passed,
        ap (λ (s : TokenFault). s.cause) (sym found.passed.stop)
            ∙ end.1,
      ) in
      let is = (found.right none (all_spelled found.tokens line tokens)).1 in
      record {
        fits = is.fits;
        tail = is.tail;
        tokens = subst (λ ts. AreTokens ts line) is.tokens tokens;
        query =
            is.tells;
      }

  told_found : (line : List ℕ) (x : Option Event × State) → told_at policy schemes ([], tokens_at line) ≡ Ok x
      → x.1.0 ≡ [] → Tells policy schemes line x.0
  unfolding told_at
  told_found line x e none =
      elim (cases_Bool (has_ended (tokens_at line))) [
        | inl over ↦
            let same : (None, ([], tokens_at line)) ≡ x = ok_is {E = PlacedFault} (None, ([], tokens_at line)) x
            (rw over at e) in
            let end = over_is (tokens_at line).placed (tokens_at line).stop over in
            subst (λ (y : Option Event × State). Tells policy schemes line y.0) same ((tokens_exact line []).0 (
              end.0,
              end.1,
            ))
        | inr more ↦
            let event = bind_ok (timed_at policy schemes ([], tokens_at line)) (λ e. end_at e.1 >>= λ end. Ok (
              Some e.0,
              end.1,
            )) x (rw more at e) in
            let end = bind_ok (end_at event.0.1) (λ end. Ok (Some event.0.0, end.1)) x event.2 in
            let same : (Some event.0.0, end.0.1) ≡ x = ok_is {E = PlacedFault} (Some event.0.0, end.0.1) x end.2 in
            let h = at_end event.0.1 end.0 end.1 in
            let clean : event.0.1.0 ≡ [] = ap (λ (s : State). s.0) (sym h.same)
            ∙ ap (λ (y : Option Event × State). y.1.0) same ∙ none in
            subst (λ (y : Option Event × State). Tells policy schemes line y.0) same
            (told_event line event.0.0 event.0.1 event.1 h.over clean)
      ]

placed_ok : {X : Type 0} (r : Result X PlacedFault) (x : X) → placed_on r ≡ Ok x → r ≡ Ok x
placed_ok (Ok y) x e = ap (λ z. Ok z) (ok_is y x e)
placed_ok (Err f) x e = absurd cc

answer_is : {X : Type 0} (o : Option PlacedFault) (x y : X) → answer o x ≡ Ok y → x ≡ y
answer_is None x y e = ok_is {E = PlacedFault} x y e
answer_is (Some f) x y e = absurd cc

module _ (policy : Policy) (schemes : Schemes) where
  pub line_found : (line : List ℕ) (ended : Bool) (o : Option Event) → line_at policy schemes line ended ≡ Ok o
      → (ended ≡ true) × Tells policy schemes line o
  unfolding line_at
  line_found line true o e =
      let x = bind_ok (placed_on (told_at policy schemes ([], tokens_at line)))
      (λ x. placed_on (answer (least x.1.0) x.0)) o e in
      let answered = placed_ok (answer (least x.0.1.0) x.0.0) o x.2 in
      let told = told_found policy schemes line x.0 (placed_ok (told_at policy schemes ([], tokens_at line)) x.0 x.1)
      (answered_right x.0.1.0 x.0.0 o answered) in
      (refl, subst (Tells policy schemes line) (answer_is (least x.0.1.0) x.0.0 o answered) told)
  line_found line false o e =
      let x = bind_ok (placed_on (told_at policy schemes ([], tokens_at line)))
      (λ (x : Option Event × State). let r : Result (Option Event) LineFault =
      Err (record { at = length line + 1; cause = Unterminated }) in r) o e in
      absurd (let h = x.2 in cc)

-- what is answered of a line whose form is right
judged : (s : State) (o : Option Event) (r : Result (Option Event) PlacedFault) → answer (least s.0) o ≡ r
    → IsJudged s (placed_on r)
judged s o (Ok y) e = answered_right s.0 o y e
judged s o (Err f) e = (f, answered_least s.0 o f e, refl)

pub lines_judged : LinesAreJudged
unfolding line_at
lines_judged policy schemes line x told =
    subst (λ (r : Result (Option Event × State) LineFault). IsJudged x.1
    (r >>= λ y. placed_on (answer (least y.1.0) y.0))) (ap placed_on (sym told))
    (judged x.1 x.0 (answer (least x.1.0) x.0) refl)

-- ---- the lines of a text

-- a line, with its LF if it has one
abbrev joined : List ℕ × Bool → List ℕ
joined (line, true) = line ++ 10 ∷ []
joined (line, false) = line

split_step : (front : List ℕ) (b : ℕ) (bs : List ℕ) → split_lines front (b ∷ bs) ≡ cond (b == 10) ((front, true)
    ∷ split_lines [] bs) (split_lines (front ++ b ∷ []) bs)
split_step [] b bs = refl
split_step (f ∷ front) b bs = refl

abbrev NoFeed : List ℕ → Type 0
NoFeed = AllByRecursion (λ b. b ≢ 10)

no_feed : (b : ℕ) → (b == 10) ≡ false → b ≢ 10
no_feed b h e = absurd (let k : (10 == 10) ≡ false = subst (λ x. (x == 10) ≡ false) e h in cc)

feed_more : (front : List ℕ) (b : ℕ) → NoFeed front → b ≢ 10 → NoFeed (front ++ b ∷ [])
feed_more [] b h k = (k, tt)
feed_more (f ∷ front) b h k = (h.0, feed_more front b h.1 k)

record SplitFound (front bytes : List ℕ) (lines : List (List ℕ × Bool)) : Type 0 where
  whole : flat_map joined lines ≡ front ++ bytes
  one : AllByRecursion (λ line. NoFeed line.0) lines

split_found : (bytes front : List ℕ) → NoFeed front → SplitFound front bytes (split_lines front bytes)
split_found [] [] h = record { whole = refl; one = tt }
split_found [] (f ∷ front) h = record { whole = refl; one = (h, tt) }
split_found (b ∷ bs) front h =
    elim (cases_Bool (b == 10)) [
      | inl feed ↦
          let rest = split_found bs [] tt in
          let lines : split_lines front (b ∷ bs) ≡ (front, true) ∷ split_lines [] bs = split_step front b bs
          ∙ rw feed refl in
          subst (SplitFound front (b ∷ bs)) (sym lines) (record {
            whole = append_assoc front (10 ∷ []) (flat_map joined (split_lines [] bs))
                ∙ ap (λ x. front ++ 10 ∷ x) rest.whole ∙ ap (λ x. front ++ x ∷ bs) (sym (eqb-true b 10 feed));
            one = (h, rest.one);
          })
      | inr other ↦
          let rest = split_found bs (front ++ b ∷ []) (feed_more front b h (no_feed b other)) in
          let lines : split_lines front (b ∷ bs) ≡ split_lines (front ++ b ∷ []) bs = split_step front b bs
          ∙ rw other refl in
          subst (SplitFound front (b ∷ bs)) (sym lines) (record {
            whole = rest.whole ∙ append_assoc front (b ∷ []) bs;
            one = rest.one;
          })
    ]

-- ---- all lines

pub listed : (o : Option Event) (text : List ℕ) → option_to_list o ≡ filter_map (λ (x : Line). x.event)
    (record { text = text; event = o } ∷ [])
listed None text = refl
listed (Some e) text = refl

script_found_in : {X : Type 0} (number : ℕ) (r : Result X LineFault) (x : X) → in_script number r ≡ Ok x → r ≡ Ok x
script_found_in number (Ok y) x e = ap (λ z. Ok z) (same_ok (in_script number (Ok y)) y x refl e)
script_found_in number (Err f) x e = absurd cc

module _ (policy : Policy) (schemes : Schemes) where
  record LinesFound (lines : List (List ℕ × Bool)) (events es : List Event) : Type 0 where
    told : List Line
    text : flat_map joined lines ≡ flat_map (λ line. line.text ++ 10 ∷ []) told
    whole : es ≡ events ++ filter_map (λ line. line.event) told
    each : AllByRecursion (IsLineOf policy schemes) told

  one_line : (line : List ℕ) (lines : List (List ℕ × Bool)) (events es : List Event) (o : Option Event) → NoFeed line
      → Tells policy schemes line o → LinesFound lines (events ++ option_to_list o) es
      → LinesFound ((line, true) ∷ lines) events es
  one_line line lines events es o one tells more =
      let first : Line = record { text = line; event = o } in
      record {
        told = first ∷ more.told;
        text = ap (λ x. (line ++ 10 ∷ []) ++ x) more.text;
        whole = more.whole ∙ append_assoc events (option_to_list o) (filter_map (λ line. line.event) more.told)
            ∙ ap (λ x. events ++ x) (ap (λ x. x ++ filter_map (λ (y : Line). y.event) more.told) (listed o line)
            ∙ sym (filter_map-append (λ (y : Line). y.event) (first ∷ []) more.told));
        each = (record { one = one; tells = tells }, more.each);
      }

  lines_found : (number : ℕ) (events : List Event) (lines : List (List ℕ × Bool)) (es : List Event)
      → AllByRecursion (λ line. NoFeed line.0) lines → lines_at policy schemes number events lines ≡ Ok es
      → LinesFound lines events es
  lines_found number events [] es one e = record {
    told = [];
    text = refl;
    whole =
        sym (same_ok (lines_at policy schemes number events []) events es refl e) ∙ sym (append-nil events);
    each = tt;
  }
  lines_found number events ((line, true) ∷ lines) es one e =
      let o = bind_ok (in_script number (line_at policy schemes line true)) (λ e. lines_at policy schemes (number + 1)
      (events ++ option_to_list e) lines) es e in
      let found = line_found policy schemes line true o.0
      (script_found_in number (line_at policy schemes line true) o.0 o.1) in
      one_line line lines events es o.0 one.0 found.1 (lines_found (number + 1)
      (events ++ option_to_list o.0) lines es one.1 o.2)
  lines_found number events ((line, false) ∷ lines) es one e =
      let o = bind_ok (in_script number (line_at policy schemes line false)) (λ e. lines_at policy schemes (number + 1)
      (events ++ option_to_list e) lines) es e in
      let found = line_found policy schemes line false o.0
      (script_found_in number (line_at policy schemes line false) o.0 o.1) in
      absurd (let h = found.0 in cc)

  pub script_found : (bytes : List ℕ) (es : List Event) → script_at policy schemes bytes ≡ Ok es
      → ReadsScript policy schemes bytes es
  unfolding script_at
  script_found bytes es e =
      let split = split_found bytes [] tt in
      let found = lines_found 1 [] (split_lines [] bytes) es split.one e in
      record { lines = found.told; text = sym split.whole ∙ found.text; told = found.whole; each = found.each }

  pub read_found : {X : Type 0} (view : X → List Event) (bytes : List ℕ) (r : Result X ScriptFault)
      → GivesScript view r (script_at policy schemes bytes) → IfOk r (λ v. ReadsScript policy schemes bytes (view v))
  read_found view bytes (Ok v) h = script_found bytes (view v) h
  read_found view bytes (Err e) h = tt

  all_fit : (told : List Line) → AllByRecursion (IsLineOf policy schemes) told
      → AllByRecursion (EventFits policy schemes) (filter_map (λ line. line.event) told)
  all_fit [] h = tt
  all_fit (line ∷ told) h = one line.text line.event h.0.tells (all_fit told h.1)
    where
      one : (text : List ℕ) (o : Option Event) → Tells policy schemes text o → AllByRecursion (EventFits policy schemes)
          (filter_map (λ (x : Line). x.event) told)
          → AllByRecursion (EventFits policy schemes) (filter_map (λ (x : Line). x.event)
          (record { text = text; event = o } ∷ told))
      one text None tells more = more
      one text (Some e) tells more = (tells.fits, more)

  pub fits_found : {X : Type 0} (view : X → List Event) (bytes : List ℕ) (r : Result X ScriptFault)
      → GivesScript view r (script_at policy schemes bytes) → IfOk r (λ v. AllByRecursion (EventFits policy schemes)
      (view v))
  fits_found view bytes (Ok v) h = let reads = script_found bytes (view v) h
      in subst (AllByRecursion (EventFits policy schemes)) (sym reads.told) (all_fit reads.lines reads.each)
  fits_found view bytes (Err e) h = tt
