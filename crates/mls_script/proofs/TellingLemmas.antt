-- Lines and scripts that tell events are read as these.
use Rattle.std.proofs.Common.{◌≡◌, ℕ, ◌+◌, Bool, true, false, List, [], ◌∷◌, ◌++◌, Option, Some, None, Result, Ok, Err, refl, sym, ap, ◌∙◌, subst, append_assoc, option_to_list, IfErr, flat_map, filter_map, append-nil, option_map, IfSome}
use Rattle.std.specs.List.{AllByRecursion}
use Rattle.std.proofs.lemmas.List.Elements.{filter_map-append}
use Rattle.mls_lattice.specs.Canon.{label_name}
use Rattle.mls_lattice.specs.Time.{is_time}
use Rattle.mls_lattice.specs.Policy.{Policy, IsPolicy}
use Rattle.mls_lattice.specs.Reading.{◌>>=◌}
use Rattle.mls_scheme.specs.declared.value.Value.{Value}
use Rattle.mls_scheme.specs.declared.write.Write.{Write as WriteOf}
use Rattle.mls_scheme.specs.declared.write.Write.TheVariants as writes
use Rattle.mls_scheme.specs.Scheme.{Schemes, AreSchemes}
use Rattle.mls_tokens.specs.declared.fault.TokenCause.TheVariants as causes
use Rattle.mls_tokens.specs.declared.fault.TokenFault.{TokenFault}
use Rattle.mls_tokens.specs.declared.token.Token.{Token}
use Rattle.mls_tokens.specs.declared.token.Token.TheVariants.{Word, Text}
use Rattle.mls_tokens.specs.declared.token.Placed.{Placed}
use Rattle.mls_tokens.specs.declared.sign.Sign.TheVariants.{Comma}
use Rattle.mls_tokens.specs.Scanning.{without_places, tokens_at}
use Rattle.mls_tokens.specs.Passing.{left, is_sign, text_first, pass_text_of, has_ended}
use Rattle.mls_tokens.proofs.TokensLemmas.{tokens_exact}
use Rattle.mls_tokens.proofs.NextLemmas.{next_is, NotNext, over_again, not_over}
use Rattle.mls_translang.specs.declared.query.Query.{Query}
use Rattle.mls_parser.specs.declared.fault.PlacedFault.{PlacedFault}
use Rattle.mls_parser.specs.declared.fault.TextCause.TheVariants.{Kind}
use Rattle.mls_parser.specs.Fault.{unless, least, least_from}
use Rattle.mls_parser.specs.Noted.{State, Read, note, in_state, token, name_at}
use Rattle.mls_parser.specs.Parsing.{answer}
use Rattle.mls_parser.specs.Words.{pass_known}
use Rattle.mls_parser.proofs.NextLemmas.{Gets, Same, gets_more, gets_then, placed_then, gets_noted, gets_done, name_gets, known_gets}
use Rattle.mls_parser.proofs.StmtAgain.{relation_gets}
use Rattle.mls_translang.specs.declared.event.Event.{Event}
use Rattle.mls_translang.specs.declared.event.Command.{Command}
use Rattle.mls_translang.specs.declared.event.Command.TheVariants as commands
use Rattle.mls_script.specs.declared.fault.ScriptCause.TheVariants.{Memory}
use Rattle.mls_script.specs.declared.fault.LineFault.{LineFault}
use Rattle.mls_script.specs.declared.fault.ScriptFault.{ScriptFault}
use Rattle.mls_script.specs.declared.grammar.Verb.{Verb}
use Rattle.mls_script.specs.declared.grammar.Verb.TheVariants as verb
use Rattle.mls_translang.specs.Event.{LookFits, CommandFits, EventFits}
use Rattle.mls_script.specs.Grammar.{verbs, verb_word, verb_of}
use Rattle.mls_script.specs.BatchTokens.{TellsTail}
use Rattle.mls_script.specs.QueryTokens.{TellsQuery}
use Rattle.mls_script.specs.ReadList.{list_at}
use Rattle.mls_script.specs.ReadParts.{Written, insert_at, update_at, delete_at}
use Rattle.mls_script.specs.Reading.{verb_of_token, end_at, call_at, viewed_at, written, command_at, event_at, told_at, placed_on, line_at, in_script, lines_at, split_lines, script_at, GivesScript, untimed, time_at, timed_at}
use Rattle.mls_script.specs.Script.{Line, Tells, IsLineOf, ReadsScript, ScriptsAreOnce}
use Rattle.mls_script.specs.Tokens.{list_tokens, look_tokens, command_tokens, event_tokens, label_token, time_tokens}
use Rattle.mls_script.proofs.LawLemmas.{listed}
use Rattle.mls_script.proofs.BatchAgain.{batch_gets}
use Rattle.mls_script.proofs.ListAgain.{list_gets}
use Rattle.mls_script.proofs.PartsAgain.{place, names, look_gets, insert_gets, update_gets, delete_gets}
use Rattle.mls_script.proofs.QueryAgain.{label_gets, ends_nothing}
use Rattle.mls_script.proofs.ScriptSteps.{split_ended}

-- ---- verbs

known_verb : (v : Verb) → verb_of_token (Word (verb_word v)) ≡ Some v
known_verb verb.Open = refl
known_verb _ = refl

verb_gets : (v : Verb) (us : List Token) (s : State) → without_places s.1.placed ≡ Word (verb_word v) ∷ us
    → Gets (token (pass_known verb_of_token) s) s (λ x. x.0 ≡ v) us
verb_gets v us s k = known_gets verb_of_token v (Word (verb_word v)) us (known_verb v) s k

module _ (policy : Policy) (schemes : Schemes) (is_policy : IsPolicy policy) (are_schemes : AreSchemes schemes) where
  -- ---- commands

  call_gets : (tx : List ℕ) (args : List (Option Value)) (us : List Token) (s : State)
      → CommandFits policy schemes (commands.Call tx args)
      → without_places s.1.placed ≡ command_tokens policy schemes (commands.Call tx args) ++ us
      → Gets (call_at s) s (Same (commands.Call tx args)) us
  unfolding call_at
  call_gets tx args us s fits k =
      placed_then (λ n. list_at None n.1 >>= λ args. Ok (commands.Call n.0.0 args.0, args.1))
      (name_gets tx (list_tokens args ++ us) s fits.0 k)
      (λ at m t. gets_then (λ vs. Ok (commands.Call tx vs.0, vs.1)) (list_gets None args us (s.0, m) tt t)
      (λ m2 t2. gets_done (commands.Call tx args) s.0 m2 (Same (commands.Call tx args)) us refl t2))

  -- nothing stands behind the tokens of a command that is no view
  closed : {r : Read Command} {s : State} {c : Command} (us : List Token) → us ≡ [] → Gets r s (Same c) us
      → Gets r s (Same c) []
  closed us none h = record {
    value = h.value;
    rest = h.rest;
    is = h.is;
    holds = h.holds;
    tokens = h.tokens ∙ none;
    stop = h.stop;
  }

  view_gets : (relation label : ℕ) (query : Query) (counts : Bool) (ts : List Token) (s : State)
      → LookFits policy schemes relation label query counts → TellsQuery policy schemes relation query ts
      → without_places s.1.placed ≡ look_tokens policy schemes relation label ++ ts
      → Gets (viewed_at policy schemes counts s) s (Same (commands.View relation label query counts)) []
  view_gets relation label query counts ts s fits tells k =
      let whole : Command = commands.View relation label query counts in
      gets_then (λ l. Ok (commands.View l.0.relation l.0.label l.0.query counts, l.1))
      (look_gets policy schemes is_policy are_schemes relation label query counts ts [] s fits tells ends_nothing
      (k ∙ ap (λ x. look_tokens policy schemes relation label ++ x) (sym (append-nil ts))))
      (λ m t. gets_done whole s.0 m (Same whole) [] refl t)

  written_gets : (relation : ℕ) (wr : WriteOf (Option Value)) (ts : List Token) (s : State) (r : Read Written) → ts ≡ []
      → Gets r s (Same (relation, wr)) ts → Gets (written r) s (Same (commands.Write relation wr)) []
  written_gets relation wr ts s r none h =
      closed ts none (gets_then (λ w. Ok (commands.Write w.0.0 w.0.1, w.1)) h
      (λ m t. gets_done (commands.Write relation wr) s.0 m (Same (commands.Write relation wr)) ts refl t))

  command_gets : (c : Command) (ts : List Token) (s : State) → CommandFits policy schemes c
      → TellsTail policy schemes c ts → without_places s.1.placed ≡ command_tokens policy schemes c ++ ts
      → Gets (command_at policy schemes (verb_of c) s) s (Same c) []
  command_gets (commands.Open user) ts s fits tells k =
      closed ts tells (placed_then (λ n. Ok (commands.Open n.0.0, n.1)) (name_gets user ts s fits k)
      (λ at m t. gets_done (commands.Open user) s.0 m (Same (commands.Open user)) ts refl t))
  command_gets commands.Close ts s fits tells k = closed ts tells (gets_done commands.Close s.0 s.1
      (Same commands.Close) ts refl k)
  command_gets commands.Audit ts s fits tells k = closed ts tells (gets_done commands.Audit s.0 s.1
      (Same commands.Audit) ts refl k)
  command_gets (commands.View relation label query false) ts s fits tells k =
      view_gets relation label query false ts s fits tells k
  command_gets (commands.View relation label query true) ts s fits tells k =
      view_gets relation label query true ts s fits tells k
  command_gets (commands.Dump relation) ts s fits tells k =
      closed ts tells (gets_then (λ r. Ok (commands.Dump r.0, r.1))
      (relation_gets (place policy schemes is_policy are_schemes relation)
      (names policy schemes is_policy are_schemes relation fits) relation ts s fits k)
      (λ m t. gets_done (commands.Dump relation) s.0 m (Same (commands.Dump relation)) ts refl t))
  command_gets (commands.Write relation (writes.Insert key values)) ts s fits tells k =
      written_gets relation (writes.Insert key values) ts s (insert_at schemes s) tells
      (insert_gets policy schemes is_policy are_schemes relation key values ts s fits k)
  command_gets (commands.Write relation (writes.Update key class from sets)) ts s fits tells k =
      written_gets relation (writes.Update key class from sets) ts s (update_at policy schemes s) tells
      (update_gets policy schemes is_policy are_schemes relation key class from sets ts s fits
      (subst (NotNext (is_sign Comma)) (sym tells) tt) k)
  command_gets (commands.Write relation (writes.Delete key class)) ts s fits tells k =
      written_gets relation (writes.Delete key class) ts s (delete_at policy schemes s) tells
      (delete_gets policy schemes is_policy are_schemes relation key class ts s fits k)
  command_gets (commands.Call tx args) ts s fits tells k = closed ts tells (call_gets tx args ts s fits k)
  command_gets (commands.All batch) ts s fits tells k =
      gets_then (λ b. Ok (commands.All b.0, b.1))
      (batch_gets policy schemes is_policy are_schemes batch ts s fits tells k)
      (λ m t. gets_done (commands.All batch) s.0 m (Same (commands.All batch)) [] refl t)

  -- ---- a line

  event_gets : (e : Event) (ts : List Token) (s : State) → EventFits policy schemes e
      → TellsTail policy schemes e.command ts → without_places s.1.placed ≡ event_tokens policy schemes e ++ ts
      → Gets (event_at policy schemes e.time s) s (Same e) []
  unfolding event_at
  event_gets e ts s fits tells k =
      let v = verb_of e.command in
      let behind : List Token = command_tokens policy schemes e.command ++ ts in
      let event : ℕ → List ℕ → Command → Event = λ level session c. record {
        level = level;
        session = session;
        time =
            e.time;
        command = c;
      } in
      gets_then (λ l. name_at l.1 >>= λ n. token (pass_known verb_of_token) n.1 >>=
      λ v. command_at policy schemes v.0.0 v.1 >>= λ c. Ok (event l.0 n.0.0 c.0, c.1))
      (label_gets policy is_policy e.level (Word e.session ∷ Word (verb_word v) ∷ behind) s fits.level k)
      (λ m t. placed_then (λ n. token (pass_known verb_of_token) n.1 >>= λ v. command_at policy schemes v.0.0 v.1 >>=
      λ c. Ok (event e.level n.0.0 c.0, c.1)) (name_gets e.session (Word (verb_word v) ∷ behind) (
        s.0,
        m,
      ) fits.session t)
      (λ at m2 t2. placed_then (λ v. command_at policy schemes v.0.0 v.1 >>= λ c. Ok (event e.level e.session c.0, c.1))
      (verb_gets v behind (s.0, m2) t2)
      (λ at m3 t3. gets_then (λ c. Ok (event e.level e.session c.0, c.1)) (command_gets e.command ts (
        s.0,
        m3,
      ) fits.command tells t3) (λ m4 t4. gets_done e s.0 m4 (Same e) [] refl t4))))

  -- ---- times

  none_first : (w : List ℕ) (us : List Token) (fs : List PlacedFault) (ps : List Placed) (stop : TokenFault)
      → without_places ps ≡ Word w ∷ us
      → Gets (in_state fs (pass_text_of ps stop)) (fs, left ps stop) (Same None) (Word w ∷ us)
  none_first w us fs [] stop e = absurd cc
  none_first w us fs (p ∷ ps) stop e =
      let h = next_is p ps (Word w) us e in
      record {
        value = None;
        rest = left (record { token = Word w; at = p.at } ∷ ps) stop;
        is = ap (λ t. in_state fs (Ok (text_first p.at t ps stop))) h.0;
        holds = refl;
        tokens =
            ap (λ ts. Word w ∷ ts) h.1;
        stop = refl;
      }

  some_first : (time : List ℕ) (us : List Token) (fs : List PlacedFault) (ps : List Placed) (stop : TokenFault)
      → without_places ps ≡ Text time ∷ us
      → Gets (in_state fs (pass_text_of ps stop)) (fs, left ps stop) (λ o. (at : ℕ) × (o ≡ Some (time, at))) us
  some_first time us fs [] stop e = absurd cc
  some_first time us fs (p ∷ ps) stop e =
      let h = next_is p ps (Text time) us e in
      record {
        value = Some (time, p.at);
        rest = left ps stop;
        is = ap (λ t. in_state fs (Ok (text_first p.at t ps stop))) h.0;
        holds = (p.at, refl);
        tokens = h.1;
        stop =
            refl;
      }

  time_gets : (time : Option (List ℕ)) (w : List ℕ) (us : List Token) (s : State) → IfSome time (λ t. is_time t ≡ true)
      → without_places s.1.placed ≡ time_tokens time ++ Word w ∷ us
      → Gets (time_at s) s (Same time) (Word w ∷ us)
  unfolding time_at
  time_gets None w us s form k =
      gets_more (λ t. Ok (option_map (λ x. x.0) t.0, note (untimed t.0) t.1))
      (none_first w us s.0 s.1.placed s.1.stop k)
      (λ o m is t. gets_noted (option_map (λ x. x.0) o) (untimed o) s.0 m (Same None) (Word w ∷ us) (ap untimed is)
      (ap (option_map (λ x. x.0)) is) t)
  time_gets (Some time) w us s form k =
      gets_more (λ t. Ok (option_map (λ x. x.0) t.0, note (untimed t.0) t.1))
      (some_first time (Word w ∷ us) s.0 s.1.placed s.1.stop k)
      (λ o m is t. gets_noted (option_map (λ x. x.0) o) (untimed o) s.0 m (Same (Some time)) (Word w ∷ us)
      (ap untimed is.1 ∙ ap (λ b. unless b is.0 Kind) form) (ap (option_map (λ x. x.0)) is.1) t)

  timed_gets : (e : Event) (ts : List Token) (s : State) → EventFits policy schemes e
      → TellsTail policy schemes e.command ts → without_places s.1.placed ≡ time_tokens e.time
      ++ (event_tokens policy schemes e ++ ts)
      → Gets (timed_at policy schemes s) s (Same e) []
  unfolding timed_at
  timed_gets e ts s fits tells k =
      gets_then (λ t. event_at policy schemes t.0 t.1)
      (time_gets e.time (label_name policy.labels e.level) (Word e.session ∷ Word (verb_word (verb_of e.command))
      ∷ (command_tokens policy schemes e.command ++ ts)) s fits.timed k)
      (λ m t. event_gets e ts (s.0, m) fits tells t)

  -- a line begins with its time, or with its label
  front_of : (time : Option (List ℕ)) (t : Token) (us : List Token) → (f : Token) × (rest : List Token)
      × (time_tokens time ++ t ∷ us ≡ f ∷ rest)
  front_of None t us = (t, us, refl)
  front_of (Some time) t us = (Text time, t ∷ us, refl)

  line_again : (line : List ℕ) (o : Option Event) → Tells policy schemes line o → line_at policy schemes line true
      ≡ Ok o
  unfolding line_at told_at least_from
  line_again line None h =
      let t = (tokens_exact line []).1 h in
      let over : has_ended (tokens_at line) ≡ true = over_again (tokens_at line).placed (tokens_at line).stop t.0 t.1 in
      rw over refl
  line_again line (Some e) h =
      let start : State = ([], tokens_at line) in
      let t = (tokens_exact line (time_tokens e.time ++ (event_tokens policy schemes e ++ h.tail))).1 h.tokens in
      let front = front_of e.time (label_token policy schemes e.level) (Word e.session
      ∷ Word (verb_word (verb_of e.command)) ∷ (command_tokens policy schemes e.command ++ h.tail)) in
      let more : has_ended (tokens_at line) ≡ false = not_over (tokens_at line).placed
      (tokens_at line).stop front.0 front.1 (t.0 ∙ front.2) in
      let g = timed_gets e h.tail start h.fits h.query t.0 in
      let over : has_ended g.rest ≡ true = over_again g.rest.placed g.rest.stop g.tokens
      (ap (λ (s : TokenFault). s.cause) g.stop ∙ t.1) in
      let read : timed_at policy schemes start ≡ Ok (e, ([], g.rest)) =
      g.is ∙ ap (λ (x : Event). Ok (x, ([], g.rest))) g.holds in
      let end : end_at ([], g.rest) ≡ Ok (tt, ([], g.rest)) = rw over refl in
      let answered : Read (Option Event) → Result (Option Event) LineFault = λ r. placed_on r >>=
      λ x. placed_on (answer (least x.1.0) x.0) in
      rw more (ap (λ r. answered (r >>= λ e. end_at e.1 >>= λ end. Ok (Some e.0, end.1))) read
      ∙ ap (λ r. answered (r >>= λ end. Ok (Some e, end.1))) end)

  -- ---- all lines

  abbrev fed : Line → List ℕ
  fed line = line.text ++ 10 ∷ []

  lines_again : (lines : List Line) (number : ℕ) (events : List Event) → AllByRecursion (IsLineOf policy schemes) lines
      → lines_at policy schemes number events (split_lines [] (flat_map fed lines))
      ≡ Ok (events ++ filter_map (λ (x : Line). x.event) lines)
  lines_again [] number events h = ap (λ (x : List Event). Ok x) (sym (append-nil events))
  lines_again (line ∷ lines) number events h =
      let split : split_lines [] (flat_map fed (line ∷ lines)) ≡ (line.text, true) ∷ split_lines []
      (flat_map fed lines) =
      ap (split_lines []) (append_assoc line.text (10 ∷ []) (flat_map fed lines)) ∙ split_ended [] line.text
      (flat_map fed lines) h.0.one in
      ap (lines_at policy schemes number events) split
      ∙ ap (λ r. in_script number r >>= λ e. lines_at policy schemes (number + 1) (events ++ option_to_list e)
      (split_lines [] (flat_map fed lines))) (line_again line.text line.event h.0.tells)
      ∙ lines_again lines (number + 1) (events ++ option_to_list line.event) h.1
      ∙ ap (λ (x : List Event). Ok x) (append_assoc events (option_to_list line.event)
      (filter_map (λ (x : Line). x.event) lines)
      ∙ ap (λ x. events ++ x) (ap (λ x. x ++ filter_map (λ (y : Line). y.event) lines) (listed line.event line.text)
      ∙ sym (filter_map-append (λ (y : Line). y.event) (line ∷ []) lines)))

  pub script_again : (bytes : List ℕ) (es : List Event) → ReadsScript policy schemes bytes es
      → script_at policy schemes bytes ≡ Ok es
  unfolding script_at
  script_again bytes es h =
      ap (λ x. lines_at policy schemes 1 [] (split_lines [] x)) h.text ∙ lines_again h.lines 1 [] h.each
      ∙ ap (λ (x : List Event). Ok x) (sym h.told)

  -- a text that tells events is not refused
  pub read_refused : {X : Type 0} (view : X → List Event) (bytes : List ℕ) (r : Result X ScriptFault)
      → GivesScript view r (script_at policy schemes bytes)
      → IfErr r (λ e. (e.cause ≡ Memory → ⊥) → (es : List Event) → ReadsScript policy schemes bytes es → ⊥)
  read_refused view bytes (Ok x) given = tt
  read_refused view bytes (Err e) given = λ other es reads. let p = given other in let q = script_again bytes es reads
      in cc

-- ---- a text tells the events of one list at most

done_is : (es fs : List Event) (r : Result (List Event) ScriptFault) → r ≡ Ok es → r ≡ Ok fs → es ≡ fs
done_is es fs r p q = cc

pub scripts_once : ScriptsAreOnce
scripts_once policy schemes is_policy are_schemes bytes es fs p q =
    done_is es fs (script_at policy schemes bytes) (script_again policy schemes is_policy are_schemes bytes es p)
    (script_again policy schemes is_policy are_schemes bytes fs q)
