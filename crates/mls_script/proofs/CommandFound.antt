-- What is read is what stands there: commands, and events.
use Rattle.std.proofs.Common.{◌≡◌, ℕ, ◌<◌, true, false, List, [], ◌∷◌, ◌++◌, length, Option, Some, None, Ok, inl, inr, refl, sym, ap, ◌∙◌, subst, bytes_eq, append-nil, option_map, IfSome}
use Rattle.std.proofs.lemmas.Bool.{cases_Bool}
use Rattle.std.proofs.lemmas.Slice.Eq.{bytes_eq-Decides}
use Rattle.mls_lattice.specs.Name.{is_name}
use Rattle.mls_lattice.specs.Time.{is_time}
use Rattle.mls_lattice.specs.Policy.{Name, Policy}
use Rattle.mls_lattice.specs.Reading.{◌>>=◌}
use Rattle.mls_lattice.proofs.ReadingLemmas.{ok_is}
use Rattle.mls_scheme.specs.declared.value.Value.{Value}
use Rattle.mls_scheme.specs.declared.write.Write.TheVariants.{Insert, Update, Delete}
use Rattle.mls_scheme.specs.Scheme.{Schemes}
use Rattle.mls_tokens.specs.declared.token.Token.{Token}
use Rattle.mls_tokens.specs.declared.token.Token.TheVariants.{Word, Int, Text, Sign as Sign_token}
use Rattle.mls_tokens.specs.declared.token.Placed.{Placed}
use Rattle.mls_tokens.specs.declared.fault.TokenFault.{TokenFault}
use Rattle.mls_tokens.specs.Passing.{left, PlacedName, PlacedText, text_first, pass_text_of, pass_text}
use Rattle.mls_translang.specs.Tokens.{Context}
use Rattle.mls_parser.specs.declared.fault.PlacedFault.{PlacedFault}
use Rattle.mls_parser.specs.declared.fault.TextCause.TheVariants.{Kind}
use Rattle.mls_parser.specs.Noted.{State, Read, in_state, token, name_at, label_at, relation_at}
use Rattle.mls_parser.specs.ReadCondition.{written_place}
use Rattle.mls_parser.specs.Words.{pass_known}
use Rattle.mls_parser.proofs.FaultLemmas.{holds}
use Rattle.mls_parser.proofs.FoundSteps.{Found, found_none, found_next, found_noted, found_made, name_read, known_read}
use Rattle.mls_parser.proofs.StmtFound.{relation_read}
use Rattle.mls_translang.specs.declared.event.Event.{Event}
use Rattle.mls_translang.specs.declared.event.Command.{Command}
use Rattle.mls_translang.specs.declared.event.Command.TheVariants as commands
use Rattle.mls_script.specs.declared.grammar.Verb.{Verb}
use Rattle.mls_script.specs.declared.grammar.Verb.TheVariants as verb
use Rattle.mls_script.specs.declared.grammar.OneVerb.{OneVerb}
use Rattle.mls_script.specs.declared.grammar.OneVerb.TheVariants as of_one
use Rattle.mls_translang.specs.Event.{CommandFits, EventFits}
use Rattle.mls_script.specs.Grammar.{verbs, verb_word, verb_among, verb_of}
use Rattle.mls_script.specs.BatchTokens.{TellsTail}
use Rattle.mls_script.specs.ReadList.{list_at}
use Rattle.mls_script.specs.ReadBatch.{batch_at}
use Rattle.mls_script.specs.ReadParts.{Written, look_at, insert_at, update_at, delete_at}
use Rattle.mls_script.specs.Reading.{verb_of_token, call_at, written, command_at, event_at, untimed, time_at, timed_at}
use Rattle.mls_script.specs.Tokens.{command_tokens, event_tokens, time_tokens}
use Rattle.mls_script.proofs.BatchFound.{batch_read}
use Rattle.mls_script.proofs.ListFound.{list_read, IsList}
use Rattle.mls_script.proofs.PartsFound.{look_read, IsWritten, insert_read, update_read, delete_read}
use Rattle.mls_script.proofs.QueryFound.{label_read}

-- ---- verbs

among_is : (vs : List Verb) (word : Name) (v : Verb) → verb_among vs word ≡ Some v → word ≡ verb_word v
among_is [] word v e = absurd cc
among_is (x ∷ xs) word v e =
    elim (cases_Bool (bytes_eq word (verb_word x))) [
      | inl on ↦
          let same : x ≡ v = let h : Some x ≡ Some v = rw on at e in cc in
          (bytes_eq-Decides word (verb_word x)).0 on ∙ ap verb_word same
      | inr off ↦ among_is xs word v (rw off at e)
    ]

verb_is : (t : Token) (v : Verb) → verb_of_token t ≡ Some v → t ≡ Word (verb_word v)
verb_is (Word s) v e = ap (λ (x : Name). Word x) (among_is verbs s v e)
verb_is _ v e = absurd cc

module _ (policy : Policy) (schemes : Schemes) where
  abbrev place : Context
  place = written_place policy schemes 0

  -- ---- commands

  -- behind a verb: the tokens of a command, and those of its query
  pub record IsCommand (v : Verb) (ts : List Token) (c : Command) : Type 0 where
    pub tail : List Token
    pub verb : verb_of c ≡ v
    pub tokens : ts ≡ command_tokens policy schemes c ++ tail
    pub tells : TellsTail policy schemes c tail
    pub fits : CommandFits policy schemes c

  plain : (v : Verb) (ts : List Token) (c : Command) → verb_of c ≡ v → TellsTail policy schemes c []
      → ts ≡ command_tokens policy schemes c → CommandFits policy schemes c → IsCommand v ts c
  plain v ts c is tells tokens fits = record {
    tail = [];
    verb = is;
    tokens = tokens
        ∙ sym (append-nil (command_tokens policy schemes c));
    tells = tells;
    fits = fits;
  }

  abbrev IsCalled : PlacedName → List Token → Command → Type 0
  IsCalled n ts c = (args : List (Option Value)) × (c ≡ commands.Call n.0 args) × IsList None ts args

  call_read : (s : State) (x : Command × State) → call_at s ≡ Ok x → Found (IsCommand verb.Call) s x
  unfolding call_at
  call_read s =
      found_next (IsCommand verb.Call) IsCalled s (name_at s) (λ n. list_at None n.1 >>=
      λ args. Ok (commands.Call n.0.0 args.0, args.1)) (name_read s)
      (λ n. found_made (IsCalled n.0) n.1 (list_at None n.1) (λ args. commands.Call n.0.0 args) (list_read None n.1)
      (λ args ts h. (args, refl, h)))
      (λ n c ts us named h. subst (IsCommand verb.Call (ts ++ us)) (sym h.1)
      (plain verb.Call (ts ++ us) (commands.Call n.0 h.0) refl refl (λ i. named.0 i ++ h.2.tokens i) (
        named.1,
        h.2.kinds,
      )))

  write_read : (v : Verb) (o : OneVerb) (s : State) (r : Read Written) → ((y : Written × State) → r ≡ Ok y
      → Found (IsWritten policy schemes v o) s y) → (x : Command × State) → written r ≡ Ok x → Found (IsCommand v) s x
  write_read v o s r one x e =
      found_made (IsCommand v) s r (λ w. commands.Write w.0 w.1) one
      (λ w ts h. plain v ts (commands.Write w.0 w.1) h.verb refl h.tokens h.fits) x e

  command_read : (v : Verb) (s : State) (x : Command × State) → command_at policy schemes v s ≡ Ok x
      → Found (IsCommand v) s x
  command_read verb.Open s x e =
      found_made (IsCommand verb.Open) s (name_at s) (λ n. commands.Open n.0) (name_read s)
      (λ n ts named. plain verb.Open ts (commands.Open n.0) refl refl named.0 named.1) x e
  command_read verb.Close s x e = subst (Found (IsCommand verb.Close) s) (ok_is {E = PlacedFault} (
    commands.Close,
    s,
  ) x e) (found_none (IsCommand verb.Close) commands.Close s
      (plain verb.Close [] commands.Close refl refl refl tt))
  command_read verb.Audit s x e = subst (Found (IsCommand verb.Audit) s) (ok_is {E = PlacedFault} (
    commands.Audit,
    s,
  ) x e) (found_none (IsCommand verb.Audit) commands.Audit s
      (plain verb.Audit [] commands.Audit refl refl refl tt))
  command_read verb.View s x e =
      found_made (IsCommand verb.View) s (look_at policy schemes false s)
      (λ l. commands.View l.relation l.label l.query false) (look_read policy schemes false s)
      (λ l ts h. record { tail = h.tail; verb = refl; tokens = h.tokens; tells = h.tells; fits = h.fits }) x e
  command_read verb.Count s x e =
      found_made (IsCommand verb.Count) s (look_at policy schemes true s)
      (λ l. commands.View l.relation l.label l.query true) (look_read policy schemes true s)
      (λ l ts h. record { tail = h.tail; verb = refl; tokens = h.tokens; tells = h.tells; fits = h.fits }) x e
  command_read verb.Dump s x e =
      found_made (IsCommand verb.Dump) s (relation_at schemes s) (λ r. commands.Dump r) (relation_read place s)
      (λ r ts h. plain verb.Dump ts (commands.Dump r) refl refl h.tokens h.within) x e
  command_read verb.Insert s x e = write_read verb.Insert of_one.Insert s (insert_at schemes s)
      (insert_read policy schemes s) x e
  command_read verb.Update s x e = write_read verb.Update of_one.Update s (update_at policy schemes s)
      (update_read policy schemes s) x e
  command_read verb.Delete s x e = write_read verb.Delete of_one.Delete s (delete_at policy schemes s)
      (delete_read policy schemes s) x e
  command_read verb.Call s x e = call_read s x e
  command_read verb.All s x e =
      found_made (IsCommand verb.All) s (batch_at policy schemes s) (λ b. commands.All b) (batch_read policy schemes s)
      (λ b ts h. record { tail = h.0; verb = refl; tokens = h.1; tells = h.3; fits = h.2 }) x e

  -- ---- events

  -- an event behind this time
  record IsEvent (time : Option (List ℕ)) (ts : List Token) (e : Event) : Type 0 where
    tail : List Token
    tokens : ts ≡ event_tokens policy schemes e ++ tail
    tells : TellsTail policy schemes e.command tail
    given : e.time ≡ time
    level : e.level < length policy.labels
    session : is_name e.session ≡ true
    command : CommandFits policy schemes e.command

  module _ (time : Option (List ℕ)) where
    abbrev event : ℕ → Name → Command → Event
    event level session c = record { level = level; session = session; time = time; command = c }

    -- behind the verb, the session and the level
    abbrev IsDone : ℕ → Name → Verb → List Token → Event → Type 0
    IsDone level session v ts e = (c : Command) × (e ≡ event level session c) × IsCommand v ts c

    abbrev IsBegun : ℕ → Name → List Token → Event → Type 0
    IsBegun level session ts e = (v : Verb) × (us : List Token) × (ts ≡ Word (verb_word v) ∷ us)
        × IsDone level session v us e

    abbrev IsLevelled : ℕ → List Token → Event → Type 0
    IsLevelled level ts e = (session : Name) × (us : List Token) × (ts ≡ Word session ∷ us) × (is_name session ≡ true)
        × IsBegun level session us e

    event_read : (s : State) (x : Event × State) → event_at policy schemes time s ≡ Ok x → Found (IsEvent time) s x
    unfolding event_at
    event_read s =
        let verb_at : State → Read (Verb × ℕ) = λ r. token (pass_known verb_of_token) r in
        found_next (IsEvent time) IsLevelled s (label_at policy s) (λ l. name_at l.1 >>= λ n. verb_at n.1 >>=
        λ v. command_at policy schemes v.0.0 v.1 >>= λ c. Ok (event l.0 n.0.0 c.0, c.1))
        (label_read policy schemes s)
        (λ l. found_next (IsLevelled l.0) (λ n. IsBegun l.0 n.0) l.1 (name_at l.1) (λ n. verb_at n.1 >>=
        λ v. command_at policy schemes v.0.0 v.1 >>= λ c. Ok (event l.0 n.0.0 c.0, c.1)) (name_read l.1)
        (λ n. found_next (IsBegun l.0 n.0.0) (λ v. IsDone l.0 n.0.0 v.0) n.1 (verb_at n.1)
        (λ v. command_at policy schemes v.0.0 v.1 >>= λ c. Ok (event l.0 n.0.0 c.0, c.1))
        (known_read verb_of_token n.1)
        (λ v. found_made (IsDone l.0 n.0.0 v.0.0) v.1 (command_at policy schemes v.0.0 v.1) (event l.0 n.0.0)
        (command_read v.0.0 v.1) (λ c ts h. (c, refl, h)))
        (λ v e ts us known h. (
          v.0,
          us,
          ap (λ (zs : List Token). zs ++ us) (known.2 ∙ ap (λ t. t ∷ [])
              (verb_is known.0 v.0 known.1)),
          h,
        )))
        (λ n e ts us named h. (n.0, us, ap (λ (zs : List Token). zs ++ us) named.0, named.1, h)))
        (λ level e ts us labelled (session, vs, named, is, (v, ws, word, (c, same, h))).
        subst (IsEvent time (ts ++ us)) (sym same) (record {
          tail = h.tail;
          tokens = λ i. labelled.tokens i ++ (named
              ∙ (λ j. Word session ∷ (word ∙ (λ k. Word (verb_word (sym h.verb k)) ∷ h.tokens k)) j)) i;
          tells = h.tells;
          given = refl;
          level = labelled.within;
          session = is;
          command = h.fits;
        }))

  -- ---- times

  abbrev IsTextFirst : List Token → Option PlacedText → Type 0
  IsTextFirst ts o = ts ≡ time_tokens (option_map (λ t. t.0) o)

  text_first_read : (fs : List PlacedFault) (at : ℕ) (t : Token) (ps : List Placed) (stop : TokenFault)
      → Found IsTextFirst (fs, left (record { token = t; at = at } ∷ ps) stop) (
        (text_first at t ps stop).0,
        (fs, (text_first at t ps stop).1),
      )
  text_first_read fs at (Text x) ps stop = record {
    tokens = Text x ∷ [];
    passed = record {
      tokens = refl;
      stop =
          refl;
    };
    right = λ none a. (none, refl);
  }
  text_first_read fs at (Word w) ps stop = found_none IsTextFirst None (
    fs,
    left (record { token = Word w; at = at }
        ∷ ps) stop,
  ) refl
  text_first_read fs at (Int n) ps stop = found_none IsTextFirst None (
    fs,
    left (record { token = Int n; at = at }
        ∷ ps) stop,
  ) refl
  text_first_read fs at (Sign_token m) ps stop = found_none IsTextFirst None (
    fs,
    left (record { token = Sign_token m; at = at } ∷ ps) stop,
  ) refl

  text_of : (fs : List PlacedFault) (ps : List Placed) (stop : TokenFault) (x : Option PlacedText × State)
      → in_state fs (pass_text_of ps stop) ≡ Ok x → Found IsTextFirst (fs, left ps stop) x
  text_of fs [] stop x e = absurd cc
  text_of fs (p ∷ ps) stop x e =
      subst (Found IsTextFirst (fs, left (p ∷ ps) stop)) (ok_is {E = PlacedFault} (
        (text_first p.at p.token ps stop).0,
        (fs, (text_first p.at p.token ps stop).1),
      ) x e) (text_first_read fs p.at p.token ps stop)

  record IsTimed (ts : List Token) (time : Option (List ℕ)) : Type 0 where
    tokens : ts ≡ time_tokens time
    form : IfSome time (λ t. is_time t ≡ true)

  time_read : (s : State) (x : Option (List ℕ) × State) → time_at s ≡ Ok x → Found IsTimed s x
  unfolding time_at
  time_read s = found_noted IsTimed s (token pass_text s) (option_map (λ t. t.0)) untimed
      (text_of s.0 s.1.placed s.1.stop) made
    where
      made : (o : Option PlacedText) (ts : List Token) → untimed o ≡ [] → IsTextFirst ts o
          → IsTimed ts (option_map (λ t. t.0) o)
      made None ts none is = record { tokens = is; form = tt }
      made (Some t) ts none is = record { tokens = is; form = holds (is_time t.0) t.1 Kind none }

  -- ---- a whole line

  pub record IsWholeLine (ts : List Token) (e : Event) : Type 0 where
    pub tail : List Token
    pub tokens : ts ≡ time_tokens e.time ++ (event_tokens policy schemes e ++ tail)
    pub tells : TellsTail policy schemes e.command tail
    pub fits : EventFits policy schemes e

  pub timed_read : (s : State) (x : Event × State) → timed_at policy schemes s ≡ Ok x → Found IsWholeLine s x
  unfolding timed_at
  timed_read s =
      found_next IsWholeLine IsEvent s (time_at s) (λ t. event_at policy schemes t.0 t.1) (time_read s)
      (λ t. event_read t.0 t.1)
      (λ time e ts us timed h. record {
        tail = h.tail;
        tokens = (λ i. timed.tokens i ++ h.tokens i) ∙ ap (λ t. time_tokens t ++ (event_tokens policy schemes e
            ++ h.tail)) (sym h.given);
        tells = h.tells;
        fits = record {
          level = h.level;
          session = h.session;
          timed = subst (λ t. IfSome t (λ x. is_time x ≡ true))
              (sym h.given) timed.form;
          command = h.command;
        };
      })
