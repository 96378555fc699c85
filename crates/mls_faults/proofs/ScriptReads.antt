-- Readers of lines of scripts read no further than the next token.
use Rattle.std.proofs.Common.{ℕ, zero, suc, ◌≤◌, ℤ, Bool, true, false, if◌then◌else◌, List, [], ◌∷◌, ◌++◌, codes, bytes_eq, Option, Some, None, option_map, Ok, Err, refl, arith, inl, inr}
use Rattle.std.specs.List.{AllByRecursion}
use Rattle.mls_lattice.specs.Policy.{Policy}
use Rattle.mls_lattice.specs.Reading.{◌>>=◌}
use Rattle.mls_lattice.specs.Time.{is_time}
use Rattle.mls_scheme.specs.Scheme.{Attribute, Scheme, Schemes, scheme_of}
use Rattle.mls_scheme.specs.declared.value.Value.{Value}
use Rattle.mls_scheme.specs.declared.write.Write.TheVariants.{Insert, Update, Delete}
use Rattle.mls_tokens.specs.declared.fault.TokenFault.{TokenFault}
use Rattle.mls_tokens.specs.declared.token.Token.{Token}
use Rattle.mls_tokens.specs.declared.token.Token.TheVariants.{Word, Int, Text, Sign}
use Rattle.mls_tokens.specs.declared.token.Placed.{Placed}
use Rattle.mls_tokens.specs.declared.sign.Sign.TheVariants as signs
use Rattle.mls_tokens.specs.Passing.{left, refuse, PlacedName, PlacedText, text_first, pass_text, is_expected}
use Rattle.mls_translang.specs.Event.{Sets, most_ones}
use Rattle.mls_translang.specs.Tree.{Expr}
use Rattle.mls_translang.specs.declared.event.Command.{Command}
use Rattle.mls_translang.specs.declared.event.Command.TheVariants as commands
use Rattle.mls_translang.specs.declared.event.Event.{Event}
use Rattle.mls_translang.specs.declared.event.One.{One}
use Rattle.mls_translang.specs.declared.event.One.TheVariants as ones
use Rattle.mls_translang.specs.declared.query.ClassTest.{ClassTest}
use Rattle.mls_translang.specs.declared.query.Comparison.{Comparison}
use Rattle.mls_translang.specs.declared.query.Query.{Query}
use Rattle.mls_parser.specs.declared.fault.TextCause.TheVariants as cause
use Rattle.mls_parser.specs.declared.fault.PlacedFault.{PlacedFault}
use Rattle.mls_parser.specs.Fault.{fault, unless}
use Rattle.mls_parser.specs.Noted.{State, Read, note, in_state, token, takes_sign, takes_word, word_at, name_at, label_at, label_behind, relation_at}
use Rattle.mls_parser.specs.ReadCondition.{condition_at}
use Rattle.mls_parser.specs.ReadList.{items_at}
use Rattle.mls_parser.specs.Words.{pass_any, pass_known}
use Rattle.mls_script.specs.ReadBatch.{one_of_token, behind_semicolon, ends_behind, ends_at, excess_at, looked_at, expect_at, behind_verb, one_at, ones_from, batch_at}
use Rattle.mls_script.specs.ReadList.{value_of_token, value_at, fits_attribute, attribute_at, are_as_many, item_at, list_at, set_at, sets_at}
use Rattle.mls_script.specs.ReadParts.{Written, keyed_at, insert_at, look_at, update_at, delete_at}
use Rattle.mls_script.specs.ReadQuery.{highest_behind, comparison_of, class_behind, class_at, number_of, is_count, count_of, rows_at, first_behind, first_at, where_behind, where_at, query_at}
use Rattle.mls_script.specs.Reading.{verb_of_token, end_at, untimed, time_at, call_at, written, viewed_at, command_at, event_at, timed_at, told_at}
use Rattle.mls_faults.proofs.ReadsLemmas.{EndsFrom, AreOfNames, NotesNames, Two, one, two, Agree, ReadsFrom, Reads, reads_behind, reads_then}
use Rattle.mls_faults.proofs.StepLemmas.{of_unless, reads_noted, reads_done, reads_fault, stop_later, reads_token, AllSome, all_if, known_then, is_any, reads_sign, reads_word, reads_name, reads_known, reads_if_sign, reads_if_word, reads_either, reads_unless_over}
use Rattle.mls_faults.proofs.ExprReads.{reads_label, reads_label_behind, reads_relation, reads_items, reads_list, reads_item, reads_set}
use Rattle.mls_faults.proofs.ConditionReads.{reads_condition}

abbrev LookedAtBy : {X : Type 0} → (Policy → Schemes → Bool → State → Read X) → Type 0
LookedAtBy {X = X} read = X

-- ---- values

module _ (k : Two) where
  reads_value : Reads k value_at
  reads_value = reads_token k (pass_any value_of_token) (λ x. x.1) (is_any value_of_token)

  reads_value_item : (attributes : Option (List Attribute)) (front : List (Option Value))
      → Reads k (item_at attributes front)
  unfolding item_at
  reads_value_item attributes front = reads_item k value_at reads_value (λ v. v.0) (λ v. v.1)
      (λ a v. fits_attribute a v.0) (attribute_at attributes) front

  reads_values : (attributes : Option (List Attribute)) → Reads k (list_at attributes)
  unfolding list_at
  reads_values attributes = reads_list k (item_at attributes) (reads_value_item attributes) (are_as_many attributes)

  reads_new_value : (scheme : Scheme) (front : Sets) → Reads k (set_at scheme front)
  unfolding set_at
  reads_new_value scheme front = reads_set k value_at reads_value (λ v. v.0) (λ v. v.1)
      (λ a v. fits_attribute a v.0) scheme front

  reads_new_values : (scheme : Scheme) → Reads k (sets_at scheme)
  unfolding sets_at
  reads_new_values scheme = reads_then k (reads_word k (codes "set")) (λ w. items_at (set_at scheme) [] w.1)
      (λ w. reads_items k (set_at scheme) (reads_new_value scheme) [])

-- ---- queries

module _ (k : Two) where
  reads_rows : Reads k rows_at
  unfolding rows_at
  reads_rows =
      let faults : ℤ × ℕ → List PlacedFault = λ n. unless (is_count n.0) n.1 cause.Kind in
      reads_then k (reads_known k number_of) (λ n. Ok (count_of n.0.0, note (faults n.0) n.1))
      (λ n. reads_noted k (count_of n.0) (faults n) (of_unless (is_count n.0) n.1 cause.Kind refl))

  reads_first : (counts : Bool) → Reads k (first_at counts)
  unfolding first_at
  reads_first counts =
      let made : ℕ × State → Read (Option ℕ) = λ n. Ok (Some n.0, n.1) in
      reads_either k counts (λ s. Ok (None, s)) (λ s. first_behind s (takes_word (codes "first") s))
      (reads_done k None)
      (reads_if_word k (codes "first") first_behind (λ at t. rows_at t >>= made) (λ s at t. refl) (reads_done k None)
      (λ at. reads_behind k at (λ t. rows_at t >>= made) (reads_then k reads_rows made (λ n. reads_done k (Some n)))))

module _ (k : Two) (policy : Policy) where
  reads_label_at : Reads k (label_at policy)
  unfolding label_at
  reads_label_at = reads_label k policy (reads_name k)

  reads_class : Reads k (class_at policy)
  unfolding class_at
  reads_class =
      let made : Comparison × ℕ → ℕ × State → Read (Option ClassTest) =
      λ c l. Ok (Some (record { comparison = c.0; label = l.0 }), l.1) in
      let rest : State → Read (Option ClassTest) = λ t. token (pass_known comparison_of) t >>=
      λ c. label_at policy c.1 >>= λ l. made c.0 l in
      reads_if_word k (codes "class") (class_behind policy) (λ at t. rest t) (λ s at t. refl) (reads_done k None)
      (λ at. reads_behind k at rest (reads_then k (reads_known k comparison_of)
      (λ c. label_at policy c.1 >>= λ l. made c.0 l)
      (λ c. reads_then k reads_label_at (λ l. made c l)
      (λ l. reads_done k (Some (record { comparison = c.0; label = l }))))))

  module _ (schemes : Schemes) where
    reads_where : (relation : ℕ) → Reads k (where_at policy schemes relation)
    unfolding where_at
    reads_where relation =
        let made : Expr × State → Read (Option Expr) = λ e. Ok (Some e.0, e.1) in
        reads_if_word k (codes "where") (where_behind policy schemes relation)
        (λ at t. condition_at policy schemes relation t >>= made) (λ s at t. refl) (reads_done k None)
        (λ at. reads_behind k at (λ t. condition_at policy schemes relation t >>= made)
        (reads_then k (reads_condition k policy schemes relation) made (λ e. reads_done k (Some e))))

    reads_query : (counts : Bool) (relation : ℕ) → Reads k (query_at policy schemes counts relation)
    unfolding query_at
    reads_query counts relation =
        let made : Bool → Option ClassTest → Option ℕ → Option Expr → Query =
        λ h c f t. record { highest = h; class = c; test = t; first = f } in
        let tail : Bool → Option ClassTest → Option ℕ × State → Read Query =
        λ h c f. where_at policy schemes relation f.1 >>= λ t. Ok (made h c f.0 t.0, t.1) in
        let rest : Bool → State → Read Query =
        λ h s. class_at policy s >>= λ c. first_at counts c.1 >>= λ f. tail h c.0 f in
        let reads_rest : (h : Bool) → Reads k (rest h) =
        λ h. reads_then k reads_class (λ c. first_at counts c.1 >>= λ f. tail h c.0 f)
        (λ c. reads_then k (reads_first k counts) (λ f. tail h c f)
        (λ f. reads_then k (reads_where relation) (λ t. Ok (made h c f t.0, t.1))
        (λ t. reads_done k (made h c f t)))) in
        reads_if_word k (codes "highest") (λ s o. rest (highest_behind s o).0 (highest_behind s o).1)
        (λ at t. rest true t) (λ s at t. refl) (reads_rest false)
        (λ at. reads_behind k at (rest true) (reads_rest true))

-- ---- what is written and looked at

module _ (k : Two) (schemes : Schemes) where
  reads_keyed : Reads k (keyed_at schemes)
  unfolding keyed_at
  reads_keyed = reads_then k (reads_relation k schemes) (λ r. word_at (codes "key") r.1 >>=
      λ w. list_at (Some (scheme_of schemes r.0).keys) w.1 >>=
      λ key. Ok ((r.0, key.0), key.1))
      (λ r. reads_then k (reads_word k (codes "key"))
      (λ w. list_at (Some (scheme_of schemes r).keys) w.1 >>= λ key. Ok ((r, key.0), key.1))
      (λ w. reads_then k (reads_values k (Some (scheme_of schemes r).keys))
      (λ key. Ok ((r, key.0), key.1)) (λ key. reads_done k (r, key))))

  reads_insert : Reads k (insert_at schemes)
  unfolding insert_at
  reads_insert =
      let made : ℕ × List (Option Value) → List (Option Value) → Written = λ k v. (k.0, Insert k.1 v) in
      reads_then k reads_keyed (λ k. word_at (codes "values") k.1 >>=
      λ w. list_at (Some (scheme_of schemes k.0.0).others) w.1 >>=
      λ v. Ok (made k.0 v.0, v.1))
      (λ key. reads_then k (reads_word k (codes "values"))
      (λ w. list_at (Some (scheme_of schemes key.0).others) w.1 >>= λ v. Ok (made key v.0, v.1))
      (λ w. reads_then k (reads_values k (Some (scheme_of schemes key.0).others)) (λ v. Ok (made key v.0, v.1))
      (λ v. reads_done k (made key v))))

-- what is looked at, as it is read
abbrev Look : Type 0
Look = LookedAtBy look_at

module _ (k : Two) (policy : Policy) (schemes : Schemes) where
  reads_look : (counts : Bool) → Reads k (look_at policy schemes counts)
  unfolding look_at
  reads_look counts =
      let made : ℕ → ℕ → Query → Look = λ r l q. record { relation = r; label = l; query = q } in
      reads_then k (reads_relation k schemes) (λ r. label_behind policy (codes "at") r.1 >>=
      λ l. query_at policy schemes counts r.0 l.1 >>=
      λ q. Ok (made r.0 l.0 q.0, q.1))
      (λ r. reads_then k (reads_label_behind k policy (codes "at"))
      (λ l. query_at policy schemes counts r l.1 >>= λ q. Ok (made r l.0 q.0, q.1))
      (λ l. reads_then k (reads_query k policy schemes counts r) (λ q. Ok (made r l q.0, q.1))
      (λ q. reads_done k (made r l q))))

  reads_update : Reads k (update_at policy schemes)
  unfolding update_at
  reads_update =
      let made : ℕ × List (Option Value) → ℕ → ℕ → Sets → Written = λ k c f s. (k.0, Update k.1 c f s) in
      reads_then k (reads_keyed k schemes) (λ k. label_behind policy (codes "class") k.1 >>= λ c. label_behind policy
      (codes "from") c.1 >>=
      λ f. sets_at (scheme_of schemes k.0.0) f.1 >>= λ s. Ok (made k.0 c.0 f.0 s.0, s.1))
      (λ key. reads_then k (reads_label_behind k policy (codes "class"))
      (λ c. label_behind policy (codes "from") c.1 >>=
      λ f. sets_at (scheme_of schemes key.0) f.1 >>= λ s. Ok (made key c.0 f.0 s.0, s.1))
      (λ c. reads_then k (reads_label_behind k policy (codes "from"))
      (λ f. sets_at (scheme_of schemes key.0) f.1 >>= λ s. Ok (made key c f.0 s.0, s.1))
      (λ f. reads_then k (reads_new_values k (scheme_of schemes key.0)) (λ s. Ok (made key c f s.0, s.1))
      (λ s. reads_done k (made key c f s)))))

  reads_delete : Reads k (delete_at policy schemes)
  unfolding delete_at
  reads_delete =
      let made : ℕ × List (Option Value) → ℕ → Written = λ k c. (k.0, Delete k.1 c) in
      reads_then k (reads_keyed k schemes) (λ k. label_behind policy (codes "class") k.1 >>= λ c. Ok (
        made k.0 c.0,
        c.1,
      ))
      (λ key. reads_then k (reads_label_behind k policy (codes "class")) (λ c. Ok (made key c.0, c.1))
      (λ c. reads_done k (made key c)))

-- ---- batches

module _ (k : Two) where
  reads_ends : Reads k ends_at
  unfolding ends_at
  reads_ends =
      let over : State → Read Bool = λ t. Ok (behind_semicolon t (takes_sign signs.RightBrace t)) in
      reads_if_sign k signs.Semicolon ends_behind (λ at t. over t) (λ s at t. refl)
      (reads_then k (reads_sign k signs.RightBrace) (λ e. Ok (true, e.1)) (λ e. reads_done k true))
      (λ at. reads_behind k at over (reads_if_sign k signs.RightBrace (λ s o. Ok (behind_semicolon s o))
      (λ n t. Ok (true, t)) (λ s n t. refl) (reads_done k false)
      (λ n. reads_behind k n (λ t. Ok (true, t)) (reads_done k true))))

  all_excess : (X : Type 0) {Y : Type 0} (at : ℕ) (o : Option Y)
      → AllSome (λ (y : Y). ReadsFrom {X = X} k at (λ s. Err (fault at cause.TooLong))) o
  all_excess X at None = tt
  all_excess X at (Some y) = reads_fault k at cause.TooLong

  reads_excess : {X : Type 0} → Reads {X = X} k excess_at
  unfolding excess_at
  reads_excess {X = X} = known_then k one_of_token (λ v. Err (fault v.0.1 cause.TooLong))
      (λ t at. all_excess X at (one_of_token t))

module _ (k : Two) (policy : Policy) (schemes : Schemes) where
  reads_looked : (counts : Bool) → Reads k (looked_at policy schemes counts)
  reads_looked counts =
      let made : Look → One = λ l. ones.View l.relation l.label l.query counts in
      reads_then k (reads_look k policy schemes counts) (λ l. Ok (made l.0, l.1)) (λ l. reads_done k (made l))

  reads_expect : Reads k (expect_at policy schemes)
  unfolding expect_at
  reads_expect =
      let made : ℕ → Look → One = λ n l. ones.Expect n l.relation l.label l.query in
      reads_then k (reads_rows k) (λ n. word_at (codes "count") n.1 >>= λ w. look_at policy schemes true w.1 >>=
      λ l. Ok (made n.0 l.0, l.1))
      (λ n. reads_then k (reads_word k (codes "count"))
      (λ w. look_at policy schemes true w.1 >>= λ l. Ok (made n l.0, l.1))
      (λ w. reads_then k (reads_look k policy schemes true) (λ l. Ok (made n l.0, l.1))
      (λ l. reads_done k (made n l))))

  as_one : {r : State → Read Written} → Reads k r → Reads k (λ s. r s >>= λ w. Ok (ones.Write w.0.0 w.0.1, w.1))
  as_one h = reads_then k h (λ w. Ok (ones.Write w.0.0 w.0.1, w.1)) (λ w. reads_done k (ones.Write w.0 w.1))

  -- a command of a batch by its word
  from_one_word : (w : List ℕ) (at : ℕ) → AllSome (λ v. ReadsFrom k at (λ s. behind_verb policy schemes v s))
      (one_of_token (Word w))
  from_one_word w at =
      all_if (λ v. ReadsFrom k at (λ s. behind_verb policy schemes v s)) (bytes_eq w (codes "view")) _ _
      (reads_behind k at _ (reads_looked false))
      (all_if _ (bytes_eq w (codes "count")) _ _ (reads_behind k at _ (reads_looked true))
      (all_if _ (bytes_eq w (codes "expect")) _ _ (reads_behind k at _ reads_expect)
      (all_if _ (bytes_eq w (codes "insert")) _ _ (reads_behind k at _ (as_one (reads_insert k schemes)))
      (all_if _ (bytes_eq w (codes "update")) _ _ (reads_behind k at _ (as_one (reads_update k policy schemes)))
      (all_if _ (bytes_eq w (codes "delete")) _ _ (reads_behind k at _ (as_one (reads_delete k policy schemes)))
      tt)))))

  from_one : (t : Token) (at : ℕ) → AllSome (λ v. ReadsFrom k at (λ s. behind_verb policy schemes v s))
      (one_of_token t)
  from_one (Word w) at = from_one_word w at
  from_one (Int n) at = tt
  from_one (Text s) at = tt
  from_one (Sign m) at = tt

  reads_one : Reads k (one_at policy schemes)
  unfolding one_at
  reads_one = known_then k one_of_token (λ v. behind_verb policy schemes v.0.0 v.1) from_one

  reads_ones : (n : ℕ) (front : List One) → Reads k (ones_from policy schemes n front)
  unfolding ones_from excess_at
  reads_ones zero front = reads_excess k
  reads_ones (suc n) front =
      let all : One → List One = λ one. front ++ one ∷ [] in
      let more : One → Bool × State → Read (List One) =
      λ one ends. if ends.0 then Ok (all one, ends.1) else ones_from policy schemes n (all one) ends.1 in
      reads_then k reads_one (λ one. ends_at one.1 >>= λ ends. more one.0 ends)
      (λ one. reads_then k (reads_ends k) (λ ends. more one ends)
      (λ ends. reads_either k ends (λ t. Ok (all one, t)) (λ t. ones_from policy schemes n (all one) t)
      (reads_done k (all one)) (reads_ones n (all one))))

  reads_batch : Reads k (batch_at policy schemes)
  unfolding batch_at
  reads_batch = reads_then k (reads_sign k signs.LeftBrace) (λ x. ones_from policy schemes most_ones [] x.1)
      (λ x. reads_ones most_ones [])

-- ---- commands

reads_call : (k : Two) → Reads k call_at
unfolding call_at
reads_call k = reads_then k (reads_name k) (λ n. list_at None n.1 >>= λ args. Ok (commands.Call n.0.0 args.0, args.1))
    (λ n. reads_then k (reads_values k None) (λ args. Ok (commands.Call n.0 args.0, args.1))
    (λ args. reads_done k (commands.Call n.0 args)))

module _ (k : Two) (policy : Policy) (schemes : Schemes) where
  reads_viewed : (counts : Bool) → Reads k (viewed_at policy schemes counts)
  reads_viewed counts =
      let made : Look → Command = λ l. commands.View l.relation l.label l.query counts in
      reads_then k (reads_look k policy schemes counts) (λ l. Ok (made l.0, l.1)) (λ l. reads_done k (made l))

  as_command : {r : State → Read Written} → Reads k r → Reads k (λ s. written (r s))
  as_command h = reads_then k h (λ w. Ok (commands.Write w.0.0 w.0.1, w.1))
      (λ w. reads_done k (commands.Write w.0 w.1))

  reads_open : Reads k (λ s. name_at s >>= λ n. Ok (commands.Open n.0.0, n.1))
  reads_open = reads_then k (reads_name k) (λ n. Ok (commands.Open n.0.0, n.1))
      (λ n. reads_done k (commands.Open n.0))

  reads_dump : Reads k (λ s. relation_at schemes s >>= λ r. Ok (commands.Dump r.0, r.1))
  reads_dump = reads_then k (reads_relation k schemes) (λ r. Ok (commands.Dump r.0, r.1))
      (λ r. reads_done k (commands.Dump r))

  reads_all : Reads k (λ s. batch_at policy schemes s >>= λ b. Ok (commands.All b.0, b.1))
  reads_all = reads_then k (reads_batch k policy schemes) (λ b. Ok (commands.All b.0, b.1))
      (λ b. reads_done k (commands.All b))

  module _ (time : Option (List ℕ)) where
    -- a line behind its time, its level and its session
    abbrev made : ℕ → PlacedName → Command × State → Read Event
    made level session c = Ok (record { level = level; session = session.0; time = time; command = c.0 }, c.1)

    module _ (level : ℕ) (session : PlacedName) where
      as_event : (at : ℕ) {r : State → Read Command} → Reads k r → ReadsFrom k at (λ s. r s >>= made level session)
      as_event at {r = r} h = reads_behind k at (λ s. r s >>= made level session) (reads_then k h (made level session)
          (λ c. reads_done k (record { level = level; session = session.0; time = time; command = c })))

      from_word : (w : List ℕ) (at : ℕ) → AllSome (λ v. ReadsFrom k at (λ s. command_at policy schemes v s
          >>= made level session)) (verb_of_token (Word w))
      from_word w at =
          all_if (λ v. ReadsFrom k at (λ s. command_at policy schemes v s >>= made level session))
          (bytes_eq w (codes "open")) _ _ (as_event at reads_open)
          (all_if _ (bytes_eq w (codes "close")) _ _ (as_event at (reads_done k commands.Close))
          (all_if _ (bytes_eq w (codes "audit")) _ _ (as_event at (reads_done k commands.Audit))
          (all_if _ (bytes_eq w (codes "view")) _ _ (as_event at (reads_viewed false))
          (all_if _ (bytes_eq w (codes "count")) _ _ (as_event at (reads_viewed true))
          (all_if _ (bytes_eq w (codes "dump")) _ _ (as_event at reads_dump)
          (all_if _ (bytes_eq w (codes "insert")) _ _ (as_event at (as_command (reads_insert k schemes)))
          (all_if _ (bytes_eq w (codes "update")) _ _ (as_event at (as_command (reads_update k policy schemes)))
          (all_if _ (bytes_eq w (codes "delete")) _ _ (as_event at (as_command (reads_delete k policy schemes)))
          (all_if _ (bytes_eq w (codes "call")) _ _ (as_event at (reads_call k))
          (all_if _ (bytes_eq w (codes "all")) _ _ (as_event at reads_all) tt))))))))))

      from_verb : (t : Token) (at : ℕ) → AllSome (λ v. ReadsFrom k at (λ s. command_at policy schemes v s
          >>= made level session)) (verb_of_token t)
      from_verb (Word w) at = from_word w at
      from_verb (Int n) at = tt
      from_verb (Text s) at = tt
      from_verb (Sign m) at = tt

    -- ---- a line

    reads_event : Reads k (event_at policy schemes time)
    unfolding event_at
    reads_event = reads_then k (reads_label_at k policy) (λ level. name_at level.1 >>=
        λ session. token (pass_known verb_of_token) session.1 >>=
        λ v. command_at policy schemes v.0.0 v.1 >>= made level.0 session.0)
        (λ level. reads_then k (reads_name k) (λ session. token (pass_known verb_of_token) session.1 >>=
        λ v. command_at policy schemes v.0.0 v.1 >>= made level session.0)
        (λ session. known_then k verb_of_token (λ v. command_at policy schemes v.0.0 v.1 >>= made level session)
        (from_verb level session)))

-- ---- times

time_names : (o : Option PlacedText) → AreOfNames (untimed o)
time_names None = tt
time_names (Some t) = of_unless (is_time t.0) t.1 cause.Kind refl

module _ (k : Two) where
  -- a text that may be left out
  text_later : (fs : List PlacedFault) (at : ℕ) (t : Token) (ps : List Placed) (stop : TokenFault) → k.bound ≤ at
      → AllByRecursion (λ p. k.bound ≤ p.at) ps → k.bound ≤ stop.at
      → EndsFrom k.bound (in_state fs (Ok (text_first at t ps stop)))
  text_later fs at (Text s) ps stop here late last = record { placed = late; stop = last }
  text_later fs at (Word w) ps stop here late last = record { placed = (here, late); stop = last }
  text_later fs at (Int n) ps stop here late last = record { placed = (here, late); stop = last }
  text_later fs at (Sign m) ps stop here late last = record { placed = (here, late); stop = last }

  texts_later : (fs : List PlacedFault) (ps : List Placed) (stop : TokenFault)
      → AllByRecursion (λ p. k.bound ≤ p.at) ps
      → k.bound ≤ stop.at → EndsFrom k.bound (token pass_text (fs, left ps stop))
  texts_later fs [] stop late last = last
  texts_later fs (p ∷ ps) stop late last = text_later fs p.at p.token ps stop late.0 late.1 last

  texts_names : (fs : List PlacedFault) (ps : List Placed) (stop : TokenFault) → AreOfNames fs
      → NotesNames (token pass_text (fs, left ps stop))
  texts_names fs [] stop n = tt
  texts_names fs (p ∷ ps) stop n = n

  text_local : (fs : List PlacedFault) (p : Placed) (at : ℕ) (t : Token) (us : List Placed)
      → Agree k (p ∷ us) (in_state fs (Ok (text_first at t (us ++ k.first) k.stop)))
      (in_state fs (Ok (text_first at t (us ++ k.second) k.other)))
  text_local fs p at (Text s) us = inr (inl (record {
    value = Some (s, at);
    faults = fs;
    rest = us;
    fewer = omega arith;
    first = refl;
    second = refl;
  }))
  text_local fs p at (Word w) us = inr (inl (record {
    value = None;
    faults = fs;
    rest = record { token = Word w; at = at } ∷ us;
    fewer = omega arith;
    first = refl;
    second = refl;
  }))
  text_local fs p at (Int n) us = inr (inl (record {
    value = None;
    faults = fs;
    rest = record { token = Int n; at = at } ∷ us;
    fewer = omega arith;
    first = refl;
    second = refl;
  }))
  text_local fs p at (Sign m) us = inr (inl (record {
    value = None;
    faults = fs;
    rest = record { token = Sign m; at = at } ∷ us;
    fewer = omega arith;
    first = refl;
    second = refl;
  }))

  texts_local : (fs : List PlacedFault) (us : List Placed) → Agree k us (token pass_text (one k fs us))
      (token pass_text (two k fs us))
  texts_local fs [] = inr (inr (texts_later fs k.first k.stop k.from.placed k.from.stop))
  texts_local fs (p ∷ us) = text_local fs p p.at p.token us

  reads_text : Reads k (token pass_text)
  reads_text = record {
    later = λ s l. texts_later s.0 s.1.placed s.1.stop l.placed l.stop;
    local = texts_local;
    names = λ s n. texts_names s.0 s.1.placed s.1.stop n;
  }

  reads_time : Reads k time_at
  unfolding time_at
  reads_time = reads_then k reads_text (λ t. Ok (option_map (λ x. x.0) t.0, note (untimed t.0) t.1))
      (λ o. reads_noted k (option_map (λ x. x.0) o) (untimed o) (time_names o))

  reads_timed : (policy : Policy) (schemes : Schemes) → Reads k (timed_at policy schemes)
  unfolding timed_at
  reads_timed policy schemes = reads_then k reads_time (λ t. event_at policy schemes t.0 t.1)
      (λ time. reads_event k policy schemes time)

-- ---- the end of a line

module _ (k : Two) where
  abbrev ended : Bool → List PlacedFault → TokenFault → Read (Unit {0})
  ended b fs stop = in_state fs ((if b then Ok tt else Err (refuse [] stop)) >>= λ u. Ok (u, left [] stop))

  ended_later : (b : Bool) (fs : List PlacedFault) (stop : TokenFault) → k.bound ≤ stop.at
      → EndsFrom k.bound (ended b fs stop)
  ended_later true fs stop late = record { placed = tt; stop = late }
  ended_later false fs stop late = stop_later k.bound stop.at stop.cause late

  ended_names : (b : Bool) (fs : List PlacedFault) (stop : TokenFault) → AreOfNames fs → NotesNames (ended b fs stop)
  ended_names true fs stop n = n
  ended_names false fs stop n = tt

  end_later : (fs : List PlacedFault) (ps : List Placed) (stop : TokenFault) → AllByRecursion (λ p. k.bound ≤ p.at) ps
      → k.bound ≤ stop.at → EndsFrom k.bound (end_at (fs, left ps stop))
  end_later fs [] stop late last = ended_later (is_expected stop.cause) fs stop last
  end_later fs (p ∷ ps) stop late last = late.0

  end_names : (fs : List PlacedFault) (ps : List Placed) (stop : TokenFault) → AreOfNames fs
      → NotesNames (end_at (fs, left ps stop))
  end_names fs [] stop n = ended_names (is_expected stop.cause) fs stop n
  end_names fs (p ∷ ps) stop n = tt

  end_local : (fs : List PlacedFault) (us : List Placed) → Agree k us (end_at (one k fs us)) (end_at (two k fs us))
  end_local fs [] = inr (inr (end_later fs k.first k.stop k.from.placed k.from.stop))
  end_local fs (p ∷ us) = inl (record { fault = fault p.at cause.Expected; first = refl; second = refl })

  reads_end_of_line : Reads k end_at
  reads_end_of_line = record {
    later = λ s l. end_later s.0 s.1.placed s.1.stop l.placed l.stop;
    local = end_local;
    names = λ s n. end_names s.0 s.1.placed s.1.stop n;
  }

pub reads_told : (k : Two) (policy : Policy) (schemes : Schemes) → Reads k (told_at policy schemes)
unfolding told_at
reads_told k policy schemes =
    let rest : Event × State → Read (Option Event) = λ e. end_at e.1 >>= λ end. Ok (Some e.0, end.1) in
    reads_unless_over k None (λ s. timed_at policy schemes s >>= rest) (reads_then k (reads_timed k policy schemes) rest
    (λ e. reads_then k (reads_end_of_line k) (λ end. Ok (Some e, end.1)) (λ end. reads_done k (Some e))))
