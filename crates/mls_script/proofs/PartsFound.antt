-- What is read is what stands there: what is looked at, and writes.
use Rattle.std.proofs.Common.{◌≡◌, ℕ, ◌<◌, Bool, List, ◌∷◌, ◌++◌, length, Option, Some, Ok, refl, sym, ap, ◌∙◌, subst, codes}
use Rattle.mls_lattice.specs.Policy.{Policy}
use Rattle.mls_lattice.specs.Reading.{◌>>=◌}
use Rattle.mls_scheme.specs.declared.value.Value.{Value}
use Rattle.mls_scheme.specs.declared.write.Write.TheVariants.{Insert, Update, Delete}
use Rattle.mls_scheme.specs.Fits.{HaveKinds}
use Rattle.mls_scheme.specs.Scheme.{Schemes, Scheme, scheme_of}
use Rattle.mls_tokens.specs.declared.token.Token.{Token}
use Rattle.mls_tokens.specs.declared.token.Token.TheVariants.{Word}
use Rattle.mls_translang.specs.Tokens.{Context}
use Rattle.mls_translang.specs.declared.query.Query.{Query}
use Rattle.mls_translang.specs.declared.event.Command.TheVariants as commands
use Rattle.mls_translang.specs.declared.event.One.TheVariants as ones
use Rattle.mls_translang.specs.Event.{Sets, LookFits, IsWriteUnder}
use Rattle.mls_parser.specs.Noted.{State, word_at, label_behind, relation_at}
use Rattle.mls_parser.specs.ReadCondition.{written_place}
use Rattle.mls_parser.proofs.FoundSteps.{Found, found_next, found_made, word_read}
use Rattle.mls_parser.proofs.StmtFound.{IsLabelled as IsBehindWord, label_read as behind_word, relation_read}
use Rattle.mls_script.specs.declared.grammar.Verb.{Verb}
use Rattle.mls_script.specs.declared.grammar.Verb.TheVariants as verb
use Rattle.mls_script.specs.declared.grammar.OneVerb.{OneVerb}
use Rattle.mls_script.specs.declared.grammar.OneVerb.TheVariants as of_one
use Rattle.mls_script.specs.declared.parts.Look.{Look}
use Rattle.mls_script.specs.Grammar.{verb_of, verb_of_one}
use Rattle.mls_script.specs.QueryTokens.{TellsQuery}
use Rattle.mls_script.specs.ReadList.{list_at, sets_at}
use Rattle.mls_script.specs.ReadParts.{Written, look_at, keyed_at, insert_at, update_at, delete_at}
use Rattle.mls_script.specs.ReadQuery.{query_at}
use Rattle.mls_script.specs.Tokens.{label_token, relation_token, list_tokens, keyed_tokens, look_tokens, write_tokens}
use Rattle.mls_script.proofs.ListFound.{list_read, IsList, sets_read, AreNew}
use Rattle.mls_script.proofs.QueryFound.{IsQuery, query_read}

-- ---- what is made of the parts

abbrev pub looked : ℕ → ℕ → Query → Look
looked relation label query = record { relation = relation; label = label; query = query }

abbrev pub made_insert : ℕ × List (Option Value) → List (Option Value) → Written
made_insert k values = (k.0, Insert k.1 values)

abbrev pub made_update : ℕ × List (Option Value) → ℕ → ℕ → Sets → Written
made_update k class from sets = (k.0, Update k.1 class from sets)

abbrev pub made_delete : ℕ × List (Option Value) → ℕ → Written
made_delete k class = (k.0, Delete k.1 class)

module _ (policy : Policy) (schemes : Schemes) where
  abbrev place : Context
  place = written_place policy schemes 0

  -- ---- what is looked at

  pub record IsLooked (counts : Bool) (ts : List Token) (l : Look) : Type 0 where
    pub tail : List Token
    pub tokens : ts ≡ look_tokens policy schemes l.relation l.label ++ tail
    pub tells : TellsQuery policy schemes l.relation l.query tail
    pub fits : LookFits policy schemes l.relation l.label l.query counts

  record IsAt (counts : Bool) (relation : ℕ) (ts : List Token) (l : Look) : Type 0 where
    label : ℕ
    query : Query
    tail : List Token
    is : l ≡ looked relation label query
    tokens : ts ≡ Word (codes "at") ∷ label_token policy schemes label ∷ tail
    within : label < length policy.labels
    asks : IsQuery policy schemes relation counts tail query

  pub look_read : (counts : Bool) (s : State) (x : Look × State) → look_at policy schemes counts s ≡ Ok x
      → Found (IsLooked counts) s x
  unfolding look_at
  look_read counts s =
      found_next (IsLooked counts) (IsAt counts) s (relation_at schemes s) (λ r. label_behind policy
      (codes "at") r.1 >>= λ l. query_at policy schemes counts r.0 l.1 >>= λ q. Ok (looked r.0 l.0 q.0, q.1))
      (relation_read place s)
      (λ r. found_next (IsAt counts r.0) (λ l ts c. (q : Query) × (c ≡ looked r.0 l q)
      × IsQuery policy schemes r.0 counts ts q) r.1 (label_behind policy (codes "at") r.1)
      (λ l. query_at policy schemes counts r.0 l.1 >>= λ q. Ok (looked r.0 l.0 q.0, q.1))
      (behind_word place (codes "at") r.1)
      (λ l. found_made (λ ts c. (q : Query) × (c ≡ looked r.0 l.0 q) × IsQuery policy schemes r.0 counts ts q) l.1
      (query_at policy schemes counts r.0 l.1) (λ q. looked r.0 l.0 q) (query_read policy schemes r.0 counts l.1)
      (λ q ts h. (q, refl, h)))
      (λ l c ts us at h. record {
        label = l;
        query = h.0;
        tail = us;
        is = h.1;
        tokens = λ i. at.tokens i ++ us;
        within =
            at.within;
        asks = h.2;
      }))
      (λ r c ts us related h. subst (IsLooked counts (ts ++ us)) (sym h.is) (record {
        tail = h.tail;
        tokens = λ i. related.tokens i ++ h.tokens i;
        tells = h.asks.tells;
        fits = (related.within, h.within, h.asks.fits);
      }))

  -- ---- writes

  pub record IsKeyed (ts : List Token) (k : ℕ × List (Option Value)) : Type 0 where
    pub tokens : ts ≡ keyed_tokens policy schemes k.0 k.1
    pub within : k.0 < length schemes
    pub kinds : HaveKinds (scheme_of schemes k.0).keys k.1

  keyed_read : (s : State) (x : (ℕ × List (Option Value)) × State) → keyed_at schemes s ≡ Ok x → Found IsKeyed s x
  unfolding keyed_at
  keyed_read s =
      let keys : ℕ → _ = λ r. (scheme_of schemes r).keys in
      found_next IsKeyed (λ r ts k. (k.0 ≡ r) × (ts ≡ Word (codes "key") ∷ list_tokens k.1) × HaveKinds (keys r) k.1) s
      (relation_at schemes s)
      (λ r. word_at (codes "key") r.1 >>= λ w. list_at (Some (keys r.0)) w.1 >>= λ key. Ok ((r.0, key.0), key.1))
      (relation_read place s)
      (λ r. found_next (λ ts k. (k.0 ≡ r.0) × (ts ≡ Word (codes "key") ∷ list_tokens k.1) × HaveKinds (keys r.0) k.1)
      (λ at ts k. (k.0 ≡ r.0) × IsList (Some (keys r.0)) ts k.1) r.1 (word_at (codes "key") r.1)
      (λ w. list_at (Some (keys r.0)) w.1 >>= λ key. Ok ((r.0, key.0), key.1)) (word_read (codes "key") r.1)
      (λ w. found_made (λ ts k. (k.0 ≡ r.0) × IsList (Some (keys r.0)) ts k.1) w.1 (list_at (Some (keys r.0)) w.1)
      (λ key. (r.0, key)) (list_read (Some (keys r.0)) w.1) (λ key ts h. (refl, h)))
      (λ at k ts us word h. (h.0, (λ i. word i ++ h.1.tokens i), h.1.fits)))
      (λ r k ts us related h. record {
        tokens = (λ i. related.tokens i ++ h.1 i) ∙ ap (λ n. relation_token policy schemes n ∷ Word (codes "key")
            ∷ list_tokens k.1) (sym h.0);
        within = subst (λ n. n < length schemes) (sym h.0) related.within;
        kinds = subst (λ n. HaveKinds (keys n) k.1) (sym h.0) h.2;
      })

  -- a write that stands behind a verb
  pub record IsWritten (v : Verb) (o : OneVerb) (ts : List Token) (w : Written) : Type 0 where
    pub verb : verb_of (commands.Write w.0 w.1) ≡ v
    pub one : verb_of_one (ones.Write w.0 w.1) ≡ o
    pub tokens : ts ≡ write_tokens policy schemes w.0 w.1
    pub fits : IsWriteUnder policy schemes w.0 w.1

  record IsInserted (k : ℕ × List (Option Value)) (ts : List Token) (c : Written) : Type 0 where
    values : List (Option Value)
    is : c ≡ made_insert k values
    tokens : ts ≡ Word (codes "values") ∷ list_tokens values
    kinds : HaveKinds (scheme_of schemes k.0).others values

  pub insert_read : (s : State) (x : Written × State) → insert_at schemes s ≡ Ok x
      → Found (IsWritten verb.Insert of_one.Insert) s x
  unfolding insert_at
  insert_read s =
      let others : ℕ → _ = λ r. (scheme_of schemes r).others in
      found_next (IsWritten verb.Insert of_one.Insert) IsInserted s (keyed_at schemes s)
      (λ k. word_at (codes "values") k.1 >>= λ w. list_at (Some (others k.0.0)) w.1 >>=
      λ vs. Ok (made_insert k.0 vs.0, vs.1)) (keyed_read s)
      (λ k. found_next (IsInserted k.0) (λ at ts c. (vs : List (Option Value)) × (c ≡ made_insert k.0 vs)
      × IsList (Some (others k.0.0)) ts vs) k.1 (word_at (codes "values") k.1)
      (λ w. list_at (Some (others k.0.0)) w.1 >>= λ vs. Ok (made_insert k.0 vs.0, vs.1))
      (word_read (codes "values") k.1)
      (λ w. found_made (λ ts c. (vs : List (Option Value)) × (c ≡ made_insert k.0 vs)
      × IsList (Some (others k.0.0)) ts vs) w.1 (list_at (Some (others k.0.0)) w.1) (λ vs. made_insert k.0 vs)
      (list_read (Some (others k.0.0)) w.1) (λ vs ts h. (vs, refl, h)))
      (λ at c ts us word h. record { values = h.0; is = h.1; tokens = λ i. word i ++ h.2.tokens i; kinds = h.2.fits }))
      (λ k c ts us keyed h. subst (IsWritten verb.Insert of_one.Insert (ts ++ us)) (sym h.is)
      (record {
        verb = refl;
        one = refl;
        tokens = λ i. keyed.tokens i ++ h.tokens i;
        fits =
            (keyed.within, (keyed.kinds, h.kinds));
      }))

  record IsUpdated (k : ℕ × List (Option Value)) (ts : List Token) (c : Written) : Type 0 where
    class : ℕ
    from : ℕ
    sets : Sets
    us : List Token
    is : c ≡ made_update k class from sets
    tokens : ts ≡ Word (codes "class") ∷ label_token policy schemes class ∷ Word (codes "from")
        ∷ label_token policy schemes from ∷ us
    class_within : class < length policy.labels
    from_within : from < length policy.labels
    new : AreNew (scheme_of schemes k.0) us sets

  abbrev IsFrom : ℕ × List (Option Value) → ℕ → ℕ → List Token → Written → Type 0
  IsFrom k class from ts c = (sets : Sets) × (c ≡ made_update k class from sets)
      × AreNew (scheme_of schemes k.0) ts sets

  abbrev IsBehindClass : ℕ × List (Option Value) → ℕ → List Token → Written → Type 0
  IsBehindClass k class ts c = (from : ℕ) × (us : List Token)
      × (ts ≡ Word (codes "from") ∷ label_token policy schemes from ∷ us) × (from < length policy.labels)
      × IsFrom k class from us c

  pub update_read : (s : State) (x : Written × State) → update_at policy schemes s ≡ Ok x
      → Found (IsWritten verb.Update of_one.Update) s x
  unfolding update_at
  update_read s =
      let of : ℕ × List (Option Value) → Scheme = λ k. scheme_of schemes k.0 in
      found_next (IsWritten verb.Update of_one.Update) IsUpdated s (keyed_at schemes s)
      (λ k. label_behind policy (codes "class") k.1 >>= λ class. label_behind policy (codes "from") class.1 >>=
      λ from. sets_at (of k.0) from.1 >>= λ sets. Ok (made_update k.0 class.0 from.0 sets.0, sets.1)) (keyed_read s)
      (λ k. found_next (IsUpdated k.0) (IsBehindClass k.0) k.1 (label_behind policy (codes "class") k.1)
      (λ class. label_behind policy (codes "from") class.1 >>= λ from. sets_at (of k.0) from.1 >>=
      λ sets. Ok (made_update k.0 class.0 from.0 sets.0, sets.1)) (behind_word place (codes "class") k.1)
      (λ class. found_next (IsBehindClass k.0 class.0) (IsFrom k.0 class.0) class.1
      (label_behind policy (codes "from") class.1)
      (λ from. sets_at (of k.0) from.1 >>= λ sets. Ok (made_update k.0 class.0 from.0 sets.0, sets.1))
      (behind_word place (codes "from") class.1)
      (λ from. found_made (IsFrom k.0 class.0 from.0) from.1 (sets_at (of k.0) from.1) (made_update k.0 class.0 from.0)
      (sets_read (of k.0) from.1) (λ sets ts h. (sets, refl, h)))
      (λ from c ts us labelled h. (from, us, (λ i. labelled.tokens i ++ us), labelled.within, h)))
      (λ class c ts us labelled (from, vs, tokens, within, (sets, is, new)).
      record {
        class = class;
        from = from;
        sets = sets;
        us = vs;
        is = is;
        tokens = λ i. labelled.tokens i ++ tokens i;
        class_within = labelled.within;
        from_within = within;
        new = new;
      }))
      (λ k c ts us keyed h. subst (IsWritten verb.Update of_one.Update (ts ++ us)) (sym h.is)
      (record {
        verb = refl;
        one = refl;
        tokens = λ i. keyed.tokens i ++ (h.tokens ∙ (λ j. Word (codes "class") ∷ label_token policy schemes h.class
            ∷ Word (codes "from") ∷ label_token policy schemes h.from ∷ h.new.tokens j)) i;
        fits = (keyed.within, (keyed.kinds, h.class_within, h.from_within, h.new.fits));
      }))

  abbrev IsDeleted : ℕ × List (Option Value) → List Token → Written → Type 0
  IsDeleted k ts c = (class : ℕ) × (c ≡ made_delete k class) × IsBehindWord place (codes "class") ts class

  pub delete_read : (s : State) (x : Written × State) → delete_at policy schemes s ≡ Ok x
      → Found (IsWritten verb.Delete of_one.Delete) s x
  unfolding delete_at
  delete_read s =
      found_next (IsWritten verb.Delete of_one.Delete) IsDeleted s (keyed_at schemes s) (λ k. label_behind policy
      (codes "class") k.1 >>= λ class. Ok (made_delete k.0 class.0, class.1)) (keyed_read s)
      (λ k. found_made (IsDeleted k.0) k.1 (label_behind policy (codes "class") k.1) (made_delete k.0)
      (behind_word place (codes "class") k.1) (λ class ts h. (class, refl, h)))
      (λ k c ts us keyed h. subst (IsWritten verb.Delete of_one.Delete (ts ++ us)) (sym h.1)
      (record {
        verb = refl;
        one = refl;
        tokens = λ i. keyed.tokens i ++ h.2.tokens i;
        fits =
            (keyed.within, (keyed.kinds, h.2.within));
      }))
