-- What stands there is read: what is looked at, and writes.
use Rattle.std.proofs.Common.{◌≡◌, ℕ, ◌<◌, Bool, List, [], ◌∷◌, ◌++◌, length, Option, Some, Ok, refl, ◌∙◌, codes, append_assoc}
use Rattle.mls_lattice.specs.Policy.{Policy, IsPolicy}
use Rattle.mls_lattice.specs.Reading.{◌>>=◌}
use Rattle.mls_scheme.specs.declared.value.Value.{Value}
use Rattle.mls_scheme.specs.declared.write.Write.TheVariants as writes
use Rattle.mls_scheme.specs.Fits.{HaveKinds}
use Rattle.mls_scheme.specs.Scheme.{Attribute, Schemes, AreSchemes, scheme_of}
use Rattle.mls_scheme.proofs.SchemeNameLemmas.{scheme_is}
use Rattle.mls_tokens.specs.declared.sign.Sign.TheVariants.{Comma}
use Rattle.mls_tokens.specs.declared.token.Token.{Token}
use Rattle.mls_tokens.specs.declared.token.Token.TheVariants.{Word}
use Rattle.mls_tokens.specs.Scanning.{without_places}
use Rattle.mls_tokens.specs.Passing.{is_sign}
use Rattle.mls_tokens.specs.Text.{separated}
use Rattle.mls_tokens.proofs.NextLemmas.{NotNext}
use Rattle.mls_translang.specs.Tokens.{Context}
use Rattle.mls_translang.specs.declared.query.Query.{Query}
use Rattle.mls_translang.specs.Event.{Sets, LookFits, IsWriteUnder}
use Rattle.mls_parser.specs.Noted.{State, word_at, label_behind}
use Rattle.mls_parser.specs.ReadCondition.{written_place}
use Rattle.mls_parser.proofs.ConditionLemmas.{written_names}
use Rattle.mls_parser.proofs.FoundLemmas.{HasNames}
use Rattle.mls_parser.proofs.NextLemmas.{Gets, Same, gets_more, gets_then, gets_done, word_gets}
use Rattle.mls_parser.proofs.StmtAgain.{label_gets as behind_gets, relation_gets}
use Rattle.mls_script.specs.declared.parts.Look.{Look}
use Rattle.mls_script.specs.QueryTokens.{TellsQuery}
use Rattle.mls_script.specs.ReadList.{list_at, sets_at}
use Rattle.mls_script.specs.ReadParts.{Written, look_at, keyed_at, insert_at, update_at, delete_at}
use Rattle.mls_script.specs.ReadQuery.{query_at}
use Rattle.mls_script.specs.Tokens.{label_token, list_tokens, set_tokens, keyed_tokens, look_tokens, write_tokens}
use Rattle.mls_script.proofs.ListAgain.{list_gets, sets_gets}
use Rattle.mls_script.proofs.PartsFound.{looked}
use Rattle.mls_script.proofs.QueryAgain.{EndsQuery, query_gets}

module _ (policy : Policy) (schemes : Schemes) (is_policy : IsPolicy policy) (are_schemes : AreSchemes schemes) where
  abbrev pub place : ℕ → Context
  place relation = written_place policy schemes relation

  pub names : (relation : ℕ) → relation < length schemes → HasNames (place relation)
  names relation within = written_names policy schemes is_policy are_schemes relation within

  keyed_gets : (relation : ℕ) (key : List (Option Value)) (us : List Token) (s : State) → relation < length schemes
      → HaveKinds (scheme_of schemes relation).keys key
      → without_places s.1.placed ≡ keyed_tokens policy schemes relation key ++ us
      → Gets (keyed_at schemes s) s (Same (relation, key)) us
  unfolding keyed_at
  keyed_gets relation key us s within kinds k =
      let keys : ℕ → List Attribute = λ r. (scheme_of schemes r).keys in
      gets_then (λ r. word_at (codes "key") r.1 >>= λ w. list_at (Some (keys r.0)) w.1 >>= λ key. Ok (
        (r.0, key.0),
        key.1,
      ))
      (relation_gets (place relation) (names relation within) relation (Word (codes "key")
      ∷ (list_tokens key ++ us)) s within k)
      (λ m t. gets_more (λ w. list_at (Some (keys relation)) w.1 >>= λ key. Ok ((relation, key.0), key.1))
      (word_gets (codes "key") (list_tokens key ++ us) (s.0, m) t)
      (λ w m2 is t2. gets_then (λ key. Ok ((relation, key.0), key.1)) (list_gets (Some (keys relation)) key us (
        s.0,
        m2,
      ) kinds t2) (λ m3 t3. gets_done (relation, key) s.0 m3 (Same (relation, key)) us refl t3)))

  pub look_gets : (relation label : ℕ) (query : Query) (counts : Bool) (ts us : List Token) (s : State)
      → LookFits policy schemes relation label query counts → TellsQuery policy schemes relation query ts → EndsQuery us
      → without_places s.1.placed ≡ look_tokens policy schemes relation label ++ (ts ++ us)
      → Gets (look_at policy schemes counts s) s (Same (looked relation label query)) us
  unfolding look_at
  look_gets relation label query counts ts us s fits tells ends k =
      let whole : Look = looked relation label query in
      gets_then (λ r. label_behind policy (codes "at") r.1 >>= λ l. query_at policy schemes counts r.0 l.1 >>=
      λ q. Ok (looked r.0 l.0 q.0, q.1))
      (relation_gets (place relation) (names relation fits.0) relation (Word (codes "at")
      ∷ label_token policy schemes label ∷ (ts ++ us)) s fits.0 k)
      (λ m t. gets_then (λ l. query_at policy schemes counts relation l.1 >>= λ q. Ok (looked relation l.0 q.0, q.1))
      (behind_gets (place relation) (names relation fits.0) (codes "at") label (ts ++ us) (s.0, m) fits.1 t)
      (λ m2 t2. gets_then (λ q. Ok (looked relation label q.0, q.1))
      (query_gets policy schemes relation is_policy are_schemes fits.0 counts query ts us (
        s.0,
        m2,
      ) fits.2 tells ends t2)
      (λ m3 t3. gets_done whole s.0 m3 (Same whole) us refl t3)))

  pub insert_gets : (relation : ℕ) (key values : List (Option Value)) (us : List Token) (s : State)
      → IsWriteUnder policy schemes relation (writes.Insert key values)
      → without_places s.1.placed ≡ write_tokens policy schemes relation (writes.Insert key values) ++ us
      → Gets (insert_at schemes s) s (Same (relation, writes.Insert key values)) us
  unfolding insert_at
  insert_gets relation key values us s fits k =
      let whole : Written = (relation, writes.Insert key values) in
      let others : ℕ → List Attribute = λ r. (scheme_of schemes r).others in
      gets_then (λ k. word_at (codes "values") k.1 >>= λ w. list_at (Some (others k.0.0)) w.1 >>=
      λ vs. Ok ((k.0.0, writes.Insert k.0.1 vs.0), vs.1))
      (keyed_gets relation key (Word (codes "values") ∷ (list_tokens values ++ us)) s fits.0 fits.1.0
      (k ∙ append_assoc (keyed_tokens policy schemes relation key) (Word (codes "values") ∷ list_tokens values) us))
      (λ m t. gets_more (λ w. list_at (Some (others relation)) w.1 >>= λ vs. Ok (
        (relation, writes.Insert key vs.0),
        vs.1,
      )) (word_gets (codes "values") (list_tokens values ++ us) (s.0, m) t)
      (λ w m2 is t2. gets_then (λ vs. Ok ((relation, writes.Insert key vs.0), vs.1))
      (list_gets (Some (others relation)) values us (s.0, m2) fits.1.1 t2) (λ m3 t3. gets_done whole s.0 m3
      (Same whole) us refl t3)))

  pub update_gets : (relation : ℕ) (key : List (Option Value)) (class from : ℕ) (sets : Sets) (us : List Token)
      (s : State) → IsWriteUnder policy schemes relation (writes.Update key class from sets)
      → NotNext (is_sign Comma) us
      → without_places s.1.placed ≡ write_tokens policy schemes relation (writes.Update key class from sets) ++ us
      → Gets (update_at policy schemes s) s (Same (relation, writes.Update key class from sets)) us
  unfolding update_at
  update_gets relation key class from sets us s fits off k =
      let whole : Written = (relation, writes.Update key class from sets) in
      let scheme = scheme_of schemes relation in
      let p = place relation in
      let n = names relation fits.0 in
      let new : List Token = Word (codes "set") ∷ separated (set_tokens scheme) sets in
      let behind : List Token = Word (codes "from") ∷ label_token policy schemes from ∷ new in
      let made : ℕ × List (Option Value) → ℕ → ℕ → Sets → Written = λ k class from sets. (
        k.0,
        writes.Update k.1 class from sets,
      ) in
      gets_then (λ k. label_behind policy (codes "class") k.1 >>= λ c. label_behind policy (codes "from") c.1 >>=
      λ f. sets_at (scheme_of schemes k.0.0) f.1 >>= λ xs. Ok (made k.0 c.0 f.0 xs.0, xs.1))
      (keyed_gets relation key (Word (codes "class") ∷ label_token policy schemes class
      ∷ (behind ++ us)) s fits.0 fits.1.0 (k ∙ append_assoc (keyed_tokens policy schemes relation key)
      (Word (codes "class") ∷ label_token policy schemes class ∷ behind) us))
      (λ m t. gets_then (λ c. label_behind policy (codes "from") c.1 >>= λ f. sets_at scheme f.1 >>=
      λ xs. Ok (made (relation, key) c.0 f.0 xs.0, xs.1)) (behind_gets p n (codes "class") class (behind ++ us)
      (s.0, m) fits.1.1 t)
      (λ m2 t2. gets_then (λ f. sets_at scheme f.1 >>= λ xs. Ok (made (relation, key) class f.0 xs.0, xs.1))
      (behind_gets p n (codes "from") from (new ++ us) (s.0, m2) fits.1.2 t2)
      (λ m3 t3. gets_then (λ xs. Ok (made (relation, key) class from xs.0, xs.1))
      (sets_gets scheme (scheme_is schemes are_schemes relation fits.0) sets us (s.0, m3) fits.1.3 off t3)
      (λ m4 t4. gets_done whole s.0 m4 (Same whole) us refl t4))))

  pub delete_gets : (relation : ℕ) (key : List (Option Value)) (class : ℕ) (us : List Token) (s : State)
      → IsWriteUnder policy schemes relation (writes.Delete key class)
      → without_places s.1.placed ≡ write_tokens policy schemes relation (writes.Delete key class) ++ us
      → Gets (delete_at policy schemes s) s (Same (relation, writes.Delete key class)) us
  unfolding delete_at
  delete_gets relation key class us s fits k =
      let whole : Written = (relation, writes.Delete key class) in
      gets_then (λ k. label_behind policy (codes "class") k.1 >>= λ c. Ok ((k.0.0, writes.Delete k.0.1 c.0), c.1))
      (keyed_gets relation key (Word (codes "class") ∷ label_token policy schemes class ∷ us) s fits.0 fits.1.0
      (k ∙ append_assoc (keyed_tokens policy schemes relation key) (Word (codes "class")
      ∷ label_token policy schemes class ∷ []) us))
      (λ m t. gets_then (λ c. Ok ((relation, writes.Delete key c.0), c.1)) (behind_gets (place relation)
      (names relation fits.0) (codes "class") class us (s.0, m) fits.1.1 t)
      (λ m2 t2. gets_done whole s.0 m2 (Same whole) us refl t2))
