-- What stands there is read: statements with no statement inside.
use Rattle.std.proofs.Common.{◌≡◌, ℕ, ◌<◌, true, List, [], ◌∷◌, ◌++◌, length, Option, Some, None, Ok, refl, ap, ◌∙◌, append_assoc, codes, IfSome}
use Rattle.mls_lattice.specs.Canon.{label_name}
use Rattle.mls_lattice.specs.Labels.{below}
use Rattle.mls_lattice.specs.Policy.{Name, labels_of}
use Rattle.mls_lattice.specs.Reading.{◌>>=◌}
use Rattle.mls_lattice.proofs.NamedLemmas.{label_is_name}
use Rattle.mls_scheme.specs.declared.value.Kind.{Kind}
use Rattle.mls_scheme.specs.declared.value.Kind.TheVariants as kinds
use Rattle.mls_scheme.specs.Scheme.{Scheme, scheme_of}
use Rattle.mls_scheme.proofs.SchemeNameLemmas.{scheme_is}
use Rattle.mls_tokens.specs.declared.token.Token.{Token}
use Rattle.mls_tokens.specs.declared.token.Token.TheVariants.{Word, Sign}
use Rattle.mls_tokens.specs.declared.sign.Sign.TheVariants as sign
use Rattle.mls_tokens.specs.Passing.{is_sign, PlacedName}
use Rattle.mls_tokens.specs.Scanning.{without_places}
use Rattle.mls_tokens.specs.Text.{separated}
use Rattle.mls_tokens.proofs.NextLemmas.{NotNext}
use Rattle.mls_translang.specs.declared.block.Stmt.{Stmt as Form}
use Rattle.mls_translang.specs.declared.block.Stmt.TheVariants as forms
use Rattle.mls_translang.specs.Fits.{IsLabel, ExprFits}
use Rattle.mls_translang.specs.Kinds.{Of, HasKind, Assigns}
use Rattle.mls_translang.specs.Scope.{kind_of_var}
use Rattle.mls_translang.specs.Tokens.{Context, name_at as name_of, label_token, rel_token, var_token, expr_tokens, list_tokens, set_tokens, class_tokens, update_end, write_end, stmt_end}
use Rattle.mls_translang.specs.Tree.{Expr, Insert, Update, Delete}
use Rattle.mls_translang.specs.Tx.{IsOwn}
use Rattle.mls_parser.specs.declared.fault.PlacedFault.{PlacedFault}
use Rattle.mls_parser.specs.declared.fault.TextCause.TheVariants as cause
use Rattle.mls_parser.specs.declared.given.Given.{Given}
use Rattle.mls_parser.specs.declared.inferred.Inferred.{Inferred}
use Rattle.mls_parser.specs.declared.inferred.Inferred.TheVariants as inferred
use Rattle.mls_parser.specs.Fault.{unless}
use Rattle.mls_parser.specs.Infer.{may_be, may_be_value}
use Rattle.mls_parser.specs.Names.{label_named, relation_named, variable_named, numbered}
use Rattle.mls_parser.specs.Noted.{State, Read, note, takes_word, sign_at, word_at, name_at, name_behind, known, label_behind, relation_at}
use Rattle.mls_parser.specs.ReadExpr.{whole_at}
use Rattle.mls_parser.specs.ReadList.{tested, list_at, sets_at}
use Rattle.mls_parser.specs.ReadBlock.{label, variable, fits_variable, target_faults, targeted, lower_behind, outcome_of, outcome_at, written_at, keyed_at, value_at, assign_at, insert_at, classes_at, changes_at, update_at, delete_at, release_at, emit_at}
use Rattle.mls_parser.proofs.ExprAgain.{IsAgain, whole_again}
use Rattle.mls_parser.proofs.FoundLemmas.{HasNames, label_again, relation_again, variable_again, variable_is_name}
use Rattle.mls_parser.proofs.ListAgain.{NoDot, AreListed, AreSet, list_again, sets_again}
use Rattle.mls_parser.proofs.NextLemmas.{Gets, Same, gets_more, gets_then, placed_then, gets_done, gets_noted, gets_is, sign_gets, word_gets, name_gets, behind_gets, took_word, after_took, no_word, none, none_two, none_known}

-- a variable that may have a number, if there is one
abbrev pub HasOutcome : Context → Option ℕ → Type 0
HasOutcome p o = IfSome o (λ x. x < length p.scope.vars) × IfSome o (λ x. kind_of_var p.scope x ≡ Some kinds.Int)

-- behind the first word of a write
abbrev pub keyed : Context → ℕ → List Expr → List Token
keyed p relation key = rel_token p relation ∷ Word (codes "key") ∷ list_tokens p key

module _ (p : Context) (n : HasNames p) where
  -- ---- names

  pub label_gets : (w : Name) (i : ℕ) (us : List Token) (s : State) → IsLabel p.policy i → without_places s.1.placed
      ≡ Word w ∷ label_token p i ∷ us → Gets (label_behind p.policy w s) s (Same i) us
  unfolding label_behind
  label_gets w i us s h k =
      let found = label_again p.policy n.policy i h in
      placed_then (λ x. Ok (label p x.0, note (known (label_named p.policy x.0.0) x.0.1) x.1))
      (behind_gets w (label_name p.policy.labels i) us s (label_is_name p.policy n.policy i h) k)
      (λ at m t. gets_noted (label p (label_name p.policy.labels i, at))
      (known (label_named p.policy (label_name p.policy.labels i)) at) s.0 m (Same i) us (none_known i at found)
      (ap numbered found) t)

  -- a label that the ceiling dominates
  lower_gets : (w : Name) (i : ℕ) (us : List Token) (s : State) → IsLabel p.policy i → below (labels_of p.policy) i p.hi
      ≡ true → without_places s.1.placed ≡ Word w ∷ label_token p i ∷ us → Gets (lower_behind p w s) s (Same i) us
  unfolding lower_behind
  lower_gets w i us s h under k =
      let name = label_name p.policy.labels i in
      let found = label_again p.policy n.policy i h in
      let faults : PlacedName → List PlacedFault = λ x. known (label_named p.policy x.0) x.1
      ++ unless (below (labels_of p.policy) (label p x) p.hi) x.1 cause.LabelOrder in
      placed_then (λ x. Ok (label p x.0, note (faults x.0) x.1))
      (behind_gets w name us s (label_is_name p.policy n.policy i h) k)
      (λ at m t. gets_noted (label p (name, at)) (faults (name, at)) s.0 m (Same i) us
      (none_two (none_known i at found) (none at cause.LabelOrder
      (ap (λ j. below (labels_of p.policy) (numbered j) p.hi) found ∙ under))) (ap numbered found) t)

  pub relation_gets : (i : ℕ) (us : List Token) (s : State) → i < length p.schemes → without_places s.1.placed
      ≡ rel_token p i ∷ us → Gets (relation_at p.schemes s) s (Same i) us
  unfolding relation_at
  relation_gets i us s h k =
      let name = (scheme_of p.schemes i).name in
      let found = relation_again p.schemes n.schemes i h in
      placed_then (λ x. Ok (
        numbered (relation_named p.schemes x.0.0),
        note (known (relation_named p.schemes x.0.0) x.0.1) x.1,
      ))
      (name_gets name us s (scheme_is p.schemes n.schemes i h).named k)
      (λ at m t. gets_noted (numbered (relation_named p.schemes name)) (known (relation_named p.schemes name) at) s.0 m
      (Same i) us (none_known i at found) (ap numbered found) t)

  -- a variable may have what is given of its kind
  target_none : (x at : ℕ) (gives : Inferred) (k : Kind) → x < length p.scope.vars → kind_of_var p.scope x ≡ Some k
      → may_be gives k ≡ true
      → target_faults p (name_of p.scope.vars x, at) (variable_named p (name_of p.scope.vars x)) gives ≡ []
  target_none x at gives k within is fits =
      ap (λ o. target_faults p (name_of p.scope.vars x, at) o gives) (variable_again p n x within) ∙ none at cause.Kind
      (ap (λ o. fits_variable o gives) is ∙ fits)

  -- ---- parts of writes

  as_gets : (o : Option ℕ) (us : List Token) (s : State) → HasOutcome p o → without_places s.1.placed ≡ stmt_end p o
      ++ us
      → Gets (outcome_of p s (takes_word (codes "as") s)) s (Same o) (Sign sign.Semicolon ∷ us)
  as_gets None us s h k =
      let end : List Token = Sign sign.Semicolon ∷ us in
      gets_is (outcome_of p s (takes_word (codes "as") s)) (Ok (None, s)) s (Same None) end
      (ap (outcome_of p s) (no_word (codes "as") end s refl k)) (gets_done None s.0 s.1 (Same None) end refl k)
  as_gets (Some x) us s h k =
      let end : List Token = Sign sign.Semicolon ∷ us in
      let name = name_of p.scope.vars x in
      let word = took_word (codes "as") (var_token p x ∷ end) s k in
      let finish : PlacedName × State → Read (Option ℕ) = λ a. Ok (
        Some (variable p a.0),
        targeted p a.0 (inferred.Value kinds.Int) a.1,
      ) in
      gets_is (outcome_of p s (takes_word (codes "as") s)) (name_at (s.0, word.rest) >>= finish) s (Same (Some x)) end
      (ap (outcome_of p s) word.is)
      (after_took word (placed_then finish (name_gets name end (s.0, word.rest)
      (variable_is_name p n x h.0) word.tokens)
      (λ at m t. gets_noted (Some (variable p (name, at))) (target_faults p (name, at) (variable_named p name)
      (inferred.Value kinds.Int)) s.0 m (Same (Some x)) end
      (target_none x at (inferred.Value kinds.Int) kinds.Int h.0 h.1 refl) (ap (λ j. Some (numbered j))
      (variable_again p n x h.0)) t)))

  outcome_gets : (o : Option ℕ) (us : List Token) (s : State) → HasOutcome p o → without_places s.1.placed
      ≡ stmt_end p o ++ us
      → Gets (outcome_at p s) s (Same o) us
  unfolding outcome_at
  outcome_gets o us s h k =
      gets_then (λ a. sign_at sign.Semicolon a.1 >>= λ end. Ok (a.0, end.1)) (as_gets o us s h k)
      (λ m t. gets_more (λ end. Ok (o, end.1)) (sign_gets sign.Semicolon us (s.0, m) t)
      (λ end r is t2. gets_done o s.0 r (Same o) us refl t2))

  written_gets : (w : ℕ) (o : Option ℕ) (us : List Token) (s : State) → IsLabel p.policy w → HasOutcome p o
      → without_places s.1.placed ≡ write_end p w (stmt_end p o) ++ us → Gets (written_at p s) s (Same (w, o)) us
  unfolding written_at
  written_gets w o us s hw h k =
      gets_then (λ l. outcome_at p l.1 >>= λ x. Ok ((l.0, x.0), x.1)) (label_gets (codes "at") w (stmt_end p o
      ++ us) s hw k)
      (λ m t. gets_then (λ x. Ok ((w, x.0), x.1)) (outcome_gets o us (s.0, m) h t) (λ r t2. gets_done (w, o) s.0 r
      (Same (w, o)) us refl t2))

  abbrev scheme : ℕ → Scheme
  scheme relation = scheme_of p.schemes relation

  keyed_gets : (relation : ℕ) (key : List Expr) (us : List Token) (s : State) → relation < length p.schemes
      → AreListed p (scheme relation).keys key → without_places s.1.placed ≡ keyed p relation key ++ us
      → Gets (keyed_at p s) s (Same (relation, key)) us
  unfolding keyed_at
  keyed_gets relation key us s h listed k =
      gets_then (λ r. word_at (codes "key") r.1 >>= λ w. list_at p (scheme r.0).keys w.1 >>= λ es. Ok (
        (r.0, es.0),
        es.1,
      )) (relation_gets relation (Word (codes "key") ∷ (list_tokens p key ++ us)) s h k)
      (λ m t. gets_more (λ w. list_at p (scheme relation).keys w.1 >>= λ es. Ok ((relation, es.0), es.1))
      (word_gets (codes "key") (list_tokens p key ++ us) (s.0, m) t)
      (λ w m2 is t2. gets_then (λ es. Ok ((relation, es.0), es.1)) (list_again p n (scheme relation).keys key us (
        s.0,
        m2,
      ) listed t2) (λ m3 t3. gets_done (relation, key) s.0 m3 (Same (relation, key)) us refl t3)))

  -- ---- writes

  pub insert_gets : (relation w : ℕ) (key values : List Expr) (o : Option ℕ) (us : List Token) (s : State)
      → relation < length p.schemes → IsLabel p.policy w
      → AreListed p (scheme relation).keys key → AreListed p (scheme relation).others values → HasOutcome p o
      → without_places s.1.placed ≡ (keyed p relation key ++ (Word (codes "values")
      ∷ (list_tokens p values ++ write_end p w (stmt_end p o)))) ++ us
      → Gets (insert_at p s) s (Same (forms.Write relation w (Insert key values) o)) us
  unfolding insert_at
  insert_gets relation w key values o us s hr hw hk hv h k =
      let form : Form = forms.Write relation w (Insert key values) o in
      let last : List Token = write_end p w (stmt_end p o) in
      gets_then (λ x. word_at (codes "values") x.1 >>= λ v. list_at p (scheme x.0.0).others v.1 >>=
      λ es. written_at p es.1 >>= λ z. Ok (forms.Write x.0.0 z.0.0 (Insert x.0.1 es.0) z.0.1, z.1))
      (keyed_gets relation key (Word (codes "values") ∷ (list_tokens p values ++ (last ++ us))) s hr hk
      (k ∙ append_assoc (keyed p relation key) (Word (codes "values") ∷ (list_tokens p values ++ last)) us
      ∙ ap (λ z. keyed p relation key ++ (Word (codes "values") ∷ z))
      (append_assoc (list_tokens p values) last us)))
      (λ m t. gets_more (λ v. list_at p (scheme relation).others v.1 >>= λ es. written_at p es.1 >>=
      λ z. Ok (forms.Write relation z.0.0 (Insert key es.0) z.0.1, z.1)) (word_gets (codes "values")
      (list_tokens p values ++ (last ++ us)) (s.0, m) t)
      (λ v m2 is t2. gets_then (λ es. written_at p es.1 >>= λ z. Ok (
        forms.Write relation z.0.0 (Insert key es.0) z.0.1,
        z.1,
      )) (list_again p n (scheme relation).others values (last ++ us) (s.0, m2) hv t2)
      (λ m3 t3. gets_then (λ z. Ok (forms.Write relation z.0.0 (Insert key values) z.0.1, z.1))
      (written_gets w o us (s.0, m3) hw h t3) (λ m4 t4. gets_done form s.0 m4 (Same form) us refl t4))))

  classes_gets : (c f w : ℕ) (us : List Token) (s : State) → IsLabel p.policy c → IsLabel p.policy f
      → IsLabel p.policy w → without_places s.1.placed ≡ class_tokens p c f w ++ us
      → Gets (classes_at p s) s (Same (c, f, w)) us
  unfolding classes_at
  classes_gets c f w us s hc hf hw k =
      let written : List Token = Word (codes "at") ∷ label_token p w ∷ us in
      gets_then (λ x. label_behind p.policy (codes "from") x.1 >>= λ y. label_behind p.policy (codes "at") y.1 >>=
      λ z. Ok ((x.0, y.0, z.0), z.1)) (label_gets (codes "class") c (Word (codes "from") ∷ label_token p f
      ∷ written) s hc k)
      (λ m t. gets_then (λ y. label_behind p.policy (codes "at") y.1 >>= λ z. Ok ((c, y.0, z.0), z.1))
      (label_gets (codes "from") f written (s.0, m) hf t)
      (λ m2 t2. gets_then (λ z. Ok ((c, f, z.0), z.1)) (label_gets (codes "at") w us (s.0, m2) hw t2)
      (λ m3 t3. gets_done (c, f, w) s.0 m3 (Same (c, f, w)) us refl t3)))

  no_dot : (o : Option ℕ) (us : List Token) → NoDot (stmt_end p o ++ us)
  no_dot None us = refl
  no_dot (Some x) us = refl

  no_comma : (o : Option ℕ) (us : List Token) → NotNext (is_sign sign.Comma) (stmt_end p o ++ us)
  no_comma None us = refl
  no_comma (Some x) us = refl

  changes_gets : (relation : ℕ) (x : ℕ × Expr) (xs : List (ℕ × Expr)) (o : Option ℕ) (us : List Token) (s : State)
      → relation < length p.schemes → AreSet p (scheme relation) (x ∷ xs) → HasOutcome p o
      → without_places s.1.placed ≡ update_end p relation (x ∷ xs) o ++ us
      → Gets (changes_at p (scheme relation) s) s (Same (x ∷ xs, o)) us
  unfolding changes_at
  changes_gets relation x xs o us s hr hs h k =
      let end : List Token = stmt_end p o ++ us in
      let sets : List Token = separated (set_tokens p (scheme relation)) (x ∷ xs) in
      let same : (sets ++ stmt_end p o) ++ us ≡ sets ++ end = append_assoc sets (stmt_end p o) us in
      gets_more (λ w. sets_at p (scheme relation) w.1 >>= λ q. outcome_at p q.1 >>= λ z. Ok ((q.0, z.0), z.1))
      (word_gets (codes "set") (sets ++ end) s (k ∙ ap (λ z. Word (codes "set") ∷ z) same))
      (λ w m is t. gets_then (λ q. outcome_at p q.1 >>= λ z. Ok ((q.0, z.0), z.1)) (sets_again p n (scheme relation)
      (scheme_is p.schemes n.schemes relation hr) x xs end (s.0, m) hs (no_dot o us) (no_comma o us) t)
      (λ m2 t2. gets_then (λ z. Ok ((x ∷ xs, z.0), z.1)) (outcome_gets o us (s.0, m2) h t2) (λ m3 t3. gets_done (
        x ∷ xs,
        o,
      ) s.0 m3 (Same (x ∷ xs, o)) us refl t3)))

  pub update_gets : (relation w c f : ℕ) (key : List Expr) (x : ℕ × Expr) (xs : List (ℕ × Expr)) (o : Option ℕ)
      (us : List Token) (s : State) → relation < length p.schemes → IsLabel p.policy w → IsLabel p.policy c
      → IsLabel p.policy f
      → AreListed p (scheme relation).keys key → AreSet p (scheme relation) (x ∷ xs) → HasOutcome p o
      → without_places s.1.placed ≡ (keyed p relation key ++ (class_tokens p c f w ++ update_end p relation (x ∷ xs) o))
      ++ us → Gets (update_at p s) s (Same (forms.Write relation w (Update key c f (x ∷ xs)) o)) us
  unfolding update_at
  update_gets relation w c f key x xs o us s hr hw hc hf hk hs h k =
      let form : Form = forms.Write relation w (Update key c f (x ∷ xs)) o in
      let end : List Token = update_end p relation (x ∷ xs) o in
      gets_then (λ y. classes_at p y.1 >>= λ z. changes_at p (scheme y.0.0) z.1 >>=
      λ q. Ok (forms.Write y.0.0 z.0.2 (Update y.0.1 z.0.0 z.0.1 q.0.0) q.0.1, q.1))
      (keyed_gets relation key (class_tokens p c f w ++ (end ++ us)) s hr hk (k ∙ append_assoc (keyed p relation key)
      (class_tokens p c f w ++ end) us))
      (λ m t. gets_then (λ z. changes_at p (scheme relation) z.1 >>=
      λ q. Ok (forms.Write relation z.0.2 (Update key z.0.0 z.0.1 q.0.0) q.0.1, q.1))
      (classes_gets c f w (end ++ us) (s.0, m) hc hf hw t)
      (λ m2 t2. gets_then (λ q. Ok (forms.Write relation w (Update key c f q.0.0) q.0.1, q.1))
      (changes_gets relation x xs o us (s.0, m2) hr hs h t2) (λ m3 t3. gets_done form s.0 m3
      (Same form) us refl t3)))

  pub delete_gets : (relation w c : ℕ) (key : List Expr) (o : Option ℕ) (us : List Token) (s : State)
      → relation < length p.schemes → IsLabel p.policy w → IsLabel p.policy c
      → AreListed p (scheme relation).keys key → HasOutcome p o
      → without_places s.1.placed ≡ (keyed p relation key ++ (Word (codes "class") ∷ label_token p c ∷ write_end p w
      (stmt_end p o))) ++ us → Gets (delete_at p s) s (Same (forms.Write relation w (Delete key c) o)) us
  unfolding delete_at
  delete_gets relation w c key o us s hr hw hc hk h k =
      let form : Form = forms.Write relation w (Delete key c) o in
      let last : List Token = write_end p w (stmt_end p o) in
      gets_then (λ y. label_behind p.policy (codes "class") y.1 >>= λ l. written_at p l.1 >>=
      λ z. Ok (forms.Write y.0.0 z.0.0 (Delete y.0.1 l.0) z.0.1, z.1))
      (keyed_gets relation key (Word (codes "class") ∷ label_token p c ∷ (last ++ us)) s hr hk
      (k ∙ append_assoc (keyed p relation key) (Word (codes "class") ∷ label_token p c ∷ last) us))
      (λ m t. gets_then (λ l. written_at p l.1 >>= λ z. Ok (forms.Write relation z.0.0 (Delete key l.0) z.0.1, z.1))
      (label_gets (codes "class") c (last ++ us) (s.0, m) hc t)
      (λ m2 t2. gets_then (λ z. Ok (forms.Write relation z.0.0 (Delete key c) z.0.1, z.1)) (written_gets w o us (
        s.0,
        m2,
      ) hw h t2) (λ m3 t3. gets_done form s.0 m3 (Same form) us refl t3)))

  -- ---- other statements

  pub assign_gets : (x at : ℕ) (e : Expr) (us : List Token) (s : State) → x < length p.scope.vars → IsOwn p.scope e
      → ExprFits p.schemes p.scope e → Assigns p.schemes p.scope x e
      → without_places s.1.placed ≡ Sign sign.Becomes ∷ ((expr_tokens p e ++ Sign sign.Semicolon ∷ []) ++ us)
      → Gets (assign_at p (name_of p.scope.vars x, at) s) s (Same (forms.Assign x e)) us
  unfolding assign_at
  assign_gets x at e us s within o f h k =
      let target : PlacedName = (name_of p.scope.vars x, at) in
      let finish : Given × State → Read Form = λ v. sign_at sign.Semicolon v.1 >>=
      λ end. Ok (forms.Assign (variable p target) v.0.expr, targeted p target v.0.gives end.1) in
      gets_more (λ b. whole_at p b.1 >>= finish) (sign_gets sign.Becomes ((expr_tokens p e ++ Sign sign.Semicolon ∷ [])
      ++ us) s k)
      (λ b m is t. gets_more finish (whole_again p n e (Of h.0) (Sign sign.Semicolon ∷ us) (s.0, m) o f h.2 refl
      (t ∙ append_assoc (expr_tokens p e) (Sign sign.Semicolon ∷ []) us))
      (λ v m2 r t2. gets_more (λ end. Ok (forms.Assign (variable p target) v.expr, targeted p target v.gives end.1))
      (sign_gets sign.Semicolon us (s.0, m2) t2)
      (λ end m3 i3 t3. gets_noted (forms.Assign (variable p target) v.expr)
      (target_faults p target (variable_named p target.0) v.gives) s.0 m3 (Same (forms.Assign x e)) us
      (target_none x at v.gives h.0 within h.1 r.agrees) (λ j. forms.Assign (numbered (variable_again p n x within j))
      (r.is j)) t3)))

  is_value : (k : Kind) (gives : Inferred) → may_be gives k ≡ true → may_be_value gives ≡ true
  is_value k inferred.Truth e = absurd cc
  is_value k _ e = refl

  value_gets : (e : Expr) (k : Kind) (us : List Token) (s : State) → IsOwn p.scope e → ExprFits p.schemes p.scope e
      → HasKind p.schemes p.scope k e → NoDot us → without_places s.1.placed ≡ expr_tokens p e ++ us
      → Gets (value_at p s) s (IsAgain (Of k) e) us
  unfolding value_at
  value_gets e k us s o f h off j =
      gets_more (λ g. Ok (g.0, note (tested (may_be_value g.0.gives) g.0) g.1))
      (whole_again p n e (Of k) us s o f h off j)
      (λ g m r t. gets_noted g (tested (may_be_value g.gives) g) s.0 m (IsAgain (Of k) e) us
      (none g.at cause.Kind (is_value k g.gives r.agrees)) r t)

  pub release_gets : (e : Expr) (to into : ℕ) (us : List Token) (s : State) → IsOwn p.scope e
      → into < length p.scope.vars → ExprFits p.schemes p.scope e → IsLabel p.policy to
      → below (labels_of p.policy) to p.hi ≡ true
      → Assigns p.schemes p.scope into e → without_places s.1.placed
      ≡ (expr_tokens p e ++ (Word (codes "to") ∷ label_token p to ∷ Word (codes "into") ∷ var_token p into
      ∷ Sign sign.Semicolon ∷ [])) ++ us
      → Gets (release_at p s) s (Same (forms.Release e to into)) us
  unfolding release_at
  release_gets e to into us s o within f hl under h k =
      let name = name_of p.scope.vars into in
      let end : List Token = Word (codes "into") ∷ Word name ∷ Sign sign.Semicolon ∷ [] in
      let finish : Given → PlacedName → State → Read Form = λ v target r. sign_at sign.Semicolon r >>=
      λ end. Ok (forms.Release v.expr to (variable p target), targeted p target v.gives end.1) in
      gets_more (λ v. lower_behind p (codes "to") v.1 >>= λ l. name_behind (codes "into") l.1 >>=
      λ x. sign_at sign.Semicolon x.1 >>= λ end. Ok (
        forms.Release v.0.expr l.0 (variable p x.0),
        targeted p x.0 v.0.gives end.1,
      ))
      (value_gets e h.0 (Word (codes "to") ∷ label_token p to ∷ (end ++ us)) s o f h.2 refl
      (k ∙ append_assoc (expr_tokens p e) (Word (codes "to") ∷ label_token p to ∷ end) us))
      (λ v m r t. gets_then (λ l. name_behind (codes "into") l.1 >>= λ x. sign_at sign.Semicolon x.1 >>=
      λ end. Ok (forms.Release v.expr l.0 (variable p x.0), targeted p x.0 v.gives end.1))
      (lower_gets (codes "to") to (end ++ us) (s.0, m) hl under t)
      (λ m2 t2. placed_then (λ x. finish v x.0 x.1) (behind_gets (codes "into") name (Sign sign.Semicolon ∷ us) (
        s.0,
        m2,
      ) (variable_is_name p n into within) t2)
      (λ at m3 t3. gets_more (λ end. Ok (
        forms.Release v.expr to (variable p (name, at)),
        targeted p (name, at) v.gives end.1,
      )) (sign_gets sign.Semicolon us (s.0, m3) t3)
      (λ end m4 i4 t4. gets_noted (forms.Release v.expr to (variable p (name, at))) (target_faults p (name, at)
      (variable_named p name) v.gives) s.0 m4 (Same (forms.Release e to into)) us
      (target_none into at v.gives h.0 within h.1 r.agrees) (λ j. forms.Release (r.is j) to
      (numbered (variable_again p n into within j))) t4))))

  pub emit_gets : (e : Expr) (l : ℕ) (k : Kind) (us : List Token) (s : State) → IsOwn p.scope e
      → ExprFits p.schemes p.scope e → IsLabel p.policy l → HasKind p.schemes p.scope k e
      → without_places s.1.placed ≡ (expr_tokens p e ++ (Word (codes "at") ∷ label_token p l ∷ Sign sign.Semicolon
      ∷ [])) ++ us → Gets (emit_at p s) s (Same (forms.Emit e l)) us
  unfolding emit_at
  emit_gets e l k us s o f hl h j =
      let last : List Token = Word (codes "at") ∷ label_token p l ∷ Sign sign.Semicolon ∷ [] in
      gets_more (λ v. label_behind p.policy (codes "at") v.1 >>= λ x. sign_at sign.Semicolon x.1 >>=
      λ end. Ok (forms.Emit v.0.expr x.0, end.1)) (value_gets e k (last ++ us) s o f h refl
      (j ∙ append_assoc (expr_tokens p e) last us))
      (λ v m r t. gets_then (λ x. sign_at sign.Semicolon x.1 >>= λ end. Ok (forms.Emit v.expr x.0, end.1))
      (label_gets (codes "at") l (Sign sign.Semicolon ∷ us) (s.0, m) hl t)
      (λ m2 t2. gets_more (λ end. Ok (forms.Emit v.expr l, end.1)) (sign_gets sign.Semicolon us (s.0, m2) t2)
      (λ end m3 i3 t3. gets_done (forms.Emit v.expr l) s.0 m3 (Same (forms.Emit e l)) us
      (ap (λ x. forms.Emit x l) r.is) t3)))
