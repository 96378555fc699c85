-- What is read is what stands there: statements with no statement inside.
use Rattle.std.proofs.Common.{◌≡◌, ℕ, ◌<◌, true, List, [], ◌∷◌, ◌++◌, length, Option, Some, None, Ok, refl, sym, ap, ◌∙◌, subst, codes, IfSome}
use Rattle.mls_lattice.specs.Labels.{below}
use Rattle.mls_lattice.specs.Policy.{Name, Policy, labels_of}
use Rattle.mls_lattice.specs.Reading.{◌>>=◌}
use Rattle.mls_lattice.proofs.NamedLemmas.{label_found}
use Rattle.mls_lattice.proofs.ReadingLemmas.{ok_is}
use Rattle.mls_scheme.specs.declared.value.Kind.{Kind}
use Rattle.mls_scheme.specs.declared.value.Kind.TheVariants as kinds
use Rattle.mls_scheme.specs.Scheme.{scheme_of}
use Rattle.mls_scheme.proofs.SchemeNameLemmas.{relation_found}
use Rattle.mls_tokens.specs.declared.token.Token.{Token}
use Rattle.mls_tokens.specs.declared.token.Token.TheVariants.{Word, Sign}
use Rattle.mls_tokens.specs.declared.sign.Sign.TheVariants as sign
use Rattle.mls_tokens.specs.Passing.{PlacedName}
use Rattle.mls_translang.specs.declared.block.Stmt.{Stmt as Form}
use Rattle.mls_translang.specs.declared.block.Stmt.TheVariants as forms
use Rattle.mls_translang.specs.Blocks.{block_of}
use Rattle.mls_translang.specs.Fits.{IsLabel, StmtFits}
use Rattle.mls_translang.specs.Kinds.{Assigns, StmtKinds}
use Rattle.mls_translang.specs.Scope.{kind_of_var}
use Rattle.mls_translang.specs.Tokens.{Context, label_token, rel_token, var_token, list_tokens, outcome_tokens, write_end, stmt_end, stmt_tokens}
use Rattle.mls_translang.specs.Tree.{Expr, Stmt, Assign, Release, Emit, Do}
use Rattle.mls_translang.specs.Tx.{IsOwn, StmtIsOwn}
use Rattle.mls_parser.specs.declared.fault.TextCause.TheVariants as cause
use Rattle.mls_parser.specs.declared.fault.PlacedFault.{PlacedFault}
use Rattle.mls_parser.specs.declared.given.Given.{Given}
use Rattle.mls_parser.specs.declared.inferred.Inferred.{Inferred}
use Rattle.mls_parser.specs.declared.inferred.Inferred.TheVariants as inferred
use Rattle.mls_parser.specs.Fault.{unless}
use Rattle.mls_parser.specs.Infer.{may_be, may_be_value}
use Rattle.mls_parser.specs.Names.{label_named, relation_named, variable_named, numbered}
use Rattle.mls_parser.specs.Noted.{State, note, takes_word, sign_at, word_at, name_at, name_behind, known, label_behind, relation_at}
use Rattle.mls_parser.specs.ReadExpr.{whole_at}
use Rattle.mls_parser.specs.ReadList.{tested, list_at}
use Rattle.mls_parser.specs.ReadBlock.{label, variable, fits_variable, target_faults, lower_behind, outcome_of, outcome_at, written_at, keyed_at, value_at, emit_at, assign_at, release_at}
use Rattle.mls_parser.proofs.ExprFound.{IsRight}
use Rattle.mls_parser.proofs.FaultLemmas.{neither, holds}
use Rattle.mls_parser.proofs.FoundSteps.{Found, found_none, found_next, found_noted, found_made, found_after, sign_read, word_read, name_read, behind_read}
use Rattle.mls_parser.proofs.ListFound.{right_read, IsList, list_read}
use Rattle.mls_parser.proofs.NumberLemmas.{label_spelled, relation_spelled, variable_there, of_known}
use Rattle.mls_parser.proofs.PassedLemmas.{word_taken}
use Rattle.mls_parser.proofs.SortLemmas.{HasInferred, as_kind, as_value, variable_within, variable_kind}

-- ---- labels and relations

pub label_known : (policy : Policy) (name : Name) (at : ℕ) → known (label_named policy name) at ≡ []
    → IsLabel policy (numbered (label_named policy name))
unfolding label_named
label_known policy name at h = of_known (label_named policy name) at (IsLabel policy) h
    (λ i e. (label_found policy.labels name i e).0)

module _ (p : Context) where
  relation_within : (name : Name) (at : ℕ) → known (relation_named p.schemes name) at ≡ []
      → numbered (relation_named p.schemes name) < length p.schemes
  unfolding relation_named
  relation_within name at h = of_known (relation_named p.schemes name) at (λ i. i < length p.schemes) h
      (λ i e. (relation_found p.schemes name i e).0)

  pub record IsLabelled (w : Name) (ts : List Token) (n : ℕ) : Type 0 where
    pub tokens : ts ≡ Word w ∷ label_token p n ∷ []
    pub within : IsLabel p.policy n

  pub label_read : (w : Name) (s : State) (x : ℕ × State) → label_behind p.policy w s ≡ Ok x → Found (IsLabelled w) s x
  unfolding label_behind
  label_read w s =
      found_noted (IsLabelled w) s (name_behind w s) (label p) (λ n. known (label_named p.policy n.0) n.1)
      (behind_read w s)
      (λ n ts none is. record {
        tokens = is.0 ∙ (λ i. Word w ∷ Word (sym (label_spelled p.policy n.0 n.1 none) i) ∷ []);
        within = label_known p.policy n.0 n.1 none;
      })

  -- a label that the ceiling dominates
  pub record IsLower (w : Name) (ts : List Token) (n : ℕ) : Type 0 where
    pub labelled : IsLabelled w ts n
    pub lower : below (labels_of p.policy) n p.hi ≡ true

  pub lower_read : (w : Name) (s : State) (x : ℕ × State) → lower_behind p w s ≡ Ok x → Found (IsLower w) s x
  unfolding lower_behind
  lower_read w s =
      found_noted (IsLower w) s (name_behind w s) (label p) (λ n. known (label_named p.policy n.0) n.1
      ++ unless (below (labels_of p.policy) (label p n) p.hi) n.1 cause.LabelOrder) (behind_read w s)
      (λ n ts none is.
      let t = neither (known (label_named p.policy n.0) n.1) _ none in
      record {
        labelled = record {
          tokens = is.0 ∙ (λ i. Word w ∷ Word (sym (label_spelled p.policy n.0 n.1 t.0) i) ∷ []);
          within = label_known p.policy n.0 n.1 t.0;
        };
        lower = holds (below (labels_of p.policy) (label p n) p.hi) n.1 _ t.1;
      })

  pub record IsRelated (ts : List Token) (n : ℕ) : Type 0 where
    pub tokens : ts ≡ rel_token p n ∷ []
    pub within : n < length p.schemes

  pub relation_read : (s : State) (x : ℕ × State) → relation_at p.schemes s ≡ Ok x → Found IsRelated s x
  unfolding relation_at
  relation_read s =
      found_noted IsRelated s (name_at s) (λ n. numbered (relation_named p.schemes n.0))
      (λ n. known (relation_named p.schemes n.0) n.1) (name_read s)
      (λ n ts none is. record {
        tokens = is.0 ∙ (λ i. Word (sym (relation_spelled p.schemes n.0 n.1 none) i) ∷ []);
        within = relation_within n.0 n.1 none;
      })

  -- ---- variables that get something

  pub record IsTarget (gives : Inferred) (n : PlacedName) (i : ℕ) : Type 0 where
    pub token : Word n.0 ≡ var_token p i
    pub within : i < length p.scope.vars
    pub kind : Kind
    pub is_kind : kind_of_var p.scope i ≡ Some kind
    pub fits : may_be gives kind ≡ true

  target_at : (n : PlacedName) (gives : Inferred) (o : Option ℕ) → variable_named p n.0 ≡ o → target_faults p n o gives
      ≡ [] → IsTarget gives n (numbered o)
  target_at n gives None is h = absurd cc
  target_at n gives (Some i) is h =
      let lt = variable_within p n.0 i is in
      let k = variable_kind p i lt in
      let F : Option Kind → Type 0 = λ o. fits_variable o gives ≡ true in
      record {
        token = ap (λ (w : Name). Word w) (sym (variable_there p n.0 i is));
        within = lt;
        kind = k.0;
        is_kind = k.1;
        fits = subst F k.1 (holds (fits_variable (kind_of_var p.scope i) gives) n.1 _ h);
      }

  pub target_is : (n : PlacedName) (gives : Inferred) → target_faults p n (variable_named p n.0) gives ≡ []
      → IsTarget gives n (variable p n)
  target_is n gives h = target_at n gives (variable_named p n.0) refl h

  -- what is assigned has the variable's kind
  pub assigns : (n : PlacedName) (g : Given) (i : ℕ) → IsTarget g.gives n i → HasInferred p g.gives g.expr
      → Assigns p.schemes p.scope i g.expr
  assigns n g i t h = (t.kind, t.is_kind, as_kind p g.gives t.kind g.expr t.fits h)

  -- the variable of an outcome, and the end
  pub record IsOutcome (ts : List Token) (o : Option ℕ) : Type 0 where
    pub tokens : ts ≡ stmt_end p o
    pub own : IfSome o (λ x. x < length p.scope.vars)
    pub kind : IfSome o (λ x. kind_of_var p.scope x ≡ Some kinds.Int)

  is_int : (k : Kind) → may_be (inferred.Value kinds.Int) k ≡ true → k ≡ kinds.Int
  is_int kinds.Int e = refl
  is_int kinds.Text e = absurd cc

  record IsFirst (ts : List Token) (o : Option ℕ) : Type 0 where
    tokens : ts ≡ outcome_tokens p o
    own : IfSome o (λ x. x < length p.scope.vars)
    kind : IfSome o (λ x. kind_of_var p.scope x ≡ Some kinds.Int)

  first_read : (s : State) (o : Option (ℕ × State)) (x : Option ℕ × State) → takes_word (codes "as") s ≡ o
      → outcome_of p s o ≡ Ok x → Found IsFirst s x
  first_read s None x is e = subst (Found IsFirst s) (ok_is (None, s) x e) (found_none IsFirst None s
      (record { tokens = refl; own = tt; kind = tt }))
  first_read s (Some word) x is e =
      let rest = found_noted (λ ts o. IsFirst (Word (codes "as") ∷ ts) o) word.1 (name_at word.1)
      (λ n. Some (variable p n)) (λ n. target_faults p n (variable_named p n.0) (inferred.Value kinds.Int))
      (name_read word.1)
      (λ n ts none named.
      let t = target_is n (inferred.Value kinds.Int) none in
      record {
        tokens = λ i. Word (codes "as") ∷ (named.0 ∙ (λ j. t.token j ∷ [])) i;
        own = t.within;
        kind = t.is_kind ∙ ap (λ (k : Kind). Some k) (is_int t.kind t.fits);
      })
      x e in
      found_after IsFirst (Word (codes "as") ∷ []) s word.1 x (word_taken (codes "as") s word is) rest

  pub outcome_read : (s : State) (x : Option ℕ × State) → outcome_at p s ≡ Ok x → Found IsOutcome s x
  unfolding outcome_at
  outcome_read s =
      found_next IsOutcome (λ o ts new. (ts ≡ Sign sign.Semicolon ∷ []) × (new ≡ o)) s
      (outcome_of p s (takes_word (codes "as") s)) (λ o. sign_at sign.Semicolon o.1 >>= λ end. Ok (o.0, end.1))
      (λ x e. first_read s (takes_word (codes "as") s) x refl e)
      (λ o. found_made (λ ts new. (ts ≡ Sign sign.Semicolon ∷ []) × (new ≡ o.0)) o.1 (sign_at sign.Semicolon o.1)
      (λ at. o.0) (sign_read sign.Semicolon o.1) (λ at ts is. (is, refl)))
      (λ o new ts us first end. subst (IsOutcome (ts ++ us)) (sym end.1) (record {
        tokens = λ i. first.tokens i
            ++ end.0 i;
        own = first.own;
        kind = first.kind;
      }))

  -- where a tuple is written, and the outcome
  pub record IsWritten (ts : List Token) (x : ℕ × Option ℕ) : Type 0 where
    pub tokens : ts ≡ write_end p x.0 (stmt_end p x.1)
    pub within : IsLabel p.policy x.0
    pub own : IfSome x.1 (λ v. v < length p.scope.vars)
    pub kind : IfSome x.1 (λ v. kind_of_var p.scope v ≡ Some kinds.Int)

  pub written_read : (s : State) (x : (ℕ × Option ℕ) × State) → written_at p s ≡ Ok x → Found IsWritten s x
  unfolding written_at
  written_read s =
      found_next IsWritten (λ w ts x. (x.0 ≡ w) × IsOutcome ts x.1) s (label_behind p.policy (codes "at") s)
      (λ w. outcome_at p w.1 >>= λ o. Ok ((w.0, o.0), o.1)) (label_read (codes "at") s)
      (λ w. found_made (λ ts x. (x.0 ≡ w.0) × IsOutcome ts x.1) w.1 (outcome_at p w.1) (λ o. (w.0, o))
      (outcome_read w.1) (λ o ts r. (refl, r)))
      (λ w x ts us at o.
      let F : ℕ → Type 0 = λ n. IsWritten (ts ++ us) (n, x.1) in
      subst F (sym o.0) (record {
        tokens = λ i. at.tokens i ++ o.1.tokens i;
        within = at.within;
        own = o.1.own;
        kind =
            o.1.kind;
      }))

  -- the relation and the key of a write, behind its word
  pub record IsKeyed (ts : List Token) (x : ℕ × List Expr) : Type 0 where
    pub tokens : ts ≡ rel_token p x.0 ∷ Word (codes "key") ∷ list_tokens p x.1
    pub within : x.0 < length p.schemes
    pub key : IsList p (scheme_of p.schemes x.0).keys (list_tokens p x.1) x.1

  -- the word and the key behind a relation
  abbrev IsKey : ℕ → List Token → ℕ × List Expr → Type 0
  IsKey relation ts x = (x.0 ≡ relation) × (ts ≡ Word (codes "key") ∷ list_tokens p x.1)
      × IsList p (scheme_of p.schemes relation).keys (list_tokens p x.1) x.1

  pub keyed_read : (s : State) (x : (ℕ × List Expr) × State) → keyed_at p s ≡ Ok x → Found IsKeyed s x
  unfolding keyed_at
  keyed_read s =
      found_next IsKeyed IsKey s (relation_at p.schemes s) (λ relation. word_at (codes "key") relation.1 >>=
      λ w. list_at p (scheme_of p.schemes relation.0).keys w.1 >>= λ key. Ok ((relation.0, key.0), key.1))
      (relation_read s)
      (λ relation.
      found_next (IsKey relation.0) (λ at ts x. (x.0 ≡ relation.0)
      × IsList p (scheme_of p.schemes relation.0).keys ts x.1) relation.1
      (word_at (codes "key") relation.1) (λ w. list_at p (scheme_of p.schemes relation.0).keys w.1 >>=
      λ key. Ok ((relation.0, key.0), key.1)) (word_read (codes "key") relation.1)
      (λ w. found_made (λ ts x. (x.0 ≡ relation.0) × IsList p (scheme_of p.schemes relation.0).keys ts x.1) w.1
      (list_at p (scheme_of p.schemes relation.0).keys w.1) (λ key. (relation.0, key))
      (list_read p (scheme_of p.schemes relation.0).keys w.1) (λ key ts r. (refl, r)))
      (λ at x ts us word r. (
        r.0,
        (λ i. word i ++ r.1.tokens i),
        subst (λ t. IsList p (scheme_of p.schemes relation.0).keys t x.1) r.1.tokens r.1,
      )))
      (λ relation x ts us related key.
      let F : ℕ → Type 0 = λ n. IsKeyed (ts ++ us) (n, x.1) in
      subst F (sym key.0) (record { tokens = λ i. related.tokens i ++ key.1 i; within = related.within; key = key.2 }))

  -- ---- statements

  -- the tree of a statement, of these tokens
  pub record IsStmt (ts : List Token) (form : Form) : Type 0 where
    pub tree : Stmt
    pub is : (rest : List Form) → block_of (form ∷ rest) ≡ Do tree (block_of rest)
    pub tokens : ts ≡ stmt_tokens p tree
    pub own : StmtIsOwn p.scope tree
    pub fits : StmtFits p.policy p.schemes p.hi p.scope tree
    pub kinds : StmtKinds p.schemes p.scope tree

  -- behind a token, which it begins with
  abbrev pub IsPlain : Token → List Token → Form → Type 0
  IsPlain t ts form = IsStmt (t ∷ ts) form

  value_read : (s : State) (x : Given × State) → value_at p s ≡ Ok x → Found (λ ts g. IsRight p 16 [] ts g
      × (may_be_value g.gives ≡ true)) s x
  unfolding value_at
  value_read s = found_noted (λ ts g. IsRight p 16 [] ts g × (may_be_value g.gives ≡ true)) s (whole_at p s) (λ g. g)
      (λ g. tested (may_be_value g.gives) g) (right_read p s)
      (λ g ts none r. (r, holds (may_be_value g.gives) g.at _ none))

  own_of : (ts : List Token) (g : Given) → IsRight p 16 [] ts g → IsOwn p.scope g.expr
  own_of ts g r = record { nesting = r.nesting; numbers = r.sound.own }

  abbrev end_tokens : List Token
  end_tokens = Sign sign.Semicolon ∷ []

  abbrev IsEmitted : Given → List Token → Form → Type 0
  IsEmitted g ts form = (n : ℕ) × (form ≡ forms.Emit g.expr n) × IsLabel p.policy n
      × (ts ≡ Word (codes "at") ∷ label_token p n ∷ end_tokens)

  pub emit_read : (s : State) (x : Form × State) → emit_at p s ≡ Ok x → Found (IsPlain (Word (codes "emit"))) s x
  unfolding emit_at
  emit_read s =
      found_next (IsPlain (Word (codes "emit"))) IsEmitted s (value_at p s) (λ e. label_behind p.policy
      (codes "at") e.1 >>= λ l. sign_at sign.Semicolon l.1 >>= λ end. Ok (forms.Emit e.0.expr l.0, end.1))
      (value_read s)
      (λ e.
      found_next (IsEmitted e.0) (λ n ts form. (form ≡ forms.Emit e.0.expr n) × (ts ≡ end_tokens)) e.1
      (label_behind p.policy (codes "at") e.1)
      (λ l. sign_at sign.Semicolon l.1 >>= λ end. Ok (forms.Emit e.0.expr l.0, end.1)) (label_read (codes "at") e.1)
      (λ l. found_made (λ ts form. (form ≡ forms.Emit e.0.expr l.0) × (ts ≡ end_tokens)) l.1
      (sign_at sign.Semicolon l.1) (λ at. forms.Emit e.0.expr l.0) (sign_read sign.Semicolon l.1)
      (λ at ts is. (refl, is)))
      (λ n form ts us at end. (n, end.0, at.within, (λ i. at.tokens i ++ end.1 i))))
      (λ g form ts us value label.
      subst (IsPlain (Word (codes "emit")) (ts ++ us)) (sym label.1) (record {
        tree = Emit g.expr label.0;
        is = λ rest. refl;
        tokens = λ i. Word (codes "emit") ∷ (value.0.tokens i ++ label.3 i);
        own = own_of ts g value.0;
        fits = (value.0.sound.fits, label.2);
        kinds = as_value p g.gives g.expr value.1 value.0.sound.gives;
      }))

  pub assign_read : (n : PlacedName) (s : State) (x : Form × State) → assign_at p n s ≡ Ok x
      → Found (IsPlain (Word n.0)) s x
  unfolding assign_at
  assign_read n s =
      let form : Given → Form = λ g. forms.Assign (variable p n) g.expr in
      let faults : Given → List PlacedFault = λ g. target_faults p n (variable_named p n.0) g.gives in
      found_next (IsPlain (Word n.0)) (λ at ts y. IsPlain (Word n.0) (Sign sign.Becomes ∷ ts) y) s
      (sign_at sign.Becomes s)
      (λ b. whole_at p b.1 >>= λ e. sign_at sign.Semicolon e.1 >>= λ end. Ok (form e.0, note (faults e.0) end.1))
      (sign_read sign.Becomes s)
      (λ b.
      found_next (λ ts y. IsPlain (Word n.0) (Sign sign.Becomes ∷ ts) y) (λ g us y. (y ≡ form g) × (us ≡ end_tokens)
      × (faults g ≡ [])) b.1 (whole_at p b.1)
      (λ e. sign_at sign.Semicolon e.1 >>= λ end. Ok (form e.0, note (faults e.0) end.1)) (right_read p b.1)
      (λ e. found_noted (λ us y. (y ≡ form e.0) × (us ≡ end_tokens) × (faults e.0 ≡ [])) e.1
      (sign_at sign.Semicolon e.1) (λ at. form e.0) (λ at. faults e.0) (sign_read sign.Semicolon e.1)
      (λ at us none is. (refl, is, none)))
      (λ g y ts us r end.
      let t = target_is n g.gives end.2 in
      subst (IsPlain (Word n.0) (Sign sign.Becomes ∷ (ts ++ us))) (sym end.0) (record {
        tree = Assign (variable p n) g.expr;
        is = λ rest. refl;
        tokens = λ i. t.token i ∷ Sign sign.Becomes ∷ (r.tokens i ++ end.1 i);
        own = (t.within, own_of ts g r);
        fits = r.sound.fits;
        kinds = assigns n g (variable p n) t r.sound.gives;
      })))
      (λ at y ts us becomes r. subst (λ l. IsPlain (Word n.0) (l ++ us) y) (sym becomes) r)

  abbrev IsReleased : Given → List Token → Form → Type 0
  IsReleased g ts form =
      (to into : ℕ) × (form ≡ forms.Release g.expr to into) × IsLabel p.policy to × (below (labels_of p.policy) to p.hi
      ≡ true) × (into < length p.scope.vars)
      × Assigns p.schemes p.scope into g.expr × (ts ≡ Word (codes "to") ∷ label_token p to ∷ Word (codes "into")
      ∷ var_token p into ∷ end_tokens)

  -- behind its word, the variable that a value is released into
  abbrev IsInto : Given → ℕ → List Token → Form → Type 0
  IsInto g to ts form =
      (n : PlacedName) × (form ≡ forms.Release g.expr to (variable p n))
      × (target_faults p n (variable_named p n.0) g.gives ≡ []) × (ts ≡ Word (codes "into") ∷ Word n.0 ∷ end_tokens)

  into_read : (g : Given) (to : ℕ) (s : State) (x : Form × State)
      → (name_behind (codes "into") s >>= λ n. sign_at sign.Semicolon n.1 >>=
      λ end. Ok (
        forms.Release g.expr to (variable p n.0),
        note (target_faults p n.0 (variable_named p n.0.0) g.gives) end.1,
      )) ≡ Ok x → Found (IsInto g to) s x
  into_read g to s =
      found_next (IsInto g to) (λ n us y. (y ≡ forms.Release g.expr to (variable p n)) × (us ≡ end_tokens)
      × (target_faults p n (variable_named p n.0) g.gives ≡ [])) s (name_behind (codes "into") s)
      (λ n. sign_at sign.Semicolon n.1 >>= λ end. Ok (
        forms.Release g.expr to (variable p n.0),
        note (target_faults p n.0 (variable_named p n.0.0) g.gives) end.1,
      )) (behind_read (codes "into") s)
      (λ n. found_noted (λ us y. (y ≡ forms.Release g.expr to (variable p n.0)) × (us ≡ end_tokens)
      × (target_faults p n.0 (variable_named p n.0.0) g.gives ≡ [])) n.1 (sign_at sign.Semicolon n.1)
      (λ at. forms.Release g.expr to (variable p n.0)) (λ at. target_faults p n.0 (variable_named p n.0.0) g.gives)
      (sign_read sign.Semicolon n.1) (λ at us none is. (refl, is, none)))
      (λ n y ts us named end. (n, end.0, end.2, (λ i. named.0 i ++ end.1 i)))

  -- what is released, behind its value
  abbrev IsAimed : Given → List Token → Form → Type 0
  IsAimed g ts form = HasInferred p g.gives g.expr → IsReleased g ts form

  aimed_read : (g : Given) (s : State) (x : Form × State)
      → (lower_behind p (codes "to") s >>= λ to. name_behind (codes "into") to.1 >>= λ n. sign_at sign.Semicolon n.1 >>=
      λ end. Ok (
        forms.Release g.expr to.0 (variable p n.0),
        note (target_faults p n.0 (variable_named p n.0.0) g.gives) end.1,
      )) ≡ Ok x
      → Found (IsAimed g) s x
  aimed_read g s =
      found_next (IsAimed g) (IsInto g) s (lower_behind p (codes "to") s)
      (λ to. name_behind (codes "into") to.1 >>= λ n. sign_at sign.Semicolon n.1 >>=
      λ end. Ok (
        forms.Release g.expr to.0 (variable p n.0),
        note (target_faults p n.0 (variable_named p n.0.0) g.gives) end.1,
      ))
      (lower_read (codes "to") s) (λ to. into_read g to.0 to.1)
      (λ to y ts us l into right.
      let t = target_is into.0 g.gives into.2 in (
        to,
        variable p into.0,
        into.1,
        l.labelled.within,
        l.lower,
        t.within,
        assigns into.0 g (variable p into.0) t right,
        (λ i. l.labelled.tokens i ++ (into.3 ∙ (λ j. Word (codes "into") ∷ t.token j ∷ end_tokens)) i),
      ))

  pub release_read : (s : State) (x : Form × State) → release_at p s ≡ Ok x
      → Found (IsPlain (Word (codes "release"))) s x
  unfolding release_at
  release_read s =
      found_next (IsPlain (Word (codes "release"))) IsAimed s (value_at p s)
      (λ e. lower_behind p (codes "to") e.1 >>= λ to. name_behind (codes "into") to.1 >>=
      λ n. sign_at sign.Semicolon n.1
      >>= λ end. Ok (
        forms.Release e.0.expr to.0 (variable p n.0),
        note (target_faults p n.0 (variable_named p n.0.0) e.0.gives) end.1,
      )) (value_read s)
      (λ e. aimed_read e.0 e.1)
      (λ g form ts us value aimed.
      let r = aimed value.0.sound.gives in
      subst (IsPlain (Word (codes "release")) (ts ++ us)) (sym r.2) (record {
        tree = Release g.expr r.0 r.1;
        is = λ rest. refl;
        tokens = λ i. Word (codes "release") ∷ (value.0.tokens i ++ r.7 i);
        own = (own_of ts g value.0, r.5);
        fits = (value.0.sound.fits, r.3, r.4);
        kinds = r.6;
      }))
