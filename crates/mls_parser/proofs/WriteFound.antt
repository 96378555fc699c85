-- What is read is what stands there: writes, and any statement with no statement inside.
use Rattle.std.proofs.Common.{◌≡◌, ℕ, ◌<◌, List, [], ◌∷◌, ◌++◌, length, Option, Ok, refl, sym, subst, codes, IfSome}
use Rattle.mls_lattice.specs.Reading.{◌>>=◌}
use Rattle.mls_scheme.specs.Scheme.{Scheme, scheme_of}
use Rattle.mls_tokens.specs.declared.token.Token.{Token}
use Rattle.mls_tokens.specs.declared.token.Token.TheVariants.{Word}
use Rattle.mls_tokens.specs.Text.{separated}
use Rattle.mls_translang.specs.declared.block.Stmt.{Stmt as Form}
use Rattle.mls_translang.specs.declared.block.Stmt.TheVariants as forms
use Rattle.mls_translang.specs.Fits.{IsLabel}
use Rattle.mls_translang.specs.Tokens.{Context, label_token, list_tokens, set_tokens, class_tokens, update_end, write_end, stmt_end}
use Rattle.mls_translang.specs.Tree.{Expr, Write_at, Insert, Update, Delete}
use Rattle.mls_parser.specs.Noted.{State, word_at, label_behind}
use Rattle.mls_parser.specs.ReadList.{list_at, sets_at}
use Rattle.mls_parser.specs.ReadBlock.{outcome_at, written_at, keyed_at, insert_at, classes_at, changes_at, update_at, delete_at}
use Rattle.mls_parser.proofs.FoundSteps.{Found, found_next, found_made, word_read}
use Rattle.mls_parser.proofs.ListFound.{IsList, list_read}
use Rattle.mls_parser.proofs.SetFound.{AreNew, sets_read}
use Rattle.mls_parser.proofs.StmtFound.{IsLabelled, label_read, IsOutcome, outcome_read, IsWritten, written_read, keyed_read, IsPlain}

module _ (p : Context) where
  abbrev of_rel : ℕ → Scheme
  of_rel relation = scheme_of p.schemes relation

  -- ---- an insert

  -- behind its key
  abbrev IsFilled : ℕ × List Expr → List Token → Form → Type 0
  IsFilled k ts form =
      (values : List Expr) × (w : ℕ × Option ℕ) × (form ≡ forms.Write k.0 w.0 (Insert k.1 values) w.1)
      × IsList p (of_rel k.0).others (list_tokens p values) values
      × IsWritten p (write_end p w.0 (stmt_end p w.1)) w
      × (ts ≡ Word (codes "values") ∷ (list_tokens p values ++ write_end p w.0 (stmt_end p w.1)))

  -- behind its values
  abbrev IsPlaced : ℕ × List Expr → List Expr → List Token → Form → Type 0
  IsPlaced k values ts form = (w : ℕ × Option ℕ) × (form ≡ forms.Write k.0 w.0 (Insert k.1 values) w.1)
      × IsWritten p ts w

  values_read : (k : ℕ × List Expr) (s : State) (x : Form × State)
      → (list_at p (of_rel k.0).others s >>= λ values. written_at p values.1 >>=
      λ w. Ok (forms.Write k.0 w.0.0 (Insert k.1 values.0) w.0.1, w.1)) ≡ Ok x
      → Found (λ ts y. IsFilled k (Word (codes "values") ∷ ts) y) s x
  values_read k s =
      found_next (λ ts y. IsFilled k (Word (codes "values") ∷ ts) y) (IsPlaced k) s (list_at p (of_rel k.0).others s)
      (λ values. written_at p values.1 >>= λ w. Ok (forms.Write k.0 w.0.0 (Insert k.1 values.0) w.0.1, w.1))
      (list_read p (of_rel k.0).others s)
      (λ values. found_made (IsPlaced k values.0) values.1 (written_at p values.1) (λ w. forms.Write k.0 w.0
      (Insert k.1 values.0) w.1) (written_read p values.1) (λ w ts r. (w, refl, r)))
      (λ values y ts us list w. (
        values,
        w.0,
        w.1,
        subst (λ l. IsList p (of_rel k.0).others l values) list.tokens list,
        subst (λ l. IsWritten p l w.0) w.2.tokens w.2,
        (λ i. Word (codes "values") ∷ (list.tokens i ++ w.2.tokens i)),
      ))

  pub insert_read : (s : State) (x : Form × State) → insert_at p s ≡ Ok x
      → Found (IsPlain p (Word (codes "insert"))) s x
  unfolding insert_at
  insert_read s =
      found_next (IsPlain p (Word (codes "insert"))) IsFilled s (keyed_at p s)
      (λ k. word_at (codes "values") k.1 >>= λ word. list_at p (of_rel k.0.0).others word.1 >>=
      λ values. written_at p values.1 >>= λ w. Ok (forms.Write k.0.0 w.0.0 (Insert k.0.1 values.0) w.0.1, w.1))
      (keyed_read p s)
      (λ k.
      found_next (IsFilled k.0) (λ at ts y. IsFilled k.0 (Word (codes "values") ∷ ts) y) k.1
      (word_at (codes "values") k.1)
      (λ word. list_at p (of_rel k.0.0).others word.1 >>= λ values. written_at p values.1 >>=
      λ w. Ok (forms.Write k.0.0 w.0.0 (Insert k.0.1 values.0) w.0.1, w.1)) (word_read (codes "values") k.1)
      (λ word. values_read k.0 word.1)
      (λ at y ts us word r. subst (λ l. IsFilled k.0 (l ++ us) y) (sym word) r))
      (λ k y ts us key r.
      subst (IsPlain p (Word (codes "insert")) (ts ++ us)) (sym r.2) (record {
        tree = Write_at k.0 r.1.0 (Insert k.1 r.0) r.1.1;
        is = λ rest. refl;
        tokens = λ i. Word (codes "insert") ∷ (key.tokens i ++ r.5 i);
        own = ((key.key.own, r.3.own), r.4.own);
        fits = (key.within, r.4.within, (key.key.fits, r.3.fits));
        kinds = ((key.key.kinds, r.3.kinds), r.4.kind);
      }))

  -- ---- a delete

  -- behind its key
  abbrev IsErased : ℕ × List Expr → List Token → Form → Type 0
  IsErased k ts form =
      (class : ℕ) × (w : ℕ × Option ℕ) × (form ≡ forms.Write k.0 w.0 (Delete k.1 class) w.1) × IsLabel p.policy class
      × IsWritten p (write_end p w.0 (stmt_end p w.1)) w
      × (ts ≡ Word (codes "class") ∷ label_token p class ∷ write_end p w.0 (stmt_end p w.1))

  pub delete_read : (s : State) (x : Form × State) → delete_at p s ≡ Ok x
      → Found (IsPlain p (Word (codes "delete"))) s x
  unfolding delete_at
  delete_read s =
      found_next (IsPlain p (Word (codes "delete"))) IsErased s (keyed_at p s)
      (λ k. label_behind p.policy (codes "class") k.1 >>= λ class. written_at p class.1 >>=
      λ w. Ok (forms.Write k.0.0 w.0.0 (Delete k.0.1 class.0) w.0.1, w.1)) (keyed_read p s)
      (λ k.
      found_next (IsErased k.0) (λ class ts y. (w : ℕ × Option ℕ) × (y ≡ forms.Write k.0.0 w.0 (Delete k.0.1 class) w.1)
      × IsWritten p ts w) k.1 (label_behind p.policy (codes "class") k.1)
      (λ class. written_at p class.1 >>= λ w. Ok (forms.Write k.0.0 w.0.0 (Delete k.0.1 class.0) w.0.1, w.1))
      (label_read p (codes "class") k.1)
      (λ class. found_made (λ ts y. (w : ℕ × Option ℕ) × (y ≡ forms.Write k.0.0 w.0 (Delete k.0.1 class.0) w.1)
      × IsWritten p ts w) class.1 (written_at p class.1) (λ w. forms.Write k.0.0 w.0 (Delete k.0.1 class.0) w.1)
      (written_read p class.1)
      (λ w ts r. (w, refl, r)))
      (λ class y ts us at w. (
        class,
        w.0,
        w.1,
        at.within,
        subst (λ l. IsWritten p l w.0) w.2.tokens w.2,
        (λ i. at.tokens i ++ w.2.tokens i),
      )))
      (λ k y ts us key r.
      subst (IsPlain p (Word (codes "delete")) (ts ++ us)) (sym r.2) (record {
        tree = Write_at k.0 r.1.0 (Delete k.1 r.0) r.1.1;
        is = λ rest. refl;
        tokens = λ i. Word (codes "delete") ∷ (key.tokens i ++ r.5 i);
        own = (key.key.own, r.4.own);
        fits = (key.within, r.4.within, (key.key.fits, r.3));
        kinds = (key.key.kinds, r.4.kind);
      }))

  -- ---- an update

  record AreClasses (ts : List Token) (c : ℕ × ℕ × ℕ) : Type 0 where
    tokens : ts ≡ class_tokens p c.0 c.1 c.2
    class : IsLabel p.policy c.0
    from : IsLabel p.policy c.1
    at : IsLabel p.policy c.2

  abbrev AreTwo : ℕ → List Token → ℕ × ℕ × ℕ → Type 0
  AreTwo class ts c = (c.0 ≡ class) × IsLabel p.policy c.1 × IsLabel p.policy c.2
      × (ts ≡ Word (codes "from") ∷ label_token p c.1 ∷ Word (codes "at") ∷ label_token p c.2 ∷ [])

  classes_read : (s : State) (x : (ℕ × ℕ × ℕ) × State) → classes_at p s ≡ Ok x → Found AreClasses s x
  unfolding classes_at
  classes_read s =
      found_next AreClasses AreTwo s (label_behind p.policy (codes "class") s)
      (λ class. label_behind p.policy (codes "from") class.1 >>= λ from. label_behind p.policy (codes "at") from.1 >>=
      λ w. Ok ((class.0, from.0, w.0), w.1)) (label_read p (codes "class") s)
      (λ class.
      found_next (AreTwo class.0) (λ from ts c. (c.0 ≡ class.0) × (c.1 ≡ from)
      × IsLabelled p (codes "at") ts c.2) class.1 (label_behind p.policy (codes "from") class.1)
      (λ from. label_behind p.policy (codes "at") from.1 >>= λ w. Ok ((class.0, from.0, w.0), w.1))
      (label_read p (codes "from") class.1)
      (λ from. found_made (λ ts c. (c.0 ≡ class.0) × (c.1 ≡ from.0) × IsLabelled p (codes "at") ts c.2) from.1
      (label_behind p.policy (codes "at") from.1) (λ w. (class.0, from.0, w)) (label_read p (codes "at") from.1)
      (λ w ts r. (refl, refl, r)))
      (λ from c ts us l r.
      let F : ℕ → Type 0 = λ n. AreTwo class.0 (ts ++ us) (c.0, n, c.2) in
      subst F (sym r.1) (r.0, l.within, r.2.within, (λ i. l.tokens i ++ r.2.tokens i))))
      (λ class c ts us l r.
      let F : ℕ → Type 0 = λ n. AreClasses (ts ++ us) (n, c.1, c.2) in
      subst F (sym r.0) (record { tokens = λ i. l.tokens i ++ r.3 i; class = l.within; from = r.1; at = r.2 }))

  record AreChanges (relation : ℕ) (ts : List Token) (n : List (ℕ × Expr) × Option ℕ) : Type 0 where
    tokens : ts ≡ update_end p relation n.0 n.1
    sets : AreNew p (of_rel relation) (separated (set_tokens p (of_rel relation)) n.0) n.0
    own : IfSome n.1 (λ v. v < length p.scope.vars)
    outcome : IsOutcome p (stmt_end p n.1) n.1

  abbrev AreSome : ℕ → List Token → List (ℕ × Expr) × Option ℕ → Type 0
  AreSome relation ts n = AreNew p (of_rel relation) (separated (set_tokens p (of_rel relation)) n.0) n.0
      × IsOutcome p (stmt_end p n.1) n.1 × (ts ≡ separated (set_tokens p (of_rel relation)) n.0 ++ stmt_end p n.1)

  changes_read : (relation : ℕ) (s : State) (x : (List (ℕ × Expr) × Option ℕ) × State)
      → changes_at p (of_rel relation) s ≡ Ok x → Found (AreChanges relation) s x
  unfolding changes_at
  changes_read relation s =
      found_next (AreChanges relation) (λ at ts n. AreSome relation ts n) s (word_at (codes "set") s)
      (λ word. sets_at p (of_rel relation) word.1 >>= λ sets. outcome_at p sets.1 >>= λ o. Ok ((sets.0, o.0), o.1))
      (word_read (codes "set") s)
      (λ word.
      found_next (AreSome relation) (λ sets ts n. (n.0 ≡ sets) × IsOutcome p ts n.1) word.1
      (sets_at p (of_rel relation) word.1)
      (λ sets. outcome_at p sets.1 >>= λ o. Ok ((sets.0, o.0), o.1)) (sets_read p (of_rel relation) word.1)
      (λ sets. found_made (λ ts n. (n.0 ≡ sets.0) × IsOutcome p ts n.1) sets.1 (outcome_at p sets.1) (λ o. (sets.0, o))
      (outcome_read p sets.1) (λ o ts r. (refl, r)))
      (λ sets n ts us new o.
      let F : List (ℕ × Expr) → Type 0 = λ xs. AreSome relation (ts ++ us) (xs, n.1) in
      subst F (sym o.0) (
        subst (λ l. AreNew p (of_rel relation) l sets) new.tokens new,
        subst (λ l. IsOutcome p l n.1) o.1.tokens o.1,
        (λ i. new.tokens i ++ o.1.tokens i),
      )))
      (λ at n ts us word r. record { tokens = λ i. word i ++ r.2 i; sets = r.0; own = r.1.own; outcome = r.1 })

  -- behind its key
  abbrev IsRenewed : ℕ × List Expr → List Token → Form → Type 0
  IsRenewed k ts form =
      (c : ℕ × ℕ × ℕ) × (n : List (ℕ × Expr) × Option ℕ) × (form ≡ forms.Write k.0 c.2 (Update k.1 c.0 c.1 n.0) n.1)
      × AreClasses (class_tokens p c.0 c.1 c.2) c
      × AreChanges k.0 (update_end p k.0 n.0 n.1) n × (ts ≡ class_tokens p c.0 c.1 c.2 ++ update_end p k.0 n.0 n.1)

  abbrev IsChanged : ℕ × List Expr → ℕ × ℕ × ℕ → List Token → Form → Type 0
  IsChanged k c ts form = (n : List (ℕ × Expr) × Option ℕ) × (form ≡ forms.Write k.0 c.2 (Update k.1 c.0 c.1 n.0) n.1)
      × AreChanges k.0 ts n

  pub update_read : (s : State) (x : Form × State) → update_at p s ≡ Ok x
      → Found (IsPlain p (Word (codes "update"))) s x
  unfolding update_at
  update_read s =
      found_next (IsPlain p (Word (codes "update"))) IsRenewed s (keyed_at p s)
      (λ k. classes_at p k.1 >>= λ c. changes_at p (of_rel k.0.0) c.1 >>=
      λ n. Ok (forms.Write k.0.0 c.0.2 (Update k.0.1 c.0.0 c.0.1 n.0.0) n.0.1, n.1)) (keyed_read p s)
      (λ k.
      found_next (IsRenewed k.0) (IsChanged k.0) k.1 (classes_at p k.1) (λ c. changes_at p (of_rel k.0.0) c.1 >>=
      λ n. Ok (forms.Write k.0.0 c.0.2 (Update k.0.1 c.0.0 c.0.1 n.0.0) n.0.1, n.1)) (classes_read k.1)
      (λ c. found_made (IsChanged k.0 c.0) c.1 (changes_at p (of_rel k.0.0) c.1) (λ n. forms.Write k.0.0 c.0.2
      (Update k.0.1 c.0.0 c.0.1 n.0) n.1) (changes_read k.0.0 c.1) (λ n ts r. (n, refl, r)))
      (λ c y ts us classes r. (
        c,
        r.0,
        r.1,
        subst (λ l. AreClasses l c) classes.tokens classes,
        subst (λ l. AreChanges k.0.0 l r.0) r.2.tokens r.2,
        (λ i. classes.tokens i ++ r.2.tokens i),
      )))
      (λ k y ts us key r.
      subst (IsPlain p (Word (codes "update")) (ts ++ us)) (sym r.2) (record {
        tree = Write_at k.0 r.0.2 (Update k.1 r.0.0 r.0.1 r.1.0) r.1.1;
        is = λ rest. refl;
        tokens = λ i. Word (codes "update") ∷ (key.tokens i ++ r.5 i);
        own = ((key.key.own, r.4.sets.own), r.4.outcome.own);
        fits = (key.within, r.3.at, (key.key.fits, r.3.class, r.3.from, r.4.sets.fits));
        kinds = ((key.key.kinds, r.4.sets.kinds), r.4.outcome.kind);
      }))
