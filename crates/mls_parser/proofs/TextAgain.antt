-- What stands there is read: parameters, variables and transactions.
use Rattle.std.proofs.Common.{◌≡◌, ℕ, zero, suc, ◌+◌, ◌<◌, ◌≤◌, true, false, not, ◌||◌, nat_lt, List, [], ◌∷◌, ◌++◌, length, map, Option, Some, None, Ok, refl, sym, ap, ◌∙◌, subst, arith, append_assoc, length-append, codes, is_some, if◌then◌else◌, flat_map, bytes_eq, lt-ltb, append-nil}
use Rattle.std.proofs.Recursive.{every_front, every_back}
use Rattle.std.specs.Prelude.{⊤}
use Rattle.std.specs.List.{AllByRecursion, IsDistinct, list_any}
use Rattle.std.specs.Cmp.Lexicographic.{nat_list_eq_equiv}
use Rattle.std.proofs.lemmas.Bool.{or_parts}
use Rattle.std.proofs.lemmas.List.{map_push}
use Rattle.std.proofs.lemmas.List.Folds.{list_any-append}
use Rattle.mls_lattice.specs.Canon.{label_name}
use Rattle.mls_lattice.specs.Labels.{below}
use Rattle.mls_lattice.specs.Name.{is_name, is_reserved}
use Rattle.mls_lattice.specs.Policy.{Name, Policy, IsPolicy, labels_of}
use Rattle.mls_lattice.specs.Reading.{◌>>=◌}
use Rattle.mls_lattice.proofs.NamedLemmas.{label_is_name}
use Rattle.mls_scheme.specs.declared.value.Kind.{Kind}
use Rattle.mls_scheme.specs.declared.value.Kind.TheVariants as kinds
use Rattle.mls_scheme.specs.Scheme.{Schemes, AreSchemes}
use Rattle.mls_scheme.proofs.NamedLemmas.{is_some-position}
use Rattle.mls_tokens.specs.declared.fault.TokenFault.{TokenFault}
use Rattle.mls_tokens.specs.declared.token.Token.{Token}
use Rattle.mls_tokens.specs.declared.token.Token.TheVariants.{Word, Sign}
use Rattle.mls_tokens.specs.declared.sign.Sign.TheVariants as sign
use Rattle.mls_tokens.specs.Scanning.{tokens_at, without_places}
use Rattle.mls_tokens.specs.Passing.{is_word, PlacedName}
use Rattle.mls_tokens.specs.Text.{separated}
use Rattle.mls_tokens.proofs.NextLemmas.{NotNext, over_again, not_over}
use Rattle.mls_tokens.proofs.TokensLemmas.{tokens_exact}
use Rattle.mls_translang.specs.declared.tx.Parameter.{Parameter}
use Rattle.mls_translang.specs.Fits.{IsLabel, IsReadUnder}
use Rattle.mls_scheme.specs.Named.{has_name}
use Rattle.mls_translang.specs.Tells.{TellsBlock, TellsTx, TellsEach, Tells}
use Rattle.mls_translang.specs.Tokens.{Context, label_token, kind_token, param_tokens, params_tokens, var_tokens, braced as braced_tokens, outermost as place_of}
use Rattle.mls_translang.specs.Tree.{Block}
use Rattle.mls_translang.specs.Tx.{Tx, IsTx}
use Rattle.mls_parser.specs.declared.draft.Draft.{Draft}
use Rattle.mls_parser.specs.declared.fault.PlacedFault.{PlacedFault}
use Rattle.mls_parser.specs.declared.fault.TextCause.TheVariants as cause
use Rattle.mls_parser.specs.Fault.{unless}
use Rattle.mls_parser.specs.Names.{label_named, relation_named, numbered}
use Rattle.mls_parser.specs.Noted.{State, Read, note, token, takes_sign, takes_word, sign_at, word_at, name_behind, known}
use Rattle.mls_parser.specs.Parsing.{noted}
use Rattle.mls_parser.specs.ReadBlock.{stmts_at}
use Rattle.mls_parser.specs.ReadTx.{too_many, with_next, things_from, kept, Declared, param_behind, next_param, params_behind, params_at, var_behind, var_if, next_var, vars_at, name_faults, levels_faults, heading_at, outermost, body_at, transaction_at, next_transaction, transactions_at, tx_of}
use Rattle.mls_parser.specs.Words.{kind_of, pass_known}
use Rattle.mls_parser.proofs.BlockAgain.{Closed, IsOther, block_begins, block_again}
use Rattle.mls_parser.proofs.FoundLemmas.{HasNames, named_any, distinct_front, new_behind, label_again}
use Rattle.mls_parser.proofs.HeaderFound.{names_of}
use Rattle.mls_parser.proofs.OrderLemmas.{pushed, AllFit, all_again}
use Rattle.mls_parser.proofs.NextLemmas.{Gets, Same, gets_more, gets_then, placed_then, gets_done, gets_noted, gets_is, quiet, sign_gets, word_gets, name_gets, behind_gets, known_gets, took_sign, took_word, after_took, no_sign, no_word, none, none_two, none_known}

-- ---- names that are declared

kind_again : (k : Kind) → kind_of (kind_token k) ≡ Some k
kind_again kinds.Int = refl
kind_again kinds.Text = refl

kept_new : {T : Type 0} (front : List (Name × T)) (x : Name × T) → has_name front x.0 ≡ false → kept front x ≡ front
    ++ x ∷ []
kept_new front x new = ap (λ b. if b then front else (front ++ x ∷ [])) new

module _ {T : Type 0} (taken : List Name) where
  -- a name behind those that are taken and those before is new
  new_name : (front xs : List (Name × T)) (x : Name × T) → IsDistinct bytes_eq ((taken ++ names_of front)
      ++ names_of (x ∷ xs)) → (list_any (bytes_eq x.0) taken || has_name front x.0) ≡ false
  new_name front xs x d =
      (λ i. list_any (bytes_eq x.0) taken || sym (named_any (λ y. y.0) front x.0) i)
      ∙ sym (list_any-append (bytes_eq x.0) taken (names_of front)) ∙ new_behind bytes_eq nat_list_eq_equiv
      (taken ++ names_of front) x.0 (names_of xs) d

  -- and stands before the others
  next_name : (front xs : List (Name × T)) (x : Name × T) → IsDistinct bytes_eq ((taken ++ names_of front)
      ++ names_of (x ∷ xs)) → IsDistinct bytes_eq ((taken ++ names_of (front ++ x ∷ [])) ++ names_of xs)
  next_name front xs x d =
      subst (IsDistinct bytes_eq) (sym (ap (λ l. (taken ++ l) ++ names_of xs) (map_push (λ y. y.0) front x)
      ∙ ap (λ l. l ++ names_of xs) (sym (append_assoc taken (names_of front) (x.0 ∷ [])))
      ∙ append_assoc (taken ++ names_of front) (x.0 ∷ []) (names_of xs))) d

abbrev more : {T : Type 0} → Declared T → Name × T → Declared T
more front x = (front.0 ++ x ∷ [], front.1 + 1)

pushed_more : {T : Type 0} (front : Declared T) (xs : List (Name × T)) → (pushed more front xs).0 ≡ front.0 ++ xs
pushed_more front [] = sym (append-nil front.0)
pushed_more front (x ∷ xs) = pushed_more (more front x) xs ∙ append_assoc front.0 (x ∷ []) xs

-- ---- parameters

module _ (p : Context) (n : HasNames p) where
  record FitsParam (front : Declared Parameter) (x : Name × Parameter) : Type 0 where
    named : is_name x.0 ≡ true
    label : IsLabel p.policy x.1.label
    new : has_name front.0 x.0 ≡ false
    room : front.1 < 64

  param_gets : (front : List (Name × Parameter)) (x : Name × Parameter) (at : ℕ) (us : List Token) (s : State)
      → IsLabel p.policy x.1.label → has_name front x.0 ≡ false
      → without_places s.1.placed ≡ Sign sign.Colon ∷ kind_token x.1.kind ∷ Word (codes "at") ∷ label_token p x.1.label
      ∷ us → Gets (param_behind p.policy front (x.0, at) s) s (Same (front ++ x ∷ [])) us
  unfolding param_behind
  param_gets front x at us s h new k =
      let label = label_name p.policy.labels x.1.label in
      let found = label_again p.policy n.policy x.1.label h in
      let behind : List Token = Word (codes "at") ∷ Word label ∷ us in
      let made : Kind → Option ℕ → Name × Parameter = λ kind i. (x.0, record { kind = kind; label = numbered i }) in
      let faults : PlacedName → List PlacedFault = λ l. unless (not (has_name front x.0)) at cause.Repeated
      ++ known (label_named p.policy l.0) l.1 in
      let finish : Kind → PlacedName × State → Read (List (Name × Parameter)) =
      λ kind l. Ok (kept front (made kind (label_named p.policy l.0.0)), note (faults l.0) l.1) in
      gets_more (λ c. token (pass_known kind_of) c.1 >>= λ j. name_behind (codes "at") j.1 >>= finish j.0.0)
      (sign_gets sign.Colon (kind_token x.1.kind ∷ behind) s k)
      (λ c m is t. placed_then (λ j. name_behind (codes "at") j.1 >>= finish j.0.0) (known_gets kind_of x.1.kind
      (kind_token x.1.kind) behind (kind_again x.1.kind) (s.0, m) t)
      (λ j m2 t2. placed_then (finish x.1.kind) (behind_gets (codes "at") label us (s.0, m2)
      (label_is_name p.policy n.policy x.1.label h) t2)
      (λ l m3 t3. gets_noted (kept front (made x.1.kind (label_named p.policy label))) (faults (label, l)) s.0 m3
      (Same (front ++ x ∷ [])) us (none_two (none at cause.Repeated (ap not new)) (none_known x.1.label l found))
      (ap (λ i. kept front (made x.1.kind i)) found ∙ kept_new front x new) t3)))

  next_param_gets : (front : Declared Parameter) (x : Name × Parameter) (us : List Token) (s : State)
      → FitsParam front x → ⊤ → without_places s.1.placed ≡ param_tokens p x ++ us
      → Gets (next_param p.policy front s) s (Same (more front x)) us
  unfolding next_param
  next_param_gets front x us s h end k =
      let inside : PlacedName → State → Read (Declared Parameter) = λ a r. param_behind p.policy front.0 a r >>=
      λ ps. Ok ((ps.0, front.1 + 1), ps.1) in
      placed_then (λ a. if nat_lt front.1 64 then inside a.0 a.1 else too_many a.0.1)
      (name_gets x.0 (Sign sign.Colon ∷ kind_token x.1.kind ∷ Word (codes "at") ∷ label_token p x.1.label
      ∷ us) s h.named k)
      (λ at m t. gets_is (if nat_lt front.1 64 then inside (x.0, at) (s.0, m) else too_many at)
      (inside (x.0, at) (s.0, m)) (s.0, m) (Same (more front x)) us
      (ap (λ b. if b then inside (x.0, at) (s.0, m) else too_many at) (lt-ltb front.1 64 h.room))
      (gets_then (λ ps. Ok ((ps.0, front.1 + 1), ps.1)) (param_gets front.0 x at us (s.0, m) h.label h.new t)
      (λ m2 t2. gets_done (more front x) s.0 m2 (Same (more front x)) us refl t2)))

  params_fit : (front : Declared Parameter) (xs : List (Name × Parameter)) → front.1 + length xs ≤ 64
      → AllByRecursion (λ a. is_name a ≡ true) (names_of xs) → IsDistinct bytes_eq (names_of front.0 ++ names_of xs)
      → AllByRecursion (λ x. IsLabel p.policy x.1.label) xs → AllFit more FitsParam front xs
  params_fit front [] few named d l = tt
  params_fit front (x ∷ xs) few named d l = (
    record { named = named.0; label = l.0; new = new_name [] front.0 xs x d; room = omega (arith, few) },
    params_fit (more front x) xs (omega (arith, few)) named.1 (next_name [] front.0 xs x d) l.1,
  )

  rest_gets : (xs : List (Name × Parameter)) (us : List Token) (s : State) → AllFit more FitsParam ([], 0) xs
      → without_places s.1.placed ≡ separated (param_tokens p) xs ++ (Sign sign.RightParen ∷ us)
      → Gets (params_behind p.policy s (takes_sign sign.RightParen s)) s (Same xs) us
  rest_gets [] us s fit k =
      let end = took_sign sign.RightParen us s k in
      gets_is (params_behind p.policy s (takes_sign sign.RightParen s)) (Ok ([], (s.0, end.rest))) s (Same []) us
      (ap (params_behind p.policy s) end.is) (after_took end (gets_done [] s.0 end.rest
      (Same []) us refl end.tokens))
  rest_gets (x ∷ xs) us s fit k =
      let close : List Token = Sign sign.RightParen ∷ us in
      let all : Declared Parameter = pushed more ([], 0) (x ∷ xs) in
      gets_is (params_behind p.policy s (takes_sign sign.RightParen s)) (params_behind p.policy s None) s
      (Same (x ∷ xs)) us (ap (params_behind p.policy s) (no_sign sign.RightParen (separated (param_tokens p)
      (x ∷ xs) ++ close) s refl k))
      (gets_then (λ ps. sign_at sign.RightParen ps.1 >>= λ end. Ok (ps.0.0, end.1)) (all_again (next_param p.policy)
      (param_tokens p) more FitsParam (λ ts. ⊤) (λ ts. tt) next_param_gets ([], 0) x xs close s fit tt refl k)
      (λ m t. gets_more (λ end. Ok (all.0, end.1)) (sign_gets sign.RightParen us (s.0, m) t)
      (λ end m2 is t2. gets_done all.0 s.0 m2 (Same (x ∷ xs)) us (pushed_more ([], 0) (x ∷ xs)) t2)))

  params_gets : (xs : List (Name × Parameter)) (us : List Token) (s : State) → AllFit more FitsParam ([], 0) xs
      → without_places s.1.placed ≡ params_tokens p xs ++ us → Gets (params_at p.policy s) s (Same xs) us
  unfolding params_at
  params_gets xs us s fit k =
      let close : List Token = Sign sign.RightParen ∷ [] in
      gets_more (λ x. params_behind p.policy x.1 (takes_sign sign.RightParen x.1)) (sign_gets sign.LeftParen
      ((separated (param_tokens p) xs ++ close) ++ us) s k)
      (λ x m is t. rest_gets xs us (s.0, m) fit (t ∙ append_assoc (separated (param_tokens p) xs) close us))

-- ---- one after another

abbrev TellsAll : {X : Type 0} → (X → List Token → Type 0) → List X → List Token → Type 0
TellsAll tells [] ts = ts ≡ []
TellsAll tells (x ∷ xs) ts = (a r : List Token) × (ts ≡ a ++ r) × tells x a × TellsAll tells xs r

module _ {X A : Type 0} (next : A → State → Read (Option A)) (push : A → X → A) (Fits : A → X → Type 0) (tells : X
    → List Token → Type 0) (us : List Token) (stop : TokenFault)
    (last : (front : A) (s : State) → without_places s.1.placed ≡ us → s.1.stop ≡ stop → next front s ≡ Ok (None, s))
    (again : (front : A) (x : X) (ts vs : List Token) (s : State) → Fits front x → tells x ts
    → without_places s.1.placed ≡ ts ++ vs → Gets (next front s) s (Same (Some (push front x))) vs) where
  things_again : (n : ℕ) (front : A) (xs : List X) (ts : List Token) (s : State) → length xs < n
      → AllFit push Fits front xs → TellsAll tells xs ts → without_places s.1.placed ≡ ts ++ us → s.1.stop ≡ stop
      → Gets (things_from next n front s) s (Same (pushed push front xs)) us
  things_again zero front xs ts s less h t k e = absurd (omega (arith, less))
  things_again (suc n) front [] ts s less h t k e =
      let here : without_places s.1.placed ≡ us = k ∙ ap (λ l. l ++ us) t in
      record {
        value = front;
        rest = s.1;
        is = ap (λ z. z >>= with_next (λ new r. things_from next n new r) front)
            (last front s here e);
        holds = refl;
        tokens = here;
        stop = refl;
      }
  things_again (suc n) front (x ∷ xs) ts s less h t k e =
      let rest : Option A × State → Read A = with_next (λ new r. things_from next n new r) front in
      let one = again front x t.0 (t.1 ++ us) s h.0 t.3 (k ∙ ap (λ l. l ++ us) t.2 ∙ append_assoc t.0 t.1 us) in
      let g = things_again n (push front x) xs t.1 (s.0, one.rest) (omega (arith, less)) h.1 t.4 one.tokens
      (one.stop ∙ e) in
      record {
        value = g.value;
        rest = g.rest;
        is = ap (λ z. z >>= rest) one.is
            ∙ ap (λ o. rest (o, (s.0, one.rest))) one.holds ∙ g.is;
        holds = g.holds;
        tokens = g.tokens;
        stop = g.stop
            ∙ one.stop;
      }

-- ---- variables

is_var : IsOther (codes "var")
unfolding is_reserved
is_var = record {
  reserved = refl;
  no_if = refl;
  no_for = refl;
  no_insert = refl;
  no_update = refl;
  no_delete = refl;
  no_release = refl;
  no_emit = refl;
}

module _ (params : List (Name × Parameter)) where
  record FitsVar (front : Declared Kind) (x : Name × Kind) : Type 0 where
    named : is_name x.0 ≡ true
    free : (has_name params x.0 || has_name front.0 x.0) ≡ false
    room : front.1 < 64

  var_gets : (front : List (Name × Kind)) (x : Name × Kind) (us : List Token) (s : State) → is_name x.0 ≡ true
      → (has_name params x.0 || has_name front x.0) ≡ false
      → without_places s.1.placed ≡ Word x.0 ∷ Sign sign.Colon ∷ kind_token x.1 ∷ Sign sign.Semicolon ∷ us
      → Gets (var_behind params front s) s (Same (front ++ x ∷ [])) us
  unfolding var_behind
  var_gets front x us s named free k =
      let behind : List Token = Sign sign.Semicolon ∷ us in
      let faults : PlacedName → List PlacedFault =
      λ a. unless (not (has_name params a.0 || has_name front a.0)) a.1 cause.Repeated in
      let finish : PlacedName → Kind → State → Read (List (Name × Kind)) = λ a kind r. sign_at sign.Semicolon r >>=
      λ end. Ok (kept front (a.0, kind), note (faults a) end.1) in
      placed_then (λ a. sign_at sign.Colon a.1 >>= λ c. token (pass_known kind_of) c.1 >>= λ j. finish a.0 j.0.0 j.1)
      (name_gets x.0 (Sign sign.Colon ∷ kind_token x.1 ∷ behind) s named k)
      (λ at m t. gets_more (λ c. token (pass_known kind_of) c.1 >>= λ j. finish (x.0, at) j.0.0 j.1)
      (sign_gets sign.Colon (kind_token x.1 ∷ behind) (s.0, m) t)
      (λ c m2 is t2. placed_then (λ j. finish (x.0, at) j.0.0 j.1) (known_gets kind_of x.1 (kind_token x.1) behind
      (kind_again x.1) (s.0, m2) t2)
      (λ j m3 t3. gets_more (λ end. Ok (kept front x, note (faults (x.0, at)) end.1)) (sign_gets sign.Semicolon us (
        s.0,
        m3,
      ) t3)
      (λ end m4 i4 t4. gets_noted (kept front x) (faults (x.0, at)) s.0 m4 (Same (front ++ x ∷ [])) us
      (none at cause.Repeated (ap not free)) (kept_new front x (or_parts (has_name params x.0)
      (has_name front x.0) free).1) t4))))

  next_var_gets : (front : Declared Kind) (x : Name × Kind) (ts vs : List Token) (s : State) → FitsVar front x
      → ts ≡ var_tokens x → without_places s.1.placed ≡ ts ++ vs → Gets (next_var params front s) s
      (Same (Some (more front x))) vs
  unfolding next_var
  next_var_gets front x ts vs s h t k =
      let new : Option (Declared Kind) = Some (more front x) in
      let inside : State → Read (Option (Declared Kind)) = λ r. var_behind params front.0 r >>=
      λ xs. Ok (Some (xs.0, front.1 + 1), xs.1) in
      let word = took_word (codes "var") (Word x.0 ∷ Sign sign.Colon ∷ kind_token x.1 ∷ Sign sign.Semicolon ∷ vs) s
      (k ∙ ap (λ l. l ++ vs) t) in
      gets_is (var_if params front s (takes_word (codes "var") s)) (inside (s.0, word.rest)) s (Same new) vs
      (ap (var_if params front s) word.is ∙ ap (λ b. if b then inside (s.0, word.rest) else too_many word.at)
      (lt-ltb front.1 64 h.room))
      (after_took word (gets_then (λ xs. Ok (Some (xs.0, front.1 + 1), xs.1)) (var_gets front.0 x vs (
        s.0,
        word.rest,
      ) h.named h.free word.tokens) (λ m j. gets_done new s.0 m (Same new) vs refl j)))

  vars_fit : (front : Declared Kind) (xs : List (Name × Kind)) → front.1 + length xs ≤ 64
      → AllByRecursion (λ a. is_name a ≡ true) (names_of xs)
      → IsDistinct bytes_eq ((names_of params ++ names_of front.0) ++ names_of xs) → AllFit more FitsVar front xs
  vars_fit front [] few named d = tt
  vars_fit front (x ∷ xs) few named d = (
    record {
      named = named.0;
      free = (λ i. sym (named_any (λ y. y.0) params x.0) i || has_name front.0 x.0)
          ∙ new_name (names_of params) front.0 xs x d;
      room = omega (arith, few);
    },
    vars_fit (more front x) xs (omega (arith, few)) named.1 (next_name (names_of params) front.0 xs x d),
  )

  vars_told : (xs : List (Name × Kind)) → TellsAll (λ x ts. ts ≡ var_tokens x) xs (flat_map var_tokens xs)
  vars_told [] = refl
  vars_told (x ∷ xs) = (var_tokens x, flat_map var_tokens xs, refl, refl, vars_told xs)

  vars_gets : (xs : List (Name × Kind)) (us : List Token) (s : State) → length xs ≤ 64 → AllFit more FitsVar ([], 0) xs
      → NotNext (is_word (codes "var")) us → without_places s.1.placed ≡ flat_map var_tokens xs ++ us
      → Gets (vars_at params s) s (Same xs) us
  unfolding vars_at next_var
  vars_gets xs us s few fit off k =
      let all : Declared Kind = pushed more ([], 0) xs in
      gets_then (λ vs. Ok (vs.0.0, vs.1))
      (things_again (next_var params) more FitsVar (λ x ts. ts ≡ var_tokens x) us s.1.stop
      (λ front r here e. ap (var_if params front r) (no_word (codes "var") us r off here)) next_var_gets 65 (
        [],
        0,
      ) xs (flat_map var_tokens xs) s (omega (arith, few)) fit
      (vars_told xs) k refl)
      (λ m t. gets_done all.0 s.0 m (Same xs) us (pushed_more ([], 0) xs) t)

-- ---- transactions

abbrev pub draft_of : Tx → Draft
draft_of tx = record { name = tx.name; lo = tx.lo; hi = tx.hi; params = tx.params; vars = tx.vars; body = tx.body }

abbrev pub drafts : List Draft → Tx → List Draft
drafts front tx = front ++ draft_of tx ∷ []

module _ (policy : Policy) (schemes : Schemes) (of_policy : IsPolicy policy) (of_schemes : AreSchemes schemes) where
  -- no earlier transaction has the name
  abbrev IsNew : List Draft → Tx → Type 0
  IsNew earlier tx = list_any (bytes_eq tx.name) (map (λ d. d.name) earlier) ≡ false

  no_relation : (name : Name) → list_any (λ s. bytes_eq s.name name) schemes ≡ false
      → is_some (relation_named schemes name) ≡ false
  unfolding relation_named
  no_relation name h = is_some-position (λ s. bytes_eq s.name name) schemes ∙ h

  heading_gets : (earlier : List Draft) (tx : Tx) (us : List Token) (s : State) → is_name tx.name ≡ true
      → IsReadUnder policy schemes tx → IsNew earlier tx
      → without_places s.1.placed ≡ Word tx.name ∷ Word (codes "levels") ∷ Word (label_name policy.labels tx.lo)
      ∷ Word (codes "to") ∷ Word (label_name policy.labels tx.hi) ∷ us
      → Gets (heading_at policy schemes earlier s) s (Same (tx.name, tx.lo, tx.hi)) us
  unfolding heading_at
  heading_gets earlier tx us s named read new k =
      let low = label_name policy.labels tx.lo in
      let high = label_name policy.labels tx.hi in
      let lo = label_again policy of_policy tx.lo read.lo in
      let hi = label_again policy of_policy tx.hi read.hi in
      let value : Name × ℕ × ℕ = (tx.name, tx.lo, tx.hi) in
      let finish : Name → PlacedName → PlacedName × State → Read (Name × ℕ × ℕ) =
      λ name a b. Ok (
        (name, numbered (label_named policy a.0), numbered (label_named policy b.0.0)),
        note (levels_faults policy a b.0) b.1,
      ) in
      let levels : Name → State → Read (Name × ℕ × ℕ) = λ name r. name_behind (codes "levels") r >>=
      λ a. name_behind (codes "to") a.1 >>= finish name a.0 in
      let free : (is_some (relation_named schemes tx.name) || list_any (bytes_eq tx.name) (map (λ d. d.name) earlier))
      ≡ false = λ i. no_relation tx.name read.no_relation i || new i in
      let ordered : below (labels_of policy) (numbered (label_named policy low)) (numbered (label_named policy high))
      ≡ true = (λ i. below (labels_of policy) (numbered (lo i)) (numbered (hi i))) ∙ read.interval in
      placed_then (λ a. levels a.0.0 (note (name_faults schemes earlier a.0) a.1))
      (name_gets tx.name (Word (codes "levels") ∷ Word low ∷ Word (codes "to") ∷ Word high ∷ us) s named k)
      (λ at m t. gets_is (levels tx.name (note (name_faults schemes earlier (tx.name, at)) (s.0, m)))
      (levels tx.name (s.0, m)) (s.0, m) (Same value) us
      (ap (levels tx.name) (quiet (name_faults schemes earlier (tx.name, at)) s.0 m
      (none at cause.Repeated (ap not free))))
      (placed_then (λ a. name_behind (codes "to") a.1 >>= finish tx.name a.0) (behind_gets (codes "levels") low
      (Word (codes "to") ∷ Word high ∷ us) (s.0, m) (label_is_name policy of_policy tx.lo read.lo) t)
      (λ at_lo m2 t2. placed_then (finish tx.name (low, at_lo)) (behind_gets (codes "to") high us (s.0, m2)
      (label_is_name policy of_policy tx.hi read.hi) t2)
      (λ at_hi m3 t3. gets_noted (tx.name, numbered (label_named policy low), numbered (label_named policy high))
      (levels_faults policy (low, at_lo) (high, at_hi)) s.0 m3 (Same value) us
      (none_two (none_known tx.lo at_lo lo) (none_two (none_known tx.hi at_hi hi)
      (none at_hi cause.LabelOrder ordered))) (λ i. (tx.name, numbered (lo i), numbered (hi i))) t3))))

  names_outside : (tx : Tx) → IsTx tx → HasNames (place_of policy schemes tx)
  unfolding IsDistinct
  names_outside tx is = record {
    policy = of_policy;
    schemes = of_schemes;
    names = is.names;
    row_apart = tt;
    apart =
        is.apart;
    rows = tt;
  }

  body_gets : (tx : Tx) (b us : List Token) (s : State) → IsTx tx → IsReadUnder policy schemes tx
      → TellsBlock (place_of policy schemes tx) tx.body b → without_places s.1.placed
      ≡ braced_tokens (flat_map var_tokens tx.vars ++ b) ++ us
      → Gets (body_at policy schemes tx.hi tx.params s) s (Same (tx.vars, tx.body)) us
  unfolding body_at
  body_gets tx b us s is read told k =
      let p = place_of policy schemes tx in
      let n = names_outside tx is in
      let v : List Token = flat_map var_tokens tx.vars in
      let close : List Token = Sign sign.RightBrace ∷ [] in
      let names = every_back (λ a. is_name a ≡ true) _ (names_of tx.params) (names_of tx.vars) is.names refl in
      let few = is.few_vars in
      let fit = vars_fit tx.params ([], 0) tx.vars (omega (arith, few)) names
      (subst (λ l. IsDistinct bytes_eq (l ++ names_of tx.vars)) (sym (append-nil (names_of tx.params))) is.apart) in
      let whole : ((v ++ b) ++ close) ++ us ≡ v ++ (b ++ Closed us) = append_assoc (v ++ b) close us ∙ append_assoc v b
      (Closed us) in
      gets_more (λ brace. vars_at tx.params brace.1 >>=
      λ vs. stmts_at 16 (outermost policy schemes tx.hi tx.params vs.0) 0 vs.1 >>= λ x. Ok ((vs.0, x.0.0), x.1))
      (sign_gets sign.LeftBrace (((v ++ b) ++ close) ++ us) s k)
      (λ brace m i t. gets_then (λ vs. stmts_at 16 (outermost policy schemes tx.hi tx.params vs.0) 0 vs.1 >>=
      λ x. Ok ((vs.0, x.0.0), x.1))
      (vars_gets tx.params tx.vars (b ++ Closed us) (s.0, m) is.few_vars fit
      (block_begins (codes "var") is_var p n tx.body b us is.own told) (t ∙ whole))
      (λ m2 t2. gets_then (λ x. Ok ((tx.vars, x.0.0), x.1)) (block_again p tx.body b us (
        s.0,
        m2,
      ) n is.shallow is.few_statements is.own read.fits read.kinds told t2)
      (λ m3 t3. gets_done (tx.vars, tx.body) s.0 m3 (Same (tx.vars, tx.body)) us refl t3)))

  abbrev behind_heading : Tx → List Token → List Token
  behind_heading tx b = params_tokens (place_of policy schemes tx) tx.params ++ braced_tokens
      (flat_map var_tokens tx.vars ++ b)

  transaction_gets : (earlier : List Draft) (tx : Tx) (b us : List Token) (s : State) → IsTx tx
      → IsReadUnder policy schemes tx → IsNew earlier tx → TellsBlock (place_of policy schemes tx) tx.body b
      → without_places s.1.placed ≡ Word tx.name ∷ Word (codes "levels") ∷ Word (label_name policy.labels tx.lo)
      ∷ Word (codes "to") ∷ Word (label_name policy.labels tx.hi) ∷ (behind_heading tx b ++ us)
      → Gets (transaction_at policy schemes earlier s) s (Same (draft_of tx)) us
  unfolding transaction_at
  transaction_gets earlier tx b us s is read new told k =
      let p = place_of policy schemes tx in
      let block : List Token = braced_tokens (flat_map var_tokens tx.vars ++ b) in
      let names = every_front (λ a. is_name a ≡ true) _ (names_of tx.params) (names_of tx.vars) is.names refl in
      let few = is.few_params in
      let fit = params_fit p (names_outside tx is) ([], 0) tx.params (omega (arith, few)) names
      (distinct_front bytes_eq (names_of tx.params) (names_of tx.vars) is.apart) read.params in
      let whole : Name × ℕ × ℕ → List (Name × Parameter) → List (Name × Kind) × Block
      → Draft = λ h ps x. record { name = h.0; lo = h.1; hi = h.2; params = ps; vars = x.0; body = x.1 } in
      gets_then (λ h. params_at policy h.1 >>= λ ps. body_at policy schemes h.0.2 ps.0 ps.1 >>=
      λ x. Ok (whole h.0 ps.0 x.0, x.1)) (heading_gets earlier tx (behind_heading tx b ++ us) s is.name read new k)
      (λ m t. gets_then (λ ps. body_at policy schemes tx.hi ps.0 ps.1 >>=
      λ x. Ok (whole (tx.name, tx.lo, tx.hi) ps.0 x.0, x.1))
      (params_gets p (names_outside tx is) tx.params (block ++ us) (s.0, m) fit
      (t ∙ append_assoc (params_tokens p tx.params) block us))
      (λ m2 t2. gets_then (λ x. Ok (whole (tx.name, tx.lo, tx.hi) tx.params x.0, x.1))
      (body_gets tx b us (s.0, m2) is read told t2) (λ m3 t3. gets_done (draft_of tx) s.0 m3
      (Same (draft_of tx)) us refl t3)))

  -- ---- all transactions

  record FitsTx (front : List Draft) (tx : Tx) : Type 0 where
    is : IsTx tx
    read : IsReadUnder policy schemes tx
    new : IsNew front tx
    room : length front < 64

  abbrev told_tx : Tx → List Token → Type 0
  told_tx tx ts = TellsTx (place_of policy schemes tx) tx ts

  next_gets : (front : List Draft) (tx : Tx) (ts vs : List Token) (s : State) → FitsTx front tx → told_tx tx ts
      → without_places s.1.placed ≡ ts ++ vs → Gets (next_transaction policy schemes front s) s
      (Same (Some (drafts front tx))) vs
  unfolding next_transaction
  next_gets front tx ts vs s h t k =
      let new : Option (List Draft) = Some (drafts front tx) in
      let behind : List Token = Word tx.name ∷ Word (codes "levels") ∷ Word (label_name policy.labels tx.lo)
      ∷ Word (codes "to") ∷ Word (label_name policy.labels tx.hi) ∷ (behind_heading tx t.0 ++ vs) in
      let here : without_places s.1.placed ≡ Word (codes "transaction") ∷ behind = k ∙ ap (λ l. l ++ vs) t.1 in
      let inside : State → Read (Option (List Draft)) = λ r. transaction_at policy schemes front r >>=
      λ d. Ok (Some (front ++ d.0 ∷ []), d.1) in
      let word : ℕ × State → Read (Option (List Draft)) =
      λ w. if nat_lt (length front) 64 then inside w.1 else too_many w.0 in
      gets_is (next_transaction policy schemes front s) (word_at (codes "transaction") s >>= word) s (Same new) vs
      (ap (λ b. if b then Ok (None, s) else (word_at (codes "transaction") s >>= word)) (not_over s.1.placed s.1.stop
      (Word (codes "transaction")) behind here))
      (gets_more word (word_gets (codes "transaction") behind s here)
      (λ at m i j. gets_is (word (at, (s.0, m))) (inside (s.0, m)) (s.0, m) (Same new) vs
      (ap (λ b. if b then inside (s.0, m) else too_many at) (lt-ltb (length front) 64 h.room))
      (gets_then (λ d. Ok (Some (front ++ d.0 ∷ []), d.1)) (transaction_gets front tx t.0 vs (
        s.0,
        m,
      ) h.is h.read h.new t.2 j) (λ m2 t2. gets_done new s.0 m2 (Same new) vs refl t2))))

  abbrev drafted : List Draft → List Name
  drafted = map (λ d. d.name)

  abbrev named : List Tx → List Name
  named = map (λ tx. tx.name)

  txs_fit : (front : List Draft) (txs : List Tx) → length front + length txs ≤ 64
      → IsDistinct bytes_eq (drafted front ++ named txs) → AllByRecursion IsTx txs
      → AllByRecursion (IsReadUnder policy schemes) txs → AllFit drafts FitsTx front txs
  txs_fit front [] few d is read = tt
  txs_fit front (tx ∷ txs) few d is read =
      let longer : length (drafts front tx) ≡ length front + 1 = length-append front (draft_of tx ∷ []) in
      let apart : IsDistinct bytes_eq (drafted (drafts front tx) ++ named txs) =
      subst (IsDistinct bytes_eq) (sym (ap (λ l. l ++ named txs) (map_push (λ x. x.name) front (draft_of tx))
      ∙ append_assoc (drafted front) (tx.name ∷ []) (named txs))) d in (
        record {
          is = is.0;
          read = read.0;
          new = new_behind bytes_eq nat_list_eq_equiv (drafted front) tx.name
              (named txs) d;
          room = omega (arith, few);
        },
        txs_fit (drafts front tx) txs (omega (arith, few, longer)) apart is.1 read.1,
      )

  each_told : (txs : List Tx) (ts : List Token) → TellsEach policy schemes txs ts → TellsAll told_tx txs ts
  each_told [] ts t = t
  each_told (tx ∷ txs) ts t = (t.0, t.1, t.2, t.3, each_told txs t.1 t.4)

  drafts_whole : (front : List Draft) (txs : List Tx) → map tx_of (pushed drafts front txs) ≡ map tx_of front ++ txs
  drafts_whole front [] = sym (append-nil (map tx_of front))
  drafts_whole front (tx ∷ txs) = drafts_whole (drafts front tx) txs ∙ ap (λ l. l ++ txs)
      (map_push tx_of front (draft_of tx)) ∙ append_assoc (map tx_of front) (tx ∷ []) txs

  -- of a text that tells transactions these are read, and no fault is noted
  pub text_gets : (bytes : List ℕ) (txs : List Tx) → Tells policy schemes bytes txs → Gets (noted policy schemes bytes)
      ([], tokens_at bytes) (λ ds. map tx_of ds ≡ txs) []
  unfolding transactions_at next_transaction
  text_gets bytes txs t =
      let start : State = ([], tokens_at bytes) in
      let scanned = (tokens_exact bytes t.tokens).1 t.text in
      let few = t.read.few in
      let g = things_again (next_transaction policy schemes) drafts FitsTx told_tx [] start.1.stop
      (λ front s here e. ap (λ b. if b then Ok (None, s) else (word_at (codes "transaction") s >>=
      λ word. if nat_lt (length front) 64 then (transaction_at policy schemes front word.1 >>=
      λ d. Ok (Some (front ++ d.0 ∷ []), d.1)) else too_many word.0))
      (over_again s.1.placed s.1.stop here (ap (λ (f : TokenFault). f.cause) e
      ∙ scanned.1))) next_gets 65 [] txs t.tokens start (omega (arith, few))
      (txs_fit [] txs (omega (arith, few)) t.read.apart t.each t.read.each)
      (each_told txs t.tokens t.told) (scanned.0 ∙ sym (append-nil t.tokens)) refl in
      record {
        value = g.value;
        rest = g.rest;
        is = g.is;
        holds = ap (map tx_of) g.holds ∙ drafts_whole [] txs;
        tokens =
            g.tokens;
        stop = g.stop;
      }
