-- What is read is what stands there: parameters and variables.
use Rattle.std.proofs.Common.{◌≡◌, ℕ, zero, suc, ◌+◌, ◌<◌, ◌≤◌, Bool, true, false, not, ◌||◌, nat_lt, List, [], ◌∷◌, ◌++◌, length, map, Option, Some, None, Ok, refl, sym, ap, ◌∙◌, subst, arith, append_assoc, codes, if◌then◌else◌, flat_map, bytes_eq, ltb-true, append-nil}
use Rattle.std.specs.List.{AllByRecursion, IsDistinct, list_any}
use Rattle.std.specs.Cmp.Lexicographic.{nat_list_eq_equiv}
use Rattle.std.proofs.lemmas.Bool.{or_parts, not-true}
use Rattle.std.proofs.lemmas.List.{map_push}
use Rattle.std.proofs.lemmas.List.Folds.{list_any-append}
use Rattle.std.proofs.lemmas.Map.Keys.{IsDistinct-push}
use Rattle.mls_lattice.specs.Name.{is_name}
use Rattle.mls_lattice.specs.Canon.{label_name}
use Rattle.mls_lattice.specs.Policy.{Name, Policy}
use Rattle.mls_lattice.specs.Reading.{◌>>=◌}
use Rattle.mls_lattice.proofs.ReadingLemmas.{bind_ok, same_ok}
use Rattle.mls_scheme.specs.declared.value.Kind.{Kind}
use Rattle.mls_tokens.specs.declared.token.Token.{Token}
use Rattle.mls_tokens.specs.declared.token.Token.TheVariants.{Word, Sign}
use Rattle.mls_tokens.specs.declared.sign.Sign.TheVariants as sign
use Rattle.mls_tokens.specs.Text.{separated}
use Rattle.mls_tokens.specs.Passing.{PlacedName}
use Rattle.mls_tokens.proofs.PassedLemmas.{passed_more}
use Rattle.mls_translang.specs.declared.tx.Parameter.{Parameter}
use Rattle.mls_translang.specs.Fits.{IsLabel}
use Rattle.mls_scheme.specs.Named.{has_name}
use Rattle.mls_translang.specs.Tokens.{kind_token, var_tokens}
use Rattle.mls_parser.specs.declared.fault.PlacedFault.{PlacedFault}
use Rattle.mls_parser.specs.declared.fault.TextCause.TheVariants as cause
use Rattle.mls_parser.specs.Fault.{unless}
use Rattle.mls_parser.specs.Names.{label_named, numbered}
use Rattle.mls_parser.specs.Noted.{State, Read, note, token, takes_sign, takes_word, sign_at, name_at, name_behind, known}
use Rattle.mls_parser.specs.ReadList.{items_at}
use Rattle.mls_parser.specs.ReadTx.{too_many, with_next, things_from, kept, Declared, param_behind, next_param, params_behind, params_at, var_behind, var_if, next_var, vars_at}
use Rattle.mls_parser.specs.Words.{kind_of, pass_known}
use Rattle.mls_parser.proofs.FaultLemmas.{neither, holds}
use Rattle.mls_parser.proofs.FoundLemmas.{named_any}
use Rattle.mls_parser.proofs.FoundSteps.{Found, found_none, found_next, found_noted, found_made, sign_read, name_read, behind_read}
use Rattle.mls_parser.proofs.OrderLemmas.{Steps, steps_read}
use Rattle.mls_parser.proofs.NumberLemmas.{label_spelled}
use Rattle.mls_parser.proofs.PassedLemmas.{known_found, sign_taken, word_taken, split}
use Rattle.mls_parser.proofs.StmtFound.{label_known}
use Rattle.mls_parser.proofs.WordLemmas.{kind_is}

-- ---- what is declared by name

pub none_apart : IsDistinct bytes_eq []
unfolding IsDistinct
none_apart = tt

abbrev pub names_of : {T : Type 0} → List (Name × T) → List Name
names_of = map (λ x. x.0)

-- these things are declared, behind those before and under names that are taken
pub record AreDeclared {T : Type 0} (P : T → Type 0) (base : List Name) (front : Declared T) (xs : List (Name × T))
    (new : Declared T) : Type 0 where
  pub whole : new.0 ≡ front.0 ++ xs
  pub count : new.1 ≡ front.1 + length xs
  pub few : front.1 ≤ 64 → new.1 ≤ 64
  pub names : AllByRecursion (λ n. is_name n ≡ true) (names_of xs)
  pub apart : IsDistinct bytes_eq (base ++ names_of front.0) → IsDistinct bytes_eq (base ++ names_of new.0)
  pub good : AllByRecursion (λ x. P x.1) xs

module _ {T : Type 0} (P : T → Type 0) (base : List Name) where
  pub declared_none : (front : Declared T) → AreDeclared P base front [] front
  declared_none front = record {
    whole = sym (append-nil front.0);
    count = omega arith;
    few = λ m. m;
    names = tt;
    apart = λ d. d;
    good = tt;
  }

  pub declared_more : (front mid new : Declared T) (x : Name × T) (xs : List (Name × T))
      → AreDeclared P base front (x ∷ []) mid → AreDeclared P base mid xs new → AreDeclared P base front (x ∷ xs) new
  declared_more front mid new x xs a b = record {
    whole = b.whole ∙ ap (λ l. l ++ xs) a.whole ∙ append_assoc front.0 (x ∷ []) xs;
    count = (let m = a.count in let n = b.count in omega (arith, m, n));
    few = λ m. b.few (a.few m);
    names = (a.names.0, b.names);
    apart = λ d. b.apart (a.apart d);
    good = (a.good.0, b.good);
  }

  -- one more, of a name that is not taken
  pub one_more : (front : Declared T) (x : Name × T) → has_name front.0 x.0 ≡ false → list_any (bytes_eq x.0) base
      ≡ false → front.1 < 64 → is_name x.0 ≡ true → P x.1 → AreDeclared P base front (x ∷ []) (
        kept front.0 x,
        front.1 + 1,
      )
  one_more front x new free room named good =
      let whole : kept front.0 x ≡ front.0 ++ x ∷ [] = rw new refl in
      let all : base ++ names_of (kept front.0 x) ≡ (base ++ names_of front.0) ++ x.0 ∷ [] =
      ap (λ l. base ++ names_of l) whole ∙ ap (λ l. base ++ l) (map_push (λ y. y.0) front.0 x)
      ∙ sym (append_assoc base (names_of front.0) (x.0 ∷ [])) in
      let fresh : list_any (bytes_eq x.0) (base ++ names_of front.0) ≡ false =
      list_any-append (bytes_eq x.0) base (names_of front.0) ∙ (λ i. free i || (named_any (λ y. y.0) front.0 x.0
      ∙ new) i) in
      record {
        whole = whole;
        count = refl;
        few = λ m. omega (arith, room);
        names = (named, tt);
        apart = λ d. subst (IsDistinct bytes_eq) (sym all) (IsDistinct-push nat_list_eq_equiv
            (base ++ names_of front.0) x.0 d fresh);
        good = (good, tt);
      }

kind_read : (s : State) (x : (Kind × ℕ) × State) → token (pass_known kind_of) s ≡ Ok x
    → Found (λ ts k. ts ≡ kind_token k.0 ∷ []) s x
kind_read s x e =
    let h = known_found kind_of s x e in
    record {
      tokens = h.0 ∷ [];
      passed = h.2.passed;
      right = λ none a. (
        sym h.2.faults ∙ none,
        ap (λ t. t ∷ []) (kind_is h.0 x.0.0 h.1),
      );
    }

pub roomy : {A : Type 0} (b : Bool) (r : Read A) (at : ℕ) (y : A × State) → (if b then r else too_many at) ≡ Ok y
    → (b ≡ true) × (r ≡ Ok y)
roomy true r at y e = (refl, e)
roomy false r at y e = absurd cc

-- ---- parameters

module _ (policy : Policy) where
  -- NAME : KIND at LABEL
  abbrev pub param_tokens : Name × Parameter → List Token
  param_tokens x = Word x.0 ∷ Sign sign.Colon ∷ kind_token x.1.kind ∷ Word (codes "at")
      ∷ Word (label_name policy.labels x.1.label) ∷ []

  abbrev pub IsLabelled : Parameter → Type 0
  IsLabelled x = IsLabel policy x.label

  record IsParam (front : Declared Parameter) (ts : List Token) (new : Declared Parameter) : Type 0 where
    item : Name × Parameter
    tokens : ts ≡ param_tokens item
    declared : AreDeclared IsLabelled [] front (item ∷ []) new

  -- behind its name, where there is room for it
  record IsKept (front : List (Name × Parameter)) (n : PlacedName) (ts : List Token)
      (new : List (Name × Parameter)) : Type 0 where
    item : Parameter
    tokens : Word n.0 ∷ ts ≡ param_tokens (n.0, item)
    is : new ≡ kept front (n.0, item)
    free : has_name front n.0 ≡ false
    label : IsLabelled item

  abbrev made : Kind → PlacedName → Parameter
  made k label = record { kind = k; label = numbered (label_named policy label.0) }

  abbrev param_faults : List (Name × Parameter) → PlacedName → PlacedName → List PlacedFault
  param_faults front n label = unless (not (has_name front n.0)) n.1 cause.Repeated
      ++ known (label_named policy label.0) label.1

  param_read : (front : List (Name × Parameter)) (n : PlacedName) (s : State) (x : List (Name × Parameter) × State)
      → param_behind policy front n s ≡ Ok x → Found (IsKept front n) s x
  unfolding param_behind
  param_read front n s =
      found_next (IsKept front n) (λ at ts y. IsKept front n (Sign sign.Colon ∷ ts) y) s (sign_at sign.Colon s)
      (λ c. token (pass_known kind_of) c.1 >>= λ k. name_behind (codes "at") k.1 >>=
      λ l. Ok (kept front (n.0, made k.0.0 l.0), note (param_faults front n l.0) l.1)) (sign_read sign.Colon s)
      (λ c.
      found_next (λ ts y. IsKept front n (Sign sign.Colon ∷ ts) y) (λ k ts y. IsKept front n (Sign sign.Colon
      ∷ kind_token k.0 ∷ ts) y) c.1 (token (pass_known kind_of) c.1)
      (λ k. name_behind (codes "at") k.1 >>= λ l. Ok (
        kept front (n.0, made k.0.0 l.0),
        note (param_faults front n l.0) l.1,
      )) (kind_read c.1)
      (λ k.
      found_noted (λ ts y. IsKept front n (Sign sign.Colon ∷ kind_token k.0.0 ∷ ts) y) k.1
      (name_behind (codes "at") k.1) (λ l. kept front (n.0, made k.0.0 l)) (param_faults front n)
      (behind_read (codes "at") k.1)
      (λ l ts none named.
      let t = neither _ (known (label_named policy l.0) l.1) none in
      record {
        item = made k.0.0 l;
        tokens = λ i. Word n.0 ∷ Sign sign.Colon ∷ kind_token k.0.0
            ∷ (named.0 ∙ (λ j. Word (codes "at") ∷ Word (sym (label_spelled policy l.0 l.1 t.1) j) ∷ [])) i;
        is = refl;
        free = not-true (has_name front n.0) (holds (not (has_name front n.0)) n.1 _ t.0);
        label = label_known policy l.0 l.1 t.1;
      }))
      (λ k y ts us kind r. subst (λ l. IsKept front n (Sign sign.Colon ∷ (l ++ us)) y) (sym kind) r))
      (λ at y ts us colon r. subst (λ l. IsKept front n (l ++ us) y) (sym colon) r)

  next_param_read : (front : Declared Parameter) (s : State) (x : Declared Parameter × State)
      → next_param policy front s ≡ Ok x → Found (IsParam front) s x
  unfolding next_param
  next_param_read front s =
      found_next (IsParam front) (λ n ts y. (ps : List (Name × Parameter)) × (y ≡ (ps, front.1 + 1)) × (front.1 < 64)
      × IsKept front.0 n ts ps) s (name_at s)
      (λ n. if nat_lt front.1 64 then (param_behind policy front.0 n.0 n.1 >>= λ ps. Ok (
        (ps.0, front.1 + 1),
        ps.1,
      )) else too_many n.0.1) (name_read s)
      (λ n y e.
      let r = roomy (nat_lt front.1 64) (param_behind policy front.0 n.0 n.1 >>= λ ps. Ok (
        (ps.0, front.1 + 1),
        ps.1,
      )) n.0.1 y e in
      found_made (λ ts z. (ps : List (Name × Parameter)) × (z ≡ (ps, front.1 + 1)) × (front.1 < 64)
      × IsKept front.0 n.0 ts ps) n.1 (param_behind policy front.0 n.0 n.1) (λ ps. (ps, front.1 + 1))
      (param_read front.0 n.0 n.1)
      (λ ps ts k. (ps, refl, ltb-true front.1 64 r.0, k)) y r.1)
      (λ n y ts us named r.
      let k = r.3 in
      subst (IsParam front (ts ++ us)) (sym (r.1 ∙ ap (λ ps. (ps, front.1 + 1)) k.is)) (record {
        item = (n.0, k.item);
        tokens = ap (λ l. l ++ us) named.0 ∙ k.tokens;
        declared = one_more IsLabelled [] front (n.0, k.item) k.free refl r.2 named.1 k.label;
      }))

  record AreParams (front : Declared Parameter) (ts : List Token) (new : Declared Parameter) : Type 0 where
    head : Name × Parameter
    tail : List (Name × Parameter)
    tokens : ts ≡ separated param_tokens (head ∷ tail)
    declared : AreDeclared IsLabelled [] front (head ∷ tail) new

  are_params : (n : ℕ) (front : Declared Parameter) (ts : List Token) (new : Declared Parameter)
      → Steps IsParam n front ts new → AreParams front ts new
  are_params zero front ts new h = record {
    head = h.item;
    tail = [];
    tokens = h.tokens
        ∙ sym (append-nil (param_tokens h.item));
    declared = h.declared;
  }
  are_params (suc n) front ts new (a, b, mid, is, one, more) =
      let r = are_params n mid b new more in
      record {
        head = one.item;
        tail = r.head ∷ r.tail;
        tokens = is ∙ (λ i. one.tokens i ++ Sign sign.Comma ∷ r.tokens i);
        declared = declared_more IsLabelled [] front mid new one.item (r.head ∷ r.tail) one.declared r.declared;
      }

  -- the parameters in their parentheses
  pub record AreAllParams (ts : List Token) (xs : List (Name × Parameter)) : Type 0 where
    pub tokens : ts ≡ Sign sign.LeftParen ∷ (separated param_tokens xs ++ Sign sign.RightParen ∷ [])
    pub few : length xs ≤ 64
    pub names : AllByRecursion (λ n. is_name n ≡ true) (names_of xs)
    pub apart : IsDistinct bytes_eq (names_of xs)
    pub labels : AllByRecursion (λ x. IsLabelled x.1) xs

  -- behind the first parenthesis
  abbrev AreRest : List Token → List (Name × Parameter) → Type 0
  AreRest ts xs = AreAllParams (Sign sign.LeftParen ∷ ts) xs

  rest_read : (s : State) (o : Option (ℕ × State)) (x : List (Name × Parameter) × State) → takes_sign sign.RightParen s
      ≡ o → params_behind policy s o ≡ Ok x → Found AreRest s x
  rest_read s (Some end) x is e =
      let close = sign_taken sign.RightParen s end is in
      subst (Found AreRest s) (same_ok (params_behind policy s (Some end)) ([], end.1) x refl e)
      (record {
        tokens = Sign sign.RightParen ∷ [];
        passed = close.passed;
        right = λ none a. (
          sym close.faults ∙ none,
          record {
            tokens = refl;
            few = omega arith;
            names = tt;
            apart =
                none_apart;
            labels = tt;
          },
        );
      })
  rest_read s None x is e =
      found_next AreRest (λ ps ts y. (y ≡ ps.0) × (ts ≡ Sign sign.RightParen ∷ [])) s (items_at (next_param policy) (
        [],
        0,
      ) s) (λ ps. sign_at sign.RightParen ps.1 >>= λ end. Ok (ps.0.0, end.1))
      (steps_read (next_param policy) IsParam next_param_read ([], 0) s)
      (λ ps. found_made (λ ts y. (y ≡ ps.0.0) × (ts ≡ Sign sign.RightParen ∷ [])) ps.1 (sign_at sign.RightParen ps.1)
      (λ at. ps.0.0) (sign_read sign.RightParen ps.1) (λ at ts close. (refl, close)))
      (λ ps y ts us items close.
      let r = are_params items.0 ([], 0) ts ps items.1 in
      let d = r.declared in
      let all : r.head ∷ r.tail ≡ y = sym (close.0 ∙ d.whole) in
      subst (AreAllParams (Sign sign.LeftParen ∷ (ts ++ us))) all (record {
        tokens = λ i. Sign sign.LeftParen ∷ (r.tokens i ++ close.1 i);
        few = (let m = d.count in let n = d.few (omega arith) in omega (arith, m, n));
        names = d.names;
        apart = subst (λ l. IsDistinct bytes_eq (names_of l)) d.whole (d.apart none_apart);
        labels = d.good;
      }))
      x e

  pub params_read : (s : State) (x : List (Name × Parameter) × State) → params_at policy s ≡ Ok x
      → Found AreAllParams s x
  unfolding params_at
  params_read s =
      found_next AreAllParams (λ at ts y. AreRest ts y) s (sign_at sign.LeftParen s) (λ o. params_behind policy o.1
      (takes_sign sign.RightParen o.1)) (sign_read sign.LeftParen s)
      (λ o y e. rest_read o.1 (takes_sign sign.RightParen o.1) y refl e)
      (λ at y ts us paren r. subst (λ l. AreAllParams (l ++ us) y) (sym paren) r)

-- ---- variables

abbrev pub Any : Kind → Type 0
Any k = Unit {0}

module _ (params : List (Name × Parameter)) where
  abbrev base : List Name
  base = names_of params

  -- var NAME : KIND ; behind its first word, where there is room for it
  record IsVar (front : List (Name × Kind)) (ts : List Token) (new : List (Name × Kind)) : Type 0 where
    item : Name × Kind
    tokens : Word (codes "var") ∷ ts ≡ var_tokens item
    is : new ≡ kept front item
    named : is_name item.0 ≡ true
    taken : (has_name params item.0 || has_name front item.0) ≡ false

  abbrev var_faults : List (Name × Kind) → PlacedName → List PlacedFault
  var_faults front n = unless (not (has_name params n.0 || has_name front n.0)) n.1 cause.Repeated

  abbrev IsVarBehind : List (Name × Kind) → PlacedName → List Token → List (Name × Kind) → Type 0
  IsVarBehind front n ts new = (k : Kind) × (new ≡ kept front (n.0, k)) × (var_faults front n ≡ [])
      × (ts ≡ Sign sign.Colon ∷ kind_token k ∷ Sign sign.Semicolon ∷ [])

  var_read : (front : List (Name × Kind)) (s : State) (x : List (Name × Kind) × State) → var_behind params front s
      ≡ Ok x → Found (IsVar front) s x
  unfolding var_behind
  var_read front s =
      found_next (IsVar front) (IsVarBehind front) s (name_at s)
      (λ n. sign_at sign.Colon n.1 >>= λ c. token (pass_known kind_of) c.1 >>= λ k. sign_at sign.Semicolon k.1 >>=
      λ end. Ok (kept front (n.0.0, k.0.0), note (var_faults front n.0) end.1)) (name_read s)
      (λ n.
      found_next (IsVarBehind front n.0) (λ at ts y. (k : Kind) × (y ≡ kept front (n.0.0, k))
      × (var_faults front n.0 ≡ []) × (ts ≡ kind_token k ∷ Sign sign.Semicolon ∷ [])) n.1 (sign_at sign.Colon n.1)
      (λ c. token (pass_known kind_of) c.1 >>= λ k. sign_at sign.Semicolon k.1 >>= λ end. Ok (
        kept front (n.0.0, k.0.0),
        note (var_faults front n.0) end.1,
      )) (sign_read sign.Colon n.1)
      (λ c.
      found_next (λ ts y. (k : Kind) × (y ≡ kept front (n.0.0, k)) × (var_faults front n.0 ≡ [])
      × (ts ≡ kind_token k ∷ Sign sign.Semicolon ∷ []))
      (λ k ts y. (y ≡ kept front (n.0.0, k.0)) × (var_faults front n.0 ≡ []) × (ts ≡ Sign sign.Semicolon ∷ [])) c.1
      (token (pass_known kind_of) c.1)
      (λ k. sign_at sign.Semicolon k.1 >>= λ end. Ok (kept front (n.0.0, k.0.0), note (var_faults front n.0) end.1))
      (kind_read c.1)
      (λ k. found_noted (λ ts y. (y ≡ kept front (n.0.0, k.0.0)) × (var_faults front n.0 ≡ [])
      × (ts ≡ Sign sign.Semicolon ∷ [])) k.1 (sign_at sign.Semicolon k.1) (λ at. kept front (n.0.0, k.0.0))
      (λ at. var_faults front n.0) (sign_read sign.Semicolon k.1)
      (λ at ts none close. (refl, none, close)))
      (λ k y ts us kind r. (k.0, r.0, r.1, (λ i. kind i ++ r.2 i))))
      (λ at y ts us colon r. (r.0, r.1, r.2, (λ i. colon i ++ r.3 i))))
      (λ n y ts us named r. record {
        item = (n.0, r.0);
        tokens = λ i. Word (codes "var") ∷ (named.0 i ++ r.3 i);
        is = r.1;
        named = named.1;
        taken = not-true (has_name params n.0 || has_name front n.0)
            (holds (not (has_name params n.0 || has_name front n.0)) n.1 _ r.2);
      })

  -- variables, one after another
  pub record AreVars (front : Declared Kind) (ts : List Token) (new : Declared Kind) : Type 0 where
    pub xs : List (Name × Kind)
    pub tokens : ts ≡ flat_map var_tokens xs
    pub declared : AreDeclared Any base front xs new

  -- what one more is, if there is one
  abbrev IsNext : Declared Kind → List Token → Option (Declared Kind) → Type 0
  IsNext front ts None = ts ≡ []
  IsNext front ts (Some new) = (x : Name × Kind) × (ts ≡ var_tokens x) × AreDeclared Any base front (x ∷ []) new

  next_var_read : (front : Declared Kind) (s : State) (o : Option (ℕ × State)) (y : Option (Declared Kind) × State)
      → takes_word (codes "var") s ≡ o → var_if params front s o ≡ Ok y → Found (IsNext front) s y
  next_var_read front s None y is e = subst (Found (IsNext front) s) (same_ok (var_if params front s None) (
    None,
    s,
  ) y refl e) (found_none (IsNext front) None s refl)
  next_var_read front s (Some word) y is e =
      let r = roomy (nat_lt front.1 64) (var_behind params front.0 word.1 >>= λ vs. Ok (
        Some (vs.0, front.1 + 1),
        vs.1,
      )) word.0 y e in
      let first = word_taken (codes "var") s word is in
      let rest = found_made (λ ts z. (vs : List (Name × Kind)) × (z ≡ Some (vs, front.1 + 1))
      × IsVar front.0 ts vs) word.1 (var_behind params front.0 word.1) (λ vs. Some (vs, front.1 + 1))
      (var_read front.0 word.1) (λ vs ts v. (vs, refl, v)) y r.1 in
      record {
        tokens = Word (codes "var") ∷ rest.tokens;
        passed = passed_more (Word (codes "var") ∷ []) rest.tokens s.1 word.1.1 y.1.1 first.passed rest.passed;
        right = λ none a.
            let b = rest.right none a.1 in
            let v = b.1.2 in
            let parts = or_parts (has_name params v.item.0) (has_name front.0 v.item.0) v.taken in (
              sym first.faults ∙ b.0,
              subst (IsNext front (Word (codes "var") ∷ rest.tokens))
                  (sym (b.1.1 ∙ ap (λ vs. Some (vs, front.1 + 1)) v.is)) (
                    v.item,
                    v.tokens,
                    one_more Any base front v.item parts.1 (named_any (λ x. x.0) params v.item.0
                        ∙ parts.0) (ltb-true front.1 64 r.0) v.named tt,
                  ),
            );
      }

  things_read : (n : ℕ) (front : Declared Kind) (s : State) (y : Declared Kind × State)
      → things_from (next_var params) n front s ≡ Ok y → Found (AreVars front) s y
  unfolding next_var
  things_read zero front s y e = absurd cc
  things_read (suc n) front s y e =
      let x = bind_ok (next_var params front s) (with_next (λ new r. things_from (next_var params) n new r) front) y e
      in
      go x.0.0 x.0.1 (next_var_read front s (takes_word (codes "var") s) x.0 refl x.1)
      (λ new k. things_read n new x.0.1 y k) x.2
    where
      go : (o : Option (Declared Kind)) (r : State) → Found (IsNext front) s (o, r)
          → ((new : Declared Kind) → things_from (next_var params) n new r ≡ Ok y → Found (AreVars new) r y)
          → with_next (λ new q. things_from (next_var params) n new q) front (o, r) ≡ Ok y → Found (AreVars front) s y
      go None r one more h =
          subst (Found (AreVars front) s) (same_ok (with_next (λ new q. things_from (next_var params) n new q) front
          (None, r)) (front, r) y refl h)
          (record {
            tokens = one.tokens;
            passed = one.passed;
            right = λ none a. let b = one.right none a
                in (b.0, record { xs = []; tokens = b.1; declared = declared_none Any base front });
          })
      go (Some new) r one more h =
          let rest = more new h in
          record {
            tokens = one.tokens ++ rest.tokens;
            passed = passed_more one.tokens rest.tokens s.1 r.1 y.1.1 one.passed rest.passed;
            right = λ none a.
                let parts = split one.tokens rest.tokens a in
                let last = rest.right none parts.1 in
                let first = one.right last.0 parts.0 in (
                  first.0,
                  record {
                    xs = first.1.0 ∷ last.1.xs;
                    tokens = λ i. first.1.1 i ++ last.1.tokens i;
                    declared = declared_more Any base front new y.0 first.1.0 last.1.xs first.1.2 last.1.declared;
                  },
                );
          }

  pub vars_read : (s : State) (x : List (Name × Kind) × State) → vars_at params s ≡ Ok x
      → Found (λ ts xs. (n : ℕ) × AreVars ([], 0) ts (xs, n)) s x
  unfolding vars_at
  vars_read s = found_made (λ ts xs. (n : ℕ) × AreVars ([], 0) ts (xs, n)) s (things_from (next_var params) 65 (
    [],
    0,
  ) s) (λ vs. vs.0) (things_read 65 ([], 0) s) (λ vs ts r. (vs.1, r))
