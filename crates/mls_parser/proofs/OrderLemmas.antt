-- Items in order and lists of them: what is read is what stands there, and what stands there is read.
use Rattle.std.proofs.Common.{◌≡◌, ℕ, zero, suc, ◌<◌, ◌≤◌, Bool, true, List, [], ◌∷◌, ◌++◌, length, Option, Some, None, Ok, refl, sym, ap, ◌∙◌, subst, arith, append_assoc, length-append, flat_map, append-nil}
use Rattle.std.proofs.lemmas.List.{length-map}
use Rattle.mls_lattice.specs.Reading.{◌>>=◌}
use Rattle.mls_lattice.proofs.ReadingLemmas.{bind_ok, same_ok}
use Rattle.mls_tokens.specs.declared.token.Token.{Token}
use Rattle.mls_tokens.specs.declared.token.Token.TheVariants.{Sign}
use Rattle.mls_tokens.specs.declared.sign.Sign.TheVariants as sign
use Rattle.mls_tokens.specs.Passing.{is_sign}
use Rattle.mls_tokens.specs.Scanning.{without_places}
use Rattle.mls_tokens.specs.Text.{comma_tokens, separated}
use Rattle.mls_tokens.proofs.NextLemmas.{NotNext}
use Rattle.mls_tokens.proofs.PassedLemmas.{passed_more}
use Rattle.mls_parser.specs.declared.fault.TextCause.TheVariants as cause
use Rattle.mls_parser.specs.Fault.{unless}
use Rattle.mls_parser.specs.Noted.{State, Read, takes_sign, sign_at}
use Rattle.mls_parser.specs.ReadList.{after_item, items_from, items_at, closed, list_behind, list_of}
use Rattle.mls_parser.proofs.FaultLemmas.{neither, holds}
use Rattle.mls_parser.proofs.FoundSteps.{Found, found_next, found_noted, sign_read}
use Rattle.mls_parser.proofs.NextLemmas.{Gets, Same, gets_more, gets_then, gets_done, gets_noted, gets_is, gets_same, sign_gets, took_sign, after_took, no_sign, none}
use Rattle.mls_parser.proofs.PassedLemmas.{sign_taken, split}

-- ---- items that are read

-- so many items behind the first, by what one is
module _ {A : Type 0} (Step : A → List Token → A → Type 0) where
  abbrev pub Steps : ℕ → A → List Token → A → Type 0
  Steps zero front ts new = Step front ts new
  Steps (suc n) front ts new = (a b : List Token) × (mid : A) × (ts ≡ a ++ Sign sign.Comma ∷ b) × Step front a mid
      × Steps n mid b new

  abbrev pub Items : A → List Token → A → Type 0
  Items front ts new = (n : ℕ) × Steps n front ts new

module _ {A : Type 0} (next : A → State → Read A) (Step : A → List Token → A → Type 0) (one : (front : A) (s : State)
    (x : A × State) → next front s ≡ Ok x → Found (Step front) s x) where
  items_read : (n : ℕ) (front : A) (s : State) (y : A × State) → items_from next n front s ≡ Ok y
      → Found (Items Step front) s y
  items_read zero front s y e = absurd cc
  items_read (suc n) front s y e =
      let x = bind_ok (next front s) (λ x. after_item (λ xs r. items_from next n xs r) x.0 x.1
      (takes_sign sign.Comma x.1)) y e in
      behind x.0 (one front s x.0 x.1) (takes_sign sign.Comma x.0.1) refl (λ c h. items_read n x.0.0 c y h) x.2
    where
      behind : (x : A × State) → Found (Step front) s x → (o : Option (ℕ × State)) → takes_sign sign.Comma x.1 ≡ o
          → ((c : State) → items_from next n x.0 c ≡ Ok y → Found (Items Step x.0) c y)
          → after_item (λ xs r. items_from next n xs r) x.0 x.1 o ≡ Ok y → Found (Items Step front) s y
      behind x here None is more h =
          subst (Found (Items Step front) s) (same_ok
          (after_item (λ xs r. items_from next n xs r) x.0 x.1 None) x y refl h)
          (record {
            tokens = here.tokens;
            passed = here.passed;
            right = λ none a. let r = here.right none a
                in (r.0, (zero, r.1));
          })
      behind x here (Some c) is more h =
          let rest = more c.1 h in
          let comma = sign_taken sign.Comma x.1 c is in
          let after : List Token = Sign sign.Comma ∷ rest.tokens in
          record {
            tokens = here.tokens ++ after;
            passed = passed_more here.tokens after s.1 x.1.1 y.1.1 here.passed
                (passed_more (Sign sign.Comma ∷ []) rest.tokens x.1.1 c.1.1 y.1.1 comma.passed rest.passed);
            right = λ none t.
                let parts = split here.tokens after t in
                let last = rest.right none parts.1.1 in
                let first = here.right (sym comma.faults ∙ last.0) parts.0 in
                (first.0, (suc last.1.0, (here.tokens, rest.tokens, x.0, refl, first.1, last.1.1)));
          }

  pub steps_read : (front : A) (s : State) (y : A × State) → items_at next front s ≡ Ok y → Found (Items Step front) s y
  steps_read front s y e = items_read (suc (length s.1.placed)) front s y e

-- ---- items, each behind those before

module _ {X A : Type 0} (push : A → X → A) where
  abbrev pub pushed : A → List X → A
  pushed front [] = front
  pushed front (x ∷ xs) = pushed (push front x) xs

  abbrev pub AllFit : (A → X → Type 0) → A → List X → Type 0
  AllFit fits front [] = Unit {0}
  AllFit fits front (x ∷ xs) = fits front x × AllFit fits (push front x) xs

module _ {X : Type 0} where
  abbrev pub behind : List X → X → List X
  behind front x = front ++ x ∷ []

  pushed_all : (front xs : List X) → pushed behind front xs ≡ front ++ xs
  pushed_all front [] = sym (append-nil front)
  pushed_all front (x ∷ xs) = pushed_all (front ++ x ∷ []) xs ∙ append_assoc front (x ∷ []) xs

module _ {X : Type 0} (text : X → List Token) (Fits : List X → X → Type 0) where
  -- one more
  pub record IsNext (front : List X) (ts : List Token) (new : List X) : Type 0 where
    pub item : X
    pub whole : new ≡ front ++ item ∷ []
    pub tokens : ts ≡ text item
    pub fits : Fits front item

  -- one or more
  pub record AreBehind (front : List X) (ts : List Token) (new : List X) : Type 0 where
    pub head : X
    pub tail : List X
    pub whole : new ≡ front ++ head ∷ tail
    pub tokens : ts ≡ separated text (head ∷ tail)
    pub fit : AllFit behind Fits front (head ∷ tail)

  are_behind : (n : ℕ) (front : List X) (ts : List Token) (new : List X) → Steps IsNext n front ts new
      → AreBehind front ts new
  are_behind zero front ts new h = record {
    head = h.item;
    tail = [];
    whole = h.whole;
    tokens = h.tokens
        ∙ sym (append-nil (text h.item));
    fit = (h.fits, tt);
  }
  are_behind (suc n) front ts new (a, b, mid, is, one, more) =
      let r = are_behind n mid b new more in
      record {
        head = one.item;
        tail = r.head ∷ r.tail;
        whole = r.whole ∙ ap (λ l. l ++ r.head ∷ r.tail) one.whole ∙ append_assoc front (one.item ∷ [])
            (r.head ∷ r.tail);
        tokens = is ∙ (λ i. one.tokens i ++ Sign sign.Comma ∷ r.tokens i);
        fit = (one.fits, subst (λ l. AllFit behind Fits l (r.head ∷ r.tail)) one.whole r.fit);
      }

module _ {X : Type 0} (next : List X → State → Read (List X)) (text : X → List Token) (Fits : List X → X → Type 0)
    (one : (front : List X) (s : State) (x : List X × State) → next front s ≡ Ok x
    → Found (IsNext text Fits front) s x) where
  pub all_read : (s : State) (y : List X × State) → items_at next [] s ≡ Ok y → Found (AreBehind text Fits []) s y
  all_read s y e =
      let h = steps_read next (IsNext text Fits) one [] s y e in
      record {
        tokens = h.tokens;
        passed = h.passed;
        right = λ none a. let r = h.right none a
            in (r.0, are_behind text Fits r.1.0 [] h.tokens y.0 r.1.1);
      }

  module _ (are_enough : ℕ → Bool) where
    -- in parentheses
    pub record IsListOf (ts : List Token) (xs : List X) : Type 0 where
      pub tokens : ts ≡ Sign sign.LeftParen ∷ (separated text xs ++ Sign sign.RightParen ∷ [])
      pub enough : are_enough (length xs) ≡ true
      pub fit : AllFit behind Fits [] xs

    -- behind the first parenthesis
    abbrev IsRest : List Token → List X → Type 0
    IsRest ts xs = IsListOf (Sign sign.LeftParen ∷ ts) xs

    abbrev IsClosed : List X → List Token → List X → Type 0
    IsClosed xs ts new = (ts ≡ Sign sign.RightParen ∷ []) × (new ≡ xs) × (are_enough (length xs) ≡ true)

    rest_read : (s : State) (o : Option (ℕ × State)) (x : List X × State) → takes_sign sign.RightParen s ≡ o
        → list_behind next are_enough s o ≡ Ok x → Found IsRest s x
    rest_read s (Some end) x is e =
        let close = sign_taken sign.RightParen s end is in
        subst (Found IsRest s) (same_ok (list_behind next are_enough s (Some end))
        (closed next are_enough [] end) x refl e)
        (record {
          tokens = Sign sign.RightParen ∷ [];
          passed = close.passed;
          right = λ none a.
              let t = neither end.1.0 _ none in
              (sym close.faults ∙ t.0, record { tokens = refl; enough = holds (are_enough 0) end.0 _ t.1; fit = tt });
        })
    rest_read s None x is e =
        found_next IsRest IsClosed s (items_at next [] s) (λ xs. sign_at sign.RightParen xs.1 >>=
        λ end. Ok (closed next are_enough xs.0 end)) (all_read s)
        (λ xs.
        found_noted (IsClosed xs.0) xs.1 (sign_at sign.RightParen xs.1) (λ at. xs.0)
        (λ at. unless (are_enough (length xs.0)) at cause.Kind) (sign_read sign.RightParen xs.1)
        (λ at ts none is. (is, refl, holds (are_enough (length xs.0)) at _ none)))
        (λ xs new ts us r end.
        subst (IsRest (ts ++ us)) (sym (end.1 ∙ r.whole)) (record {
          tokens = λ i. Sign sign.LeftParen ∷ (r.tokens i ++ end.0 i);
          enough = subst (λ l. are_enough (length l) ≡ true) r.whole end.2;
          fit = r.fit;
        }))
        x e

    pub list_read : (s : State) (x : List X × State) → list_of next are_enough s ≡ Ok x → Found IsListOf s x
    list_read s =
        found_next IsListOf (λ at ts xs. IsRest ts xs) s (sign_at sign.LeftParen s)
        (λ x. list_behind next are_enough x.1 (takes_sign sign.RightParen x.1)) (sign_read sign.LeftParen s)
        (λ x y e. rest_read x.1 (takes_sign sign.RightParen x.1) y refl e)
        (λ at xs ts us paren r. subst (λ l. IsListOf (l ++ us) xs) (sym paren) r)

-- ---- items that stand there

module _ {X A : Type 0} (next : A → State → Read A) (text : X → List Token) (push : A → X → A) (Fits : A → X → Type 0)
    (Ends : List Token → Type 0)
    (comma : (ts : List Token) → Ends (Sign sign.Comma ∷ ts))
    (again : (front : A) (x : X) (us : List Token) (s : State) → Fits front x → Ends us → without_places s.1.placed
    ≡ text x ++ us → Gets (next front s) s (Same (push front x)) us) where
  items_again : (n : ℕ) (front : A) (x : X) (xs : List X) (us : List Token) (s : State) → length xs < n
      → AllFit push Fits front (x ∷ xs) → Ends us → NotNext (is_sign sign.Comma) us
      → without_places s.1.placed ≡ separated text (x ∷ xs) ++ us → Gets (items_from next n front s) s
      (Same (pushed push front (x ∷ xs))) us
  items_again zero front x xs us s less h ends off k = absurd (omega (arith, less))
  items_again (suc n) front x [] us s less h ends off k =
      let after : A → State → Read A = λ y r. after_item (λ ys q. items_from next n ys q) y r (takes_sign sign.Comma r)
      in
      let new : A = push front x in
      gets_then (λ y. after y.0 y.1) (again front x us s h.0 ends (k ∙ ap (λ t. t ++ us) (append-nil (text x))))
      (λ m t. gets_is (after new (s.0, m)) (Ok (new, (s.0, m))) (s.0, m) (Same new) us
      (ap (after_item (λ ys q. items_from next n ys q) new (s.0, m)) (no_sign sign.Comma us (s.0, m) off t))
      (gets_done new s.0 m (Same new) us refl t))
  items_again (suc n) front x (z ∷ xs) us s less h ends off k =
      let after : A → State → Read A = λ y r. after_item (λ ys q. items_from next n ys q) y r (takes_sign sign.Comma r)
      in
      let new : A = push front x in
      let more : List Token = separated text (z ∷ xs) ++ us in
      gets_then (λ y. after y.0 y.1) (again front x (Sign sign.Comma ∷ more) s h.0 (comma more)
      (k ∙ append_assoc (text x) (flat_map (comma_tokens text) (z ∷ xs)) us))
      (λ m t.
      let c = took_sign sign.Comma more (s.0, m) t in
      gets_is (after new (s.0, m)) (items_from next n new (s.0, c.rest)) (s.0, m) (Same (pushed push new (z ∷ xs))) us
      (ap (after_item (λ ys q. items_from next n ys q) new (s.0, m)) c.is)
      (after_took c (items_again n new z xs us (s.0, c.rest) (omega (arith, less)) h.1 ends off c.tokens)))

  commas_long : (xs : List X) → length xs ≤ length (flat_map (comma_tokens text) xs)
  commas_long [] = omega arith
  commas_long (x ∷ xs) = omega (
    arith,
    commas_long xs,
    length-append (comma_tokens text x)
        (flat_map (comma_tokens text) xs),
  )

  pub all_again : (front : A) (x : X) (xs : List X) (us : List Token) (s : State) → AllFit push Fits front (x ∷ xs)
      → Ends us → NotNext (is_sign sign.Comma) us
      → without_places s.1.placed ≡ separated text (x ∷ xs) ++ us → Gets (items_at next front s) s
      (Same (pushed push front (x ∷ xs))) us
  all_again front x xs us s h ends off k =
      items_again (suc (length s.1.placed)) front x xs us s
      (omega (
        arith,
        commas_long xs,
        length-append (text x) (flat_map (comma_tokens text) xs),
        length-append (separated text (x ∷ xs)) us,
        ap length k,
        length-map s.1.placed (λ p. p.token),
      )) h ends off k

-- lists, whose items are pushed
module _ {X : Type 0} (next : List X → State → Read (List X)) (text : X → List Token) (Fits : List X → X → Type 0)
    (Ends : List Token → Type 0)
    (comma : (ts : List Token) → Ends (Sign sign.Comma ∷ ts))
    (again : (front : List X) (x : X) (us : List Token) (s : State) → Fits front x → Ends us → without_places s.1.placed
    ≡ text x ++ us → Gets (next front s) s (Same (behind front x)) us) where
  pub items_are : (x : X) (xs : List X) (us : List Token) (s : State) → AllFit behind Fits [] (x ∷ xs) → Ends us
      → NotNext (is_sign sign.Comma) us
      → without_places s.1.placed ≡ separated text (x ∷ xs) ++ us → Gets (items_at next [] s) s (Same (x ∷ xs)) us
  items_are x xs us s h ends off k = gets_same (pushed_all [] (x ∷ xs))
      (all_again next text behind Fits Ends comma again [] x xs us s h ends off k)

  module _ (are_enough : ℕ → Bool) (paren : (x : X) (us : List Token) → NotNext (is_sign sign.RightParen)
      (text x ++ us)) (end : (us : List Token) → Ends (Sign sign.RightParen ∷ us)) where
    rest_again : (xs : List X) (us : List Token) (s : State) → AllFit behind Fits [] xs → are_enough (length xs) ≡ true
        → without_places s.1.placed ≡ separated text xs ++ (Sign sign.RightParen ∷ us)
        → Gets (list_behind next are_enough s (takes_sign sign.RightParen s)) s (Same xs) us
    rest_again [] us s h enough k =
        let close = took_sign sign.RightParen us s k in
        gets_is (list_behind next are_enough s (takes_sign sign.RightParen s))
        (Ok (closed next are_enough [] (close.at, (s.0, close.rest)))) s (Same []) us
        (ap (list_behind next are_enough s) close.is)
        (after_took close (gets_noted [] (unless (are_enough 0) close.at cause.Kind) s.0 close.rest (Same []) us
        (none close.at cause.Kind enough) refl close.tokens))
    rest_again (x ∷ xs) us s h enough k =
        let close : List Token = Sign sign.RightParen ∷ us in
        let rest : List Token = flat_map (comma_tokens text) xs ++ close in
        gets_is (list_behind next are_enough s (takes_sign sign.RightParen s)) (list_behind next are_enough s None) s
        (Same (x ∷ xs)) us
        (ap (list_behind next are_enough s) (no_sign sign.RightParen (text x ++ rest) s (paren x rest)
        (k ∙ append_assoc (text x) (flat_map (comma_tokens text) xs) close)))
        (gets_then (λ ys. sign_at sign.RightParen ys.1 >>= λ end. Ok (closed next are_enough ys.0 end))
        (items_are x xs close s h (end us) refl k)
        (λ m t. gets_more (λ end. Ok (closed next are_enough (x ∷ xs) end)) (sign_gets sign.RightParen us (s.0, m) t)
        (λ at r is t2. gets_noted (x ∷ xs) (unless (are_enough (length (x ∷ xs))) at cause.Kind) s.0 r
        (Same (x ∷ xs)) us (none at cause.Kind enough) refl t2)))

    pub list_again : (xs : List X) (us : List Token) (s : State) → AllFit behind Fits [] xs → are_enough (length xs)
        ≡ true
        → without_places s.1.placed ≡ (Sign sign.LeftParen ∷ (separated text xs ++ Sign sign.RightParen ∷ [])) ++ us
        → Gets (list_of next are_enough s) s (Same xs) us
    list_again xs us s h enough k =
        gets_more (λ x. list_behind next are_enough x.1 (takes_sign sign.RightParen x.1)) (sign_gets sign.LeftParen
        ((separated text xs ++ Sign sign.RightParen ∷ []) ++ us) s k)
        (λ x m is t. rest_again xs us (s.0, m) h enough (t ∙ append_assoc (separated text xs) (Sign sign.RightParen
        ∷ []) us))
