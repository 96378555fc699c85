-- Lists of values and new values of attributes: what is read is what stands there, and what stands there is read.
use Rattle.std.proofs.Common.{◌≡◌, ℕ, ◌<◌, Bool, true, false, not, nat_eq, List, [], ◌∷◌, ◌++◌, length, map, slice_get, Option, Some, None, Ok, refl, sym, ap, ◌∙◌, subst, arith, append_assoc, append-nil}
use Rattle.std.specs.Cmp.{nat_eq_equiv}
use Rattle.std.specs.List.{AllByRecursion, IsDistinct, list_any}
use Rattle.std.proofs.lemmas.Bool.{not-true}
use Rattle.std.proofs.lemmas.List.{map_push}
use Rattle.std.proofs.lemmas.List.Quantifiers.{position-Some}
use Rattle.std.proofs.lemmas.Map.Keys.{IsDistinct-push}
use Rattle.std.proofs.lemmas.Option.{slice_get-get_or}
use Rattle.mls_lattice.specs.Reading.{◌>>=◌}
use Rattle.mls_scheme.specs.Scheme.{Attribute, Scheme, IsScheme, other_of, no_attribute}
use Rattle.mls_scheme.proofs.SchemeNameLemmas.{other_is_name}
use Rattle.mls_tokens.specs.declared.token.Token.{Token}
use Rattle.mls_tokens.specs.declared.token.Token.TheVariants.{Word, Sign}
use Rattle.mls_tokens.specs.declared.sign.Sign.TheVariants as sign
use Rattle.mls_tokens.specs.Passing.{is_sign, PlacedName}
use Rattle.mls_tokens.specs.Scanning.{without_places}
use Rattle.mls_tokens.specs.Text.{separated}
use Rattle.mls_tokens.proofs.NextLemmas.{NotNext}
use Rattle.mls_parser.specs.declared.fault.TextCause.TheVariants as cause
use Rattle.mls_parser.specs.Fault.{unless}
use Rattle.mls_parser.specs.Names.{other_named}
use Rattle.mls_parser.specs.Noted.{State, Read, note, sign_at, name_at}
use Rattle.mls_parser.specs.ReadList.{items_at, with_set, numbered_in, target_faults, target_at, item_of, set_of}
use Rattle.mls_parser.proofs.FaultLemmas.{holds}
use Rattle.mls_parser.proofs.FoundLemmas.{other_again, new_behind}
use Rattle.mls_parser.proofs.FoundSteps.{Found, found_next, found_noted, sign_read, name_read}
use Rattle.mls_parser.proofs.NextLemmas.{Gets, Same, gets_more, gets_then, placed_then, gets_noted, sign_gets, name_gets, none}
use Rattle.mls_parser.proofs.NumberLemmas.{other_there}
use Rattle.mls_parser.proofs.OrderLemmas.{IsNext, AreBehind, AllFit, behind, all_read, items_are}

-- ---- the name of an attribute that gets a value

other_within : (scheme : Scheme) (n : PlacedName) (i : ℕ) → other_named scheme n.0 ≡ Some i → i < length scheme.others
unfolding other_named
other_within scheme n i e = (position-Some _ scheme.others i no_attribute e).0

abbrev numbers : {X : Type 0} → List (ℕ × X) → List ℕ
numbers = map (λ x. x.0)

module _ {X : Type 0} (scheme : Scheme) where
  -- of an attribute that had none
  record IsTarget (front : List (ℕ × X)) (ts : List Token) (o : Option ℕ) : Type 0 where
    number : ℕ
    is : o ≡ Some number
    within : number < length scheme.others
    tokens : ts ≡ Word (other_of scheme number).0 ∷ Sign sign.Equals ∷ []
    apart : list_any (nat_eq number) (numbers front) ≡ false

  target : (front : List (ℕ × X)) (n : PlacedName) (o : Option ℕ) → other_named scheme n.0 ≡ o → target_faults front n o
      ≡ [] → IsTarget front (Word n.0 ∷ Sign sign.Equals ∷ []) o
  target front n None is h = absurd cc
  target front n (Some i) is h = record {
    number = i;
    is = refl;
    within = other_within scheme n i is;
    tokens = λ j. Word (sym (other_there scheme n.0 i is) j) ∷ Sign sign.Equals ∷ [];
    apart = not-true (list_any (nat_eq i) (numbers front)) (holds (not (list_any (nat_eq i) (numbers front))) n.1 _ h);
  }

  target_read : (front : List (ℕ × X)) (s : State) (o : Option ℕ × State) → target_at scheme front s ≡ Ok o
      → Found (IsTarget front) s o
  unfolding target_at
  target_read front s =
      let named : PlacedName → List Token → Option ℕ → Type 0 = λ n ts o. IsTarget front (Word n.0 ∷ ts) o in
      found_next (IsTarget front) named s (name_at s) (λ n. sign_at sign.Equals n.1 >>=
      λ e. Ok (other_named scheme n.0.0, note (target_faults front n.0 (other_named scheme n.0.0)) e.1))
      (name_read s)
      (λ n.
      found_noted (named n.0) n.1 (sign_at sign.Equals n.1) (λ at. other_named scheme n.0.0)
      (λ at. target_faults front n.0 (other_named scheme n.0.0)) (sign_read sign.Equals n.1)
      (λ at ts none equals. subst (λ l. named n.0 l (other_named scheme n.0.0)) (sym equals)
      (target front n.0 (other_named scheme n.0.0) refl none)))
      (λ n o ts us is r. subst (λ l. IsTarget front (l ++ us) o) (sym is.0) r)

  target_gets : (valid : IsScheme scheme) (front : List (ℕ × X)) (i : ℕ) (us : List Token) (s : State)
      → i < length scheme.others → list_any (nat_eq i) (numbers front) ≡ false
      → without_places s.1.placed ≡ Word (other_of scheme i).0 ∷ Sign sign.Equals ∷ us
      → Gets (target_at scheme front s) s (Same (Some i)) us
  unfolding target_at
  target_gets valid front i us s within new k =
      let name = (other_of scheme i).0 in
      let found = other_again scheme valid i within in
      let finish : PlacedName → ℕ × State → Read (Option ℕ) = λ n e. Ok (
        other_named scheme n.0,
        note (target_faults front n (other_named scheme n.0)) e.1,
      ) in
      placed_then (λ n. sign_at sign.Equals n.1 >>= finish n.0) (name_gets name (Sign sign.Equals ∷ us) s
      (other_is_name scheme valid i within) k)
      (λ at m t. gets_more (finish (name, at)) (sign_gets sign.Equals us (s.0, m) t)
      (λ e m2 is t2. gets_noted (other_named scheme name) (target_faults front (name, at)
      (other_named scheme name)) s.0 m2 (Same (Some i)) us
      (ap (target_faults front (name, at)) found ∙ none at cause.Repeated (ap not new)) found t2))

-- ---- an attribute and its new value

module _ {X : Type 0} (text : X → List Token) (Right : Option Attribute → X → Type 0) (scheme : Scheme) where
  abbrev pub set_text : ℕ × X → List Token
  set_text x = Word (other_of scheme x.0).0 ∷ Sign sign.Equals ∷ text x.1

  abbrev pub IsRightSet : ℕ × X → Type 0
  IsRightSet x = (x.0 < length scheme.others) × Right (Some (other_of scheme x.0)) x.1

  -- behind those before
  record IsAssigned (front : List (ℕ × X)) (x : ℕ × X) : Type 0 where
    right : IsRightSet x
    apart : list_any (nat_eq x.0) (numbers front) ≡ false

  -- all of them
  pub record AreAssigned (ts : List Token) (xs : List (ℕ × X)) : Type 0 where
    pub tokens : ts ≡ separated set_text xs
    pub some : 0 < length xs
    pub each : AllByRecursion IsRightSet xs
    pub apart : IsDistinct nat_eq (numbers xs)

known : (scheme : Scheme) (i : ℕ) → i < length scheme.others → slice_get scheme.others i ≡ Some (other_of scheme i)
known scheme i within = slice_get-get_or scheme.others i no_attribute within

module _ {V X : Type 0} (value_at : State → Read V) (item : V → X) (place : V → ℕ) (fits : Option Attribute → V → Bool)
    (text : X → List Token) (Right : Option Attribute → X → Type 0) where
  -- ---- what is read is what stands there

  module _ (Of : List Token → V → Type 0) (read : (s : State) (v : V × State) → value_at s ≡ Ok v → Found Of s v)
      (right : (o : Option Attribute) (v : V) (ts : List Token) → fits o v ≡ true → Of ts v → (ts ≡ text (item v))
      × Right o (item v)) where
    pub item_read : (attribute : ℕ → Option Attribute) (front : List X) (s : State) (x : List X × State)
        → item_of value_at item place fits attribute front s ≡ Ok x
        → Found (IsNext text (λ xs. Right (attribute (length xs))) front) s x
    item_read attribute front s =
        let fit = λ (v : V). fits (attribute (length front)) v in
        found_noted (IsNext text (λ xs. Right (attribute (length xs))) front) s (value_at s) (λ v. front ++ item v ∷ [])
        (λ v. unless (fit v) (place v) cause.Kind) (read s)
        (λ v ts none r.
        let of = right (attribute (length front)) v ts (holds (fit v) (place v) _ none) r in
        record { item = item v; whole = refl; tokens = of.0; fits = of.1 })

    module _ (scheme : Scheme) where
      -- behind the name
      record IsBehind (front : List (ℕ × X)) (o : Option ℕ) (ts : List Token) (new : List (ℕ × X)) : Type 0 where
        value : V
        whole : new ≡ with_set front o (item value)
        fit : fits (numbered_in scheme.others o) value ≡ true
        of : Of ts value

      made : (front : List (ℕ × X)) (o : Option ℕ) (new : List (ℕ × X)) (ts us : List Token)
          → IsTarget scheme front ts o → IsBehind front o us new → IsNext (set_text text Right scheme)
          (IsAssigned text Right scheme) front (ts ++ us) new
      made front o new ts us t b =
          let fit = ap (λ a. fits a b.value) (sym (known scheme t.number t.within))
          ∙ ap (λ n. fits (numbered_in scheme.others n) b.value) (sym t.is) ∙ b.fit in
          let of = right (Some (other_of scheme t.number)) b.value us fit b.of in
          record {
            item = (t.number, item b.value);
            whole = b.whole ∙ ap (λ n. with_set front n (item b.value)) t.is;
            tokens = λ j. t.tokens j ++ of.0 j;
            fits = record { right = (t.within, of.1); apart = t.apart };
          }

      set_read : (front : List (ℕ × X)) (s : State) (x : List (ℕ × X) × State)
          → set_of value_at item place fits scheme front s ≡ Ok x
          → Found (IsNext (set_text text Right scheme) (IsAssigned text Right scheme) front) s x
      set_read front s =
          let fit = λ (o : Option ℕ) (v : V). fits (numbered_in scheme.others o) v in
          found_next (IsNext (set_text text Right scheme) (IsAssigned text Right scheme) front) (IsBehind front) s
          (target_at scheme front s)
          (λ o. value_at o.1 >>= λ v. Ok (
            with_set front o.0 (item v.0),
            note (unless (fit o.0 v.0) (place v.0) cause.Kind) v.1,
          )) (target_read scheme front s)
          (λ o.
          found_noted (IsBehind front o.0) o.1 (value_at o.1) (λ v. with_set front o.0 (item v))
          (λ v. unless (fit o.0 v) (place v) cause.Kind) (read o.1)
          (λ v ts none of. record { value = v; whole = refl; fit = holds (fit o.0 v) (place v) _ none; of = of }))
          (λ o new ts us t b. made front o new ts us t b)

      -- ---- all that are set

      none_apart : IsDistinct nat_eq []
      unfolding IsDistinct
      none_apart = tt

      apart : (front xs : List (ℕ × X)) → AllFit behind (IsAssigned text Right scheme) front xs
          → IsDistinct nat_eq (numbers front) → IsDistinct nat_eq (numbers (front ++ xs))
      apart front [] h d = subst (λ l. IsDistinct nat_eq (numbers l)) (sym (append-nil front)) d
      apart front (x ∷ xs) h d =
          let pushed = subst (IsDistinct nat_eq) (sym (map_push (λ y. y.0) front x)) (IsDistinct-push nat_eq_equiv
          (numbers front) x.0 d h.0.apart) in
          subst (λ l. IsDistinct nat_eq (numbers l)) (append_assoc front (x ∷ []) xs)
          (apart (behind front x) xs h.1 pushed)

      each_right : (front xs : List (ℕ × X)) → AllFit behind (IsAssigned text Right scheme) front xs
          → AllByRecursion (IsRightSet text Right scheme) xs
      each_right front [] h = tt
      each_right front (x ∷ xs) h = (h.0.right, each_right (behind front x) xs h.1)

      are_assigned : (ts : List Token) (xs : List (ℕ × X)) → AreBehind (set_text text Right scheme)
          (IsAssigned text Right scheme) [] ts xs → AreAssigned text Right scheme ts xs
      are_assigned ts xs r =
          let all = r.head ∷ r.tail in
          subst (AreAssigned text Right scheme ts) (sym r.whole) (record {
            tokens = r.tokens;
            some = omega arith;
            each =
                each_right [] all r.fit;
            apart = apart [] all r.fit none_apart;
          })

      pub sets_read : (s : State) (x : List (ℕ × X) × State) → items_at (set_of value_at item place fits scheme) [] s
          ≡ Ok x → Found (AreAssigned text Right scheme) s x
      sets_read s x e =
          let h = all_read (set_of value_at item place fits scheme) (set_text text Right scheme)
          (IsAssigned text Right scheme) set_read s x e in
          record {
            tokens = h.tokens;
            passed = h.passed;
            right = λ none a. let r = h.right none a
                in (r.0, are_assigned h.tokens x.0 r.1);
          }

  -- ---- what stands there is read

  module _ (Ends : List Token → Type 0) (comma : (ts : List Token) → Ends (Sign sign.Comma ∷ ts))
      (again : (o : Option Attribute) (x : X) (us : List Token) (s : State) → Right o x → Ends us
      → without_places s.1.placed ≡ text x ++ us → Gets (value_at s) s (λ v. (item v ≡ x)
      × (fits o v ≡ true)) us) where
    pub item_again : (attribute : ℕ → Option Attribute) (front : List X) (x : X) (us : List Token) (s : State)
        → Right (attribute (length front)) x → Ends us → without_places s.1.placed ≡ text x ++ us
        → Gets (item_of value_at item place fits attribute front s) s (Same (behind front x)) us
    item_again attribute front x us s right ends k =
        let fit = λ (v : V). fits (attribute (length front)) v in
        gets_more (λ v. Ok (front ++ item v.0 ∷ [], note (unless (fit v.0) (place v.0) cause.Kind) v.1))
        (again (attribute (length front)) x us s right ends k)
        (λ v m r t. gets_noted (front ++ item v ∷ []) (unless (fit v) (place v) cause.Kind) s.0 m
        (Same (behind front x)) us (none (place v) cause.Kind r.1) (ap (behind front) r.0) t)

    module _ (scheme : Scheme) (valid : IsScheme scheme) where
      set_again : (front : List (ℕ × X)) (x : ℕ × X) (us : List Token) (s : State)
          → IsAssigned text Right scheme front x → Ends us → without_places s.1.placed ≡ set_text text Right scheme x
          ++ us
          → Gets (set_of value_at item place fits scheme front s) s (Same (behind front x)) us
      set_again front x us s h ends k =
          let there = slice_get scheme.others x.0 in
          let fit = λ (o : Option ℕ) (v : V). fits (numbered_in scheme.others o) v in
          gets_then (λ o. value_at o.1 >>= λ v. Ok (
            with_set front o.0 (item v.0),
            note (unless (fit o.0 v.0) (place v.0) cause.Kind) v.1,
          ))
          (target_gets scheme valid front x.0 (text x.1 ++ us) s h.right.0 h.apart k)
          (λ m t. gets_more (λ v. Ok (
            front ++ (x.0, item v.0) ∷ [],
            note (unless (fits there v.0) (place v.0) cause.Kind) v.1,
          ))
          (again there x.1 us (s.0, m) (subst (λ o. Right o x.1) (sym (known scheme x.0 h.right.0)) h.right.1) ends t)
          (λ v m2 r t2. gets_noted (front ++ (x.0, item v) ∷ []) (unless (fits there v) (place v) cause.Kind) s.0 m2
          (Same (behind front x)) us (none (place v) cause.Kind r.1) (ap (λ y. front ++ (x.0, y) ∷ []) r.0) t2))

      sets_fit : (front xs : List (ℕ × X)) → IsDistinct nat_eq (numbers front ++ numbers xs)
          → AllByRecursion (IsRightSet text Right scheme) xs → AllFit behind (IsAssigned text Right scheme) front xs
      sets_fit front [] d h = tt
      sets_fit front (x ∷ xs) d h =
          let more : numbers (front ++ x ∷ []) ++ numbers xs ≡ numbers front ++ numbers (x ∷ xs) =
          ap (λ l. l ++ numbers xs) (map_push (λ y. y.0) front x) ∙ append_assoc (numbers front) (x.0 ∷ []) (numbers xs)
          in (
            record { right = h.0; apart = new_behind nat_eq nat_eq_equiv (numbers front) x.0 (numbers xs) d },
            sets_fit (front ++ x ∷ []) xs (subst (IsDistinct nat_eq) (sym more) d) h.1,
          )

      pub sets_again : (x : ℕ × X) (xs : List (ℕ × X)) (us : List Token) (s : State)
          → IsDistinct nat_eq (numbers (x ∷ xs)) → AllByRecursion (IsRightSet text Right scheme) (x ∷ xs) → Ends us
          → NotNext (is_sign sign.Comma) us → without_places s.1.placed ≡ separated (set_text text Right scheme)
          (x ∷ xs) ++ us → Gets (items_at (set_of value_at item place fits scheme) [] s) s (Same (x ∷ xs)) us
      sets_again x xs us s apart each ends off k = items_are (set_of value_at item place fits scheme)
          (set_text text Right scheme) (IsAssigned text Right scheme) Ends comma set_again x xs us s
          (sets_fit [] (x ∷ xs) apart each) ends off k
