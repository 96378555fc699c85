-- What is read is what stands there: labels, relations and queries.
use Rattle.std.proofs.Common.{◌≡◌, ℕ, ◌<◌, ℤ, pos, negsuc, Bool, true, false, List, [], ◌∷◌, ◌++◌, length, Option, Some, None, Ok, refl, sym, ap, ◌∙◌, subst, codes, IfSome}
use Rattle.mls_lattice.specs.Policy.{Policy}
use Rattle.mls_lattice.specs.Reading.{◌>>=◌}
use Rattle.mls_lattice.proofs.ReadingLemmas.{ok_is}
use Rattle.mls_scheme.specs.Scheme.{Schemes}
use Rattle.mls_tokens.specs.declared.sign.Sign.{Sign as Mark}
use Rattle.mls_tokens.specs.declared.sign.Sign.TheVariants as signs
use Rattle.mls_tokens.specs.declared.token.Token.{Token}
use Rattle.mls_tokens.specs.declared.token.Token.TheVariants.{Word, Int, Sign}
use Rattle.mls_tokens.proofs.PassedLemmas.{passed_none}
use Rattle.mls_translang.specs.Tree.{Expr}
use Rattle.mls_translang.specs.declared.query.Comparison.{Comparison}
use Rattle.mls_translang.specs.declared.query.ClassTest.{ClassTest}
use Rattle.mls_translang.specs.declared.query.Query.{Query}
use Rattle.mls_parser.specs.declared.fault.TextCause.TheVariants as cause
use Rattle.mls_parser.specs.declared.fault.PlacedFault.{PlacedFault}
use Rattle.mls_translang.specs.Fits.{IsConditionOf}
use Rattle.mls_parser.specs.Fault.{unless}
use Rattle.mls_parser.specs.Names.{label_named, numbered}
use Rattle.mls_parser.specs.Noted.{State, Read, token, takes_word, name_at, known, label_at}
use Rattle.mls_parser.specs.ReadCondition.{condition_at}
use Rattle.mls_parser.specs.Words.{pass_known}
use Rattle.mls_parser.proofs.ConditionFound.{condition_found}
use Rattle.mls_parser.proofs.ConditionLemmas.{told_of_row}
use Rattle.mls_parser.proofs.FaultLemmas.{holds}
use Rattle.mls_parser.proofs.FoundSteps.{Found, found_none, found_next, found_noted, found_made, found_after, name_read, known_read}
use Rattle.mls_parser.proofs.NumberLemmas.{label_spelled}
use Rattle.mls_parser.proofs.PassedLemmas.{Quiet, word_taken}
use Rattle.mls_parser.proofs.StmtFound.{label_known}
use Rattle.mls_translang.specs.Event.{QueryFits}
use Rattle.mls_script.specs.QueryTokens.{comparison_sign, highest_tokens, class_tokens, first_tokens, TellsTest, TellsQuery}
use Rattle.mls_script.specs.ReadQuery.{highest_behind, highest_at, comparison_of, class_behind, class_at, number_of, is_count, count_of, rows_at, first_behind, first_at, where_behind, where_at, query_at}
use Rattle.mls_script.specs.Tokens.{label_token}

module _ (policy : Policy) (schemes : Schemes) where
  -- ---- labels

  pub record IsLabelled (ts : List Token) (n : ℕ) : Type 0 where
    pub tokens : ts ≡ label_token policy schemes n ∷ []
    pub within : n < length policy.labels

  pub label_read : (s : State) (x : ℕ × State) → label_at policy s ≡ Ok x → Found IsLabelled s x
  unfolding label_at
  label_read s =
      found_noted IsLabelled s (name_at s) (λ n. numbered (label_named policy n.0))
      (λ n. known (label_named policy n.0) n.1) (name_read s)
      (λ n ts none is. record {
        tokens = is.0 ∙ (λ i. Word (sym (label_spelled policy n.0 n.1 none) i) ∷ []);
        within =
            label_known policy n.0 n.1 none;
      })

  -- ---- the highest

  highest_found : (s : State) (o : Option (ℕ × State)) → takes_word (codes "highest") s ≡ o
      → Quiet (highest_tokens (highest_behind s o).0) s (highest_behind s o).1
  highest_found s None is = record { passed = passed_none s.1; faults = refl }
  highest_found s (Some x) is = word_taken (codes "highest") s x is

  -- ---- the class

  some_is : {X : Type 0} {x y : X} → Some x ≡ Some y → x ≡ y
  some_is e = cc

  compared : (m : Mark) (c : Comparison) → comparison_of (Sign m) ≡ Some c → m ≡ comparison_sign c
  compared signs.Equals c e = ap comparison_sign (some_is e)
  compared signs.Differs c e = ap comparison_sign (some_is e)
  compared signs.Less c e = ap comparison_sign (some_is e)
  compared signs.AtMost c e = ap comparison_sign (some_is e)
  compared signs.Greater c e = ap comparison_sign (some_is e)
  compared signs.AtLeast c e = ap comparison_sign (some_is e)
  compared _ c e = absurd cc

  comparison_is : (t : Token) (c : Comparison) → comparison_of t ≡ Some c → t ≡ Sign (comparison_sign c)
  comparison_is (Sign m) c e = ap (λ x. Sign x) (compared m c e)
  comparison_is _ c e = absurd cc

  record IsClass (ts : List Token) (o : Option ClassTest) : Type 0 where
    tokens : ts ≡ class_tokens policy o
    within : IfSome o (λ c. c.label < length policy.labels)

  class_found : (s : State) (o : Option (ℕ × State)) (x : Option ClassTest × State) → takes_word (codes "class") s ≡ o
      → class_behind policy s o ≡ Ok x → Found IsClass s x
  class_found s None x is e = subst (Found IsClass s) (ok_is {E = PlacedFault} (None, s) x e) (found_none IsClass None s
      (record { tokens = refl; within = tt }))
  class_found s (Some word) x is e =
      let made : Comparison → ℕ → Option ClassTest = λ c n. Some (record { comparison = c; label = n }) in
      found_after IsClass (Word (codes "class") ∷ []) s word.1 x (word_taken (codes "class") s word is)
      (found_next (λ us y. IsClass (Word (codes "class") ∷ us) y)
      (λ c us y. (n : ℕ) × IsLabelled us n × (y ≡ made c.0 n)) word.1 (token (pass_known comparison_of) word.1)
      (λ c. label_at policy c.1 >>= λ l. Ok (made c.0.0 l.0, l.1)) (known_read comparison_of word.1)
      (λ c. found_made (λ us y. (n : ℕ) × IsLabelled us n × (y ≡ made c.0.0 n)) c.1 (label_at policy c.1) (made c.0.0)
      (label_read c.1) (λ n us l. (n, l, refl)))
      (λ c y ts us sign l. subst (IsClass (Word (codes "class") ∷ (ts ++ us))) (sym l.2)
      (record {
        tokens = λ i. Word (codes "class") ∷ ((sign.2 ∙ ap (λ t. t ∷ []) (comparison_is sign.0 c.0 sign.1)) i
            ++ l.1.tokens i);
        within = l.1.within;
      }))
      x e)

  class_read : (s : State) (x : Option ClassTest × State) → class_at policy s ≡ Ok x → Found IsClass s x
  unfolding class_at
  class_read s x e = class_found s (takes_word (codes "class") s) x refl e

  -- ---- the first

  number_is : (t : Token) (n : ℤ) → number_of t ≡ Some n → t ≡ Int n
  number_is (Int m) n e = let same : m ≡ n = cc in ap (λ (x : ℤ). Int x) same
  number_is _ n e = absurd cc

  count_is : (n : ℤ) → is_count n ≡ true → n ≡ pos (count_of n)
  count_is (pos n) e = refl
  count_is (negsuc n) e = absurd cc

  abbrev pub IsRows : List Token → ℕ → Type 0
  IsRows ts n = ts ≡ Int (pos n) ∷ []

  pub rows_read : (s : State) (x : ℕ × State) → rows_at s ≡ Ok x → Found IsRows s x
  unfolding rows_at
  rows_read s =
      found_noted IsRows s (token (pass_known number_of) s) (λ n. count_of n.0)
      (λ n. unless (is_count n.0) n.1 cause.Kind) (known_read number_of s)
      (λ n ts none r. r.2 ∙ ap (λ t. t ∷ []) (number_is r.0 n.0 r.1 ∙ ap (λ (z : ℤ). Int z)
      (count_is n.0 (holds (is_count n.0) n.1 _ none))))

  record IsFirst (counts : Bool) (ts : List Token) (o : Option ℕ) : Type 0 where
    tokens : ts ≡ first_tokens o
    whole : counts ≡ true → o ≡ None

  no_first : (counts : Bool) (s : State) (x : Option ℕ × State) → Path (Read (Option ℕ)) (Ok (None, s)) (Ok x)
      → Found (IsFirst counts) s x
  no_first counts s x e = subst (Found (IsFirst counts) s) (ok_is {E = PlacedFault} (None, s) x e)
      (found_none (IsFirst counts) None s (record { tokens = refl; whole = λ h. refl }))

  first_found : (s : State) (o : Option (ℕ × State)) (x : Option ℕ × State) → takes_word (codes "first") s ≡ o
      → first_behind s o ≡ Ok x → Found (IsFirst false) s x
  first_found s None x is e = no_first false s x e
  first_found s (Some word) x is e =
      found_after (IsFirst false) (Word (codes "first") ∷ []) s word.1 x (word_taken (codes "first") s word is)
      (found_made (λ us y. IsFirst false (Word (codes "first") ∷ us) y) word.1 (rows_at word.1) (λ n. Some n)
      (rows_read word.1)
      (λ n ts r. record { tokens = λ i. Word (codes "first") ∷ r i; whole = λ h. absurd cc })
      x e)

  first_read : (counts : Bool) (s : State) (x : Option ℕ × State) → first_at counts s ≡ Ok x
      → Found (IsFirst counts) s x
  unfolding first_at
  first_read true s x e = no_first true s x e
  first_read false s x e = first_found s (takes_word (codes "first") s) x refl e

  -- ---- the condition

  module _ (relation : ℕ) where
    record IsTest (ts : List Token) (t : Option Expr) : Type 0 where
      tells : TellsTest policy schemes relation t ts
      fits : IfSome t (IsConditionOf schemes relation)

    where_found : (s : State) (o : Option (ℕ × State)) (x : Option Expr × State) → takes_word (codes "where") s ≡ o
        → where_behind policy schemes relation s o ≡ Ok x → Found IsTest s x
    where_found s None x is e = subst (Found IsTest s) (ok_is {E = PlacedFault} (None, s) x e) (found_none IsTest None s
        (record { tells = refl; fits = tt }))
    where_found s (Some word) x is e =
        found_after IsTest (Word (codes "where") ∷ []) s word.1 x (word_taken (codes "where") s word is)
        (found_made (λ us y. IsTest (Word (codes "where") ∷ us) y) word.1 (condition_at policy schemes relation word.1)
        (λ e. Some e) (condition_found policy schemes relation word.1)
        (λ e ts h. record {
          tells = record { condition = ts; tokens = refl; tells = h };
          fits =
              told_of_row schemes relation policy e ts h;
        })
        x e)

    where_read : (s : State) (x : Option Expr × State) → where_at policy schemes relation s ≡ Ok x → Found IsTest s x
    unfolding where_at
    where_read s x e = where_found s (takes_word (codes "where") s) x refl e

    -- ---- a query

    pub record IsQuery (counts : Bool) (ts : List Token) (q : Query) : Type 0 where
      pub tells : TellsQuery policy schemes relation q ts
      pub fits : QueryFits policy schemes relation q counts

    abbrev asked : Bool → Option ClassTest → Option ℕ → Option Expr → Query
    asked h c f t = record { highest = h; class = c; test = t; first = f }

    -- behind the number of the first, and behind the class
    abbrev IsBehindFirst : Bool → Option ClassTest → Option ℕ → List Token → Query → Type 0
    IsBehindFirst h c f ts q = (t : Option Expr) × IsTest ts t × (q ≡ asked h c f t)

    abbrev IsBehindClass : Bool → Bool → Option ClassTest → List Token → Query → Type 0
    IsBehindClass counts h c ts q = (f : Option ℕ) × (us : List Token) × IsFirst counts (first_tokens f) f
        × (ts ≡ first_tokens f ++ us) × IsBehindFirst h c f us q

    pub query_read : (counts : Bool) (s : State) (x : Query × State) → query_at policy schemes counts relation s ≡ Ok x
        → Found (IsQuery counts) s x
    unfolding query_at
    query_read counts s x e =
        let h = highest_at s in
        found_after (IsQuery counts) (highest_tokens h.0) s h.1 x
        (highest_found s (takes_word (codes "highest") s) refl)
        (found_next (λ us q. IsQuery counts (highest_tokens h.0 ++ us) q) (λ c. IsBehindClass counts h.0 c) h.1
        (class_at policy h.1)
        (λ c. first_at counts c.1 >>= λ f. where_at policy schemes relation f.1 >>= λ t. Ok (
          asked h.0 c.0 f.0 t.0,
          t.1,
        )) (class_read h.1)
        (λ c. found_next (IsBehindClass counts h.0 c.0) (λ f. IsBehindFirst h.0 c.0 f) c.1 (first_at counts c.1)
        (λ f. where_at policy schemes relation f.1 >>= λ t. Ok (asked h.0 c.0 f.0 t.0, t.1)) (first_read counts c.1)
        (λ f. found_made (IsBehindFirst h.0 c.0 f.0) f.1 (where_at policy schemes relation f.1) (asked h.0 c.0 f.0)
        (where_read f.1) (λ t ts is. (t, is, refl)))
        (λ f q ts us first more. (
          f,
          us,
          record { tokens = refl; whole = first.whole },
          (λ i. first.tokens i ++ us),
          more,
        )))
        (λ c q ts us class (f, vs, first, is, (t, test, same)).
        subst (IsQuery counts (highest_tokens h.0 ++ (ts ++ us))) (sym same) (record {
          tells = record {
            behind = vs;
            tokens = λ i. highest_tokens h.0 ++ (class.tokens i ++ is i);
            test =
                test.tells;
          };
          fits = record { class = class.within; test = test.fits; whole = first.whole };
        }))
        x e)
