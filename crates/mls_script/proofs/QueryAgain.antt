-- What stands there is read: labels, and queries.
use Rattle.std.proofs.Common.{◌≡◌, ℕ, ◌<◌, Bool, true, false, pos, List, [], ◌∷◌, ◌++◌, length, Option, Some, None, Ok, refl, sym, ap, ◌∙◌, subst, codes, IfSome, bytes_eq, append_assoc}
use Rattle.mls_lattice.specs.Canon.{label_name}
use Rattle.mls_lattice.specs.Policy.{Policy, IsPolicy}
use Rattle.mls_lattice.specs.Reading.{◌>>=◌}
use Rattle.mls_lattice.proofs.NamedLemmas.{label_is_name}
use Rattle.mls_scheme.specs.Scheme.{Schemes, AreSchemes}
use Rattle.mls_tokens.specs.declared.token.Token.{Token}
use Rattle.mls_tokens.specs.declared.token.Token.TheVariants.{Word, Int, Sign}
use Rattle.mls_tokens.specs.Scanning.{Left, without_places}
use Rattle.mls_tokens.specs.Passing.{is_word}
use Rattle.mls_tokens.proofs.NextLemmas.{NotNext}
use Rattle.mls_translang.specs.Tree.{Expr}
use Rattle.mls_translang.specs.declared.query.Comparison.{Comparison}
use Rattle.mls_translang.specs.declared.query.Comparison.TheVariants as compared
use Rattle.mls_translang.specs.declared.query.ClassTest.{ClassTest}
use Rattle.mls_translang.specs.declared.query.Query.{Query}
use Rattle.mls_parser.specs.declared.fault.TextCause.TheVariants as cause
use Rattle.mls_parser.specs.Condition.{EndsCondition}
use Rattle.mls_parser.specs.Fault.{unless}
use Rattle.mls_parser.specs.Names.{label_named, numbered}
use Rattle.mls_parser.specs.Noted.{State, Read, note, takes_word, known, label_at}
use Rattle.mls_parser.proofs.ConditionAgain.{conditions_are_read}
use Rattle.mls_parser.proofs.FoundLemmas.{label_again}
use Rattle.mls_parser.proofs.NextLemmas.{Gets, Same, gets_then, placed_then, gets_done, gets_noted, gets_is, name_gets, known_gets, took_word, after_took, no_word, none_known}
use Rattle.mls_translang.specs.Event.{QueryFits}
use Rattle.mls_script.specs.QueryTokens.{comparison_sign, highest_tokens, class_tokens, first_tokens, TellsTest, TellsQuery}
use Rattle.mls_script.specs.ReadQuery.{highest_behind, highest_at, comparison_of, class_behind, class_at, number_of, is_count, count_of, rows_at, first_behind, first_at, where_behind, where_at, query_at}

-- ---- labels

pub label_gets : (policy : Policy) → IsPolicy policy → (i : ℕ) (us : List Token) (s : State) → i < length policy.labels
    → without_places s.1.placed ≡ Word (label_name policy.labels i) ∷ us → Gets (label_at policy s) s (Same i) us
unfolding label_at
label_gets policy valid i us s h k =
    let name = label_name policy.labels i in
    let found = label_again policy valid i h in
    placed_then (λ x. Ok (numbered (label_named policy x.0.0), note (known (label_named policy x.0.0) x.0.1) x.1))
    (name_gets name us s (label_is_name policy valid i h) k)
    (λ at m t. gets_noted (numbered (label_named policy name)) (known (label_named policy name) at) s.0 m (Same i) us
    (none_known i at found) (ap numbered found) t)

-- ---- the class

comparison_again : (c : Comparison) → comparison_of (Sign (comparison_sign c)) ≡ Some c
comparison_again compared.Equal = refl
comparison_again _ = refl

class_gets : (policy : Policy) → IsPolicy policy → (o : Option ClassTest) (us : List Token) (s : State)
    → IfSome o (λ c. c.label < length policy.labels) → NotNext (is_word (codes "class")) us
    → without_places s.1.placed ≡ class_tokens policy o ++ us → Gets (class_at policy s) s (Same o) us
unfolding class_at
class_gets policy valid None us s fits off k =
    gets_is (class_behind policy s (takes_word (codes "class") s)) (Ok (None, s)) s (Same None) us
    (ap (class_behind policy s) (no_word (codes "class") us s off k)) (gets_done None s.0 s.1 (Same None) us refl k)
class_gets policy valid (Some c) us s fits off k =
    let behind = Word (label_name policy.labels c.label) ∷ us in
    let word = took_word (codes "class") (Sign (comparison_sign c.comparison) ∷ behind) s k in
    let made : Comparison → ℕ → Option ClassTest = λ d n. Some (record { comparison = d; label = n }) in
    gets_is (class_behind policy s (takes_word (codes "class") s))
    (class_behind policy s (Some (word.at, (s.0, word.rest)))) s (Same (Some c)) us
    (ap (class_behind policy s) word.is)
    (after_took word (placed_then (λ d. label_at policy d.1 >>= λ l. Ok (made d.0.0 l.0, l.1))
    (known_gets comparison_of c.comparison (Sign (comparison_sign c.comparison)) behind
    (comparison_again c.comparison) (s.0, word.rest) word.tokens)
    (λ at m t. gets_then (λ l. Ok (made c.comparison l.0, l.1)) (label_gets policy valid c.label us (s.0, m) fits t)
    (λ m2 t2. gets_done (Some c) s.0 m2 (Same (Some c)) us refl t2))))

-- ---- the first

pub rows_gets : (n : ℕ) (us : List Token) (s : State) → without_places s.1.placed ≡ Int (pos n) ∷ us
    → Gets (rows_at s) s (Same n) us
unfolding rows_at
rows_gets n us s k =
    placed_then (λ m. Ok (count_of m.0.0, note (unless (is_count m.0.0) m.0.1 cause.Kind) m.1))
    (known_gets number_of (pos n) (Int (pos n)) us refl s k)
    (λ at m t. gets_noted n [] s.0 m (Same n) us refl refl t)

first_gets : (counts : Bool) (o : Option ℕ) (us : List Token) (s : State) → (counts ≡ true → o ≡ None)
    → NotNext (is_word (codes "first")) us → without_places s.1.placed ≡ first_tokens o ++ us
    → Gets (first_at counts s) s (Same o) us
unfolding first_at
first_gets true None us s whole off k = gets_done None s.0 s.1 (Same None) us refl k
first_gets true (Some n) us s whole off k = absurd (let h = whole refl in cc)
first_gets false None us s whole off k =
    gets_is (first_behind s (takes_word (codes "first") s)) (Ok (None, s)) s (Same None) us
    (ap (first_behind s) (no_word (codes "first") us s off k)) (gets_done None s.0 s.1 (Same None) us refl k)
first_gets false (Some n) us s whole off k =
    let word = took_word (codes "first") (Int (pos n) ∷ us) s k in
    gets_is (first_behind s (takes_word (codes "first") s)) (first_behind s (Some (word.at, (s.0, word.rest)))) s
    (Same (Some n)) us (ap (first_behind s) word.is)
    (after_took word (gets_then (λ m. Ok (Some m.0, m.1)) (rows_gets n us (s.0, word.rest) word.tokens)
    (λ m t. gets_done (Some n) s.0 m (Same (Some n)) us refl t)))

-- ---- the condition

-- no query goes on with these
pub record EndsQuery (us : List Token) : Type 0 where
  pub condition : EndsCondition us
  pub word : (w : List ℕ) → NotNext (is_word w) us

pub ends_nothing : EndsQuery []
ends_nothing = record { condition = tt; word = λ w. tt }

module _ (policy : Policy) (schemes : Schemes) (relation : ℕ) where
  where_gets : IsPolicy policy → AreSchemes schemes → relation < length schemes → (t : Option Expr) (ts us : List Token)
      (s : State) → TellsTest policy schemes relation t ts → EndsQuery us → without_places s.1.placed ≡ ts ++ us
      → Gets (where_at policy schemes relation s) s (Same t) us
  unfolding where_at
  where_gets is_policy valid within None ts us s tells ends k =
      let left = k ∙ ap (λ x. x ++ us) tells in
      gets_is (where_behind policy schemes relation s (takes_word (codes "where") s)) (Ok (None, s)) s (Same None) us
      (ap (where_behind policy schemes relation s) (no_word (codes "where") us s (ends.word (codes "where")) left))
      (gets_done None s.0 s.1 (Same None) us refl left)
  where_gets is_policy valid within (Some test) ts us s tells ends k =
      let word = took_word (codes "where") (tells.condition ++ us) s (k ∙ ap (λ x. x ++ us) tells.tokens) in
      let read = conditions_are_read policy schemes is_policy valid relation (
        s.0,
        word.rest,
      ) test tells.condition us within tells.tells ends.condition word.tokens in
      gets_is (where_behind policy schemes relation s (takes_word (codes "where") s))
      (where_behind policy schemes relation s (Some (word.at, (s.0, word.rest)))) s (Same (Some test)) us
      (ap (where_behind policy schemes relation s) word.is)
      (after_took word (record {
        value = Some test;
        rest = read.rest;
        is = ap (λ r. r >>= λ e. Ok (Some e.0, e.1)) read.is;
        holds = refl;
        tokens = read.tokens;
        stop = read.stop;
      }))

  -- a condition begins with its word
  where_next : (w : List ℕ) (t : Option Expr) (ts us : List Token) → bytes_eq (codes "where") w ≡ false → EndsQuery us
      → TellsTest policy schemes relation t ts → NotNext (is_word w) (ts ++ us)
  where_next w None ts us off ends tells = subst (λ x. NotNext (is_word w) (x ++ us)) (sym tells) (ends.word w)
  where_next w (Some test) ts us off ends tells = subst (λ x. NotNext (is_word w) (x ++ us)) (sym tells.tokens) off

  first_next : (w : List ℕ) (o : Option ℕ) (ts : List Token) → bytes_eq (codes "first") w ≡ false
      → NotNext (is_word w) ts → NotNext (is_word w) (first_tokens o ++ ts)
  first_next w None ts off next = next
  first_next w (Some n) ts off next = off

  class_next : (w : List ℕ) (o : Option ClassTest) (ts : List Token) → bytes_eq (codes "class") w ≡ false
      → NotNext (is_word w) ts → NotNext (is_word w) (class_tokens policy o ++ ts)
  class_next w None ts off next = next
  class_next w (Some c) ts off next = off

  -- ---- a query

  record HighestGets (highest : Bool) (s : State) (us : List Token) : Type 0 where
    rest : Left
    is : highest_at s ≡ (highest, (s.0, rest))
    tokens : without_places rest.placed ≡ us
    stop : rest.stop ≡ s.1.stop

  highest_gets : (highest : Bool) (us : List Token) (s : State) → NotNext (is_word (codes "highest")) us
      → without_places s.1.placed ≡ highest_tokens highest ++ us → HighestGets highest s us
  highest_gets true us s off k =
      let word = took_word (codes "highest") us s k in
      record { rest = word.rest; is = ap (highest_behind s) word.is; tokens = word.tokens; stop = word.stop }
  highest_gets false us s off k = record {
    rest = s.1;
    is = ap (highest_behind s)
        (no_word (codes "highest") us s off k);
    tokens = k;
    stop = refl;
  }

  pub query_gets : IsPolicy policy → AreSchemes schemes → relation < length schemes
      → (counts : Bool) (q : Query) (ts us : List Token) (s : State) → QueryFits policy schemes relation q counts
      → TellsQuery policy schemes relation q ts → EndsQuery us
      → without_places s.1.placed ≡ ts ++ us → Gets (query_at policy schemes counts relation s) s (Same q) us
  unfolding query_at
  query_gets is_policy valid within counts q ts us s fits tells ends k =
      let behind_first = tells.behind ++ us in
      let behind_class = first_tokens q.first ++ behind_first in
      let behind = class_tokens policy q.class ++ behind_class in
      let parts : ts ++ us ≡ highest_tokens q.highest ++ behind =
      ap (λ x. x ++ us) tells.tokens ∙ append_assoc (highest_tokens q.highest) (class_tokens policy q.class
      ++ (first_tokens q.first ++ tells.behind)) us
      ∙ ap (λ x. highest_tokens q.highest ++ x) (append_assoc (class_tokens policy q.class) (first_tokens q.first
      ++ tells.behind) us
      ∙ ap (λ x. class_tokens policy q.class ++ x) (append_assoc (first_tokens q.first) tells.behind us)) in
      let not_where : (w : List ℕ) → bytes_eq (codes "where") w ≡ false → NotNext (is_word w) behind_first =
      λ w off. where_next w q.test tells.behind us off ends tells.test in
      let h =
      highest_gets q.highest behind s
      (class_next (codes "highest") q.class behind_class refl (first_next (codes "highest") q.first behind_first refl
      (not_where (codes "highest") refl))) (k ∙ parts) in
      let asked : Bool → Option ClassTest → Option ℕ → Option Expr → Query = λ b c f t. record {
        highest = b;
        class = c;
        test = t;
        first = f;
      } in
      let rest : Bool × State → Read Query =
      λ x. class_at policy x.1 >>= λ c. first_at counts c.1 >>= λ f. where_at policy schemes relation f.1 >>=
      λ t. Ok (asked x.0 c.0 f.0 t.0, t.1) in
      let more =
      gets_then (λ c. first_at counts c.1 >>= λ f. where_at policy schemes relation f.1 >>=
      λ t. Ok (asked q.highest c.0 f.0 t.0, t.1))
      (class_gets policy is_policy q.class behind_class (s.0, h.rest) fits.class
      (first_next (codes "class") q.first behind_first refl (not_where (codes "class") refl)) h.tokens)
      (λ m t. gets_then (λ f. where_at policy schemes relation f.1 >>= λ t. Ok (asked q.highest q.class f.0 t.0, t.1))
      (first_gets counts q.first behind_first (s.0, m) fits.whole (not_where (codes "first") refl) t)
      (λ m2 t2. gets_then (λ t. Ok (asked q.highest q.class q.first t.0, t.1))
      (where_gets is_policy valid within q.test tells.behind us (s.0, m2) tells.test ends t2)
      (λ m3 t3. gets_done q s.0 m3 (Same q) us refl t3))) in
      record {
        value = more.value;
        rest = more.rest;
        is = ap rest h.is ∙ more.is;
        holds = more.holds;
        tokens =
            more.tokens;
        stop = more.stop ∙ h.stop;
      }
