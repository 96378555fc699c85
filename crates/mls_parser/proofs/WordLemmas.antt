-- What single tokens are in a transaction.
use Rattle.std.proofs.Common.{◌≡◌, true, false, Option, Some, None, option_map, inl, inr, refl, ap, ◌∙◌, subst, codes, ◌⊎◌, if◌then◌else◌, bytes_eq}
use Rattle.std.proofs.lemmas.Slice.Eq.{bytes_eq-Decides}
use Rattle.std.proofs.lemmas.Option.{same_Some}
use Rattle.mls_lattice.specs.Name.{is_name}
use Rattle.mls_lattice.specs.Policy.{Name as Bytes}
use Rattle.mls_tokens.specs.declared.token.Token.{Token}
use Rattle.mls_tokens.specs.declared.token.Token.TheVariants.{Word, Int, Text, Sign}
use Rattle.mls_tokens.specs.declared.sign.Sign.{Sign as Mark}
use Rattle.mls_tokens.specs.declared.sign.Sign.TheVariants as sign
use Rattle.mls_tokens.proofs.TokenLemmas.{chosen}
use Rattle.mls_translang.specs.declared.operator.Operator.{Operator}
use Rattle.mls_translang.specs.declared.operator.Operator.TheVariants as operators
use Rattle.mls_scheme.specs.declared.value.Kind.{Kind}
use Rattle.mls_scheme.specs.declared.value.Kind.TheVariants as kinds
use Rattle.mls_translang.specs.Tokens.{value_token, operator_token, kind_token}
use Rattle.mls_parser.specs.declared.words.Head.{Head}
use Rattle.mls_parser.specs.declared.words.Head.TheVariants as heads
use Rattle.mls_parser.specs.declared.words.Opening.{Opening}
use Rattle.mls_parser.specs.declared.words.Opening.TheVariants as openings
use Rattle.mls_parser.specs.declared.words.Plain.{Plain}
use Rattle.mls_parser.specs.declared.words.Plain.TheVariants as plains
use Rattle.mls_parser.specs.Words.{head_of_sign, head_of_word, head_of, operator_of_sign, operator_of_word, operator_of, kind_of_word, kind_of, plain_of_word, opening_of_word, opening_of}

abbrev pub HeadIs : Token → Head → Type 0
HeadIs t (heads.Literal v) = t ≡ value_token v
HeadIs t heads.Null = t ≡ Word (codes "null")
HeadIs t (heads.Name s) = (t ≡ Word s) × (is_name s ≡ true)
HeadIs t heads.Not = t ≡ Word (codes "not")
HeadIs t heads.Paren = t ≡ Sign sign.LeftParen

word_is : (w s : Bytes) → bytes_eq w s ≡ true → Word w ≡ Word s
word_is w s e = ap (λ (x : Bytes). Word x) ((bytes_eq-Decides w s).0 e)

head_word : (w : Bytes) (h : Head) → head_of_word w ≡ Some h → HeadIs (Word w) h
head_word w h e = first (chosen (bytes_eq w (codes "null")) (Some heads.Null)
    (if bytes_eq w (codes "not") then Some heads.Not else (if is_name w then Some (heads.Name w) else None)) (Some h) e)
  where
    third : ((is_name w ≡ true) × (Some (heads.Name w) ≡ Some h)) ⊎ ((is_name w ≡ false) × (None ≡ Some h))
        → HeadIs (Word w) h
    third (inl y) = subst (HeadIs (Word w)) (same_Some (heads.Name w) h y.1) (refl, y.0)
    third (inr n) = absurd (let bad = n.1 in cc)

    second : ((bytes_eq w (codes "not") ≡ true) × (Some heads.Not ≡ Some h)) ⊎ ((bytes_eq w (codes "not") ≡ false)
        × ((if is_name w then Some (heads.Name w) else None) ≡ Some h)) → HeadIs (Word w) h
    second (inl y) = subst (HeadIs (Word w)) (same_Some heads.Not h y.1) (word_is w (codes "not") y.0)
    second (inr n) = third (chosen (is_name w) (Some (heads.Name w)) None (Some h) n.1)

    first : ((bytes_eq w (codes "null") ≡ true) × (Some heads.Null ≡ Some h))
        ⊎ ((bytes_eq w (codes "null") ≡ false) × ((if bytes_eq w (codes "not") then Some heads.Not else
        (if is_name w then Some (heads.Name w) else None)) ≡ Some h)) → HeadIs (Word w) h
    first (inl y) = subst (HeadIs (Word w)) (same_Some heads.Null h y.1) (word_is w (codes "null") y.0)
    first (inr n) = second (chosen (bytes_eq w (codes "not")) (Some heads.Not)
        (if is_name w then Some (heads.Name w) else None) (Some h) n.1)

head_sign : (s : Mark) (h : Head) → head_of_sign s ≡ Some h → HeadIs (Sign s) h
head_sign sign.LeftParen h e = subst (HeadIs (Sign sign.LeftParen)) (same_Some heads.Paren h e) refl
head_sign _ h e = absurd cc

pub head_is : (t : Token) (h : Head) → head_of t ≡ Some h → HeadIs t h
head_is (Word w) h e = head_word w h e
head_is (Int n) h e = subst (HeadIs (Int n)) (same_Some _ h e) refl
head_is (Text s) h e = subst (HeadIs (Text s)) (same_Some _ h e) refl
head_is (Sign s) h e = head_sign s h e

operator_word : (w : Bytes) (op : Operator) → operator_of_word w ≡ Some op → Word w ≡ operator_token op
operator_word w op e = first (chosen (bytes_eq w (codes "and")) (Some operators.And)
    (if bytes_eq w (codes "or") then Some operators.Or else None) (Some op) e)
  where
    second : ((bytes_eq w (codes "or") ≡ true) × (Some operators.Or ≡ Some op)) ⊎ ((bytes_eq w (codes "or") ≡ false)
        × (None ≡ Some op)) → Word w ≡ operator_token op
    second (inl y) = word_is w (codes "or") y.0 ∙ ap operator_token (same_Some operators.Or op y.1)
    second (inr n) = absurd (let bad = n.1 in cc)

    first : ((bytes_eq w (codes "and") ≡ true) × (Some operators.And ≡ Some op))
        ⊎ ((bytes_eq w (codes "and") ≡ false) × ((if bytes_eq w (codes "or") then Some operators.Or else None)
        ≡ Some op)) → Word w ≡ operator_token op
    first (inl y) = word_is w (codes "and") y.0 ∙ ap operator_token (same_Some operators.And op y.1)
    first (inr n) = second (chosen (bytes_eq w (codes "or")) (Some operators.Or) None (Some op) n.1)

operator_sign : (s : Mark) (op : Operator) → operator_of_sign s ≡ Some op → Sign s ≡ operator_token op
operator_sign sign.Plus op e = ap operator_token (same_Some operators.Plus op e)
operator_sign sign.Minus op e = ap operator_token (same_Some operators.Minus op e)
operator_sign sign.Times op e = ap operator_token (same_Some operators.Times op e)
operator_sign sign.Equals op e = ap operator_token (same_Some operators.Equal op e)
operator_sign sign.Differs op e = ap operator_token (same_Some operators.Unequal op e)
operator_sign sign.Less op e = ap operator_token (same_Some operators.Less op e)
operator_sign sign.AtMost op e = ap operator_token (same_Some operators.AtMost op e)
operator_sign sign.Greater op e = ap operator_token (same_Some operators.Greater op e)
operator_sign sign.AtLeast op e = ap operator_token (same_Some operators.AtLeast op e)
operator_sign _ op e = absurd cc

pub operator_is : (t : Token) (op : Operator) → operator_of t ≡ Some op → t ≡ operator_token op
operator_is (Word w) op e = operator_word w op e
operator_is (Int n) op e = absurd cc
operator_is (Text s) op e = absurd cc
operator_is (Sign s) op e = operator_sign s op e

-- ---- what a statement begins with

abbrev pub PlainIs : Token → Plain → Type 0
PlainIs t (plains.Assign s) = t ≡ Word s
PlainIs t plains.Insert = t ≡ Word (codes "insert")
PlainIs t plains.Update = t ≡ Word (codes "update")
PlainIs t plains.Delete = t ≡ Word (codes "delete")
PlainIs t plains.Release = t ≡ Word (codes "release")
PlainIs t plains.Emit = t ≡ Word (codes "emit")

test_word : {X : Type 0} (w k : Bytes) (x y : X) (more : Option X) → (if bytes_eq w k then Some x else more) ≡ Some y
    → ((Word w ≡ Word k) × (x ≡ y)) ⊎ (more ≡ Some y)
test_word w k x y more e = go (chosen (bytes_eq w k) (Some x) more (Some y) e)
  where
    go : ((bytes_eq w k ≡ true) × (Some x ≡ Some y)) ⊎ ((bytes_eq w k ≡ false) × (more ≡ Some y))
        → ((Word w ≡ Word k) × (x ≡ y)) ⊎ (more ≡ Some y)
    go (inl h) = inl (ap (λ (s : Bytes). Word s) ((bytes_eq-Decides w k).0 h.0), same_Some x y h.1)
    go (inr h) = inr h.1

abbrev PlainOf : Bytes → Plain → Type 0
PlainOf w p = PlainIs (Word w) p

abbrev or_assign : Bytes → Option Plain
or_assign w = if is_name w then Some (plains.Assign w) else None

abbrev or_emit : Bytes → Option Plain
or_emit w = if bytes_eq w (codes "emit") then Some plains.Emit else or_assign w

abbrev or_release : Bytes → Option Plain
or_release w = if bytes_eq w (codes "release") then Some plains.Release else or_emit w

abbrev or_delete : Bytes → Option Plain
or_delete w = if bytes_eq w (codes "delete") then Some plains.Delete else or_release w

abbrev or_update : Bytes → Option Plain
or_update w = if bytes_eq w (codes "update") then Some plains.Update else or_delete w

plain_word : (w : Bytes) (p : Plain) → plain_of_word w ≡ Some p → PlainOf w p
plain_word w p e = first (test_word w (codes "insert") plains.Insert p (or_update w) e)
  where
    sixth : ((is_name w ≡ true) × (Some (plains.Assign w) ≡ Some p)) ⊎ ((is_name w ≡ false) × (None ≡ Some p))
        → PlainOf w p
    sixth (inl h) = subst (PlainOf w) (same_Some (plains.Assign w) p h.1) refl
    sixth (inr h) = absurd (let bad = h.1 in cc)

    fifth : ((Word w ≡ Word (codes "emit")) × (plains.Emit ≡ p)) ⊎ (or_assign w ≡ Some p) → PlainOf w p
    fifth (inl h) = subst (PlainOf w) h.1 h.0
    fifth (inr h) = sixth (chosen (is_name w) (Some (plains.Assign w)) None (Some p) h)

    fourth : ((Word w ≡ Word (codes "release")) × (plains.Release ≡ p)) ⊎ (or_emit w ≡ Some p) → PlainOf w p
    fourth (inl h) = subst (PlainOf w) h.1 h.0
    fourth (inr h) = fifth (test_word w (codes "emit") plains.Emit p (or_assign w) h)

    third : ((Word w ≡ Word (codes "delete")) × (plains.Delete ≡ p)) ⊎ (or_release w ≡ Some p) → PlainOf w p
    third (inl h) = subst (PlainOf w) h.1 h.0
    third (inr h) = fourth (test_word w (codes "release") plains.Release p (or_emit w) h)

    second : ((Word w ≡ Word (codes "update")) × (plains.Update ≡ p)) ⊎ (or_delete w ≡ Some p) → PlainOf w p
    second (inl h) = subst (PlainOf w) h.1 h.0
    second (inr h) = third (test_word w (codes "delete") plains.Delete p (or_release w) h)

    first : ((Word w ≡ Word (codes "insert")) × (plains.Insert ≡ p)) ⊎ (or_update w ≡ Some p) → PlainOf w p
    first (inl h) = subst (PlainOf w) h.1 h.0
    first (inr h) = second (test_word w (codes "update") plains.Update p (or_delete w) h)

abbrev pub OpeningIs : Token → Opening → Type 0
OpeningIs t openings.If = t ≡ Word (codes "if")
OpeningIs t openings.For = t ≡ Word (codes "for")
OpeningIs t (openings.Plain p) = PlainIs t p

mapped : (w : Bytes) (m : Option Plain) (o : Opening) → plain_of_word w ≡ m → option_map openings.Plain m ≡ Some o
    → OpeningIs (Word w) o
mapped w None o is e = absurd cc
mapped w (Some p) o is e = subst (OpeningIs (Word w)) (same_Some (openings.Plain p) o e) (plain_word w p is)

abbrev or_plain : Bytes → Option Opening
or_plain w = option_map openings.Plain (plain_of_word w)

abbrev or_for : Bytes → Option Opening
or_for w = if bytes_eq w (codes "for") then Some openings.For else or_plain w

opening_word : (w : Bytes) (o : Opening) → opening_of_word w ≡ Some o → OpeningIs (Word w) o
opening_word w o e = first (test_word w (codes "if") openings.If o (or_for w) e)
  where
    second : ((Word w ≡ Word (codes "for")) × (openings.For ≡ o)) ⊎ (or_plain w ≡ Some o) → OpeningIs (Word w) o
    second (inl h) = subst (OpeningIs (Word w)) h.1 h.0
    second (inr h) = mapped w (plain_of_word w) o refl h

    first : ((Word w ≡ Word (codes "if")) × (openings.If ≡ o)) ⊎ (or_for w ≡ Some o) → OpeningIs (Word w) o
    first (inl h) = subst (OpeningIs (Word w)) h.1 h.0
    first (inr h) = second (test_word w (codes "for") openings.For o (or_plain w) h)

pub opening_is : (t : Token) (o : Opening) → opening_of t ≡ Some o → OpeningIs t o
opening_is (Word w) o e = opening_word w o e
opening_is _ o e = absurd cc

-- ---- kinds

kind_word : (w : Bytes) (k : Kind) → kind_of_word w ≡ Some k → Word w ≡ kind_token k
kind_word w k e = first (test_word w (codes "int") kinds.Int k
    (if bytes_eq w (codes "text") then Some kinds.Text else None) e)
  where
    second : ((Word w ≡ Word (codes "text")) × (kinds.Text ≡ k)) ⊎ (None ≡ Some k) → Word w ≡ kind_token k
    second (inl h) = h.0 ∙ ap kind_token h.1
    second (inr h) = absurd cc

    first : ((Word w ≡ Word (codes "int")) × (kinds.Int ≡ k))
        ⊎ ((if bytes_eq w (codes "text") then Some kinds.Text else None) ≡ Some k) → Word w ≡ kind_token k
    first (inl h) = h.0 ∙ ap kind_token h.1
    first (inr h) = second (test_word w (codes "text") kinds.Text k None h)

pub kind_is : (t : Token) (k : Kind) → kind_of t ≡ Some k → t ≡ kind_token k
kind_is (Word w) k e = kind_word w k e
kind_is _ k e = absurd cc
