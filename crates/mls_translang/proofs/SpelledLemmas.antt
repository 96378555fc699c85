-- The tokens of a transaction are spelled as they are written.
use Rattle.std.proofs.Common.{◌≡◌, ℕ, zero, suc, ◌<◌, nat_le, Bool, true, List, [], ◌∷◌, ◌++◌, codes, length, slice_index, Option, Some, None, refl, arith, IfSome, flat_map, leb-true}
use Rattle.std.specs.List.{AllByRecursion, list_all}
use Rattle.std.specs.Char.{is_ascii_alphabetic}
use Rattle.std.proofs.lemmas.Bool.{and_parts}
use Rattle.mls_lattice.specs.Name.{is_name, is_name_byte}
use Rattle.mls_lattice.specs.Policy.{Name}
use Rattle.mls_lattice.specs.Canon.{label_name}
use Rattle.mls_scheme.specs.declared.value.Value.{Value}
use Rattle.mls_scheme.specs.declared.value.Value.TheVariants as values
use Rattle.mls_scheme.specs.Scheme.{scheme_of, other_of}
use Rattle.mls_tokens.specs.declared.token.Token.{Token}
use Rattle.mls_tokens.specs.declared.token.Token.TheVariants.{Word, Sign}
use Rattle.mls_tokens.specs.declared.sign.Sign.TheVariants as sign
use Rattle.mls_translang.specs.declared.operator.Operator.{Operator}
use Rattle.mls_translang.specs.declared.operator.Operator.TheVariants as operators
use Rattle.mls_translang.specs.Tree.{Expr, Known, Null, Var, Param, Field, No, Op, Insert, Update, Delete, Stmt, Assign, Write_at, Release, Emit, Block, End, Do, If, For}
use Rattle.mls_translang.specs.Scope.{row_at}
use Rattle.mls_translang.specs.Kinds.{field_of}
use Rattle.mls_translang.specs.Tx.{HasOwn, IsOwn, IsLiteral, StmtIsOwn, BlockIsOwn}
use Rattle.mls_translang.specs.Fits.{IsLabel, width, ExprFits, StmtFits, BlockFits}
use Rattle.mls_tokens.specs.Text.{comma_tokens, separated}
use Rattle.mls_translang.specs.Tokens.{Context, at_row, name_at, value_token, operator_token, expr_tokens, list_tokens, set_tokens, stmt_end, head_tokens, write_end, stmt_tokens, else_tokens, braced, block_tokens}
use Rattle.mls_translang.specs.ReadsBack.{IsSpelled}
use Rattle.mls_translang.proofs.NumberLemmas.{int_spelled}

abbrev pub AreSpelled : List Token → Type 0
AreSpelled = AllByRecursion IsSpelled

pub both : (ts us : List Token) → AreSpelled ts → AreSpelled us → AreSpelled (ts ++ us)
both [] us h k = k
both (t ∷ ts) us h k = (h.0, both ts us h.1 k)

-- ---- words

all_of : (p : ℕ → Bool) (bs : List ℕ) → list_all p bs ≡ true → AllByRecursion (λ b. p b ≡ true) bs
all_of p [] h = tt
all_of p (b ∷ bs) h = ((and_parts _ _ h).0, all_of p bs (and_parts _ _ h).1)

-- a NAME is a word
pub named : (name : Name) → is_name name ≡ true → IsSpelled (Word name)
unfolding is_name
named name h =
    let a = and_parts _ _ h in
    let b = and_parts _ _ a.0 in
    let d = and_parts _ _ b.0 in
    let e = and_parts _ _ d.0 in
    (refl, record { letter = d.1; bytes = all_of is_name_byte name b.1; short = leb-true (length name) 32 e.1 })

-- a reserved word is a word, too
pub word_spelled : (w : List ℕ) → is_ascii_alphabetic (slice_index w 0) ≡ true → list_all is_name_byte w ≡ true
    → nat_le (length w) 32 ≡ true → IsSpelled (Word w)
word_spelled w letter bytes short = (
  refl,
  record {
    letter = letter;
    bytes = all_of is_name_byte w bytes;
    short =
        leb-true (length w) 32 short;
  },
)

-- ---- what names are at a place

pub record HasNames (p : Context) : Type 0 where
  pub label : (n : ℕ) → IsLabel p.policy n → is_name (label_name p.policy.labels n) ≡ true
  pub relation : (r : ℕ) → r < length p.schemes → is_name (scheme_of p.schemes r).name ≡ true
  pub field : (r i : ℕ) → i < width (scheme_of p.schemes r) → is_name (field_of (scheme_of p.schemes r) i).0 ≡ true
  pub other : (r i : ℕ) → i < length (scheme_of p.schemes r).others → is_name (other_of (scheme_of p.schemes r) i).0
      ≡ true
  pub var : (i : ℕ) → i < length p.scope.vars → is_name (name_at p.scope.vars i) ≡ true
  pub param : (i : ℕ) → i < length p.scope.params → is_name (name_at p.scope.params i) ≡ true
  pub row : (d : ℕ) → d < length p.scope.rows → is_name (row_at p.scope d).name ≡ true

inside : (p : Context) (row : Name) (relation : ℕ) → is_name row ≡ true → HasNames p → HasNames (at_row p row relation)
inside p row relation named h = record {
  label = h.label;
  relation = h.relation;
  field = h.field;
  other = h.other;
  var = h.var;
  param = h.param;
  row = rows;
}
  where
    rows : (d : ℕ) → d < length (at_row p row relation).scope.rows
        → is_name (row_at (at_row p row relation).scope d).name ≡ true
    rows zero within = named
    rows (suc d) within = h.row d (omega arith)

-- ---- expressions

value_spelled : (v : Value) → IsLiteral v → IsSpelled (value_token v)
value_spelled (values.Int n) h = int_spelled n h
value_spelled (values.Text s) h = (refl, h)

operator_spelled : (op : Operator) → IsSpelled (operator_token op)
operator_spelled operators.And = word_spelled (codes "and") refl refl refl
operator_spelled operators.Or = word_spelled (codes "or") refl refl refl
operator_spelled _ = refl

module _ (p : Context) (h : HasNames p) where
  pub expr_spelled : (e : Expr) → HasOwn p.scope e → ExprFits p.schemes p.scope e → AreSpelled (expr_tokens p e)
  expr_spelled (Known v) own fits = (value_spelled v own, tt)
  expr_spelled Null own fits = (word_spelled (codes "null") refl refl refl, tt)
  expr_spelled (Var i) own fits = (named _ (h.var i own), tt)
  expr_spelled (Param i) own fits = (named _ (h.param i own), tt)
  expr_spelled (Field d i) own fits = (
    named _ (h.row d own),
    (refl, (named _ (h.field (row_at p.scope d).relation i fits), tt)),
  )
  expr_spelled (No e) own fits = (word_spelled (codes "not") refl refl refl, expr_spelled e own fits)
  expr_spelled (Op op left right) own fits = (
    refl,
    both (expr_tokens p left) _ (expr_spelled left own.0 fits.0)
        (operator_spelled op, both (expr_tokens p right) _ (expr_spelled right own.1 fits.1) (refl, tt)),
  )

  list_items : (es : List Expr) → AllByRecursion (IsOwn p.scope) es → AllByRecursion (ExprFits p.schemes p.scope) es
      → AreSpelled (flat_map (comma_tokens (expr_tokens p)) es)
  list_items [] own fits = tt
  list_items (e ∷ es) own fits = (
    refl,
    both (expr_tokens p e) _ (expr_spelled e own.0.numbers fits.0)
        (list_items es own.1 fits.1),
  )

  list_spelled : (es : List Expr) → AllByRecursion (IsOwn p.scope) es → AllByRecursion (ExprFits p.schemes p.scope) es
      → AreSpelled (list_tokens p es)
  list_spelled [] own fits = (refl, (refl, tt))
  list_spelled (e ∷ es) own fits = (
    refl,
    both (separated (expr_tokens p) (e ∷ es)) (Sign sign.RightParen ∷ [])
        (both (expr_tokens p e) _ (expr_spelled e own.0.numbers fits.0) (list_items es own.1 fits.1)) (refl, tt),
  )

  -- ---- writes

  set_spelled : (relation : ℕ) (x : ℕ × Expr) → IsOwn p.scope x.1 → x.0 < length (scheme_of p.schemes relation).others
      → ExprFits p.schemes p.scope x.1
      → AreSpelled (set_tokens p (scheme_of p.schemes relation) x)
  set_spelled relation x own within fits = (
    named _ (h.other relation x.0 within),
    (refl, expr_spelled x.1 own.numbers fits),
  )

  set_items : (relation : ℕ) (xs : List (ℕ × Expr)) → AllByRecursion (λ x. IsOwn p.scope x.1) xs
      → AllByRecursion (λ x. (x.0 < length (scheme_of p.schemes relation).others) × ExprFits p.schemes p.scope x.1) xs
      → AreSpelled (flat_map (comma_tokens (set_tokens p (scheme_of p.schemes relation))) xs)
  set_items relation [] own fits = tt
  set_items relation (x ∷ xs) own fits = (
    refl,
    both (set_tokens p (scheme_of p.schemes relation) x) _ (set_spelled relation x own.0 fits.0.0 fits.0.1)
        (set_items relation xs own.1 fits.1),
  )

  sets_spelled : (relation : ℕ) (xs : List (ℕ × Expr)) → AllByRecursion (λ x. IsOwn p.scope x.1) xs
      → AllByRecursion (λ x. (x.0 < length (scheme_of p.schemes relation).others) × ExprFits p.schemes p.scope x.1) xs
      → AreSpelled (separated (set_tokens p (scheme_of p.schemes relation)) xs)
  sets_spelled relation [] own fits = tt
  sets_spelled relation (x ∷ xs) own fits =
      both (set_tokens p (scheme_of p.schemes relation) x) _ (set_spelled relation x own.0 fits.0.0 fits.0.1)
      (set_items relation xs own.1 fits.1)

  label : (n : ℕ) → IsLabel p.policy n → IsSpelled (Word (label_name p.policy.labels n))
  label n within = named _ (h.label n within)

  end_spelled : (outcome : Option ℕ) → IfSome outcome (λ x. x < length p.scope.vars) → AreSpelled (stmt_end p outcome)
  end_spelled None own = (refl, tt)
  end_spelled (Some x) own = (word_spelled (codes "as") refl refl refl, (named _ (h.var x own), (refl, tt)))

  at_end : (w : ℕ) (outcome : Option ℕ) → IsLabel p.policy w → IfSome outcome (λ x. x < length p.scope.vars)
      → AreSpelled (write_end p w (stmt_end p outcome))
  at_end w outcome within own = (word_spelled (codes "at") refl refl refl, (label w within, end_spelled outcome own))

  head_spelled : (word : Name) (relation : ℕ) (key : List Expr) → IsSpelled (Word word) → relation < length p.schemes
      → AllByRecursion (IsOwn p.scope) key
      → AllByRecursion (ExprFits p.schemes p.scope) key → AreSpelled (head_tokens p word relation key)
  head_spelled word relation key w within own fits = (
    w,
    (
      named _ (h.relation relation within),
      (
        word_spelled (codes "key") refl refl refl,
        list_spelled key own fits,
      ),
    ),
  )

  stmt_spelled : (stmt : Stmt) → StmtIsOwn p.scope stmt → StmtFits p.policy p.schemes p.hi p.scope stmt
      → AreSpelled (stmt_tokens p stmt)
  stmt_spelled (Assign x e) own fits = (
    named _ (h.var x own.0),
    (refl, both (expr_tokens p e) _ (expr_spelled e own.1.numbers fits) (refl, tt)),
  )
  stmt_spelled (Write_at relation w (Insert key values) outcome) own fits =
      both (head_tokens p (codes "insert") relation key) _
      (head_spelled (codes "insert") relation key
      (word_spelled (codes "insert") refl refl refl) fits.0 own.0.0 fits.2.0.each) (
        word_spelled (codes "values") refl refl refl,
        both (list_tokens p values) _
            (list_spelled values own.0.1 fits.2.1.each) (at_end w outcome fits.1 own.1),
      )
  stmt_spelled (Write_at relation w (Update key key_class from sets) outcome) own fits =
      both (head_tokens p (codes "update") relation key) _
      (head_spelled (codes "update") relation key
      (word_spelled (codes "update") refl refl refl) fits.0 own.0.0 fits.2.0.each) (
        word_spelled (codes "class") refl refl refl,
        (
          label key_class fits.2.1,
          (
            word_spelled (codes "from") refl refl refl,
            (
              label from fits.2.2,
              (
                word_spelled (codes "at") refl refl refl,
                (
                  label w fits.1,
                  (
                    word_spelled (codes "set") refl refl refl,
                    both (separated (set_tokens p (scheme_of p.schemes relation)) sets) _
                        (sets_spelled relation sets own.0.1 fits.2.3.each) (end_spelled outcome own.1),
                  ),
                ),
              ),
            ),
          ),
        ),
      )
  stmt_spelled (Write_at relation w (Delete key key_class) outcome) own fits =
      both (head_tokens p (codes "delete") relation key) _
      (head_spelled (codes "delete") relation key
      (word_spelled (codes "delete") refl refl refl) fits.0 own.0 fits.2.0.each)
      (word_spelled (codes "class") refl refl refl, (label key_class fits.2.1, at_end w outcome fits.1 own.1))
  stmt_spelled (Release e to into) own fits = (
    word_spelled (codes "release") refl refl refl,
    both (expr_tokens p e) _ (expr_spelled e own.0.numbers fits.0) (
      word_spelled (codes "to") refl refl refl,
      (
        label to fits.1,
        (
          word_spelled (codes "into") refl refl refl,
          (named _ (h.var into own.1), (refl, tt)),
        ),
      ),
    ),
  )
  stmt_spelled (Emit e label_no) own fits = (
    word_spelled (codes "emit") refl refl refl,
    both (expr_tokens p e) _ (expr_spelled e own.numbers fits.0)
        (word_spelled (codes "at") refl refl refl, (label label_no fits.1, (refl, tt))),
  )

-- ---- blocks

pub braced_spelled : (ts : List Token) → AreSpelled ts → AreSpelled (braced ts)
braced_spelled ts h = (refl, both ts _ h (refl, tt))

else_spelled : (other : Block) (ts : List Token) → AreSpelled ts → AreSpelled (else_tokens other ts)
else_spelled End ts h = tt
else_spelled _ ts h = (word_spelled (codes "else") refl refl refl, h)

pub block_spelled : (b : Block) (p : Context) → HasNames p → BlockIsOwn p.scope b
    → BlockFits p.policy p.schemes p.hi p.scope b → AreSpelled (block_tokens p b)
block_spelled End p h own fits = tt
block_spelled (Do stmt rest) p h own fits =
    both (stmt_tokens p stmt) _ (stmt_spelled p h stmt own.0 fits.0) (block_spelled rest p h own.1 fits.1)
block_spelled (If guard one other rest) p h own fits = (
  word_spelled (codes "if") refl refl refl,
  both (expr_tokens p guard) _ (expr_spelled p h guard own.0.numbers fits.0)
      (both (braced (block_tokens p one)) _ (braced_spelled (block_tokens p one) (block_spelled one p h own.1 fits.1))
      (both (else_tokens other (braced (block_tokens p other))) _
      (else_spelled other (braced (block_tokens p other)) (braced_spelled (block_tokens p other)
      (block_spelled other p h own.2 fits.2)))
      (block_spelled rest p h own.3 fits.3))),
)
block_spelled (For row relation label_no body rest) p h own fits = (
  word_spelled (codes "for") refl refl refl,
  (
    named row own.0.0,
    (
      word_spelled (codes "in") refl refl refl,
      (
        named _ (h.relation relation fits.0),
        (
          word_spelled (codes "at") refl refl refl,
          (
            label p h label_no fits.1,
            both (braced (block_tokens (at_row p row relation) body)) _
                (braced_spelled (block_tokens (at_row p row relation) body) (block_spelled body (at_row p row relation)
                (inside p row relation own.0.0 h) own.1 fits.2))
                (block_spelled rest p h own.2 fits.3),
          ),
        ),
      ),
    ),
  ),
)
