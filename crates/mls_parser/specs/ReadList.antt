-- Items in order, lists of them, and new values of attributes, from the tokens that are left; and those of expressions.
use Rattle.std.specs.Prelude.{ℕ, zero, suc, Bool, not, ◌==◌, nat_eq, List, [], ◌∷◌, ◌++◌, map, length, slice_get}
use Rattle.std.specs.Prelude.{Option, Some, None, Ok, Err}
use Rattle.std.specs.List.{list_any}
use Rattle.mls_lattice.specs.Reading.{◌>>=◌}
use Rattle.mls_scheme.specs.Scheme.{Attribute, Scheme}
use Rattle.mls_tokens.specs.declared.sign.Sign.TheVariants.{LeftParen, RightParen, Comma, Equals}
use Rattle.mls_tokens.specs.Passing.{refused, PlacedName}
use Rattle.mls_translang.specs.Tokens.{Context}
use Rattle.mls_translang.specs.Tree.{Expr}
use Rattle.mls_parser.specs.declared.fault.TextCause.TheVariants as cause
use Rattle.mls_parser.specs.declared.fault.PlacedFault.{PlacedFault}
use Rattle.mls_parser.specs.declared.given.Given.{Given}
use Rattle.mls_parser.specs.declared.inferred.Inferred.{Inferred}
use Rattle.mls_parser.specs.Fault.{fault, unless, lifted}
use Rattle.mls_parser.specs.Infer.{may_be, may_be_value}
use Rattle.mls_parser.specs.Names.{other_named}
use Rattle.mls_parser.specs.Noted.{State, Read, note, takes_sign, sign_at, name_at}
use Rattle.mls_parser.specs.ReadExpr.{whole_at}

-- ---- items with a comma between each two

abbrev pub after_item : {A : Type 0} → (A → State → Read A) → A → State → Option (ℕ × State) → Read A
after_item more items s None = Ok (items, s)
after_item more items s (Some comma) = more items comma.1

module _ {A : Type 0} (next : A → State → Read A) where
  -- n items at most, behind those before
  abbrev pub items_from : ℕ → A → State → Read A
  items_from zero items s = Err (lifted (refused s.1))
  items_from (suc n) items s = next items s >>= λ x. after_item (λ xs r. items_from n xs r) x.0 x.1
      (takes_sign Comma x.1)

  -- no more of them than there are tokens
  abbrev pub items_at : A → State → Read A
  items_at items s = items_from (suc (length s.1.placed)) items s

-- ---- lists

-- items in parentheses, by what reads one more; how many there may be is tested at the end
module _ {X : Type 0} (next : List X → State → Read (List X)) (are_enough : ℕ → Bool) where
  abbrev pub closed : List X → ℕ × State → List X × State
  closed xs end = (xs, note (unless (are_enough (length xs)) end.0 cause.Kind) end.1)

  abbrev pub list_behind : State → Option (ℕ × State) → Read (List X)
  list_behind s (Some end) = Ok (closed [] end)
  list_behind s None = do
    xs ← items_at next [] s
    end ← sign_at RightParen xs.1
    Ok (closed xs.0 end)

  abbrev pub list_of : State → Read (List X)
  list_of s = sign_at LeftParen s >>= λ x. list_behind x.1 (takes_sign RightParen x.1)

-- ---- new values

-- one more, of an attribute that is known
abbrev pub with_set : {X : Type 0} → List (ℕ × X) → Option ℕ → X → List (ℕ × X)
with_set front None x = front
with_set front (Some i) x = front ++ (i, x) ∷ []

-- the attribute of a number, if there is one
abbrev pub numbered_in : List Attribute → Option ℕ → Option Attribute
numbered_in attributes None = None
numbered_in attributes (Some i) = slice_get attributes i

module _ {X : Type 0} where
  -- the name of an attribute outside the key that has no value yet
  abbrev pub target_faults : List (ℕ × X) → PlacedName → Option ℕ → List PlacedFault
  target_faults front name None = fault name.1 cause.UnknownName ∷ []
  target_faults front name (Some i) = unless (not (list_any (nat_eq i) (map (λ x. x.0) front))) name.1 cause.Repeated

  -- ATTRIBUTE =, behind those before; an unknown name stands for none
  unfoldable pub target_at : Scheme → List (ℕ × X) → State → Read (Option ℕ)
  target_at scheme front s = do
    n ← name_at s
    e ← sign_at Equals n.1
    Ok (other_named scheme n.0.0, note (target_faults front n.0 (other_named scheme n.0.0)) e.1)

-- ---- values

-- a value by its place, and whether it may stand for an attribute, or where there is none
abbrev fit_faults : {V : Type 0} → (V → ℕ) → (Option Attribute → V → Bool) → Option Attribute → V → List PlacedFault
fit_faults place fits attribute v = unless (fits attribute v) (place v) cause.Kind

-- by what reads one, and the value of it
module _ {V X : Type 0} (value_at : State → Read V) (item : V → X) (place : V → ℕ) (fits : Option Attribute → V
    → Bool) where
  -- one more, of the attributes in their order
  abbrev pub item_of : (ℕ → Option Attribute) → List X → State → Read (List X)
  item_of attribute front s = do
    v ← value_at s
    Ok (front ++ item v.0 ∷ [], note (fit_faults place fits (attribute (length front)) v.0) v.1)

  -- ATTRIBUTE = VALUE, behind those before
  abbrev pub set_of : Scheme → List (ℕ × X) → State → Read (List (ℕ × X))
  set_of scheme front s = do
    o ← target_at scheme front s
    v ← value_at o.1
    Ok (with_set front o.0 (item v.0), note (fit_faults place fits (numbered_in scheme.others o.0) v.0) v.1)

-- ---- expressions

-- an expression that has to pass a test
abbrev pub tested : Bool → Given → List PlacedFault
tested holds g = unless holds g.at cause.Kind

-- of the kind of its attribute; any value where there is none
abbrev pub fits_item : Option Attribute → Inferred → Bool
fits_item None gives = may_be_value gives
fits_item (Some a) gives = may_be gives a.1.kind

module _ (p : Context) where
  -- an expression more, behind those before
  unfoldable pub item_at : List Attribute → List Expr → State → Read (List Expr)
  item_at attributes front s = item_of (whole_at p) (λ g. g.expr) (λ g. g.at) (λ a g. fits_item a g.gives)
      (slice_get attributes) front s

  -- one for each attribute
  unfoldable pub list_at : List Attribute → State → Read (List Expr)
  list_at attributes s = list_of (item_at attributes) (λ n. n == length attributes) s

  -- an attribute and its new value, behind those before
  unfoldable pub set_at : Scheme → List (ℕ × Expr) → State → Read (List (ℕ × Expr))
  set_at scheme front s = set_of (whole_at p) (λ g. g.expr) (λ g. g.at) (λ a g. fits_item a g.gives) scheme front s

  unfoldable pub sets_at : Scheme → State → Read (List (ℕ × Expr))
  sets_at scheme s = items_at (set_at scheme) [] s
