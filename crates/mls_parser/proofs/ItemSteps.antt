-- Items with a comma between each two, item by item.
use Rattle.std.proofs.Common.{◌≡◌, ℕ, zero, suc, ◌<◌, ◌≤◌, Bool, true, List, [], ◌∷◌, ◌++◌, length, Option, Some, None, option_map, is_some, Ok, Err, refl, sym, ap, ◌∙◌, arith, slice_get}
use Rattle.mls_lattice.specs.Reading.{◌>>=◌}
use Rattle.mls_scheme.specs.declared.attributes.Column.{Column}
use Rattle.mls_scheme.specs.declared.value.Kind.{Kind}
use Rattle.mls_lattice.proofs.ReadingLemmas.{ok_is, bind_ok}
use Rattle.mls_scheme.specs.Scheme.{Attribute, Scheme, column_of}
use Rattle.mls_tokens.specs.declared.sign.Sign.TheVariants.{Comma, Equals}
use Rattle.mls_tokens.specs.declared.token.Token.TheVariants.{Word, Sign}
use Rattle.mls_tokens.specs.Passing.{PlacedName}
use Rattle.mls_tokens.proofs.PassedLemmas.{passed_shorter}
use Rattle.mls_translang.specs.Tokens.{Context}
use Rattle.mls_translang.specs.Tree.{Expr}
use Rattle.mls_parser.specs.declared.fault.TextCause.TheVariants as cause
use Rattle.mls_parser.specs.declared.fault.PlacedFault.{PlacedFault}
use Rattle.mls_parser.specs.Fault.{unless}
use Rattle.mls_parser.specs.declared.inferred.Inferred.{Inferred}
use Rattle.mls_parser.specs.Infer.{may_be, may_be_value}
use Rattle.mls_parser.specs.Names.{other_named}
use Rattle.mls_parser.specs.Noted.{State, Read, note, takes_sign, sign_at, name_at}
use Rattle.mls_parser.specs.ReadExpr.{whole_at}
use Rattle.mls_parser.specs.ReadList.{after_item, items_from, items_at, with_set, numbered_in, target_faults, target_at, item_of, set_of, fits_item, item_at, set_at}
use Rattle.mls_parser.proofs.ExprFound.{whole_shorter}
use Rattle.mls_parser.proofs.PassedLemmas.{sign_found, takes_shorter, name_found}

-- ---- the attribute of a number

pub slot : (o : Option Attribute) (c : Column) → option_map column_of o ≡ Some c → (fits : Option Attribute → Bool)
    (is : Kind → Bool) → ((a : Attribute) → fits (Some a) ≡ is a.1.kind) → is c.kind ≡ fits o
slot None c h fits is some = absurd cc
slot (Some a) c h fits is some =
    let same : column_of a ≡ c = cc in
    ap (λ (d : Column). is d.kind) (sym same) ∙ sym (some a)

pub no_slot : (attributes : List Attribute) (i : ℕ) → (i < length attributes → ⊥) → slice_get attributes i ≡ None
no_slot [] i past = refl
no_slot (a ∷ rest) zero past = absurd (past (omega arith))
no_slot (a ∷ rest) (suc i) past = no_slot rest i (λ lt. past (omega (arith, lt)))

pub slot_kind : (attributes : List Attribute) (i : ℕ) (c : Column) (given : Inferred)
    → option_map column_of (slice_get attributes i) ≡ Some c → may_be given c.kind
    ≡ fits_item (slice_get attributes i) given
slot_kind attributes i c given h = slot (slice_get attributes i) c h (λ o. fits_item o given) (may_be given) (λ a. refl)

pub slot_value : (attributes : List Attribute) (i : ℕ) (given : Inferred) → (i < length attributes → ⊥)
    → may_be_value given ≡ fits_item (slice_get attributes i) given
slot_value attributes i given past = ap (λ o. fits_item o given) (sym (no_slot attributes i past))

pub ruleset slot_steps = (slot_kind, slot_value)

-- ---- item by item

module _ {A : Type 0} (next : A → State → Read A) (first : A) (start : State) where
  -- what is left to read, behind the items that were read, is the whole
  pub record ItemsSoFar (items : A) (s : State) : Type 0 where
    pub most : ℕ
    pub enough : length s.1.placed ≤ most
    pub same : items_at next first start ≡ items_from next (suc most) items s

  pub items_none : ItemsSoFar first start
  items_none = record { most = length start.1.placed; enough = omega arith; same = refl }

  module _ (items : A) (s : State) (h : ItemsSoFar items s) where
    pub items_err : (e : PlacedFault) → next items s ≡ Err e → items_at next first start ≡ Err e
    items_err e is = h.same ∙ ap (λ r. r >>= λ x. after_item (λ xs r. items_from next h.most xs r) x.0 x.1
        (takes_sign Comma x.1)) is

    module _ (x : A) (m : State) (is : next items s ≡ Ok (x, m)) where
      after : (o : Option (ℕ × State)) → takes_sign Comma m ≡ o → items_at next first start
          ≡ after_item (λ xs r. items_from next h.most xs r) x m o
      after o e =
          h.same ∙ ap (λ r. r >>= λ x. after_item (λ xs r. items_from next h.most xs r) x.0 x.1
          (takes_sign Comma x.1)) is
          ∙ ap (λ z. after_item (λ xs r. items_from next h.most xs r) x m z) e

      pub items_end : takes_sign Comma m ≡ None → items_at next first start ≡ Ok (x, m)
      items_end e = after None e

      pub items_more : (at : ℕ) (l : State) → takes_sign Comma m ≡ Some (at, l) → length l.1.placed < length s.1.placed
          → ItemsSoFar x l
      items_more at l e less = step h.most h.enough (after (Some (at, l)) e)
        where
          step : (most : ℕ) → length s.1.placed ≤ most → items_at next first start ≡ items_from next most x l
              → ItemsSoFar x l
          step zero enough same = absurd (omega arith)
          step (suc most) enough same = record { most = most; enough = omega arith; same = same }

      pub items_next : (o : Option ℕ) (l : State) → is_some o ≡ true → option_map (λ at. (at, l)) o ≡ takes_sign Comma m
          → ((at : ℕ) → takes_sign Comma m ≡ Some (at, l) → length l.1.placed < length s.1.placed) → ItemsSoFar x l
      items_next None l some e less = absurd cc
      items_next (Some at) l some e less = items_more at l (sym e) (less at (sym e))

-- ---- the comma behind an item is nearer to the end

target_shorter : {X : Type 0} (scheme : Scheme) (front : List (ℕ × X)) (s : State) (o : Option ℕ × State)
    → target_at scheme front s ≡ Ok o → length o.1.1.placed < length s.1.placed
unfolding target_at
target_shorter scheme front s o is =
    let next : PlacedName × State → ℕ × State → Option ℕ × State = λ n e. (
      other_named scheme n.0.0,
      note (target_faults front n.0 (other_named scheme n.0.0)) e.1,
    ) in
    let n = bind_ok (name_at s) (λ n. sign_at Equals n.1 >>= λ e. Ok (next n e)) o is in
    let e = bind_ok (sign_at Equals n.0.1) (λ e. Ok (next n.0 e)) o n.2 in
    let same = ok_is (next n.0 e.0) o e.2 in
    omega (
      arith,
      passed_shorter (Word n.0.0.0 ∷ []) s.1 n.0.1.1 (name_found s n.0 n.1).name.passed,
      passed_shorter (Sign Equals ∷ []) n.0.1.1 e.0.1.1 (sign_found Equals n.0.1 e.0 e.1).passed,
      ap (λ (y : Option ℕ × State). length y.1.1.placed) same,
    )

module _ {V X : Type 0} (value_at : State → Read V) (item : V → X) (place : V → ℕ) (fits : Option Attribute → V → Bool)
    (shorter : (s : State) (v : V × State) → value_at s ≡ Ok v → length v.1.1.placed < length s.1.placed) where
  pub item_of_less : (attribute : ℕ → Option Attribute) (front : List X) (s : State) (x : List X) (m l : State) (at : ℕ)
      → item_of value_at item place fits attribute front s ≡ Ok (x, m) → takes_sign Comma m ≡ Some (at, l)
      → length l.1.placed < length s.1.placed
  item_of_less attribute front s x m l at is e =
      let next : V × State → List X × State = λ v. (
        front ++ item v.0 ∷ [],
        note (unless (fits (attribute (length front)) v.0) (place v.0) cause.Kind) v.1,
      ) in
      let v = bind_ok (value_at s) (λ v. Ok (next v)) (x, m) is in
      let same = ok_is (next v.0) (x, m) v.2 in
      omega (
        arith,
        shorter s v.0 v.1,
        ap (λ (y : List X × State). length y.1.1.placed) same,
        takes_shorter Comma m at l e,
      )

  pub set_of_less : (scheme : Scheme) (front : List (ℕ × X)) (s : State) (x : List (ℕ × X)) (m l : State) (at : ℕ)
      → set_of value_at item place fits scheme front s ≡ Ok (x, m) → takes_sign Comma m ≡ Some (at, l)
      → length l.1.placed < length s.1.placed
  set_of_less scheme front s x m l at is e =
      let next : Option ℕ × State → V × State → List (ℕ × X) × State = λ o v. (
        with_set front o.0 (item v.0),
        note (unless (fits (numbered_in scheme.others o.0) v.0) (place v.0) cause.Kind) v.1,
      ) in
      let o = bind_ok (target_at scheme front s) (λ o. value_at o.1 >>= λ v. Ok (next o v)) (x, m) is in
      let v = bind_ok (value_at o.0.1) (λ v. Ok (next o.0 v)) (x, m) o.2 in
      let same = ok_is (next o.0 v.0) (x, m) v.2 in
      omega (
        arith,
        target_shorter scheme front s o.0 o.1,
        shorter o.0.1 v.0 v.1,
        ap (λ (y : List (ℕ × X) × State). length y.1.1.placed) same,
        takes_shorter Comma m at l e,
      )

-- of expressions
module _ (p : Context) where
  pub item_less : (attributes : List Attribute) (front : List Expr) (s : State) (x : List Expr) (m l : State) (at : ℕ)
      → item_at p attributes front s ≡ Ok (x, m) → takes_sign Comma m ≡ Some (at, l) → length l.1.placed
      < length s.1.placed
  unfolding item_at
  item_less attributes = item_of_less (whole_at p) (λ g. g.expr) (λ g. g.at) (λ a g. fits_item a g.gives)
      (whole_shorter p) (slice_get attributes)

  pub set_less : (scheme : Scheme) (front : List (ℕ × Expr)) (s : State) (x : List (ℕ × Expr)) (m l : State) (at : ℕ)
      → set_at p scheme front s ≡ Ok (x, m) → takes_sign Comma m ≡ Some (at, l) → length l.1.placed < length s.1.placed
  unfolding set_at
  set_less = set_of_less (whole_at p) (λ g. g.expr) (λ g. g.at) (λ a g. fits_item a g.gives) (whole_shorter p)

pub ruleset item_steps = (items_none, items_err, items_end, items_more, item_less, set_less)
