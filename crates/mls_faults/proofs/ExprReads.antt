-- Readers of names, expressions and lists of them read no further than the next token.
use Rattle.std.proofs.Common.{ℕ, zero, suc, ◌+◌, ◌<◌, ◌≤◌, ◌==◌, Bool, not, List, [], ◌∷◌, ◌++◌, length, length-append, map, codes, bytes_eq, slice_get, Option, Some, None, is_some, Ok, refl, arith, nat_eq}
use Rattle.std.specs.List.{list_any}
use Rattle.mls_lattice.specs.Name.{is_name}
use Rattle.mls_lattice.specs.Policy.{Policy}
use Rattle.mls_lattice.specs.Reading.{◌>>=◌}
use Rattle.mls_scheme.specs.Scheme.{Attribute, Scheme, Schemes}
use Rattle.mls_tokens.specs.declared.token.Token.{Token}
use Rattle.mls_tokens.specs.declared.token.Token.TheVariants.{Word, Int, Text, Sign as Sign_token}
use Rattle.mls_tokens.specs.declared.token.Placed.{Placed}
use Rattle.mls_tokens.specs.declared.sign.Sign.{Sign}
use Rattle.mls_tokens.specs.declared.sign.Sign.TheVariants as signs
use Rattle.mls_tokens.specs.Passing.{PlacedName}
use Rattle.mls_translang.specs.declared.operator.Operator.{Operator}
use Rattle.mls_translang.specs.declared.operator.Operator.TheVariants.{And}
use Rattle.mls_translang.specs.Tokens.{Context}
use Rattle.mls_translang.specs.Tree.{Expr, No, Op}
use Rattle.mls_parser.specs.declared.fault.TextCause.TheVariants as cause
use Rattle.mls_parser.specs.declared.fault.PlacedFault.{PlacedFault}
use Rattle.mls_parser.specs.Fault.{unless}
use Rattle.mls_parser.specs.Names.{label_named, relation_named, attribute_named, other_named, numbered, referent, row_named, row_scheme}
use Rattle.mls_parser.specs.Infer.{may_be_truth, operands_fit, given_by_operator}
use Rattle.mls_parser.specs.Noted.{State, Read, note, token, takes_sign, sign_at, name_at, known, label_of, label_behind, relation_at}
use Rattle.mls_parser.specs.Words.{head_of_sign, head_of, operator_of}
use Rattle.mls_parser.specs.ReadExpr.{given, name_given, field_given, field_faults, dotted, named_at, behind_head, term_at, negation, second, operation, too_deep, expr_at, whole_at}
use Rattle.mls_parser.specs.ReadList.{after_item, items_from, items_at, list_behind, list_of, with_set, numbered_in, target_faults, target_at, item_of, set_of, fits_item, item_at, list_at, set_at, sets_at}
use Rattle.mls_faults.proofs.ReadsLemmas.{GivenBy, IsFrom, EndsFrom, AreOfNames, NotesNames, Two, one, two, Agree, ReadsFrom, Reads, reads_behind, later_then, names_then, agree_then, reads_then}
use Rattle.mls_faults.proofs.StepLemmas.{of_unless, reads_noted, reads_done, reads_fault, reads_refused, AllSome, all_if, any_then, is_sign_taken, takes_later, takes_local, takes_names, reads_sign, reads_name, reads_behind_word, reads_known, reads_if_sign}

-- an expression as it is read
abbrev Given : Type 0
Given = GivenBy name_given

-- ---- names

module _ (k : Two) (policy : Policy) where
  pub reads_label : {r : State → Read PlacedName} → Reads k r → Reads k (λ s. label_of policy (r s))
  reads_label h = reads_then k h (λ n. Ok (
    numbered (label_named policy n.0.0),
    note (known (label_named policy n.0.0)
        n.0.1) n.1,
  )) (λ n. reads_noted k (numbered (label_named policy n.0)) (known (label_named policy n.0) n.1)
      (of_unless (is_some (label_named policy n.0)) n.1 cause.UnknownName refl))

  pub reads_label_behind : (w : List ℕ) → Reads k (label_behind policy w)
  unfolding label_behind
  reads_label_behind w = reads_label (reads_behind_word k w)

pub reads_relation : (k : Two) (schemes : Schemes) → Reads k (relation_at schemes)
unfolding relation_at
reads_relation k schemes = reads_then k (reads_name k) (λ n. Ok (
  numbered (relation_named schemes n.0.0),
  note (known (relation_named schemes n.0.0) n.0.1) n.1,
))
    (λ n. reads_noted k (numbered (relation_named schemes n.0)) (known (relation_named schemes n.0) n.1)
    (of_unless (is_some (relation_named schemes n.0)) n.1 cause.UnknownName refl))

-- ---- expressions

module _ (k : Two) (p : Context) where
  of_field : (row attribute : PlacedName) (depth : Option ℕ) → AreOfNames (field_faults p row attribute depth)
  of_field row attribute None = (refl, tt)
  of_field row attribute (Some depth) =
      of_unless (is_some (attribute_named (row_scheme p depth) attribute.0)) attribute.1 cause.UnknownName refl

  reads_named : (n : PlacedName) → Reads k (named_at p n)
  reads_named n =
      let field : PlacedName × State → Read Given = λ a. Ok (
        field_given p n a.0 (row_named p n.0),
        note (field_faults p n a.0 (row_named p n.0)) a.1,
      ) in
      reads_if_sign k signs.Dot (dotted p n) (λ at t. name_at t >>= field) (λ s at t. refl)
      (reads_noted k (name_given p n) (known (referent p n.0) n.1)
      (of_unless (is_some (referent p n.0)) n.1 cause.UnknownName refl))
      (λ at. reads_behind k at (λ t. name_at t >>= field) (reads_then k (reads_name k) field
      (λ a. reads_noted k (field_given p n a (row_named p n.0)) (field_faults p n a (row_named p n.0))
      (of_field n a (row_named p n.0)))))

  module _ (negated operated : ℕ → State → Read Given) (no : (at : ℕ) → ReadsFrom k at (negated at))
      (op : (at : ℕ) → ReadsFrom k at (operated at)) where
    from_sign : (m : Sign) (at : ℕ) → AllSome (λ y. ReadsFrom k at (λ s. behind_head p negated operated y at s))
        (head_of_sign m)
    from_sign signs.LeftParen at = op at
    from_sign _ at = tt

    from_token : (t : Token) (at : ℕ) → AllSome (λ y. ReadsFrom k at (λ s. behind_head p negated operated y at s))
        (head_of t)
    from_token (Word w) at =
        all_if (λ y. ReadsFrom k at (λ s. behind_head p negated operated y at s)) (bytes_eq w (codes "null")) _ _
        (reads_behind k at _ (reads_done k _))
        (all_if (λ y. ReadsFrom k at (λ s. behind_head p negated operated y at s)) (bytes_eq w (codes "not")) _ _
        (no at)
        (all_if (λ y. ReadsFrom k at (λ s. behind_head p negated operated y at s)) (is_name w) _ _
        (reads_behind k at (named_at p (w, at)) (reads_named (w, at))) tt))
    from_token (Int n) at = reads_behind k at _ (reads_done k _)
    from_token (Text s) at = reads_behind k at _ (reads_done k _)
    from_token (Sign_token m) at = from_sign m at

    reads_term : Reads k (term_at p negated operated)
    reads_term = any_then k head_of (λ h. behind_head p negated operated h.0.0 h.0.1 h.1) from_token

module _ (k : Two) (operand : State → Read Given) (h : Reads k operand) where
  reads_negation : (at : ℕ) → Reads k (negation operand at)
  reads_negation at =
      let made : Given → Given = λ e. given (No e.expr) (given_by_operator And) at in
      reads_then k h (λ e. Ok (made e.0, note (unless (may_be_truth e.0.gives) at cause.Kind) e.1))
      (λ e. reads_noted k (made e) (unless (may_be_truth e.gives) at cause.Kind)
      (of_unless (may_be_truth e.gives) at cause.Kind refl))

  reads_second : Reads k (second operand)
  reads_second = reads_then k (reads_known k operator_of) (λ op. operand op.1 >>=
      λ right. sign_at signs.RightParen right.1 >>= λ end. Ok (
        (op.0, right.0),
        end.1,
      ))
      (λ op. reads_then k h (λ right. sign_at signs.RightParen right.1 >>= λ end. Ok ((op, right.0), end.1))
      (λ right. reads_then k (reads_sign k signs.RightParen) (λ end. Ok ((op, right), end.1))
      (λ end. reads_done k (op, right))))

  reads_operation : (at : ℕ) → Reads k (operation operand at)
  reads_operation at =
      let made : Given → ((Operator × ℕ) × Given) → Given =
      λ l r. given (Op r.0.0 l.expr r.1.expr) (given_by_operator r.0.0) at in
      let faults : Given → ((Operator × ℕ) × Given) → List PlacedFault =
      λ l r. unless (operands_fit r.0.0 l.gives r.1.gives) r.0.1 cause.Kind in
      reads_then k h (λ l. second operand l.1 >>= λ r. Ok (made l.0 r.0, note (faults l.0 r.0) r.1))
      (λ l. reads_then k reads_second (λ r. Ok (made l r.0, note (faults l r.0) r.1))
      (λ r. reads_noted k (made l r) (faults l r)
      (of_unless (operands_fit r.0.0 l.gives r.1.gives) r.0.1 cause.Kind refl)))

module _ (k : Two) (p : Context) where
  reads_expr : (d : ℕ) → Reads k (expr_at p d)
  unfolding expr_at
  reads_expr zero = reads_term k p too_deep too_deep (λ at. reads_fault k at cause.Depth)
      (λ at. reads_fault k at cause.Depth)
  reads_expr (suc d) = reads_term k p (λ at r. negation (λ t. expr_at p d t) at r)
      (λ at r. operation (λ t. expr_at p d t) at r)
      (λ at. reads_behind k at (negation (λ t. expr_at p d t) at) (reads_negation k (λ t. expr_at p d t)
      (reads_expr d) at))
      (λ at. reads_behind k at (operation (λ t. expr_at p d t) at) (reads_operation k (λ t. expr_at p d t)
      (reads_expr d) at))

  pub reads_whole : Reads k (whole_at p)
  unfolding whole_at
  reads_whole = reads_expr 16

-- ---- items

shorter : (after : List Placed) (n : ℕ) (us vs ws : List Placed) → length (us ++ after) < suc n → length vs ≤ length us
    → length ws < length vs → length (ws ++ after) < n
shorter after n us vs ws few fewer less =
    omega (arith, few, fewer, less, length-append us after, length-append ws after)

module _ (k : Two) {A : Type 0} (next : A → State → Read A) (h : (a : A) → Reads k (next a)) where
  abbrev behind_item : ℕ → A × State → Read A
  behind_item n x = after_item (λ xs r. items_from next n xs r) x.0 x.1 (takes_sign signs.Comma x.1)

  items_later : (n : ℕ) (a : A) (s : State) → IsFrom k.bound s.1 → EndsFrom k.bound (items_from next n a s)
  items_later zero a s l = (reads_refused k {X = A}).later s l
  items_later (suc n) a s l = later_then k.bound (next a s) (behind_item n) ((h a).later s l)
      (λ b t m. takes_later k (takes_sign signs.Comma) (λ n. n) (is_sign_taken signs.Comma)
      (after_item (λ xs r. items_from next n xs r) b) (λ s m. m) (λ s y t late m. items_later n b t m) t m)

  items_names : (n : ℕ) (a : A) (s : State) → AreOfNames s.0 → NotesNames (items_from next n a s)
  items_names zero a s l = tt
  items_names (suc n) a s l = names_then (next a s) (behind_item n) ((h a).names s l)
      (λ b t m. takes_names k (takes_sign signs.Comma) (λ n. n) (is_sign_taken signs.Comma)
      (after_item (λ xs r. items_from next n xs r) b) (λ s m. m) (λ s y t m. items_names n b t m) t m)

  after_late : (n : ℕ) (b : A) (t : State) → IsFrom k.bound t.1 → EndsFrom k.bound (behind_item n (b, t))
  after_late n b t l = takes_later k (takes_sign signs.Comma) (λ n. n) (is_sign_taken signs.Comma)
      (after_item (λ xs r. items_from next n xs r) b) (λ s m. m) (λ s y t late m. items_later n b t m) t l

  items_local : (n m : ℕ) (a : A) (fs : List PlacedFault) (us : List Placed) → length (us ++ k.first) < n
      → length (us ++ k.second) < m
      → Agree k us (items_from next n a (one k fs us)) (items_from next m a (two k fs us))
  items_local zero m a fs us few some = absurd (omega (arith, few))
  items_local (suc n) zero a fs us few some = absurd (omega (arith, some))
  items_local (suc n) (suc m) a fs us few some =
      agree_then k us (next a (one k fs us)) (next a (two k fs us)) (behind_item n) (behind_item m)
      ((h a).local fs us) (λ b t l. after_late n b t l)
      (λ b gs vs fewer. takes_local k (takes_sign signs.Comma) (λ n. n) (is_sign_taken signs.Comma)
      (after_item (λ xs r. items_from next n xs r) b) (after_item (λ xs r. items_from next m xs r) b)
      (after_late n b) (λ hs ws. (reads_done k b).local hs ws) (length vs)
      (λ s t y hs ws less. items_local n m b hs ws (shorter k.first n us vs ws few fewer less)
      (shorter k.second m us vs ws some fewer less)) gs vs (omega arith))

  pub reads_items : (a : A) → Reads k (items_at next a)
  reads_items a = record {
    later = λ s l. items_later (suc (length s.1.placed)) a s l;
    local = λ fs us. items_local (suc (length (us ++ k.first))) (suc (length (us ++ k.second))) a fs us
        (omega arith) (omega arith);
    names = λ s n. items_names (suc (length s.1.placed)) a s n;
  }

-- ---- lists

module _ (k : Two) {X : Type 0} (next : List X → State → Read (List X)) (h : (xs : List X) → Reads k (next xs))
    (are_enough : ℕ → Bool) where
  abbrev closed_at : List X → ℕ × State → Read (List X)
  closed_at xs end = Ok (xs, note (unless (are_enough (length xs)) end.0 cause.Kind) end.1)

  reads_closed : (xs : List X) (at : ℕ) → Reads k (λ t. closed_at xs (at, t))
  reads_closed xs at = reads_noted k xs (unless (are_enough (length xs)) at cause.Kind)
      (of_unless (are_enough (length xs)) at cause.Kind refl)

  pub reads_list : Reads k (list_of next are_enough)
  reads_list = reads_then k (reads_sign k signs.LeftParen)
      (λ x. list_behind next are_enough x.1 (takes_sign signs.RightParen x.1))
      (λ x. reads_if_sign k signs.RightParen (list_behind next are_enough) (λ at t. closed_at [] (at, t))
      (λ s at t. refl) (reads_then k (reads_items k next h [])
      (λ xs. sign_at signs.RightParen xs.1 >>= λ end. closed_at xs.0 end)
      (λ xs. reads_then k (reads_sign k signs.RightParen) (λ end. closed_at xs end)
      (λ at. reads_closed xs at)))
      (λ at. reads_behind k at (λ t. closed_at [] (at, t)) (reads_closed [] at)))

-- ---- new values

module _ (k : Two) {X : Type 0} (scheme : Scheme) (front : List (ℕ × X)) where
  of_given : (name : PlacedName) (o : Option ℕ) → AreOfNames (target_faults front name o)
  of_given name None = (refl, tt)
  of_given name (Some i) = of_unless (not (list_any (nat_eq i) (map (λ x. x.0) front))) name.1 cause.Repeated refl

  reads_target : Reads k (target_at scheme front)
  unfolding target_at
  reads_target =
      let made : PlacedName → ℕ × State → Read (Option ℕ) = λ n e. Ok (
        other_named scheme n.0,
        note (target_faults front n (other_named scheme n.0)) e.1,
      ) in
      reads_then k (reads_name k) (λ n. sign_at signs.Equals n.1 >>= λ e. made n.0 e)
      (λ n. reads_then k (reads_sign k signs.Equals) (λ e. made n e)
      (λ e. reads_noted k (other_named scheme n.0) (target_faults front n (other_named scheme n.0))
      (of_given n (other_named scheme n.0))))

-- ---- values

module _ (k : Two) {V X : Type 0} (value_at : State → Read V) (h : Reads k value_at) (item : V → X) (place : V → ℕ)
    (fits : Option Attribute → V → Bool) where
  pub reads_item : (attribute : ℕ → Option Attribute) (front : List X)
      → Reads k (item_of value_at item place fits attribute front)
  reads_item attribute front =
      let faults : V → List PlacedFault = λ v. unless (fits (attribute (length front)) v) (place v) cause.Kind in
      reads_then k h (λ v. Ok (front ++ item v.0 ∷ [], note (faults v.0) v.1))
      (λ v. reads_noted k (front ++ item v ∷ []) (faults v)
      (of_unless (fits (attribute (length front)) v) (place v) cause.Kind refl))

  pub reads_set : (scheme : Scheme) (front : List (ℕ × X)) → Reads k (set_of value_at item place fits scheme front)
  reads_set scheme front =
      let faults : Option ℕ → V → List PlacedFault =
      λ o v. unless (fits (numbered_in scheme.others o) v) (place v) cause.Kind in
      let made : Option ℕ → V × State → Read (List (ℕ × X)) =
      λ o v. Ok (with_set front o (item v.0), note (faults o v.0) v.1) in
      reads_then k (reads_target k scheme front) (λ o. value_at o.1 >>= λ v. made o.0 v)
      (λ o. reads_then k h (λ v. made o v) (λ v. reads_noted k (with_set front o (item v)) (faults o v)
      (of_unless (fits (numbered_in scheme.others o) v) (place v) cause.Kind refl)))

-- ---- of expressions

module _ (k : Two) (p : Context) where
  reads_list_item : (attributes : List Attribute) (front : List Expr) → Reads k (item_at p attributes front)
  unfolding item_at
  reads_list_item attributes front = reads_item k (whole_at p) (reads_whole k p) (λ g. g.expr) (λ g. g.at)
      (λ a g. fits_item a g.gives) (slice_get attributes) front

  pub reads_list_at : (attributes : List Attribute) → Reads k (list_at p attributes)
  unfolding list_at
  reads_list_at attributes = reads_list k (item_at p attributes) (reads_list_item attributes)
      (λ n. n == length attributes)

  reads_set_at : (scheme : Scheme) (front : List (ℕ × Expr)) → Reads k (set_at p scheme front)
  unfolding set_at
  reads_set_at scheme front = reads_set k (whole_at p) (reads_whole k p) (λ g. g.expr) (λ g. g.at)
      (λ a g. fits_item a g.gives) scheme front

  pub reads_sets : (scheme : Scheme) → Reads k (sets_at p scheme)
  unfolding sets_at
  reads_sets scheme = reads_items k (set_at p scheme) (reads_set_at scheme) []
