-- A call keeps kinds and intervals, and what it gives has labels and kinds.
use Rattle.std.proofs.Common.{◌≡◌, ℕ, zero, suc, ◌-◌, ◌<◌, true, false, cond, List, [], ◌∷◌, length, map, Option, Some, None, refl, sym, ap, ◌∙◌, subst, arith, inl, inr, ℤ, ◌⊎◌, nat_eq, nat_lt, slice_index_or, pos, ◌+ℤ◌, ◌-ℤ◌, ◌*ℤ◌, IfSome, eqb-true, ltb-true, ltb-false}
use Rattle.std.proofs.SliceLists.{all_by_recursion_push}
use Rattle.std.specs.List.{AllZip, AllByRecursion}
use Rattle.std.specs.FinMap.{get}
use Rattle.std.proofs.lemmas.Bool.{cases_Bool}
use Rattle.std.proofs.lemmas.List.{get_or-map, get_or_past}
use Rattle.std.proofs.lemmas.Option.{same_Some}
use Rattle.std.proofs.lemmas.Slice.Zip.{AllZip-long}
use Rattle.mls_lattice.specs.Labels.{Labels, below, AreDistinct}
use Rattle.mls_lattice.specs.Policy.{Name, Policy, labels_of}
use Rattle.mls_scheme.specs.declared.value.Kind.{Kind}
use Rattle.mls_scheme.specs.declared.value.Kind.TheVariants as kinds
use Rattle.mls_scheme.specs.declared.value.Value.{Value}
use Rattle.mls_scheme.specs.declared.value.Value.TheVariants.{Int}
use Rattle.mls_scheme.specs.declared.tuple.Element.{Element}
use Rattle.mls_scheme.specs.declared.tuple.Tuple.{Tuple}
use Rattle.mls_scheme.specs.declared.place.Place.{Place}
use Rattle.mls_scheme.specs.Value.{is_signed, is_kind, fits_kind}
use Rattle.mls_scheme.specs.Tuple.{at, null_element, no_tuple}
use Rattle.mls_scheme.specs.Table.{Table, tuple_at}
use Rattle.mls_scheme.specs.Scheme.{Attribute, Scheme, Schemes, scheme_of, other_of, no_attribute}
use Rattle.mls_scheme.specs.Fits.{in_interval, Fits}
use Rattle.mls_filterview.specs.View.{rows}
use Rattle.mls_filterview.specs.Stored.{IsContent, AreContent}
use Rattle.mls_filterview.proofs.RowLemmas.{rows_are_the_view}
use Rattle.mls_updates.specs.declared.outcome.Outcome.{Outcome}
use Rattle.mls_updates.specs.declared.outcome.Outcome.TheVariants.{Done}
use Rattle.mls_updates.specs.Outcome.{code_of}
use Rattle.mls_updates.specs.Writes.{WriteKinds, write}
use Rattle.mls_updates.proofs.FittingLemmas.{zip_at}
use Rattle.mls_updates.proofs.LawLemmas.{keep_content}
use Rattle.mls_translang.specs.declared.operator.Operator.TheVariants as operators
use Rattle.mls_translang.specs.Tree.{Expr, Known, Null, Var, Param, Field, Op, Writing, Insert, Update, Delete, Stmt, Assign, Write_at, Release, Emit, Block, End, Do, If, For}
use Rattle.mls_translang.specs.Scope.{Scope, in_loop, row_at, kind_of_var, kind_of_param}
use Rattle.mls_translang.specs.Kinds.{Sort, Of, Truth, field_of, HasKind, HaveKinds, WritingKinds, Assigns, StmtKinds, BlockKinds}
use Rattle.mls_translang.specs.Fits.{StmtFits, BlockFits}
use Rattle.mls_translang.specs.Expressions.{bounded, calculate, cell_of, Environment, eval, value_in, holds_in}
use Rattle.mls_certcheck.specs.Meaning.{Variables, Progress, set_var, set_outcome, environment, values_set, write_in, perform, for_each, run_block}
use Rattle.mls_certcheck.specs.Kinds.{RowKinds, VarsFit, AroundFits}
use Rattle.mls_certcheck.specs.MeaningLaws.{IsItem}
use Rattle.mls_certcheck.proofs.KeepingLemmas.{table_holds, cond_kept, write_fits}

-- ---- operators

bounded_kind : (n : ℤ) → fits_kind (bounded n) kinds.Int ≡ true
bounded_kind n = elim (is_signed n) as (λ b. is_signed n ≡ b → fits_kind (cond b (Some (Int n)) None) kinds.Int
    ≡ true) [ true ↦ λ e. e | false ↦ λ e. refl ] refl

calculated_kind : (f : ℤ → ℤ → ℤ) (a b : Option Value) → fits_kind (calculate f a b) kinds.Int ≡ true
calculated_kind f (Some (Int n)) (Some (Int m)) = bounded_kind (f n m)
calculated_kind f _ _ = refl

-- the kind of a sort that is one
kind_in : Sort → Kind → Kind
kind_in (Of k) j = k
kind_in Truth j = j

same_kind : (j k : Kind) → Of j ≡ Of k → j ≡ k
unfolding kind_in
same_kind j k e = ap (λ s. kind_in s j) e

not_truth : (k : Kind) → Of k ≡ Truth → ⊥
not_truth k e = absurd (cc)

-- ---- rows

module _ (ls : Labels) (scheme : Scheme) (p : Place) (es : List Element) (h : Fits ls scheme p es) where
  abbrev KeyFits : Attribute → Value → Type 0
  KeyFits a v = (is_kind v a.1.kind ≡ true) × (in_interval ls p.key_class a ≡ true)

  abbrev OtherFits : Attribute → Element → Type 0
  OtherFits a e = (fits_kind e.value a.1.kind ≡ true) × (in_interval ls e.class a ≡ true)

  element_kind : (j : ℕ) → (nat_lt j (length scheme.others) ≡ true) ⊎ (nat_lt j (length scheme.others) ≡ false)
      → fits_kind (at es j).value (other_of scheme j).1.kind ≡ true
  element_kind j (inl l) = (zip_at OtherFits no_attribute null_element scheme.others es h.others j (ltb-true j _ l)).0
  element_kind j (inr l) =
      let m : length scheme.others ≡ length es = sym (AllZip-long OtherFits scheme.others es h.others) in
      ap (λ (e : Element). fits_kind e.value (other_of scheme j).1.kind) (get_or_past es j null_element
      (omega (arith, ltb-false j (length scheme.others) l)))

  pub row_kinds : RowKinds scheme (tuple_at p es)
  row_kinds i =
      let n : length scheme.keys ≡ length p.key = sym (AllZip-long KeyFits scheme.keys p.key h.key) in
      subst (λ m. fits_kind (cond (nat_lt i m) (slice_index_or (map Some p.key) i None) (at es (i - m)).value)
      (field_of scheme i).1.kind ≡ true) n
      (elim (nat_lt i (length scheme.keys)) as (λ b. nat_lt i (length scheme.keys) ≡ b
      → fits_kind (cond b (slice_index_or (map Some p.key) i None) (at es (i - length scheme.keys)).value)
      (cond b (slice_index_or scheme.keys i no_attribute) (other_of scheme (i - length scheme.keys))).1.kind ≡ true) [
        | true ↦ λ e.
            let l = ltb-true i (length scheme.keys) e in
            let d : Value = Int (pos 0) in
            subst (λ o. fits_kind o (slice_index_or scheme.keys i no_attribute).1.kind ≡ true)
            (sym (get_or-map Some p.key i d None (subst (λ k. i < k) n l)))
            (zip_at KeyFits no_attribute d scheme.keys p.key h.key i l).0
        | false ↦ λ e. element_kind (i - length scheme.keys)
            (cases_Bool (nat_lt (i - length scheme.keys) (length scheme.others)))
      ] refl)

pub null_kinds : (scheme : Scheme) → RowKinds scheme no_tuple
null_kinds scheme i =
    elim (nat_lt i 0) as (λ b. fits_kind (cond b (slice_index_or {A = Option Value} [] i None) (at [] (i - 0)).value)
    (field_of scheme i).1.kind ≡ true) [ true ↦ refl | false ↦ refl ]

-- ---- what expressions read

pub set_kind : (scope : Scope) (x : ℕ) (v : Option Value) (vars : Variables) → VarsFit scope vars
    → ((k : Kind) → kind_of_var scope x ≡ Some k → fits_kind v k ≡ true) → VarsFit scope (set_var x v vars)
set_kind scope x v vars h f i k e =
    elim (nat_eq i x) as (λ b. nat_eq i x ≡ b → fits_kind (cond b v (vars i)) k ≡ true) [
      | true ↦ λ q. f k (ap (kind_of_var scope) (sym (eqb-true i x q)) ∙ e)
      | false ↦ λ q. h i k e
    ] refl

code_kind : (o : Outcome) → fits_kind (Some (Int (pos (code_of o)))) kinds.Int ≡ true
unfolding is_signed
code_kind Done = refl
code_kind _ = refl

pub outcome_kind : (scope : Scope) (outcome : Option ℕ) (o : Outcome) (vars : Variables)
    → IfSome outcome (λ x. kind_of_var scope x ≡ Some kinds.Int) → VarsFit scope vars
    → VarsFit scope (set_outcome outcome o vars)
outcome_kind scope None o vars f h = h
outcome_kind scope (Some x) o vars f h =
    set_kind scope x (Some (Int (pos (code_of o)))) vars h
    (λ k q. subst (λ m. fits_kind (Some (Int (pos (code_of o)))) m ≡ true) (same_Some kinds.Int k (sym f ∙ q))
    (code_kind o))

module _ (policy : Policy) (schemes : Schemes) (hi : ℕ) where
  abbrev ls : Labels
  ls = labels_of policy

  pub record EnvironmentFits (scope : Scope) (env : Environment) : Type 0 where
    pub vars : VarsFit scope env.vars
    pub params : (i : ℕ) (k : Kind) → kind_of_param scope i ≡ Some k → fits_kind (slice_index_or env.args i None) k
        ≡ true
    pub rows : (d : ℕ) → RowKinds (scheme_of schemes (row_at scope d).relation) (slice_index_or env.rows d no_tuple)

  pub value_kind : (scope : Scope) (env : Environment) → EnvironmentFits scope env → (k : Kind) (e : Expr)
      → HasKind schemes scope k e → fits_kind (value_in env e) k ≡ true
  unfolding eval
  value_kind scope env h k (Known v) s = s
  value_kind scope env h k Null s = refl
  value_kind scope env h k (Var i) s = h.vars i k (s.2 ∙ ap Some (sym (same_kind k s.0 s.1)))
  value_kind scope env h k (Param i) s = h.params i k (s.2 ∙ ap Some (sym (same_kind k s.0 s.1)))
  value_kind scope env h k (Field d i) s = subst (λ j. fits_kind (cell_of (slice_index_or env.rows d no_tuple) i) j
      ≡ true) (sym (same_kind k _ s)) (h.rows d i)
  value_kind scope env h k (Op operators.Plus a b) s =
      subst (λ j. fits_kind (calculate ◌+ℤ◌ (value_in env a) (value_in env b)) j ≡ true)
      (sym (same_kind k kinds.Int s.0)) (calculated_kind ◌+ℤ◌ (value_in env a) (value_in env b))
  value_kind scope env h k (Op operators.Minus a b) s =
      subst (λ j. fits_kind (calculate ◌-ℤ◌ (value_in env a) (value_in env b)) j ≡ true)
      (sym (same_kind k kinds.Int s.0)) (calculated_kind ◌-ℤ◌ (value_in env a) (value_in env b))
  value_kind scope env h k (Op operators.Times a b) s =
      subst (λ j. fits_kind (calculate ◌*ℤ◌ (value_in env a) (value_in env b)) j ≡ true)
      (sym (same_kind k kinds.Int s.0)) (calculated_kind ◌*ℤ◌ (value_in env a) (value_in env b))
  value_kind scope env h k _ s = absurd (not_truth k s.0)

  pub values_kinds : (scope : Scope) (env : Environment) → EnvironmentFits scope env → (attributes : List Attribute)
      (es : List Expr) → HaveKinds schemes scope attributes es → AllZip (λ a v. fits_kind v a.1.kind ≡ true) attributes
      (map (value_in env) es)
  values_kinds scope env h [] [] z = tt
  values_kinds scope env h [] (e ∷ es) z = absurd z
  values_kinds scope env h (a ∷ attributes) [] z = absurd z
  values_kinds scope env h (a ∷ attributes) (e ∷ es) z = (
    value_kind scope env h a.1.kind e z.0,
    values_kinds scope env h attributes es z.1,
  )

  pub sets_kinds : (scope : Scope) (env : Environment) → EnvironmentFits scope env
      → (scheme : Scheme) (sets : List (ℕ × Expr))
      → AllByRecursion (λ x. HasKind schemes scope (other_of scheme x.0).1.kind x.1) sets
      → AllByRecursion (λ s. fits_kind s.1 (other_of scheme s.0).1.kind ≡ true) (values_set env sets)
  sets_kinds scope env h scheme [] z = tt
  sets_kinds scope env h scheme (x ∷ xs) z = (
    value_kind scope env h (other_of scheme x.0).1.kind x.1 z.0,
    sets_kinds scope env h scheme xs z.1,
  )

  pub write_kinds : (scope : Scope) (env : Environment) → EnvironmentFits scope env
      → (scheme : Scheme) (writing : Writing) → WritingKinds schemes scope scheme writing
      → WriteKinds scheme (write_in env writing)
  write_kinds scope env h scheme (Insert key values) z = (
    values_kinds scope env h scheme.keys key z.0,
    values_kinds scope env h scheme.others values z.1,
  )
  write_kinds scope env h scheme (Update key key_class from sets) z = sets_kinds scope env h scheme sets z.1
  write_kinds scope env h scheme (Delete key key_class) z = tt

  pub assigned : (scope : Scope) (env : Environment) → EnvironmentFits scope env → (x : ℕ) (e : Expr)
      → Assigns schemes scope x e → (k : Kind) → kind_of_var scope x ≡ Some k → fits_kind (value_in env e) k ≡ true
  assigned scope env h x e a k q = subst (λ j. fits_kind (value_in env e) j ≡ true) (same_Some a.0 k (sym a.1 ∙ q))
      (value_kind scope env h a.0 e a.2)

  pub loop_fits : (args : List (Option Value)) (scope : Scope) (name : Name) (relation : ℕ) (row : Tuple)
      (around : List Tuple) → AroundFits schemes scope args around → RowKinds (scheme_of schemes relation) row
      → AroundFits schemes (in_loop scope name relation) args (row ∷ around)
  loop_fits args scope name relation row around o k = record { params = o.params; rows = at_depth }
    where
      at_depth : (d : ℕ) → RowKinds (scheme_of schemes (row_at (in_loop scope name relation) d).relation)
          (slice_index_or (row ∷ around) d no_tuple)
      at_depth zero = k
      at_depth (suc d) = o.rows d

  -- ---- what a run keeps

  pub record Keeps (scope : Scope) (s : Progress) : Type 0 where
    pub content : AreContent (labels_of policy) schemes s.db
    pub vars : VarsFit scope s.vars
    pub emitted : AllByRecursion (IsItem policy) s.emitted
    pub released : AllByRecursion (λ i. IsItem policy i × (below (labels_of policy) i.0 hi ≡ true)) s.released

  module _ (distinct : AreDistinct (labels_of policy)) (args : List (Option Value)) where
    pub environment_fits : (scope : Scope) (around : List Tuple) (s : Progress) → AroundFits schemes scope args around
        → Keeps scope s → EnvironmentFits scope (environment args around s)
    environment_fits scope around s o h = record { vars = h.vars; params = o.params; rows = o.rows }

    pub stmt_keeps : (scope : Scope) (around : List Tuple) (stmt : Stmt) (s : Progress)
        → StmtFits policy schemes hi scope stmt → StmtKinds schemes scope stmt → AroundFits schemes scope args around
        → Keeps scope s → Keeps scope (perform ls schemes args around stmt s)
    unfolding perform
    stmt_keeps scope around (Assign x e) s f z o h =
        let env = environment args around s in
        record {
          content = h.content;
          vars = set_kind scope x (value_in env e) s.vars h.vars
              (assigned scope env (environment_fits scope around s o h) x e z);
          emitted = h.emitted;
          released =
              h.released;
        }
    stmt_keeps scope around (Write_at relation w writing outcome) s f z o h =
        let env = environment args around s in
        let scheme = scheme_of schemes relation in
        let wr = write_in env writing in
        let new = write ls scheme w wr (s.db relation) in
        record {
          content = table_holds (λ r T. IsContent ls (scheme_of schemes r) T) s.db relation new.table h.content
              (keep_content ls distinct scheme w (s.db relation) (h.content relation) wr
              (write_fits policy schemes hi scope w scheme env writing f.1 f.2)
              (write_kinds scope env (environment_fits scope around s o h) scheme writing z.0));
          vars = outcome_kind scope outcome new.outcome s.vars z.1 h.vars;
          emitted = h.emitted;
          released = h.released;
        }
    stmt_keeps scope around (Release e to into) s f z o h =
        let env = environment args around s in
        let k = environment_fits scope around s o h in
        record {
          content = h.content;
          vars = set_kind scope into (value_in env e) s.vars h.vars (assigned scope env k into e z);
          emitted = h.emitted;
          released = all_by_recursion_push (λ i. IsItem policy i × (below ls i.0 hi ≡ true)) s.released (
            to,
            value_in env e,
          ) h.released (record { label = f.1; kind = (z.0, value_kind scope env k z.0 e z.2) }, f.2);
        }
    stmt_keeps scope around (Emit e label) s f z o h =
        let env = environment args around s in
        record {
          content = h.content;
          vars = h.vars;
          emitted = all_by_recursion_push (IsItem policy) s.emitted (label, value_in env e) h.emitted
              (record {
                label = f.1;
                kind = (
                  z.0,
                  value_kind scope env
                      (environment_fits scope around s o h) z.0 e z.1,
                );
              });
          released = h.released;
        }

    pub rows_kinds : (relation label : ℕ) (T : Table) → IsContent ls (scheme_of schemes relation) T
        → AllByRecursion (RowKinds (scheme_of schemes relation)) (rows ls label T)
    rows_kinds relation label T h =
        let r = (rows_are_the_view ls distinct (length (scheme_of schemes relation).others) T h.stored label).1 in
        subst (AllByRecursion (RowKinds (scheme_of schemes relation))) (sym r.1) (each r.0 r.3)
      where
        each : (es : List (Place × List Element)) → AllByRecursion (λ e. get T e.0 ≡ Some e.1) es
            → AllByRecursion (RowKinds (scheme_of schemes relation)) (map (λ e. tuple_at e.0 e.1) es)
        each [] k = tt
        each (e ∷ es) k = (row_kinds ls (scheme_of schemes relation) e.0 e.1 (h.fits e.0 e.1 k.0), each es k.1)

    each_keeps : (scope : Scope) (scheme : Scheme) (f : Tuple → Progress → Progress) → ((row : Tuple) (s : Progress)
        → RowKinds scheme row → Keeps scope s → Keeps scope (f row s)) → (rows : List Tuple)
        → AllByRecursion (RowKinds scheme) rows → (s : Progress) → Keeps scope s → Keeps scope (for_each f rows s)
    each_keeps scope scheme f step [] a s h = h
    each_keeps scope scheme f step (row ∷ rest) a s h = each_keeps scope scheme f step rest a.1 (f row s)
        (step row s a.0 h)

    pub block_keeps : (scope : Scope) (block : Block) → BlockFits policy schemes hi scope block
        → BlockKinds schemes scope block → (around : List Tuple) → AroundFits schemes scope args around → (s : Progress)
        → Keeps scope s → Keeps scope (run_block ls schemes args block around s)
    unfolding run_block
    block_keeps scope End f z around o s h = h
    block_keeps scope (Do stmt rest) f z around o s h = block_keeps scope rest f.1 z.1 around o
        (perform ls schemes args around stmt s) (stmt_keeps scope around stmt s f.0 z.0 o h)
    block_keeps scope (If guard one other rest) f z around o s h =
        block_keeps scope rest f.3 z.3 around o _
        (cond_kept (Keeps scope) (holds_in (environment args around s) guard) _ _
        (block_keeps scope one f.1 z.1 around o s h) (block_keeps scope other f.2 z.2 around o s h))
    block_keeps scope (For name relation label body rest) f z around o s h =
        let inner = λ (row : Tuple) (t : Progress) (k : RowKinds (scheme_of schemes relation) row) (q : Keeps scope t).
        let r = block_keeps (in_loop scope name relation) body f.2 z.0 (row ∷ around)
        (loop_fits args scope name relation row around o k) t (record {
          content = q.content;
          vars = q.vars;
          emitted = q.emitted;
          released = q.released;
        }) in
        let back : Keeps scope (run_block ls schemes args body (row ∷ around) t) = record {
          content = r.content;
          vars =
              r.vars;
          emitted = r.emitted;
          released = r.released;
        } in back in
        block_keeps scope rest f.3 z.1 around o _ (each_keeps scope (scheme_of schemes relation)
        (λ row t. run_block ls schemes args body (row ∷ around) t) inner (rows ls label (s.db relation))
        (rows_kinds relation label (s.db relation) (h.content relation)) s h)
