-- One run of a block: it keeps the stored form, and releases are added at the end.
use Rattle.std.proofs.Common.{◌≡◌, ℕ, ◌<◌, Bool, true, false, cond, List, [], ◌∷◌, ◌++◌, length, Option, refl, sym, ap, ◌∙◌, subst, append_assoc, nat_eq, eqb-true, append-nil}
use Rattle.std.proofs.SliceLists.{all_by_recursion_push}
use Rattle.std.specs.List.{AllByRecursion}
use Rattle.std.proofs.lemmas.List.{length-map}
use Rattle.mls_lattice.specs.Labels.{Labels, AreDistinct}
use Rattle.mls_lattice.specs.Policy.{Policy, labels_of}
use Rattle.mls_scheme.specs.declared.value.Value.{Value}
use Rattle.mls_scheme.specs.declared.tuple.Tuple.{Tuple}
use Rattle.mls_scheme.specs.Table.{Table, Database}
use Rattle.mls_scheme.specs.Scheme.{Scheme, Schemes, scheme_of}
use Rattle.mls_filterview.specs.View.{rows}
use Rattle.mls_filterview.specs.Stored.{IsStored}
use Rattle.mls_filterview.specs.Content.{with_table}
use Rattle.mls_updates.specs.Writes.{WriteFits, write}
use Rattle.mls_updates.proofs.LawLemmas.{keep_form}
use Rattle.mls_translang.specs.Tree.{Expr, Stmt, Assign, Writing, Insert, Update, Delete, Write_at, Release, Emit, Block, End, Do, If, For}
use Rattle.mls_translang.specs.Scope.{Scope, in_loop}
use Rattle.mls_translang.specs.Fits.{IsLabel, ExprFits, WritingFits, StmtFits, BlockFits}
use Rattle.mls_translang.specs.Expressions.{Environment, value_in, holds_in}
use Rattle.mls_certcheck.specs.Meaning.{Item, Progress, environment, values_set, write_in, perform, for_each, run_block}
use Rattle.mls_certcheck.specs.Secure.{AreStored}

-- ---- databases

-- what holds of each relation holds of a database with one table changed
pub table_holds : (P : ℕ → Table → Type 0) (db : Database) (relation : ℕ) (T : Table) → ((r : ℕ) → P r (db r))
    → P relation T → (r : ℕ) → P r (with_table db relation T r)
table_holds P db relation T h k r =
    elim (nat_eq r relation) as (λ b. nat_eq r relation ≡ b → P r (cond b T (db r))) [
      | true ↦ λ e. subst (λ q. P q T) (sym (eqb-true r relation e)) k
      | false ↦ λ e. h r
    ] refl

-- ---- choices and loops

pub cond_kept : (P : Progress → Type 0) (b : Bool) (s t : Progress) → P s → P t → P (cond b s t)
cond_kept P true s t h k = h
cond_kept P false s t h k = k

pub for_each_kept : (P : Progress → Type 0) (f : Tuple → Progress → Progress) → ((row : Tuple) (s : Progress) → P s
    → P (f row s)) → (rows : List Tuple) (s : Progress) → P s → P (for_each f rows s)
for_each_kept P f k [] s h = h
for_each_kept P f k (row ∷ rest) s h = for_each_kept P f k rest (f row s) (k row s h)

-- ---- items

-- the items have declared labels
pub record AreLabelled (policy : Policy) (s : Progress) : Type 0 where
  pub emitted : AllByRecursion (λ i. IsLabel policy i.0) s.emitted
  pub released : AllByRecursion (λ i. IsLabel policy i.0) s.released

module _ (policy : Policy) (schemes : Schemes) (hi : ℕ) (args : List (Option Value)) where
  abbrev perform_one : List Tuple → Stmt → Progress → Progress
  perform_one = perform (labels_of policy) schemes args

  abbrev run_one : Block → List Tuple → Progress → Progress
  run_one = run_block (labels_of policy) schemes args

  perform_labelled : (scope : Scope) (around : List Tuple) (stmt : Stmt) (s : Progress)
      → StmtFits policy schemes hi scope stmt → AreLabelled policy s → AreLabelled policy (perform_one around stmt s)
  unfolding perform
  perform_labelled scope around (Assign x e) s f h = record { emitted = h.emitted; released = h.released }
  perform_labelled scope around (Write_at relation w writing outcome) s f h = record {
    emitted = h.emitted;
    released =
        h.released;
  }
  perform_labelled scope around (Release e to into) s f h = record {
    emitted = h.emitted;
    released =
        all_by_recursion_push (λ i. IsLabel policy i.0) s.released (
          to,
          value_in (environment args around s) e,
        ) h.released f.1;
  }
  perform_labelled scope around (Emit e label) s f h =
      record {
        emitted = all_by_recursion_push (λ i. IsLabel policy i.0) s.emitted (
          label,
          value_in (environment args around s) e,
        ) h.emitted f.1;
        released = h.released;
      }

  pub block_labelled : (scope : Scope) (block : Block) → BlockFits policy schemes hi scope block
      → (around : List Tuple) (s : Progress) → AreLabelled policy s → AreLabelled policy (run_one block around s)
  unfolding run_block
  block_labelled scope End f around s h = h
  block_labelled scope (Do stmt rest) f around s h = block_labelled scope rest f.1 around (perform_one around stmt s)
      (perform_labelled scope around stmt s f.0 h)
  block_labelled scope (If guard one other rest) f around s h =
      block_labelled scope rest f.3 around _ (cond_kept (AreLabelled policy)
      (holds_in (environment args around s) guard) _ _ (block_labelled scope one f.1 around s h)
      (block_labelled scope other f.2 around s h))
  block_labelled scope (For name relation label body rest) f around s h =
      block_labelled scope rest f.3 around _
      (for_each_kept (AreLabelled policy) (λ row t. run_one body (row ∷ around) t) (λ row t k. block_labelled
      (in_loop scope name relation) body f.2 (row ∷ around) t k) (rows (labels_of policy) label
      (s.db relation)) s h)

-- ---- releases

pub record Extends (s t : Progress) : Type 0 where
  pub more : List Item
  pub is : t.released ≡ s.released ++ more

pub extends_trans : {s t u : Progress} → Extends s t → Extends t u → Extends s u
extends_trans {s = s} h k = record {
  more = h.more ++ k.more;
  is = k.is ∙ ap (λ xs. xs ++ k.more) h.is
      ∙ append_assoc s.released h.more k.more;
}

pub extends_not : (s : Progress) → Extends s s
extends_not s = record { more = []; is = sym (append-nil s.released) }

module _ (ls : Labels) (schemes : Schemes) (args : List (Option Value)) where
  pub perform_extends : (around : List Tuple) (stmt : Stmt) (s : Progress)
      → Extends s (perform ls schemes args around stmt s)
  unfolding perform
  perform_extends around (Release e to into) s = record { more = _; is = refl }
  perform_extends around _ s = record { more = []; is = sym (append-nil s.released) }

  pub block_extends : (block : Block) (around : List Tuple) (s : Progress)
      → Extends s (run_block ls schemes args block around s)
  unfolding run_block
  block_extends End around s = extends_not s
  block_extends (Do stmt rest) around s = extends_trans (perform_extends around stmt s) (block_extends rest around
      (perform ls schemes args around stmt s))
  block_extends (If guard one other rest) around s =
      extends_trans (cond_kept (Extends s) (holds_in (environment args around s) guard) _ _ (block_extends one around s)
      (block_extends other around s)) (block_extends rest around _)
  block_extends (For name relation label body rest) around s =
      extends_trans (for_each_kept (Extends s) (λ row t. run_block ls schemes args body (row ∷ around) t)
      (λ row t k. extends_trans k (block_extends body (row ∷ around) t)) (rows ls label (s.db relation)) s
      (extends_not s)) (block_extends rest around _)

-- ---- the stored form

module _ (policy : Policy) (schemes : Schemes) (hi : ℕ) where
  abbrev ls : Labels
  ls = labels_of policy

  declared : (label : ℕ) → IsLabel policy label → label < length ls
  declared label h = subst (λ n. label < n) (sym (length-map policy.labels (λ l. l.value))) h

  sets_below : (scope : Scope) (scheme : Scheme) (env : Environment) (sets : List (ℕ × Expr))
      → AllByRecursion (λ x. (x.0 < length scheme.others) × ExprFits schemes scope x.1) sets
      → AllByRecursion (λ s. s.0 < length scheme.others) (values_set env sets)
  sets_below scope scheme env [] h = tt
  sets_below scope scheme env (x ∷ xs) h = (h.0.0, sets_below scope scheme env xs h.1)

  pub write_fits : (scope : Scope) (w : ℕ) (scheme : Scheme) (env : Environment) (writing : Writing) → IsLabel policy w
      → WritingFits policy schemes hi scope scheme writing → WriteFits ls (length scheme.others) w
      (write_in env writing)
  write_fits scope w scheme env (Insert key values) l f = (declared w l, length-map values (value_in env) ∙ f.1.count)
  write_fits scope w scheme env (Update key key_class from sets) l f = (
    declared w l,
    subst (λ n. 0 < n) (sym (length-map sets (λ x. (x.0, value_in env x.1)))) f.3.some,
    sets_below scope scheme env sets f.3.each,
  )
  write_fits scope w scheme env (Delete key key_class) l f = tt

  module _ (distinct : AreDistinct (labels_of policy)) (args : List (Option Value)) where
    pub perform_stored : (scope : Scope) (around : List Tuple) (stmt : Stmt) (s : Progress)
        → StmtFits policy schemes hi scope stmt → AreStored ls schemes s.db
        → AreStored ls schemes (perform ls schemes args around stmt s).db
    unfolding perform
    perform_stored scope around (Write_at relation w writing outcome) s f h =
        let wr = write_in (environment args around s) writing in
        let n = length (scheme_of schemes relation).others in
        table_holds (λ r T. IsStored ls (length (scheme_of schemes r).others) T) s.db relation
        (write ls (scheme_of schemes relation) w wr (s.db relation)).table h
        (keep_form ls distinct (scheme_of schemes relation) n w (s.db relation) (h relation) wr
        (write_fits scope w (scheme_of schemes relation) (environment args around s) writing f.1 f.2))
    perform_stored scope around _ s f h = h

    pub block_stored : (scope : Scope) (block : Block) → BlockFits policy schemes hi scope block
        → (around : List Tuple) (s : Progress) → AreStored ls schemes s.db
        → AreStored ls schemes (run_block ls schemes args block around s).db
    unfolding run_block
    block_stored scope End f around s h = h
    block_stored scope (Do stmt rest) f around s h = block_stored scope rest f.1 around
        (perform ls schemes args around stmt s) (perform_stored scope around stmt s f.0 h)
    block_stored scope (If guard one other rest) f around s h =
        block_stored scope rest f.3 around _ (cond_kept (λ t. AreStored ls schemes t.db)
        (holds_in (environment args around s) guard) _ _ (block_stored scope one f.1 around s h)
        (block_stored scope other f.2 around s h))
    block_stored scope (For name relation label body rest) f around s h =
        block_stored scope rest f.3 around _
        (for_each_kept (λ t. AreStored ls schemes t.db) (λ row t. run_block ls schemes args body (row ∷ around) t)
        (λ row t k. block_stored (in_loop scope name relation) body f.2 (row ∷ around) t k)
        (rows ls label (s.db relation)) s h)
