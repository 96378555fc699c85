-- Statements that are done one after another in a change.
use Rattle.std.proofs.Common.{◌≡◌, ℕ, ◌+◌, ◌<◌, List, [], ◌∷◌, ◌++◌, map, Ok, Err, Result, length, take, get_or, refl, sym, ap, subst, subst₂, ◌∙◌, IsPermutation, add-one, take-suc, append-nil, append_assoc}
use Rattle.std.proofs.lemmas.List.{map-append}
use Rattle.std.proofs.lemmas.List.Sorted.{IsPermutation-refl, IsPermutation-cons, IsPermutation-trans, IsPermutation-middle, IsPermutation-append_left, IsPermutation-append_right, IsPermutation-append_comm}
use Rattle.sqlite.specs.declared.error.Error.{Error}
use Rattle.sqlite.specs.State.{State, HasCleanDisk}
use Rattle.sqlite.proofs.Callers.{one_permutation}
use Rattle.mls_tables.specs.declared.rows.NodeRow.{NodeRow}
use Rattle.mls_tables.specs.declared.rows.CellRow.{CellRow}
use Rattle.mls_tables.specs.declared.rows.OwnCell.{OwnCell}
use Rattle.mls_tables.specs.declared.rows.MetaRow.{MetaRow}
use Rattle.mls_tables.specs.Rows.{Tables, tables_of, first_meta, cell_beside}
use Rattle.mls_tables.proofs.EndLemmas.{keeps}
use Rattle.mls_tables.specs.Statements.{IsSchemaReady, Changes, IsWrite, AreWrites, IsWithin, GoesOn, AddsNode, AddsNodes, AddsCell, AddsCells, AddsMeta, ClearsStore, Rewrites}

-- a statement that is done in a change
pub goes : {Rows : Tables → Tables → Type 0} (old new : State) → IsWithin old → Changes Rows old new
    → GoesOn Rows old new
goes old new within did = record {
  within = record { is_open = did.next.is_open; mode = did.next.mode ∙ within.mode; ready = did.ready };
  rows = did.rows;
  committed = rw within.mode at did.next.committed;
}

pub writes_within : {Rows : Tables → Tables → Type 0} (old new : State) (r : Result ℕ Error) → IsWrite Rows old new r
    → AreWrites Rows old new r
writes_within old new (Ok count) wrote = record {
  clean = wrote.clean;
  done = λ now within. goes old new within
      (wrote.done now within.ready);
  cause = λ now within. tt;
  err = λ now within. tt;
}
writes_within old new (Err e) wrote = record {
  clean = wrote.clean;
  done = λ now within. tt;
  cause =
      λ now within. wrote.cause now (λ on. within.ready);
  err = λ now within. keeps old new (wrote.err now);
}

-- one after the other
pub then_goes : {First Then Both : Tables → Tables → Type 0} (old mid new : State) → ((a b c : Tables) → First a b
    → Then b c → Both a c) → GoesOn First old mid → GoesOn Then mid new → GoesOn Both old new
then_goes old mid new both first next = record {
  within = next.within;
  rows = both (tables_of old.now.trees) (tables_of mid.now.trees) (tables_of new.now.trees) first.rows next.rows;
  committed = next.committed ∙ first.committed;
}

abbrev Then : (Tables → Tables → Type 0) → (Tables → Tables → Type 0) → Tables → Tables → Type 0
Then First Last a c = (b : Tables) × First a b × Last b c

module _ {First Next Both : Tables → Tables → Type 0} {A B : Type 0} (old mid new : State) (both : (a b c : Tables)
    → First a b → Next b c → Both a c) where
  writes_then : (x : A) (r : Result B Error) → AreWrites First old mid (Ok x) → AreWrites Next mid new r
      → AreWrites Both old new r
  writes_then x (Ok y) first next = record {
    clean = λ now. first.clean (next.clean now);
    done = λ now within. let went = first.done (next.clean now) within in then_goes old mid new both went
        (next.done now went.within);
    cause = λ now within. tt;
    err = λ now within. tt;
  }
  writes_then x (Err e) first next = record {
    clean = λ now. first.clean (next.clean now);
    done = λ now within. tt;
    cause = λ now within. next.cause now (first.done (next.clean now) within).within;
    err = λ now within. let went = first.done (next.clean now) within in let kept = next.err now went.within
        in record { was_open = λ shows. within.is_open; committed = λ shows. kept.committed shows ∙ went.committed };
  }

-- ---- rows are added one by one

one_more : {X : Type 0} (xs ys zs ws : List X) (x : X) → IsPermutation (xs ++ ys) zs → IsPermutation (x ∷ zs) ws
    → IsPermutation ((xs ++ x ∷ []) ++ ys) ws
one_more xs ys zs ws x before now =
    subst (λ all. IsPermutation all ws) (sym (append_assoc xs (x ∷ []) ys))
    (IsPermutation-trans (xs ++ x ∷ ys) (x ∷ (xs ++ ys)) ws (IsPermutation-middle xs x ys)
    (IsPermutation-trans (x ∷ (xs ++ ys)) (x ∷ zs) ws (IsPermutation-cons x (xs ++ ys) zs before) now))

up_to : {X : Type 0} (xs : List X) (i : ℕ) (x : X) → i < length xs → x ≡ get_or xs i x → take (i + 1) xs ≡ take i xs
    ++ x ∷ []
up_to xs i x within is = ap (λ n. take n xs) (add-one i) ∙ take-suc xs i x within ∙ ap (λ y. take i xs ++ y ∷ [])
    (sym is)

pub next_node : (ns : List NodeRow) (i : ℕ) (n : NodeRow) → i < length ns → n ≡ get_or ns i n → (a b c : Tables)
    → AddsNodes (take i ns) a b → AddsNode n b c → AddsNodes (take (i + 1) ns) a c
next_node ns i n within is a b c before now = (
  now.0 ∙ ap (λ (t : Tables). record t { nodes = c.nodes }) before.0,
  subst (λ all. IsPermutation (all ++ a.nodes) c.nodes) (sym (up_to ns i n within is))
      (one_more (take i ns) a.nodes b.nodes c.nodes n before.1 now.1),
)

pub next_cell : (cs : List CellRow) (i : ℕ) (x : CellRow) → i < length cs → x ≡ get_or cs i x → (a b c : Tables)
    → AddsCells (take i cs) a b → AddsCell x b c → AddsCells (take (i + 1) cs) a c
next_cell cs i x within is a b c before now = (
  now.0 ∙ ap (λ (t : Tables). record t { cells = c.cells }) before.0,
  subst (λ all. IsPermutation (all ++ a.cells) c.cells) (sym (up_to cs i x within is))
      (one_more (take i cs) a.cells b.cells c.cells x before.1 now.1),
)

-- several at once
pub next_cells : (done more : List CellRow) (a b c : Tables) → AddsCells done a b → AddsCells more b c
    → AddsCells (done ++ more) a c
next_cells done more a b c before now = (
  now.0 ∙ ap (λ (t : Tables). record t { cells = c.cells }) before.0,
  IsPermutation-trans ((done ++ more) ++ a.cells) (more ++ (done ++ a.cells)) c.cells
      (subst (IsPermutation ((done ++ more) ++ a.cells)) (append_assoc more done a.cells)
      (IsPermutation-append_left a.cells (done ++ more) (more ++ done) (IsPermutation-append_comm done more)))
      (IsPermutation-trans (more ++ (done ++ a.cells)) (more ++ b.cells) c.cells (IsPermutation-append_right more
      (done ++ a.cells) b.cells before.1) now.1),
)

-- cells beside a node
pub next_own : (n : NodeRow) (done more : List OwnCell) (a b c : Tables) → AddsCells (map (cell_beside n) done) a b
    → AddsCells (map (cell_beside n) more) b c → AddsCells (map (cell_beside n) (done ++ more)) a c
next_own n done more a b c before now =
    subst (λ cs. AddsCells cs a c) (sym (map-append (cell_beside n) done more)) (next_cells (map (cell_beside n) done)
    (map (cell_beside n) more) a b c before now)

-- ---- what a loop of such statements has done so far

abbrev pub IsSoFar : (Tables → Tables → Type 0) → State → State → Type 0
IsSoFar Rows first s = (HasCleanDisk s → HasCleanDisk first) × (HasCleanDisk s → IsWithin first → GoesOn Rows first s)

pub nothing_yet : (s : State) → IsSoFar (AddsCells []) s s
nothing_yet s = (
  λ clean. clean,
  λ clean within. record {
    within = within;
    rows =
        (refl, IsPermutation-refl (tables_of s.now.trees).cells);
    committed = refl;
  },
)

module _ {Before Now : Tables → Tables → Type 0} (first old new : State) (before : IsSoFar Before first old)
    (clean : HasCleanDisk new → HasCleanDisk old) where
  pub on_by : {After : Tables → Tables → Type 0} → ((a b c : Tables) → Before a b → Now b c → After a c)
      → (HasCleanDisk new → IsWithin old → GoesOn Now old new) → IsSoFar After first new
  on_by both did = (
    λ now. before.0 (clean now),
    λ now within. let till = before.1 (clean now) within
        in then_goes first old new both till (did now till.within),
  )

  -- one statement more is done
  pub on : {After : Tables → Tables → Type 0} → ((a b c : Tables) → Before a b → Now b c → After a c)
      → (HasCleanDisk new → IsSchemaReady old.now → Changes Now old new) → IsSoFar After first new
  on both did = on_by both (λ now within. goes old new within (did now within.ready))

-- ---- a store is rewritten

module _ (ns : List NodeRow) (cs : List CellRow) (version : ℕ) (lattice schemes : List ℕ) where
  abbrev Rewritten : Tables → Tables → Type 0
  Rewritten = Rewrites ns cs version lattice schemes

  abbrev first : MetaRow
  first = first_meta version lattice schemes

  rewrites : (a b c d e : Tables) → ClearsStore a b → AddsMeta first b c → AddsNodes ns c d → AddsCells cs d e
      → Rewritten a e
  rewrites a b c d e clears meta nodes cells =
      let no_nodes : c.nodes ≡ [] = ap (λ (t : Tables). t.nodes) meta.0 ∙ ap (λ (t : Tables). t.nodes) clears in
      let no_cells : d.cells ≡ [] = ap (λ (t : Tables). t.cells) nodes.0 ∙ (ap (λ (t : Tables). t.cells) meta.0
      ∙ ap (λ (t : Tables). t.cells) clears) in
      let one : c.meta ≡ first ∷ [] = one_permutation first c.meta (subst (λ ms. IsPermutation (first ∷ ms) c.meta)
      (ap (λ (t : Tables). t.meta) clears) meta.1) in
      record {
        nodes_are = subst₂ (λ xs ys. IsPermutation xs ys) (ap (λ xs. ns ++ xs) no_nodes ∙ append-nil ns)
            (sym (ap (λ (t : Tables). t.nodes) cells.0)) nodes.1;
        cells_are = subst (λ xs. IsPermutation xs e.cells) (ap (λ xs. cs ++ xs) no_cells ∙ append-nil cs) cells.1;
        audit = ap (λ (t : Tables). t.audit) cells.0 ∙ (ap (λ (t : Tables). t.audit) nodes.0
            ∙ (ap (λ (t : Tables). t.audit) meta.0 ∙ ap (λ (t : Tables). t.audit) clears));
        meta = ap (λ (t : Tables). t.meta) cells.0 ∙ (ap (λ (t : Tables). t.meta) nodes.0 ∙ one);
      }

  -- cleared, described and filled
  pub replaced : {A C D : Type 0} (old cleared described filled new : State) (a : A) (b : ℕ) (c : C)
      (r : Result D Error) → AreWrites ClearsStore old cleared (Ok a) → IsWrite (AddsMeta first) cleared described
      (Ok b)
      → AreWrites (AddsNodes ns) described filled (Ok c) → AreWrites (AddsCells cs) filled new r
      → AreWrites Rewritten old new r
  replaced old cleared described filled new a b c r clears meta nodes cells =
      let fills = writes_then {Both = Then (AddsNodes ns) (AddsCells cs)} described filled new
      (λ d e f h k. (e, h, k)) c r nodes cells in
      let all = writes_then {Both = Then (AddsMeta first) (Then (AddsNodes ns) (AddsCells cs))} cleared described new
      (λ d e f h k. (e, h, k)) b r (writes_within cleared described (Ok b) meta) fills in
      writes_then old cleared new (λ d e f h k. rewrites d e k.0 k.2.0 f h k.1 k.2.1 k.2.2) a r clears all
