-- The slots and sources of a line, one after another.
use Rattle.std.proofs.Common.{◌≡◌, ℕ, zero, suc, ◌+◌, ◌-◌, ◌<◌, List, [], ◌∷◌, ◌++◌, length, drop, get_or, map, refl, sym, ap, ◌∙◌, append_assoc, arith, append-nil}
use Rattle.std.proofs.lemmas.List.{map-append}
use Rattle.mls_translang.specs.Tree.{Block, End, statements}
use Rattle.mls_translang.specs.Blocks.{block_of}
use Rattle.mls_translang.specs.declared.block.Stmt.{Stmt}
use Rattle.mls_translang.specs.declared.block.Stmt.TheVariants as stmt
use Rattle.mls_certcheck.specs.Points.{directs}
use Rattle.mls_certcheck.specs.Lines.{variables}
use Rattle.mls_certcheck.proofs.WalkLemmas.{drop_here}
use Rattle.mls_certcheck.specs.declared.flow.Slot.{Slot}
use Rattle.mls_certcheck.specs.declared.flow.Slot.TheVariants.{Variable, Statement}
use Rattle.mls_certcheck.specs.declared.flow.Source.{Source}
use Rattle.mls_certcheck.specs.declared.flow.Source.TheVariants.{Held}
use Rattle.mls_labeller.specs.Flows.{own_slots}

-- ---- lists, one behind another

notes_more : {A : Type 0} (out two a x y all : List A) → two ≡ out ++ a → x ≡ a ++ y → out ++ x ≡ all → two ++ y ≡ all
notes_more out two a x y all h e k = ap (λ l. l ++ y) h ∙ append_assoc out a y ∙ ap (λ l. out ++ l) (sym e) ∙ k

-- ---- the first statement of a block, and the rest

directs-first : (n : ℕ) (s : Stmt) (rest : List Stmt) → directs n (block_of (s ∷ rest))
    ≡ n ∷ directs (n + statements (block_of (s ∷ []))) (block_of rest)
directs-first n (stmt.If guard one other) rest =
    let e : n + (1 + statements one + statements other) ≡ n + (1 + statements one + statements other + 0) = omega arith
    in
    ap (λ (k : ℕ). n ∷ directs k (block_of rest)) e
directs-first n (stmt.For row relation label body) rest =
    let e : n + (1 + statements body) ≡ n + (1 + statements body + 0) = omega arith in
    ap (λ (k : ℕ). n ∷ directs k (block_of rest)) e
directs-first n _ rest = refl

module _ (items : List Stmt) (i : ℕ) (s : Stmt) (within : i < length items) (is : s ≡ get_or items i s) where
  pub slots_more : (n m : ℕ) (out two all : List Slot) → m ≡ n + statements (block_of (s ∷ []))
      → two ≡ out ++ Statement n ∷ [] → out ++ own_slots n (block_of (drop i items)) ≡ all
      → two ++ own_slots m (block_of (drop (i + 1) items)) ≡ all
  unfolding own_slots
  slots_more n m out two all next put whole =
      let x : own_slots n (block_of (drop i items)) ≡ (Statement n ∷ []) ++ own_slots
      (n + statements (block_of (s ∷ []))) (block_of (drop (i + 1) items)) =
      ap (λ (ss : List Stmt). own_slots n (block_of ss)) (drop_here items i s within is) ∙ ap (map (λ k. Statement k))
      (directs-first n s (drop (i + 1) items)) in
      notes_more out two (Statement n ∷ []) _ _ all put
      (x ∙ ap (λ (k : ℕ). Statement n ∷ own_slots k (block_of (drop (i + 1) items))) (sym next)) whole

-- ---- a whole block

pub slots_done : (n : ℕ) (out : List Slot) → out ++ own_slots n End ≡ out
unfolding own_slots
slots_done n out = append-nil out

-- ---- variables, the last one first

pub variables_more : (n k : ℕ) (out two all : List Source) → 0 < k → two ≡ out ++ Held (Variable n (k - 1)) ∷ []
    → out ++ variables n k ≡ all → two ++ variables n (k - 1) ≡ all
variables_more n zero out two all low put whole = absurd (omega (arith, low))
variables_more n (suc j) out two all low put whole =
    let e : suc j - 1 ≡ j = omega arith in
    (λ i. (put ∙ ap (λ (k : ℕ). out ++ Held (Variable n k) ∷ []) e) i ++ variables n (e i)) ∙ append_assoc out
    (Held (Variable n j) ∷ []) (variables n j) ∙ whole

-- ---- the targets inside two blocks

pub both_slots : (n m : ℕ) (one other : Block) → own_slots n one ++ own_slots m other ≡ map (λ k. Statement k)
    (directs n one ++ directs m other)
unfolding own_slots
both_slots n m one other = sym (map-append (λ k. Statement k) (directs n one) (directs m other))

pub own_slots-is : (n : ℕ) (block : Block) → own_slots n block ≡ map (λ k. Statement k) (directs n block)
unfolding own_slots
own_slots-is n block = refl

pub ruleset slots_are = (own_slots-is, both_slots)
