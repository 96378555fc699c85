-- The lines of statements as the walk comes to them, and what the checker knows of its claim.
use Rattle.std.specs.Prelude.{◌≡◌, ℕ, ◌+◌, List, [], ◌∷◌, ◌++◌, Result, Ok, Err, flat_map}
use Rattle.mls_lattice.specs.Lattice.{Pair, ◌⊑◌}
use Rattle.mls_lattice.specs.Policy.{labels_of}
use Rattle.mls_translang.specs.Tree.{Block, End, Do, If, For, statements}
use Rattle.mls_certcheck.specs.Points.{Plain, branching, looping, points}
use Rattle.mls_certcheck.specs.Lines.{Line, ceiling, context, own_lines, lines_at}
use Rattle.mls_certcheck.specs.Rules.{Claim}
use Rattle.mls_certcheck.specs.Loops.{loops_of}
use Rattle.mls_certcheck.specs.Checks.{is_over, verdict}
use Rattle.mls_certcheck.specs.declared.flow.Source.{Source}
use Rattle.mls_certcheck.specs.declared.lent.Here.{Here}
use Rattle.mls_certcheck.specs.declared.checker.Checker.{Checker}
use Rattle.mls_certcheck.specs.declared.refusal.Refusal.{Refusal}

abbrev pub claim_of : Checker → Claim
claim_of k = record { labels = labels_of k.policy.now; tx = k.tx.now; cert = k.cert.now }

-- a function answered this
abbrev pub Says : {X : Type 0} → Result X Refusal → Result X Refusal → Type 0
Says (Ok x) answer = answer ≡ Ok x
Says (Err e) answer = answer ≡ Err e

-- a pair that flows just where each of these sources does
pub record IsJoin (c : Claim) (sources : List Source) (p : Pair) : Type 0 where
  pub flows : (q : Pair) → (p ⊑ q) ≡ is_over c q sources

-- the checker, shown these lines, answered this
abbrev pub Checked : Checker → List Line → Result (Unit {0}) Refusal → Checker → Type 0
Checked k ls answer m = (claim_of m ≡ claim_of k) × Says answer (verdict (claim_of k) ls)

-- the lines of the statements of a block, the first of which is n, among so many variables
unfoldable pub walked_lines : ℕ → ℕ → ℕ → ℕ → List ℕ → Block → List Line
walked_lines vars n around before rows block = flat_map (lines_at vars) (points n around before rows block)

module _ (h : Here) where
  -- of every statement
  abbrev pub entry_lines : List Line
  entry_lines = ceiling h.vars h.number ++ context h.number h.around

  -- of what the first statement of a block is
  abbrev pub own_of : Block → List Line
  own_of End = []
  own_of (Do stmt rest) = own_lines h.number h.before (loops_of h.loops) (Plain stmt)
  own_of (If guard one other rest) = own_lines h.number h.before (loops_of h.loops)
      (branching h.number h.before guard one other)
  own_of (For row relation label body rest) = own_lines h.number h.before (loops_of h.loops)
      (looping h.number h.before label body)

  abbrev pub here_lines : Block → List Line
  here_lines block = entry_lines ++ own_of block

  -- of the statements inside it
  abbrev pub inner_of : Block → List Line
  inner_of (If guard one other rest) =
      walked_lines h.vars (h.number + 1) h.number h.before (loops_of h.loops) one
      ++ walked_lines h.vars (h.number + 1 + statements one) h.number h.before (loops_of h.loops) other
  inner_of (For row relation label body rest) = walked_lines h.vars (h.number + 1) h.number h.number
      (label ∷ loops_of h.loops) body
  inner_of _ = []

  -- of all statements of a block that begins here
  abbrev pub block_lines : Block → List Line
  block_lines block = walked_lines h.vars h.number h.around h.before (loops_of h.loops) block
