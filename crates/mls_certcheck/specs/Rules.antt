-- The rules under which a certificate holds (after Denning and Denning 1977): information flows only to labels that
-- dominate its own.
use Rattle.std.specs.Prelude.{◌≡◌, ℕ, zero, suc, ◌<◌, List, [], ◌∷◌, length, map, Some, slice_index, slice_index_or}
use Rattle.std.specs.List.{AllByRecursion}
use Rattle.mls_lattice.specs.Lattice.{Pair, Dominates, bottom, pair_of}
use Rattle.mls_lattice.specs.Labels.{Labels, label_of}
use Rattle.mls_lattice.specs.Policy.{Policy, labels_of}
use Rattle.mls_lattice.specs.declared.label.Label.{Label}
use Rattle.mls_translang.specs.Tree.{statements}
use Rattle.mls_translang.specs.Tx.{Tx}
use Rattle.mls_certcheck.specs.declared.cert.Certificate.{Certificate}
use Rattle.mls_certcheck.specs.declared.cert.Certificate.TheVariants.{One, Two}
use Rattle.mls_certcheck.specs.Lines.{lines}
use Rattle.mls_certcheck.specs.declared.flow.Slot.{Slot}
use Rattle.mls_certcheck.specs.declared.flow.Slot.TheVariants.{Variable, Statement}
use Rattle.mls_certcheck.specs.declared.flow.Source.{Source}
use Rattle.mls_certcheck.specs.declared.flow.Source.TheVariants.{Held, Parameter, Declared}
use Rattle.mls_certcheck.specs.declared.flow.Flow.{Flow}
use Rattle.mls_certcheck.specs.declared.flow.Flow.TheVariants.{Into, Kept, Within, Under}

-- ---- certificates

-- of the statements
abbrev pub pc_labels : Certificate → List Label
pc_labels (One cert) = cert.pc_labels
pc_labels (Two cert) = cert.pc_labels

-- all its rows of labels of variables
abbrev pub var_rows : Certificate → List (List Label)
var_rows (One cert) = cert.var_labels ∷ []
var_rows (Two cert) = cert.rows

-- of the variables after a statement: version 1 has one for all, in version 2 they begin at the lowest
abbrev pub row_after : Certificate → ℕ → List Label
row_after (One cert) n = cert.var_labels
row_after (Two cert) zero = []
row_after (Two cert) (suc n) = slice_index_or cert.rows n []

-- as many labels as statements, and as many rows where each statement has one
abbrev pub Counts : ℕ → Certificate → Type 0
Counts n (One cert) = length cert.pc_labels ≡ n
Counts n (Two cert) = (length cert.rows ≡ n) × (length cert.pc_labels ≡ n)

-- a transaction with its certificate, under declared labels
pub record Claim : Type 0 where
  pub labels : Labels
  pub tx : Tx
  pub cert : Certificate

module _ (c : Claim) where
  -- ---- labels

  abbrev pub hi : Pair
  hi = label_of c.labels c.tx.hi

  -- of a variable after a statement, or at the beginning
  abbrev pub after : ℕ → ℕ → Pair
  after n x = slice_index_or (map pair_of (row_after c.cert n)) x bottom

  -- of a statement, or the lower end
  abbrev pub pc : ℕ → Pair
  pc zero = label_of c.labels c.tx.lo
  pc (suc n) = slice_index_or (map pair_of (pc_labels c.cert)) n bottom

  abbrev pub param_label : ℕ → Pair
  param_label i = label_of c.labels (slice_index (map (λ p. p.1.label) c.tx.params) i)

  abbrev pub slot_label : Slot → Pair
  slot_label (Variable n x) = after n x
  slot_label (Statement n) = pc n

  abbrev pub source_label : Source → Pair
  source_label (Held slot) = slot_label slot
  source_label (Parameter i) = param_label i
  source_label (Declared label) = label_of c.labels label

  -- ---- what may flow

  -- a pair dominates the label of each source
  abbrev pub IsAbove : Pair → List Source → Type 0
  IsAbove p sources = AllByRecursion (λ s. Dominates p (source_label s)) sources

  abbrev pub IsObeyed : Flow → Type 0
  IsObeyed (Into targets sources) = AllByRecursion (λ t. IsAbove (slot_label t) sources) targets
  IsObeyed (Kept m n but) = (x : ℕ) → x < length c.tx.vars → (but ≡ Some x → ⊥) → Dominates (after n x) (after m x)
  IsObeyed (Within limit sources) = IsAbove (label_of c.labels limit) sources
  IsObeyed (Under sources) = IsAbove hi sources

  -- as many labels as it takes, and every line holds
  pub record Rules : Type 0 where
    pub var_count : AllByRecursion (λ row. length row ≡ length c.tx.vars) (var_rows c.cert)
    pub stmt_count : Counts (statements c.tx.body) c.cert
    pub lines : AllByRecursion (λ line. IsObeyed line.flow) (lines c.tx)

-- a transaction and its certificate, under a policy
abbrev pub claim : Policy → Tx → Certificate → Claim
claim policy tx cert = record { labels = labels_of policy; tx = tx; cert = cert }
