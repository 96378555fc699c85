-- The rules as tests, in the order in which a checker names the first that is broken.
use Rattle.std.specs.Prelude.{ℕ, zero, suc, Bool, true, false, ◌&&◌, ◌||◌, if◌then◌else◌, nat_eq, List, [], ◌∷◌, length}
use Rattle.std.specs.Prelude.{Option, Some, None, Result, Ok, Err}
use Rattle.std.specs.List.{list_all}
use Rattle.mls_lattice.specs.Reading.{◌>>=◌}
use Rattle.mls_lattice.specs.Lattice.{Pair, ◌⊑◌}
use Rattle.mls_lattice.specs.Labels.{label_of}
use Rattle.mls_translang.specs.Tree.{statements}
use Rattle.mls_certcheck.specs.declared.cert.Certificate.{Certificate}
use Rattle.mls_certcheck.specs.declared.cert.Certificate.TheVariants.{One, Two}
use Rattle.mls_certcheck.specs.Lines.{Line, lines}
use Rattle.mls_certcheck.specs.Rules.{Claim, hi, after, slot_label, source_label, var_rows}
use Rattle.mls_certcheck.specs.declared.flow.Source.{Source}
use Rattle.mls_certcheck.specs.declared.flow.Flow.{Flow}
use Rattle.mls_certcheck.specs.declared.flow.Flow.TheVariants.{Into, Kept, Within, Under}
use Rattle.mls_certcheck.specs.declared.refusal.Refusal.{Refusal}
use Rattle.mls_certcheck.specs.declared.refusal.Rule.{Rule}
use Rattle.mls_certcheck.specs.declared.refusal.Rule.TheVariants as rule

-- a test of every number below one
abbrev pub all_below : ℕ → (ℕ → Bool) → Bool
all_below zero p = true
all_below (suc n) p = all_below n p && p n

abbrev pub counts : ℕ → Certificate → Bool
counts n (One cert) = nat_eq (length cert.pc_labels) n
counts n (Two cert) = nat_eq (length cert.rows) n && nat_eq (length cert.pc_labels) n

abbrev pub is_target : Option ℕ → ℕ → Bool
is_target None x = false
is_target (Some y) x = nat_eq y x

module _ (c : Claim) where
  -- a pair dominates the label of each source
  abbrev pub is_over : Pair → List Source → Bool
  is_over p sources = list_all (λ s. source_label c s ⊑ p) sources

  abbrev pub holds : Flow → Bool
  holds (Into targets sources) = list_all (λ t. is_over (slot_label c t) sources) targets
  holds (Kept m n but) = all_below (length c.tx.vars) (λ x. is_target but x || after c m x ⊑ after c n x)
  holds (Within limit sources) = is_over (label_of c.labels limit) sources
  holds (Under sources) = is_over (hi c) sources

  -- the first line that does not hold
  abbrev pub verdict : List Line → Result (Unit {0}) Refusal
  verdict [] = Ok tt
  verdict (l ∷ ls) = if holds l.flow then verdict ls else Err l.refusal

-- nothing is said where it holds
abbrev pub unless : Bool → ℕ → Rule → Result (Unit {0}) Refusal
unless holds n r = if holds then Ok tt else Err (record { stmt = n; rule = r })

-- of the numbers of labels
abbrev pub count_verdict : Claim → Result (Unit {0}) Refusal
count_verdict c = do
  rows ← unless (list_all (λ row. nat_eq (length row) (length c.tx.vars)) (var_rows c.cert)) 0 rule.VarCount
  unless (counts (statements c.tx.body) c.cert) 0 rule.StmtCount

-- what is first broken, if anything is: as many labels as it takes, then line by line
abbrev pub First : Claim → Result (Unit {0}) Refusal
First c = do
  counted ← count_verdict c
  verdict c (lines c.tx)
