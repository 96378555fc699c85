-- Chains of flows: something of a root comes into one slot after another, and flows out to where it must not be.
use Rattle.std.specs.Prelude.{◌≡◌, ℕ, zero, suc, ◌≤◌, Bool, true, false, not, slice_index, Option, Some, None, List, []}
use Rattle.std.specs.Prelude.{◌∷◌, length, map, Contains}
use Rattle.mls_lattice.specs.Lattice.{◌⊑◌}
use Rattle.mls_lattice.specs.Labels.{label_of}
use Rattle.mls_lattice.specs.Policy.{Policy, labels_of}
use Rattle.mls_translang.specs.Tx.{Tx}
use Rattle.mls_certcheck.specs.declared.flow.Slot.{Slot}
use Rattle.mls_certcheck.specs.declared.flow.Slot.TheVariants.{Variable, Statement}
use Rattle.mls_certcheck.specs.declared.flow.Source.{Source}
use Rattle.mls_certcheck.specs.declared.flow.Source.TheVariants.{Held, Parameter, Declared}
use Rattle.mls_certcheck.specs.declared.flow.Line.{Line}
use Rattle.mls_certcheck.specs.declared.flow.Flow.{Flow}
use Rattle.mls_certcheck.specs.declared.flow.Flow.TheVariants.{Into, Kept, Within, Under}
use Rattle.mls_certcheck.specs.declared.refusal.Refusal.{Refusal}
use Rattle.mls_labeller.specs.Flows.{body_lines}
use Rattle.mls_explain.specs.declared.chain.Chain.{Chain}
use Rattle.mls_explain.specs.declared.step.Step.{Step}
use Rattle.mls_explain.specs.Steps.{step, steps}

-- steps lead from a source into one slot after another
abbrev pub Leads : (Step → Type 0) → Source → List Slot → Type 0
Leads Steps s [] = Unit {0}
Leads Steps s (t ∷ ts) = Steps (step s t) × Leads Steps (Held t) ts

-- the last of them
abbrev pub end_of : Source → List Slot → Source
end_of s [] = s
end_of s (t ∷ ts) = end_of (Held t) ts

-- a limit does not dominate a declared label
unfoldable pub is_above : Policy → ℕ → ℕ → Bool
is_above p limit label = not (label_of (labels_of p) label ⊑ label_of (labels_of p) limit)

-- declared to have a label that a limit does not dominate: a parameter, what is at a label, the transaction itself
unfoldable pub is_root : Policy → Tx → ℕ → Source → Bool
is_root p tx limit (Held (Variable n x)) = false
is_root p tx limit (Held (Statement zero)) = is_above p limit tx.lo
is_root p tx limit (Held (Statement (suc n))) = false
is_root p tx limit (Parameter i) = is_above p limit (slice_index (map (λ p. p.1.label) tx.params) i)
is_root p tx limit (Declared label) = is_above p limit label

-- these sources flow out to where a label has to dominate them
pub record Sink : Type 0 where
  pub limit : ℕ
  pub sources : List Source

-- of a flow, where hi is the ceiling
abbrev pub sink : ℕ → Flow → Option Sink
sink hi (Into targets sources) = None
sink hi (Kept m n but) = None
sink hi (Within limit sources) = Some (record { limit = limit; sources = sources })
sink hi (Under sources) = Some (record { limit = hi; sources = sources })

-- by a line of the rule at the statement
abbrev pub IsBroken : ℕ → List Line → Refusal → Sink → Type 0
IsBroken hi lines broken o = (l : Line) × Contains lines l × (l.refusal ≡ broken) × (sink hi l.flow ≡ Some o)

module _ (p : Policy) (tx : Tx) (steps : List Step) where
  -- something of the root comes along steps to where it must not be
  pub record IsWay (o : Sink) (c : Chain) : Type 0 where
    pub root : is_root p tx o.limit c.root ≡ true
    pub leads : Leads (Contains steps) c.root c.slots
    pub ends : Contains o.sources (end_of c.root c.slots)

  -- to one of these ends
  abbrev pub IsChain : (Sink → Type 0) → Chain → Type 0
  IsChain Ends c = (o : Sink) × Ends o × IsWay o c

  -- there is no chain of fewer slots
  pub record IsShortestChain (Ends : Sink → Type 0) (c : Chain) : Type 0 where
    pub chain : IsChain Ends c
    pub least : (d : Chain) → IsChain Ends d → length c.slots ≤ length d.slots

  -- a shortest chain, if there is any
  abbrev pub Finds : (Sink → Type 0) → Option Chain → Type 0
  Finds Ends None = (d : Chain) → IsChain Ends d → ⊥
  Finds Ends (Some c) = IsShortestChain Ends c

-- where a rule is told of a statement, a shortest chain by which something flows there that must not
abbrev pub IsChainTo : Policy → Tx → Refusal → Option Chain → Type 0
IsChainTo p tx broken chain = Finds p tx (steps tx) (IsBroken tx.hi (body_lines tx) broken) chain
