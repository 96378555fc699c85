-- Inner: no public contract names these. The search back from the ends of chains, one more slot in each round.
use Rattle.std.specs.Prelude.{◌≡◌, ◌⊎◌, ℕ, ◌+◌, ◌≤◌, List, [], ◌∷◌, ◌++◌, length, map, Option, Some, None, Contains}
use Rattle.mls_lattice.specs.Policy.{Policy}
use Rattle.mls_translang.specs.Tx.{Tx}
use Rattle.mls_certcheck.specs.declared.flow.Slot.{Slot}
use Rattle.mls_certcheck.specs.declared.flow.Source.{Source}
use Rattle.mls_certcheck.specs.declared.flow.Source.TheVariants.{Held}
use Rattle.mls_explain.specs.declared.chain.Chain.{Chain}
use Rattle.mls_explain.specs.declared.search.Tail.{Tail}
use Rattle.mls_explain.specs.declared.search.Search.{Search}
use Rattle.mls_explain.specs.declared.step.Step.{Step}
use Rattle.mls_explain.specs.Chains.{Leads, end_of, Sink, IsWay}

abbrev pub chain_of : Tail → Chain
chain_of a = record { root = a.root; slots = a.slots }

abbrev pub tails_of : ℕ → List Source → List Tail
tails_of limit sources = map (λ s. record { limit = limit; root = s; slots = [] }) sources

abbrev pub limited : ℕ → List Step → List (ℕ × Step)
limited limit steps = map (λ s. (limit, s)) steps

-- what a sink adds at the start
abbrev pub tails_out : Option Sink → List Tail
tails_out None = []
tails_out (Some o) = tails_of o.limit o.sources

abbrev pub steps_out : List Step → Option Sink → List (ℕ × Step)
steps_out steps None = []
steps_out steps (Some o) = limited o.limit steps

abbrev pub longer : Tail → Step → Tail
longer a s = record { limit = a.limit; root = s.source; slots = s.target ∷ a.slots }

abbrev pub IsAt : ℕ → Slot → Tail → Type 0
IsAt limit t a = (a.limit ≡ limit) × (a.root ≡ Held t)

-- a step leads to one of the tails
pub record IsTaken (tails : List Tail) (l : ℕ × Step) (b : Tail) : Type 0 where
  pub tail : Tail
  pub among : Contains tails tail
  pub at : IsAt l.0 l.1.target tail
  pub is : b ≡ longer tail l.1

-- each step is left, and leads to none of the tails, or is taken
pub record IsRound (tails : List Tail) (left : List (ℕ × Step)) (more : List Tail)
    (rest : List (ℕ × Step)) : Type 0 where
  pub each : (l : ℕ × Step) → Contains left l → Contains rest l ⊎ ((b : Tail) × Contains more b × IsTaken tails l b)
  pub stays : (l : ℕ × Step) → Contains rest l → Contains left l × ((a : Tail) → Contains tails a
      → IsAt l.0 l.1.target a → ⊥)
  pub taken : (b : Tail) → Contains more b → (l : ℕ × Step) × Contains left l × IsTaken tails l b
  pub count : length more + length rest ≡ length left

-- where it was so of the steps so far, it is of these and one more
abbrev pub IsRoundMore : List Tail → ℕ × Step → Search → Search → Type 0
IsRoundMore tails l x y =
    (seen : List (ℕ × Step)) → IsRound tails seen x.tails.items x.left.items
    → IsRound tails (seen ++ l ∷ []) y.tails.items y.left.items

-- along what is left something of the source comes to a tail, over so many slots in all
pub record IsAhead (tails : List Tail) (left : List (ℕ × Step)) (limit : ℕ) (s : Source) (n : ℕ) : Type 0 where
  pub tail : Tail
  pub among : Contains tails tail
  pub same : tail.limit ≡ limit
  pub slots : List Slot
  pub leads : Leads (λ step. Contains left (limit, step)) s slots
  pub ends : end_of s slots ≡ tail.root
  pub within : length slots + length tail.slots ≤ n

-- the end of a chain, over so many slots
pub record IsBack (steps : List Step) (n : ℕ) (a : Tail) (o : Sink) : Type 0 where
  pub limit : a.limit ≡ o.limit
  pub leads : Leads (Contains steps) a.root a.slots
  pub ends : Contains o.sources (end_of a.root a.slots)
  pub size : length a.slots ≡ n

-- after so many rounds all chains are ahead
pub record IsUnderway (p : Policy) (tx : Tx) (steps : List Step) (Ends : Sink → Type 0) (n : ℕ) (tails : List Tail)
    (left : List (ℕ × Step)) : Type 0 where
  pub back : (a : Tail) → Contains tails a → (o : Sink) × Ends o × IsBack steps n a o
  pub own : (l : ℕ × Step) → Contains left l → Contains steps l.1
  pub ahead : (c : Chain) (o : Sink) → Ends o → IsWay p tx steps o c → IsAhead tails left o.limit c.root
      (length c.slots)
