-- What flows in a transaction, one source into one slot at a time.
use Rattle.std.specs.Prelude.{ℕ, zero, suc, if◌then◌else◌, List, [], ◌∷◌, ◌++◌, map, length, Option, flat_map}
use Rattle.mls_translang.specs.Tx.{Tx}
use Rattle.mls_certcheck.specs.Checks.{is_target}
use Rattle.mls_certcheck.specs.declared.flow.Slot.{Slot}
use Rattle.mls_certcheck.specs.declared.flow.Slot.TheVariants.{Variable}
use Rattle.mls_certcheck.specs.declared.flow.Source.{Source}
use Rattle.mls_certcheck.specs.declared.flow.Source.TheVariants.{Held}
use Rattle.mls_certcheck.specs.declared.flow.Flow.{Flow}
use Rattle.mls_certcheck.specs.declared.flow.Flow.TheVariants.{Into, Kept, Within, Under}
use Rattle.mls_labeller.specs.Flows.{body_lines}
use Rattle.mls_explain.specs.declared.step.Step.{Step}

-- something of the source comes into the slot
abbrev pub step : Source → Slot → Step
step s t = record { source = s; target = t }

-- each source into one target
abbrev pub steps_to : Slot → List Source → List Step
steps_to t sources = map (λ s. step s t) sources

-- and into each
abbrev pub into_steps : List Slot → List Source → List Step
into_steps targets sources = flat_map (λ t. steps_to t sources) targets

-- each of so many variables, but one, as it was
abbrev pub kept_steps : ℕ → ℕ → Option ℕ → ℕ → List Step
kept_steps m n but zero = []
kept_steps m n but (suc x) =
    kept_steps m n but x ++ (if is_target but x then [] else step (Held (Variable m x)) (Variable n x) ∷ [])

abbrev pub steps_in : ℕ → Flow → List Step
steps_in vars (Into targets sources) = into_steps targets sources
steps_in vars (Kept m n but) = kept_steps m n but vars
steps_in vars (Within limit sources) = []
steps_in vars (Under sources) = []

-- all that flows, under the rules
abbrev pub steps : Tx → List Step
steps tx = flat_map (λ l. steps_in (length tx.vars) l.flow) (body_lines tx)
