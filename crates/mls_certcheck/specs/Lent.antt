-- What is said by a line that the walk lends.
use Rattle.std.specs.Prelude.{List, [], ◌∷◌, ◌++◌, map, Option, Some, None, flat_map}
use Rattle.mls_scheme.specs.Writes.{operands}
use Rattle.mls_translang.specs.Tree.{Expr}
use Rattle.mls_certcheck.specs.Points.{directs}
use Rattle.mls_certcheck.specs.Lines.{Line, names, variables}
use Rattle.mls_certcheck.specs.Loops.{loops_of}
use Rattle.mls_certcheck.specs.declared.flow.Slot.{Slot}
use Rattle.mls_certcheck.specs.declared.flow.Slot.TheVariants.{Statement}
use Rattle.mls_certcheck.specs.declared.flow.Source.{Source}
use Rattle.mls_certcheck.specs.declared.flow.Source.TheVariants.{Declared}
use Rattle.mls_certcheck.specs.declared.flow.Flow.{Flow}
use Rattle.mls_certcheck.specs.declared.flow.Flow.TheVariants as said
use Rattle.mls_certcheck.specs.declared.lent.Here.{Here}
use Rattle.mls_certcheck.specs.declared.lent.Targets.{Targets}
use Rattle.mls_certcheck.specs.declared.lent.Targets.TheVariants.{One, Inside, Either}
use Rattle.mls_certcheck.specs.declared.lent.More.{More}
use Rattle.mls_certcheck.specs.declared.lent.More.TheVariants.{Nothing, Label, Variables, Names, Operands}
use Rattle.mls_certcheck.specs.declared.lent.LentFlow.{LentFlow}
use Rattle.mls_certcheck.specs.declared.lent.LentFlow.TheVariants.{Into, Kept, Within, Under}
use Rattle.mls_certcheck.specs.declared.refusal.Rule.{Rule}

abbrev pub slots_of : Targets → List Slot
slots_of (One slot) = slot ∷ []
slots_of (Inside one) = map (λ m. Statement m) (directs one.first one.block.now)
slots_of (Either one other) = map (λ m. Statement m) (directs one.first one.block.now
    ++ directs other.first other.block.now)

module _ (h : Here) where
  -- the names in expressions
  abbrev pub names_here : List Expr → List Source
  names_here es = flat_map (names h.before (loops_of h.loops)) es

  abbrev pub more_of : More → List Source
  more_of Nothing = []
  more_of (Label label) = Declared label ∷ []
  more_of (Variables count) = variables h.number count
  more_of (Names e) = names h.before (loops_of h.loops) e.now
  more_of (Operands writing) = names_here (operands writing.now)

  abbrev pub sources_of : Option Source → More → List Source
  sources_of None more = more_of more
  sources_of (Some source) more = source ∷ more_of more

  abbrev pub flow_of : LentFlow → Flow
  flow_of (Into targets one more) = said.Into (slots_of targets) (sources_of one more)
  flow_of (Kept from but) = said.Kept from h.number but
  flow_of (Within limit one more) = said.Within limit (sources_of one more)
  flow_of (Under one more) = said.Under (sources_of one more)

  abbrev pub line_of : Rule → LentFlow → Line
  line_of r flow = record { flow = flow_of flow; refusal = record { stmt = h.number; rule = r } }
