-- What holds of each database on the way of a call: after each statement, and so after each write, of its run.
-- A run is no list of events that a number could index.
use Rattle.std.specs.Prelude.{◌≡◌, true, false, cond, List, [], ◌∷◌, Option, ⊤}
use Rattle.mls_lattice.specs.Labels.{Labels}
use Rattle.mls_scheme.specs.declared.value.Value.{Value}
use Rattle.mls_scheme.specs.declared.tuple.Tuple.{Tuple}
use Rattle.mls_scheme.specs.Table.{Database}
use Rattle.mls_scheme.specs.Scheme.{Schemes}
use Rattle.mls_filterview.specs.View.{rows}
use Rattle.mls_translang.specs.Tree.{Block, End, Do, If, For}
use Rattle.mls_translang.specs.Tx.{Tx}
use Rattle.mls_translang.specs.Expressions.{holds_in}
use Rattle.mls_certcheck.specs.Meaning.{Progress, start, environment, perform, for_each, run_block}

-- of each turn of a loop over rows
abbrev pub EachTurn : (Tuple → Progress → Progress) → (Tuple → Progress → Type 0) → List Tuple → Progress → Type 0
EachTurn turn Holds [] s = ⊤
EachTurn turn Holds (row ∷ rest) s = Holds row s × EachTurn turn Holds rest (turn row s)

module _ (ls : Labels) (schemes : Schemes) (args : List (Option Value)) (Holds : Database → Type 0) where
  unfoldable pub ThroughoutBlock : Block → List Tuple → Progress → Type 0
  ThroughoutBlock End around s = ⊤
  ThroughoutBlock (Do stmt rest) around s =
      let t = perform ls schemes args around stmt s in
      Holds t.db × ThroughoutBlock rest around t
  ThroughoutBlock (If guard one other rest) around s =
      let taken = holds_in (environment args around s) guard in
      (taken ≡ true → ThroughoutBlock one around s) × (taken ≡ false → ThroughoutBlock other around s)
      × ThroughoutBlock rest around (cond taken (run_block ls schemes args one around s)
      (run_block ls schemes args other around s))
  ThroughoutBlock (For name relation label body rest) around s =
      let turn = λ (row : Tuple) (t : Progress). run_block ls schemes args body (row ∷ around) t in
      EachTurn turn (λ row t. ThroughoutBlock body (row ∷ around) t) (rows ls label (s.db relation)) s
      × ThroughoutBlock rest around (for_each turn (rows ls label (s.db relation)) s)

-- it holds throughout a whole call
abbrev pub Throughout : Labels → Schemes → Tx → List (Option Value) → Database → (Database → Type 0) → Type 0
Throughout ls schemes tx args db Holds = ThroughoutBlock ls schemes args Holds tx.body [] (start db)
