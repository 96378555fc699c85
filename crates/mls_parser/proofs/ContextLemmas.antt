-- Places of statements.
use Rattle.std.proofs.Common.{◌≡◌, ℕ, ◌+◌, ◌<◌, ◌≤◌, List, ◌∷◌, length, sym, subst, arith}
use Rattle.mls_lattice.specs.Policy.{Name}
use Rattle.mls_translang.specs.declared.row.LoopRow.{LoopRow}
use Rattle.mls_translang.specs.Tokens.{Context, with_rows}
use Rattle.mls_parser.specs.Names.{IsContext}

-- inside one loop more
pub context_more : (p : Context) (rows : List LoopRow) (name : Name) (relation : ℕ) → IsContext p
    → length p.scope.rows + 1 ≤ 16 → relation < length p.schemes
    → rows ≡ record { name = name; relation = relation } ∷ p.scope.rows → IsContext (with_rows p rows)
context_more p rows name relation h room lt e =
    let F : List LoopRow → Type 0 = λ rs. IsContext (with_rows p rs) in
    subst F (sym e) (record {
      rows = (lt, h.rows);
      hi = h.hi;
      few_params = h.few_params;
      few_vars = h.few_vars;
      few_rows = omega arith;
    })

pub ruleset context_steps = (context_more)
