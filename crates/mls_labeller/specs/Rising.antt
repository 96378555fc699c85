-- Inner: no public contract names these. Labels rise from the lowest until they meet the lower bounds.
use Rattle.std.specs.Prelude.{◌≡◌, ℕ, ◌+◌, ◌-◌, ◌<◌, ◌≤◌, ◌^◌, Bool, true, false, List, [], ◌∷◌, map, length, drop}
use Rattle.std.specs.Prelude.{replicate, slice_index_or, sum_by}
use Rattle.std.specs.List.{AllByRecursion}
use Rattle.mls_lattice.specs.declared.label.Label.{Label}
use Rattle.mls_translang.specs.Tree.{statements}
use Rattle.mls_translang.specs.Tx.{Tx}
use Rattle.mls_certcheck.specs.declared.cert.Certificate.{Certificate}
use Rattle.mls_certcheck.specs.declared.cert.Certificate.TheVariants.{One, Two}
use Rattle.mls_certcheck.specs.declared.cert.Version.{Version}
use Rattle.mls_certcheck.specs.declared.cert.Version.TheVariants as version
use Rattle.mls_certcheck.specs.declared.flow.Slot.{Slot}
use Rattle.mls_certcheck.specs.declared.flow.Slot.TheVariants.{Variable, Statement}
use Rattle.mls_certcheck.specs.declared.flow.Flow.{Flow}
use Rattle.mls_certcheck.specs.declared.flow.Flow.TheVariants.{Into, Kept}
use Rattle.mls_certcheck.specs.Rules.{Claim, claim}
use Rattle.mls_labeller.specs.Least.{Meets, Below}
use Rattle.mls_labeller.specs.declared.labels.Labels.{Labels}
use Rattle.mls_labeller.specs.declared.least.Rising.{Rising}

-- ---- rows of labels, the first of the statements, and the certificate that they make

abbrev pub rows_of : Labels → List (List Label)
rows_of l = map (λ row. row.items) l.rows.items

abbrev pub certificate : Version → List (List Label) → Certificate
certificate version.First rows = One (record {
  var_labels = slice_index_or rows 1 [];
  pc_labels =
      slice_index_or rows 0 [];
})
certificate version.Second rows = Two (record { rows = drop 1 rows; pc_labels = slice_index_or rows 0 [] })

abbrev pub claim_at : Rising → List (List Label) → Claim
claim_at k rows = claim k.labeller.policy.now k.labeller.tx.now (certificate k.version rows)

-- how many rows are of variables, of so many statements
abbrev pub row_count : Version → ℕ → ℕ
row_count version.First stmts = 1
row_count version.Second stmts = stmts

-- how many labels are in each row
abbrev pub counts_of : Version → Tx → List ℕ
counts_of ver tx = statements tx.body ∷ replicate (row_count ver (statements tx.body)) (length tx.vars)

-- the row of a slot's label, and its place there
abbrev pub cell : Version → Slot → ℕ × ℕ
cell ver (Statement n) = (0, n - 1)
cell version.First (Variable n i) = (1, i)
cell version.Second (Variable n i) = (n, i)

-- how far the labels can rise
abbrev pub room : List (List Label) → ℕ
room rows = sum_by (λ row. sum_by (λ l. 255 - l.rank + (2 ^ 32 - 1 - l.cats)) row) rows

-- ---- what something flows into

abbrev pub HasStatement : Tx → ℕ → Type 0
HasStatement tx n = (0 < n) × (n ≤ statements tx.body)

abbrev pub HasSlot : Tx → Slot → Type 0
HasSlot tx (Variable n i) = HasStatement tx n × (i < length tx.vars)
HasSlot tx (Statement n) = HasStatement tx n

abbrev pub HasTargets : Tx → Flow → Type 0
HasTargets tx (Into targets sources) = AllByRecursion (HasSlot tx) targets
HasTargets tx (Kept m n but) = HasStatement tx n
HasTargets tx _ = Unit {0}

-- ---- labels that rise

module _ (k : Rising) where
  -- it holds of all labels that meet the lower bounds
  abbrev pub IsDue : (Claim → Type 0) → Type 0
  IsDue bound = (other : List (List Label)) → Meets (claim_at k other) → bound (claim_at k other)

  -- as many labels as it takes, and all that meet the lower bounds are above them
  pub record Stands (rows : List (List Label)) : Type 0 where
    pub counts : map length rows ≡ counts_of k.version k.labeller.tx.now
    pub below : IsDue (Below (claim_at k rows))

  -- labels that stand, after others: where none rose, they are the same and the bound holds, and else there is less
  -- room
  pub record Rises (bound : Claim → Type 0) (x y : List (List Label)) (rose : Bool) : Type 0 where
    pub stands : Stands y
    pub still : rose ≡ false → (y ≡ x) × bound (claim_at k y)
    pub falls : rose ≡ true → room y < room x
