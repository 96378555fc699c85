-- Expressions and writes give the same where the names in them that c sees stand for the same.
use Rattle.std.proofs.Common.{◌≡◌, ℕ, true, List, [], ◌∷◌, map, None, refl, ap, not, slice_index, slice_index_or}
use Rattle.std.proofs.Recursive.{every_front, every_back}
use Rattle.std.specs.List.{AllByRecursion}
use Rattle.mls_lattice.specs.Lattice.{Pair, Dominates, ◌⊑◌, join}
use Rattle.mls_lattice.specs.Labels.{label_of}
use Rattle.mls_lattice.proofs.LatticeLemmas.{join-left, join-right}
use Rattle.mls_scheme.specs.Tuple.{no_tuple}
use Rattle.mls_translang.specs.Tree.{Expr, Known, Null, Var, Param, Field, No, Op, Writing, Insert, Update, Delete}
use Rattle.mls_translang.specs.Expressions.{Plain, Truth, is_true, value_of, cell_of, apply, Environment, eval, value_in}
use Rattle.mls_certcheck.specs.Meaning.{values_set, write_in}
use Rattle.mls_scheme.specs.Writes.{operands}
use Rattle.mls_certcheck.specs.Rules.{Claim, after, param_label}
use Rattle.mls_certcheck.proofs.LineLemmas.{lab}
use Rattle.mls_certcheck.proofs.PointLemmas.{seen_under}

-- two environments agree at the names that c sees, after the statement m
pub record EnvironmentsAgree (k : Claim) (c m : ℕ) (loops : List ℕ) (a b : Environment) : Type 0 where
  pub vars : (i : ℕ) → after k m i ⊑ label_of k.labels c ≡ true → a.vars i ≡ b.vars i
  pub params : (i : ℕ) → param_label k i ⊑ label_of k.labels c ≡ true → slice_index_or a.args i None
      ≡ slice_index_or b.args i None
  pub rows : (d : ℕ) → label_of k.labels (slice_index loops d) ⊑ label_of k.labels c ≡ true
      → slice_index_or a.rows d no_tuple ≡ slice_index_or b.rows d no_tuple

module _ (k : Claim) (c m : ℕ) (loops : List ℕ) (a b : Environment) (agree : EnvironmentsAgree k c m loops a b) where
  abbrev level : Pair
  level = label_of k.labels c

  pub eval_same : (e : Expr) → lab k m loops e ⊑ level ≡ true → eval a e ≡ eval b e
  unfolding eval
  eval_same (Known v) l = refl
  eval_same Null l = refl
  eval_same (Var i) l = ap Plain (agree.vars i l)
  eval_same (Param i) l = ap Plain (agree.params i l)
  eval_same (Field d i) l = ap (λ r. Plain (cell_of r i)) (agree.rows d l)
  eval_same (No e) l = ap (λ d. Truth (not (is_true d))) (eval_same e l)
  eval_same (Op op e f) l =
      let p = eval_same e (seen_under level (lab k m loops e) (join (lab k m loops e) (lab k m loops f))
      (join-left (lab k m loops e) (lab k m loops f)) l) in
      let q = eval_same f (seen_under level (lab k m loops f) (join (lab k m loops e) (lab k m loops f))
      (join-right (lab k m loops e) (lab k m loops f)) l) in
      λ i. apply op (p i) (q i)

  pub value_same : (e : Expr) → lab k m loops e ⊑ level ≡ true → value_in a e ≡ value_in b e
  value_same e l = ap value_of (eval_same e l)

  -- ---- operands of a write at a label that c sees

  module _ (w : Pair) (seen : w ⊑ level ≡ true) where
    abbrev AreUnder : List Expr → Type 0
    AreUnder es = AllByRecursion (λ e. Dominates w (lab k m loops e)) es

    one_same : (e : Expr) → Dominates w (lab k m loops e) → value_in a e ≡ value_in b e
    one_same e d = value_same e (seen_under level (lab k m loops e) w d seen)

    values_same : (es : List Expr) → AreUnder es → map (value_in a) es ≡ map (value_in b) es
    values_same [] h = refl
    values_same (e ∷ es) h = λ i. one_same e h.0 i ∷ values_same es h.1 i

    sets_same : (sets : List (ℕ × Expr)) → AreUnder (map (λ s. s.1) sets) → values_set a sets ≡ values_set b sets
    sets_same [] h = refl
    sets_same (s ∷ ss) h = λ i. (s.0, one_same s.1 h.0 i) ∷ sets_same ss h.1 i

    pub write_same : (writing : Writing) → AreUnder (operands writing) → write_in a writing ≡ write_in b writing
    write_same (Insert key values) h = λ i. Insert
        (values_same key (every_front (λ e. Dominates w (lab k m loops e)) _ key values h refl) i)
        (values_same values (every_back (λ e. Dominates w (lab k m loops e)) _ key values h refl) i)
    write_same (Update key key_class from sets) h =
        λ i. Update (values_same key (every_front (λ e. Dominates w (lab k m loops e)) _ key
        (map (λ s. s.1) sets) h refl) i) key_class from
        (sets_same sets (every_back (λ e. Dominates w (lab k m loops e)) _ key (map (λ s. s.1) sets) h refl) i)
    write_same (Delete key key_class) h = λ i. Delete (values_same key h i) key_class
