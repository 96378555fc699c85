-- States on the way of a write.
use Rattle.std.proofs.Common.{◌≡◌, ℕ, zero, suc, ◌≤◌, arith, Bool, true, false, cond, List, [], ◌∷◌, length, drop, refl, sym, ap, ◌∙◌, nat_eq, eqb-true, eq-eqb}
use Rattle.std.proofs.lemmas.Bool.{cond-true}
use Rattle.mls_scheme.specs.Table.{Table}
use Rattle.mls_filterview.specs.Content.{State, with_table, with_relation}

-- a relation that is put back is as it was
pub same_state : (s : State) (relation : ℕ) → with_relation s relation (s.now.db relation) ≡ s
same_state s relation = λ i. record s { now = record { db = λ r. same r i; audit = s.now.audit } }
  where
    same : (r : ℕ) → with_table s.now.db relation (s.now.db relation) r ≡ s.now.db r
    same r = by_test (nat_eq r relation) refl
      where
        by_test : (b : Bool) → nat_eq r relation ≡ b → cond b (s.now.db relation) (s.now.db r) ≡ s.now.db r
        by_test true e = ap s.now.db (sym (eqb-true r relation e))
        by_test false e = refl

-- the relation is the one that was put there
pub table_of : (s : State) (relation : ℕ) (T : Table) → (with_relation s relation T).now.db relation ≡ T
table_of s relation T = cond-true (nat_eq relation relation) T (s.now.db relation) (eq-eqb relation relation refl)

-- of two tables put there the second stands
pub put_twice : (s : State) (relation : ℕ) (T U : Table) → with_relation (with_relation s relation T) relation U
    ≡ with_relation s relation U
put_twice s relation T U = λ i. record s {
  now = record {
    db = λ r. by_test r (nat_eq r relation) i;
    audit =
        s.now.audit;
  };
}
  where
    by_test : (r : ℕ) (b : Bool) → cond b U (cond b T (s.now.db r)) ≡ cond b U (s.now.db r)
    by_test r true = refl
    by_test r false = refl

-- a step on the way to x: what is left of it, on the relation as it is now
pub next_step : (relation : ℕ) (t u x : State) (rest next : Table → Table) (T : Table)
    → with_relation t relation (rest (t.now.db relation)) ≡ x → rest (t.now.db relation) ≡ next T
    → u ≡ with_relation t relation T
    → with_relation u relation (next (u.now.db relation)) ≡ x
next_step relation t u x rest next T way step is =
    ap (λ v. with_relation v relation (next (v.now.db relation))) is
    ∙ ap (λ S. with_relation (with_relation t relation T) relation (next S)) (table_of t relation T)
    ∙ put_twice t relation T (next T) ∙ ap (with_relation t relation) (sym step) ∙ way

-- where nothing is left the state is x
pub last_step : (relation : ℕ) (t x : State) (rest : Table → Table)
    → with_relation t relation (rest (t.now.db relation)) ≡ x → rest (t.now.db relation) ≡ t.now.db relation → t ≡ x
last_step relation t x rest way none = sym (same_state t relation) ∙ ap (with_relation t relation) (sym none) ∙ way

-- what is left of a list
pub drop_end : {X : Type 0} (xs : List X) (i : ℕ) → length xs ≤ i → drop i xs ≡ []
drop_end [] zero l = refl
drop_end [] (suc i) l = refl
drop_end (x ∷ xs) zero l = absurd (omega arith)
drop_end (x ∷ xs) (suc i) l = drop_end xs i (omega arith)
