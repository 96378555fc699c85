-- A demanded key, value by value.
use Rattle.std.proofs.Common.{◌≡◌, ℕ, suc, ◌+◌, ◌-◌, ◌<◌, List, [], ◌∷◌, ◌++◌, Some, refl, sym, ap, ◌∙◌, arith, append-nil}
use Rattle.mls_scheme.specs.declared.value.Value.{Value}
use Rattle.mls_translang.specs.Tree.{Expr}
use Rattle.mls_scheme.specs.Spelling.{IsSpelledKey}
use Rattle.mls_queries.specs.Demanded.{IsDemanded}
use Rattle.mls_queries.specs.Equated.{demanded}
use Rattle.mls_queries.proofs.KeyLemmas.{put_first, demanded_from, key_demanded}

-- the values that a condition demands of attributes from a on stand behind these
pub record Demands (e : Expr) (n a : ℕ) (key : List Value) : Type 0 where
  pub way : (vs : List Value) → demanded_from a (n - a) e ≡ Some vs → demanded_from 0 n e ≡ Some (key ++ vs)

append_one : (xs ys : List Value) (y : Value) → xs ++ y ∷ ys ≡ (xs ++ y ∷ []) ++ ys
append_one [] ys y = refl
append_one (x ∷ xs) ys y = ap (λ zs. x ∷ zs) (append_one xs ys y)

pub demands_more : (e : Expr) (n a : ℕ) (v : Value) (key : List Value) → a < n → Some v ≡ demanded a e
    → Demands e n a key → Demands e n (a + 1) (key ++ v ∷ [])
demands_more e n a v key l d h = record {
  way = λ vs k.
      let left : n - a ≡ suc (n - (a + 1)) = omega (arith, l) in
      let next : a + 1 ≡ suc a = omega arith in
      h.way (v ∷ vs) (ap (λ m. demanded_from a m e) left
      ∙ (λ i. put_first (sym d i) ((ap (λ b. demanded_from b (n - (a + 1)) e) (sym next) ∙ k) i)))
      ∙ ap Some (append_one key vs v);
}

demands_all : (e : Expr) (n : ℕ) (key : List Value) → Demands e n n key → demanded_from 0 n e ≡ Some key
demands_all e n key h =
    let none : n - n ≡ 0 = omega arith in
    h.way [] (ap (λ m. demanded_from n m e) none) ∙ ap Some (append-nil key)

-- so it holds of tuples of no other key
pub is_demanded : (e : Expr) (n : ℕ) (key : List Value) → IsSpelledKey key → Demands e n n key
    → IsDemanded n (Some e) key
is_demanded e n key spelled h = record {
  spelled = spelled;
  alone =
      λ t long passed. key_demanded t e key passed (ap (λ m. demanded_from 0 m e) long ∙ demands_all e n key h);
}
