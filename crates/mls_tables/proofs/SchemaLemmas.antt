-- Lists of one item, and what others' tables have to do with ours.
use Rattle.std.proofs.Common.{◌≡◌, ℕ, ◌<◌, ◌≤◌, ◌==◌, true, List, [], ◌∷◌, ◌++◌, length, drop, get_or, refl, sym, ap, subst, ◌∙◌, arith, take-append-drop, flat_map, filter_map}
use Rattle.std.proofs.lemmas.Bool.{and_parts}
use Rattle.std.proofs.lemmas.Bool.Decides.{nat_tests}
use Rattle.std.proofs.lemmas.List.{nil_from_length}
use Rattle.std.specs.List.{list_all}
use Rattle.sqlite_value.specs.Order.{Row}
use Rattle.sqlite.specs.Table.{Table}
use Rattle.sqlite_schema.specs.declared.schema.Keys.TheVariants.{Enforced}
use Rattle.sqlite_schema.specs.declared.schema.Schema.{Schema}
use Rattle.sqlite_rules.specs.Action.{work_for, works}
use Rattle.mls_tables.specs.Schema.{Others, AreApart, HasTables, BeginsWithTables, has_no_reference, schema}

-- a list of one item is that item
pub only_item : {X : Type 0} (xs : List X) (x : X) → 1 ≤ length xs → length xs < 2 → x ≡ get_or xs 0 x → xs ≡ x ∷ []
only_item [] x some one is = absurd (omega (arith, some))
only_item (y ∷ []) x some one is = ap (λ z. z ∷ []) (sym is)
only_item (y ∷ z ∷ xs) x some one is = absurd (omega (arith, one))

zero_is : (n : ℕ) → (n == 0) ≡ true → n ≡ 0
zero_is n h = grind (arith, nat_tests)

none_is : {X : Type 0} (xs : List X) → (length xs == 0) ≡ true → xs ≡ []
none_is xs h = nil_from_length xs (zero_is (length xs) h)

-- tables without foreign keys have nothing to do after an edit
module _ (s : Schema) (tree : ℕ) (olds news : List Row) where
  no_work : (tables : List Table) → list_all has_no_reference tables ≡ true
      → flat_map (λ child. filter_map (work_for s Enforced 0 tree olds news child) child.references) tables ≡ []
  no_work [] h = refl
  no_work (t ∷ tables) h =
      let both = and_parts _ _ h in
      rw (none_is t.references both.0) (no_work tables both.1)

pub at_rest : (o : Others) → AreApart o → (tree : ℕ) (olds news : List Row) → works (schema o) Enforced 0 tree olds news
    ≡ []
at_rest o apart tree olds news = no_work (schema o) tree olds news o.tables apart.tables

-- a schema that begins with the four tables is theirs and others'
pub split : (s : Schema) → BeginsWithTables s → HasTables s
split s h = record {
  others = record { tables = drop 4 s.tables; indexes = drop 2 s.indexes };
  apart = record { tables = h.1.1.1.1; indexes = h.1.1.0 };
  is = (λ i. record {
    tables = (sym (take-append-drop 4 s.tables) ∙ ap (λ ts. ts ++ drop 4 s.tables) h.1.1.1.0) i;
    indexes = (sym (take-append-drop 2 s.indexes) ∙ ap (λ is. is ++ drop 2 s.indexes) h.1.0) i;
    views = h.0 i;
  });
}

pub joined : (s : Schema) → HasTables s → BeginsWithTables s
joined s h = subst BeginsWithTables (sym h.is) (refl, (refl, (h.apart.indexes, (refl, h.apart.tables))))
