-- What stands behind the verbs of what looks at a relation and of what writes it, from the tokens that are left.
use Rattle.std.specs.Prelude.{ℕ, Bool, List, codes, Option, Some, Ok}
use Rattle.mls_lattice.specs.Policy.{Policy}
use Rattle.mls_lattice.specs.Reading.{◌>>=◌}
use Rattle.mls_scheme.specs.declared.value.Value.{Value}
use Rattle.mls_scheme.specs.declared.write.Write.{Write as WriteOf}
use Rattle.mls_scheme.specs.declared.write.Write.TheVariants.{Insert, Update, Delete}
use Rattle.mls_scheme.specs.Scheme.{Schemes, scheme_of}
use Rattle.mls_parser.specs.Noted.{State, Read, word_at, label_behind, relation_at}
use Rattle.mls_script.specs.declared.parts.Look.{Look}
use Rattle.mls_script.specs.ReadList.{list_at, sets_at}
use Rattle.mls_script.specs.ReadQuery.{query_at}

-- a relation, and a write of it
abbrev pub Written : Type 0
Written = ℕ × WriteOf (Option Value)

module _ (schemes : Schemes) where
  -- a relation and a key of it
  unfoldable pub keyed_at : State → Read (ℕ × List (Option Value))
  keyed_at s = do
    r ← relation_at schemes s
    word ← word_at (codes "key") r.1
    key ← list_at (Some (scheme_of schemes r.0).keys) word.1
    Ok ((r.0, key.0), key.1)

  unfoldable pub insert_at : State → Read Written
  insert_at s = do
    k ← keyed_at s
    word ← word_at (codes "values") k.1
    values ← list_at (Some (scheme_of schemes k.0.0).others) word.1
    Ok ((k.0.0, Insert k.0.1 values.0), values.1)

module _ (policy : Policy) (schemes : Schemes) where
  unfoldable pub look_at : Bool → State → Read Look
  look_at counts s = do
    r ← relation_at schemes s
    l ← label_behind policy (codes "at") r.1
    q ← query_at policy schemes counts r.0 l.1
    Ok (record { relation = r.0; label = l.0; query = q.0 }, q.1)

  unfoldable pub update_at : State → Read Written
  update_at s = do
    k ← keyed_at schemes s
    class ← label_behind policy (codes "class") k.1
    from ← label_behind policy (codes "from") class.1
    sets ← sets_at (scheme_of schemes k.0.0) from.1
    Ok ((k.0.0, Update k.0.1 class.0 from.0 sets.0), sets.1)

  unfoldable pub delete_at : State → Read Written
  delete_at s = do
    k ← keyed_at schemes s
    class ← label_behind policy (codes "class") k.1
    Ok ((k.0.0, Delete k.0.1 class.0), class.1)
