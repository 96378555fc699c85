-- What no write answers.
use Rattle.std.proofs.Common.{◌≢◌, Bool, true, false, cond, List, [], ◌∷◌, nat_eq, Option}
use Rattle.std.specs.List.{AllByRecursion}
use Rattle.std.specs.FinMap.{get}
use Rattle.mls_scheme.specs.declared.tuple.Element.{Element}
use Rattle.mls_updates.specs.declared.outcome.Outcome.{Outcome}
use Rattle.mls_updates.specs.declared.outcome.Outcome.TheVariants.{Done, KeyNull, Duplicate, NoTuple, NullAboveKey}
use Rattle.mls_updates.specs.declared.outcome.Outcome.TheVariants.{Inherited, OutOfInterval, AlreadyDerived, Unexpected}
use Rattle.mls_updates.specs.Laws.{WritesExpectNothing}
use Rattle.mls_updates.specs.Writes.{Key, Insert, Update, Delete, first_refusal, has_null, outcome_of, place}
use Rattle.mls_updates.specs.Writes.{root_refusals, own_refusals, below_refusals, drop_refusals}

abbrev AreOthers : List (Bool × Outcome) → Type 0
AreOthers = AllByRecursion (λ r. r.1 ≢ Unexpected)

done : Done ≢ Unexpected
done e = absurd (cc)

-- of outcomes that are others the first one is
first_other : (rs : List (Bool × Outcome)) → AreOthers rs → first_refusal rs ≢ Unexpected
unfolding first_refusal
first_other [] each = done
first_other ((c, o) ∷ rs) each =
    elim c as (λ c. cond c o (first_refusal rs) ≢ Unexpected) [
      | true ↦ each.0
      | false ↦ first_other rs each.1
    ]

key_null : KeyNull ≢ Unexpected
key_null e = absurd (cc)

duplicate : Duplicate ≢ Unexpected
duplicate e = absurd (cc)

no_tuple : NoTuple ≢ Unexpected
no_tuple e = absurd (cc)

above_key : NullAboveKey ≢ Unexpected
above_key e = absurd (cc)

inherited : Inherited ≢ Unexpected
inherited e = absurd (cc)

outside : OutOfInterval ≢ Unexpected
outside e = absurd (cc)

derived : AlreadyDerived ≢ Unexpected
derived e = absurd (cc)

outcome_other : (key : Key) (rs : List (Bool × Outcome)) → AreOthers rs → outcome_of key rs ≢ Unexpected
outcome_other key rs each = first_other ((has_null key, KeyNull) ∷ rs) (key_null, each)

pub expect_nothing : WritesExpectNothing
expect_nothing ls scheme w T (Insert key values) =
    outcome_other key (root_refusals ls scheme w (get T (place key w w))) (duplicate, (outside, tt))
expect_nothing ls scheme w T (Update key key_class from sets) =
    let found : Option (List Element) = get T (place key key_class from) in
    let own : Option (List Element) = get T (place key key_class w) in
    let owns : List (Bool × Outcome) = own_refusals ls scheme w key_class sets own in
    let lower : List (Bool × Outcome) = below_refusals ls scheme w key_class from sets found own in
    outcome_other key (cond (nat_eq from w) owns lower)
    (elim (nat_eq from w) as (λ b. AreOthers (cond b owns lower)) [
      | true ↦ (no_tuple, (inherited, (above_key, tt)))
      | false ↦ (no_tuple, (derived, (above_key, (outside, tt))))
    ])
expect_nothing ls scheme w T (Delete key key_class) =
    outcome_other key (drop_refusals ls scheme w key_class (get T (place key key_class w))) (no_tuple, tt)
