use Rattle.std.proofs.Common.{◌≡◌, ◌+◌, ◌<◌, ◌++◌, ℕ, List, [], ◌∷◌, length, get_or, take, sym, ap, ◌∙◌, subst, flat_map, take_all}
use Rattle.std.specs.List.{AllByRecursion}
use Rattle.std.proofs.lemmas.List.{flat_map_more, take_more}
use Rattle.std.proofs.SliceLists.{all_by_recursion_push}
use Rattle.mls_lattice.proofs.EachLemmas.{all_at}
use Rattle.mls_scheme.specs.declared.value.Value.{Value}
use Rattle.mls_scheme.specs.Spelling.{value_spelling, IsValue, IsShort}
use Rattle.mls_scheme.proofs.key_writing.key_bytes.Goals as goal

module _ (key : List Value) (i : ℕ) (v : Value) (within : i < length key) (is : v ≡ get_or key i v) where
  next : take i key ++ v ∷ [] ≡ take (i + 1) key
  next = sym (take_more key i v within ∙ ap (λ w. take i key ++ w ∷ []) (sym is))

  bytes_more : (n : ℕ) (out out' : List ℕ) → out' ≡ out ++ value_spelling v → out ≡ n ∷ flat_map value_spelling
      (take i key) → out' ≡ n ∷ flat_map value_spelling (take (i + 1) key)
  bytes_more n out out' more so_far =
      more ∙ ap (λ l. l ++ value_spelling v) so_far ∙ flat_map_more value_spelling (n ∷ []) (take i key) v
      ∙ ap (λ l. n ∷ flat_map value_spelling l) next

  whole_more : AllByRecursion IsValue (take i key) → IsValue v → AllByRecursion IsValue (take (i + 1) key)
  whole_more all whole = subst (AllByRecursion IsValue) next (all_by_recursion_push IsValue (take i key) v all whole)

pub put_value-requires : goal.put_value-requires
put_value-requires c =
    subst IsShort (sym c.value-item.is) (all_at IsShort c.args.key.now c.loop-value.value-index c.value-item.result c.loop-value-test.true c.requires.short)

pub loop-value-preserved : goal.loop-value-preserved
loop-value-preserved c =
    let key = c.args.key.now in
    let i = c.loop-value.value-index in
    let v = c.value-item.result in (
      bytes_more key i v c.loop-value-test.true c.value-item.is
          (length key) c.loop-value.out.items c.put_value.new.out.items c.in_ok-put_value.ensures.writes c.loop-value.invariant.0,
      whole_more key i v c.loop-value-test.true c.value-item.is c.loop-value.invariant.1 c.in_ok-put_value.ensures.whole,
    )

pub returns-clause-writes : goal.returns-clause-writes
returns-clause-writes c =
    let key = c.args.key.now in
    c.loop-value.invariant.0 ∙ ap (λ l. length key ∷ flat_map value_spelling l)
    (take_all c.loop-value.value-index key c.loop-value-test.false)

pub returns-clause-whole : goal.returns-clause-whole
returns-clause-whole c = subst (AllByRecursion IsValue)
    (take_all c.loop-value.value-index c.args.key.now c.loop-value-test.false) c.loop-value.invariant.1
