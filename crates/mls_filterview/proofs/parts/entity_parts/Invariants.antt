use Rattle.std.proofs.Common.{◌≡◌, ◌≤◌}
use Rattle.mls_lattice.specs.Policy.{labels_of}
use Rattle.mls_filterview.specs.Assembly.{AreOf}
use Rattle.mls_filterview.specs.Calls.{NoReadUp}
use Rattle.mls_filterview.specs.Entities.{IsOfEntity}
use Rattle.mls_filterview.proofs.parts.entity_parts.Given as goal

abbrev pub invariant-loop-number : goal.invariant-loop-number
invariant-loop-number g l =
    let B = g.B.Base in
    record {
      clean : (B.seen l.base).is_clean → (B.seen l.fn.base).is_clean;
      about : (B.seen l.base).is_clean → (B.seen l.base).about ≡ (B.seen l.fn.base).about;
      access : NoReadUp B.seen (labels_of l.policy) l.label l.fn.base l.base;
      count : (B.seen l.fn.base).failures ≤ (B.seen l.base).failures;
      mode : (B.seen l.base).state.begun ≡ (B.seen l.fn.base).state.begun;
      same : (B.seen l.base).is_clean → (B.seen l.base).state ≡ (B.seen l.fn.base).state;
      key : l.place.key ≡ l.fn.place.key;
      key_class : l.place.key_class ≡ l.key_class;
      parts : (B.seen l.base).is_clean → AreOf (IsOfEntity (labels_of l.policy)
          ((B.seen l.fn.base).state.now.db l.relation) l.label l.fn.place.key l.key_class l.number) l.nodes.items l.cells.items;
    }
