use Rattle.std.proofs.Common.{rules, ◌≡◌, ◌++◌, OnOk, ◌∙◌, sym, ap, subst, length, arith}
use Rattle.std.proofs.lemmas.List.{length-map}
use Rattle.mls_lattice.specs.Labels.{below}
use Rattle.mls_lattice.specs.Policy.{labels_of}
use Rattle.mls_filterview.specs.Content.{State}
use Rattle.mls_filterview.specs.Stored.{IsStored}
use Rattle.mls_filterview.specs.Assembly.{AreOf}
use Rattle.mls_filterview.proofs.AccessLemmas.{avoids_then, avoids_some}
use Rattle.mls_filterview.proofs.CallLemmas.{fault_read}
use Rattle.mls_filterview.specs.Entities.{IsOfEntity}
use Rattle.mls_queries.proofs.PartLemmas.{IsOfKey, key_skipped, key_more, key_parts_low}
use Rattle.mls_queries.proofs.parts.key_parts.Goals as goal

pub entity_parts-requires-clause-see : goal.entity_parts-requires-clause-see
entity_parts-requires-clause-see g c = record {
  label = c.requires.see.label;
  stored = λ clean.
      let inv = c.loop-number.invariant in
      let stored = c.requires.see.stored (inv.clean clean) in (
        stored.0,
        subst (λ (s : State). IsStored (labels_of c.args.policy.now) stored.0 (s.now.db c.args.relation))
            (sym (inv.same clean)) stored.1,
      );
}

pub loop-number-preserved-then-not-dominates : goal.loop-number-preserved-then-not-dominates
loop-number-preserved-then-not-dominates g c =
    let inv = c.loop-number.invariant in
    let ls = labels_of c.args.policy.now in
    record {
      clean = inv.clean;
      about = inv.about;
      access = inv.access;
      count = inv.count;
      mode = inv.mode;
      same = inv.same;
      key = inv.key;
      parts = λ clean.
          let stored = c.requires.see.stored (inv.clean clean) in
          key_skipped ls ((g.B.Base.seen c.args.base.now).state.now.db c.args.relation) c.args.label c.args.key stored.0 stored.1 c.loop-number.number c.loop-number.nodes.items c.loop-number.cells.items
          (ap (λ m. below ls m c.args.label) (sym c.new-key_class.ensures) ∙ sym c.if-not-dominates.ensures.order)
          (inv.parts clean);
    }

pub loop-number-preserved : goal.loop-number-preserved
loop-number-preserved g c =
    let B = g.B.Base in
    let inv = c.loop-number.invariant in
    let f = c.in_ok-parts in
    let here = ap (λ b. (B.seen b).state) c.in_ok-settle.ensures.same in
    let put = c.in_ok-settle.ensures.value in
    let ls = labels_of c.args.policy.now in
    record {
      clean = λ clean. inv.clean (f.ensures.read.call.clean (c.in_ok-settle.ensures.call.clean clean));
      about = λ clean. (let before = c.in_ok-settle.ensures.call.clean clean in c.in_ok-settle.ensures.call.about clean
          ∙ f.ensures.read.call.about before ∙ inv.about (f.ensures.read.call.clean before));
      access = avoids_then (avoids_then inv.access f.ensures.access) (avoids_some c.in_ok-settle.ensures.access);
      count = (let x = inv.count in let y = f.ensures.read.call.count in let z = c.in_ok-settle.ensures.call.count
          in omega (arith, x, y, z));
      mode = ap (λ s. s.begun) here ∙ f.ensures.read.mode ∙ inv.mode;
      same = λ clean. (let before = c.in_ok-settle.ensures.call.clean clean in here ∙ f.ensures.read.same before
          ∙ inv.same (f.ensures.read.call.clean before));
      key = f.ensures.key ∙ inv.key;
      parts = λ clean.
          let before = c.in_ok-settle.ensures.call.clean clean in
          let start = f.ensures.read.call.clean before in
          let stored = c.requires.see.stored (inv.clean start) in
          let T = (B.seen c.args.base.now).state.now.db c.args.relation in
          rw (
            subst (λ r. OnOk r (c.gather.new.nodes.items ≡ c.loop-number.nodes.items
                ++ f.parts.nodes)) put c.gather.ensures.nodes,
            subst (λ r. OnOk r (c.gather.new.cells.items ≡ c.loop-number.cells.items
                ++ f.parts.cells)) put c.gather.ensures.cells,
          )
          (key_more ls T c.args.label c.args.key stored.0 stored.1 c.loop-number.number c.loop-number.nodes.items f.parts.nodes c.loop-number.cells.items f.parts.cells
          (subst (λ (s : State). AreOf (IsOfEntity ls
          (s.now.db c.args.relation) c.args.label c.args.key c.loop-number.number
          (length ls)) f.parts.nodes f.parts.cells) (inv.same start)
          (subst (λ k. AreOf (IsOfEntity ls ((B.seen c.loop-number.base).state.now.db c.args.relation) c.args.label k c.loop-number.number (length ls)) f.parts.nodes f.parts.cells) inv.key
          (subst (λ m. AreOf (IsOfEntity ls ((B.seen c.loop-number.base).state.now.db c.args.relation) c.args.label c.loop-number.place.key m (length ls)) f.parts.nodes f.parts.cells) c.new-key_class.ensures
          (f.ensures.parts before)))) (inv.parts start));
    }

pub returns-clause-parts : goal.returns-clause-parts
returns-clause-parts g c = λ clean.
    let ls = labels_of c.args.policy.now in
    let T = (g.B.Base.seen c.args.base.now).state.now.db c.args.relation in
    let stored = c.requires.see.stored (c.loop-number.invariant.clean clean) in
    rw (c.from.ensures, c.from-2.ensures)
    (key_parts_low ls T c.args.label c.args.key stored.0 stored.1 c.loop-number.nodes.items c.loop-number.cells.items
    (subst (λ k. AreOf (IsOfKey ls T c.args.label c.args.key k) c.loop-number.nodes.items c.loop-number.cells.items)
    (omega (arith, length-map c.args.policy.now.labels (λ l. l.value))) (c.loop-number.invariant.parts clean)))

pub returns-in_err-parts-clause-read : goal.returns-in_err-parts-clause-read
returns-in_err-parts-clause-read g c =
    let B = g.B.Base in
    let inv = c.loop-number.invariant in
    fault_read B.seen c.args.base.now c.loop-number.base c.entity_parts.new.base c.in_err-parts.field-0.0 c.from_residual.result
    inv.clean inv.about inv.count inv.mode inv.same c.in_err-parts.ensures.read.call c.in_err-parts.ensures.read.served
    (search rules)

pub returns-in_err-settle-clause-read : goal.returns-in_err-settle-clause-read
returns-in_err-settle-clause-read g c =
    let B = g.B.Base in
    let inv = c.loop-number.invariant in
    let f = c.in_ok-parts.ensures.read in
    let first = inv.count in let second = f.call.count in
    fault_read B.seen c.args.base.now c.entity_parts.new.base c.settle.new.base c.in_err-settle.field-0.0 c.from_residual-in_err-settle.result
    (λ h. inv.clean (f.call.clean h)) (λ h. f.call.about h ∙ inv.about (f.call.clean h)) (omega (arith, first, second))
    (f.mode ∙ inv.mode) (λ h. f.same h ∙ inv.same
    (f.call.clean h)) c.in_err-settle.ensures.call c.in_err-settle.ensures.served (search rules)

pub returns-in_err-parts-clause-access : goal.returns-in_err-parts-clause-access
returns-in_err-parts-clause-access g c = avoids_then c.loop-number.invariant.access c.in_err-parts.ensures.access

pub returns-in_err-settle-clause-access : goal.returns-in_err-settle-clause-access
returns-in_err-settle-clause-access g c =
    avoids_then (avoids_then c.loop-number.invariant.access c.in_ok-parts.ensures.access)
    (avoids_some c.in_err-settle.ensures.access)
