use Rattle.std.proofs.Common.{rules, ◌≡◌, ◌++◌, ◌&&◌, true, OnOk, ◌∙◌, sym, ap, subst, arith}
use Rattle.std.proofs.lemmas.Bool.{and_parts}
use Rattle.std.proofs.lemmas.List.{length-map}
use Rattle.mls_lattice.specs.Labels.{below}
use Rattle.mls_lattice.specs.Policy.{labels_of}
use Rattle.mls_scheme.specs.declared.place.Place.{Place}
use Rattle.mls_filterview.specs.Content.{State}
use Rattle.mls_filterview.specs.Fragment.{IsEntityPart}
use Rattle.mls_filterview.specs.Assembly.{AreOf}
use Rattle.mls_filterview.proofs.CallLemmas.{fault_read}
use Rattle.mls_filterview.proofs.AccessLemmas.{avoids_then, avoids_some, at_reads_low}
use Rattle.mls_filterview.specs.Entities.{IsOfEntity}
use Rattle.mls_filterview.proofs.PartLemmas.{entity_same, entity_more}
use Rattle.mls_filterview.proofs.parts.entity_parts.Goals as goal

pub loop-number-preserved-then-not-is_between : goal.loop-number-preserved-then-not-is_between
loop-number-preserved-then-not-is_between g c =
    let inv = c.loop-number.invariant in
    let ls = labels_of c.args.policy.now in
    let label = c.args.label in
    record {
      clean = inv.clean;
      about = inv.about;
      access = inv.access;
      count = inv.count;
      mode = inv.mode;
      same = inv.same;
      key = inv.key;
      key_class = inv.key_class;
      parts = λ clean.
          let stored = c.requires.see.stored (inv.clean clean) in
          entity_same ls ((g.B.Base.seen c.args.base.now).state.now.db c.args.relation) label c.args.place.now.key stored.0 stored.1 c.args.key_class c.loop-number.number c.loop-number.nodes.items c.loop-number.cells.items
          ((λ i. below ls c.args.key_class (sym c.new-class.ensures i) && below ls (sym c.new-class.ensures i) label)
          ∙ sym c.if-not-is_between.ensures) (inv.parts clean);
    }

pub loop-number-preserved : goal.loop-number-preserved
loop-number-preserved g c =
    let B = g.B.Base in
    let inv = c.loop-number.invariant in
    let f = c.in_ok-part in
    let here = ap (λ b. (B.seen b).state) c.in_ok-settle.ensures.same in
    let put = c.in_ok-settle.ensures.value in
    let ls = labels_of c.args.policy.now in
    let label = c.args.label in
    record {
      clean = λ clean. inv.clean (f.ensures.read.call.clean (c.in_ok-settle.ensures.call.clean clean));
      about = λ clean. (let before = c.in_ok-settle.ensures.call.clean clean in c.in_ok-settle.ensures.call.about clean
          ∙ f.ensures.read.call.about before ∙ inv.about (f.ensures.read.call.clean before));
      access = avoids_then (avoids_then inv.access
          (at_reads_low ls label c.new-class.result (and_parts (below ls c.args.key_class c.new-class.result)
          (below ls c.new-class.result label) (sym c.if-not-is_between.ensures)).1 f.ensures.access))
          (avoids_some c.in_ok-settle.ensures.access);
      count = (let x = inv.count in let y = f.ensures.read.call.count in let z = c.in_ok-settle.ensures.call.count
          in omega (arith, x, y, z));
      mode = ap (λ s. s.begun) here ∙ f.ensures.read.mode ∙ inv.mode;
      same = λ clean. (let before = c.in_ok-settle.ensures.call.clean clean in here ∙ f.ensures.read.same before
          ∙ inv.same (f.ensures.read.call.clean before));
      key = inv.key;
      key_class = inv.key_class;
      parts = λ clean.
          let before = c.in_ok-settle.ensures.call.clean clean in
          let start = f.ensures.read.call.clean before in
          let p : Place = record {
            key = c.loop-number.place.key;
            key_class = c.loop-number.place.key_class;
            class =
                c.new-class.result;
          } in
          let low : below ls c.loop-number.number label ≡ true =
          subst (λ m. below ls m label ≡ true) c.new-class.ensures
          (and_parts (below ls c.args.key_class c.new-class.result) (below ls c.new-class.result label)
          (sym c.if-not-is_between.ensures)).1 in
          rw (
            subst (λ r. OnOk r (c.gather.new.nodes.items ≡ c.loop-number.nodes.items
                ++ f.part.nodes)) put c.gather.ensures.nodes,
            subst (λ r. OnOk r (c.gather.new.cells.items ≡ c.loop-number.cells.items
                ++ f.part.cells)) put c.gather.ensures.cells,
          )
          (entity_more ls ((B.seen c.args.base.now).state.now.db c.args.relation) label c.args.place.now.key c.args.key_class c.loop-number.number c.loop-number.nodes.items c.loop-number.cells.items p f.part
          inv.key inv.key_class c.new-class.ensures low
          (subst (λ (s : State). IsEntityPart (s.now.db c.args.relation) p f.part) (inv.same start)
          (f.ensures.found before)) (inv.parts start));
    }

pub returns-clause-parts : goal.returns-clause-parts
returns-clause-parts g c = λ clean.
    rw (c.from.ensures, c.from-2.ensures)
    (subst (λ k. AreOf (IsOfEntity (labels_of c.args.policy.now)
    ((g.B.Base.seen c.args.base.now).state.now.db c.args.relation) c.args.label c.args.place.now.key c.args.key_class k) c.loop-number.nodes.items c.loop-number.cells.items)
    (omega (arith, length-map c.args.policy.now.labels (λ l. l.value))) (c.loop-number.invariant.parts clean))

pub returns-in_err-part-clause-read : goal.returns-in_err-part-clause-read
returns-in_err-part-clause-read g c =
    let B = g.B.Base in
    let inv = c.loop-number.invariant in
    fault_read B.seen c.args.base.now c.loop-number.base c.entity.new.self c.in_err-part.field-0.0 c.from_residual.result
    inv.clean inv.about inv.count inv.mode inv.same c.in_err-part.ensures.read.call c.in_err-part.ensures.read.served
    (search rules)

pub returns-in_err-settle-clause-read : goal.returns-in_err-settle-clause-read
returns-in_err-settle-clause-read g c =
    let B = g.B.Base in
    let inv = c.loop-number.invariant in
    let f = c.in_ok-part.ensures.read in
    let first = inv.count in let second = f.call.count in
    fault_read B.seen c.args.base.now c.entity.new.self c.settle.new.base c.in_err-settle.field-0.0 c.from_residual-in_err-settle.result
    (λ h. inv.clean (f.call.clean h)) (λ h. f.call.about h ∙ inv.about (f.call.clean h)) (omega (arith, first, second))
    (f.mode ∙ inv.mode) (λ h. f.same h ∙ inv.same
    (f.call.clean h)) c.in_err-settle.ensures.call c.in_err-settle.ensures.served (search rules)

pub returns-in_err-part-clause-access : goal.returns-in_err-part-clause-access
returns-in_err-part-clause-access g c =
    let ls = labels_of c.args.policy.now in
    let label = c.args.label in
    avoids_then c.loop-number.invariant.access
    (at_reads_low ls label c.new-class.result (and_parts (below ls c.args.key_class c.new-class.result)
    (below ls c.new-class.result label) (sym c.if-not-is_between.ensures)).1 c.in_err-part.ensures.access)

pub returns-in_err-settle-clause-access : goal.returns-in_err-settle-clause-access
returns-in_err-settle-clause-access g c =
    let ls = labels_of c.args.policy.now in
    let label = c.args.label in
    avoids_then (avoids_then c.loop-number.invariant.access
    (at_reads_low ls label c.new-class.result (and_parts (below ls c.args.key_class c.new-class.result)
    (below ls c.new-class.result label) (sym c.if-not-is_between.ensures)).1 c.in_ok-part.ensures.access))
    (avoids_some c.in_err-settle.ensures.access)
