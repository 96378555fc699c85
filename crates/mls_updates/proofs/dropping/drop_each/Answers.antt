use Rattle.std.proofs.Common.{ℕ, List, ◌+◌, drop, sym, ap, ◌∙◌, subst, arith}
use Rattle.std.specs.FinMap.{remove}
use Rattle.mls_scheme.specs.declared.place.Place.{Place}
use Rattle.mls_scheme.specs.Table.{Table}
use Rattle.mls_updates.specs.Steps.{drop_each}
use Rattle.mls_updates.proofs.DropLemmas.{drop_next, alone_now, alone_next}
use Rattle.mls_updates.proofs.StateLemmas.{next_step, last_step, table_of, drop_end}
use Rattle.mls_filterview.specs.View.{IsAmong}
use Rattle.mls_filterview.proofs.AmongLemmas.{among_here}
use Rattle.mls_filterview.proofs.AccessLemmas.{avoids_then, at_changes_among}
use Rattle.mls_updates.proofs.dropping.drop_each.Goals as goal

pub drop_one-requires-clause-alone : goal.drop_one-requires-clause-alone
drop_one-requires-clause-alone g c = λ clean.
    alone_now c.args.place _ c.args.classes.now c.loop-class.class-index _ c.loop-class-test.true c.loop-class.invariant.key c.loop-class.invariant.key_class c.class-item.is _ (c.loop-class.invariant.alone clean)

pub loop-class-preserved : goal.loop-class-preserved
loop-class-preserved g c =
    let t = (g.B.Base.seen c.loop-class.base).state in
    let u = (g.B.Base.seen c.drop_one.new.base).state in
    let T = t.now.db c.args.relation in
    let inv = c.loop-class.invariant in
    let q : Place = record {
      key = c.loop-class.place.key;
      key_class = c.loop-class.place.key_class;
      class =
          c.class-item.result;
    } in
    let rest : List ℕ → Table → Table = λ ks S. drop_each c.args.place ks S in
    record {
      clean = λ h. inv.clean (c.in_ok-drop_one.ensures.step.call.clean h);
      about = λ h. c.in_ok-drop_one.ensures.step.call.about h ∙ inv.about (c.in_ok-drop_one.ensures.step.call.clean h);
      access = avoids_then inv.access (at_changes_among _ c.args.classes.now (subst (λ m. IsAmong m c.args.classes.now)
          (sym c.class-item.is) (among_here c.args.classes.now c.loop-class.class-index c.class-item.result c.loop-class-test.true)) c.in_ok-drop_one.ensures.access);
      count = (let a = inv.count in let b = c.in_ok-drop_one.ensures.step.call.count in omega (arith, a, b));
      begun = c.in_ok-drop_one.ensures.step.mode;
      key = inv.key;
      key_class = inv.key_class;
      alone = λ h. (let e = c.in_ok-drop_one.ensures.done h in
          alone_next c.args.place q c.args.classes.now c.loop-class.class-index _ c.loop-class-test.true inv.key inv.key_class c.class-item.is T (u.now.db c.args.relation)
          (ap (λ s. s.now.db c.args.relation) e ∙ table_of t c.args.relation (remove T q))
          (inv.alone (c.in_ok-drop_one.ensures.step.call.clean h)));
      way = λ h. (let e = c.in_ok-drop_one.ensures.done h in
          next_step c.args.relation t u _ (rest (drop c.loop-class.class-index c.args.classes.now))
          (rest (drop (c.loop-class.class-index + 1) c.args.classes.now)) (remove T q)
          (inv.way (c.in_ok-drop_one.ensures.step.call.clean h))
          (drop_next c.args.place q c.args.classes.now c.loop-class.class-index _ c.loop-class-test.true inv.key inv.key_class c.class-item.is T) e);
    }

pub returns-clause-done : goal.returns-clause-done
returns-clause-done g c = λ clean.
    let t = (g.B.Base.seen c.loop-class.base).state in
    last_step c.args.relation t _ (drop_each c.args.place (drop c.loop-class.class-index c.args.classes.now))
    (c.loop-class.invariant.way clean)
    (ap (λ ks. drop_each c.args.place ks (t.now.db c.args.relation))
    (drop_end c.args.classes.now c.loop-class.class-index c.loop-class-test.false))

pub returns-in_err-drop_one-clause-access : goal.returns-in_err-drop_one-clause-access
returns-in_err-drop_one-clause-access g c =
    avoids_then c.loop-class.invariant.access (at_changes_among _ c.args.classes.now
    (subst (λ m. IsAmong m c.args.classes.now) (sym c.class-item.is)
    (among_here c.args.classes.now c.loop-class.class-index c.class-item.result c.loop-class-test.true)) c.in_err-drop_one.ensures.access)
