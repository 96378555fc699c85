use Rattle.std.proofs.Common.{ap, ◌∙◌, arith, rules}
use Rattle.std.proofs.lemmas.Grind.{common_steps}
use Rattle.sqlite.specs.Effect.{Database}
use Rattle.sqlite.specs.Held.{state}
use Rattle.sqlite.specs.State.{KeepsCommit}
use Rattle.mls_tables.proofs.CreationLemmas.{made_ready, stored}
use Rattle.mls_tables.proofs.EndLemmas.{nothing_added, nothing_kept}
use Rattle.mls_tables.proofs.statements.creation.create_store.Goals as goal

pub returns-clause-made : goal.returns-clause-made
returns-clause-made g c clean none =
    let added = c.commit.ensures.clean clean in
    let made = c.in_ok-add_meta.ensures.clean added in
    let begun = c.in_ok-begin.ensures.begun (c.in_ok-create_tables.ensures.clean made) in
    let tables = c.in_ok-create_tables.ensures.made made (ap (λ (db : Database). db.schema) begun.now ∙ none, tt) in
    let adds = c.in_ok-add_meta.ensures.done added
    (made_ready (state g.S.Store c.create_tables.new.conn).now tables.0).0 in
    stored (state g.S.Store c.create_tables.new.conn) (state g.S.Store c.add_meta.new.conn)
    (state g.S.Store c.commit.new.conn) c.args.version c.args.lattice.now c.args.schemes.now tables.0 adds c.commit.result (c.commit.ensures.committed clean)

pub returns-in_err-begin-clause-err : goal.returns-in_err-begin-clause-err
returns-in_err-begin-clause-err g c = grind (arith, common_steps)

pub returns-in_err-create_tables-clause-err : goal.returns-in_err-create_tables-clause-err
returns-in_err-create_tables-clause-err g c = grind (arith, common_steps)

pub returns-in_err-add_meta-clause-err : goal.returns-in_err-add_meta-clause-err
returns-in_err-add_meta-clause-err g c clean none =
    let old = state g.S.Store c.args.conn.now in
    let first = state g.S.Store c.begin.new.conn in
    let made = state g.S.Store c.create_tables.new.conn in
    let new = state g.S.Store c.add_meta.new.conn in
    let was = c.add_meta.ensures.clean clean in
    let begun = c.in_ok-begin.ensures.begun (c.in_ok-create_tables.ensures.clean was) in
    let tables = c.in_ok-create_tables.ensures.made was (ap (λ (db : Database). db.schema) begun.now ∙ none, tt) in
    let kept : KeepsCommit old new = nothing_added old first made new begun tables.1 (rw c.in_err-add_meta.was at
    (c.add_meta.ensures.err clean)) in
    search rules

pub returns-clause-err : goal.returns-clause-err
returns-clause-err g c clean none =
    let added = c.commit.ensures.clean clean in
    let made = c.in_ok-add_meta.ensures.clean added in
    let begun = c.in_ok-begin.ensures.begun (c.in_ok-create_tables.ensures.clean made) in
    let tables = c.in_ok-create_tables.ensures.made made (ap (λ (db : Database). db.schema) begun.now ∙ none, tt) in
    let adds = c.in_ok-add_meta.ensures.done added
    (made_ready (state g.S.Store c.create_tables.new.conn).now tables.0).0 in
    nothing_kept (state g.S.Store c.args.conn.now) (state g.S.Store c.begin.new.conn)
    (state g.S.Store c.create_tables.new.conn) (state g.S.Store c.add_meta.new.conn)
    (state g.S.Store c.commit.new.conn) c.commit.result
    begun tables.1 adds.next (c.commit.ensures.err clean)
