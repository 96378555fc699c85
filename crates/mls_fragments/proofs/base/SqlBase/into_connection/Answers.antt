use Rattle.std.proofs.Common.{refl, sym, subst}
use Rattle.sqlite.specs.Held.{state}
use Rattle.mls_tables.specs.Store.{IsClean}
use Rattle.mls_tables.specs.declared.rows.MetaRow.{MetaRow}
use Rattle.mls_fragments.specs.Based.{BaseState, base_state, HasRow, state_of}
use Rattle.mls_fragments.specs.Holdings.{HasHoldings, HaveHoldings, four_tables, holdings_of}
use Rattle.mls_fragments.proofs.base.SqlBase.into_connection.Goals as goal

pub returns-clause-row : goal.returns-clause-row
returns-clause-row g c =
    let inside = base_state c.self.inside.store c.self.inside.now c.self.inside.kept in
    subst (λ (b : BaseState). IsClean b.tables → (row : MetaRow) × HasRow b row) c.self.view_is
    (λ clean. let noted = c.self.invariant.now clean in (
      noted.meta.row,
      record {
        described = noted.meta;
        meta = refl;
        holds = noted.holds;
      },
    ))

pub returns-clause-held : goal.returns-clause-held
returns-clause-held g c disk on =
    let inside = base_state c.self.inside.store c.self.inside.now c.self.inside.kept in
    let rows = c.into_connection.ensures.rows disk on in
    let db = (state g.S.Store c.into_connection.result).now in
    subst (λ (b : BaseState). (row : MetaRow) → HasRow b row
    → HasHoldings db (holdings_of row (state_of b).now)) c.self.view_is
    (λ row has. four_tables rows.0.0 rows.0.1.1.1.1 (subst (λ t. HaveHoldings t (holdings_of row (state_of inside).now))
    (sym rows.1) has))
