use Rattle.std.proofs.Common.{◌≡◌, ◌∷◌, map, sym, subst, rules}
use Rattle.mls_tables.specs.declared.adopting.AllRows.{AllRows}
use Rattle.mls_rows.specs.Changes.{content_of}
use Rattle.mls_rows.specs.Changes.Change.{Joins}
use Rattle.mls_fragments.specs.Parts.{IsJudged, rows_in}
use Rattle.mls_fragments.proofs.JudgingLemmas.{IsUnderWay, begins, goes_on, refused, ends, refused_last}
use Rattle.mls_fragments.proofs.judging.judge_rows.Goals as goal

pub parts-init : goal.parts-init
parts-init c =
    let a = c.args in
    subst (λ changes. IsUnderWay a.design.now.policy.now a.design.now.file.now.schemes a.labels a.nodes.items a.cells.items a.entries.now a.nodes.items a.cells.items (content_of changes)) (sym c.find.ensures)
    (begins a.design.now.policy.now a.design.now.file.now.schemes a.labels a.nodes.items a.cells.items a.entries.now c.requires.order.0 c.requires.order.1 c.requires.entries)

pub parts-preserved : goal.parts-preserved
parts-preserved c =
    let a = c.args in
    let f = c.in_ok-found.found in
    let before = c.parts.content.changes in
    let taken = c.in_ok-part.ensures.taken in
    let joined = subst (λ ts. c.join.new.self.changes ≡ Joins (map (λ t. t.entries) ts)
    ∷ before) c.deref.ensures.value c.join.ensures in
    subst (λ changes. IsUnderWay a.design.now.policy.now a.design.now.file.now.schemes a.labels a.nodes.items a.cells.items a.entries.now c.take_part.new.nodes.items c.take_part.new.cells.items (content_of changes)) (sym joined)
    (goes_on a.design.now.policy.now a.design.now.file.now.schemes a.labels a.nodes.items a.cells.items a.entries.now c.parts.nodes.items c.take_part.new.nodes.items c.parts.cells.items c.take_part.new.cells.items (content_of before) c.parts.invariant taken.0 c.in_ok-part.part
    taken.1 (map (λ t. t.entries) f.tables.items) f.entries c.in_ok-found.ensures.found.held c.in_ok-found.ensures.found.sound c.in_ok-part.ensures.nodes c.in_ok-part.ensures.cells)

pub returns-in_err-found-clause-only : goal.returns-in_err-found-clause-only
returns-in_err-found-clause-only c t nodes cells d holds sound =
    let a = c.args in
    let taken = c.in_ok-part.ensures.taken in
    let memory = refused a.design.now.policy.now a.design.now.file.now.schemes a.labels a.nodes.items a.cells.items a.entries.now c.parts.nodes.items c.take_part.new.nodes.items c.parts.cells.items c.take_part.new.cells.items (content_of c.parts.content.changes) c.parts.invariant taken.0 c.in_ok-part.part
    taken.1 _ c.in_err-found.ensures.only t nodes cells d holds sound in
    search rules

pub returns-clause-judged : goal.returns-clause-judged
returns-clause-judged c =
    let a = c.args in
    let f = c.in_ok-found-2.found in
    let before = c.parts.content.changes in
    let rest : AllRows = record { nodes = c.parts.nodes; cells = c.parts.cells; entries = c.new.result } in
    let joined = subst (λ ts. c.join-2.new.self.changes ≡ Joins (map (λ t. t.entries) ts)
    ∷ before) c.deref-2.ensures.value c.join-2.ensures in
    subst (λ changes. IsJudged a.design.now.policy.now a.design.now.file.now.schemes a.labels
    (rows_in a.nodes.items a.cells.items) a.entries.now (content_of changes)) (sym joined)
    (ends a.design.now.policy.now a.design.now.file.now.schemes a.labels a.nodes.items a.cells.items a.entries.now
    (content_of before) rest c.parts.invariant c.new.ensures.items
    (map (λ t. t.entries) f.tables.items) f.entries c.in_ok-found-2.ensures.found.held c.in_ok-found-2.ensures.found.sound)

pub returns-in_err-found-2-clause-only : goal.returns-in_err-found-2-clause-only
returns-in_err-found-2-clause-only c t nodes cells d holds sound =
    let a = c.args in
    let rest : AllRows = record { nodes = c.parts.nodes; cells = c.parts.cells; entries = c.new.result } in
    let memory = refused_last a.design.now.policy.now a.design.now.file.now.schemes a.labels a.nodes.items a.cells.items a.entries.now (content_of c.parts.content.changes) rest c.parts.invariant c.new.ensures.items _ c.in_err-found-2.ensures.only t nodes cells d holds sound in
    search rules
