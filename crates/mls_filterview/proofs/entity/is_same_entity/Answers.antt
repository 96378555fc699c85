use Rattle.std.proofs.Common.{sym, ◌∙◌, eqb-true, eq-eqb, true≢false}
use Rattle.mls_filterview.proofs.EntityTests.{key_decides, class_decides}
use Rattle.mls_filterview.proofs.entity.is_same_entity.Goals as goal

pub returns-then-eq : goal.returns-then-eq
returns-then-eq c = key_decides c.same_key.result (eqb-true _ _ (sym c.if-eq.ensures)) c.same_key.ensures

pub returns-else-eq : goal.returns-else-eq
returns-else-eq c = class_decides _ c.if-eq.false (λ h. true≢false (sym (eq-eqb _ _ h) ∙ sym c.if-eq.ensures))
