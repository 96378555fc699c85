-- The checker's answer to lines, one list after another.
use Rattle.std.specs.Prelude.{◌≡◌, true, false, cond, List, [], ◌∷◌, ◌++◌, Result, Ok, Err, refl}
use Rattle.std.proofs.Common.{sym, ap, ◌∙◌, subst}
use Rattle.mls_lattice.specs.Reading.{◌>>=◌}
use Rattle.mls_certcheck.specs.Lines.{Line}
use Rattle.mls_certcheck.specs.Rules.{Claim}
use Rattle.mls_certcheck.specs.Checks.{holds, verdict}
use Rattle.mls_certcheck.specs.Walk.{claim_of, Says, Checked}
use Rattle.mls_certcheck.specs.declared.checker.Checker.{Checker}
use Rattle.mls_certcheck.specs.declared.refusal.Refusal.{Refusal}

verdict-append : (c : Claim) (ls ms : List Line) → verdict c (ls ++ ms) ≡ (verdict c ls >>= λ _. verdict c ms)
verdict-append c [] ms = refl
verdict-append c (l ∷ ls) ms =
    let more : verdict c (ls ++ ms) ≡ (verdict c ls >>= λ _. verdict c ms) = verdict-append c ls ms in
    elim (holds c l.flow) as (λ b. cond b (verdict c (ls ++ ms)) (Err l.refusal)
    ≡ (cond b (verdict c ls) (Err l.refusal) >>= λ _. verdict c ms)) [ true ↦ more | false ↦ refl ]

pub verdict_err : (c : Claim) (ls ms : List Line) (e : Refusal) → verdict c ls ≡ Err e → verdict c (ls ++ ms) ≡ Err e
verdict_err c ls ms e h = verdict-append c ls ms ∙ ap (λ (r : Result (Unit {0}) Refusal). r >>= λ _. verdict c ms) h

pub verdict_ok : (c : Claim) (ls ms : List Line) → verdict c ls ≡ Ok tt → verdict c (ls ++ ms) ≡ verdict c ms
verdict_ok c ls ms h = verdict-append c ls ms ∙ ap (λ (r : Result (Unit {0}) Refusal). r >>= λ _. verdict c ms) h

-- nothing, two lists, and what came before another
pub checked_none : (k : Checker) → Checked k [] (Ok tt) k
checked_none k = (refl, refl)

pub checked_more : (k m o : Checker) (ls ms : List Line) (r : Result (Unit {0}) Refusal) → Checked k ls (Ok tt) m
    → Checked m ms r o → Checked k (ls ++ ms) r o
checked_more k m o ls ms r h t =
    (t.0 ∙ h.0, subst (Says r) (ap (λ c. verdict c ms) h.0 ∙ sym (verdict_ok (claim_of k) ls ms h.1)) t.1)

pub checked_stops : (k m : Checker) (ls ms : List Line) (e : Refusal) → Checked k ls (Err e) m
    → Checked k (ls ++ ms) (Err e) m
checked_stops k m ls ms e h = (h.0, verdict_err (claim_of k) ls ms e h.1)
