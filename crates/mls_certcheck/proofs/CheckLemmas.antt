-- What the checker's answer says.
use Rattle.std.proofs.Common.{◌≡◌, ℕ, zero, suc, ◌+◌, ◌<◌, Bool, true, false, cond, ◌&&◌, List, [], ◌∷◌, drop, Some, Result, Ok, Err, refl, sym, ap, ◌∙◌, arith, ◌↔◌, IfOk, option_map, slice_get, flat_map}
use Rattle.std.specs.List.{list_all}
use Rattle.mls_lattice.specs.Labels.{AreDistinct}
use Rattle.mls_lattice.specs.Policy.{Name, Policy, labels_of}
use Rattle.mls_translang.specs.declared.tx.Parameter.{Parameter}
use Rattle.mls_translang.specs.Tx.{Tx}
use Rattle.mls_certcheck.specs.Secure.{Secure}
use Rattle.mls_certcheck.specs.Sharp.{Sharp}
use Rattle.mls_certcheck.specs.declared.cert.Certificate.{Certificate}
use Rattle.mls_certcheck.specs.Lines.{by, within_ends}
use Rattle.mls_certcheck.specs.Rules.{Claim, Rules, claim}
use Rattle.mls_certcheck.specs.Checks.{holds, verdict, unless, all_below, First}
use Rattle.mls_certcheck.specs.Walk.{Says}
use Rattle.mls_certcheck.specs.declared.flow.Slot.TheVariants.{Statement}
use Rattle.mls_certcheck.specs.declared.flow.Source.TheVariants.{Held, Declared}
use Rattle.mls_certcheck.specs.declared.flow.Flow.TheVariants.{Within, Under}
use Rattle.mls_certcheck.specs.declared.refusal.Refusal.{Refusal}
use Rattle.mls_certcheck.specs.declared.refusal.Rule.{Rule}
use Rattle.mls_certcheck.proofs.RulesLemmas.{rules_from_first, first_from_rules}
use Rattle.mls_certcheck.specs.Visited.{verdict_err, verdict_ok}
use Rattle.mls_certcheck.proofs.LawLemmas.{secure_rules, sharp_rules}

-- Ok exactly where the rules hold
pub says_rules : (c : Claim) (r : Result (Unit {0}) Refusal) → Says r (First c) → r ≡ Ok tt ↔ Rules c
says_rules c (Ok u) h = (λ k. rules_from_first c h, λ rules. refl)
says_rules c (Err e) h = (λ k. absurd cc, λ rules. absurd (let holds = first_from_rules c rules in cc))

-- what is accepted is secure
pub says_secure : (policy : Policy) → AreDistinct (labels_of policy) → (tx : Tx) (cert : Certificate)
    (r : Result (Unit {0}) Refusal) → Says r (First (claim policy tx cert)) → IfOk r (λ _. Secure policy tx)
says_secure policy distinct tx cert (Ok u) h = secure_rules policy distinct tx cert
    (rules_from_first (claim policy tx cert) h)
says_secure policy distinct tx cert (Err e) h = tt

-- and tells by releases alone of what may not be read
pub says_sharp : (policy : Policy) → AreDistinct (labels_of policy) → (tx : Tx) (cert : Certificate)
    (r : Result (Unit {0}) Refusal) → Says r (First (claim policy tx cert)) → IfOk r (λ _. Sharp policy tx cert)
says_sharp policy distinct tx cert (Ok u) h = sharp_rules policy distinct tx cert
    (rules_from_first (claim policy tx cert) h)
says_sharp policy distinct tx cert (Err e) h = tt

pub ruleset verdict_more = (verdict_err, verdict_ok)

-- ---- a loop over parameters

param_step : (p : Parameter → Bool) (ps : List (Name × Parameter)) (i : ℕ) (x : Parameter)
    → option_map (λ q. q.1) (slice_get ps i) ≡ Some x → list_all (λ q. p q.1) (drop i ps)
    ≡ (p x && list_all (λ q. p q.1) (drop (i + 1) ps))
param_step p [] i x h = absurd cc
param_step p (q ∷ ps) zero x h = let e : q.1 ≡ x = cc in ap (λ (y : Parameter). p y && list_all (λ r. p r.1) ps) e
param_step p (q ∷ ps) (suc i) x h =
    let next : suc (i + 1) ≡ suc i + 1 = omega arith in
    param_step p ps i x h ∙ ap (λ (k : ℕ). p x && list_all (λ r. p r.1) (drop k (q ∷ ps))) next

module _ (p : Parameter → Bool) (ps : List (Name × Parameter)) (i : ℕ) (x : Parameter) (all b : Bool)
    (got : option_map (λ q. q.1) (slice_get ps i) ≡ Some x) (rest : list_all (λ q. p q.1) (drop i ps) ≡ all) (test : b
    ≡ p x) where
  split : all ≡ (b && list_all (λ q. p q.1) (drop (i + 1) ps))
  split = sym rest ∙ param_step p ps i x got ∙ ap (λ (t : Bool). t && list_all (λ q. p q.1) (drop (i + 1) ps))
      (sym test)

  pub param_false : b ≡ false → false ≡ all
  param_false h = sym (split ∙ ap (λ (t : Bool). t && list_all (λ q. p q.1) (drop (i + 1) ps)) h)

  pub param_more : b ≡ true → list_all (λ q. p q.1) (drop (i + 1) ps) ≡ all
  param_more h = sym (split ∙ ap (λ (t : Bool). t && list_all (λ q. p q.1) (drop (i + 1) ps)) h)

-- ---- a loop over numbers

pub below_fails : (n : ℕ) (p : ℕ → Bool) (i : ℕ) → i < n → p i ≡ false → all_below n p ≡ false
below_fails zero p i within fails = absurd (omega (arith, within))
below_fails (suc n) p i within fails =
    let earlier : i < n → all_below n p ≡ false = λ lt. below_fails n p i lt fails in
    let last : i ≡ n → p n ≡ false = λ e. ap p (sym e) ∙ fails in
    grind (arith, earlier, last, within)

-- ---- the lines of parameters

pub parameters_told : (c : Claim) (r : Rule) (ps : List (Name × Parameter))
    → verdict c (by 0 r (flat_map (λ p. within_ends p.1.label) ps))
    ≡ unless (list_all (λ p. list_all (holds c) (within_ends p.1.label)) ps) 0 r
parameters_told c r [] = refl
parameters_told c r (p ∷ ps) =
    let more : verdict c (by 0 r (flat_map (λ p. within_ends p.1.label) ps))
    ≡ unless (list_all (λ p. list_all (holds c) (within_ends p.1.label)) ps) 0 r = parameters_told c r ps in
    told (holds c (Within p.1.label (Held (Statement 0) ∷ []))) (holds c (Under (Declared p.1.label ∷ []))) _
    (list_all (λ p. list_all (holds c) (within_ends p.1.label)) ps) more
  where
    told : (a b : Bool) (m : Result (Unit {0}) Refusal) (d : Bool) → m ≡ unless d 0 r
        → cond a (cond b m (Err (record { stmt = 0; rule = r }))) (Err (record { stmt = 0; rule = r }))
        ≡ unless ((a && (b && true)) && d) 0 r
    told true true m d h = h
    told true false m d h = refl
    told false b m d h = refl
