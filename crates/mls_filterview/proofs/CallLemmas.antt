-- Calls over a base, one after another.
use Rattle.std.proofs.Common.{◌≡◌, ◌≤◌, arith, Result, Err, refl, sym, ap, ◌∙◌, subst}
use Rattle.mls_filterview.specs.Content.{Seen, after}
use Rattle.mls_filterview.specs.Calls.{begun_after, IsCall, IsRead, IsServed}
use Rattle.mls_filterview.specs.declared.base.BaseFault.{BaseFault}

module _ {Self : Type 0} (seen : Self → Seen) where
  -- a fault after steps that leave what it goes back to
  pub fault_after : {A C : Type 0} (old mid new : Self) (e : BaseFault) (r : Result C BaseFault)
      → ((seen mid).is_clean → (seen old).is_clean) → ((seen mid).is_clean → (seen mid).about ≡ (seen old).about)
      → (seen old).failures ≤ (seen mid).failures → (seen mid).state.begun ≡ (seen old).state.begun
      → ((seen mid).is_clean → after e (seen mid).state ≡ after e (seen old).state)
      → IsCall seen {A = A} mid new (Err e) → IsServed e → r ≡ Err e → IsCall seen old new r
  fault_after {A} {C} old mid new e r clean about count mode back last served is =
      let n = last.count in
      subst (IsCall seen old new) (sym is) (record {
        clean = λ h. clean (last.clean h);
        about = λ h. last.about h ∙ about (last.clean h);
        count = omega (arith, count, n);
        fault = record {
          store = λ h. (let s = last.fault.store h in omega (arith, count, s));
          not_begun = λ h. absurd (served.0 h);
          begun = λ h. absurd (served.1 h);
          mode = last.fault.mode ∙ ap (begun_after e) mode;
          content = λ h. last.fault.content h ∙ back (last.clean h);
        };
      })

  -- after steps that changed nothing
  pub fault_after_reads : {A C : Type 0} (old mid new : Self) (e : BaseFault) (r : Result C BaseFault)
      → ((seen mid).is_clean → (seen old).is_clean) → ((seen mid).is_clean → (seen mid).about ≡ (seen old).about)
      → (seen old).failures ≤ (seen mid).failures → (seen mid).state.begun ≡ (seen old).state.begun
      → ((seen mid).is_clean → (seen mid).state ≡ (seen old).state) → IsCall seen {A = A} mid new (Err e) → IsServed e
      → r ≡ Err e → IsCall seen old new r
  fault_after_reads old mid new e r clean about count mode same last served is =
      fault_after old mid new e r clean about count mode (λ h. ap (after e) (same h)) last served is

  -- such a fault is one of a read
  pub fault_read : {A C : Type 0} (old mid new : Self) (e : BaseFault) (r : Result C BaseFault)
      → ((seen mid).is_clean → (seen old).is_clean) → ((seen mid).is_clean → (seen mid).about ≡ (seen old).about)
      → (seen old).failures ≤ (seen mid).failures → (seen mid).state.begun ≡ (seen old).state.begun
      → ((seen mid).is_clean → (seen mid).state ≡ (seen old).state) → IsCall seen {A = A} mid new (Err e) → IsServed e
      → r ≡ Err e → IsRead seen old new r
  fault_read old mid new e r clean about count mode same last served is =
      subst (IsRead seen old new) (sym is)
      (record {
        call = fault_after_reads old mid new e (Err e) clean about count mode same last served refl;
        served = served;
        mode = tt;
        same = λ h. tt;
      })
