-- Steps inside a change, one after another.
use Rattle.std.proofs.Common.{◌≡◌, Bool, true, false, cond, [], Result, Ok, Err, refl, sym, ap, ◌∙◌, subst, arith, IfErr, OnOk}
use Rattle.mls_lattice.specs.Policy.{Policy}
use Rattle.mls_filterview.specs.declared.base.BaseFault.{BaseFault}
use Rattle.mls_filterview.specs.declared.base.BaseFault.TheVariants as faults
use Rattle.mls_filterview.specs.Calls.{IsCall, IsRead, IsServed}
use Rattle.mls_filterview.specs.Content.{Seen, Content, State, ended, failed, after}
use Rattle.mls_filterview.proofs.CallLemmas.{fault_after}
use Rattle.mls_queries.specs.Views.{Kept, AreViews}
use Rattle.mls_queries.proofs.WrittenLemmas.{kept_same}
use Rattle.mls_sessions.specs.Batches.{over}
use Rattle.mls_sessions.specs.Turns.{Steps}

-- ---- what a fault goes back to

failed_same : (m s : State) → m.begun ≡ true → s.begun ≡ true → m.kept ≡ s.kept → failed m ≡ failed s
failed_same m s a b k =
    ap (λ x. cond x (ended m) m) a ∙ ap (λ (c : Content). record { now = c; kept = c; begun = false }) k
    ∙ sym (ap (λ x. cond x (ended s) s) b)

same_after : (e : BaseFault) (m s : State) → IsServed e → m.begun ≡ true → s.begun ≡ true → m.kept ≡ s.kept
    → after e m ≡ after e s
same_after faults.Store m s served a b k = failed_same m s a b k
same_after faults.Memory m s served a b k = failed_same m s a b k
same_after faults.NotBegun m s served a b k = absurd (served.0 refl)
same_after faults.Begun m s served a b k = absurd (served.1 refl)

module _ {B : Type 0} (seen : B → Seen) where
  -- a change that is begun goes on
  abbrev pub GoesOn : B → B → Type 0
  GoesOn a b = Steps seen {A = Unit {0}} a b (Ok tt)

  pub goes_nowhere : (a : B) → (seen a).state.begun ≡ true → GoesOn a a
  goes_nowhere a begun = record {
    call = record { clean = λ h. h; about = λ h. refl; count = omega arith; fault = tt };
    served = tt;
    mode = begun;
    kept = λ h. refl;
  }

  -- a call behind others
  pub goes_then : {A : Type 0} (a b c : B) (r : Result A BaseFault) → (seen a).state.begun ≡ true → GoesOn a b
      → Steps seen b c r → Steps seen a c r
  goes_then a b c (Ok x) begun one two = record {
    call = record {
      clean = λ h. one.call.clean (two.call.clean h);
      about = λ h. two.call.about h ∙ one.call.about (two.call.clean h);
      count = (let n = one.call.count in let m = two.call.count in omega (arith, n, m));
      fault = tt;
    };
    served = tt;
    mode = two.mode;
    kept = λ h. two.kept h ∙ one.kept (two.call.clean h);
  }
  goes_then a b c (Err e) begun one two = record {
    call = fault_after seen a b c e (Err e) one.call.clean one.call.about one.call.count (one.mode ∙ sym begun)
        (λ h. same_after e (seen b).state (seen a).state two.served one.mode begun
        (one.kept h)) two.call two.served refl;
    served = two.served;
    mode = tt;
    kept = λ h. tt;
  }

  -- whatever it answers
  pub goes_well : {A C : Type 0} (a b : B) (x : A) (y : C) → Steps seen a b (Ok x) → Steps seen a b (Ok y)
  goes_well a b x y h = record {
    call = record { clean = h.call.clean; about = h.call.about; count = h.call.count; fault = tt };
    served = tt;
    mode = h.mode;
    kept = h.kept;
  }

  pub goes_on_by : {A : Type 0} (a b : B) (x : A) → Steps seen a b (Ok x) → GoesOn a b
  goes_on_by a b x h = record {
    call = record { clean = h.call.clean; about = h.call.about; count = h.call.count; fault = tt };
    served = tt;
    mode = h.mode;
    kept = h.kept;
  }

  pub goes_out : {C : Type 0} (a b : B) (y : C) → GoesOn a b → Steps seen a b (Ok y)
  goes_out a b y h = record {
    call = record { clean = h.call.clean; about = h.call.about; count = h.call.count; fault = tt };
    served = tt;
    mode = h.mode;
    kept = h.kept;
  }

  pub goes_back : {A C : Type 0} (a b : B) (e : BaseFault) (r : Result C BaseFault) → r ≡ Err e
      → Steps seen {A = A} a b (Err e) → Steps seen a b r
  goes_back a b e r is h = subst (Steps seen a b) (sym is) (record {
    call = record { clean = h.call.clean; about = h.call.about; count = h.call.count; fault = h.call.fault };
    served = h.served;
    mode = tt;
    kept = λ k. tt;
  })

  -- a call that reads
  pub read_goes : {A : Type 0} (a b : B) (r : Result A BaseFault) → (seen a).state.begun ≡ true → IsRead seen a b r
      → Steps seen a b r
  read_goes a b (Ok x) begun h = record {
    call = h.call;
    served = tt;
    mode = h.mode ∙ begun;
    kept = λ k. ap (λ (s : State). s.kept) (h.same k);
  }
  read_goes a b (Err e) begun h = record { call = h.call; served = h.served; mode = tt; kept = λ k. tt }

  -- what a call made for itself
  pub settled_goes : {A : Type 0} (a b : B) (r : Result A BaseFault) → (seen a).state.begun ≡ true
      → IsCall seen a b r → IfErr r IsServed → OnOk r (b ≡ a) → Steps seen a b r
  settled_goes a b (Ok x) begun call served same = record {
    call = call;
    served = tt;
    mode = ap (λ x. (seen x).state.begun) same ∙ begun;
    kept = λ k. ap (λ x. (seen x).state.kept) same;
  }
  settled_goes a b (Err e) begun call served same = record { call = call; served = served; mode = tt; kept = λ k. tt }

  -- ---- views at the end of a batch: none, where it is undone

  pub views_over : (policy : Policy) (a b : B) (undone : Bool) (es new : Kept)
      → ((seen b).is_clean → (seen a).is_clean) → ((seen b).is_clean → (seen b).state ≡ over undone (seen a).state)
      → AreViews policy seen a es → new ≡ cond undone [] es → AreViews policy seen b new
  views_over policy a b true es new back left views is =
      subst (AreViews policy seen b) (sym is) (record { most = omega arith; declared = tt; rows = λ h. tt })
  views_over policy a b false es new back left views is =
      subst (AreViews policy seen b) (sym is)
      (kept_same policy seen a b es back (λ h. ap (λ (s : State). s.now.db) (left h)) views)
