-- What runs leave of an engine and of its base, put together.
use Rattle.std.proofs.Common.{◌≡◌, ℕ, ◌<◌, ◌≤◌, Result, Ok, Err, IfErr, refl, sym, ap, ◌∙◌, subst, arith, IsErrAnd}
use Rattle.mls_filterview.specs.Content.{Seen}
use Rattle.mls_certcheck.specs.Site.{Site}
use Rattle.mls_translang.specs.declared.run_fault.RunCause.TheVariants.{Store, Memory}
use Rattle.mls_translang.specs.declared.run_fault.RunFault.{RunFault}
use Rattle.mls_sessions.specs.declared.engine.Engine.{Engine}
use Rattle.mls_sessions.specs.Engine.{site, world_of, IsAtRest, IsEngineReady, IsKept, Continues, Leaves}
use Rattle.mls_sessions.specs.Sessions.{site_of_run, sessions_of}
use Rattle.mls_sessions.specs.World.{world_at}

-- an error that is passed on
pub carried : {A F : Type 0} (P : Result A F → Type 0) (r : Result A F) (f : F) → IsErrAnd r (λ e. e ≡ f) → P (Err f)
    → P r
carried P (Ok a) f h p = absurd h
carried P (Err e) f h p = subst (λ x. P (Err x)) (sym h) p

least : {a b c : ℕ} → a ≤ b → b ≤ c → a ≤ c
least h k = omega arith

less : {a b c : ℕ} → a ≤ b → b < c → a < c
less h k = omega arith

module _ {B : Type 0} (seen : B → Seen) where
  abbrev Goes : {A : Type 0} → Engine B → Engine B → Result A RunFault → Type 0
  Goes = Continues seen

  -- up to here all went well
  abbrev pub WentWell : Engine B → Engine B → Type 0
  WentWell old now = let all : Result (Unit {0}) RunFault = Ok tt in Goes old now all

  -- nothing was done
  pub goes_nowhere : {A : Type 0} (e : Engine B) → IsEngineReady seen e → (r : Result A RunFault)
      → IfErr r (λ f. f.cause ≡ Store → ⊥) → Goes e e r
  goes_nowhere e ready (Ok a) h = record {
    clean = λ c. c;
    about = λ c. refl;
    count = omega arith;
    kept =
        record { site = refl; ready = ready };
    store = λ c. tt;
  }
  goes_nowhere e ready (Err f) h = record {
    clean = λ c. c;
    about = λ c. refl;
    count = omega arith;
    kept =
        record { site = refl; ready = ready };
    store = λ c is. absurd (h is);
  }

  -- the first of it stopped
  pub goes_first : {A C : Type 0} (a b : Engine B) (f : RunFault) → Goes {A = A} a b (Err f) → Goes {A = C} a b (Err f)
  goes_first a b f h = record { clean = h.clean; about = h.about; count = h.count; kept = h.kept; store = h.store }

  -- all is done, or memory stops it
  module _ {A C : Type 0} (a b : Engine B) (x : A) (h : Goes a b (Ok x)) where
    pub goes_well : (y : C) → Goes a b (Ok y)
    goes_well y = record { clean = h.clean; about = h.about; count = h.count; kept = h.kept; store = λ is. tt }

    pub worn_frame : (f : RunFault) → f.cause ≡ Memory → Goes {A = C} a b (Err f)
    worn_frame f memory = record {
      clean = h.clean;
      about = h.about;
      count = h.count;
      kept = h.kept;
      store =
          λ is store. absurd (let e : Memory ≡ Store = sym memory ∙ store in cc);
    }

  module _ {A C D : Type 0} (a b c : Engine B) (x : A) (h : Goes a b (Ok x)) where
    -- all is done, or the last of it stopped
    pub goes_on : (y : C) (z : D) → Goes b c (Ok y) → Goes a c (Ok z)
    goes_on y z k = record {
      clean = λ is. h.clean (k.clean is);
      about = λ is. k.about is ∙ h.about (k.clean is);
      count = least h.count k.count;
      kept = record { site = k.kept.site ∙ h.kept.site; ready = k.kept.ready };
      store = λ is. tt;
    }

    pub goes_to : (f : RunFault) → Goes {A = C} b c (Err f) → Goes {A = D} a c (Err f)
    goes_to f k = record {
      clean = λ is. h.clean (k.clean is);
      about = λ is. k.about is ∙ h.about (k.clean is);
      count = least h.count k.count;
      kept = record { site = k.kept.site ∙ h.kept.site; ready = k.kept.ready };
      store = λ is s. less h.count (k.store is s);
    }

  -- a base is given back
  pub left_behind : {A : Type 0} (base : B) (old new : Engine B) (left : B) (r : Result A RunFault) → old.base ≡ base
      → left ≡ new.base → Goes old new r → Leaves seen base left r
  left_behind base old new left r from to h =
      subst (λ b. Leaves seen base b r) (sym to) (subst (λ b. Leaves seen b new.base r) from
      (record { clean = h.clean; about = h.about; idle = h.kept.ready.rest.idle; count = h.count; store = h.store }))

  -- at the site that it kept to, the base is at rest, and the world is the one that the engine held
  pub record GivesBack (at : Site) (new : Engine B) (left : B) : Type 0 where
    pub rest : IsAtRest seen at.policy at.schemes left
    pub world : world_of seen new ≡ world_at at (sessions_of new.sessions.items) (seen left).state.now

  pub given_back : (at : Site) (first new : Engine B) (left : B) → site first ≡ at → IsKept seen first new
      → left ≡ new.base → GivesBack at new left
  given_back at first new left from kept to =
      let same : site new ≡ at = ap site_of_run kept.site ∙ from in
      record {
        rest = subst (IsAtRest seen at.policy at.schemes) (sym to)
            (subst (λ (x : Site). IsAtRest seen x.policy x.schemes new.base) same kept.ready.rest);
        world = λ i. world_at (same i) (sessions_of new.sessions.items) (seen (sym to i)).state.now;
      }
