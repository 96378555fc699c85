-- Audit lists that are turned over stores.
use Rattle.std.proofs.Common.{◌≡◌, ◌≢◌, ℕ, nat_eq, eqb-true, arith, Bool, length, ◌&&◌, true, false, true≢false, List, [], ◌∷◌, ◌++◌, Option, Some, None, Result, Ok, Err, refl, sym, subst, Bor}
use Rattle.mls_lattice.specs.Policy.{labels_of}
use Rattle.mls_filterview.specs.Content.{Content, no_content}
use Rattle.mls_audit.specs.Sound.{IsSoundContent}
use Rattle.mls_audit.proofs.SoundLemmas.{nothing_sound}
use Rattle.mls_translang.specs.declared.run_fault.RunFault.{RunFault}
use Rattle.mls_sessions.specs.Turning.{IsTurned, list_text}
use Rattle.mls_host.specs.declared.job.Setting.{Setting}
use Rattle.mls_host.specs.declared.reason.Reason.{Reason}
use Rattle.mls_host.specs.declared.stop.Stop.{Stop}
use Rattle.mls_host.specs.Hosting.{Hosted}
use Rattle.mls_host.specs.Stop.{IsEnd}
use Rattle.mls_host.specs.Words.{named}
use Rattle.mls_machine.proofs.HistoryLemmas.{turned_alike, turned_lines}
use Rattle.mls_runs.specs.History.{world_of}
use Rattle.mls_runs.specs.TurnRun.{IsTurning, IsTurnRun}

-- no bytes are shown, or some
pub none_there : (Shows : List ℕ → List ℕ → Type 0) (log db : List ℕ) → Shows log db
    → (nat_eq (length log) 0 && nat_eq (length db) 0) ≡ true → Shows [] []
none_there Shows [] [] h is = h
none_there Shows [] (x ∷ db) h is = absurd (let e = eqb-true _ _ is in omega arith)
none_there Shows (x ∷ log) db h is = absurd (let e = eqb-true _ _ (and_first (nat_eq (length (x ∷ log)) 0)
    (nat_eq (length db) 0) is) in omega arith)
  where
    and_first : (a b : Bool) → (a && b) ≡ true → a ≡ true
    and_first true b h = refl
    and_first false b h = h

pub some_there : (log db : List ℕ) → (nat_eq (length log) 0 && nat_eq (length db) 0) ≡ false → log ++ db ≢ []
some_there [] [] is = λ none. true≢false is
some_there [] (x ∷ db) is = λ none. cc
some_there (x ∷ log) db is = λ none. cc

module _ (setting : Setting) (Wrote : List ℕ → Type 0) where
  -- what is left is content, as what was there
  turned_sound : (first left : Content) (end : Result (Unit {0}) RunFault)
      → IsTurned setting.policy setting.reader Wrote first left end
      → IsSoundContent setting.policy setting.file.schemes first
      → IsSoundContent setting.policy setting.file.schemes left
  turned_sound first left (Ok u) k h = subst (IsSoundContent setting.policy setting.file.schemes) (sym k.1)
      (record { content = h.content; entries = tt })
  turned_sound first left (Err fault) k h = subst (IsSoundContent setting.policy setting.file.schemes) (sym k.same) h

  pub turning : (first left : Content) (end : Result (Unit {0}) RunFault)
      → IsTurned setting.policy setting.reader Wrote first left end
      → IsSoundContent setting.policy setting.file.schemes first → IsTurning setting Wrote end first left
  turning first left end k h = record {
    list = k;
    sound = turned_sound first left end k h;
    secret = λ c w a. (
      turned_lines setting.policy (labels_of setting.policy) c (world_of setting.policy first) w a,
      turned_alike (labels_of setting.policy) c (world_of setting.policy first) w a,
    );
  }

  module _ (h : Hosted) (Nothing : Option (List ℕ) → Reason → Type 0) where
    abbrev Turns : Option (List ℕ) → Result (Unit {0}) RunFault → Type 0
    Turns store end = IsTurnRun setting Wrote end h store

    -- without a store there is no entry
    none_shown : (reader : Option ℕ) → list_text setting.policy reader no_content ≡ []
    none_shown None = refl
    none_shown (Some c) = refl

    pub no_list : (store : Option (Bor (List ℕ))) → store ≡ None → Wrote []
        → IsEnd (Turns (named store)) (Nothing (named store)) (Ok tt)
    no_list store is wrote =
        let written : Wrote (list_text setting.policy setting.reader no_content) =
        subst Wrote (sym (none_shown setting.reader)) wrote in
        let sound : IsSoundContent setting.policy setting.file.schemes no_content =
        nothing_sound setting.policy setting.file.schemes in
        subst (λ (s : Option (Bor (List ℕ))). IsEnd (Turns (named s)) (Nothing (named s)) (Ok tt)) (sym is)
        (record {
          there = tt;
          turned = λ clean. record {
            first = no_content;
            left = no_content;
            begins = refl;
            kept =
                tt;
            leads = turning no_content no_content (Ok tt) (written, refl) sound;
          };
          access = tt;
        })

    pub at_store : (store : Option (Bor (List ℕ))) (path : Bor (List ℕ)) → store ≡ Some path
        → (r : Result (Unit {0}) Stop) → IsEnd (Turns (Some path.now)) (Nothing (Some path.now)) r
        → IsEnd (Turns (named store)) (Nothing (named store)) r
    at_store store path is r k = subst (λ (s : Option (Bor (List ℕ))). IsEnd (Turns (named s)) (Nothing (named s)) r)
        (sym is) k
