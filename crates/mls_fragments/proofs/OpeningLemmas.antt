-- What an open of files finds, and what an opening leaves of a connection.
use Rattle.std.proofs.Common.{◌≡◌, inl, inr, ◌∙◌, ap, refl, sym, subst, IsTrue, ◌≢◌, Option, Some, None, Result, Ok, Err, IfOk, IfErr, IfSome, IsErrAnd}
use Rattle.std.proofs.lemmas.List.Sorted.{IsPermutation-trans, IsPermutation-sym}
use Rattle.sqlite.specs.Files.{AreFoundIn}
use Rattle.sqlite.specs.Recovery.{Image}
use Rattle.sqlite.specs.State.{State, Opens, IsLive, HasCleanDisk}
use Rattle.sqlite.specs.Start.{FindsIn}
use Rattle.mls_lattice.specs.declared.failed.Failed.{Failed}
use Rattle.mls_lattice.specs.declared.failed.Failed.TheVariants as failed
use Rattle.mls_lattice.specs.Policy.{Policy}
use Rattle.mls_scheme.specs.declared.file.SchemesFile.{SchemesFile}
use Rattle.mls_filterview.specs.Content.{Content}
use Rattle.mls_tables.specs.declared.adopting.AdoptFault.{AdoptFault}
use Rattle.mls_tables.specs.declared.adopting.AdoptFault.TheVariants as adopt
use Rattle.mls_tables.specs.declared.adopting.AllRows.{AllRows}
use Rattle.mls_tables.specs.Adopting.{Blames, HasDescription, HasReadRows, IsAdopted, AreAll, IsDescribed}
use Rattle.mls_tables.specs.Rows.{Tables, tables_of}
use Rattle.mls_tables.specs.declared.rows.MetaRow.{MetaRow}
use Rattle.sqlite.specs.Effect.{Database}
use Rattle.mls_tables.specs.Store.{HasEnded}
use Rattle.mls_fragments.specs.declared.open_fault.OpenFault.{OpenFault}
use Rattle.mls_fragments.specs.declared.open_fault.OpenFault.TheVariants.{OtherPolicy, BadRows}
use Rattle.mls_rows.specs.declared.reading.BadRow.{BadRow}
use Rattle.mls_rows.specs.Finding.{IsMemory}
use Rattle.mls_rows.specs.declared.place.Where.{Where}
use Rattle.mls_rows.specs.Condemning.{node_cmp, cell_cmp, entry_cmp, Condemns}
use Rattle.mls_rows.proofs.SortedLemmas.{one_sorted}
use Rattle.mls_rows.proofs.RowOrderLemmas.{node_total, node_exact, cell_total, cell_exact, entry_total, entry_exact}
use Rattle.mls_fragments.specs.Creating.{IsBlankImage}
use Rattle.mls_fragments.specs.OpenFault.{adopting_fault, finding_fault}
use Rattle.mls_fragments.specs.Opening.{HoldsSound, IsFoundIn, IsRefused, IsStoreOrMemory, IsUnopened, IsUntaken, IsBad, not_described, not_sound, not_sound_before, AreBad, of_these, of_older, AreSorted, CondemnsRow}

-- a connection that has just been opened shows what was found
pub found_now : (start : Image) (s : State) → Opens s → IsLive s → ¬ IsBlankImage start → FindsIn start s
    → IsFoundIn start s.now
found_now start s opens live something finds = record {
  holds = λ trees held. ap (λ db. db.trees) opens.clean ∙ finds.holds trees held;
  reads = inr (something, subst (AreFoundIn start) (sym (ap (λ db. db.trees) opens.clean)) finds.reads);
  sound = (live opens.is_open).0;
}

-- ---- why

pub never_adopted : (f : AdoptFault) → adopting_fault f ≢ OtherPolicy
never_adopted adopt.Store e = absurd (cc)
never_adopted adopt.Memory e = absurd (cc)
never_adopted adopt.BadRows e = absurd (cc)

pub never_found : (f : Failed BadRow) → finding_fault f ≢ OtherPolicy
never_found (failed.Fault row) e = absurd (cc)
never_found failed.Memory e = absurd (cc)

adopted_bad : (f : AdoptFault) → adopting_fault f ≡ BadRows → f ≡ adopt.BadRows
adopted_bad adopt.Store e = absurd (cc)
adopted_bad adopt.Memory e = absurd (cc)
adopted_bad adopt.BadRows e = refl

-- a store that is not made fails, or memory runs out
pub not_other : (f : OpenFault) → IsStoreOrMemory f → f ≢ OtherPolicy
not_other f (inl a) b = absurd (let e = sym a ∙ b in cc)
not_other f (inr a) b = absurd (let e = sym a ∙ b in cc)

pub not_bad : (f : OpenFault) → IsStoreOrMemory f → f ≢ BadRows
not_bad f (inl a) b = absurd (let e = sym a ∙ b in cc)
not_bad f (inr a) b = absurd (let e = sym a ∙ b in cc)

-- ---- what is left

module _ (old new : State) where
  pub ended_refused : (HasCleanDisk new → HasCleanDisk old) → (HasCleanDisk new → HasEnded old new) → IsRefused old new
  ended_refused clean ended disk =
      let end = ended disk in
      record {
        clean = clean disk;
        mode = λ here. end.mode;
        was_open = end.was_open;
        committed =
            λ here. inl (end.committed here);
      }

  -- a store whose description is not read
  pub undescribed : (policy : Policy) (file : SchemesFile) (f : AdoptFault) (e : OpenFault)
      → (HasCleanDisk new → HasCleanDisk old) → (HasCleanDisk new → HasEnded old new)
      → (HasCleanDisk new → Blames (HasDescription old.now) f) → e ≡ adopting_fault f → IsUnopened policy file old new e
  undescribed policy file f e clean ended bad is = record {
    refused = ended_refused clean ended;
    texts = λ disk other. absurd (never_adopted f (sym is ∙ other));
    bad = λ disk rows. not_described (bad disk (adopted_bad f (sym is ∙ rows)));
  }

  -- a store whose rows are not read
  pub unread : (Sound : Content → Type 0) (f : AdoptFault) (e : OpenFault) → (HasCleanDisk new → HasCleanDisk old)
      → (HasCleanDisk new → HasEnded old new)
      → (HasCleanDisk new → Blames (HasReadRows old.now) f) → e ≡ adopting_fault f → IsUntaken Sound old new e
  unread Sound f e clean ended bad is = record {
    refused = ended_refused clean ended;
    texts = λ other. never_adopted f (sym is ∙ other);
    bad = λ disk rows sound. bad disk (adopted_bad f (sym is ∙ rows)) sound.0;
  }

  -- rows that hold nothing sound
  pub unfound : (Sound : Content → Type 0) (rows : AllRows) (f : Failed BadRow) (e : OpenFault)
      → (HasCleanDisk new → HasCleanDisk old) → (HasCleanDisk new → IsTrue old.is_open)
      → (HasCleanDisk new → IsAdopted old new rows) → e ≡ finding_fault f → (HasCleanDisk new → HoldsSound Sound old.now
      → f ≡ failed.Memory) → IsUntaken Sound old new e
  unfound Sound rows f e clean was_open adopted is memory = record {
    refused = λ disk. let read = adopted disk in record {
      clean = clean disk;
      mode = λ here. read.settled.mode;
      was_open = λ here. was_open disk;
      committed = λ here. inr (sym read.settled.settled ∙ read.same);
    };
    texts = λ other. never_found f (sym is ∙ other);
    bad = λ disk bad sound. absurd (let e = sym (ap finding_fault (memory disk sound)) ∙ (sym is ∙ bad) in cc);
  }

  -- what was read between was committed before
  pub read_refused : (mid : State) → (HasCleanDisk mid → HasCleanDisk old) → (HasCleanDisk mid → IsTrue old.is_open)
      → (HasCleanDisk mid → mid.now ≡ old.now) → (HasCleanDisk mid → mid.committed ≡ old.now)
      → IsRefused mid new → IsRefused old new
  read_refused mid clean was_open now committed refused disk = let back = refused disk in record {
    clean = clean back.clean;
    mode = back.mode;
    was_open = λ here. was_open back.clean;
    committed = λ here. inr (elim (back.committed here) [
      | inl a ↦ a ∙ committed back.clean
      | inr b ↦ b
          ∙ now back.clean
    ]);
  }

-- what is judged is bad where the judging stops, and not for want of memory
pub not_found : {A : Type 0} (r : Result A (Failed BadRow)) → IsErrAnd r (λ e. ¬ IsMemory e) → ¬ IfErr r IsMemory
not_found (Ok a) stopped memory = stopped
not_found (Err e) stopped memory = stopped memory

pub some_weaker : {A E : Type 0} {P Q : A → Type 0} (r : Result (Option A) E) → ((a : A) → P a → Q a)
    → IfOk r (λ o. IfSome o P) → IfOk r (λ o. IfSome o Q)
some_weaker (Ok None) f h = tt
some_weaker (Ok (Some a)) f h = f a h
some_weaker (Err e) f h = tt

-- what is said of an error that is no want of memory
pub at_error : {A P : Type 0} (r : Result A (Failed BadRow)) → IsErrAnd r (λ e. ¬ IsMemory e)
    → IfErr r (λ e. ¬ IsMemory e → P) → P
at_error (Ok a) stopped says = absurd stopped
at_error (Err e) stopped says = says stopped

-- the same rows in order, read again, are condemned alike
pub condemned_again : (policy : Policy) (file : SchemesFile) (m : MetaRow) (t : Tables) (one other : AllRows)
    (at : Where) → AreAll t one → AreAll t other → AreSorted one → AreSorted other
    → CondemnsRow policy file m one at → CondemnsRow policy file m other at
condemned_again policy file m t one other at all again sorted also c =
    let nodes = one_sorted node_cmp node_total node_exact one.nodes.items other.nodes.items sorted.nodes also.nodes
    (IsPermutation-trans _ _ _ (IsPermutation-sym _ _ all.0) again.0) in
    let cells = one_sorted cell_cmp cell_total cell_exact one.cells.items other.cells.items sorted.cells also.cells
    (IsPermutation-trans _ _ _ (IsPermutation-sym _ _ all.1.0) again.1.0) in
    let entries = one_sorted entry_cmp entry_total entry_exact one.entries.items other.entries.items sorted.entries also.entries (IsPermutation-trans _ _ _ (IsPermutation-sym _ _ all.1.1) again.1.1) in (
      c.0,
      c.1,
      subst (λ ns. Condemns c.0 ns other.cells.items other.entries.items at) nodes
          (subst (λ cs. Condemns c.0 one.nodes.items cs other.entries.items at) cells
          (subst (λ es. Condemns c.0 one.nodes.items one.cells.items es at) entries c.2)),
    )

-- rows that hold no sound content are those of a store that is bad
pub bad_rows : (policy : Policy) (file : SchemesFile) (m : MetaRow) (db : Database) (rows : AllRows) → IsDescribed m db
    → AreAll (tables_of db.trees) rows → AreBad policy file m rows → IsBad policy file db
bad_rows policy file m db rows described all (of_these texts none) = not_sound m described texts
    (λ sound. none (tables_of db.trees) all sound.1.0 sound.1.1 sound.1.2)
bad_rows policy file m db rows described all (of_older labels counts extended none) =
    not_sound_before m labels counts described extended
    (λ sound. none (tables_of db.trees) all sound.1.0 sound.1.1 sound.1.2)
