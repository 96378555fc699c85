-- The statements that begin and end a change fail, where they are in place, only because the store failed.
use Rattle.std.proofs.Common.{◌≡◌, inl, inr, ℕ, [], false, None, Ok, Err, Result, IsTrue, IfErr, codes, sym, ap, subst, subst₂, true≢false, ◌∙◌}
use Rattle.sqlite.specs.Order.{Row}
use Rattle.sqlite.specs.Command.TheVariants.{Begin, Commit, Rollback}
use Rattle.sqlite.specs.State.{State, HasCause, Fails, Executes, ExecutesIn, IsNotRun, RunsAlone}
use Rattle.sqlite_trees.specs.declared.error.StoreError.{StoreError}
use Rattle.sqlite_trees.specs.declared.error.StoreError.TheVariants as store
use Rattle.sqlite.specs.declared.error.Error.{Error}
use Rattle.sqlite.proofs.Callers.{IsPlain, command_of}
use Rattle.sqlite_resolve.specs.declared.compiled.Compiled.{Compiled}
use Rattle.mls_tables.proofs.EndLemmas.{not_refused}
use Rattle.mls_tables.proofs.Texts.{begin_is, begin_whole, commit_is, commit_whole, rollback_is, rollback_whole}

module _ (old new : State) where
  -- nothing is too big that is never stored
  small : (big : Type 0) → ¬ big → (cause : StoreError) → HasCause old new big cause → HasCause old new ⊥ cause
  small big none store.OutOfMemory h = h
  small big none store.Io h = h
  small big none store.Corrupt h = h
  small big none store.Full h = h
  small big none store.Broken h = h
  small big none store.Unstorable h = absurd (none h)

  fails_small : (big : Type 0) → ¬ big → (e : Error) → Fails old new big e → Fails old new ⊥ e
  fails_small big none e f = (f.0, f.1, small big none f.0 f.2, f.3, f.4)

  begin_alone : (e : Error) (c : Compiled) (params : Row) → c.command ≡ Begin → c.returning ≡ None → old.in_transaction
      ≡ false → RunsAlone false old new (codes "BEGIN") c params (Err e) → Fails old new ⊥ e
  begin_alone e c params is plain off h =
      let at = subst₂ (λ k r. RunsAlone false old new (codes "BEGIN") (record c { command = k; returning = r }) params
      (Err e)) is plain h in
      elim at [
        | inl refused ↦ absurd (elim refused.0 [
          | inl (inl state) ↦ elim state.1 [
            | inl begun ↦ (let e = begun.1 in cc)
            | inr end ↦ elim end.0 [
              | inl commit ↦
                  (cc)
              | inr rollback ↦ (cc)
            ]
          ]
          | inl (inr mark) ↦ elim mark.2 [ inl release ↦ (cc) | inr back ↦ (cc) ]
          | inr changes ↦ elim changes.0 [ inl write ↦ write | inr some ↦ true≢false (sym some) ]
        ])
        | inr failed ↦ fails_small _ (λ d. (let e = d in cc)) e failed
      ]

  commit_alone : (e : Error) (c : Compiled) (params : Row) → c.command ≡ Commit → c.returning ≡ None
      → IsTrue old.in_transaction → RunsAlone false old new (codes "COMMIT") c params (Err e) → Fails old new ⊥ e
  commit_alone e c params is plain begun h =
      let at = subst₂ (λ k r. RunsAlone false old new (codes "COMMIT") (record c { command = k; returning = r }) params
      (Err e)) is plain h in
      elim at [
        | inl refused ↦ absurd (elim refused.0 [
          | inl (inl state) ↦ elim state.1 [
            | inl begin ↦ (let e = begin.0 in cc)
            | inr outside ↦ (let e = outside.1
                in cc)
          ]
          | inl (inr mark) ↦ elim mark.2 [ inl release ↦ (cc) | inr back ↦ (cc) ]
          | inr changes ↦ elim changes.0 [ inl write ↦ write | inr some ↦ true≢false (sym some) ]
        ])
        | inr failed ↦ fails_small _ (λ d. (let e = d in cc)) e failed
      ]

  undo_alone : (e : Error) (c : Compiled) (params : Row) → c.command ≡ Rollback → c.returning ≡ None
      → IsTrue old.in_transaction → RunsAlone false old new (codes "ROLLBACK") c params (Err e) → Fails old new ⊥ e
  undo_alone e c params is plain begun h =
      let at = subst₂ (λ k r. RunsAlone false old new (codes "ROLLBACK") (record c {
        command = k;
        returning =
            r;
      }) params (Err e)) is plain h in
      elim at [
        | inl refused ↦ absurd (elim refused.0 [
          | inl (inl state) ↦ elim state.1 [
            | inl begin ↦ (let e = begin.0 in cc)
            | inr outside ↦ (let e = outside.1
                in cc)
          ]
          | inl (inr mark) ↦ elim mark.2 [ inl release ↦ (cc) | inr back ↦ (cc) ]
          | inr changes ↦ elim changes.0 [ inl write ↦ write | inr some ↦ true≢false (sym some) ]
        ])
        | inr failed ↦ fails_small _ (λ d. (let e = d in cc)) e failed
      ]

  pub begin_fails : (r : Result ℕ Error) → old.in_transaction ≡ false → Executes (codes "BEGIN") [] old new r
      → IfErr r (Fails old new ⊥)
  unfolding ExecutesIn IsNotRun
  begin_fails (Ok count) off h = tt
  begin_fails (Err e) off (inl (inl refused)) = absurd (not_refused old new (codes "BEGIN") e
      (begin_whole old.now.schema) refused.0)
  begin_fails (Err e) off (inl (inr failed)) = failed
  begin_fails (Err e) off (inr h) =
      let known = sym h.1.is in
      begin_alone e h.0 _ (ap command_of known ∙ (begin_is old.now.schema).0) (subst IsPlain (sym known)
      (begin_is old.now.schema).1).0 off h.2

  pub commit_fails : (r : Result ℕ Error) → IsTrue old.in_transaction → Executes (codes "COMMIT") [] old new r
      → IfErr r (Fails old new ⊥)
  unfolding ExecutesIn IsNotRun
  commit_fails (Ok count) begun h = tt
  commit_fails (Err e) begun (inl (inl refused)) = absurd (not_refused old new (codes "COMMIT") e
      (commit_whole old.now.schema) refused.0)
  commit_fails (Err e) begun (inl (inr failed)) = failed
  commit_fails (Err e) begun (inr h) =
      let known = sym h.1.is in
      commit_alone e h.0 _ (ap command_of known ∙ (commit_is old.now.schema).0) (subst IsPlain (sym known)
      (commit_is old.now.schema).1).0 begun h.2

  pub undo_fails : (r : Result ℕ Error) → IsTrue old.in_transaction → Executes (codes "ROLLBACK") [] old new r
      → IfErr r (Fails old new ⊥)
  unfolding ExecutesIn IsNotRun
  undo_fails (Ok count) begun h = tt
  undo_fails (Err e) begun (inl (inl refused)) = absurd (not_refused old new (codes "ROLLBACK") e
      (rollback_whole old.now.schema) refused.0)
  undo_fails (Err e) begun (inl (inr failed)) = failed
  undo_fails (Err e) begun (inr h) =
      let known = sym h.1.is in
      undo_alone e h.0 _ (ap command_of known ∙ (rollback_is old.now.schema).0) (subst IsPlain (sym known)
      (rollback_is old.now.schema).1).0 begun h.2
