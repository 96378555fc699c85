use Rattle.std.proofs.Common.{◌≡◌, ◌++◌, ◌∷◌, [], ap, ◌∙◌, sym, subst, take, length, rules}
use Rattle.mls_audit.specs.Reading.{entry_at}
use Rattle.mls_sessions.specs.World.{declared}
use Rattle.mls_sessions.proofs.StepLemmas.{AreBelow, entries_known, entries_next, entries_stay}
use Rattle.mls_sessions.proofs.looking.entries_of.Goals.{in-Some+in_ok-push-in-Some, in-None}
use Rattle.mls_sessions.proofs.looking.entries_of.Goals as goal

pub loop-string-preserved : goal.loop-string-preserved
loop-string-preserved c =
    let count = length c.args.policy.now.labels in
    let s = c.string-item.result in
    let read : c.in_ok-found.found ≡ declared count (entry_at s) = c.in_ok-found.ensures
    ∙ ap (λ b. declared count (entry_at b)) c.deref.ensures in
    elim c.match-found.branch [
      | in-Some+in_ok-push-in-Some w ↦
          let pushed : w.push.new.self.items ≡ c.loop-string.entries.items ++ w.in-Some.entry ∷ [] = search rules in
          ap (λ v. v.items) w.entries-is ∙ pushed ∙ ap (λ es. es ++ w.in-Some.entry ∷ []) c.loop-string.invariant
          ∙ entries_next count c.args.strings.now c.loop-string.string-index s c.loop-string-test.true
          (sym c.string-item.is) w.in-Some.entry (sym w.in-Some.is ∙ read)
      | in-None w ↦
          ap (λ v. v.items) w.entries-is ∙ c.loop-string.invariant
          ∙ entries_stay count c.args.strings.now c.loop-string.string-index s c.loop-string-test.true
          (sym c.string-item.is) (sym w.in-None.is ∙ read)
    ]

pub returns-clause-known : goal.returns-clause-known
returns-clause-known c =
    let count = length c.args.policy.now.labels in
    subst (AreBelow count) (sym c.loop-string.invariant)
    (entries_known count (take c.loop-string.string-index c.args.strings.now))
