-- Where a shell and a desk read and change their base, and where a run reads and changes the store of a host.
use Rattle.std.specs.Prelude.{◌≡◌, ℕ, true, List, Option, IfSome}
use Rattle.mls_filterview.specs.Content.{Seen}
use Rattle.mls_filterview.specs.View.{IsAmong}
use Rattle.mls_certcheck.specs.Site.{Site}
use Rattle.mls_translang.specs.declared.event.Event.{Event}
use Rattle.mls_sessions.specs.Access.{ArePermitted, may_read, may_change}
use Rattle.mls_host.specs.Hosting.{Hosting}
use Rattle.mls_runs.specs.declared.shell_session.Fate.{Fate}
use Rattle.mls_runs.specs.Shell.{Turn, AreLines, events_in}

module _ {B : Type 0} (seen : B → Seen) (site : Site) (echo : List ℕ → List ℕ) where
  -- as the events may that the lines tell which are read; to open a shell's session permits nothing
  pub record AreLinesPermitted (IsFateOf : List ℕ → Fate → Type 0) (before after : Option (List ℕ))
      (old new : B) : Type 0 where
    pub turns : List Turn
    pub lines : AreLines echo IsFateOf before after turns
    pub permitted : ArePermitted seen site (events_in turns) old new

-- these events are told by the lines that are read of a text, of which the rest comes after
abbrev pub AreEventsOf : (List ℕ → List ℕ) → (List ℕ → Fate → Type 0) → Option (List ℕ) → Option (List ℕ) → List Event
    → Type 0
AreEventsOf echo IsFateOf before after events =
    (turns : List Turn) × AreLines echo IsFateOf before after turns × (events ≡ events_in turns)

-- ---- the store that a host took back last, since it was opened

module _ (h : Hosting) (site : Site) where
  -- what was read and changed, one of these events may
  pub record AreAccesses (events : List Event) : Type 0 where
    pub reads : (m : ℕ) → h.asked m
        → (e : Event) × IsAmong e events × (may_read site e.level e.command m ≡ true)
    pub changes : (m : ℕ) → h.changed m
        → (e : Event) × IsAmong e events × (may_change site e.level e.command m ≡ true)

  -- if there is a store, it was read and changed as events may which were answered
  abbrev pub IsAccessedAs : (List Event → Type 0) → Option (List ℕ) → Type 0
  IsAccessedAs Answered store = IfSome store (λ path. (events : List Event) × Answered events × AreAccesses events)
