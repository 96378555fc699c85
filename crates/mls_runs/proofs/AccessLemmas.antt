-- Where a shell and a desk read and change their base, line by line.
use Rattle.std.proofs.Common.{◌≡◌, ◌↔◌, ℕ, Bool, false, List, [], ◌∷◌, ◌++◌, Option, refl, sym, ap, ◌∙◌, subst, inl, inr, ◌||◌, true≢false}
use Rattle.std.specs.List.{list_any}
use Rattle.mls_filterview.specs.Content.{Seen}
use Rattle.mls_filterview.specs.Calls.{NoAccess}
use Rattle.mls_filterview.specs.View.{IsAmong}
use Rattle.mls_certcheck.specs.Site.{Site}
use Rattle.mls_translang.specs.declared.event.Event.{Event}
use Rattle.mls_sessions.specs.Access.{ArePermitted, may_read, may_change}
use Rattle.mls_host.specs.Hosting.{Hosting, AreNowhere}
use Rattle.mls_runs.specs.declared.shell_session.Fate.{Fate}
use Rattle.mls_runs.specs.declared.shell_session.ShellSession.{ShellSession}
use Rattle.mls_runs.specs.Shell.{Turn, AreLines, IsLineRead, is_last, events_of, events_in, opening}
use Rattle.mls_runs.specs.Access.{AreLinesPermitted, AreAccesses}
use Rattle.mls_runs.proofs.ShellLemmas.{any-snoc, events-snoc}
use Rattle.mls_runs.proofs.DeskLemmas.{lines-snoc}

among_front : {A : Type 0} (x : A) (xs ys : List A) → IsAmong x xs → IsAmong x (xs ++ ys)
among_front x [] ys h = absurd h
among_front x (y ∷ xs) ys (inl e) = inl e
among_front x (y ∷ xs) ys (inr h) = inr (among_front x xs ys h)

among_back : {A : Type 0} (x : A) (xs ys : List A) → IsAmong x ys → IsAmong x (xs ++ ys)
among_back x [] ys h = h
among_back x (y ∷ xs) ys h = inr (among_back x xs ys h)

module _ {B : Type 0} (seen : B → Seen) (site : Site) where
  -- events one after another
  pub permitted_joined : (es fs : List Event) (a b c : B) → ArePermitted seen site es a b → ArePermitted seen site fs b c
      → ArePermitted seen site (es ++ fs) a c
  permitted_joined es fs a b c h k = record {
    reads = λ m x. elim (k.reads m x) [
      | inl before ↦ elim (h.reads m before) [
        | inl was ↦ inl was
        | inr e ↦ inr (e.0, among_front e.0 es fs e.1, e.2)
      ]
      | inr e ↦ inr (e.0, among_back e.0 es fs e.1, e.2)
    ];
    changes = λ m x. elim (k.changes m x) [
      | inl before ↦ elim (h.changes m before) [
        | inl was ↦ inl was
        | inr e ↦ inr (e.0, among_front e.0 es fs e.1, e.2)
      ]
      | inr e ↦ inr (e.0, among_back e.0 es fs e.1, e.2)
    ];
  }

  -- to open a session permits nothing
  pub opening_permits_nothing : (session : ShellSession) (a b : B) → ArePermitted seen site (opening session ∷ []) a b
      → ArePermitted seen site [] a b
  opening_permits_nothing session a b h = record {
    reads = λ m x. elim (h.reads m x) [
      | inl was ↦ inl was
      | inr e ↦ elim e.1 [
        | inl is ↦ absurd (true≢false (sym e.2 ∙ ap (λ (x : Event). may_read site x.level x.command m) is))
        | inr none ↦ absurd none
      ]
    ];
    changes = λ m x. elim (h.changes m x) [
      | inl was ↦ inl was
      | inr e ↦ elim e.1 [
        | inl is ↦ absurd (true≢false (sym e.2 ∙ ap (λ (x : Event). may_change site x.level x.command m) is))
        | inr none ↦ absurd none
      ]
    ];
  }

  -- ---- the lines up to here

  module _ (echo : List ℕ → List ℕ) (IsFateOf : List ℕ → Fate → Type 0) (before : Option (List ℕ)) where
    -- of the last it is said whether it is one behind which no other is read
    pub record LinesSoFar (after : Option (List ℕ)) (last : Bool) (old new : B) : Type 0 where
      pub turns : List Turn
      pub lines : AreLines echo IsFateOf before after turns
      pub last_is : list_any (λ (t : Turn). is_last t.fate) turns ≡ last
      pub permitted : ArePermitted seen site (events_in turns) old new

    -- none is read
    pub lines_start : (a b : B) → ArePermitted seen site [] a b → LinesSoFar before false a b
    unfolding AreLines
    lines_start a b h = record {
      turns = [];
      lines = refl;
      last_is = refl;
      permitted = h;
    }

    -- the events of a line more
    pub lines_more : (left over was shown : Option (List ℕ)) (Broken : Type 0) (q : Site) (a b c : B) (fate : Fate)
        → q ≡ site → LinesSoFar left false a b → IsLineRead echo IsFateOf left over was shown Broken fate
        → ArePermitted seen q (events_of fate) b c → LinesSoFar over (is_last fate) a c
    lines_more left over was shown Broken q a b c fate same h read k =
        let t = read.turn in
        record {
          turns = h.turns ++ t ∷ [];
          lines = lines-snoc echo IsFateOf before left over h.turns t h.lines h.last_is read.is_turn;
          last_is = any-snoc (λ (t : Turn). is_last t.fate) h.turns t
              ∙ ap (λ b. b || is_last t.fate) h.last_is ∙ ap is_last read.same;
          permitted =
              subst (λ es. ArePermitted seen site es a c) (sym (events-snoc h.turns t))
              (permitted_joined (events_in h.turns) (events_of t.fate) a b c h.permitted
              (subst (λ (x : Fate). ArePermitted seen site (events_of x) b c) (sym read.same)
              (subst (λ (s : Site). ArePermitted seen s (events_of fate) b c) same k)));
        }

    pub lines_are : (after : Option (List ℕ)) (last : Bool) (a b : B) → LinesSoFar after last a b
        → AreLinesPermitted seen site echo IsFateOf before after a b
    lines_are after last a b h = record { turns = h.turns; lines = h.lines; permitted = h.permitted }

    pub lines_read : (left over was shown : Option (List ℕ)) (Broken : Type 0) (q : Site) (a b c : B) (fate : Fate)
        → q ≡ site → LinesSoFar left false a b → IsLineRead echo IsFateOf left over was shown Broken fate
        → ArePermitted seen q (events_of fate) b c
        → AreLinesPermitted seen site echo IsFateOf before over a c
    lines_read left over was shown Broken q a b c fate same h read k =
        lines_are over (is_last fate) a c (lines_more left over was shown Broken q a b c fate same h read k)

-- a base that is given to an engine and given back
pub lines_given : {B : Type 0} (seen : B → Seen) (echo : List ℕ → List ℕ) (IsFateOf : List ℕ → Fate → Type 0)
    (before after : Option (List ℕ)) (p q : Site) (a b c d : B) → p ≡ q → a ≡ b → d ≡ c
    → AreLinesPermitted seen p echo IsFateOf before after a c
    → AreLinesPermitted seen q echo IsFateOf before after b d
lines_given seen echo IsFateOf before after p q a b c d s e f h =
    subst (λ x. AreLinesPermitted seen q echo IsFateOf before after b x) (sym f)
    (subst (λ x. AreLinesPermitted seen q echo IsFateOf before after x c) e
    (subst (λ (x : Site). AreLinesPermitted seen x echo IsFateOf before after a c) s h))

-- ---- a store that was fresh when it was opened, and is taken back

module _ {B : Type 0} (seen : B → Seen) (h : Hosting) (a b : B) (fresh : AreNowhere (seen a).asked (seen a).changed)
    (asked : (m : ℕ) → h.asked m ↔ (seen b).asked m) (changed : (m : ℕ) → h.changed m ↔ (seen b).changed m) where
  pub accessed_kept : (site : Site) (Answered : List Event → Type 0)
      → ((events : List Event) × Answered events × ArePermitted seen site events a b)
      → (events : List Event) × Answered events × AreAccesses h site events
  accessed_kept site Answered k = (
    k.0,
    k.1,
    record {
      reads = λ m x. elim (k.2.reads m ((asked m).0 x)) [
        | inl was ↦ absurd (fresh.unread m was)
        | inr e ↦ e
      ];
      changes = λ m x. elim (k.2.changes m ((changed m).0 x)) [
        | inl was ↦ absurd (fresh.unchanged m was)
        | inr e ↦ e
      ];
    },
  )

  pub nowhere_kept : NoAccess seen a b → AreNowhere h.asked h.changed
  nowhere_kept k = record {
    unread = λ m x. fresh.unread m (k.reads m tt ((asked m).0 x));
    unchanged = λ m x. fresh.unchanged m (k.changes m tt ((changed m).0 x));
  }
