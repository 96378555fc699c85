-- Sessions: a list with one more or without one, and what an event of no open session is answered.
use Rattle.std.proofs.Common.{◌≡◌, ℕ, ◌<◌, Bool, true, false, not, cond, List, [], ◌∷◌, ◌++◌, Option, Some, None, Result, Ok, Err, refl, sym, ap, ◌∙◌, subst, true≢false, eqb-true, is_some, nat_eq, ◌&&◌, ◌||◌, filter, bytes_eq}
use Rattle.std.proofs.lemmas.Bool.{and_parts}
use Rattle.std.proofs.lemmas.Slice.Eq.{bytes_eq-Decides}
use Rattle.mls_lattice.specs.Labels.{below}
use Rattle.mls_lattice.specs.Policy.{Name}
use Rattle.mls_scheme.specs.Table.{Database}
use Rattle.mls_audit.specs.declared.entry.Entry.{Entry}
use Rattle.mls_translang.specs.declared.event.Event.{Event}
use Rattle.mls_translang.specs.declared.event.Command.{Command}
use Rattle.mls_translang.specs.declared.event.Command.TheVariants as commands
use Rattle.mls_machine.specs.declared.reply.Denial.{Denial}
use Rattle.mls_machine.specs.declared.reply.Denial.TheVariants.{NoSession, UnknownUser, Ss}
use Rattle.mls_machine.specs.declared.reply.Reply.TheVariants.{Opened, Denied}
use Rattle.mls_certcheck.specs.Site.{Site, site_labels}
use Rattle.mls_machine.specs.Denying.{user_named, clearance_of, cleared}
use Rattle.mls_machine.specs.Machine.{World, Step, with_session, turned_away, opened, open_step, step_outside}
use Rattle.mls_sessions.specs.declared.session.Session.{Session}
use Rattle.mls_sessions.specs.Sessions.{is_named, sessions_of, AreForUsers, IsSessionStep}

-- ---- one more session

none_found : (b : Bool) (user : ℕ) (r : Option ℕ) → cond b (Some user) r ≡ None → (b ≡ false) × (r ≡ None)
none_found true user r h = absurd (true≢false (ap is_some h))
none_found false user r h = (refl, h)

swapped : (a b : Bool) (x y z : Option ℕ) → (a ≡ true → b ≡ true → ⊥) → cond a x (cond b y z) ≡ cond b y (cond a x z)
swapped true true x y z h = absurd (h refl refl)
swapped _ _ x y z h = refl

-- two sessions of one level and name
both_named : (level : ℕ) (name : Name) (r s : Session) → is_named level name r ≡ true → is_named level name s ≡ true
    → is_named s.level s.name r ≡ true
both_named level name r s h k =
    let p = and_parts _ _ k in
    let l : level ≡ s.level = eqb-true level s.level p.0 in
    let n : name ≡ s.name = (bytes_eq-Decides name s.name).0 p.1 in
    ap (λ x. is_named x s.name r) (sym l) ∙ ap (λ x. is_named level x r) (sym n) ∙ h

last : (ss : List Session) (s : Session) → sessions_of ss s.level s.name ≡ None
    → (level : ℕ) (name : Name) → sessions_of (ss ++ s ∷ []) level name ≡ with_session (sessions_of ss) s.level s.name
    (Some s.user) level name
last [] s h level name = refl
last (r ∷ ss) s h level name =
    let p = none_found (is_named s.level s.name r) r.user (sessions_of ss s.level s.name) h in
    ap (cond (is_named level name r) (Some r.user)) (last ss s p.1 level name)
    ∙ swapped (is_named level name r) (is_named level name s) (Some r.user) (Some s.user) (sessions_of ss level name)
    (λ a b. true≢false (sym (both_named level name r s a b) ∙ p.0))

-- ---- no session of a level and a name

kept : (count : ℕ) (b : Bool) (s : Session) (ss : List Session) → s.user < count → AreForUsers count ss
    → AreForUsers count (cond b (s ∷ ss) ss)
kept count true s ss one all = (one, all)
kept count false s ss one all = all

held_if : (b : Bool) (xs ys : List Session) (level : ℕ) (name : Name) → sessions_of (cond b xs ys) level name
    ≡ cond b (sessions_of xs level name) (sessions_of ys level name)
held_if true xs ys level name = refl
held_if false xs ys level name = refl

-- a session of the level and the name is asked for where that is asked for which it has, and the other way round
one_less : (named held asked : Bool) (user : ℕ) (new old : Option ℕ) → (named ≡ true → held ≡ true → asked ≡ true)
    → (asked ≡ true → held ≡ true → named ≡ true)
    → new ≡ cond asked None old → cond (not named) (cond held (Some user) new) new
    ≡ cond asked None (cond held (Some user) old)
one_less true true false user new old p q h = absurd (true≢false (sym (p refl refl)))
one_less false true true user new old p q h = absurd (true≢false (sym (q refl refl)))
one_less false held false user new old p q h = ap (cond held (Some user)) h
one_less _ _ _ user new old p q h = h

module _ (level : ℕ) (name : Name) where
  abbrev asked : ℕ → Name → Bool
  asked l n = nat_eq l level && bytes_eq n name

  abbrev others : List Session → List Session
  others = filter (λ s. not (is_named level name s))

  asked_for : (l : ℕ) (n : Name) (s : Session) → is_named level name s ≡ true → is_named l n s ≡ true → asked l n ≡ true
  asked_for l n s h k =
      let p = and_parts _ _ h in
      let same_level : level ≡ s.level = eqb-true level s.level p.0 in
      let same_name : name ≡ s.name = (bytes_eq-Decides name s.name).0 p.1 in
      ap (λ x. nat_eq l x && bytes_eq n name) same_level ∙ ap (λ x. nat_eq l s.level && bytes_eq n x) same_name ∙ k

  named_so : (l : ℕ) (n : Name) (s : Session) → asked l n ≡ true → is_named l n s ≡ true → is_named level name s ≡ true
  named_so l n s h k =
      let p = and_parts _ _ h in
      let same_level : l ≡ level = eqb-true l level p.0 in
      let same_name : n ≡ name = (bytes_eq-Decides n name).0 p.1 in
      ap (λ x. is_named x name s) (sym same_level) ∙ ap (λ x. is_named l x s) (sym same_name) ∙ k

  without : (ss : List Session) (l : ℕ) (n : Name) → sessions_of (others ss) l n
      ≡ with_session (sessions_of ss) level name None l n
  without [] l n = either (asked l n) None
    where
      either : (b : Bool) (o : Option ℕ) → o ≡ cond b o o
      either true o = refl
      either false o = refl
  without (s ∷ ss) l n =
      held_if (not (is_named level name s)) (s ∷ others ss) (others ss) l n
      ∙ one_less (is_named level name s) (is_named l n s) (asked l n) s.user (sessions_of (others ss) l n)
      (sessions_of ss l n)
      (asked_for l n s) (named_so l n s) (without ss l n)

  pub closed : (old new : List Session) → new ≡ others old → sessions_of new
      ≡ with_session (sessions_of old) level name None
  closed old new e = ap sessions_of e ∙ (λ i l n. without old l n i)

  others_known : (count : ℕ) (ss : List Session) → AreForUsers count ss → AreForUsers count (others ss)
  others_known count [] h = tt
  others_known count (s ∷ ss) h = kept count (not (is_named level name s)) s (others ss) h.0 (others_known count ss h.1)

  pub closed_users : (old new : List Session) → new ≡ others old → (count : ℕ) → AreForUsers count old
      → AreForUsers count new
  closed_users old new e count h = subst (AreForUsers count) (sym e) (others_known count old h)

-- ---- the user of an open session

held_below : (count : ℕ) (b : Bool) (first user : ℕ) (rest : Option ℕ) → first < count
    → (rest ≡ Some user → user < count) → cond b (Some first) rest ≡ Some user → user < count
held_below count true first user rest one more h = subst (λ n. n < count) (let e : Some first ≡ Some user = h in cc) one
held_below count false first user rest one more h = more h

pub user_known : (count : ℕ) (ss : List Session) (level : ℕ) (name : Name) (user : ℕ) → AreForUsers count ss
    → sessions_of ss level name ≡ Some user → user < count
user_known count [] level name user all h = absurd cc
user_known count (s ∷ ss) level name user all h =
    held_below count (is_named level name s) s.user user (sessions_of ss level name) all.0
    (user_known count ss level name user all.1) h

-- ---- what an event of no open session is answered

module _ (site : Site) (event : Event) where
  abbrev outside : Command → World → Step
  outside command w = step_outside site w event command

  not_opening : (w : World) (command : Command) → ((name : Name) → command ≡ commands.Open name → ⊥) → outside command w
      ≡ turned_away w NoSession
  not_opening w (commands.Open name) other = absurd (other name refl)
  not_opening w _ other = refl

  module _ (old : List Session) where
    abbrev held : Database → List Entry → World
    held db audit = record { db = db; sessions = sessions_of old; audit = audit }

    answer_denied : (d : Denial) → ((w : World) → outside event.command w ≡ turned_away w d)
        → IsSessionStep (outside event.command) old old (Denied d)
    answer_denied d h = record {
      reply = λ db audit. sym (ap (λ (s : Step). s.reply) (h (held db audit)));
      world = λ db audit. sym (ap (λ (s : Step). s.world) (h (held db audit)));
    }

    pub answer_other : ((name : Name) → event.command ≡ commands.Open name → ⊥)
        → IsSessionStep (outside event.command) old old (Denied NoSession)
    answer_other other = answer_denied NoSession (λ w. not_opening w event.command other)

    module _ (name : Name) (opens : event.command ≡ commands.Open name) where
      opening : (r : Result ℕ Denial) → cleared site event.level (user_named site.policy name) ≡ r → (w : World)
          → outside event.command w ≡ open_step site w event r
      opening r h w = ap (λ x. outside x w) opens ∙ ap (open_step site w event) h

      pub answer_unknown : user_named site.policy name ≡ None → IsSessionStep (outside event.command) old old
          (Denied UnknownUser)
      answer_unknown h = answer_denied UnknownUser (opening (Err UnknownUser) (ap (cleared site event.level) h))

      module _ (user clearance : ℕ) (h : user_named site.policy name ≡ Some user) (same : clearance
          ≡ clearance_of site.policy user) where
        found : (b : Bool) → below (site_labels site) event.level clearance ≡ b
            → cleared site event.level (user_named site.policy name) ≡ cond (not b || false) (Err Ss) (Ok user)
        found b k =
            ap (cleared site event.level) h
            ∙ ap (λ c. cond (not (below (site_labels site) event.level c) || false) (Err Ss) (Ok user)) (sym same)
            ∙ ap (λ x. cond (not x || false) (Err Ss) (Ok user)) k

        pub answer_exceeding : below (site_labels site) event.level clearance ≡ false
            → IsSessionStep (outside event.command) old old (Denied Ss)
        answer_exceeding k = answer_denied Ss (opening (Err Ss) (found false k))

        pub answer_opened : (new : List Session) → below (site_labels site) event.level clearance ≡ true
            → sessions_of old event.level event.session ≡ None
            → new ≡ old ++ record { level = event.level; name = event.session; user = user } ∷ []
            → IsSessionStep (outside event.command) old new (Opened user)
        answer_opened new k absent g =
            let s : Session = record { level = event.level; name = event.session; user = user } in
            let now : sessions_of new ≡ with_session (sessions_of old) event.level event.session (Some user) =
            ap sessions_of g ∙ (λ i level n. last old s absent level n i) in
            let opens_it : (w : World) → outside event.command w ≡ opened w event user =
            opening (Ok user) (found true k) in
            record {
              reply = λ db audit. sym (ap (λ (t : Step). t.reply) (opens_it (held db audit)));
              world = λ db audit. ap (λ x. record { db = db; sessions = x; audit = audit }) now
                  ∙ sym (ap (λ (t : Step). t.world) (opens_it (held db audit)));
            }
