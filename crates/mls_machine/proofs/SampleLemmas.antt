-- A script of denials and audits, and the lines that it prints.
use Rattle.std.proofs.Common.{◌≡◌, ℕ, true, false, List, [], ◌∷◌, ◌++◌, ap, ◌∙◌, ◌==◌, Bool, cond, not, ◌||◌, bit_and, codes, Some, None, Ok, Err}
use Rattle.std.specs.List.{list_any}
use Rattle.std.specs.Fmt.{digits}
use Rattle.std.specs.FinMap.{empty}
use Rattle.mls_lattice.specs.declared.tables.Right.{Right}
use Rattle.mls_lattice.specs.declared.version.Version.TheVariants.{One}
use Rattle.mls_lattice.specs.Lattice.{Pair}
use Rattle.mls_lattice.specs.Labels.{Labels, below}
use Rattle.mls_lattice.specs.Policy.{Name, Policy, granted_modes}
use Rattle.mls_scheme.specs.Scheme.{Scheme}
use Rattle.mls_audit.specs.declared.entry.Entry.{Entry}
use Rattle.mls_translang.specs.declared.query.Query.{Query}
use Rattle.mls_translang.specs.declared.event.Event.{Event}
use Rattle.mls_translang.specs.declared.event.Command.{Command}
use Rattle.mls_translang.specs.declared.event.Command.TheVariants.{Open, Audit, View}
use Rattle.mls_certcheck.specs.Site.{Site}
use Rattle.mls_machine.specs.declared.form.Form.TheVariants.{Lines}
use Rattle.mls_machine.specs.declared.reply.Denial.TheVariants.{Ds, Ss, Star}
use Rattle.mls_machine.specs.declared.reply.Reply.TheVariants.{Opened, Entries}
use Rattle.mls_machine.specs.Denying.{first_denial, read_mode, write_mode}
use Rattle.mls_machine.specs.Machine.{World, Step, no_sessions, in_session, unless, viewed, denial_entry, denied, open_step, step}
use Rattle.mls_machine.specs.Output.{reply_lines, run_lines, printed}

-- a query for all rows
abbrev no_query : Query
no_query = record { highest = false; class = None; test = None; first = None }

abbrev event : ℕ → Name → Command → Event
event level session command = record { level = level; session = session; time = None; command = command }

abbrev sod : Scheme
sod = record { name = codes "SOD"; keys = []; others = [] }

module _ (u s h : Pair) (rights : List Right) where
  abbrev ls : Labels
  ls = u ∷ s ∷ h ∷ []

  abbrev policy : Policy
  policy = record {
    version = One;
    levels = [];
    categories = [];
    labels = record { name = codes "U"; value = u } ∷ record { name = codes "S"; value = s }
        ∷ record { name = codes "H"; value = h } ∷ [];
    users = record { name = codes "tom"; clearance = 2; trusted = None } ∷ record {
      name = codes "bob";
      clearance = 1;
      trusted = None;
    } ∷ [];
    matrix = rights;
  }

  abbrev site : Site
  site = record { policy = policy; schemes = sod ∷ []; stored = [] }

  abbrev start : World
  start = record { db = λ relation. empty; sessions = no_sessions; audit = [] }

  abbrev opens_t : Event
  opens_t = event 0 (codes "t") (Open (codes "tom"))

  abbrev opens_b : Event
  opens_b = event 1 (codes "b") (Open (codes "bob"))

  abbrev views_t : Event
  views_t = event 0 (codes "t") (View 0 1 no_query false)

  abbrev views_b : Event
  views_b = event 1 (codes "b") (View 0 2 no_query false)

  abbrev audits_t : Event
  audits_t = event 0 (codes "t") Audit

  abbrev audits_b : Event
  audits_b = event 1 (codes "b") Audit

  abbrev script : List Event
  script = opens_t ∷ opens_b ∷ views_t ∷ views_b ∷ audits_t ∷ audits_b ∷ []

  -- the worlds after the openings and the denials
  abbrev with_tom : World
  with_tom = in_session start opens_t (Some 0)

  abbrev with_both : World
  with_both = in_session with_tom opens_b (Some 1)

  abbrev denied_t : Step
  denied_t = denied site with_both views_t 0 Star

  abbrev denied_b : Step
  denied_b = denied site denied_t.world views_b 1 Ss

  -- an opening, by whether the clearance dominates the level
  abbrev opening : World → Event → ℕ → Bool → Step
  opening w e user b = open_step site w e (cond (not b || false) (Err Ss) (Ok user))

  -- a view, by the modes of the user and by whether the clearance and the level dominate its label
  abbrev viewing : World → Event → ℕ → ℕ → ℕ → Bool → Bool → Step
  viewing w e user label modes a b =
      unless site
      (first_denial ((not (list_any (λ mode. bit_and modes mode == mode) (read_mode ∷ write_mode ∷ [])), Ds)
      ∷ (not a || false, Ss) ∷ (not b || false, Star) ∷ []))
      w e user (viewed site w 0 label no_query)

  abbrev entry_t : Entry
  entry_t = denial_entry site views_t 0 Star

  abbrev entry_b : Entry
  entry_b = denial_entry site views_b 1 Ss

  -- the two entries, by whether the level of an audit dominates theirs
  abbrev shown : Bool → Bool → List Entry
  shown a b = cond a (entry_t ∷ cond b (entry_b ∷ []) []) (cond b (entry_b ∷ []) [])

  abbrev auditing : List Entry → Step
  auditing es = record { world = denied_b.world; reply = Entries es }

  next : (w : World) (e : Event) (es : List Event) (s : Step) → step site w e ≡ s → run_lines Lines site w (e ∷ es)
      ≡ reply_lines site e s.reply ++ run_lines Lines site s.world es
  unfolding run_lines
  next w e es s h = ap (λ (x : Step). reply_lines site e x.reply ++ run_lines Lines site x.world es) h

  module _ (u-u : below ls 0 0 ≡ true) (u-s : below ls 0 1 ≡ true) (u-h : below ls 0 2 ≡ true) (s-u : below ls 1 0
      ≡ false) (s-s : below ls 1 1 ≡ true) (s-h : below ls 1 2 ≡ true) (h-s : below ls 2 1 ≡ false)
      (tom-reads : granted_modes rights 0 (codes "SOD") ≡ 2) (bob-writes : granted_modes rights 1 (codes "SOD")
      ≡ 8) where
    tom_opens : step site start opens_t ≡ record { world = with_tom; reply = Opened 0 }
    unfolding step
    tom_opens = ap (opening start opens_t 0) u-h

    bob_opens : step site with_tom opens_b ≡ record { world = with_both; reply = Opened 1 }
    unfolding step
    bob_opens = ap (opening with_tom opens_b 1) s-s

    tom_is_denied : step site with_both views_t ≡ denied_t
    unfolding step first_denial
    tom_is_denied = λ i. viewing with_both views_t 0 1 (tom-reads i) (s-h i) (s-u i)

    bob_is_denied : step site denied_t.world views_b ≡ denied_b
    unfolding step first_denial
    bob_is_denied = λ i. viewing denied_t.world views_b 1 2 (bob-writes i) (h-s i) (h-s i)

    tom_audits : step site denied_b.world audits_t ≡ auditing (entry_t ∷ [])
    unfolding step
    tom_audits = λ i. auditing (shown (u-u i) (s-u i))

    bob_audits : step site denied_b.world audits_b ≡ auditing (entry_t ∷ entry_b ∷ [])
    unfolding step
    bob_audits = λ i. auditing (shown (u-s i) (s-s i))

    each_sees_its_own_denials : printed (run_lines Lines site start script) ≡
        codes "U U/t opened tom\nS S/b opened bob\nU U/t denied 38 Star\nS S/b denied 37 Ss\nU U/t audit\nU U/t entry U denied tom t 38\nS S/b audit\nS S/b entry U denied tom t 38\nS S/b entry S denied bob b 37\n"
    unfolding run_lines digits
    each_sees_its_own_denials = ap printed (
        next start opens_t (opens_b ∷ views_t ∷ views_b ∷ audits_t ∷ audits_b ∷ []) _ tom_opens
        ∙ ap (λ xs. reply_lines site opens_t (Opened 0) ++ xs) (next with_tom opens_b (views_t ∷ views_b ∷ audits_t
        ∷ audits_b ∷ []) _ bob_opens
        ∙ ap (λ xs. reply_lines site opens_b (Opened 1) ++ xs) (next with_both views_t (views_b ∷ audits_t ∷ audits_b
        ∷ []) _ tom_is_denied
        ∙ ap (λ xs. reply_lines site views_t denied_t.reply ++ xs) (next denied_t.world views_b (audits_t ∷ audits_b
        ∷ []) _ bob_is_denied
        ∙ ap (λ xs. reply_lines site views_b denied_b.reply ++ xs) (next denied_b.world audits_t
        (audits_b ∷ []) _ tom_audits
        ∙ ap (λ xs. reply_lines site audits_t (auditing (entry_t ∷ [])).reply ++ xs)
        (next denied_b.world audits_b [] _ bob_audits)))))
        )
