-- What a run releases to a level is what the calls that it sees release to it, one after another.
use Rattle.std.proofs.Common.{◌≡◌, ℕ, ◌*◌, ◌≤◌, mul-le-mul, Bool, true, false, cond, option_map, unwrap_or, map, List, [], ◌∷◌, ◌++◌, length, Option, Some, None, Result, Ok, Err, refl, sym, subst, inl, inr, arith}
use Rattle.std.specs.Prelude.{Contains}
use Rattle.std.specs.List.{AllZip}
use Rattle.std.specs.FinMap.{empty}
use Rattle.std.proofs.lemmas.Bool.{cases_Bool}
use Rattle.std.proofs.lemmas.List.{map-append}
use Rattle.mls_lattice.specs.Labels.{Labels, below, AreDistinct}
use Rattle.mls_lattice.specs.Policy.{Name}
use Rattle.mls_scheme.specs.declared.value.Value.{Value}
use Rattle.mls_scheme.specs.Scheme.{Schemes}
use Rattle.mls_scheme.specs.Table.{Database}
use Rattle.mls_updates.specs.declared.outcome.Outcome.{Outcome}
use Rattle.mls_certcheck.specs.Meaning.{Item, run_tx}
use Rattle.mls_certcheck.specs.Secure.{seen_items}
use Rattle.mls_translang.specs.Tx.{Tx}
use Rattle.mls_translang.specs.declared.event.Event.{Event}
use Rattle.mls_translang.specs.declared.event.Command.{Command}
use Rattle.mls_translang.specs.declared.event.Command.TheVariants as commands
use Rattle.mls_certcheck.specs.declared.stored.Stored.{Stored}
use Rattle.mls_certcheck.specs.declared.stored.Stored.TheVariants.{Certified, Plain}
use Rattle.mls_certcheck.specs.Stored.{tx_of}
use Rattle.mls_certcheck.specs.Site.{Site, site_labels, AreRead}
use Rattle.mls_machine.specs.declared.reply.Denial.{Denial}
use Rattle.mls_machine.specs.Denying.{first_denial, cleared, user_named, stored_named, fitted, view_denials, write_denials, batch_denials, call_denials}
use Rattle.mls_machine.specs.Machine.{World, Step, BatchEnd, unless, called as machine_called, viewed, dumped, wrote, did_all, ended, did, call_step, step_inside, open_step, step_outside, step_at, step}
use Rattle.mls_machine.specs.Observation.{AreStored, EventsFit, is_called, released_in, run_told, told_to}
use Rattle.mls_machine.specs.Telling.{by_releases}
use Rattle.mls_machine.proofs.CalledLemmas.{all_read}
use Rattle.mls_machine.proofs.KeepingLemmas.{step_stored}
use Rattle.mls_machine.proofs.ToldLemmas.{told_next, told_hidden}
use Rattle.mls_lives.specs.Lives.{called, ran, all_ran, CountsAtMost, product}
use Rattle.mls_lives.proofs.ListLemmas.{joined, long_joined, has_joined}

module _ (ls : Labels) (schemes : Schemes) (c : ℕ) where
  -- a transaction that is run, and whether that can tell c something
  abbrev pub Marked : Type 0
  Marked = Bool × Tx

  -- what a run of it then releases to c
  abbrev tells_of : Marked → List (Option Value) → Database → List Item
  tells_of m args db = seen_items ls c (cond m.0 (run_tx ls schemes m.1 args db).released [])

  -- what runs of these transactions tell c by releases, one after another
  abbrev pub AreReleased : List Marked → List Item → Type 0
  AreReleased [] items = items ≡ []
  AreReleased (m ∷ ms) items =
      (args : List (Option Value)) × (db : Database) × (rest : List Item)
      × (items ≡ tells_of m args db ++ rest) × AreReleased ms rest

  -- at most so many lists of items are what a run of a transaction tells c by releases
  pub record IsFew (m : Marked) (count : ℕ) : Type 0 where
    pub lists : List (List Item)
    pub few : length lists ≤ count
    pub all : (args : List (Option Value)) (db : Database) → Contains lists (tells_of m args db)

  -- so of transactions one after another
  pub record AreFew (txs : List Marked) (count : ℕ) : Type 0 where
    pub lists : List (List Item)
    pub few : length lists ≤ count
    pub all : (items : List Item) → AreReleased txs items → Contains lists items

  pub few_after : (txs : List Marked) (counts : List ℕ) → AllZip IsFew txs counts → AreFew txs (product counts)
  few_after [] [] h = record { lists = [] ∷ []; few = omega arith; all = λ items none. (0, omega arith, sym none) }
  few_after [] (n ∷ ns) h = absurd h
  few_after (tx ∷ txs) [] h = absurd h
  few_after (tx ∷ txs) (n ∷ ns) h =
      let one = h.0 in
      let rest = few_after txs ns h.1 in
      let long = long_joined ◌++◌ one.lists rest.lists in
      let within : length one.lists * length rest.lists ≤ n * product ns = mul-le-mul one.few rest.few in
      record {
        lists = joined ◌++◌ one.lists rest.lists;
        few = omega (arith, long, within);
        all = λ items h.
            subst (Contains (joined ◌++◌ one.lists rest.lists)) (sym h.3)
            (has_joined ◌++◌ one.lists rest.lists (tells_of tx h.0 h.1) h.2
            (one.all h.0 h.1) (rest.all h.2 h.4));
      }

-- what is stored, and whether it can tell c something
abbrev pub marked : Site → ℕ → Stored → Bool × Tx
marked site c s = (by_releases site c s, tx_of s)

-- what can tell c nothing tells it one list of items
untold_few : (ls : Labels) (schemes : Schemes) (c : ℕ) (tx : Tx) (count : ℕ) → 1 ≤ count
    → IsFew ls schemes c (false, tx) count
untold_few ls schemes c tx count h = record { lists = [] ∷ []; few = h; all = λ args db. (0, omega arith, refl) }

-- what is told of a transaction says so
pub counted_few : (site : Site) (c : ℕ) (s : Stored) (count : ℕ) → CountsAtMost site c s count
    → IsFew (site_labels site) site.schemes c (marked site c s) count
counted_few site c s count (inl h) =
    let one = h.1 in
    subst (λ b. IsFew (site_labels site) site.schemes c (b, tx_of s) count) (sym h.0)
    (untold_few (site_labels site) site.schemes c (tx_of s) count (omega (arith, one)))
counted_few site c s count (inr h) = by_test (by_releases site c s)
  where
    tx : Tx
    tx = tx_of s

    all : (args : List (Option Value)) (db : Database)
        → Contains h.lists (seen_items (site_labels site) c
        (run_tx (site_labels site) site.schemes tx args db).released)
    all args db = h.all (run_tx (site_labels site) site.schemes tx args db).released
        (h.are_told (site_labels site) site.schemes args db)

    by_test : (b : Bool) → IsFew (site_labels site) site.schemes c (b, tx) count
    by_test true = record { lists = h.lists; few = h.few; all = all }
    by_test false =
        let has = (all [] (λ relation. empty)).1 in
        let few = h.few in
        untold_few (site_labels site) site.schemes c tx count (omega (arith, has, few))

module _ (site : Site) (c : ℕ) where
  abbrev Released : List (Bool × Tx) → List Item → Type 0
  Released = AreReleased (site_labels site) site.schemes c

  -- what was run, and what of it can tell c something
  abbrev all_marked : List Stored → List (Bool × Tx)
  all_marked = map (marked site c)

  abbrev to_c : List Item → List Item
  to_c = seen_items (site_labels site) c

  -- ---- one step more in front

  module _ (w : World) (e : Event) (txs : List (Bool × Tx)) (items : List Item) (rest : Released txs items) where
    abbrev Gives : Command → Step → Type 0
    Gives a s = Released (all_marked (ran site c a s.reply) ++ txs)
        (to_c (cond (is_called site (by_releases site c) a) (released_in s.reply) []) ++ items)

    -- where nothing is run, nothing is released
    gives_nothing : (b : Bool) → Released txs (to_c (cond b [] []) ++ items)
    gives_nothing true = rest
    gives_nothing false = rest

    gives_call : (name : Name) (args : List (Option Value)) (user : ℕ) (o : Option Stored)
        → stored_named site.stored name ≡ o → Gives (commands.Call name args) (call_step site w e user name args o)
    gives_call name args user None found = gives_nothing (is_called site (by_releases site c) (commands.Call name args))
    gives_call name args user (Some (Plain tx)) found =
        gives_nothing (is_called site (by_releases site c) (commands.Call name args))
    gives_call name args user (Some (Certified k)) found =
        by_denial (first_denial (call_denials site e.level user k.tx args))
      where
        by_denial : (denial : Option Denial) → Gives (commands.Call name args) (unless site denial w e user
            (machine_called site w e user name k.tx args))
        by_denial (Some denial) = gives_nothing (is_called site (by_releases site c) (commands.Call name args))
        by_denial None =
            subst (λ o. Released (all_marked (called site c o) ++ txs)
            (to_c (cond (unwrap_or (option_map (by_releases site c) o) false)
            (run_tx (site_labels site) site.schemes k.tx (fitted k.tx.params args) w.db).released []) ++ items))
            (sym found) (fitted k.tx.params args, w.db, items, refl, rest)

    gives_inside : (a : Command) (user : ℕ) → Gives a (step_inside site w e a user)
    gives_inside (commands.Open name) user = rest
    gives_inside commands.Close user = rest
    gives_inside commands.Audit user = rest
    gives_inside (commands.View relation label query counts) user =
        by_denial (first_denial (view_denials site e.level user relation label))
      where
        by_denial : (denial : Option Denial) → Gives (commands.View relation label query counts)
            (unless site denial w e user (viewed site w relation label query))
        by_denial (Some denial) = rest
        by_denial None = rest
    gives_inside (commands.Dump relation) user =
        by_denial (first_denial (view_denials site e.level user relation e.level))
      where
        by_denial : (denial : Option Denial) → Gives (commands.Dump relation) (unless site denial w e user
            (dumped site w relation e.level))
        by_denial (Some denial) = rest
        by_denial None = rest
    gives_inside (commands.Write relation wr) user =
        by_denial (first_denial (write_denials site e.level user relation wr))
      where
        by_denial : (denial : Option Denial) → Gives (commands.Write relation wr) (unless site denial w e user
            (wrote site w e.level relation wr))
        by_denial (Some denial) = rest
        by_denial None = rest
    gives_inside (commands.All batch) user = by_denial (first_denial (batch_denials site e.level user batch))
      where
        by_end : (r : Result BatchEnd (ℕ × Outcome)) → Gives (commands.All batch) (ended site w r)
        by_end (Ok end) = rest
        by_end (Err refused) = rest

        by_denial : (denial : Option Denial) → Gives (commands.All batch) (unless site denial w e user
            (did site w e.level batch))
        by_denial (Some denial) = rest
        by_denial None = by_end (did_all site e.level [] batch w.db)
    gives_inside (commands.Call name args) user = gives_call name args user (stored_named site.stored name) refl

    gives_open : (name : Name) (r : Result ℕ Denial) → Gives (commands.Open name) (open_step site w e r)
    gives_open name (Ok user) = rest
    gives_open name (Err denial) = rest

    gives_outside : (a : Command) → Gives a (step_outside site w e a)
    gives_outside (commands.Open name) = gives_open name (cleared site e.level (user_named site.policy name))
    gives_outside commands.Close = rest
    gives_outside commands.Audit = rest
    gives_outside (commands.View relation label query counts) = rest
    gives_outside (commands.Dump relation) = rest
    gives_outside (commands.Write relation wr) = rest
    gives_outside (commands.All batch) = rest
    gives_outside (commands.Call name args) =
        gives_nothing (is_called site (by_releases site c) (commands.Call name args))

    gives_at : (session : Option ℕ) → Gives e.command (step_at site w e e.command session)
    gives_at (Some user) = gives_inside e.command user
    gives_at None = gives_outside e.command

    gives_step : Gives e.command (step site w e)
    unfolding step
    gives_step = gives_at (w.sessions e.level e.session)

  -- ---- runs

  module _ (distinct : AreDistinct (site_labels site)) (read : AreRead site) where
    pub run_releases : (w : World) (es : List Event) → AreStored site w.db → EventsFit site es
        → Released (all_marked (all_ran site c w es)) (told_to by_releases site c w es)
    unfolding all_ran run_told
    run_releases w [] sw fits = refl
    run_releases w (e ∷ es) sw fits =
        let s = step site w e in
        let tells = is_called site (by_releases site c) e.command in
        let now = ran site c e.command s.reply in
        let rest = all_ran site c s.world es in
        let more = run_releases s.world es (step_stored site distinct w e sw fits.0
        (all_read site read e.command)) fits.1 in
        elim (cases_Bool (below (site_labels site) e.level c)) [
          | inl b ↦ subst (λ x. Released (all_marked (cond x now [] ++ rest)) (told_to by_releases site c w (e ∷ es)))
              (sym b) (subst (Released (all_marked (now ++ rest)))
              (sym (told_next by_releases site c w e es true tells b refl))
              (subst (λ l. Released l (to_c (cond tells (released_in s.reply) [])
              ++ told_to by_releases site c s.world es)) (sym (map-append (marked site c) now rest))
              (gives_step w e (all_marked rest) (told_to by_releases site c s.world es) more)))
          | inr b ↦ subst (λ x. Released (all_marked (cond x now [] ++ rest)) (told_to by_releases site c w (e ∷ es)))
              (sym b) (subst (Released (all_marked rest)) (sym (told_hidden by_releases site c w e es b)) more)
        ]
