-- A script of two calls, and the lines that it prints: one is denied; the other has an argument of the wrong kind above
-- the
-- session's level, which is taken as null, and emits it there and releases it.
use Rattle.std.proofs.Common.{◌≡◌, ℕ, true, false, List, [], ◌∷◌, ◌++◌, Option, ap, refl, ◌∙◌, Ok, Err, ◌==◌, Bool, cond, not, ◌&&◌, ◌||◌, nat_eq, bit_and, codes, length, Some, None, find, bytes_eq}
use Rattle.std.specs.List.{list_any}
use Rattle.std.specs.Fmt.{digits}
use Rattle.std.specs.FinMap.{empty}
use Rattle.mls_lattice.specs.declared.tables.Right.{Right}
use Rattle.mls_lattice.specs.declared.version.Version.TheVariants.{One}
use Rattle.mls_lattice.specs.Lattice.{Pair}
use Rattle.mls_lattice.specs.Labels.{Labels, below}
use Rattle.mls_lattice.specs.Policy.{Name, Policy, granted_modes}
use Rattle.mls_scheme.specs.declared.value.Kind.TheVariants as kinds
use Rattle.mls_scheme.specs.declared.value.Value.{Value}
use Rattle.mls_scheme.specs.declared.value.Value.TheVariants.{Text}
use Rattle.mls_audit.specs.declared.entry.Entry.{Entry}
use Rattle.mls_translang.specs.Tree.{Var, Param, Release, Emit, End, Do}
use Rattle.mls_translang.specs.Tx.{Tx}
use Rattle.mls_translang.specs.Expressions.{eval}
use Rattle.mls_certcheck.specs.Meaning.{Item, run_block, perform}
use Rattle.mls_certcheck.specs.declared.certified.Certified.{Certified}
use Rattle.mls_translang.specs.declared.event.Event.{Event}
use Rattle.mls_translang.specs.declared.event.Command.{Command}
use Rattle.mls_translang.specs.declared.event.Command.TheVariants.{Open, Audit, Call}
use Rattle.mls_certcheck.specs.declared.stored.Stored.TheVariants as stored
use Rattle.mls_machine.specs.declared.form.Form.TheVariants.{Lines}
use Rattle.mls_machine.specs.declared.reply.Denial.{Denial}
use Rattle.mls_machine.specs.declared.reply.Denial.TheVariants.{UnknownTransaction, NotCertified, Ds, Ss, Star, Trust, Arguments}
use Rattle.mls_machine.specs.declared.reply.Reply.TheVariants.{Opened, Ran, Entries}
use Rattle.mls_certcheck.specs.Site.{Site}
use Rattle.mls_certcheck.specs.Stored.{tx_of}
use Rattle.mls_machine.specs.Denying.{first_denial, execute_mode, call_denials}
use Rattle.mls_machine.specs.Machine.{World, Step, no_sessions, in_session, unless, denial_entry, denied, call_entries, called, call_step, open_step, step}
use Rattle.mls_machine.specs.Output.{reply_lines, run_lines, printed}

-- transaction Pass levels U to S (n: int at S) { var x: int; emit n at S; release n to U into x; }
abbrev pass : Tx
pass = record {
  name = codes "Pass";
  lo = 0;
  hi = 1;
  params = (codes "n", record { kind = kinds.Int; label = 1 }) ∷ [];
  vars = (codes "x", kinds.Int) ∷ [];
  body = Do (Release (Param 0) 0 0) (Do (Emit (Var 0) 1) End);
}

abbrev event : Command → Event
event command = record { level = 0; session = codes "t"; time = None; command = command }

module _ (u s : Pair) (rights : List Right) (k : Certified) (is : k.tx ≡ pass) (other : Tx) where
  abbrev ls : Labels
  ls = u ∷ s ∷ []

  abbrev policy : Policy
  policy = record {
    version = One;
    levels = [];
    categories = [];
    labels = record { name = codes "U"; value = u } ∷ record { name = codes "S"; value = s } ∷ [];
    users = record { name = codes "tom"; clearance = 1; trusted = Some (0, 1) } ∷ [];
    matrix = rights;
  }

  abbrev site : Site
  site = record { policy = policy; schemes = []; stored = stored.Certified k ∷ [] }

  abbrev start : World
  start = record { db = λ relation. empty; sessions = no_sessions; audit = [] }

  abbrev opens : Event
  opens = event (Open (codes "tom"))

  abbrev no_args : List (Option Value)
  no_args = []

  abbrev a_text : List (Option Value)
  a_text = Some (Text (codes "x")) ∷ []

  abbrev call_of : List (Option Value) → Event
  call_of args = event (Call (codes "Pass") args)

  abbrev audits : Event
  audits = event Audit

  abbrev with_tom : World
  with_tom = in_session start opens (Some 0)

  abbrev denied_call : Step
  denied_call = denied site with_tom (call_of no_args) 0 Arguments

  -- null for the text
  abbrev items : List Item
  items = (0, None) ∷ []

  abbrev done_call : Step
  done_call = record {
    world = record denied_call.world {
      audit = denied_call.world.audit ++ call_entries site (call_of a_text) 0
          (codes "Pass") items;
    };
    reply = Ran (record { emitted = (1, None) ∷ []; released = items });
  }

  abbrev all_entries : List Entry
  all_entries = denial_entry site (call_of no_args) 0 Arguments ∷ call_entries site (call_of a_text) 0
      (codes "Pass") items

  -- ---- a call, by the modes of the user and by which labels dominate which

  abbrev denials : ℕ → Bool → Bool → Bool → List (Option Value) → List (Bool × Denial)
  denials modes uu us ss args =
      (not (list_any (λ mode. bit_and modes mode == mode) (execute_mode ∷ [])), Ds)
      ∷ (not ss || false, Ss)
      ∷ (not (nat_eq 0 0), Star)
      ∷ (not (nat_eq 1 0) && (not (uu && us) || (not (us && ss) || false)), Trust)
      ∷ (not (nat_eq (length args) 1) || false, Arguments) ∷ []

  abbrev calling : World → List (Option Value) → List (Bool × Denial) → Step
  calling w args ds = unless site (first_denial ds) w (call_of args) 0 (called site w (call_of args) 0
      (codes "Pass") pass args)

  -- it is found, and what is found is the transaction
  found : (name : Name) → find (λ x. bytes_eq (tx_of x).name name) (stored.Certified k ∷ [])
      ≡ cond (bytes_eq (codes "Pass") name) (Some (stored.Certified k)) None
  found name = λ i. cond (bytes_eq (is i).name name) (Some (stored.Certified k)) None

  next : (w : World) (e : Event) (es : List Event) (t : Step) → step site w e ≡ t → run_lines Lines site w (e ∷ es)
      ≡ reply_lines site e t.reply ++ run_lines Lines site t.world es
  unfolding run_lines
  next w e es t h = ap (λ (x : Step). reply_lines site e x.reply ++ run_lines Lines site x.world es) h

  module _ (u-u : below ls 0 0 ≡ true) (u-s : below ls 0 1 ≡ true) (s-s : below ls 1 1 ≡ true)
      (executes : granted_modes rights 0 (codes "Pass") ≡ 1) where
    opening : Bool → Step
    opening b = open_step site start opens (cond (not b || false) (Err Ss) (Ok 0))

    tom_opens : step site start opens ≡ record { world = with_tom; reply = Opened 0 }
    unfolding step opening
    tom_opens = ap opening u-s

    -- in the session of tom
    call_is : (w : World) (args : List (Option Value)) → call_step site w (call_of args) 0 (codes "Pass") args
        (find (λ x. bytes_eq (tx_of x).name (codes "Pass")) (stored.Certified k ∷ []))
        ≡ calling w args (call_denials site 0 0 pass args)
    call_is w args =
        ap (call_step site w (call_of args) 0 (codes "Pass") args) (found (codes "Pass"))
        ∙ ap (λ tx. unless site (first_denial (call_denials site 0 0 tx args)) w (call_of args) 0
        (called site w (call_of args) 0 (codes "Pass") tx args)) is

    no_argument : step site with_tom (call_of no_args) ≡ denied_call
    unfolding step first_denial
    no_argument = call_is with_tom no_args ∙ (λ i. calling with_tom no_args (denials (executes i) (u-u i) (u-s i)
        (s-s i) no_args))

    a_text_is_null : step site denied_call.world (call_of a_text) ≡ done_call
    unfolding step first_denial run_block perform eval
    a_text_is_null = call_is denied_call.world a_text ∙ (λ i. calling denied_call.world a_text
        (denials (executes i) (u-u i) (u-s i) (s-s i) a_text))

    -- each of the entries has the label U
    shown : Bool → List Entry → List Entry
    shown b [] = []
    shown b (e ∷ es) = cond b (e ∷ shown b es) (shown b es)

    tom_audits : step site done_call.world audits ≡ record { world = done_call.world; reply = Entries all_entries }
    unfolding step shown
    tom_audits = λ i. record { world = done_call.world; reply = Entries (shown (u-u i) all_entries) }

    each_item_has_its_label : printed (run_lines Lines site start (opens ∷ call_of no_args ∷ call_of a_text ∷ audits
        ∷ [])) ≡
        codes "U U/t opened tom\nU U/t denied 40 Arguments\nU U/t called Pass\nS U/t emit null\nU U/t release null\nU U/t audit\nU U/t entry U denied tom t 40\nU U/t entry U called tom t Pass\nU U/t entry U released tom t null\n"
    unfolding run_lines digits
    each_item_has_its_label = ap printed (
        next start opens (call_of no_args ∷ call_of a_text ∷ audits ∷ []) _ tom_opens
        ∙ ap (λ xs. reply_lines site opens (Opened 0) ++ xs) (next with_tom (call_of no_args) (call_of a_text ∷ audits
        ∷ []) _ no_argument
        ∙ ap (λ xs. reply_lines site (call_of no_args) denied_call.reply ++ xs) (next denied_call.world (call_of a_text)
        (audits ∷ []) _ a_text_is_null
        ∙ ap (λ xs. reply_lines site (call_of a_text) done_call.reply ++ xs)
        (next done_call.world audits [] _ tom_audits)))
        )

    -- what is not stored, and what is stored without a certificate
    unknown : step site with_tom (event (Call (codes "Nope") [])) ≡ denied site with_tom
        (event (Call (codes "Nope") [])) 0 UnknownTransaction
    unfolding step
    unknown = ap (call_step site with_tom (event (Call (codes "Nope") [])) 0 (codes "Nope") []) (found (codes "Nope"))

  uncertified : (w : World) (e : Event) (name : Name) (args : List (Option Value)) → call_step site w e 0 name args
      (Some (stored.Plain other)) ≡ denied site w e 0 NotCertified
  uncertified w e name args = refl
