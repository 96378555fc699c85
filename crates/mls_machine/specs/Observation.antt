-- What a level may see of a run, and when two worlds look alike to it.
use Rattle.std.specs.Prelude.{◌≡◌, ℕ, Bool, true, false, ◌&&◌, if◌then◌else◌, List, [], ◌∷◌, ◌++◌, map, length, Option}
use Rattle.std.specs.Prelude.{Some, None, ◌↔◌, ◌⊎◌, ⊤, filter, IfSome, option_map, unwrap_or}
use Rattle.std.specs.List.{AllByRecursion}
use Rattle.mls_lattice.specs.Labels.{Labels, below}
use Rattle.mls_lattice.specs.Policy.{Name}
use Rattle.mls_scheme.specs.declared.value.Value.{Value}
use Rattle.mls_scheme.specs.declared.tuple.Tuple.{Tuple}
use Rattle.mls_scheme.specs.Table.{Database, IsIn}
use Rattle.mls_filterview.specs.View.{View}
use Rattle.mls_filterview.specs.Stored.{IsStored}
use Rattle.mls_audit.specs.Entry.{visible}
use Rattle.mls_translang.specs.declared.tx.Parameter.{Parameter}
use Rattle.mls_translang.specs.Fits.{IsReadUnder}
use Rattle.mls_certcheck.specs.Meaning.{Item}
use Rattle.mls_certcheck.specs.Secure.{seen_items, Secure}
use Rattle.mls_translang.specs.declared.event.Event.{Event}
use Rattle.mls_translang.specs.declared.event.Command.{Command}
use Rattle.mls_translang.specs.declared.event.Command.TheVariants.{Call}
use Rattle.mls_translang.specs.Event.{EventFits}
use Rattle.mls_machine.specs.declared.form.Form.{Form}
use Rattle.mls_machine.specs.declared.form.Audience.{Audience}
use Rattle.mls_machine.specs.declared.reply.Reply.{Reply}
use Rattle.mls_machine.specs.declared.reply.Reply.TheVariants.{Ran}
use Rattle.mls_certcheck.specs.declared.stored.Stored.{Stored}
use Rattle.mls_certcheck.specs.Stored.{tx_of, WhereCertified}
use Rattle.mls_certcheck.specs.Site.{Site, site_labels, site_scheme}
use Rattle.mls_machine.specs.Denying.{stored_named}
use Rattle.mls_machine.specs.Machine.{World, step, end_of}
use Rattle.mls_machine.specs.Output.{Line, run_lines, printed}
use Rattle.mls_machine.specs.Telling.{Test, by_releases}

-- ---- what a run begins with

-- each relation of a database is of the stored form
abbrev pub AreStored : Site → Database → Type 0
AreStored site db = (relation : ℕ) → IsStored (site_labels site) (length (site_scheme site relation).others)
    (db relation)

abbrev pub EventsFit : Site → List Event → Type 0
EventsFit site = AllByRecursion (EventFits site.policy site.schemes)

-- those with certificates are secure
abbrev pub AreSecure : Site → Type 0
AreSecure site = AllByRecursion (WhereCertified (Secure site.policy)) site.stored

-- ---- events

-- the parameters of what is stored by a name
abbrev pub params_of : Option Stored → List (Name × Parameter)
params_of None = []
params_of (Some s) = (tx_of s).params

-- the arguments, with null in place of each at a parameter whose label c does not dominate
abbrev pub blanked : Labels → ℕ → List (Name × Parameter) → List (Option Value) → List (Option Value)
blanked ls c [] args = args
blanked ls c (p ∷ ps) [] = []
blanked ls c (p ∷ ps) (v ∷ vs) = (if below ls p.1.label c then v else None) ∷ blanked ls c ps vs

module _ (site : Site) (c : ℕ) where
  abbrev pub shown : Command → Command
  shown (Call name args) = Call name (blanked (site_labels site) c (params_of (stored_named site.stored name)) args)
  shown command = command

  -- what c sees of an event of a level that it dominates
  abbrev pub glimpse : Event → Event
  glimpse e = record e { command = shown e.command }

  -- what c sees of events: those of levels that it dominates, in order
  abbrev pub seen : List Event → List Event
  seen es = map glimpse (filter (λ e. below (site_labels site) e.level c) es)

-- a command calls what passes a test
abbrev pub is_called : Site → (Stored → Bool) → Command → Bool
is_called site test (Call name args) = unwrap_or (option_map test (stored_named site.stored name)) false
is_called site test command = false

-- by a test no call that c sees can tell it anything
abbrev pub AreUntold : Test → Site → ℕ → List Event → Type 0
AreUntold tells site c es = AllByRecursion (λ e. is_called site (tells site c) e.command ≡ false) (seen site c es)

abbrev pub IsNoCall : Command → Type 0
IsNoCall (Call name args) = ⊥
IsNoCall command = ⊤

abbrev pub HaveNoCall : List Event → Type 0
HaveNoCall = AllByRecursion (λ e. IsNoCall e.command)

-- c sees no call: any that is made is made at a level that it does not dominate
abbrev pub SeesNoCall : Site → ℕ → List Event → Type 0
SeesNoCall site c es = HaveNoCall (seen site c es)

-- what a command calls was read under the policy and the schemes, and with a certificate it is secure
abbrev pub IsCallSecure : Site → Command → Type 0
IsCallSecure site (Call name args) =
    IfSome (stored_named site.stored name)
    (λ s. IsReadUnder site.policy site.schemes (tx_of s) × WhereCertified (Secure site.policy) s)
IsCallSecure site command = ⊤

-- so what each event calls, if any is a call
abbrev pub AreCallsSecure : Site → List Event → Type 0
AreCallsSecure site = AllByRecursion (λ e. IsCallSecure site e.command)

-- ---- lines and releases

-- the lines whose labels c dominates, in order
abbrev pub out : Labels → ℕ → List Line → List Line
out ls c lines = filter (λ l. below ls l.label c) lines

-- all lines, or those whose labels a reader dominates
abbrev pub heard : Labels → Option ℕ → List Line → List Line
heard ls None lines = lines
heard ls (Some c) lines = out ls c lines

-- the bytes that an audience is shown of a run
abbrev pub run_shows : Site → Audience → World → List Event → List ℕ
run_shows site a w es = printed (heard (site_labels site) a.reader (run_lines a.form site w es))

abbrev pub released_in : Reply → List Item
released_in (Ran run) = run.released
released_in reply = []

-- the items that are released in a run from w, in order
unfoldable pub run_released : Site → World → List Event → List Item
run_released site w [] = []
run_released site w (e ∷ es) = released_in (step site w e).reply ++ run_released site (step site w e).world es

-- those that are released to labels that c dominates
abbrev pub released_to : Site → ℕ → World → List Event → List Item
released_to site c w es = seen_items (site_labels site) c (run_released site w es)

-- the items that are released in a run by calls that c sees and that by a test can tell it something
unfoldable pub run_told : Test → Site → ℕ → World → List Event → List Item
run_told tells site c w [] = []
run_told tells site c w (e ∷ es) =
    (if below (site_labels site) e.level c && is_called site (tells site c) e.command
    then released_in (step site w e).reply else []) ++ run_told tells site c (step site w e).world es

-- those of them that are released to labels that c dominates
abbrev pub told_to : Test → Site → ℕ → World → List Event → List Item
told_to tells site c w es = seen_items (site_labels site) c (run_told tells site c w es)

-- two runs, each at its site, release the same to c; or those calls do so that can tell c something
abbrev pub ReleaseTheSame : Test → ℕ → Site → World → List Event → Site → World → List Event → Type 0
ReleaseTheSame tells c site v es other w fs =
    (released_to site c v es ≡ released_to other c w fs) ⊎ (told_to tells site c v es ≡ told_to tells other c w fs)

-- ---- replies

-- what c sees of a reply: of a call, the items whose labels it dominates
abbrev pub reply_shown : Labels → ℕ → Reply → Reply
reply_shown ls c (Ran run) =
    Ran (record { emitted = seen_items ls c run.emitted; released = seen_items ls c run.released })
reply_shown ls c reply = reply

-- what c sees of the replies of a run from w: of those at levels that it dominates, in order
unfoldable pub replies_shown : Site → ℕ → World → List Event → List Reply
replies_shown site c w [] = []
replies_shown site c w (e ∷ es) =
    (if below (site_labels site) e.level c then reply_shown (site_labels site) c (step site w e).reply ∷ [] else [])
    ++ replies_shown site c (step site w e).world es

-- ---- worlds

-- two worlds look alike to c: the view of each relation, the sessions of levels that c dominates, and the entries of
-- labels that it dominates
pub record AgreeAt (ls : Labels) (c : ℕ) (v w : World) : Type 0 where
  pub views : (relation : ℕ) (t : Tuple) → View ls (IsIn (v.db relation)) c t ↔ View ls (IsIn (w.db relation)) c t
  pub sessions : (level : ℕ) (name : Name) → below ls level c ≡ true → v.sessions level name ≡ w.sessions level name
  pub entries : visible ls c v.audit ≡ visible ls c w.audit

-- ---- runs

-- two runs show the same lines to c in each form, and the same replies, so that another printer needs no new
-- law, and end in worlds that look alike to it
pub record EndAlike (site : Site) (c : ℕ) (v w : World) (es fs : List Event) : Type 0 where
  pub out : (form : Form)
      → out (site_labels site) c (run_lines form site v es) ≡ out (site_labels site) c (run_lines form site w fs)
  pub replies : replies_shown site c v es ≡ replies_shown site c w fs
  pub worlds : AgreeAt (site_labels site) c (end_of site v es) (end_of site w fs)

-- no information flows down in a run: at each level c that sees no call, a run from any other world of the stored form
-- that looks alike to c, over any events of which c sees the same, shows c the same; what c does not see may be called,
-- if it is secure
abbrev pub PassesNothingDown : Site → World → List Event → Type 0
PassesNothingDown site v es =
    (c : ℕ) (w : World) (fs : List Event) → AreStored site w.db → EventsFit site fs → AreCallsSecure site fs
    → SeesNoCall site c es → AgreeAt (site_labels site) c v w → seen site c es ≡ seen site c fs
    → EndAlike site c v w es fs

-- no information flows down in a run but what is released: at each level c, a run from any other world of the stored
-- form that looks alike to c, over any events of which c sees the same, shows c the same, if it also releases the same
-- to c, or if the calls do so that by a test can tell c something
abbrev pub PassesDownBy : Test → Site → World → List Event → Type 0
PassesDownBy tells site v es =
    (c : ℕ) (w : World) (fs : List Event) → AreStored site w.db → EventsFit site fs
    → AgreeAt (site_labels site) c v w → seen site c es ≡ seen site c fs
    → ReleaseTheSame tells c site v es site w fs → EndAlike site c v w es fs

-- calls that release to c nothing made of what c may not read tell it nothing
abbrev pub PassesOnlyReleasesDown : Site → World → List Event → Type 0
PassesOnlyReleasesDown = PassesDownBy by_releases
