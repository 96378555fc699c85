-- What the words of a command line ask for, and what is said where they ask for nothing.
use Rattle.std.specs.Prelude.{◌≡◌, ℕ, ◌<◌, ◌≤◌, Bool, true, false, List, [], map, length, codes, string_bytes, Option}
use Rattle.std.specs.Prelude.{Some, None, option_map, is_some, ⊤, bytes_eq}
use Rattle.std.specs.Borrow.{Bor}
use Rattle.clap.specs.Words.{App, Row, Rule, Text, fault_of, first_of, new_app, new_rule, subcommand_of, with_rule}
use Rattle.clap.specs.Words.{with_subcommand}
use Rattle.clap.specs.declared.builder.action.ArgAction.TheVariants.{SetTrue}
use Rattle.mls_host.specs.declared.words.Job.{Job}
use Rattle.mls_host.specs.declared.words.Documents.{Documents}
use Rattle.mls_host.specs.declared.words.Files.{Files}
use Rattle.mls_host.specs.declared.words.Task.{Task}
use Rattle.mls_host.specs.declared.words.Task.TheVariants.{ShowPolicy, Picture, Run, Shell, Serve, Turn, Certify, Check}
use Rattle.mls_host.specs.declared.words.Task.TheVariants.{Explain}
use Rattle.mls_host.specs.declared.usage.Usage.{Usage}
use Rattle.mls_host.specs.declared.usage.Usage.TheVariants as usage

abbrev pub texts_of : List (Bor Text) → List Text
texts_of = map (λ w. w.now)

-- what a word names, if it is there
abbrev pub named : Option (Bor (List ℕ)) → Option (List ℕ)
named = option_map (λ p. p.now)

-- ---- the command line

-- an argument that stands in its place, and one that is an option with a value
abbrev pub place : Text → Rule
place id = record (new_rule id) { required = true }

abbrev pub option : Text → Rule
option id = record (new_rule id) { long = Some id; value_names = 1 }

-- an option that must not be left out
abbrev pub needed : Text → Rule
needed id = record (option id) { required = true }

-- an option without a value
abbrev pub flag : Text → Rule
flag id = record (new_rule id) { long = Some id; action = Some SetTrue }

-- the policy and the schemes
abbrev pub with_documents : App → App
with_documents c = with_rule (with_rule c (place (codes "POLICY"))) (place (codes "SCHEMES"))

-- what is stored
abbrev pub with_stored : App → App
with_stored c = with_rule (with_rule c (option (codes "transactions"))) (option (codes "certificates"))

abbrev pub run : App
run = with_rule (with_documents (with_stored (with_rule (with_rule (with_rule (new_app (codes "run"))
    (flag (codes "table"))) (option (codes "at"))) (option (codes "store"))))) (place (codes "SCRIPT"))

abbrev pub shell : App
shell =
    let named = with_documents (with_stored (with_rule (new_app (codes "shell")) (option (codes "store")))) in
    with_rule (with_rule named (place (codes "LABEL"))) (place (codes "USER"))

abbrev pub serve : App
serve = with_documents (with_stored (with_rule (new_app (codes "serve")) (option (codes "store"))))

abbrev pub turn : App
turn = with_documents (with_rule (with_rule (new_app (codes "turn")) (option (codes "at"))) (needed (codes "store")))

abbrev pub show_policy : App
show_policy = with_documents (new_app (codes "show-policy"))

abbrev pub certify : App
certify = with_rule (with_documents (new_app (codes "certify"))) (place (codes "TRANSACTIONS"))

abbrev pub check : App
check = with_rule (with_rule (with_documents (new_app (codes "check")))
    (place (codes "TRANSACTIONS"))) (place (codes "CERTIFICATES"))

abbrev pub explain : App
explain = with_rule (with_rule (with_documents (new_app (codes "explain")))
    (new_rule (codes "TRANSACTIONS"))) (new_rule (codes "NAME"))

abbrev pub program : App
program =
    let top = new_app (codes "mldb") in
    record top { top = record top.top { subcommand_required = true; has_version = true } }

-- a command of its own for each task
abbrev pub command_line : App
command_line =
    with_subcommand (with_subcommand (with_subcommand
    (with_subcommand (with_subcommand (with_subcommand (with_subcommand
    (with_subcommand program run.top) shell.top) serve.top) turn.top) show_policy.top) certify.top) check.top)
    explain.top

-- ---- jobs

-- the job of a run of the samples, with the script on the standard input
abbrev pub samples : Job
samples = record {
  documents = None;
  files = record { store = None; transactions = None; certificates = None; script = None };
  task = Run None false;
}

-- a flag is among the words
abbrev pub is_flag_set : Option Text → Bool
is_flag_set None = false
is_flag_set (Some t) = bytes_eq t (codes "true")

-- a task, by the name of its command and the values of its arguments
abbrev pub IsTask : Text → List Row → Task → Type 0
IsTask name rows ShowPolicy = name ≡ codes "show-policy"
IsTask name rows (Run at is_table) =
    (name ≡ codes "run") × (named at ≡ first_of (codes "at") rows)
    × (is_table ≡ is_flag_set (first_of (codes "table") rows))
IsTask name rows (Shell label user) =
    (name ≡ codes "shell") × (Some label.now ≡ first_of (codes "LABEL") rows)
    × (Some user.now ≡ first_of (codes "USER") rows)
IsTask name rows Serve = name ≡ codes "serve"
IsTask name rows (Turn at) =
    (name ≡ codes "turn") × (named at ≡ first_of (codes "at") rows) × (is_some (first_of (codes "store") rows) ≡ true)
IsTask name rows Certify = (name ≡ codes "certify") × (is_some (first_of (codes "TRANSACTIONS") rows) ≡ true)
IsTask name rows Check =
    (name ≡ codes "check") × (is_some (first_of (codes "TRANSACTIONS") rows) ≡ true)
    × (is_some (first_of (codes "CERTIFICATES") rows) ≡ true)
IsTask name rows Picture = (name ≡ codes "explain") × (is_some (first_of (codes "TRANSACTIONS") rows) ≡ false)
IsTask name rows (Explain only) =
    (name ≡ codes "explain") × (is_some (first_of (codes "TRANSACTIONS") rows) ≡ true)
    × (named only ≡ first_of (codes "NAME") rows)

-- files, by what names each
pub record AreNamed (files : Files) (store transactions certificates script : Option Text) : Type 0 where
  pub store_is : named files.store ≡ store
  pub transactions_are : named files.transactions ≡ transactions
  pub certificates_are : named files.certificates ≡ certificates
  pub script_is : named files.script ≡ script

-- the files of a task, by the values of its command's arguments
abbrev pub AreFilesOf : List Row → Task → Files → Type 0
AreFilesOf rows (Run at is_table) files =
    AreNamed files (first_of (codes "store") rows) (first_of (codes "transactions") rows)
    (first_of (codes "certificates") rows) (first_of (codes "SCRIPT") rows)
AreFilesOf rows (Shell label user) files =
    AreNamed files (first_of (codes "store") rows) (first_of (codes "transactions") rows)
    (first_of (codes "certificates") rows) (first_of (codes "SCRIPT") rows)
AreFilesOf rows Serve files =
    AreNamed files (first_of (codes "store") rows) (first_of (codes "transactions") rows)
    (first_of (codes "certificates") rows) (first_of (codes "SCRIPT") rows)
AreFilesOf rows (Turn at) files = AreNamed files (first_of (codes "store") rows) None None None
AreFilesOf rows Certify files = AreNamed files None (first_of (codes "TRANSACTIONS") rows) None None
AreFilesOf rows Check files =
    AreNamed files None (first_of (codes "TRANSACTIONS") rows) (first_of (codes "CERTIFICATES") rows) None
AreFilesOf rows (Explain only) files = AreNamed files None (first_of (codes "TRANSACTIONS") rows) None None
AreFilesOf rows task files = AreNamed files None None None None

-- it is done under the files that are named
pub record IsCommand (name : Text) (rows : List Row) (job : Job) : Type 0 where
  pub documents : Documents
  pub documents_are : job.documents ≡ Some documents
  pub policy : Some documents.policy.now ≡ first_of (codes "POLICY") rows
  pub schemes : Some documents.schemes.now ≡ first_of (codes "SCHEMES") rows
  pub task : IsTask name rows job.task
  pub files : AreFilesOf rows job.task job.files

abbrev pub IsCommandOf : Option (Text × List Row) → Job → Type 0
IsCommandOf None job = ⊥
IsCommandOf (Some c) job = IsCommand c.0 c.1 job

-- the samples without any word after the name of the program; and else what the command among the words says, where the
-- parser of the command line finds no fault in any of them
pub record Asks (words : List Text) (job : Job) : Type 0 where
  pub samples_are : length words < 2 → job ≡ samples
  pub command_is : 2 ≤ length words → IsCommandOf (subcommand_of command_line words) job
  pub taken : 2 ≤ length words → fault_of command_line words ≡ []

-- there are words, and they ask for no job; or there was no memory to read them
abbrev pub AskNothing : List Text → Usage → Type 0
AskNothing words (usage.Text text) = (2 ≤ length words) × ((job : Job) → Asks words job → ⊥)
AskNothing words usage.Memory = ⊤

-- the name of the label for which alone a task prints
abbrev pub at_of : Task → Option (List ℕ)
at_of (Run at is_table) = named at
at_of (Shell label user) = Some label.now
at_of (Turn at) = named at
at_of _ = None

-- ---- what is said

abbrev pub memory_text : List ℕ
memory_text = codes "mldb: memory\n"

abbrev pub usage_text : Usage → List ℕ
usage_text (usage.Text text) = string_bytes text
usage_text usage.Memory = memory_text

abbrev pub usage_status : Usage → ℕ
usage_status (usage.Text text) = 2
usage_status usage.Memory = 3
