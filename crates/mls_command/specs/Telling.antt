-- What is told of an input that is refused: the line that the command tells; the place of the fault; and more, for
-- people.
use Rattle.std.specs.Prelude.{◌≡◌, ◌⊎◌, ℕ, List, ◌++◌, Option, Some, None, option_map, ⊤}
use Rattle.mls_host.specs.declared.words.Documents.{Documents}
use Rattle.mls_host.specs.declared.words.Job.{Job}
use Rattle.mls_host.specs.Words.{named}
use Rattle.mls_host.specs.declared.reason.Role.{Role}
use Rattle.mls_host.specs.declared.reason.Role.TheVariants as role
use Rattle.mls_host.specs.declared.reason.Reason.{Reason}
use Rattle.mls_host.specs.declared.reason.Reason.TheVariants.{Unreadable, TooLong, Policy, Schemes, Transactions}
use Rattle.mls_host.specs.declared.reason.Reason.TheVariants.{Certificates, Script}
use Rattle.mls_host.specs.Reason.{reason_text}
use Rattle.mls_advice.specs.Excerpt.{Begins, place_line, file_line}
use Rattle.mls_command.specs.declared.paths.Location.{Location}

-- texts are refused at a column, certificates at a line
abbrev pub location_of : Reason → Option Location
location_of (Transactions f) = Some (record { line = f.line; column = Some f.column })
location_of (Certificates f) = Some (record { line = f.line; column = None })
location_of (Script f) = Some (record { line = f.line; column = Some f.column })
location_of reason = None

-- which input it is
abbrev pub role_of : Reason → Option Role
role_of (Unreadable r) = Some r
role_of (TooLong r) = Some r
role_of (Policy f) = Some role.Policy
role_of (Schemes f) = Some role.Schemes
role_of (Transactions f) = Some role.Transactions
role_of (Certificates f) = Some role.Certificates
role_of (Script f) = Some role.Script
role_of reason = None

abbrev pub policy_of : Option Documents → Option (List ℕ)
policy_of = option_map (λ d. d.policy.now)

abbrev pub schemes_of : Option Documents → Option (List ℕ)
schemes_of = option_map (λ d. d.schemes.now)

-- the file of an input
abbrev pub path_of : Job → Role → Option (List ℕ)
path_of job role.Policy = policy_of job.documents
path_of job role.Schemes = schemes_of job.documents
path_of job role.Transactions = named job.files.transactions
path_of job role.Certificates = named job.files.certificates
path_of job role.Script = named job.files.script
path_of job role.Store = None

abbrev pub path_if : Job → Option Role → Option (List ℕ)
path_if job None = None
path_if job (Some r) = path_of job r

-- the file that is refused
abbrev pub source_of : Job → Reason → Option (List ℕ)
source_of job reason = path_if job (role_of reason)

-- the lines of a file begin with the place of the fault in it, or, where the file is not given once more, with its name
abbrev pub IsLocationTold : Option (List ℕ) → Option Location → List ℕ → Type 0
IsLocationTold None location lines = ⊤
IsLocationTold (Some path) None lines = ⊤
IsLocationTold (Some path) (Some location) lines =
    Begins (place_line path location.line location.column) lines ⊎ Begins (file_line path) lines

-- all that is told: the line that the command tells; and lines that begin with the place of the fault
pub record IsToldOf (job : Job) (reason : Reason) (text : List ℕ) : Type 0 where
  pub lines : List ℕ
  pub lines_are : IsLocationTold (source_of job reason) (location_of reason) lines
  pub text_is : text ≡ reason_text reason ++ lines
