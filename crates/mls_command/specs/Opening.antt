-- Whether the session of a shell would be opened.
use Rattle.std.specs.Prelude.{ℕ, List, [], ◌++◌, Option, Some, None, Result, Ok, Err, codes, decimal}
use Rattle.mls_lattice.specs.Policy.{Policy}
use Rattle.mls_machine.specs.Denying.{cleared, user_named}
use Rattle.mls_machine.specs.Reply.{code_of, word_of}
use Rattle.mls_certcheck.specs.Site.{site_of}
use Rattle.mls_machine.specs.declared.reply.Denial.{Denial}
use Rattle.mls_host.specs.declared.words.Task.{Task}
use Rattle.mls_host.specs.declared.words.Task.TheVariants.{Shell}

abbrev pub denial_of : Result ℕ Denial → Option Denial
denial_of (Ok user) = None
denial_of (Err denial) = Some denial

-- why the machine would deny a user's session at a level, whatever is stored
abbrev pub denial_at : Policy → ℕ → List ℕ → Option Denial
denial_at policy level user = denial_of (cleared (site_of policy [] []) level (user_named policy user))

-- the same of the session that a shell is to open; no other task opens one by its words
abbrev pub opening_denial : Policy → Option ℕ → Task → Option Denial
opening_denial policy (Some level) (Shell label user) = denial_at policy level user.now
opening_denial policy reader task = None

-- the line that tells it
unfoldable pub denial_text : Denial → List ℕ
denial_text denial = codes "mldb: user: " ++ (decimal (code_of denial) ++ (codes " " ++ (word_of denial ++ codes "\n")))
