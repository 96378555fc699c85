-- The tokens that tell an event.
use Rattle.std.specs.Prelude.{ℕ, pos, List, [], ◌∷◌, ◌++◌, Option, Some, None, codes}
use Rattle.mls_lattice.specs.Canon.{label_name}
use Rattle.mls_lattice.specs.Policy.{Policy}
use Rattle.mls_scheme.specs.declared.value.Value.{Value}
use Rattle.mls_scheme.specs.declared.value.Value.TheVariants as values
use Rattle.mls_scheme.specs.Scheme.{Scheme, Schemes, scheme_of, other_of}
use Rattle.mls_scheme.specs.declared.write.Write.{Write as WriteOf}
use Rattle.mls_scheme.specs.declared.write.Write.TheVariants.{Insert, Update, Delete}
use Rattle.mls_tokens.specs.declared.token.Token.{Token}
use Rattle.mls_tokens.specs.declared.token.Token.TheVariants.{Word, Int, Text, Sign}
use Rattle.mls_tokens.specs.Text.{separated}
use Rattle.mls_tokens.specs.declared.sign.Sign.TheVariants.{LeftParen, RightParen, LeftBrace, Equals}
use Rattle.mls_translang.specs.declared.event.Event.{Event}
use Rattle.mls_translang.specs.declared.event.Command.{Command}
use Rattle.mls_translang.specs.declared.event.Command.TheVariants as commands
use Rattle.mls_translang.specs.declared.event.One.{One}
use Rattle.mls_translang.specs.declared.event.One.TheVariants as ones
use Rattle.mls_translang.specs.Writing.{relation_name}
use Rattle.mls_script.specs.Grammar.{verb_word, verb_of, one_word, verb_of_one}

-- ---- values, and new values

abbrev pub value_token : Option Value → Token
value_token None = Word (codes "null")
value_token (Some (values.Int n)) = Int n
value_token (Some (values.Text s)) = Text s

abbrev pub list_tokens : List (Option Value) → List Token
list_tokens vs = Sign LeftParen ∷ (separated (λ v. value_token v ∷ []) vs ++ Sign RightParen ∷ [])

-- the name of an attribute outside the key, and its new value
abbrev pub set_tokens : Scheme → ℕ × Option Value → List Token
set_tokens scheme s = Word (other_of scheme s.0).0 ∷ Sign Equals ∷ value_token s.1 ∷ []

-- ---- a line

-- the text of a time, where there is one
abbrev pub time_tokens : Option (List ℕ) → List Token
time_tokens None = []
time_tokens (Some time) = Text time ∷ []

module _ (policy : Policy) (schemes : Schemes) where
  abbrev pub label_token : ℕ → Token
  label_token label = Word (label_name policy.labels label)

  abbrev pub relation_token : ℕ → Token
  relation_token relation = Word (relation_name schemes relation)

  -- a relation and a key of it
  abbrev pub keyed_tokens : ℕ → List (Option Value) → List Token
  keyed_tokens relation key = relation_token relation ∷ Word (codes "key") ∷ list_tokens key

  -- what is looked at, and where
  abbrev pub look_tokens : ℕ → ℕ → List Token
  look_tokens relation label = relation_token relation ∷ Word (codes "at") ∷ label_token label ∷ []

  -- a write, behind its verb
  abbrev pub write_tokens : ℕ → WriteOf (Option Value) → List Token
  write_tokens relation (Insert key values) = keyed_tokens relation key ++ Word (codes "values") ∷ list_tokens values
  write_tokens relation (Update key key_class from sets) =
      keyed_tokens relation key
      ++ Word (codes "class") ∷ label_token key_class ∷ Word (codes "from") ∷ label_token from
      ∷ Word (codes "set") ∷ separated (set_tokens (scheme_of schemes relation)) sets
  write_tokens relation (Delete key key_class) =
      keyed_tokens relation key ++ Word (codes "class") ∷ label_token key_class ∷ []

  -- a command of a batch, behind its verb; its query stands behind these
  abbrev pub one_tokens : One → List Token
  one_tokens (ones.View relation label query counts) = look_tokens relation label
  one_tokens (ones.Expect rows relation label query) =
      Int (pos rows) ∷ Word (codes "count") ∷ look_tokens relation label
  one_tokens (ones.Write relation write) = write_tokens relation write

  -- behind the verb; the query of a view, and the commands of a batch, stand behind these
  abbrev pub command_tokens : Command → List Token
  command_tokens (commands.Open user) = Word user ∷ []
  command_tokens commands.Close = []
  command_tokens commands.Audit = []
  command_tokens (commands.View relation label query counts) = look_tokens relation label
  command_tokens (commands.Dump relation) = relation_token relation ∷ []
  command_tokens (commands.Write relation write) = write_tokens relation write
  command_tokens (commands.Call tx args) = Word tx ∷ list_tokens args
  command_tokens (commands.All batch) = Sign LeftBrace ∷ []

  -- the level, the session, the verb and what follows it, behind any time
  abbrev pub event_tokens : Event → List Token
  event_tokens e =
      label_token e.level ∷ Word e.session ∷ Word (verb_word (verb_of e.command)) ∷ command_tokens e.command

  -- the verb of a command of a batch, and what follows it
  abbrev pub verb_and_one : One → List Token
  verb_and_one one = Word (one_word (verb_of_one one)) ∷ one_tokens one
