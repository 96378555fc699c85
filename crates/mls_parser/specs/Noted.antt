-- What is read from the tokens that are left, while faults of names and kinds are noted; or the fault of its form.
use Rattle.std.specs.Prelude.{◌≡◌, ℕ, List, ◌++◌, Option, Result, Ok, Err, is_some, option_map}
use Rattle.mls_lattice.specs.Policy.{Policy}
use Rattle.mls_lattice.specs.Reading.{◌>>=◌, GivesUnless}
use Rattle.mls_scheme.specs.Scheme.{Schemes}
use Rattle.mls_tokens.specs.declared.fault.TokenFault.{TokenFault}
use Rattle.mls_tokens.specs.declared.sign.Sign.{Sign}
use Rattle.mls_tokens.specs.Scanning.{Left}
use Rattle.mls_tokens.specs.Passing.{is_sign, is_word, taken, pass, PlacedName, pass_name}
use Rattle.mls_parser.specs.declared.fault.TextCause.TheVariants.{UnknownName, Memory}
use Rattle.mls_parser.specs.declared.fault.PlacedFault.{PlacedFault}
use Rattle.mls_parser.specs.Fault.{unless, lifted}
use Rattle.mls_parser.specs.Names.{label_named, relation_named, numbered}

-- the faults that were noted, and what is left
abbrev pub State : Type 0
State = List PlacedFault × Left

-- what is read, and the state behind it
abbrev pub Read : Type 0 → Type 0
Read X = Result (X × State) PlacedFault

abbrev pub note : List PlacedFault → State → State
note more s = (s.0 ++ more, s.1)

-- ---- tokens

module _ {X : Type 0} where
  abbrev pub in_state : List PlacedFault → Result (X × Left) TokenFault → Read X
  in_state faults (Ok x) = Ok (x.0, (faults, x.1))
  in_state faults (Err e) = Err (lifted e)

  abbrev pub token : (Left → Result (X × Left) TokenFault) → State → Read X
  token read s = in_state s.0 (read s.1)

-- the place of the next token and what is left behind it, if a test takes it
abbrev pub behind : List PlacedFault → ℕ × Left → ℕ × State
behind faults x = (x.0, (faults, x.1))

abbrev pub takes_sign : Sign → State → Option (ℕ × State)
takes_sign sign s = option_map (behind s.0) (taken (is_sign sign) s.1)

abbrev pub takes_word : List ℕ → State → Option (ℕ × State)
takes_word word s = option_map (behind s.0) (taken (is_word word) s.1)

abbrev pub sign_at : Sign → State → Read ℕ
sign_at sign s = token (pass (is_sign sign)) s

abbrev pub word_at : List ℕ → State → Read ℕ
word_at word s = token (pass (is_word word)) s

abbrev pub name_at : State → Read PlacedName
name_at s = token pass_name s

-- a word, and a name behind it
abbrev pub name_behind : List ℕ → State → Read PlacedName
name_behind word s = word_at word s >>= λ w. name_at w.1

-- ---- names

-- a name that has to stand for something
abbrev pub known : {X : Type 0} → Option X → ℕ → List PlacedFault
known meaning at = unless (is_some meaning) at UnknownName

-- the number of a label or a relation, by its name
abbrev pub label_of : Policy → Read PlacedName → Read ℕ
label_of policy r =
    r >>= λ n. Ok (numbered (label_named policy n.0.0), note (known (label_named policy n.0.0) n.0.1) n.1)

unfoldable pub label_at : Policy → State → Read ℕ
label_at policy s = label_of policy (name_at s)

unfoldable pub label_behind : Policy → List ℕ → State → Read ℕ
label_behind policy word s = label_of policy (name_behind word s)

unfoldable pub relation_at : Schemes → State → Read ℕ
relation_at schemes s =
    name_at s
    >>= λ n. Ok (numbered (relation_named schemes n.0.0), note (known (relation_named schemes n.0.0) n.0.1) n.1)

-- What a function returned, seen by view, is what reading gives, unless memory ran out.
abbrev pub GivesPlaced : {X Y : Type 0} → (X → Y) → Result X PlacedFault → Result Y PlacedFault → Type 0
GivesPlaced = GivesUnless (λ e. e.cause ≡ Memory)
