-- What queries find: rows of the view, in its order, each once; and of each key a highest one.
use Rattle.std.specs.Prelude.{◌≡◌, ℕ, true, List, [], ◌∷◌, length, ◌⊎◌, ⊤}
use Rattle.mls_lattice.specs.Labels.{Labels}
use Rattle.mls_lattice.specs.Lattice.{◌⊑◌}
use Rattle.mls_scheme.specs.declared.tuple.Tuple.{Tuple}
use Rattle.mls_scheme.specs.Tuple.{tuple_class}
use Rattle.mls_scheme.specs.Scheme.{scheme_of}
use Rattle.mls_filterview.specs.View.{rows, IsAmong}
use Rattle.mls_lattice.specs.Policy.{Name}
use Rattle.mls_translang.specs.declared.query.Query.{Query}
use Rattle.mls_translang.specs.declared.event.Command.TheVariants.{View}
use Rattle.mls_queries.specs.Query.{tops, found}
use Rattle.mls_certcheck.specs.Site.{Site}
use Rattle.mls_machine.specs.declared.reply.Reply.TheVariants.{Rows}
use Rattle.mls_machine.specs.Output.{count_text, reply_texts}

-- the elements of a list stand in another in the same order, each at a place of its own
abbrev pub IsSublist : {A : Type 0} → List A → List A → Type 0
IsSublist [] ys = ⊤
IsSublist (x ∷ xs) [] = ⊥
IsSublist (x ∷ xs) (y ∷ ys) = ((x ≡ y) × IsSublist xs ys) ⊎ IsSublist (x ∷ xs) ys

-- what is found are rows of the view in its order, none more often than it stands there
abbrev pub FoundAreRowsInOrder : Type 0
FoundAreRowsInOrder = (ls : Labels) (q : Query) (ts : List Tuple) → IsSublist (found ls q ts) ts

-- what is told where rows are counted is how many would be found
abbrev pub CountsAreLengths : Type 0
CountsAreLengths =
    (site : Site) (session : Name) (relation label : ℕ) (q : Query) (ts : List Tuple)
    → reply_texts site session (View relation label q true) (Rows ts)
    ≡ count_text site.policy (scheme_of site.schemes relation) label q (length ts) ∷ []

-- of each row one of its key is among the highest, whose class dominates its own
abbrev pub HighestKeepEachKey : Type 0
HighestKeepEachKey =
    (ls : Labels) (ts : List Tuple) (t : Tuple) → IsAmong t ts
    → (s : Tuple) × IsAmong s (tops ls ts) × (s.key ≡ t.key) × (tuple_class ls t ⊑ tuple_class ls s ≡ true)
