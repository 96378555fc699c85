-- The verbs of commands, by their words, and those of the commands of a batch.
use Rattle.std.specs.Prelude.{ℕ, if◌then◌else◌, List, [], ◌∷◌, codes, Option, Some, None, bytes_eq}
use Rattle.mls_scheme.specs.declared.write.Write.TheVariants as writes
use Rattle.mls_translang.specs.declared.event.Command.{Command}
use Rattle.mls_translang.specs.declared.event.Command.TheVariants as commands
use Rattle.mls_translang.specs.declared.event.One.{One}
use Rattle.mls_translang.specs.declared.event.One.TheVariants as ones
use Rattle.mls_script.specs.declared.grammar.Verb.{Verb}
use Rattle.mls_script.specs.declared.grammar.Verb.TheVariants.{Open, Close, Audit, View, Count, Dump, Insert, Update}
use Rattle.mls_script.specs.declared.grammar.Verb.TheVariants.{Delete, Call, All}
use Rattle.mls_script.specs.declared.grammar.OneVerb.{OneVerb}
use Rattle.mls_script.specs.declared.grammar.OneVerb.TheVariants as of_one

abbrev pub verbs : List Verb
verbs = Open ∷ Close ∷ Audit ∷ View ∷ Count ∷ Dump ∷ Insert ∷ Update ∷ Delete ∷ Call ∷ All ∷ []

abbrev pub verb_word : Verb → List ℕ
verb_word Open = codes "open"
verb_word Close = codes "close"
verb_word Audit = codes "audit"
verb_word View = codes "view"
verb_word Count = codes "count"
verb_word Dump = codes "dump"
verb_word Insert = codes "insert"
verb_word Update = codes "update"
verb_word Delete = codes "delete"
verb_word Call = codes "call"
verb_word All = codes "all"

-- the first of some verbs that has a word
abbrev pub verb_among : List Verb → List ℕ → Option Verb
verb_among [] word = None
verb_among (v ∷ vs) word = if bytes_eq word (verb_word v) then Some v else verb_among vs word

abbrev pub verb_of : Command → Verb
verb_of (commands.Open user) = Open
verb_of commands.Close = Close
verb_of commands.Audit = Audit
verb_of (commands.View relation label query counts) = if counts then Count else View
verb_of (commands.Dump relation) = Dump
verb_of (commands.Write relation (writes.Insert key values)) = Insert
verb_of (commands.Write relation (writes.Update key key_class from sets)) = Update
verb_of (commands.Write relation (writes.Delete key key_class)) = Delete
verb_of (commands.Call tx args) = Call
verb_of (commands.All batch) = All

-- ---- in a batch

abbrev pub one_verbs : List OneVerb
one_verbs = of_one.View ∷ of_one.Count ∷ of_one.Expect ∷ of_one.Insert ∷ of_one.Update ∷ of_one.Delete ∷ []

abbrev pub one_word : OneVerb → List ℕ
one_word of_one.View = codes "view"
one_word of_one.Count = codes "count"
one_word of_one.Expect = codes "expect"
one_word of_one.Insert = codes "insert"
one_word of_one.Update = codes "update"
one_word of_one.Delete = codes "delete"

-- the first of some verbs of a batch that has a word
abbrev pub one_among : List OneVerb → List ℕ → Option OneVerb
one_among [] word = None
one_among (v ∷ vs) word = if bytes_eq word (one_word v) then Some v else one_among vs word

abbrev pub verb_of_one : One → OneVerb
verb_of_one (ones.View relation label query counts) = if counts then of_one.Count else of_one.View
verb_of_one (ones.Expect rows relation label query) = of_one.Expect
verb_of_one (ones.Write relation (writes.Insert key values)) = of_one.Insert
verb_of_one (ones.Write relation (writes.Update key key_class from sets)) = of_one.Update
verb_of_one (ones.Write relation (writes.Delete key key_class)) = of_one.Delete
