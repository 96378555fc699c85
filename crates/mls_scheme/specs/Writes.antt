-- What writes have in common, whatever their operands are.
use Rattle.std.specs.Prelude.{ℕ, List, ◌++◌, map}
use Rattle.mls_scheme.specs.declared.write.Write.{Write}
use Rattle.mls_scheme.specs.declared.write.Write.TheVariants.{Insert, Update, Delete}

abbrev pub key_of : {E : Type 0} → Write E → List E
key_of (Insert key values) = key
key_of (Update key key_class from sets) = key
key_of (Delete key key_class) = key

-- the key class; a new tuple has that of the label that it is written at
abbrev pub key_class_of : {E : Type 0} → ℕ → Write E → ℕ
key_class_of w (Insert key values) = w
key_class_of w (Update key key_class from sets) = key_class
key_class_of w (Delete key key_class) = key_class

-- the key first
abbrev pub operands : {E : Type 0} → Write E → List E
operands (Insert key values) = key ++ values
operands (Update key key_class from sets) = key ++ map (λ s. s.1) sets
operands (Delete key key_class) = key
