-- Words of another command.
use Rattle.std.specs.Prelude.{Bool, ◌&&◌, ◌||◌, if◌then◌else◌, List, [], ◌∷◌, codes, Option, Some, None, bytes_eq}
use Rattle.clap.specs.Words.{Text}

-- ---- the words of another command, which are explained

-- the commands whose inputs can be explained
abbrev pub is_other_command : Text → Bool
is_other_command name =
    bytes_eq name (codes "run") || bytes_eq name (codes "shell") || bytes_eq name (codes "serve")
    || bytes_eq name (codes "turn") || bytes_eq name (codes "show-policy") || bytes_eq name (codes "certify")
    || bytes_eq name (codes "check")

-- `explain` and the name of another command behind it
abbrev pub is_explained : Text → Text → Bool
is_explained first second = bytes_eq first (codes "explain") && is_other_command second

-- the words of that command, behind the program's name
abbrev pub explained_of : List Text → Option (List Text)
explained_of [] = None
explained_of (called ∷ []) = None
explained_of (called ∷ first ∷ []) = None
explained_of (called ∷ first ∷ second ∷ words) =
    if is_explained first second then Some (called ∷ second ∷ words) else None
