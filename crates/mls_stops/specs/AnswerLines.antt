-- The lines of answers: none of them begins with an equals sign.
use Rattle.std.specs.Prelude.{◌≡◌, ◌==◌, ℕ, Bool, false, List, [], ◌∷◌, ◌++◌, codes, flat_map}
use Rattle.std.specs.List.{AllByRecursion}
use Rattle.mls_lattice.specs.Policy.{IsPolicy}
use Rattle.mls_scheme.specs.Scheme.{AreSchemes}
use Rattle.mls_translang.specs.declared.event.Event.{Event}
use Rattle.mls_certcheck.specs.Site.{Site}
use Rattle.mls_machine.specs.Machine.{World}
use Rattle.mls_machine.specs.Parting.{IsOneLine}
use Rattle.mls_machine.specs.Serving.{answers_to}

-- a line begins with an equals sign
abbrev pub is_marked : List ℕ → Bool
is_marked [] = false
is_marked (b ∷ bs) = b == 61

-- lines, each with its end
abbrev pub ended : List (List ℕ) → List ℕ
ended = flat_map (λ line. line ++ codes "\n")

-- a text is these whole lines, which begin with an equals sign, or do not
abbrev pub AreWholeLines : Bool → List ℕ → List (List ℕ) → Type 0
AreWholeLines marked text lines =
    (text ≡ ended lines) × AllByRecursion (λ line. IsOneLine line × (is_marked line ≡ marked)) lines

-- ---- laws

-- an answer is whole lines, none of which begins with an equals sign
abbrev pub AnswersAreUnmarked : Type 0
AnswersAreUnmarked =
    (site : Site) → IsPolicy site.policy → AreSchemes site.schemes → (w : World) (es : List Event)
    → (lines : List (List ℕ)) × AreWholeLines false (answers_to site w es) lines
