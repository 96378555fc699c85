-- Marks among answers: of the lines that a desk writes only its marks begin with an equals sign.
use Rattle.std.specs.Prelude.{◌≡◌, ℕ, true, List, [], ◌∷◌, ◌++◌, ◌⊎◌, filter, flat_map}
use Rattle.std.specs.List.{AllByRecursion, slice_split}
use Rattle.mls_lattice.specs.Policy.{IsPolicy}
use Rattle.mls_scheme.specs.Scheme.{AreSchemes}
use Rattle.mls_certcheck.specs.Site.{Site}
use Rattle.mls_machine.specs.Machine.{World}
use Rattle.mls_machine.specs.Parting.{is_line_feed}
use Rattle.mls_runs.specs.declared.shell_session.Fate.{Fate}
use Rattle.mls_runs.specs.Shell.{Turn}
use Rattle.mls_runs.specs.Marks.{mark_of}
use Rattle.mls_runs.specs.Desk.{desk}
use Rattle.mls_stops.specs.AnswerLines.{is_marked, AreWholeLines}

-- ---- laws

-- a mark is one line that begins with an equals sign, or nothing
abbrev pub MarksAreLines : Type 0
MarksAreLines = (fate : Fate) → (mark_of fate ≡ []) ⊎ ((line : List ℕ) × AreWholeLines true (mark_of fate) (line ∷ []))

-- what a desk writes that shows no line again, parted at its line feeds: the lines that begin with an equals sign are
-- the marks, in order
abbrev pub OnlyMarksAreMarked : Type 0
OnlyMarksAreMarked =
    (site : Site) → IsPolicy site.policy → AreSchemes site.schemes
    → (w : World) (turns : List Turn) → AllByRecursion (λ t. t.shown ≡ []) turns
    → filter is_marked (slice_split is_line_feed (desk site w turns)) ++ [] ∷ []
    ≡ slice_split is_line_feed (flat_map (λ t. mark_of t.fate) turns)
