-- Marks are lines that begin with an equals sign, and what a desk writes is answers, each with its mark.
use Rattle.std.proofs.Common.{◌≡◌, ℕ, Bool, true, false, cond, List, [], ◌∷◌, ◌++◌, refl, sym, ap, ◌∙◌, append_assoc, append-nil, inl, inr, arith, All, codes, flat_map, filter, decimal}
use Rattle.std.specs.List.{AllByRecursion, slice_split}
use Rattle.std.proofs.lemmas.List.Folds.{list_any-append}
use Rattle.std.proofs.lemmas.List.Elements.{All-cons, filter-append}
use Rattle.std.proofs.lemmas.List.Splits.{slice_split_at}
use Rattle.mls_lattice.specs.Policy.{IsPolicy}
use Rattle.mls_scheme.specs.Scheme.{AreSchemes}
use Rattle.mls_certcheck.specs.Site.{Site}
use Rattle.mls_script.specs.declared.fault.ScriptCause.{ScriptCause}
use Rattle.mls_script.specs.declared.fault.ScriptCause.TheVariants as causes
use Rattle.mls_script.specs.declared.fault.ScriptFault.{ScriptFault}
use Rattle.mls_script.specs.Fault.{code_of, word_of}
use Rattle.mls_machine.specs.Machine.{World, end_of}
use Rattle.mls_machine.specs.Parting.{is_line_feed, IsOneLine}
use Rattle.mls_machine.specs.Serving.{answers_to}
use Rattle.mls_machine.proofs.OneLineLemmas.{one_line-decimal, first_of, second_of}
use Rattle.mls_runs.specs.declared.shell_session.Fate.{Fate}
use Rattle.mls_runs.specs.declared.shell_session.Fate.TheVariants as fates
use Rattle.mls_runs.specs.Shell.{Turn, events_of}
use Rattle.mls_runs.specs.Marks.{mark_of}
use Rattle.mls_runs.specs.Desk.{desk}
use Rattle.mls_stops.specs.AnswerLines.{is_marked, ended, AreWholeLines}
use Rattle.mls_stops.specs.Marks.{MarksAreLines, OnlyMarksAreMarked}
use Rattle.mls_stops.proofs.AnswerLineLemmas.{answers_are_unmarked}

-- ---- marks

cause_line : (cause : ScriptCause) → IsOneLine (word_of cause)
cause_line causes.Token = refl
cause_line _ = refl

refused_text : ScriptFault → List ℕ
refused_text fault = codes "= " ++ decimal (code_of fault.cause) ++ codes " " ++ word_of fault.cause ++ codes " at "
    ++ decimal fault.column

refused_line : (fault : ScriptFault) → IsOneLine (refused_text fault)
unfolding refused_text
refused_line fault = simp (
  list_any-append,
  one_line-decimal (code_of fault.cause),
  cause_line fault.cause,
  one_line-decimal fault.column,
)

pub marks_are_lines : MarksAreLines
unfolding refused_text
marks_are_lines fates.Over = inl refl
marks_are_lines (fates.Refused fault) = inr (
  refused_text fault,
  (
    sym (append-nil (refused_text fault ++ codes "\n")),
    ((refused_line fault, refl), tt),
  ),
)
marks_are_lines fates.TooLong = inr (codes "= too long", (refl, ((refl, refl), tt)))
marks_are_lines fates.Unreadable = inl refl
marks_are_lines (fates.Lost cause) = inl refl
marks_are_lines fates.Blank = inr (codes "=", (refl, ((refl, refl), tt)))
marks_are_lines fates.Help = inr (codes "=", (refl, ((refl, refl), tt)))
marks_are_lines fates.Asked = inr (codes "=", (refl, ((refl, refl), tt)))
marks_are_lines (fates.Said events) = inr (codes "=", (refl, ((refl, refl), tt)))

-- ---- lines before more

no_feed : (xs : List ℕ) → IsOneLine xs → All (λ b. is_line_feed b ≡ false) xs
no_feed [] h = λ k d l. absurd (omega arith)
no_feed (x ∷ xs) h = All-cons (λ b. is_line_feed b ≡ false) x xs (first_of (is_line_feed x) _ h)
    (no_feed xs (second_of (is_line_feed x) _ h))

abbrev parts : List ℕ → List (List ℕ)
parts text = slice_split is_line_feed text

parts_behind : (marked : Bool) (text : List ℕ) (lines : List (List ℕ)) → AreWholeLines marked text lines
    → (rest : List ℕ) → parts (text ++ rest) ≡ lines ++ parts rest
parts_behind marked text lines h rest = ap (λ t. parts (t ++ rest)) h.0 ∙ each lines h.1
  where
    each : (lines : List (List ℕ)) → AllByRecursion (λ line. IsOneLine line × (is_marked line ≡ marked)) lines
        → parts (ended lines ++ rest) ≡ lines ++ parts rest
    each [] k = refl
    each (line ∷ lines) k =
        ap parts (append_assoc (line ++ codes "\n") (ended lines) rest ∙ append_assoc line (codes "\n")
        (ended lines ++ rest))
        ∙ slice_split_at is_line_feed line 10 (ended lines ++ rest) (no_feed line k.0.0) refl
        ∙ ap (λ ls. line ∷ ls) (each lines k.1)

all_marked : (marked : Bool) (lines : List (List ℕ)) → AllByRecursion (λ line. IsOneLine line
    × (is_marked line ≡ marked)) lines → filter is_marked lines ≡ cond marked lines []
all_marked true [] h = refl
all_marked false [] h = refl
all_marked true (line ∷ lines) h = ap (λ b. cond b (line ∷ filter is_marked lines) (filter is_marked lines)) h.0.1
    ∙ ap (λ ls. line ∷ ls) (all_marked true lines h.1)
all_marked false (line ∷ lines) h = ap (λ b. cond b (line ∷ filter is_marked lines) (filter is_marked lines)) h.0.1
    ∙ all_marked false lines h.1

-- the lines of a mark
mark_lines : (fate : Fate) → (lines : List (List ℕ)) × AreWholeLines true (mark_of fate) lines
mark_lines fate = elim (marks_are_lines fate) [ inl none ↦ ([], (none, tt)) | inr one ↦ (one.0 ∷ [], one.1) ]

marks_of : List Turn → List ℕ
marks_of turns = flat_map (λ (t : Turn). mark_of t.fate) turns

module _ (site : Site) (policy : IsPolicy site.policy) (schemes : AreSchemes site.schemes) where
  -- an answer and its mark, before what comes behind them
  one_turn : (w : World) (t : Turn) → t.shown ≡ [] → (rest marks : List ℕ) → filter is_marked (parts rest) ++ [] ∷ []
      ≡ parts marks
      → filter is_marked (parts (((t.shown ++ answers_to site w (events_of t.fate)) ++ mark_of t.fate) ++ rest)) ++ []
      ∷ [] ≡ parts (mark_of t.fate ++ marks)
  one_turn w t none rest marks h =
      let answer = answers_to site w (events_of t.fate) in
      let plain = answers_are_unmarked site policy schemes w (events_of t.fate) in
      let mark = mark_lines t.fate in
      let text : ((t.shown ++ answer) ++ mark_of t.fate) ++ rest ≡ answer ++ (mark_of t.fate ++ rest)
      = ap (λ s. ((s ++ answer) ++ mark_of t.fate) ++ rest) none ∙ append_assoc answer (mark_of t.fate) rest in
      let lines : parts (((t.shown ++ answer) ++ mark_of t.fate) ++ rest) ≡ plain.0 ++ (mark.0 ++ parts rest)
      = ap parts text ∙ parts_behind false answer plain.0 plain.1 (mark_of t.fate ++ rest) ∙ ap (λ ls. plain.0 ++ ls)
      (parts_behind true (mark_of t.fate) mark.0 mark.1 rest) in
      let left : filter is_marked (plain.0 ++ (mark.0 ++ parts rest)) ≡ mark.0 ++ filter is_marked (parts rest)
      = filter-append is_marked plain.0 (mark.0 ++ parts rest)
      ∙ ap (λ ls. ls ++ filter is_marked (mark.0 ++ parts rest)) (all_marked false plain.0 plain.1.1)
      ∙ filter-append is_marked mark.0 (parts rest) ∙ ap (λ ls. ls ++ filter is_marked (parts rest))
      (all_marked true mark.0 mark.1.1) in
      ap (λ ls. filter is_marked ls ++ [] ∷ []) lines ∙ ap (λ ls. ls ++ [] ∷ []) left ∙ append_assoc mark.0
      (filter is_marked (parts rest)) ([] ∷ [])
      ∙ ap (λ ls. mark.0 ++ ls) h ∙ sym (parts_behind true (mark_of t.fate) mark.0 mark.1 marks)

  desk_marks : (w : World) (turns : List Turn) → AllByRecursion (λ t. t.shown ≡ []) turns
      → filter is_marked (parts (desk site w turns)) ++ [] ∷ [] ≡ parts (marks_of turns)
  unfolding desk marks_of
  desk_marks w [] h = refl
  desk_marks w (t ∷ ts) h =
      let later = end_of site w (events_of t.fate) in
      one_turn w t h.0 (desk site later ts) (marks_of ts) (desk_marks later ts h.1)

pub only_marks_are_marked : OnlyMarksAreMarked
unfolding marks_of
only_marks_are_marked site policy schemes w turns h = desk_marks site policy schemes w turns h
