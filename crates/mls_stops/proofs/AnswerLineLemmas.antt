-- Answers are whole lines, and none of these begins with an equals sign.
use Rattle.std.proofs.Common.{◌≡◌, ℕ, zero, suc, ◌==◌, Bool, true, false, cond, List, [], ◌∷◌, ◌++◌, map, refl, sym, ap, ◌∙◌, append_assoc, true≢false, eqb-true, codes, filter}
use Rattle.std.specs.List.{AllByRecursion}
use Rattle.std.proofs.lemmas.Bool.{and_parts}
use Rattle.std.proofs.lemmas.Grind.{flat_map-append}
use Rattle.mls_lattice.proofs.EachLemmas.{all, all_zip, all_append, all_map}
use Rattle.mls_lattice.specs.Name.{is_name, is_name_byte}
use Rattle.mls_lattice.specs.Policy.{Named, IsPolicy}
use Rattle.mls_lattice.specs.Canon.{label_name}
use Rattle.mls_scheme.specs.Scheme.{AreSchemes}
use Rattle.mls_tokens.specs.Writing.{printable}
use Rattle.mls_translang.specs.declared.event.Event.{Event}
use Rattle.mls_translang.specs.Writing.{cell_text}
use Rattle.mls_certcheck.specs.Meaning.{Item}
use Rattle.mls_certcheck.specs.Site.{Site, site_labels}
use Rattle.mls_certcheck.proofs.NameLemmas.{name_bytes}
use Rattle.mls_machine.specs.declared.form.Form.TheVariants.{Lines}
use Rattle.mls_machine.specs.declared.reply.Reply.{Reply}
use Rattle.mls_machine.specs.declared.reply.Reply.TheVariants.{Ran}
use Rattle.mls_machine.specs.Machine.{World, step}
use Rattle.mls_machine.specs.Output.{Line, front, line, item_line, item_lines, reply_texts, reply_lines, printed}
use Rattle.mls_machine.specs.Observation.{out}
use Rattle.mls_machine.specs.Serving.{answers_to}
use Rattle.mls_machine.specs.Parting.{IsOneLine}
use Rattle.mls_machine.proofs.PartingLemmas.{policies_plain, replies_whole}
use Rattle.mls_stops.specs.AnswerLines.{is_marked, ended, AreWholeLines, AnswersAreUnmarked}

-- ---- names do not begin with an equals sign

name_unmarked : (bs : List ℕ) → is_name bs ≡ true → is_marked bs ≡ false
name_unmarked [] h = refl
name_unmarked (b ∷ bs) h =
    let first : is_name_byte b ≡ true = (and_parts (is_name_byte b) _ (name_bytes (b ∷ bs) h)).0 in
    elim (b == 61) as (λ x. (b == 61) ≡ x → x ≡ false) [
      | true ↦ λ q. absurd (true≢false (sym first ∙ ap is_name_byte (eqb-true b 61 q)))
      | false ↦ λ q. refl
    ] refl

names_unmarked : (labels : List Named) → AllByRecursion (λ name. is_name name ≡ true) (map (λ l. l.name) labels)
    → (n : ℕ) → is_marked (label_name labels n) ≡ false
names_unmarked [] h n = refl
names_unmarked (l ∷ labels) h zero = name_unmarked l.name h.0
names_unmarked (l ∷ labels) h (suc n) = names_unmarked labels h.1 n

-- a name, a space and more
unmarked_front : (name rest : List ℕ) → is_marked name ≡ false → is_marked (name ++ 32 ∷ rest) ≡ false
unmarked_front [] rest h = refl
unmarked_front (b ∷ name) rest h = h

-- ---- lines

abbrev Unmarked : Line → Type 0
Unmarked l = is_marked l.text ≡ false

-- what a filter leaves
left_by : {A : Type 0} (P : A → Type 0) (p : A → Bool) (xs : List A) → AllByRecursion P xs
    → AllByRecursion P (filter p xs)
left_by P p [] h = tt
left_by P p (x ∷ xs) h = elim (p x) as (λ b. AllByRecursion P (cond b (x ∷ filter p xs) (filter p xs))) [
  | true ↦ (
    h.0,
    left_by P p xs h.1,
  )
  | false ↦ left_by P p xs h.1
]

module _ (site : Site) (policy : IsPolicy site.policy) (schemes : AreSchemes site.schemes) where
  begins : (e : Event) (label : ℕ) (text : List ℕ)
      → front site.policy e label ++ text ≡ label_name site.policy.labels label ++ 32
      ∷ (label_name site.policy.labels e.level ++ codes "/" ++ printable e.session ++ codes " " ++ text)
  begins e label text = simp (append_assoc)

  unmarked_line : (e : Event) (label : ℕ) (text : List ℕ) → Unmarked (line site.policy e label text)
  unmarked_line e label text =
      ap is_marked (begins e label text)
      ∙ unmarked_front (label_name site.policy.labels label) (label_name site.policy.labels e.level ++ codes "/"
      ++ printable e.session ++ codes " " ++ text)
      (names_unmarked site.policy.labels policy.label_names label)

  unmarked_items : (e : Event) (r : Reply) → AllByRecursion Unmarked (item_lines site.policy e r)
  unmarked_items e (Ran run) =
      all_append Unmarked (map (item_line site.policy e (codes "emit ")) run.emitted)
      (map (item_line site.policy e (codes "release ")) run.released)
      (all_map Unmarked (item_line site.policy e (codes "emit ")) run.emitted
      (all _ (λ (i : Item). unmarked_line e i.0 (codes "emit " ++ cell_text i.1)) run.emitted))
      (all_map Unmarked (item_line site.policy e (codes "release ")) run.released
      (all _ (λ (i : Item). unmarked_line e i.0 (codes "release " ++ cell_text i.1)) run.released))
  unmarked_items e _ = tt

  unmarked_reply : (e : Event) (r : Reply) → AllByRecursion Unmarked (reply_lines site e r)
  unmarked_reply e r =
      let texts = reply_texts site e.session e.command r in
      all_append Unmarked (map (line site.policy e e.level) texts) (item_lines site.policy e r)
      (all_map Unmarked (line site.policy e e.level) texts
      (all _ (λ (text : List ℕ). unmarked_line e e.level text) texts))
      (unmarked_items e r)

  -- ---- answers

  abbrev Fit : List ℕ → Type 0
  Fit text = IsOneLine text × (is_marked text ≡ false)

  abbrev texts_of : List Line → List (List ℕ)
  texts_of = map (λ l. l.text)

  printed_ended : (lines : List Line) → printed lines ≡ ended (texts_of lines)
  printed_ended [] = refl
  printed_ended (l ∷ lines) = ap (λ xs. (l.text ++ codes "\n") ++ xs) (printed_ended lines)

  abbrev heard_lines : World → Event → List Line
  heard_lines w e = out (site_labels site) e.level (reply_lines site e (step site w e).reply)

  fit_answer : (w : World) (e : Event) → AllByRecursion Fit (texts_of (heard_lines w e))
  fit_answer w e =
      let r = (step site w e).reply in
      let all_lines = reply_lines site e r in
      all_map Fit (λ (l : Line). l.text) (heard_lines w e)
      (left_by (λ (l : Line). Fit l.text) _ all_lines
      (all_zip (λ (l : Line). IsOneLine l.text) Unmarked (λ (l : Line). Fit l.text) (λ l h k. (h, k)) all_lines
      (replies_whole site (policies_plain site policy schemes) Lines e r) (unmarked_reply e r)))

  abbrev lines_to : World → List Event → List (List ℕ)
  lines_to w [] = []
  lines_to w (e ∷ es) = texts_of (heard_lines w e) ++ lines_to (step site w e).world es

  pub answers_unmarked : (w : World) (es : List Event) → AreWholeLines false (answers_to site w es) (lines_to w es)
  unfolding answers_to
  answers_unmarked w [] = (refl, tt)
  answers_unmarked w (e ∷ es) =
      let more = answers_unmarked (step site w e).world es in (
        (λ i. printed_ended (heard_lines w e) i ++ more.0 i) ∙ sym (flat_map-append (λ (x : List ℕ). x ++ codes "\n")
            (texts_of (heard_lines w e)) (lines_to (step site w e).world es)),
        all_append Fit (texts_of (heard_lines w e)) (lines_to (step site w e).world es) (fit_answer w e) more.1,
      )

pub answers_are_unmarked : AnswersAreUnmarked
answers_are_unmarked site policy schemes w es = (
  lines_to site policy schemes w es,
  answers_unmarked site policy schemes w es,
)
