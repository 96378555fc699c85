-- Runs that look alike as far as both go show the same as far as both go.
use Rattle.std.proofs.Common.{◌≡◌, ℕ, zero, suc, ◌+◌, ◌*◌, ◌<◌, ◌≤◌, true, false, cond, List, [], ◌∷◌, ◌++◌, length, take, Option, Some, None, refl, sym, ap, ◌∙◌, subst, inl, inr, ◌⊎◌, append_assoc, arith, take_all}
use Rattle.std.proofs.lemmas.Bool.{cases_Bool}
use Rattle.mls_lattice.specs.Labels.{below}
use Rattle.mls_translang.specs.declared.event.Event.{Event}
use Rattle.mls_translang.specs.declared.run_fault.RunCause.{RunCause}
use Rattle.mls_translang.specs.declared.run_fault.RunCause.TheVariants.{Memory, Store, Write}
use Rattle.mls_certcheck.specs.Site.{Site, site_labels}
use Rattle.mls_machine.specs.declared.form.Form.{Form}
use Rattle.mls_machine.specs.Machine.{World, step}
use Rattle.mls_machine.specs.Output.{reply_lines_in, run_lines, printed}
use Rattle.mls_machine.specs.Observation.{glimpse, seen, ReleaseTheSame, out, run_shows, EndAlike}
use Rattle.mls_machine.specs.Showing.{reader_of}
use Rattle.mls_machine.specs.Telling.{by_releases}
use Rattle.mls_machine.specs.Parting.{is_line_feed}
use Rattle.mls_machine.proofs.KeepingLemmas.{first_fit}
use Rattle.mls_machine.proofs.ToldLemmas.{sees_next}
use Rattle.mls_machine.proofs.LineLemmas.{printed-append}
use Rattle.mls_stops.specs.SoFar.{IsFirstPart, AgreeSoFar, RunsAgreeSoFar, lines_behind, whole_lines, cause_number, class_by, StopsTellFew}

-- ---- first parts

module _ {A : Type 0} where
  pub part_of_part : (xs ys zs : List A) → IsFirstPart xs ys → IsFirstPart ys zs → IsFirstPart xs zs
  part_of_part xs ys zs h k = (h.0 ++ k.0, sym (append_assoc xs h.0 k.0) ∙ ap (λ l. l ++ k.0) h.1 ∙ k.1)

  head_same : (x y : A) (xs ys : List A) → x ∷ xs ≡ y ∷ ys → x ≡ y
  head_same x y xs ys e = cc

  tail_same : (x y : A) (xs ys : List A) → x ∷ xs ≡ y ∷ ys → xs ≡ ys
  tail_same x y xs ys e = cc

  not_nil : (x : A) (xs : List A) → x ∷ xs ≡ [] → ⊥
  not_nil x xs e = absurd (cc)

  -- two first parts of one list
  pub parts_agree : (xs ys zs : List A) → IsFirstPart xs zs → IsFirstPart ys zs → AgreeSoFar xs ys
  parts_agree [] ys zs h k = inl (ys, refl)
  parts_agree (x ∷ xs) [] zs h k = inr (x ∷ xs, refl)
  parts_agree (x ∷ xs) (y ∷ ys) [] h k = absurd (not_nil x (xs ++ h.0) h.1)
  parts_agree (x ∷ xs) (y ∷ ys) (z ∷ zs) h k =
      let first : x ≡ y = head_same x z _ _ h.1 ∙ sym (head_same y z _ _ k.1) in
      elim (parts_agree xs ys zs (h.0, tail_same x z (xs ++ h.0) zs h.1) (k.0, tail_same y z (ys ++ k.0) zs k.1)) [
        | inl r ↦ inl (r.0, λ i. first i ∷ r.1 i)
        | inr r ↦ inr (r.0, λ i. sym first i ∷ r.1 i)
      ]

  pub agree_parts : (xs ys us vs : List A) → IsFirstPart xs us → IsFirstPart ys vs → AgreeSoFar us vs → AgreeSoFar xs ys
  agree_parts xs ys us vs h k (inl r) = parts_agree xs ys vs (part_of_part xs us vs h r) k
  agree_parts xs ys us vs h k (inr r) = parts_agree xs ys us h (part_of_part ys vs us k r)

-- ---- events, and what c sees of them

module _ (site : Site) (c : ℕ) where
  -- the first events of which c sees a first part
  first_seen : (es : List Event) (xs more : List Event) → xs ++ more ≡ seen site c es → (n : ℕ)
      × (seen site c (take n es) ≡ xs)
  first_seen es [] more h = (zero, refl)
  first_seen [] (x ∷ xs) more h = absurd (not_nil x (xs ++ more) h)
  first_seen (e ∷ es) (x ∷ xs) more h =
      elim (cases_Bool (below (site_labels site) e.level c)) [
        | inl b ↦
            let k = h ∙ sees_next site c e es true b in
            let r = first_seen es xs more (tail_same x (glimpse site c e) (xs ++ more) (seen site c es) k) in (
              suc r.0,
              sees_next site c e (take r.0 es) true b
                  ∙ (λ i. sym (head_same x (glimpse site c e) (xs ++ more) (seen site c es) k) i ∷ r.1 i),
            )
        | inr b ↦
            let r = first_seen es (x ∷ xs) more (h ∙ sees_next site c e es false b) in
            (suc r.0, sees_next site c e (take r.0 es) false b ∙ r.1)
      ]

  -- what c is shown of first events is a first part of what it is shown of all
  pub shows_first : (form : Form) (w : World) (es : List Event) (n : ℕ)
      → IsFirstPart (run_shows site (reader_of c form) w (take n es)) (run_shows site (reader_of c form) w es)
  unfolding run_lines
  shows_first form w es zero = (run_shows site (reader_of c form) w es, refl)
  shows_first form w [] (suc n) = ([], refl)
  shows_first form w (e ∷ es) (suc n) =
      let ls = site_labels site in
      let s = step site w e in
      let r = shows_first form s.world es n in
      let front = printed (out ls c (reply_lines_in form site e s.reply)) in (
        r.0,
        ap (λ l. l ++ r.0) (printed-append ls (Some c) (reply_lines_in form site e s.reply) (run_lines form site s.world
            (take n es)))
            ∙ append_assoc front (run_shows site (reader_of c form) s.world (take n es)) r.0
            ∙ ap (λ l. front ++ l) r.1
            ∙ sym (printed-append ls (Some c) (reply_lines_in form site e s.reply) (run_lines form site s.world es)),
      )

-- ---- two runs

pub runs_agree : RunsAgreeSoFar
runs_agree site c v es secret w fs alike form =
    let shows : World → List Event → List ℕ = λ u ds. run_shows site (reader_of c form) u ds in
    let whole : take (length es) es ≡ es = take_all (length es) es (omega arith) in
    let whole_other : take (length fs) fs ≡ fs = take_all (length fs) fs (omega arith) in
    elim alike.seen_so_far [
      | inl part ↦
          let first = first_seen site c fs (seen site c es) part.0 part.1 in
          let n = first.0 in
          let end : EndAlike site c v w (take (length es) es) (take n fs)
          = secret (length es) c w (take n fs) alike.stored (first_fit site n fs alike.fits) alike.agree
          (ap (seen site c) whole ∙ sym first.1)
          (alike.released_so_far (length es) n (ap (seen site c) whole ∙ sym first.1)) in
          let same : shows v es ≡ shows w (take n fs) = ap (shows v) (sym whole) ∙ ap printed (end.out form) in
          let rest = shows_first site c form w fs n in
          inl (rest.0, ap (λ l. l ++ rest.0) same ∙ rest.1)
      | inr part ↦
          let first = first_seen site c es (seen site c fs) part.0 part.1 in
          let m = first.0 in
          let end : EndAlike site c v w (take m es) fs
          = secret m c w fs alike.stored alike.fits alike.agree first.1
          (subst (λ l. ReleaseTheSame by_releases c site v (take m es) site w l) whole_other
          (alike.released_so_far m (length fs) (first.1 ∙ ap (seen site c) (sym whole_other)))) in
          let same : shows w fs ≡ shows v (take m es) = sym (ap printed (end.out form)) in
          let rest = shows_first site c form v es m in
          inr (rest.0, ap (λ l. l ++ rest.0) same ∙ rest.1)
    ]

-- ---- how much a stop tells

lines_first : (front xs more : List ℕ) → IsFirstPart (lines_behind front xs) (lines_behind front (xs ++ more))
lines_first front [] more = (lines_behind front more, refl)
lines_first front (b ∷ xs) more =
    elim (is_line_feed b) as (λ x. IsFirstPart (cond x (front ∷ lines_behind [] xs) (lines_behind (front ++ b ∷ []) xs))
    (cond x (front ∷ lines_behind [] (xs ++ more)) (lines_behind (front ++ b ∷ []) (xs ++ more)))) [
      | true ↦ (let r = lines_first [] xs more in (r.0, ap (λ l. front ∷ l) r.1))
      | false ↦ lines_first (front ++ b ∷ []) xs more
    ]

none_more : {A : Type 0} (xs more ys : List A) → xs ++ more ≡ ys → length xs ≡ length ys → xs ≡ ys
none_more [] more [] h k = refl
none_more [] more (y ∷ ys) h k = absurd (omega (arith, k))
none_more (x ∷ xs) more [] h k = absurd (omega (arith, k))
none_more (x ∷ xs) more (y ∷ ys) h k =
    let first = head_same x y (xs ++ more) ys h in
    let rest = none_more xs more ys (tail_same x y (xs ++ more) ys h) (omega (arith, k)) in
    λ i. first i ∷ rest i

-- as many lines are the same lines
lines_same : (xs ys : List ℕ) → AgreeSoFar xs ys → length (whole_lines xs) ≡ length (whole_lines ys) → whole_lines xs
    ≡ whole_lines ys
lines_same xs ys (inl part) many =
    let r = lines_first [] xs part.0 in
    none_more (whole_lines xs) r.0 (whole_lines ys) (r.1 ∙ ap whole_lines part.1) many
lines_same xs ys (inr part) many =
    let r = lines_first [] ys part.0 in
    sym (none_more (whole_lines ys) r.0 (whole_lines xs) (r.1 ∙ ap whole_lines part.1) (sym many))

cause_small : (cause : RunCause) → cause_number cause < 3
cause_small Memory = omega arith
cause_small Store = omega arith
cause_small Write = omega arith

cause_same : (a b : RunCause) → cause_number a ≡ cause_number b → a ≡ b
cause_same Memory Memory h = refl
cause_same Memory Store h = (let k : 0 ≡ 1 = h in absurd (omega (arith, k)))
cause_same Memory Write h = (let k : 0 ≡ 2 = h in absurd (omega (arith, k)))
cause_same Store Memory h = (let k : 1 ≡ 0 = h in absurd (omega (arith, k)))
cause_same Store Store h = refl
cause_same Store Write h = (let k : 1 ≡ 2 = h in absurd (omega (arith, k)))
cause_same Write Memory h = (let k : 2 ≡ 0 = h in absurd (omega (arith, k)))
cause_same Write Store h = (let k : 2 ≡ 1 = h in absurd (omega (arith, k)))
cause_same Write Write h = refl

few_classes : (lines : List (List ℕ)) (cause : Option RunCause) (n : ℕ) → length lines ≤ n → class_by lines cause
    < 3 * n + 4
few_classes lines None n h = omega arith
few_classes lines (Some cause) n h = let small = cause_small cause in omega (arith, small, h)

same_class : (xs ys : List ℕ) → AgreeSoFar xs ys → (a b : Option RunCause) → class_by (whole_lines xs) a
    ≡ class_by (whole_lines ys) b
    → (a ≡ b) × ((a ≡ None) ⊎ (whole_lines xs ≡ whole_lines ys))
same_class xs ys agree None None h = (refl, inl refl)
same_class xs ys agree None (Some b) h = (let k : 0 ≡ 1 + (3 * length (whole_lines ys) + cause_number b) = h
    in absurd (omega (arith, k)))
same_class xs ys agree (Some a) None h = (let k : 1 + (3 * length (whole_lines xs) + cause_number a) ≡ 0 = h
    in absurd (omega (arith, k)))
same_class xs ys agree (Some a) (Some b) h =
    let small = cause_small a in
    let other = cause_small b in
    let same : 1 + (3 * length (whole_lines xs) + cause_number a) ≡ 1 + (3 * length (whole_lines ys) + cause_number b) =
    h in
    let causes : cause_number a ≡ cause_number b = omega (arith, same, small, other) in
    let many : length (whole_lines xs) ≡ length (whole_lines ys) = omega (arith, same, small, other) in
    (ap Some (cause_same a b causes), inr (lines_same xs ys agree many))

pub stops_tell : StopsTellFew
stops_tell a b n agree few = (
  few_classes (whole_lines a.text) a.cause n few,
  λ same. same_class a.text b.text agree a.cause b.cause same,
)
