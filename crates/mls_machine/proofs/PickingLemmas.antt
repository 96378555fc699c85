-- The first word of a line names its label.
use Rattle.std.proofs.Common.{◌≡◌, ℕ, suc, ◌+◌, ◌<◌, Bool, true, false, cond, List, [], ◌∷◌, ◌++◌, length, map, take, Option, Some, None, refl, sym, ap, ◌∙◌, subst, append_assoc, append-nil, arith, true≢false, codes, not, filter, position, bytes_eq}
use Rattle.std.specs.List.{list_all, before_first, prefix_len, AllByRecursion}
use Rattle.std.proofs.lemmas.Bool.{and_parts}
use Rattle.std.proofs.lemmas.Bool.Decides.{nat_tests}
use Rattle.std.proofs.lemmas.List.Elements.{filter-append}
use Rattle.mls_lattice.proofs.EachLemmas.{all, all_if, all_append, all_map}
use Rattle.mls_tokens.specs.Writing.{printable}
use Rattle.mls_lattice.specs.Labels.{below}
use Rattle.mls_lattice.specs.Name.{is_name, is_name_byte}
use Rattle.mls_lattice.specs.Policy.{Policy, IsPolicy}
use Rattle.mls_lattice.specs.Canon.{label_name}
use Rattle.mls_lattice.proofs.NamedLemmas.{label_found, label_again, label_is_name}
use Rattle.mls_certcheck.proofs.NameLemmas.{name_bytes}
use Rattle.mls_certcheck.specs.Meaning.{Item}
use Rattle.mls_translang.specs.declared.event.Event.{Event}
use Rattle.mls_machine.specs.declared.form.Form.TheVariants.{Lines}
use Rattle.mls_machine.specs.declared.reply.Reply.{Reply}
use Rattle.mls_machine.specs.declared.reply.Reply.TheVariants.{Ran}
use Rattle.mls_certcheck.specs.Site.{Site, site_labels, AreRead}
use Rattle.mls_machine.specs.Machine.{World, step}
use Rattle.mls_translang.specs.Writing.{cell_text}
use Rattle.mls_machine.specs.Output.{Line, reply_texts, front, line, item_line, item_lines, reply_lines, run_lines}
use Rattle.mls_machine.specs.Printable.{EntriesAreKnown, ItemsAreKnown, ReplyIsKnown}
use Rattle.mls_machine.specs.Observation.{AreStored, EventsFit, out}
use Rattle.mls_machine.specs.Showing.{everyone}
use Rattle.mls_machine.specs.Parting.{is_space, label_told, may_see, LinesArePicked}
use Rattle.mls_machine.proofs.PartingLemmas.{policies_plain, runs_part}
use Rattle.mls_machine.proofs.CalledLemmas.{all_read}
use Rattle.mls_machine.proofs.KeepingLemmas.{step_stored}
use Rattle.mls_machine.proofs.ReplyLemmas.{step_known}

-- ---- first words

front_of : (b : ℕ) (rest : List ℕ) (n : ℕ) → take (1 + n) (b ∷ rest) ≡ b ∷ take n rest
front_of b rest n = let e : 1 + n ≡ suc n = omega arith in ap (λ k. take k (b ∷ rest)) e

word_of : (name rest : List ℕ) → list_all is_name_byte name ≡ true → before_first is_space (name ++ 32 ∷ rest) ≡ name
word_of [] rest h = refl
word_of (b ∷ name) rest h =
    let p = and_parts (is_name_byte b) _ h in
    let n = prefix_len (λ x. not (is_space x)) (name ++ 32 ∷ rest) in
    let other : is_space b ≡ false = grind (arith, nat_tests) in
    ap (λ t. take (cond (not t) (1 + n) 0) (b ∷ (name ++ 32 ∷ rest))) other
    ∙ front_of b (name ++ 32 ∷ rest) n ∙ ap (λ xs. b ∷ xs) (word_of name rest p.1)

not_a_name : is_name [] ≡ true → ⊥
unfolding is_name
not_a_name h = true≢false (sym h)

module _ (p : Policy) (policy : IsPolicy p) where
  told : (n : ℕ) → n < length p.labels → (rest : List ℕ) → label_told p (label_name p.labels n ++ 32 ∷ rest) ≡ Some n
  told n within rest =
      ap (λ s. position (λ l. bytes_eq l.name s) p.labels) (word_of (label_name p.labels n) rest
      (name_bytes _ (label_is_name p policy n within)))
      ∙ label_again p policy n within

  -- no name is empty
  nothing_told : (o : Option ℕ) → label_told p [] ≡ o → o ≡ None
  nothing_told None e = refl
  nothing_told (Some n) e =
      let there = label_found p.labels [] n e in
      absurd (not_a_name (subst (λ s. is_name s ≡ true) there.1 (label_is_name p policy n there.0)))

  -- ---- lines

  abbrev Tells : Line → Type 0
  Tells l = label_told p l.text ≡ Some l.label

  begins : (e : Event) (label : ℕ) (text : List ℕ)
      → front p e label ++ text ≡ label_name p.labels label ++ 32 ∷ (label_name p.labels e.level ++ codes "/"
      ++ printable e.session ++ codes " " ++ text)
  begins e label text = simp (append_assoc)

  tells_line : (e : Event) (label : ℕ) (text : List ℕ) → label < length p.labels → Tells (line p e label text)
  tells_line e label text within = ap (label_told p) (begins e label text) ∙ told label within
      (label_name p.labels e.level ++ codes "/" ++ printable e.session ++ codes " " ++ text)

  tells_map : (e : Event) (deed : List ℕ) (items : List Item) → ItemsAreKnown p items
      → AllByRecursion Tells (map (item_line p e deed) items)
  tells_map e deed items h =
      all_map Tells (item_line p e deed) items
      (all_if (λ i. i.0 < length p.labels) (λ i. Tells (item_line p e deed i))
      (λ i k. tells_line e i.0 (deed ++ cell_text i.1) k) items h)

  tells_items : (e : Event) (r : Reply) → ReplyIsKnown p r → AllByRecursion Tells (item_lines p e r)
  tells_items e (Ran run) h =
      all_append Tells (map (item_line p e (codes "emit ")) run.emitted)
      (map (item_line p e (codes "release ")) run.released)
      (tells_map e (codes "emit ") run.emitted h.0) (tells_map e (codes "release ") run.released h.1)
  tells_items e _ h = tt

module _ (site : Site) (policy : IsPolicy site.policy) (read : AreRead site) where
  tells_reply : (e : Event) (r : Reply) → e.level < length site.policy.labels → ReplyIsKnown site.policy r
      → AllByRecursion (Tells site.policy policy) (reply_lines site e r)
  tells_reply e r within h =
      let texts = reply_texts site e.session e.command r in
      all_append (Tells site.policy policy) (map (line site.policy e e.level) texts) (item_lines site.policy e r)
      (all_map (Tells site.policy policy) (line site.policy e e.level) texts
      (all (λ t. Tells site.policy policy (line site.policy e e.level t))
      (λ t. tells_line site.policy policy e e.level t within) texts))
      (tells_items site.policy policy e r h)

  tells_run : (w : World) (es : List Event) → AreStored site w.db → EntriesAreKnown site.policy w.audit
      → EventsFit site es → AllByRecursion (Tells site.policy policy) (run_lines Lines site w es)
  unfolding run_lines
  tells_run w [] stored known fits = tt
  tells_run w (e ∷ es) stored known fits =
      let s = step_known site policy.distinct read w stored known e fits.0 in
      all_append (Tells site.policy policy) (reply_lines site e (step site w e).reply)
      (run_lines Lines site (step site w e).world es)
      (tells_reply e (step site w e).reply fits.0.level s.reply)
      (tells_run (step site w e).world es (step_stored site policy.distinct w e stored fits.0
      (all_read site read e.command)) s.audit fits.1)

  -- ---- what is picked

  abbrev sees : ℕ → List ℕ → Bool
  sees c text = may_see (site_labels site) c (label_told site.policy text)

  picked : (c : ℕ) (lines : List Line) → AllByRecursion (Tells site.policy policy) lines
      → filter (sees c) (map (λ l. l.text) lines) ≡ map (λ l. l.text) (out (site_labels site) c lines)
  picked c [] h = refl
  picked c (l ∷ lines) h =
      (λ i. cond (may_see (site_labels site) c (h.0 i)) (l.text ∷ picked c lines h.1 i) (picked c lines h.1 i))
      ∙ kept (below (site_labels site) l.label c)
    where
      kept : (b : Bool) → cond b (l.text ∷ map (λ l. l.text) (out (site_labels site) c lines))
          (map (λ l. l.text) (out (site_labels site) c lines))
          ≡ map (λ l. l.text) (cond b (l ∷ out (site_labels site) c lines) (out (site_labels site) c lines))
      kept true = refl
      kept false = refl

  nothing_picked : (c : ℕ) → filter (sees c) ([] ∷ []) ≡ []
  nothing_picked c = ap (λ o. cond (may_see (site_labels site) c o) ([] ∷ []) []) (nothing_told site.policy policy
      (label_told site.policy []) refl)

pub lines_picked : LinesArePicked
lines_picked site policy schemes read w es stored known fits c =
    let texts = map (λ (l : Line). l.text) (run_lines Lines site w es) in
    ap (filter (sees site policy read c)) (runs_part site (policies_plain site policy schemes) everyone w es)
    ∙ filter-append (sees site policy read c) texts ([] ∷ [])
    ∙ (λ i. picked site policy read c (run_lines Lines site w es) (tells_run site policy read w es stored known fits) i
    ++ nothing_picked site policy read c i)
    ∙ append-nil (map (λ (l : Line). l.text) (out (site_labels site) c (run_lines Lines site w es)))
