-- The first line of a block is read exactly where it names a version, and a name that none before has.
use Rattle.std.proofs.Common.{◌≡◌, ℕ, ◌+◌, ◌<◌, Bool, true, false, cond, ◌==◌, List, ◌∷◌, ◌++◌, length, take, drop, codes, Ok, refl, sym, ap, ◌∙◌, arith, ne_eqb, eqb-true, take-append-drop, slice_index, bytes_eq}
use Rattle.std.specs.Char.{is_ascii_digit}
use Rattle.std.specs.Cmp.Lexicographic.{bytes_decides}
use Rattle.std.specs.List.{list_any, prefix_len}
use Rattle.std.proofs.lemmas.Bool.{eqb-false}
use Rattle.std.proofs.lemmas.List.Sums.{prefix_len-le-length}
use Rattle.mls_lattice.specs.Name.{is_name}
use Rattle.mls_lattice.proofs.ReadingLemmas.{bind_ok, guard_ok, pass_ok, ok_is}
use Rattle.mls_certcheck.proofs.FoundLemmas.{at_place}
use Rattle.mls_certcheck.specs.declared.cert.Version.{Version}
use Rattle.mls_certcheck.specs.declared.cert.Version.TheVariants.{First, Second}
use Rattle.mls_certcheck.specs.declared.fault.CertCause.TheVariants.{Version as BadVersion}
use Rattle.mls_certcheck.specs.Spelling.{version_text}
use Rattle.mls_certcheck.specs.Reading.{Block, refused, fresh_in, proper_in, version_in, versioned_in, named_in, head_in}

abbrev pub headed : Version → List ℕ → List ℕ
headed v name = codes "certificate " ++ version_text v ++ codes " " ++ name

-- no block before has the name
abbrev pub IsNew : List Block → List ℕ → Type 0
IsNew front name = list_any (λ b. bytes_eq b.0 name) front ≡ false

pub record HeadFound (front : List Block) (v : Version) (name text : List ℕ) : Type 0 where
  pub is : is_name name ≡ true
  pub new : IsNew front name
  pub spelled : text ≡ headed v name

fresh_found : (front : List Block) (line : ℕ) (name n : List ℕ) → fresh_in front line name ≡ Ok n → IsNew front n
    × (name ≡ n)
unfolding fresh_in
fresh_found front line name n e =
    let g = guard_ok (list_any (λ b. bytes_eq b.0 name) front) _ (Ok name) n e in
    let same = ok_is name n g.1 in
    (ap (λ (m : List ℕ). list_any (λ b. bytes_eq b.0 m) front) (sym same) ∙ g.0, same)

proper_found : (line : ℕ) (name n : List ℕ) → proper_in line name ≡ Ok n → (is_name n ≡ true) × (name ≡ n)
unfolding proper_in
proper_found line name n e =
    let p = pass_ok (is_name name) _ (Ok name) n e in
    let same = ok_is name n p.1 in
    (ap is_name (sym same) ∙ p.0, same)

version_found : (line : ℕ) (text : List ℕ) (v : Version) → version_in line text ≡ Ok v → text ≡ version_text v
unfolding version_in
version_found line text v e = first (bytes_eq text (codes "1")) refl e
  where
    first : (b : Bool) → bytes_eq text (codes "1") ≡ b → cond b (Ok First) (cond (bytes_eq text (codes "2")) (Ok Second)
        (refused line BadVersion)) ≡ Ok v → text ≡ version_text v
    first true is e = (bytes_decides text (codes "1")).0 is ∙ ap version_text (ok_is First v e)
    first false is e =
        let p = pass_ok (bytes_eq text (codes "2")) _ (Ok Second) v e in
        (bytes_decides text (codes "2")).0 p.0 ∙ ap version_text (ok_is Second v p.1)

record PartsFound (front : List Block) (v : Version) (n version name : List ℕ) : Type 0 where
  is : is_name n ≡ true
  new : IsNew front n
  digit : version ≡ version_text v
  named : name ≡ n

versioned_found : (front : List Block) (line : ℕ) (version name : List ℕ) (v : Version) (n : List ℕ)
    → versioned_in front line version name ≡ Ok (v, n) → PartsFound front v n version name
unfolding versioned_in
versioned_found front line version name v n e =
    let b = bind_ok (proper_in line name) _ (v, n) e in
    let d = bind_ok (version_in line version) _ (v, n) b.2 in
    let f = bind_ok (fresh_in front line b.0) _ (v, n) d.2 in
    let same = ok_is (d.0, f.0) (v, n) f.2 in
    let proper = proper_found line name b.0 b.1 in
    let fresh = fresh_found front line b.0 f.0 f.1 in
    let last : f.0 ≡ n = ap (λ (h : Version × List ℕ). h.1) same in
    let moved : b.0 ≡ n = fresh.1 ∙ last in
    record {
      is = ap is_name (sym moved) ∙ proper.0;
      new = ap (λ (m : List ℕ). list_any (λ b. bytes_eq b.0 m) front) (sym last) ∙ fresh.0;
      digit = version_found line version d.0 d.1 ∙ ap (λ (h : Version × List ℕ). version_text h.0) same;
      named = proper.1 ∙ moved;
    }

spaced : (v : Version) (n : List ℕ) → codes "certificate " ++ (version_text v ++ 32 ∷ n) ≡ headed v n
spaced First n = refl
spaced Second n = refl

record NamedFound (front : List Block) (v : Version) (n text : List ℕ) : Type 0 where
  is : is_name n ≡ true
  new : IsNew front n
  spelled : text ≡ version_text v ++ 32 ∷ n

named_found : (front : List Block) (line : ℕ) (text : List ℕ) (v : Version) (n : List ℕ) → named_in front line text
    ≡ Ok (v, n) → NamedFound front v n text
unfolding named_in
named_found front line text v n e =
    let some = guard_ok (prefix_len is_ascii_digit text == 0) _ _ (v, n) e in
    let more = guard_ok (prefix_len is_ascii_digit text == length text) _ _ (v, n) some.1 in
    let space = pass_ok (slice_index text (prefix_len is_ascii_digit text) == 32) _ _ (v, n) more.1 in
    let f = versioned_found front line (take (prefix_len is_ascii_digit text) text)
    (drop (prefix_len is_ascii_digit text + 1) text) v n space.1 in
    let differ = eqb-false (prefix_len is_ascii_digit text) (length text) more.0 in
    let within : prefix_len is_ascii_digit text < length text = omega (
      arith,
      prefix_len-le-length is_ascii_digit text,
      differ,
    ) in
    let blank : slice_index text (prefix_len is_ascii_digit text) ≡ 32 = eqb-true _ 32 space.0 in
    record {
      is = f.is;
      new = f.new;
      spelled = at_place (prefix_len is_ascii_digit text) text within
          ∙ (λ i. f.digit i ++ blank i ∷ f.named i);
    }

pub head_found : (front : List Block) (line : ℕ) (text : List ℕ) (v : Version) (n : List ℕ) → head_in front line text
    ≡ Ok (v, n) → HeadFound front v n text
unfolding head_in
head_found front line text v n e =
    let p = pass_ok (bytes_eq (take 12 text) (codes "certificate ")) _ (named_in front line (drop 12 text)) (v, n) e in
    let f = named_found front line (drop 12 text) v n p.1 in
    let word : take 12 text ≡ codes "certificate " = (bytes_decides (take 12 text) (codes "certificate ")).0 p.0 in
    record {
      is = f.is;
      new = f.new;
      spelled = sym (take-append-drop 12 text) ∙ (λ i. word i ++ f.spelled i)
          ∙ spaced v n;
    }

pub head_again : (front : List Block) (line : ℕ) (v : Version) (n : List ℕ) → is_name n ≡ true → IsNew front n
    → head_in front line (headed v n) ≡ Ok (v, n)
unfolding head_in named_in versioned_in version_in proper_in fresh_in
head_again front line First n is new =
    let more : (1 == length (codes "1 " ++ n)) ≡ false = ne_eqb _ _ (λ e. omega arith) in
    rw (more, is, new) refl
head_again front line Second n is new =
    let more : (1 == length (codes "2 " ++ n)) ≡ false = ne_eqb _ _ (λ e. omega arith) in
    rw (more, is, new) refl
