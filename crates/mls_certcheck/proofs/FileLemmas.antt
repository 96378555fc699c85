-- A file is read exactly where its text is that of blocks of different names.
use Rattle.std.proofs.Common.{◌≡◌, ℕ, zero, suc, ◌+◌, ◌-◌, ◌<◌, ◌≤◌, ◌⊎◌, inl, inr, Bool, true, false, cond, List, [], ◌∷◌, ◌++◌, length, map, drop, codes, Result, Ok, refl, sym, ap, subst, ◌∙◌, append_assoc, arith, bytes_eq, append-nil, length-drop}
use Rattle.std.specs.Cmp.Lexicographic.{nat_list_eq_equiv}
use Rattle.std.specs.List.{AllByRecursion, IsDistinct, join_with_byte, list_any, list_all}
use Rattle.std.proofs.lemmas.Bool.{and_parts, or_parts}
use Rattle.std.proofs.lemmas.Bool.Decides.{nat_tests}
use Rattle.std.proofs.lemmas.List.{map_push}
use Rattle.std.proofs.lemmas.List.Splits.{join_with_byte-slice_split}
use Rattle.std.proofs.lemmas.Map.Keys.{IsDistinct-push, IsDistinct-head, IsDistinct-tail}
use Rattle.mls_lattice.specs.Name.{is_name, is_name_byte}
use Rattle.mls_lattice.specs.Reading.{◌>>=◌}
use Rattle.mls_lattice.proofs.ReadingLemmas.{bind_ok, ok_is}
use Rattle.mls_certcheck.proofs.AgainLemmas.{done, Above, Above-append}
use Rattle.mls_certcheck.proofs.LinesLemmas.{left_at, Stands, text_found, text_again, over_found, over_again}
use Rattle.mls_certcheck.proofs.CertLemmas.{cert_found_at, cert_again_at, cert2_found_at, cert2_again_at}
use Rattle.mls_certcheck.proofs.HeadLemmas.{headed, IsNew, head_found, head_again}
use Rattle.mls_certcheck.proofs.NameLemmas.{name_bytes}
use Rattle.mls_certcheck.specs.declared.cert.Certificate.{Certificate}
use Rattle.mls_certcheck.specs.declared.cert.Certificate.TheVariants.{One, Two}
use Rattle.mls_certcheck.specs.declared.cert.Version.{Version}
use Rattle.mls_certcheck.specs.declared.cert.Version.TheVariants.{First, Second}
use Rattle.mls_certcheck.specs.declared.fault.CertFault.{CertFault}
use Rattle.mls_certcheck.specs.Reading.{Block, pieces, text_at, cert_at, cert2_at, certificate_at, lines_of, head_in, block_at, blocks_at, whole_in, is_past_end, file_in}
use Rattle.mls_certcheck.specs.Spelling.{certificate_text, version_of, head_text, block_text, file_text, IsCertificate, IsFile, FilesAreUnambiguous}

-- ---- certificates of both versions

-- the first line of a block, by its version
head_is : (n : List ℕ) (c : Certificate) → headed (version_of c) n ≡ head_text (n, c)
head_is n (One c) = refl
head_is n (Two c) = refl

record CertificateFound (v : Version) (lines : List (List ℕ)) (i : ℕ) (c : Certificate) : Type 0 where
  version : v ≡ version_of c
  is : IsCertificate c
  text : left_at lines i ≡ certificate_text c ++ left_at lines (i + lines_of c)

certificate_found : (v : Version) (lines : List (List ℕ)) (i : ℕ) (c : Certificate) → certificate_at v lines i ≡ Ok c
    → CertificateFound v lines i c
unfolding certificate_at
certificate_found First lines i c e =
    let b = bind_ok (cert_at lines i) _ c e in
    let f = cert_found_at lines i b.0 b.1 in
    subst (CertificateFound First lines i) (ok_is (One b.0) c b.2) (record { version = refl; is = f.0; text = f.1 })
certificate_found Second lines i c e =
    let b = bind_ok (cert2_at lines i) _ c e in
    let f = cert2_found_at lines i b.0 b.1 in
    subst (CertificateFound Second lines i) (ok_is (Two b.0) c b.2) (record { version = refl; is = f.0; text = f.1 })

certificate_again : (lines : List (List ℕ)) (i : ℕ) (c : Certificate) (rest : List ℕ) → IsCertificate c
    → Stands lines i (certificate_text c ++ rest) → (certificate_at (version_of c) lines i ≡ Ok c)
    × Stands lines (i + lines_of c) rest
unfolding certificate_at
certificate_again lines i (One c) rest is stands = let a = cert_again_at lines i c rest is stands in (rw a.0 refl, a.1)
certificate_again lines i (Two c) rest is stands = let a = cert2_again_at lines i c rest is stands in (rw a.0 refl, a.1)

-- ---- blocks

-- the first line with its end, and what follows
block_line : (b : Block) (rest : List ℕ) → block_text b ++ rest ≡ head_text b ++ 10 ∷ (certificate_text b.1 ++ rest)
block_line b rest =
    append_assoc (head_text b ++ codes "\n") (certificate_text b.1) rest
    ∙ append_assoc (head_text b) (codes "\n") (certificate_text b.1 ++ rest)

record BlockFound (front : List Block) (lines : List (List ℕ)) (i : ℕ) (b : Block) : Type 0 where
  name : is_name b.0 ≡ true
  new : IsNew front b.0
  cert : IsCertificate b.1
  text : left_at lines i ≡ block_text b ++ left_at lines (i + 1 + lines_of b.1)

block_found : (front : List Block) (lines : List (List ℕ)) (i : ℕ) (b : Block) → block_at front lines i ≡ Ok b
    → BlockFound front lines i b
unfolding block_at
block_found front lines i b e =
    let t = bind_ok (text_at lines i) _ b e in
    let h = bind_ok (head_in front (i + 1) t.0) _ b t.2 in
    let c = bind_ok (certificate_at h.0.0 lines (i + 1)) _ b h.2 in
    let hf = head_found front (i + 1) t.0 h.0.0 h.0.1 h.1 in
    let cf = certificate_found h.0.0 lines (i + 1) c.0 c.1 in
    let first : t.0 ≡ head_text (h.0.1, c.0) = hf.spelled ∙ ap (λ (v : Version). headed v h.0.1) cf.version
    ∙ head_is h.0.1 c.0 in
    subst (BlockFound front lines i) (ok_is (h.0.1, c.0) b c.2)
    (record {
      name = hf.is;
      new = hf.new;
      cert = cf.is;
      text = text_found lines i t.0 t.1 ∙ (λ j. first j ++ 10 ∷ cf.text j)
          ∙ sym (block_line (h.0.1, c.0) (left_at lines (i + 1 + lines_of c.0)));
    })

name_byte_above : (b : ℕ) → is_name_byte b ≡ true → 10 < b
name_byte_above b h = grind (arith, nat_tests)

bytes_above : (bs : List ℕ) → list_all is_name_byte bs ≡ true → Above 10 bs
bytes_above [] h = tt
bytes_above (b ∷ bs) h = let p = and_parts _ _ h in (name_byte_above b p.0, bytes_above bs p.1)

head_above : (v : Version) (n : List ℕ) → is_name n ≡ true → Above 10 (headed v n)
head_above First n is = Above-append 10 (codes "certificate 1 ") n (
  omega arith,
  (
    omega arith,
    (
      omega arith,
      (
        omega arith,
        (
          omega arith,
          (
            omega arith,
            (
              omega arith,
              (omega arith, (omega arith, (omega arith, (omega arith, (omega arith, (omega arith, (omega arith, tt))))))),
            ),
          ),
        ),
      ),
    ),
  ),
)
    (bytes_above n (name_bytes n is))
head_above Second n is = Above-append 10 (codes "certificate 2 ") n (
  omega arith,
  (
    omega arith,
    (
      omega arith,
      (
        omega arith,
        (
          omega arith,
          (
            omega arith,
            (
              omega arith,
              (omega arith, (omega arith, (omega arith, (omega arith, (omega arith, (omega arith, (omega arith, tt))))))),
            ),
          ),
        ),
      ),
    ),
  ),
)
    (bytes_above n (name_bytes n is))

block_again : (front : List Block) (lines : List (List ℕ)) (i : ℕ) (b : Block) (rest : List ℕ) → is_name b.0 ≡ true
    → IsCertificate b.1 → IsNew front b.0 → Stands lines i (block_text b ++ rest) → (block_at front lines i ≡ Ok b)
    × Stands lines (i + 1 + lines_of b.1) rest
unfolding block_at
block_again front lines i b rest is cert new stands =
    let v = version_of b.1 in
    let first : Stands lines i (headed v b.0 ++ 10 ∷ (certificate_text b.1 ++ rest)) =
    stands ∙ ap (pieces 10) (block_line b rest ∙ ap (λ (x : List ℕ). x ++ 10 ∷ (certificate_text b.1 ++ rest))
    (sym (head_is b.0 b.1))) in
    let t = text_again lines i (headed v b.0) (certificate_text b.1 ++ rest) (head_above v b.0 is) first in
    let c = certificate_again lines (i + 1) b.1 rest cert t.1 in
    (rw (t.0, head_again front (i + 1) v b.0 is new, c.0) refl, c.1)

-- ---- names of a list of blocks

abbrev names_of : List Block → List (List ℕ)
names_of bs = map (λ b. b.0) bs

turned : (front : List Block) (n : List ℕ) → list_any (λ b. bytes_eq b.0 n) front ≡ false
    → list_any (bytes_eq n) (names_of front) ≡ false
turned [] n h = refl
turned (b ∷ front) n h =
    let p = or_parts (bytes_eq b.0 n) (list_any (λ c. bytes_eq c.0 n) front) h in
    rw (nat_list_eq_equiv.symm n b.0 ∙ p.0) (turned front n p.1)

-- one more
apart_more : (front : List Block) (b : Block) → list_any (λ x. bytes_eq x.0 b.0) front ≡ false
    → IsDistinct bytes_eq (names_of front) → IsDistinct bytes_eq (names_of (front ++ b ∷ []))
apart_more front b new apart = rw (map_push (λ (x : Block). x.0) front b) (IsDistinct-push nat_list_eq_equiv
    (names_of front) b.0 apart (turned front b.0 new))

differs : (n : List ℕ) (front : List Block) (b : Block) (more : List Block) → AllByRecursion (λ m. bytes_eq n m ≡ false)
    (names_of (front ++ b ∷ more)) → bytes_eq n b.0 ≡ false
differs n [] b more h = h.0
differs n (x ∷ front) b more h = differs n front b more h.1

-- none of those before has it
fresh_again : (front : List Block) (b : Block) (more : List Block) → IsDistinct bytes_eq (names_of (front ++ b ∷ more))
    → list_any (λ x. bytes_eq x.0 b.0) front ≡ false
fresh_again [] b more h = refl
fresh_again (x ∷ front) b more h =
    rw (differs x.0 front b more (IsDistinct-head bytes_eq x.0 (names_of (front ++ b ∷ more)) h))
    (fresh_again front b more (IsDistinct-tail bytes_eq x.0 (names_of (front ++ b ∷ more)) h))

-- ---- what is read is a file

record BlocksFound (front bs : List Block) (lines : List (List ℕ)) (i : ℕ) : Type 0 where
  more : List Block
  whole : bs ≡ front ++ more
  names : AllByRecursion (λ b. is_name b.0 ≡ true) more
  certs : AllByRecursion (λ b. IsCertificate b.1) more
  apart : IsDistinct bytes_eq (names_of front) → IsDistinct bytes_eq (names_of bs)
  text : left_at lines i ≡ file_text more

none_found : (front bs : List Block) (lines : List (List ℕ)) (i : ℕ) → bs ≡ front → left_at lines i ≡ []
    → BlocksFound front bs lines i
none_found front bs lines i same over = record {
  more = [];
  whole = same ∙ sym (append-nil front);
  names = tt;
  certs = tt;
  apart = subst (λ (xs : List Block). IsDistinct bytes_eq (names_of xs)) (sym same);
  text = over;
}

some_found : (front bs : List Block) (lines : List (List ℕ)) (i : ℕ) (b : Block) → BlockFound front lines i b
    → BlocksFound (front ++ b ∷ []) bs lines (i + 1 + lines_of b.1) → BlocksFound front bs lines i
some_found front bs lines i b f r = record {
  more = b ∷ r.more;
  whole = r.whole ∙ append_assoc front (b ∷ []) r.more;
  names = (f.name, r.names);
  certs = (f.cert, r.certs);
  apart = λ h. r.apart (apart_more front b f.new h);
  text = f.text ∙ ap (λ (xs : List ℕ). block_text b ++ xs) r.text;
}

-- nothing is left behind the last line
none_left : (lines : List (List ℕ)) (i : ℕ) → length lines ≤ i → left_at lines i ≡ []
none_left lines i over = at (drop i lines) (omega (arith, length-drop i lines))
  where
    at : (ls : List (List ℕ)) → length ls ≡ 0 → join_with_byte 10 ls ≡ []
    at [] e = refl
    at (l ∷ ls) e = absurd (omega (arith, e))

-- which way a test went
chosen : {A : Type 0} (b : Bool) (x y z : A) → cond b x y ≡ z → ((b ≡ true) × (x ≡ z)) ⊎ ((b ≡ false) × (y ≡ z))
chosen true x y z e = inl (refl, e)
chosen false x y z e = inr (refl, e)

blocks_found : (n : ℕ) (front : List Block) (lines : List (List ℕ)) (i : ℕ) (bs : List Block) → length lines ≤ n + i
    → blocks_at n front lines i ≡ Ok bs → BlocksFound front bs lines i
unfolding blocks_at
blocks_found zero front lines i bs enough e = none_found front bs lines i (sym (ok_is front bs e))
    (none_left lines i (omega (arith, enough)))
blocks_found (suc n) front lines i bs enough e =
    at (λ b h. blocks_found n (front ++ b ∷ []) lines (i + 1 + lines_of b.1) bs (omega (arith, enough)) h)
    (chosen (is_past_end (drop i lines)) (Ok front) _ (Ok bs) e)
  where
    Rest : Block → Result (List Block) CertFault
    Rest b = blocks_at n (front ++ b ∷ []) lines (i + 1 + lines_of b.1)

    at : ((b : Block) → Rest b ≡ Ok bs → BlocksFound (front ++ b ∷ []) bs lines (i + 1 + lines_of b.1))
        → ((is_past_end (drop i lines) ≡ true) × (done front ≡ Ok bs)) ⊎ ((is_past_end (drop i lines) ≡ false)
        × ((block_at front lines i >>= Rest) ≡ Ok bs)) → BlocksFound front bs lines i
    at next (inl p) = none_found front bs lines i (sym (ok_is front bs p.1)) (over_found (drop i lines) p.0)
    at next (inr p) = let b = bind_ok (block_at front lines i) Rest bs p.1 in some_found front bs lines i b.0
        (block_found front lines i b.0 b.1) (next b.0 b.2)

none_apart : IsDistinct bytes_eq []
unfolding IsDistinct
none_apart = tt

pub file_found : (bytes : List ℕ) (bs : List Block) → file_in bytes ≡ Ok bs → IsFile bs × (bytes ≡ file_text bs)
file_found bytes bs e =
    let lines = pieces 10 bytes in
    let f = blocks_found (length lines) [] lines 0 bs (omega arith) e in (
      record {
        names = subst (AllByRecursion (λ (b : Block). is_name b.0 ≡ true)) (sym f.whole) f.names;
        distinct = f.apart none_apart;
        certs = subst (AllByRecursion (λ (b : Block). IsCertificate b.1)) (sym f.whole) f.certs;
      },
      sym (join_with_byte-slice_split 10 bytes) ∙ f.text ∙ ap file_text (sym f.whole),
    )

-- ---- a file is read again

-- a block is no end
more_left : (lines : List (List ℕ)) (i : ℕ) (x : List ℕ) → text_at lines i ≡ Ok x → (is_past_end (drop i lines) ≡ false)
    × (i + 1 < length lines)
unfolding whole_in
more_left lines i x e = at (drop i lines) (length-drop i lines) e
  where
    at : (ls : List (List ℕ)) → length ls ≡ length lines - i → whole_in (i + 1) ls ≡ Ok x → (is_past_end ls ≡ false)
        × (i + 1 < length lines)
    at [] l e = absurd cc
    at (t ∷ []) l e = absurd cc
    at (t ∷ u ∷ rest) l e = (refl, omega (arith, l))

block_left : (front : List Block) (lines : List (List ℕ)) (i : ℕ) (b : Block) → block_at front lines i ≡ Ok b
    → (is_past_end (drop i lines) ≡ false) × (i + 1 < length lines)
unfolding block_at
block_left front lines i b e = let t = bind_ok (text_at lines i) _ b e in more_left lines i t.0 t.1

blocks_again : (n : ℕ) (front more : List Block) (lines : List (List ℕ)) (i : ℕ) → length lines ≤ n + i
    → AllByRecursion (λ b. is_name b.0 ≡ true) more → AllByRecursion (λ b. IsCertificate b.1) more
    → IsDistinct bytes_eq (names_of (front ++ more)) → Stands lines i (file_text more) → blocks_at n front lines i
    ≡ Ok (front ++ more)
unfolding blocks_at
blocks_again zero front [] lines i enough is certs apart stands = ap (λ (bs : List Block). done bs)
    (sym (append-nil front))
blocks_again (suc n) front [] lines i enough is certs apart stands = rw (over_again lines i stands)
    (ap (λ (bs : List Block). done bs) (sym (append-nil front)))
blocks_again zero front (b ∷ more) lines i enough is certs apart stands =
    let a = block_again front lines i b (file_text more) is.0 certs.0 (fresh_again front b more apart) stands in
    let l = block_left front lines i b a.0 in
    absurd (omega (arith, enough, l.1))
blocks_again (suc n) front (b ∷ more) lines i enough is certs apart stands =
    let moved : front ++ b ∷ more ≡ (front ++ b ∷ []) ++ more = sym (append_assoc front (b ∷ []) more) in
    let a = block_again front lines i b (file_text more) is.0 certs.0 (fresh_again front b more apart) stands in
    let l = block_left front lines i b a.0 in
    let rest = blocks_again n (front ++ b ∷ []) more lines (i + 1 + lines_of b.1) (omega (arith, enough)) is.1 certs.1
    (subst (λ (bs : List Block). IsDistinct bytes_eq (names_of bs)) moved apart) a.1 in
    rw (l.0, a.0) (rest ∙ ap (λ (bs : List Block). done bs) (sym moved))

pub file_again : (bs : List Block) → IsFile bs → file_in (file_text bs) ≡ Ok bs
file_again bs is = let lines = pieces 10 (file_text bs) in blocks_again (length lines) [] bs lines 0
    (omega arith) is.names is.certs is.distinct refl

one_apart : (name : List ℕ) → IsDistinct bytes_eq (name ∷ [])
unfolding IsDistinct
one_apart name = (tt, tt)

-- the text of one is read as that one
pub block_read : (text : List ℕ) (b : Block) → text ≡ block_text b → is_name b.0 ≡ true → IsCertificate b.1
    → file_in text ≡ Ok (b ∷ [])
block_read text b same is cert =
    ap file_in (same ∙ sym (append-nil (block_text b)))
    ∙ file_again (b ∷ []) (record { names = (is, tt); distinct = one_apart b.0; certs = (cert, tt) })

-- no two lists have one text
pub files_unambiguous : FilesAreUnambiguous
files_unambiguous bs cs p q same = ok_is bs cs (sym (file_again bs p) ∙ ap file_in same ∙ file_again cs q)
