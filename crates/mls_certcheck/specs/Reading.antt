-- Certificates are read line by line, and a line word by word, up to the first fault.
use Rattle.std.specs.Prelude.{◌≡◌, ℕ, zero, suc, ◌+◌, ◌*◌, ◌-◌, true, false, Bool, ◌&&◌, ◌||◌, not, ◌==◌, nat_lt}
use Rattle.std.specs.Prelude.{nat_le, if◌then◌else◌, List, [], ◌∷◌, ◌++◌, length, take, drop, slice_index, codes}
use Rattle.std.specs.Prelude.{Result, Ok, Err, bytes_eq}
use Rattle.std.specs.List.{slice_split, list_any, list_all, prefix_len}
use Rattle.std.specs.Char.{is_ascii_digit}
use Rattle.std.specs.Str.Parse.{digits_value}
use Rattle.std.specs.Int.{w32, from_be_bytes}
use Rattle.mls_lattice.specs.declared.label.Label.{Label}
use Rattle.mls_lattice.specs.Name.{is_name}
use Rattle.mls_lattice.specs.Reading.{◌>>=◌, GivesUnless}
use Rattle.mls_certcheck.specs.Spelling.{IsFile, file_text}
use Rattle.mls_certcheck.specs.declared.cert.Cert.{Cert}
use Rattle.mls_certcheck.specs.declared.cert.Cert2.{Cert2}
use Rattle.mls_certcheck.specs.declared.cert.Certificate.{Certificate}
use Rattle.mls_certcheck.specs.declared.cert.Certificate.TheVariants.{One, Two}
use Rattle.mls_certcheck.specs.declared.cert.Version.{Version}
use Rattle.mls_certcheck.specs.declared.cert.Version.TheVariants.{First, Second}
use Rattle.mls_certcheck.specs.declared.fault.CertFault.{CertFault}
use Rattle.mls_certcheck.specs.declared.fault.CertCause.{CertCause}
use Rattle.mls_certcheck.specs.declared.fault.CertCause.TheVariants.{Line, Label as BadLabel, Version as BadVersion}
use Rattle.mls_certcheck.specs.declared.fault.CertCause.TheVariants.{Repeated, Memory}

-- What a function returned, seen by view, is what reading gives, unless memory ran out.
abbrev pub GivesCert : {X Y : Type 0} → (X → Y) → Result X CertFault → Result Y CertFault → Type 0
GivesCert = GivesUnless (λ e. e.cause ≡ Memory)

abbrev pub refused : {A : Type 0} → ℕ → CertCause → Result A CertFault
refused line cause = Err (record { line = line; cause = cause })

-- what stands between bytes of a value
abbrev pub pieces : ℕ → List ℕ → List (List ℕ)
pieces b bytes = slice_split (λ x. x == b) bytes

-- ---- labels

abbrev pub are_digits : List ℕ → Bool
are_digits text = list_all is_ascii_digit text

-- digits, the first of them 0 only where it is the only one
unfoldable pub is_decimal : List ℕ → Bool
is_decimal text = not (length text == 0) && are_digits text && (length text == 1 || not (slice_index text 0 == 48))

unfoldable pub number_in : ℕ → List ℕ → Result ℕ CertFault
number_in line text = if nat_lt (digits_value 10 text) 256 then Ok (digits_value 10 text) else refused line BadLabel

unfoldable pub rank_in : ℕ → List ℕ → Result ℕ CertFault
rank_in line text = if is_decimal text then number_in line text else refused line BadLabel

-- a hexadecimal digit, lower case
unfoldable pub digit_in : ℕ → ℕ → Result ℕ CertFault
digit_in line b = if is_ascii_digit b then Ok (b - 48) else (if nat_le 97 b && nat_le b 102 then Ok
    (b - 87) else refused line BadLabel)

unfoldable pub byte_in : ℕ → ℕ → ℕ → Result ℕ CertFault
byte_in line high low = do
  h ← digit_in line high
  l ← digit_in line low
  Ok (16 * h + l)

-- two digits for each of four bytes
unfoldable pub bytes_in : ℕ → List ℕ → Result (List ℕ) CertFault
bytes_in line text = do
  a ← byte_in line (slice_index text 0) (slice_index text 1)
  b ← byte_in line (slice_index text 2) (slice_index text 3)
  c ← byte_in line (slice_index text 4) (slice_index text 5)
  d ← byte_in line (slice_index text 6) (slice_index text 7)
  Ok (a ∷ b ∷ c ∷ d ∷ [])

unfoldable pub cats_in : ℕ → List ℕ → Result ℕ CertFault
cats_in line text =
    if length text == 8 then (bytes_in line text >>= λ bytes. Ok (from_be_bytes w32 bytes)) else refused line BadLabel

-- a rank, a colon and eight digits
unfoldable pub label_in : ℕ → List ℕ → Result Label CertFault
label_in line text =
    if nat_lt (length text) 9 then refused line BadLabel
    else (
    if slice_index text (length text - 9) == 58
    then (rank_in line (take (length text - 9) text) >>= λ r. cats_in line (drop (length text - 9 + 1) text) >>=
    λ c. Ok (record { rank = r; cats = c }))
    else refused line BadLabel
    )

-- ---- lines

-- the labels of words, after those read before
abbrev pub labels_in : ℕ → List Label → List (List ℕ) → Result (List Label) CertFault
labels_in line front [] = Ok front
labels_in line front (word ∷ words) = label_in line word >>= λ l. labels_in line (front ++ l ∷ []) words

-- a word, and labels
unfoldable pub worded_in : List ℕ → ℕ → List (List ℕ) → Result (List Label) CertFault
worded_in word line [] = refused line Line
worded_in word line (first ∷ words) = if bytes_eq first word then labels_in line [] words else refused line Line

abbrev pub line_in : List ℕ → ℕ → List ℕ → Result (List Label) CertFault
line_in word line text = worded_in word line (pieces 32 text)

-- ---- the lines of a text, each by its place

-- a line that has its end: something stands behind it
unfoldable pub whole_in : ℕ → List (List ℕ) → Result (List ℕ) CertFault
whole_in line [] = refused line Line
whole_in line (text ∷ []) = refused line Line
whole_in line (text ∷ _ ∷ _) = Ok text

abbrev pub text_at : List (List ℕ) → ℕ → Result (List ℕ) CertFault
text_at lines i = whole_in (i + 1) (drop i lines)

unfoldable pub line_at : List ℕ → List (List ℕ) → ℕ → Result (List Label) CertFault
line_at word lines i = text_at lines i >>= λ text. line_in word (i + 1) text

-- nothing is left
abbrev pub is_past_end : List (List ℕ) → Bool
is_past_end [] = true
is_past_end (text ∷ []) = length text == 0
is_past_end (text ∷ _ ∷ _) = false

-- ---- certificates

unfoldable pub cert_at : List (List ℕ) → ℕ → Result Cert CertFault
cert_at lines i = do
  vars ← line_at (codes "vars") lines i
  pcs ← line_at (codes "pcs") lines (i + 1)
  Ok (record { var_labels = vars; pc_labels = pcs })

-- as many rows, after those read before
unfoldable pub rows_at : List (List Label) → ℕ → List (List ℕ) → ℕ → Result (List (List Label)) CertFault
rows_at front zero lines i = Ok front
rows_at front (suc n) lines i = line_at (codes "row") lines i >>= λ row. rows_at (front ++ row ∷ []) n lines (i + 1)

unfoldable pub cert2_at : List (List ℕ) → ℕ → Result Cert2 CertFault
cert2_at lines i = do
  pcs ← line_at (codes "pcs") lines i
  rows ← rows_at [] (length pcs) lines (i + 1)
  Ok (record { rows = rows; pc_labels = pcs })

unfoldable pub certificate_at : Version → List (List ℕ) → ℕ → Result Certificate CertFault
certificate_at First lines i = cert_at lines i >>= λ c. Ok (One c)
certificate_at Second lines i = cert2_at lines i >>= λ c. Ok (Two c)

-- how many lines a certificate has
abbrev pub lines_of : Certificate → ℕ
lines_of (One c) = 2
lines_of (Two c) = 1 + length c.pc_labels

-- what was read, where nothing is left
unfoldable pub ended_at : {A : Type 0} → List (List ℕ) → ℕ → A → Result A CertFault
ended_at lines i x = if is_past_end (drop i lines) then Ok x else refused (i + 1) Line

unfoldable pub lines_in : List (List ℕ) → Result Cert CertFault
lines_in lines = cert_at lines 0 >>= λ c. ended_at lines 2 c

unfoldable pub lines2_in : List (List ℕ) → Result Cert2 CertFault
lines2_in lines = cert2_at lines 0 >>= λ c. ended_at lines (1 + length c.pc_labels) c

-- a whole text of version 1, and of version 2
abbrev pub text_in : List ℕ → Result Cert CertFault
text_in bytes = lines_in (pieces 10 bytes)

abbrev pub text2_in : List ℕ → Result Cert2 CertFault
text2_in bytes = lines2_in (pieces 10 bytes)

-- ---- a file of certificates

abbrev pub Block : Type 0
Block = List ℕ × Certificate

-- a name that none of the blocks before has
unfoldable pub fresh_in : List Block → ℕ → List ℕ → Result (List ℕ) CertFault
fresh_in front line name = if list_any (λ b. bytes_eq b.0 name) front then refused line Repeated else Ok name

unfoldable pub proper_in : ℕ → List ℕ → Result (List ℕ) CertFault
proper_in line name = if is_name name then Ok name else refused line Line

unfoldable pub version_in : ℕ → List ℕ → Result Version CertFault
version_in line text = if bytes_eq text (codes "1") then Ok First else
    (if bytes_eq text (codes "2") then Ok Second else refused line BadVersion)

-- the version, and a name
unfoldable pub versioned_in : List Block → ℕ → List ℕ → List ℕ → Result (Version × List ℕ) CertFault
versioned_in front line version name = do
  proper ← proper_in line name
  v ← version_in line version
  fresh ← fresh_in front line proper
  Ok (v, fresh)

-- digits, a space and a name
unfoldable pub named_in : List Block → ℕ → List ℕ → Result (Version × List ℕ) CertFault
named_in front line text =
    let k = prefix_len is_ascii_digit text in
    if k == 0 then refused line Line
    else (if k == length text then refused line Line
    else (if slice_index text k == 32 then versioned_in front line (take k text)
    (drop (k + 1) text) else refused line Line))

unfoldable pub head_in : List Block → ℕ → List ℕ → Result (Version × List ℕ) CertFault
head_in front line text = if bytes_eq (take 12 text) (codes "certificate ") then named_in front line
    (drop 12 text) else refused line Line

unfoldable pub block_at : List Block → List (List ℕ) → ℕ → Result Block CertFault
block_at front lines i = do
  text ← text_at lines i
  head ← head_in front (i + 1) text
  cert ← certificate_at head.0 lines (i + 1)
  Ok (head.1, cert)

-- blocks, no more than a number, after those read before
unfoldable pub blocks_at : ℕ → List Block → List (List ℕ) → ℕ → Result (List Block) CertFault
blocks_at zero front lines i = Ok front
blocks_at (suc n) front lines i =
    if is_past_end (drop i lines) then Ok front
    else (block_at front lines i >>= λ b. blocks_at n (front ++ b ∷ []) lines (i + 1 + lines_of b.1))

-- a whole file, which has fewer blocks than lines
abbrev pub file_in : List ℕ → Result (List Block) CertFault
file_in bytes = let lines = pieces 10 bytes in blocks_at (length lines) [] lines 0

-- the texts of blocks one after another are read as these blocks
abbrev pub FilesAreReadAgain : Type 0
FilesAreReadAgain = (blocks : List Block) → IsFile blocks → file_in (file_text blocks) ≡ Ok blocks
