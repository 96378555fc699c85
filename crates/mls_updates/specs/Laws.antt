-- The laws of writes.
use Rattle.std.specs.Prelude.{◌≡◌, ◌≢◌, ℕ, true, false, length, ◌↔◌}
use Rattle.mls_lattice.specs.Labels.{Labels, below, AreDistinct}
use Rattle.mls_scheme.specs.declared.tuple.Tuple.{Tuple}
use Rattle.mls_scheme.specs.Table.{Table, IsIn}
use Rattle.mls_scheme.specs.Scheme.{Scheme}
use Rattle.mls_filterview.specs.View.{View, low}
use Rattle.mls_filterview.specs.Stored.{IsStored, IsContent}
use Rattle.mls_filterview.specs.Entities.{AgreeOutside}
use Rattle.mls_updates.specs.declared.outcome.Outcome.TheVariants.{Unexpected}
use Rattle.mls_updates.specs.Writes.{Write, WriteFits, WriteKinds, write, named}

-- a write keeps the stored form
abbrev pub WritesKeepForm : Type 0
WritesKeepForm =
    (ls : Labels) → AreDistinct ls → (scheme : Scheme) (n w : ℕ) (T : Table) → IsStored ls n T → (wr : Write)
    → WriteFits ls n w wr
    → IsStored ls n (write ls scheme w wr T).table

-- a write keeps the whole stored form, kinds and intervals too
abbrev pub WritesKeepContent : Type 0
WritesKeepContent =
    (ls : Labels) → AreDistinct ls → (scheme : Scheme) (w : ℕ) (T : Table) → IsContent ls scheme T → (wr : Write)
    → WriteFits ls (length scheme.others) w wr → WriteKinds scheme wr
    → IsContent ls scheme (write ls scheme w wr T).table

-- a write at a label that c does not dominate leaves the tuples of classes that c dominates
abbrev pub HighWritesLeaveLow : Type 0
HighWritesLeaveLow =
    (ls : Labels) (scheme : Scheme) (n c w : ℕ) (T : Table) → IsStored ls n T → (wr : Write) → below ls w c ≡ false
    → low ls c (write ls scheme w wr T).table ≡ low ls c T

-- a write at a label that c dominates: its outcome and the tuples of classes that c dominates afterwards are those of
-- the same write on these tuples alone
abbrev pub LowWritesUseLow : Type 0
LowWritesUseLow =
    (ls : Labels) (scheme : Scheme) (c w : ℕ) (T : Table) (wr : Write) → below ls w c ≡ true
    → ((write ls scheme w wr T).outcome ≡ (write ls scheme w wr (low ls c T)).outcome)
    × (low ls c (write ls scheme w wr T).table ≡ (write ls scheme w wr (low ls c T)).table)

-- a write at a label that c does not dominate leaves the view at c
abbrev pub HighWritesAreUnseen : Type 0
HighWritesAreUnseen =
    (ls : Labels) → AreDistinct ls → (scheme : Scheme) (n c w : ℕ) (T : Table) → IsStored ls n T → (wr : Write)
    → WriteFits ls n w wr → below ls w c ≡ false
    → (t : Tuple) → View ls (IsIn (write ls scheme w wr T).table) c t ↔ View ls (IsIn T) c t

-- a write at a label that c dominates: its outcome and the view at c afterwards depend on the view at c before
abbrev pub LowWritesSeeLow : Type 0
LowWritesSeeLow =
    (ls : Labels) → AreDistinct ls → (scheme : Scheme) (n c w : ℕ) (S T : Table) → IsStored ls n S → IsStored ls n T
    → (wr : Write) → WriteFits ls n w wr → below ls w c ≡ true
    → ((t : Tuple) → View ls (IsIn S) c t ↔ View ls (IsIn T) c t)
    → ((write ls scheme w wr S).outcome ≡ (write ls scheme w wr T).outcome)
    × ((t : Tuple) → View ls (IsIn (write ls scheme w wr S).table) c t
    ↔ View ls (IsIn (write ls scheme w wr T).table) c t)

-- a write leaves the tuples of all entities but the one that it names
abbrev pub WritesChangeOneEntity : Type 0
WritesChangeOneEntity =
    (ls : Labels) (scheme : Scheme) (w : ℕ) (T : Table) (wr : Write)
    → AgreeOutside (named w wr) T (write ls scheme w wr T).table

-- a write expects no number of rows
abbrev pub WritesExpectNothing : Type 0
WritesExpectNothing =
    (ls : Labels) (scheme : Scheme) (w : ℕ) (T : Table) (wr : Write)
    → (write ls scheme w wr T).outcome ≢ Unexpected
