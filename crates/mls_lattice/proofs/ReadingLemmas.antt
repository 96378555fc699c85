-- How the steps of a reader follow one another.
use Rattle.std.proofs.Common.{◌≡◌, ℕ, ℤ, ◌+◌, ◌<◌, Bool, true, false, cond, List, [], ◌∷◌, length, get_or, drop, Option, None, Some, option_map, Result, Ok, Err, refl, sym, ap, ◌∙◌, ok_or}
use Rattle.std.specs.List.{list_all}
use Rattle.toml.specs.Data.{Data, string, integer, float, boolean, datetime, array, table, Items, item, Members, as_str, as_integer, as_array, as_table}
use Rattle.toml.specs.declared.value.Value.{Value}
use Rattle.toml.specs.View.{view, items_view}
use Rattle.toml.proofs.Views.{items_view-drop}
use Rattle.mls_lattice.specs.declared.failed.Failed.TheVariants.{Fault}
use Rattle.mls_lattice.specs.Reading.{◌>>=◌, Shows, items_len, all_items}

-- `ok_or` of what a look-up found
pub Shows-ok_or : {F X Y : Type 0} (f : X → Y) (o : Option X) (p : Option Y) (e : F) (r : Result X F) → option_map f o
    ≡ p → r ≡ ok_or o e → Shows f r (ok_or p e)
Shows-ok_or f None p e r h q = rw (q, ← h) refl
Shows-ok_or f (Some x) p e r h q = rw (q, ← h) refl

-- what a function answers that took memory and met a fault
pub gives_fault : {F Y : Type 0} (read : Result Y F) (fault : F) → read ≡ Err fault → (other : F) → Fault fault
    ≡ Fault other → read ≡ Err other
gives_fault read fault is other same = is ∙ ap (λ (e : _). Err e) (let e : fault ≡ other = cc in e)

-- how many items there are
pub items_len-view : (vs : List Value) → items_len (items_view vs) ≡ length vs
items_len-view [] = refl
items_len-view (v ∷ vs) = rw (items_len-view vs) refl

-- a test of all items
pub all_items-view : (p : Data → Bool) (vs : List Value) → all_items p (items_view vs) ≡ list_all (λ v. p (view v)) vs
all_items-view p [] = refl
all_items-view p (v ∷ vs) = rw (all_items-view p vs) refl

-- the item at the place that a loop has reached
pub here : {Y : Type 0} (items : List Value) (i : ℕ) (v : Value) → i < length items → v ≡ get_or items i v
    → (f : Items → Y) → f (items_view (drop i items)) ≡ f (item (view v) (items_view (drop (i + 1) items)))
here items i v within is f = ap f (items_view-drop items i v within
    ∙ ap (λ (x : Value). item (view x) (items_view (drop (i + 1) items))) (sym is))

pub ruleset counts = (items_len-view, all_items-view)

-- ---- what follows from an answer without a fault

-- two answers that are one hold one value
pub ok_is : {A E : Type 0} (x y : A) → Path (Result A E) (Ok x) (Ok y) → x ≡ y
ok_is x y e = cc

pub same_ok : {A E : Type 0} (r : Result A E) (x y : A) → r ≡ Ok x → r ≡ Ok y → x ≡ y
same_ok r x y p q = ok_is x y (sym p ∙ q)

-- the value of a step that did not fail
pub bind_ok : {A B E : Type 0} (r : Result A E) (f : A → Result B E) (y : B) → (r >>= f) ≡ Ok y → (x : A) × (r ≡ Ok x)
    × (f x ≡ Ok y)
bind_ok (Ok x) f y e = (x, refl, e)
bind_ok (Err d) f y e = absurd cc

-- which way a test went that did not fail
pub guard_ok : {A E : Type 0} (b : Bool) (d : E) (r : Result A E) (y : A) → cond b (Err d) r ≡ Ok y → (b ≡ false)
    × (r ≡ Ok y)
guard_ok true d r y e = absurd cc
guard_ok false d r y e = (refl, e)

pub pass_ok : {A E : Type 0} (b : Bool) (d : E) (r : Result A E) (y : A) → cond b r (Err d) ≡ Ok y → (b ≡ true)
    × (r ≡ Ok y)
pass_ok true d r y e = (refl, e)
pass_ok false d r y e = absurd cc

pub found_ok : {A E : Type 0} (o : Option A) (d : E) (x : A) → ok_or o d ≡ Ok x → o ≡ Some x
found_ok None d x e = absurd cc
found_ok (Some y) d x e = cc

-- the value that an accessor saw
pub string_from_as_str : (d : Data) (s : List ℕ) → as_str d ≡ Some s → d ≡ string s
string_from_as_str (string t) s e = cc
string_from_as_str (integer z) s e = absurd cc
string_from_as_str (float x) s e = absurd cc
string_from_as_str (boolean b) s e = absurd cc
string_from_as_str (datetime t) s e = absurd cc
string_from_as_str (array ds) s e = absurd cc
string_from_as_str (table ms) s e = absurd cc

pub integer_from_as_integer : (d : Data) (n : ℤ) → as_integer d ≡ Some n → d ≡ integer n
integer_from_as_integer (string t) s e = absurd cc
integer_from_as_integer (integer z) s e = cc
integer_from_as_integer (float x) s e = absurd cc
integer_from_as_integer (boolean b) s e = absurd cc
integer_from_as_integer (datetime t) s e = absurd cc
integer_from_as_integer (array ds) s e = absurd cc
integer_from_as_integer (table ms) s e = absurd cc

pub array_from_as_array : (d : Data) (ds : Items) → as_array d ≡ Some ds → d ≡ array ds
array_from_as_array (string t) s e = absurd cc
array_from_as_array (integer z) s e = absurd cc
array_from_as_array (float x) s e = absurd cc
array_from_as_array (boolean b) s e = absurd cc
array_from_as_array (datetime t) s e = absurd cc
array_from_as_array (array ds) s e = cc
array_from_as_array (table ms) s e = absurd cc

pub table_from_as_table : (d : Data) (ms : Members) → as_table d ≡ Some ms → d ≡ table ms
table_from_as_table (string t) s e = absurd cc
table_from_as_table (integer z) s e = absurd cc
table_from_as_table (float x) s e = absurd cc
table_from_as_table (boolean b) s e = absurd cc
table_from_as_table (datetime t) s e = absurd cc
table_from_as_table (array ds) s e = absurd cc
table_from_as_table (table ms) s e = cc
