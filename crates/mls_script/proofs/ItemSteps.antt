-- Values and new values, item by item.
use Rattle.std.proofs.Common.{◌≡◌, ℕ, ◌<◌, true, List, [], ◌∷◌, length, Option, Some, Ok, refl, sym, ap, arith, option_map, slice_get}
use Rattle.mls_scheme.specs.declared.value.Value.{Value}
use Rattle.mls_scheme.specs.declared.attributes.Column.{Column}
use Rattle.mls_scheme.specs.Value.{fits_kind}
use Rattle.mls_scheme.specs.Scheme.{Attribute, Scheme, column_of}
use Rattle.mls_tokens.specs.declared.sign.Sign.TheVariants.{Comma}
use Rattle.mls_tokens.proofs.PassedLemmas.{passed_shorter}
use Rattle.mls_parser.specs.Noted.{State, takes_sign}
use Rattle.mls_parser.proofs.ItemSteps.{slot, no_slot, items_none, items_err, items_end, items_more, item_of_less, set_of_less}
use Rattle.mls_parser.proofs.PassedLemmas.{any_found}
use Rattle.mls_translang.specs.Event.{Sets}
use Rattle.mls_script.specs.ReadList.{value_of_token, PlacedValue, value_at, fits_attribute, attribute_at, item_at, set_at}

-- ---- one item

pub slot_kind : (attributes : List Attribute) (i : ℕ) (c : Column) (v : Option Value)
    → option_map column_of (slice_get attributes i) ≡ Some c → fits_kind v c.kind
    ≡ fits_attribute (slice_get attributes i) v
slot_kind attributes i c v h = slot (slice_get attributes i) c h (λ o. fits_attribute o v) (fits_kind v) (λ a. refl)

pub slot_value : (attributes : List Attribute) (i : ℕ) (v : Option Value) → (i < length attributes → ⊥)
    → true ≡ fits_attribute (slice_get attributes i) v
slot_value attributes i v past = ap (λ o. fits_attribute o v) (sym (no_slot attributes i past))

pub ruleset slot_steps = (slot_kind, slot_value)

-- ---- item by item

value_shorter : (s : State) (x : PlacedValue × State) → value_at s ≡ Ok x → length x.1.1.placed < length s.1.placed
value_shorter s x e =
    let h = any_found value_of_token s x e in
    let shorter = passed_shorter (h.0 ∷ []) s.1 x.1.1 h.2.passed in
    omega (arith, shorter)

-- the comma behind an item is nearer to the end
pub item_less : (attributes : Option (List Attribute)) (front : List (Option Value)) (s : State)
    (x : List (Option Value)) (m l : State) (at : ℕ)
    → item_at attributes front s ≡ Ok (x, m) → takes_sign Comma m ≡ Some (at, l) → length l.1.placed < length s.1.placed
unfolding item_at
item_less attributes = item_of_less value_at (λ v. v.0) (λ v. v.1) (λ a v. fits_attribute a v.0) value_shorter
    (attribute_at attributes)

pub set_less : (scheme : Scheme) (front : Sets) (s : State) (x : Sets) (m l : State) (at : ℕ)
    → set_at scheme front s ≡ Ok (x, m) → takes_sign Comma m ≡ Some (at, l) → length l.1.placed < length s.1.placed
unfolding set_at
set_less = set_of_less value_at (λ v. v.0) (λ v. v.1) (λ a v. fits_attribute a v.0) value_shorter

pub ruleset item_steps = (items_none, items_err, items_end, items_more, item_less, set_less)
