-- What a time is, by its form alone: no calendar is computed.
use Rattle.std.specs.Prelude.{ℕ, ◌+◌, ◌*◌, ◌-◌, Bool, ◌&&◌, ◌==◌, nat_le, List, length, slice_index}
use Rattle.std.specs.Char.{is_ascii_digit}

-- two digits of a number from least to most
abbrev pub are_digits : ℕ → ℕ → ℕ → ℕ → Bool
are_digits high low least most =
    is_ascii_digit high && is_ascii_digit low && nat_le least (10 * (high - 48) + (low - 48))
    && nat_le (10 * (high - 48) + (low - 48)) most

-- the two bytes from a place on are such digits
abbrev pub digits_at : List ℕ → ℕ → ℕ → ℕ → Bool
digits_at text place least most = are_digits (slice_index text place) (slice_index text (place + 1)) least most

-- YYYY-MM-DDT
unfoldable pub is_date : List ℕ → Bool
is_date text =
    digits_at text 0 0 99 && digits_at text 2 0 99 && slice_index text 4 == 45 && digits_at text 5 1 12
    && slice_index text 7 == 45
    && digits_at text 8 1 31 && slice_index text 10 == 84

-- behind it hh:mm:ssZ
unfoldable pub is_clock : List ℕ → Bool
is_clock text =
    digits_at text 11 0 23 && slice_index text 13 == 58 && digits_at text 14 0 59 && slice_index text 16 == 58
    && digits_at text 17 0 59 && slice_index text 19 == 90

-- YYYY-MM-DDThh:mm:ssZ, where the letters before T and Z are digits: months from 01 to 12, days to 31, hours to 23,
-- minutes and seconds to 59
unfoldable pub is_time : List ℕ → Bool
is_time text = length text == 20 && is_date text && is_clock text
