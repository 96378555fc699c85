-- Where a byte of a text stands.
use Rattle.std.specs.Prelude.{ℕ, ◌+◌, ◌==◌, List, take, reverse, count_by}
use Rattle.std.specs.List.{prefix_len}
use Rattle.mls_tokens.specs.declared.spots.Spot.{Spot}
use Rattle.mls_tokens.specs.Text.{is_no_feed}

-- behind so many bytes: one more than the LFs among them, and one more than the bytes behind the last of these
unfoldable pub spot_at : List ℕ → ℕ → Spot
spot_at bytes n = record {
  line = 1 + count_by (λ b. b == 10) (take n bytes);
  column = 1 + prefix_len is_no_feed (reverse (take n bytes));
}
