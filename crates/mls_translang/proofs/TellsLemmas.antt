-- The printed text of a transaction tells it.
use Rattle.std.proofs.Common.{List, [], ◌∷◌, refl, sym, inl, inr, arith, append-nil, bytes_eq}
use Rattle.std.specs.List.{IsDistinct}
use Rattle.mls_lattice.specs.Policy.{Name}
use Rattle.mls_tokens.specs.declared.token.Token.{Token}
use Rattle.mls_translang.specs.Tree.{Block, End, Do, If, For, is_end}
use Rattle.mls_translang.specs.Tokens.{Context, at_row, outermost, block_tokens, else_tokens, braced, tokens_of}
use Rattle.mls_translang.specs.Tells.{TellsBlock, TellsOther, PrintsAreTold}
use Rattle.mls_translang.proofs.PrintedLemmas.{prints_are_tokens}

other_told : (other : Block) (told : List Token → Type 0) (ts : List Token) → told ts → TellsOther (is_end other) told
    (else_tokens other (braced ts))
other_told End told ts h = inl (refl, refl)
other_told _ told ts h = inr (ts, refl, h)

block_told : (b : Block) (p : Context) → TellsBlock p b (block_tokens p b)
block_told End p = refl
block_told (Do stmt rest) p = (block_tokens p rest, refl, block_told rest p)
block_told (If guard one other rest) p = (
  block_tokens p one,
  else_tokens other (braced (block_tokens p other)),
  block_tokens p rest,
  refl,
  block_told one p,
  other_told other (λ inner. TellsBlock p other inner) (block_tokens p other) (block_told other p),
  block_told rest p,
)
block_told (For row relation label body rest) p = (
  block_tokens (at_row p row relation) body,
  block_tokens p rest,
  refl,
  block_told body (at_row p row relation),
  block_told rest p,
)

alone : (name : Name) → IsDistinct bytes_eq (name ∷ [])
unfolding IsDistinct
alone name = (tt, tt)

pub prints_are_told : PrintsAreTold
prints_are_told policy schemes tx of_policy of_schemes is read =
    let p = outermost policy schemes tx in
    record {
      tokens = tokens_of policy schemes tx;
      text = prints_are_tokens policy schemes tx of_policy of_schemes is read;
      told = (
        tokens_of policy schemes tx,
        [],
        sym (append-nil (tokens_of policy schemes tx)),
        (block_tokens p tx.body, refl, block_told tx.body p),
        refl,
      );
      each = (is, tt);
      read = record { few = omega arith; each = (read, tt); apart = alone tx.name };
    }
