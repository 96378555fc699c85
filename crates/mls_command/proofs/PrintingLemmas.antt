-- What is printed, of a listing or of what stands for it, with what was told before.
use Rattle.std.proofs.Common.{◌≡◌, ℕ, List, [], string_bytes, Result, Ok, Err, IfOk, sym, subst, IsErrAnd, IsOkAnd}
use Rattle.std.specs.declared.alloc.AllocError.{AllocError}
use Rattle.mls_host.specs.declared.ending.Ending.{Ending}
use Rattle.mls_host.specs.declared.reason.Reason.{Reason}
use Rattle.mls_host.specs.declared.reason.Reason.TheVariants.{Memory}
use Rattle.mls_host.specs.declared.stop.Stop.{Stop}
use Rattle.mls_host.specs.declared.stop.Stop.TheVariants.{Before, Output}
use Rattle.mls_host.specs.Deed.{Deed, IsQuiet}
use Rattle.mls_command.specs.declared.listing.Listing.{Listing}
use Rattle.mls_command.specs.Printing.{IsListed, IsPrintingTo, IsPrinting}

module _ (Prints : List ℕ → List ℕ → Ending → Type 0) (Refuses : Reason → Type 0) where
  listed : (l : Listing) → Prints l.text.items (string_bytes l.told) l.ending → (text told : List ℕ) (end : Ending)
      → IsListed l text told end → Prints text told end
  listed l prints text told end is =
      subst (λ t. Prints t told end) (sym is.0) (subst (λ t. Prints l.text.items t end) (sym is.1)
      (subst (Prints l.text.items (string_bytes l.told)) (sym is.2) prints))

  listed_to : (l : Listing) (d : Deed) → Prints l.text.items (string_bytes l.told) l.ending → (end : Result Ending Stop)
      → IsPrintingTo (IsListed l) (λ reason. ⊥) d end → IsPrintingTo Prints Refuses d end
  listed_to l d prints (Ok end) k = (k.0, k.1, listed l prints k.0 k.1 end k.2, k.3, k.4)
  listed_to l d prints (Err (Before reason)) k = absurd k.0
  listed_to l d prints (Err Output) k = (k.0, k.1, k.2, listed l prints k.0 k.1 k.2 k.3, k.4, k.5)
  listed_to l d prints _ k = k

  -- a listing with such texts
  pub listing_printed : (l : Listing) (d : Deed) → Prints l.text.items (string_bytes l.told) l.ending
      → IsPrinting (IsListed l) (λ reason. ⊥) d → IsPrinting Prints Refuses d
  listing_printed l d prints = listed_to l d prints d.end

  made_to : (made : Result Listing AllocError) (d : Deed)
      → IfOk made (λ l. Prints l.text.items (string_bytes l.told) l.ending) → Refuses Memory
      → (end : Result Ending Stop) → IsPrintingTo (λ text told end. IsOkAnd made (λ l. IsListed l text told end))
      (λ reason. reason ≡ Memory) d end → IsPrintingTo Prints Refuses d end
  made_to (Ok l) d prints refused (Ok end) k = (k.0, k.1, listed l prints k.0 k.1 end k.2, k.3, k.4)
  made_to (Ok l) d prints refused (Err Output) k = (k.0, k.1, k.2, listed l prints k.0 k.1 k.2 k.3, k.4, k.5)
  made_to (Err e) d prints refused (Ok end) k = absurd k.2
  made_to (Err e) d prints refused (Err Output) k = absurd k.3
  made_to made d prints refused (Err (Before reason)) k = (subst Refuses (sym k.0) refused, k.1)
  made_to made d prints refused _ k = k

  refused_to : (d : Deed) (end : Result Ending Stop) (reason : Reason) → IsErrAnd end (λ e. e ≡ Before reason)
      → Refuses reason → IsQuiet d → IsPrintingTo Prints Refuses d end
  refused_to d (Ok end) reason is refused quiet = absurd is
  refused_to d (Err e) reason is refused quiet = subst (λ x. IsPrintingTo Prints Refuses d (Err x)) (sym is) (
    refused,
    quiet,
  )

  -- one for which there was memory, or want of it
  pub made_printed : (made : Result Listing AllocError) (d : Deed)
      → IfOk made (λ l. Prints l.text.items (string_bytes l.told) l.ending) → Refuses Memory
      → IsPrinting (λ text told end. IsOkAnd made (λ l. IsListed l text told end)) (λ reason. reason ≡ Memory) d
      → IsPrinting Prints Refuses d
  made_printed made d prints refused = made_to made d prints refused d.end

  -- at the exit of a `?`
  pub not_printed : (d : Deed) (reason : Reason) → IsErrAnd d.end (λ e. e ≡ Before reason) → Refuses reason → IsQuiet d
      → IsPrinting Prints Refuses d
  not_printed d = refused_to d d.end

  module _ (wrote told more : List ℕ → Type 0) (f : (text : List ℕ) → told text → more text) where
    -- where what is told is told so
    pub printing_told : (end : Result Ending Stop) → IsPrinting Prints Refuses (record {
      wrote = wrote;
      told = told;
      end = end;
    })
        → IsPrinting Prints Refuses (record { wrote = wrote; told = more; end = end })
    printing_told (Ok end) k = (k.0, k.1, k.2, k.3, f k.1 k.4)
    printing_told (Err (Before reason)) k = (k.0, (k.1.0, f [] k.1.1))
    printing_told (Err Output) k = (k.0, k.1, k.2, k.3, k.4, f [] k.5)
    printing_told _ k = k
