-- Entries added to the audit list, one after another.
use Rattle.std.proofs.Common.{◌≡◌, ℕ, ◌+◌, ◌<◌, ◌≤◌, List, [], ◌∷◌, ◌++◌, length, map, take, get_or, sym, ap, ◌∙◌, subst, append-nil, append_assoc, take_all}
use Rattle.std.proofs.SliceLists.{all_by_recursion_push}
use Rattle.std.specs.List.{AllByRecursion}
use Rattle.std.proofs.lemmas.List.{take_more, map-append}
use Rattle.mls_filterview.specs.Content.{State, with_entry}
use Rattle.mls_audit.specs.declared.entry.Entry.{Entry}
use Rattle.mls_audit.specs.Spelling.{entry_spelling}
use Rattle.mls_sessions.specs.Calling.{with_entries}

pub none_entered : (s : State) → s ≡ with_entries s []
none_entered s = λ i. record s { now = record { db = s.now.db; audit = sym (append-nil s.now.audit) i } }

-- one, and then others
pub first_entered : (s : State) (e : Entry) (es : List Entry) → with_entries (with_entry s (entry_spelling e)) es
    ≡ with_entries s (e ∷ es)
first_entered s e es = λ i. record s {
  now = record {
    db = s.now.db;
    audit = append_assoc s.now.audit (entry_spelling e
        ∷ []) (map entry_spelling es) i;
  };
}

-- others, and then one
last_entered : (s : State) (es : List Entry) (e : Entry) → with_entry (with_entries s es) (entry_spelling e)
    ≡ with_entries s (es ++ e ∷ [])
last_entered s es e =
    let strings : (s.now.audit ++ map entry_spelling es) ++ entry_spelling e ∷ [] ≡ s.now.audit ++ map entry_spelling
    (es ++ e ∷ []) =
    append_assoc s.now.audit (map entry_spelling es) (entry_spelling e ∷ []) ∙ ap (λ xs. s.now.audit ++ xs)
    (sym (map-append entry_spelling es (e ∷ []))) in
    λ i. record s { now = record { db = s.now.db; audit = strings i } }

-- those of the items of a list
module _ {X : Type 0} (f : X → Entry) (items : List X) (i : ℕ) where
  module _ (x : X) (within : i < length items) (is : x ≡ get_or items i x) where
    one_more : map f (take (i + 1) items) ≡ map f (take i items) ++ f x ∷ []
    one_more = ap (map f) (take_more items i x within ∙ ap (λ y. take i items ++ y ∷ []) (sym is)) ∙ map-append f
        (take i items) (x ∷ [])

    pub entered_more : (s t u : State) → t ≡ with_entries s (map f (take i items))
        → u ≡ with_entry t (entry_spelling (f x)) → u ≡ with_entries s (map f (take (i + 1) items))
    entered_more s t u h k =
        k ∙ ap (λ v. with_entry v (entry_spelling (f x))) h ∙ last_entered s (map f (take i items)) (f x)
        ∙ ap (with_entries s) (sym one_more)

    pub each_more : (P : Entry → Type 0) → AllByRecursion P (map f (take i items)) → P (f x)
        → AllByRecursion P (map f (take (i + 1) items))
    each_more P all one = subst (AllByRecursion P) (sym one_more) (all_by_recursion_push P (map f (take i items))
        (f x) all one)

  module _ (over : length items ≤ i) where
    pub entered_all : (s t : State) → t ≡ with_entries s (map f (take i items)) → t ≡ with_entries s (map f items)
    entered_all s t h = h ∙ ap (λ xs. with_entries s (map f xs)) (take_all i items over)

    pub each_all : (P : Entry → Type 0) → AllByRecursion P (map f (take i items)) → AllByRecursion P (map f items)
    each_all P all = subst (λ xs. AllByRecursion P (map f xs)) (take_all i items over) all
