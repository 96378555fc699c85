use Rattle.std.proofs.Common.{◌≡◌, ◌∷◌, ◌++◌, List, map, sym, ap, ◌∙◌, append-nil, filter, flat_map}
use Rattle.std.proofs.lemmas.List.{map-append}
use Rattle.std.proofs.lemmas.List.Concat.{flat_map-append}
use Rattle.mls_filterview.specs.Fragment.{node_of, cells_of, is_of_any}
use Rattle.mls_filterview.proofs.EntryLemmas.{Entry}
use Rattle.mls_filterview.proofs.MapLemmas.{parts_more, fragment_is}
use Rattle.mls_filterview.proofs.tuple_map.fragment_of.Goals as goal

pub loop-place-preserved : goal.loop-place-preserved
loop-place-preserved c =
    let e : Entry = (c.in-Some.place.now, c.deref.result.now) in
    let rest : List Entry = c.next.new.self in
    let all : List Entry = c.loop-place.place-iterator in
    let here : all ≡ e ∷ rest = c.in-Some.ensures.steps ∙ ap (λ es. (c.in-Some.place.now, es) ∷ rest)
    (sym c.deref.ensures) in
    let p = is_of_any c.args.labels.now in
    record {
      nodes = parts_more (map node_of) (map-append node_of) p c.loop-place.nodes.items c.add_parts_of.new.nodes.items e rest all c.in_ok-add_parts_of.ensures.nodes here ∙ c.loop-place.invariant.nodes;
      cells = parts_more (flat_map cells_of) (flat_map-append cells_of) p c.loop-place.cells.items c.add_parts_of.new.cells.items e rest all c.in_ok-add_parts_of.ensures.cells here ∙ c.loop-place.invariant.cells;
    }

pub returns : goal.returns
returns c =
    let none = c.in-None.ensures.steps.0 in
    let p = is_of_any c.args.labels.now in
    let nodes = c.loop-place.nodes.items in
    let cells = c.loop-place.cells.items in
    fragment_is c.args.tuples.now.entries c.iter-place-items.ensures.ordered c.args.labels.now _
    (c.from.ensures ∙ sym (append-nil nodes) ∙ ap (λ es. nodes ++ map node_of (filter p es)) (sym none)
    ∙ c.loop-place.invariant.nodes)
    (c.from-2.ensures ∙ sym (append-nil cells) ∙ ap (λ es. cells ++ flat_map cells_of (filter p es)) (sym none)
    ∙ c.loop-place.invariant.cells)
