use Rattle.std.proofs.Common.{◌++◌, codes, sym, ap, ◌∙◌, append_assoc, append-nil}
use Rattle.mls_translang.specs.Layout.{indent}
use Rattle.mls_translang.proofs.LayoutLemmas.{indent-more}
use Rattle.mls_translang.proofs.layout.push_indent.Goals as goal

pub loop-init : goal.loop-init
unfolding indent
loop-init c = sym (append-nil c.args.text.now.items)

pub loop-preserved : goal.loop-preserved
loop-preserved c =
    c.in_ok-push_str.ensures ∙ ap (λ t. t ++ codes "  ") c.loop.invariant
    ∙ append_assoc c.args.text.now.items (indent c.loop.counter) (codes "  ")
    ∙ ap (λ s. c.args.text.now.items ++ s) (sym (indent-more c.loop.counter))
