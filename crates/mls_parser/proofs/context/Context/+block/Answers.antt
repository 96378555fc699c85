use Rattle.std.proofs.Common.{rules, ◌≡◌, List, None, Ok, sym, subst}
use Rattle.mls_tokens.specs.declared.sign.Sign.TheVariants.{RightBrace}
use Rattle.mls_translang.specs.declared.block.Stmt.{Stmt}
use Rattle.mls_parser.specs.Noted.{takes_sign}
use Rattle.mls_parser.specs.ReadBlock.{stmts_at, stmt_at}
use Rattle.mls_parser.proofs.StmtSteps.{up_to, blocks_read, if_read, for_read, StmtsSoFar, stmts_none, stmts_err, stmts_end, stmts_more}
use Rattle.mls_parser.proofs.context.Context.+block.Goals as goal

pub stmts-loop-alloc-init : goal.stmts-loop-alloc-init
stmts-loop-alloc-init t c =
    subst (λ (xs : List Stmt). StmtsSoFar c.args.depth c.args.self.now c.args.count c.args.reader.now xs c.args.count c.args.reader.now) (sym c.new-stmts.ensures.items)
    (stmts_none c.args.depth c.args.self.now c.args.count c.args.reader.now c.requires.few)

pub stmts-returns-in_err-next-clause-exact : goal.stmts-returns-in_err-next-clause-exact
stmts-returns-in_err-next-clause-exact t c =
    let off : takes_sign RightBrace c.loop-alloc.reader ≡ None = search rules in
    let err = stmts_err c.args.depth c.args.self.now c.args.count c.args.reader.now c.loop-alloc.stmts.items c.loop-alloc.count c.loop-alloc.reader c.loop-alloc.invariant off in
    search (rules, err)

pub stmts-returns-clause-exact : goal.stmts-returns-clause-exact
stmts-returns-clause-exact t c =
    let stop = stmts_end c.args.depth c.args.self.now c.args.count c.args.reader.now c.loop-alloc.stmts.items c.loop-alloc.count c.loop-alloc.reader c.loop-alloc.invariant in
    search (rules, stop)

pub stmts-loop-alloc-preserved : goal.stmts-loop-alloc-preserved
stmts-loop-alloc-preserved t c =
    let off : takes_sign RightBrace c.loop-alloc.reader ≡ None = search rules in
    let is : stmt_at c.args.depth c.args.self.now c.loop-alloc.count c.loop-alloc.reader
    ≡ Ok ((c.in_ok-next.next, c.in_ok-next.so_far), c.stmt.new.reader) = search rules in
    subst (λ (xs : List Stmt). StmtsSoFar c.args.depth c.args.self.now c.args.count c.args.reader.now xs c.in_ok-next.so_far c.stmt.new.reader) (sym c.in_ok-push.ensures.items)
    (stmts_more c.args.depth c.args.self.now c.args.count c.args.reader.now c.loop-alloc.stmts.items c.loop-alloc.count c.loop-alloc.reader c.loop-alloc.invariant off
    c.in_ok-next.next c.in_ok-next.so_far c.stmt.new.reader is c.in_ok-next.ensures.counted.0 c.in_ok-next.ensures.counted.1)

-- ---- statements with blocks inside

pub blocks-returns : goal.blocks-returns
blocks-returns t c = record {
  exact = blocks_read (stmts_at c.args.depth) c.args.self.now c.args.count c.args.reader.now c.braced.new.reader c.other.new.reader
      c.in_ok-one.one c.in_ok-other.other c.in_ok-one.count c.in_ok-other.count c.in_ok-one.ensures.exact c.in_ok-other.ensures.exact;
  counted = (up_to c.args.count c.in_ok-one.count c.in_ok-other.count c.in_ok-one.ensures.counted.0 c.in_ok-other.ensures.counted.0, c.in_ok-other.ensures.counted.1);
}

pub if_stmt-returns : goal.if_stmt-returns
if_stmt-returns t c = record {
  exact = if_read (stmts_at c.args.depth) c.args.self.now c.args.count c.args.reader.now c.guard.new.reader c.blocks-2.new.reader
      c.in_ok-guard.guard c.in_ok-one.one c.in_ok-one.other c.in_ok-one.count c.in_ok-guard.ensures c.in_ok-one.ensures.exact;
  counted = c.in_ok-one.ensures.counted;
}

pub for_stmt-returns : goal.for_stmt-returns
for_stmt-returns t c = record {
  exact = for_read (stmts_at c.args.depth) c.args.self.now c.args.count c.args.reader.now c.loop_head.new.reader c.body_of.new.reader
      c.in_ok-row.row c.in_ok-row.relation c.in_ok-row.label c.in_ok-body.body c.in_ok-body.count c.in_ok-row.ensures.exact c.in_ok-body.ensures.exact;
  counted = c.in_ok-body.ensures.counted;
}
