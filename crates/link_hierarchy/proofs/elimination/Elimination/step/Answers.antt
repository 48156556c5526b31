use Rattle.std.proofs.Common.{subst, arith, List, ℕ}
use Rattle.item_list.specs.Pages.{numbers_of}
use Rattle.link_hierarchy.specs.Rows.{IsItem, row_at}
use Rattle.link_hierarchy.proofs.EliminationLemmas.{head-above, head-done, head-fewer, tail-above, tail-done, tail-fewer}
use Rattle.link_hierarchy.proofs.RowLemmas.{row-read, rows-counted}
use Rattle.link_hierarchy.proofs.elimination.Elimination.step.Goals as goal

pub raise_one-requires-clause-in_range : goal.raise_one-requires-clause-in_range
raise_one-requires-clause-in_range c =
    let counted = rows-counted c.args.self.now.rows.nodes c.args.self.now.rows.ins.items c.requires.on.in_lists.counted in
    let row =
    row-read c.args.self.now.rows.ins.items c.args.self.now.node c.index.result.now c.as_slice.result.now
    (omega (arith, counted, c.requires.more)) c.index.ensures c.as_slice.ensures.value in
    let item : IsItem (row_at (numbers_of c.args.self.now.rows.ins.items) c.args.self.now.node) c.args.self.now.tails_done c.item-tail.result =
    subst (λ (r : List ℕ). IsItem r c.args.self.now.tails_done c.item-tail.result) row c.item-tail.ensures.value in
    tail-above c.args._arcs.now c.args.self.now c.requires.on c.requires.more c.item-tail.result item c.if-tail-lt-BEHIND.true

pub returns-then-tail-self-clause-on : goal.returns-then-tail-self-clause-on
returns-then-tail-self-clause-on c =
    let counted = rows-counted c.args.self.now.rows.nodes c.args.self.now.rows.ins.items c.requires.on.in_lists.counted in
    let row =
    row-read c.args.self.now.rows.ins.items c.args.self.now.node c.index.result.now c.as_slice.result.now
    (omega (arith, counted, c.requires.more)) c.index.ensures c.as_slice.ensures.value in
    let item : IsItem (row_at (numbers_of c.args.self.now.rows.ins.items) c.args.self.now.node) c.args.self.now.tails_done c.item-tail.result =
    subst (λ (r : List ℕ). IsItem r c.args.self.now.tails_done c.item-tail.result) row c.item-tail.ensures.value in
    tail-done c.args._arcs.now c.args.self.now c.requires.on c.requires.more c.raise_one.new.rows c.item-tail.result item
    c.if-tail-lt-BEHIND.true c.in_ok-raise_one.ensures.widens c.in_ok-raise_one.ensures.takes

pub returns-then-tail-self-clause-fewer : goal.returns-then-tail-self-clause-fewer
returns-then-tail-self-clause-fewer c =
    let counted = rows-counted c.args.self.now.rows.nodes c.args.self.now.rows.ins.items c.requires.on.in_lists.counted in
    let row =
    row-read c.args.self.now.rows.ins.items c.args.self.now.node c.index.result.now c.as_slice.result.now
    (omega (arith, counted, c.requires.more)) c.index.ensures c.as_slice.ensures.value in
    let item : IsItem (row_at (numbers_of c.args.self.now.rows.ins.items) c.args.self.now.node) c.args.self.now.tails_done c.item-tail.result =
    subst (λ (r : List ℕ). IsItem r c.args.self.now.tails_done c.item-tail.result) row c.item-tail.ensures.value in
    tail-fewer c.args._arcs.now c.args.self.now c.requires.on c.requires.more c.item-tail.result item c.if-tail-lt-BEHIND.true

pub raise_one-requires-then-head-self-clause-in_range : goal.raise_one-requires-then-head-self-clause-in_range
raise_one-requires-then-head-self-clause-in_range c =
    let counted = rows-counted c.args.self.now.rows.nodes c.args.self.now.rows.outs.items c.requires.on.out_lists.counted in
    let row =
    row-read c.args.self.now.rows.outs.items c.args.self.now.node c.index-2.result.now c.as_slice-2.result.now
    (omega (arith, counted, c.requires.more)) c.index-2.ensures c.as_slice-2.ensures.value in
    let item : IsItem (row_at (numbers_of c.args.self.now.rows.outs.items) c.args.self.now.node) c.args.self.now.heads_done c.item-head.result =
    subst (λ (r : List ℕ). IsItem r c.args.self.now.heads_done c.item-head.result) row c.item-head.ensures.value in
    head-above c.args._arcs.now c.args.self.now c.requires.on c.requires.more c.item-head.result item c.if-head-lt-BEHIND.true

pub returns-then-head-self-clause-on : goal.returns-then-head-self-clause-on
returns-then-head-self-clause-on c =
    let counted = rows-counted c.args.self.now.rows.nodes c.args.self.now.rows.outs.items c.requires.on.out_lists.counted in
    let row =
    row-read c.args.self.now.rows.outs.items c.args.self.now.node c.index-2.result.now c.as_slice-2.result.now
    (omega (arith, counted, c.requires.more)) c.index-2.ensures c.as_slice-2.ensures.value in
    let item : IsItem (row_at (numbers_of c.args.self.now.rows.outs.items) c.args.self.now.node) c.args.self.now.heads_done c.item-head.result =
    subst (λ (r : List ℕ). IsItem r c.args.self.now.heads_done c.item-head.result) row c.item-head.ensures.value in
    head-done c.args._arcs.now c.args.self.now c.requires.on c.requires.more c.raise_one-then-head-self.new.rows c.item-head.result item
    c.if-head-lt-BEHIND.true c.in_ok-raise_one-2.ensures.widens c.in_ok-raise_one-2.ensures.takes

pub returns-then-head-self-clause-fewer : goal.returns-then-head-self-clause-fewer
returns-then-head-self-clause-fewer c =
    let counted = rows-counted c.args.self.now.rows.nodes c.args.self.now.rows.outs.items c.requires.on.out_lists.counted in
    let row =
    row-read c.args.self.now.rows.outs.items c.args.self.now.node c.index-2.result.now c.as_slice-2.result.now
    (omega (arith, counted, c.requires.more)) c.index-2.ensures c.as_slice-2.ensures.value in
    let item : IsItem (row_at (numbers_of c.args.self.now.rows.outs.items) c.args.self.now.node) c.args.self.now.heads_done c.item-head.result =
    subst (λ (r : List ℕ). IsItem r c.args.self.now.heads_done c.item-head.result) row c.item-head.ensures.value in
    head-fewer c.args._arcs.now c.args.self.now c.requires.on c.requires.more c.item-head.result item c.if-head-lt-BEHIND.true
