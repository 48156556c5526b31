use Rattle.std.proofs.Common.{refl, ℕ, ◌<◌, List, length, sym, subst, arith}
use Rattle.link_hierarchy.specs.Rows.{AreAscending, Holds, IsRow, IsSorted}
use Rattle.item_list.specs.Pages.{numbers_of}
use Rattle.link_hierarchy.proofs.RowLemmas.{put-holds, row-read, row-sorted, rows-counted, widens-none, widens-one}
use Rattle.link_hierarchy.proofs.rows.raise_one.Goals as goal

pub holds_all-requires-clause-into : goal.holds_all-requires-clause-into
holds_all-requires-clause-into c =
    let pages = c.args.rows.now.items in
    let counted = rows-counted c.args.nodes c.args.rows.now.items c.requires.lists.counted in
    let inside : c.args.high < length c.args.rows.now.items = omega (arith, counted, c.requires.in_range) in
    let is = row-read pages c.args.high c.index.result.now c.as_slice-into.result.now inside c.index.ensures c.as_slice-into.ensures.value in
    subst (λ (r : List ℕ). AreAscending r) (sym is) (c.requires.lists.row c.args.high c.requires.in_range.1).sorted

pub holds_all-requires-clause-from : goal.holds_all-requires-clause-from
holds_all-requires-clause-from c =
    let pages = c.args.rows.now.items in
    let counted = rows-counted c.args.nodes c.args.rows.now.items c.requires.lists.counted in
    let inside : c.args.node < length c.args.rows.now.items = omega (arith, counted, c.requires.in_range) in
    let is = row-read pages c.args.node c.index-2.result.now c.as_slice-from.result.now inside c.index-2.ensures c.as_slice-from.ensures.value in
    subst (λ (r : List ℕ). AreAscending r) (sym is)
    (c.requires.lists.row c.args.node (omega (arith, c.requires.in_range))).sorted

pub returns-then-holds_all-clause-widens : goal.returns-then-holds_all-clause-widens
returns-then-holds_all-clause-widens c =
    widens-none c.args.nodes c.args.high (numbers_of c.args.rows.now.items) c.requires.lists c.requires.in_range.1

pub returns-then-holds_all-clause-takes : goal.returns-then-holds_all-clause-takes
returns-then-holds_all-clause-takes c y h above =
    let pages = c.args.rows.now.items in
    let counted = rows-counted c.args.nodes c.args.rows.now.items c.requires.lists.counted in
    let inside : c.args.high < length c.args.rows.now.items = omega (arith, counted, c.requires.in_range) in
    let inside_too : c.args.node < length c.args.rows.now.items = omega (arith, counted, c.requires.in_range) in
    let into = row-read pages c.args.high c.index.result.now c.as_slice-into.result.now inside c.index.ensures c.as_slice-into.ensures.value in
    let from = row-read pages c.args.node c.index-2.result.now c.as_slice-from.result.now inside_too c.index-2.ensures c.as_slice-from.ensures.value in
    subst (λ (r : List ℕ). Holds r y) into
    (c.if-holds_all.ensures.sound refl y (subst (λ (r : List ℕ). Holds r y) (sym from) h) above)

pub merged-requires-clause-into : goal.merged-requires-clause-into
merged-requires-clause-into c =
    let pages = c.args.rows.now.items in
    let counted = rows-counted c.args.nodes c.args.rows.now.items c.requires.lists.counted in
    let inside : c.args.high < length c.args.rows.now.items = omega (arith, counted, c.requires.in_range) in
    let is = row-read pages c.args.high c.index.result.now c.as_slice-into.result.now inside c.index.ensures c.as_slice-into.ensures.value in
    subst (λ (r : List ℕ). IsRow c.args.high c.args.nodes r) (sym is) (c.requires.lists.row c.args.high c.requires.in_range.1)

pub merged-requires-clause-from : goal.merged-requires-clause-from
merged-requires-clause-from c =
    let pages = c.args.rows.now.items in
    let counted = rows-counted c.args.nodes c.args.rows.now.items c.requires.lists.counted in
    let inside : c.args.node < length c.args.rows.now.items = omega (arith, counted, c.requires.in_range) in
    let is = row-read pages c.args.node c.index-2.result.now c.as_slice-from.result.now inside c.index-2.ensures c.as_slice-from.ensures.value in
    subst (λ (r : List ℕ). IsSorted c.args.nodes r) (sym is)
    (row-sorted c.args.node c.args.nodes _ (c.requires.lists.row c.args.node (omega (arith, c.requires.in_range))))

pub returns-clause-widens : goal.returns-clause-widens
returns-clause-widens c =
    let pages = c.args.rows.now.items in
    let counted = rows-counted c.args.nodes c.args.rows.now.items c.requires.lists.counted in
    let inside : c.args.high < length c.args.rows.now.items = omega (arith, counted, c.requires.in_range) in
    widens-one c.args.nodes c.args.high pages c.in_ok-made.made inside c.index.result.now c.index.ensures c.in_ok-made.ensures.row
    (λ x h. c.in_ok-made.ensures.keeps x (subst (λ (r : List ℕ). Holds r x) (sym c.as_slice-into.ensures.value) h))

pub returns-clause-takes : goal.returns-clause-takes
returns-clause-takes c y h above =
    let pages = c.args.rows.now.items in
    let counted = rows-counted c.args.nodes c.args.rows.now.items c.requires.lists.counted in
    let inside : c.args.high < length c.args.rows.now.items = omega (arith, counted, c.requires.in_range) in
    let inside_too : c.args.node < length c.args.rows.now.items = omega (arith, counted, c.requires.in_range) in
    let is = row-read pages c.args.node c.index-2.result.now c.as_slice-from.result.now inside_too c.index-2.ensures c.as_slice-from.ensures.value in
    put-holds c.args.nodes c.args.high pages c.in_ok-made.made inside y
    (c.in_ok-made.ensures.takes y (subst (λ (r : List ℕ). Holds r y) (sym is) h) above)
