use Rattle.std.proofs.Common.{ℕ, ◌≡◌, ◌<◌, List, [], ◌∷◌, ◌++◌, length, ◌∙◌, ap, sym, subst, refl, arith}
use Rattle.item_list.proofs.PageLemmas.{page-read}
use Rattle.link_hierarchy.specs.Rows.{Holds, IsRow}
use Rattle.link_hierarchy.proofs.MergeLemmas.{holds-last, holds-push, row-pushed}
use Rattle.link_hierarchy.proofs.RowLemmas.{put-holds, row-read, rows-counted, widens-one}
use Rattle.link_hierarchy.proofs.rows.widen.Goals as goal

pub returns-then-is_behind-clause-widens : goal.returns-then-is_behind-clause-widens
returns-then-is_behind-clause-widens c =
    let pages = c.args.rows.now.items in
    let counted = rows-counted c.args.nodes c.args.rows.now.items c.requires.lists.counted in
    let inside : c.args.low < length c.args.rows.now.items = omega (arith, counted, c.requires.in_range) in
    let is = row-read pages c.args.low c.index.result.now c.as_slice-row.result.now inside c.index.ensures c.as_slice-row.ensures.value in
    let row : IsRow c.args.low c.args.nodes c.as_slice-row.result.now =
    subst (λ (r : List ℕ). IsRow c.args.low c.args.nodes r) (sym is)
    (c.requires.lists.row c.args.low (omega (arith, c.requires.in_range))) in
    let pushed : c.push.new.self.items ≡ c.as_slice-row.result.now ++ c.args.high ∷ [] =
    c.in_ok-push.ensures.items
    ∙ ap (λ (r : List ℕ). r ++ c.args.high ∷ [])
    (sym (page-read pages c.args.low c.index_mut.result.now inside c.index_mut.ensures.value) ∙ sym is) in
    widens-one c.args.nodes c.args.low pages c.push.new.self inside c.index.result.now c.index.ensures
    (subst (λ (r : List ℕ). IsRow c.args.low c.args.nodes r) (sym pushed)
    (row-pushed c.args.low c.args.nodes c.as_slice-row.result.now c.args.high row c.requires.in_range.0 c.requires.in_range.1
    (c.if-is_behind.ensures.value refl)))
    (λ x h.
    subst (λ (r : List ℕ). Holds r x) (sym pushed)
    (holds-push c.as_slice-row.result.now c.args.high x (subst (λ (r : List ℕ). Holds r x) (sym c.as_slice-row.ensures.value) h)))

pub returns-then-is_behind-clause-holds : goal.returns-then-is_behind-clause-holds
returns-then-is_behind-clause-holds c =
    let pages = c.args.rows.now.items in
    let counted = rows-counted c.args.nodes c.args.rows.now.items c.requires.lists.counted in
    let inside : c.args.low < length c.args.rows.now.items = omega (arith, counted, c.requires.in_range) in
    put-holds c.args.nodes c.args.low pages c.push.new.self inside c.args.high
    (subst (λ (r : List ℕ). Holds r c.args.high) (sym c.in_ok-push.ensures.items) (holds-last _ c.args.high))

pub merged-requires-clause-into : goal.merged-requires-clause-into
merged-requires-clause-into c =
    let pages = c.args.rows.now.items in
    let counted = rows-counted c.args.nodes c.args.rows.now.items c.requires.lists.counted in
    let inside : c.args.low < length c.args.rows.now.items = omega (arith, counted, c.requires.in_range) in
    let is = row-read pages c.args.low c.index.result.now c.as_slice-row.result.now inside c.index.ensures c.as_slice-row.ensures.value in
    subst (λ (r : List ℕ). IsRow c.args.low c.args.nodes r) (sym is)
    (c.requires.lists.row c.args.low (omega (arith, c.requires.in_range)))

pub returns-clause-widens : goal.returns-clause-widens
returns-clause-widens c =
    let pages = c.args.rows.now.items in
    let counted = rows-counted c.args.nodes c.args.rows.now.items c.requires.lists.counted in
    let inside : c.args.low < length c.args.rows.now.items = omega (arith, counted, c.requires.in_range) in
    widens-one c.args.nodes c.args.low pages c.in_ok-made.made inside c.index.result.now c.index.ensures c.in_ok-made.ensures.row
    (λ x h. c.in_ok-made.ensures.keeps x (subst (λ (r : List ℕ). Holds r x) (sym c.as_slice-row.ensures.value) h))

pub returns-clause-holds : goal.returns-clause-holds
returns-clause-holds c =
    let pages = c.args.rows.now.items in
    let counted = rows-counted c.args.nodes c.args.rows.now.items c.requires.lists.counted in
    let inside : c.args.low < length c.args.rows.now.items = omega (arith, counted, c.requires.in_range) in
    put-holds c.args.nodes c.args.low pages c.in_ok-made.made inside c.args.high
    (c.in_ok-made.ensures.takes c.args.high (record { place = 0; within = omega arith; is = refl }) c.requires.in_range.0)
