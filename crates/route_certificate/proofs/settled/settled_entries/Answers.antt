use Rattle.std.proofs.Common.{◌≡◌, ◌∙◌, ℕ, suc, ◌+◌, ◌<◌, length, take, subst, arith}
use Rattle.bike_space.specs.Settled.{entries_of}
use Rattle.space_search.specs.View.{listed, view}
use Rattle.route_certificate.specs.Entries.{labels_of}
use Rattle.item_list.proofs.ListLemmas.{slice_get-append, slice_get-there}
use Rattle.route_certificate.proofs.SettledLemmas.{settled-more}
use Rattle.route_certificate.proofs.settled.settled_entries.Goals as goal

pub labels-preserved : goal.labels-preserved
labels-preserved c =
    let settled = (view c.args.search.now).settled in
    let below : c.labels.label < length settled = omega (arith, c.labels-test.true, c.labels-count.ensures.value) in
    let s = slice_get-there settled c.labels.label below in
    let shown = slice_get-append settled (listed (view c.args.search.now).goal) c.labels.label s.0 s.1 in
    let one_more : suc c.labels.label ≡ c.labels.label + 1 = omega arith in
    subst (λ (n : ℕ). labels_of c.push.new.self.items ≡ entries_of (take n settled)) one_more
    (settled-more settled c.labels.label s.0 c.labels.entries.items _ c.entry_of.result c.labels.invariant s.1
    (c.entry_of.ensures.state ∙ c.state_of.ensures.exact s.0 shown)
    (c.entry_of.ensures.cost ∙ c.cost_of.ensures.exact s.0 shown)
    c.in_ok-push.ensures.items)
