use Rattle.std.proofs.Common.{◌≡◌, length}
use Rattle.route_engine.proofs.ListingLemmas.{AreMarkedAt}
use Rattle.route_engine.proofs.listing.mark_all.Given as goal

abbrev pub invariant-found : goal.invariant-found
invariant-found l = (length l.marks.items ≡ length l.fn.marks.items) × AreMarkedAt l.found l.place l.marks.items
