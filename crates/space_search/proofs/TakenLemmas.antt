-- What taking one label says where it ends.
use Rattle.std.proofs.Common.{◌≡◌, ◌≢◌, ℕ, ◌<◌, ◌≤◌, ◌+◌, ◌^◌, length, ap, refl, arith, sym, subst, Some, ◌-◌, ◌∙◌, List, []}
use Rattle.std.specs.List.{slice_get}
use Rattle.space_search.specs.Books.{Books, IsLabel, IsSettled, IsSearch, IsClosed, HasStepsBelow, KeepsLabels, Leaves}
use Rattle.space_search.specs.Moves.{Takes, Drops, Settles, Advances}
use Rattle.space_search.specs.Rules.{Rules}
use Rattle.space_search.specs.declared.label.Label.{Label}
use Rattle.space_search.specs.declared.take.Taken.TheVariants.{Dropped, Settled, Empty}
use Rattle.space_search.proofs.SameLemmas.{keeps-same}
use Rattle.space_search.proofs.TakeLemmas.{settled-extended}

-- where as many labels as the limit allows aren't settled, fewer are
pub below-limit : (settled read limit : ℕ) → settled ≡ read → read ≢ limit → settled ≤ limit → settled < limit
below-limit settled read limit is other within = omega arith

-- one more place has 32 bits
pub room-below : (settled limit : ℕ) → settled < limit → limit < 2 ^ 32 → settled + 1 < 2 ^ 32
room-below settled limit below small = omega arith

-- one more settled label is within the limit
pub within-more : (after settled limit : ℕ) → after ≤ settled + 1 → settled < limit → after ≤ limit
within-more after settled limit more below = omega arith

-- as many settled labels are within the limit
pub within-same : (after settled limit : ℕ) → after ≡ settled → settled ≤ limit → after ≤ limit
within-same after settled limit same within = omega arith

-- the place of the newest settled label
newest-place : (after settled : ℕ) → after ≡ settled + 1 → settled ≡ after - 1
newest-place after settled more = omega arith

-- what is no more than a smaller number is smaller
less-work : (after between before : ℕ) → after ≤ between → between < before → after < before
less-work after between before no_more less = omega arith

module _ {S : Type 0} (rules : Rules S) (limit : ℕ) (before : Books S) (search : IsSearch rules before) where
  -- nothing waits
  pub takes-empty :
      IsClosed rules before → length before.settled ≤ limit → before.queue ≡ [] → Takes rules limit before before Empty
  takes-empty closed within none =
      record { kept = search; closed = closed; within = within; keeps = λ place label s. s; what = (refl, none) }

  module _ (after : Books S) (drops : Drops rules before after) where
    -- a dropped label takes no place from the settled ones
    keeps-dropped : KeepsLabels before after
    keeps-dropped =
        let same : (n : ℕ) (l : Label S) → IsLabel before n l → IsLabel after n l =
        λ n l h. subst (λ xs. slice_get xs n ≡ Some l) (sym drops.labels) h in
        keeps-same rules before after same search.stands drops.settled

    -- the next label was dropped
    pub takes-dropped : length before.settled ≤ limit → Takes rules limit before after Dropped
    takes-dropped within =
        let same : length after.settled ≡ length before.settled = ap length drops.settled in
        record {
          kept = drops.kept;
          closed = drops.closed;
          within = within-same _ _ limit same within;
          keeps = keeps-dropped;
          what = (same, drops.work);
        }

    -- what that leaves
    pub leaves-dropped : Leaves rules before after
    leaves-dropped = record { stands = drops.kept.stands; keeps = keeps-dropped }

  module _ (between : Books S) (number : ℕ) (label : Label S) (settles : Settles rules before between number label) where
    -- the settled label stands at the last place
    pub now-newest : IsSettled between (length between.settled - 1) label
    now-newest = subst (λ n. IsSettled between n label) (newest-place _ _ settles.counted) settles.now

    -- the steps of those before it are taken care of
    pub steps-newest : HasStepsBelow rules between (length between.settled - 1)
    steps-newest = subst (λ n. HasStepsBelow rules between n) (newest-place _ _ settles.counted) settles.steps

    -- as many settled labels as then are within the limit
    pub within-settled :
        (settled : List ℕ) → length before.settled < limit → settled ≡ between.settled → length settled ≤ limit
    within-settled settled below same = within-more _ _ limit (omega (arith, settles.counted, ap length same)) below

    module _ (after : Books S) where
      -- what is left where the steps of the settled label are offered
      pub leaves-offered : Leaves rules between after → Leaves rules before after
      leaves-offered leaves =
          record { stands = leaves.stands; keeps = λ place old s. leaves.keeps place old (settles.earlier place old s) }

      -- the next label was settled, and its steps were offered
      pub takes-settled : length before.settled < limit → Advances rules between after → Takes rules limit before after Settled
      takes-settled below advances =
          let more : length after.settled ≡ length before.settled + 1 = ap length advances.extends.settled ∙ settles.counted in
          record {
            kept = advances.kept;
            closed = advances.closed;
            within = within-settled after.settled below advances.extends.settled;
            keeps = λ place old s. settled-extended rules between after advances.extends place old (settles.earlier place old s);
            what = (more, less-work _ _ _ advances.work settles.work);
          }
