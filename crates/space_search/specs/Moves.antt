-- What the parts of a turn do to a search's lists. This project's own rule.
use Rattle.std.specs.List.{slice_get, Contains}
use Rattle.std.specs.Bool.{IsTrue}
use Rattle.std.specs.Prelude.{ℕ, ◌≡◌, ◌<◌, ◌≤◌, ◌+◌, false, Some, [], length}
use Rattle.space_search.specs.Books.{Books, IsLabel, IsSettled, IsAccounted, HasStarts, HasStepsBelow, IsUncovered, IsSearch, IsClosed, Extends, KeepsLabels, work_left}
use Rattle.space_search.specs.Queues.{Entry}
use Rattle.space_search.specs.Laws.{HasRank}
use Rattle.space_search.specs.Rules.{Rules}
use Rattle.space_search.specs.declared.label.Label.{Label}
use Rattle.space_search.specs.declared.take.Taken.{Taken}
use Rattle.space_search.specs.declared.take.Taken.TheVariants.{Dropped, Settled, Goal, Empty, Spent}

-- a label was offered: it is taken care of, and all that was there still is
pub record Offers {S : Type 0} (rules : Rules S) (before after : Books S) (label : Label S) : Type 0 where
  pub kept : IsSearch rules after
  pub accounted : IsAccounted rules after label.state label.cost
  pub extends : Extends before after
  pub work : work_left after ≤ work_left before

-- a search at its beginning: all starts were offered, and nothing is settled
pub record Begins {S : Type 0} (rules : Rules S) (after : Books S) : Type 0 where
  pub kept : IsSearch rules after
  pub closed : IsClosed rules after
  pub none : length after.settled ≡ 0

-- this label is the next to take: it stands first in the queue, and nothing that waits ranks below it
pub record IsNext {S : Type 0} (rules : Rules S) (kept : Books S) (number : ℕ) (label : Label S)
    : Type 0 where
  pub there : IsLabel kept number label
  pub rank : ℕ
  pub ranked : HasRank rules label.state label.cost rank
  pub first : slice_get kept.queue 0 ≡ Some (record { 0 = (rank, number) })
  pub least : (entry : Entry) → Contains kept.queue entry → rank ≤ entry.0.0

-- the next label left the queue because a settled label covers it
pub record Drops {S : Type 0} (rules : Rules S) (before after : Books S) : Type 0 where
  pub kept : IsSearch rules after
  pub closed : IsClosed rules after
  pub labels : after.labels ≡ before.labels
  pub settled : after.settled ≡ before.settled
  pub work : work_left after < work_left before

-- the next label was settled, and its steps are still to be offered
pub record Settles {S : Type 0} (rules : Rules S) (before after : Books S) (number : ℕ)
    (label : Label S) : Type 0 where
  pub kept : IsSearch rules after
  pub starts : HasStarts rules after rules.starts
  pub steps : HasStepsBelow rules after (length before.settled)
  pub now : IsSettled after (length before.settled) label
  pub earlier : (place : ℕ) (old : Label S) → IsSettled before place old → IsSettled after place old
  pub counted : length after.settled ≡ length before.settled + 1
  pub work : work_left after < work_left before

-- all steps of the newest settled label were offered
pub record Advances {S : Type 0} (rules : Rules S) (before after : Books S) : Type 0 where
  pub kept : IsSearch rules after
  pub closed : IsClosed rules after
  pub extends : Extends before after
  pub work : work_left after ≤ work_left before

-- what was done with the next label: it was dropped or settled; or it is a goal, or the limit doesn't let
-- it be settled, or nothing waits, and then the queue still has it
abbrev pub WhatTaken : {S : Type 0} → Rules S → ℕ → Books S → Books S → Taken → Type 0
WhatTaken rules limit before after Dropped =
    (length after.settled ≡ length before.settled) × (work_left after < work_left before)
WhatTaken rules limit before after Settled =
    (length after.settled ≡ length before.settled + 1) × (work_left after < work_left before)
WhatTaken {S} rules limit before after (Goal number) =
    (length after.settled ≡ length before.settled) ×
    ((label : Label S) × IsNext rules after number label × IsTrue (rules.is_goal label.state))
WhatTaken rules limit before after Empty = (length after.settled ≡ length before.settled) × (after.queue ≡ [])
WhatTaken {S} rules limit before after Spent =
    (length after.settled ≡ length before.settled) × (length after.settled ≡ limit) ×
    ((number : ℕ) × (label : Label S) × IsNext rules after number label ×
    (rules.is_goal label.state ≡ false) ×
    IsUncovered rules after label.state label.cost)

-- the next label was looked at
pub record Takes {S : Type 0} (rules : Rules S) (limit : ℕ) (before after : Books S) (taken : Taken)
    : Type 0 where
  pub kept : IsSearch rules after
  pub closed : IsClosed rules after
  pub within : length after.settled ≤ limit
  pub keeps : KeepsLabels before after
  pub what : WhatTaken rules limit before after taken
