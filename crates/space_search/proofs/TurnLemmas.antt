-- What a part of a turn says where it comes to an end.
use Rattle.std.proofs.Common.{◌≡◌, ℕ, ◌<◌, ◌≤◌, ◌+◌, length, arith, sym, subst, ◌∙◌}
use Rattle.item_list.specs.declared.turn.Turn.TheVariants.{More, Done}
use Rattle.space_search.specs.Books.{Books, Follows, IsSearch, IsClosed, KeepsLabels, Leaves, work_left}
use Rattle.space_search.specs.Laws.{IsSpace}
use Rattle.space_search.specs.Moves.{Takes, WhatTaken}
use Rattle.space_search.specs.Rules.{Rules}
use Rattle.space_search.specs.Searches.{Turns, held_after}
use Rattle.space_search.specs.declared.outcome.Outcome.TheVariants.{Found, NoWay, Budget}
use Rattle.space_search.specs.declared.take.Taken.{Taken}
use Rattle.space_search.specs.declared.take.Taken.TheVariants.{Dropped, Settled, Goal, Empty, Spent}
use Rattle.space_search.proofs.EndLemmas.{ends-more, ends-no_way, ends-found}
use Rattle.space_search.proofs.SpentLemmas.{ends-spent}

-- before the first label nothing is counted
pub counted-none : (settled : ℕ) → settled ≡ settled + 0
counted-none settled = omega arith

-- nothing is within each quota
pub none-within : (quota : ℕ) → 0 ≤ quota
none-within quota = omega arith

-- one more label is within the quota
pub one-within : (count quota : ℕ) → count < quota → count + 1 ≤ quota
one-within count quota some = omega arith

module _ {S : Type 0} (rules : Rules S) (before between : Books S) (keeps : KeepsLabels before between) where
  -- what the labels taken so far leave
  pub leaves-taken : IsSearch rules between → Leaves rules before between
  leaves-taken search = record { stands = search.stands; keeps = keeps }

  module _ (after : Books S) where
    -- what is left where memory runs out at one more
    pub leaves-more : Leaves rules between after → Leaves rules before after
    leaves-more leaves = record { stands = leaves.stands; keeps = λ place label s. leaves.keeps place label (keeps place label s) }

    module _ (limit : ℕ) (taken : Taken) (takes : Takes rules limit between after taken) where
      -- the settled labels keep their places as one more is taken
      pub keeps-more : KeepsLabels before after
      keeps-more = λ place label s. takes.keeps place label (keeps place label s)

      -- what one more leaves
      pub leaves-last : Leaves rules before after
      leaves-last = record { stands = takes.kept.stands; keeps = keeps-more }

module _ {S : Type 0} (rules : Rules S) (limit : ℕ) (between after : Books S) (taken : Taken)
    (takes : Takes rules limit between after taken) where
  -- a dropped label isn't counted
  pub counted-dropped :
      (settled count : ℕ) → taken ≡ Dropped → length between.settled ≡ settled + count →
      length after.settled ≡ settled + count
  counted-dropped settled count is counted =
      (subst (λ t. WhatTaken rules limit between after t) is takes.what).0 ∙ counted

  -- less is left to do
  pub less-dropped : taken ≡ Dropped → work_left after < work_left between
  less-dropped is = (subst (λ t. WhatTaken rules limit between after t) is takes.what).1

  -- a settled label is counted
  pub counted-settled :
      (settled count : ℕ) → taken ≡ Settled → length between.settled ≡ settled + count →
      length after.settled ≡ settled + (count + 1)
  counted-settled settled count is counted =
      let more : length after.settled ≡ length between.settled + 1 =
      (subst (λ t. WhatTaken rules limit between after t) is takes.what).0 in
      omega (arith, more, counted)

  -- less is left to do
  pub less-settled : taken ≡ Settled → work_left after < work_left between
  less-settled is = (subst (λ t. WhatTaken rules limit between after t) is takes.what).1

module _ {S : Type 0} (rules : Rules S) (laws : IsSpace rules) (limit quota count : ℕ) (before between : Books S)
    (counted : length between.settled ≡ length before.settled + count) where
  -- after as many labels as the turn is given
  pub turns-more :
      IsSearch rules between → IsClosed rules between → count ≡ quota →
      Turns rules quota before (held_after limit between (More tt, 0)) (More tt)
  turns-more search closed full =
      record {
        kept = search;
        closed = closed;
        ends = ends-more rules laws between search closed limit 0;
        goal = tt;
        counts = omega arith;
      }

  module _ (after : Books S) (taken : Taken) (takes : Takes rules limit between after taken) (some : count < quota) where
    -- at a goal
    pub turns-goal :
        (number label : ℕ) → taken ≡ Goal number → label ≡ length after.settled →
        Turns rules quota before (held_after limit after (Done (Found label), number)) (Done (Found label))
    turns-goal number label is numbered =
        let what : WhatTaken rules limit between after (Goal number) = subst (λ t. WhatTaken rules limit between after t) is takes.what in
        record {
          kept = takes.kept;
          closed = takes.closed;
          ends = ends-found rules laws after takes.kept takes.closed limit number label what.1.0 what.1.1 what.1.2 numbered;
          goal = (
            what.1.0,
            what.1.1.there,
            subst (λ n. Follows rules after n what.1.0) (sym numbered) (takes.kept.follows number what.1.0 what.1.1.there),
          );
          counts = omega (arith, what.0);
        }

    -- where nothing waits
    pub turns-empty : taken ≡ Empty → Turns rules quota before (held_after limit after (Done NoWay, 0)) (Done NoWay)
    turns-empty is =
        let what : WhatTaken rules limit between after Empty = subst (λ t. WhatTaken rules limit between after t) is takes.what in
        record {
          kept = takes.kept;
          closed = takes.closed;
          ends = ends-no_way rules laws after takes.kept takes.closed limit 0 what.1;
          goal = tt;
          counts = omega (arith, what.0);
        }

    -- where the limit is spent
    pub turns-spent : taken ≡ Spent → Turns rules quota before (held_after limit after (Done Budget, 0)) (Done Budget)
    turns-spent is =
        let what : WhatTaken rules limit between after Spent = subst (λ t. WhatTaken rules limit between after t) is takes.what in
        record {
          kept = takes.kept;
          closed = takes.closed;
          ends =
              ends-spent rules laws after what.2.0 what.2.1
              (record { search = takes.kept; closed = takes.closed; next = what.2.2; no_goal = what.2.3; uncovered = what.2.4 })
              limit 0 what.1;
          goal = tt;
          counts = omega (arith, what.0);
        }
